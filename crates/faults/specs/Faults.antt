-- The numbers of the faults, each once: document 01's table, "Why a job is turned down", under its words, and those of document 02. Numbers has the number of
-- each variant of the type `Fault`.
use Rattle.std.specs.Prelude.{ℕ}

-- no fault: the number is 0 when accepted
abbrev pub NONE : ℕ
NONE = 0

-- the count of layers, or the length of the layer table or of the arguments
abbrev pub STACK : ℕ
STACK = 1

-- the destination's sides, channels or samples
abbrev pub TRAY : ℕ
TRAY = 2

-- an operator's number, or a name
abbrev pub OPERATOR : ℕ
OPERATOR = 3

-- an operator that is not carried
abbrev pub CURVE : ℕ
CURVE = 4

-- a gravity or an offset
abbrev pub PLACING : ℕ
PLACING = 5

abbrev pub FLAGS : ℕ
FLAGS = 6

-- a source's start, sides or channels, or its end
abbrev pub SOURCE : ℕ
SOURCE = 7

-- the count of a layer's arguments
abbrev pub ARGUMENTS : ℕ
ARGUMENTS = 8

-- the length of a work buffer, or of the output of a single composition
abbrev pub WORK : ℕ
WORK = 9

-- the checkpoint's length or position
abbrev pub MARK : ℕ
MARK = 10

-- the channels wanted in narrowing, or the length of its input or output
abbrev pub NARROW : ℕ
NARROW = 11

-- document 02: the length of a list that a card is read into, or a line of the card
abbrev pub CARD : ℕ
CARD = 12

-- document 02: a number of a layer's window
abbrev pub WINDOW : ℕ
WINDOW = 13

-- document 02: the checkpoint's job number is not the call's
abbrev pub JOB_NUMBER : ℕ
JOB_NUMBER = 14

-- document 02: the place of a spot, or more map layers than a spot is worked out through
abbrev pub SPOT : ℕ
SPOT = 15
