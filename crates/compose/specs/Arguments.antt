-- A layer's arguments as its operator reads them: `arg` (composite.rs 521 to 527), the raw reading of `Mathematics` (composite.rs 1025 to 1028), and what each
-- operator asks for, with its default. Document 01: "`arg` puts its default for a missing or non-finite value. Mathematics reads raw arguments, a
-- missing one as 0." Definitions only.
use Rattle.std.specs.Prelude.{cond, ◌&&◌, ℕ, ltb, get_or, Float}
use Rattle.float_steps.specs.Notation.{◌⊖◌, ◌⊗◌, ◌⊘◌, f0, f1}
use Rattle.float_steps.specs.Literals.{f20, f50, f100, twentieth}
use Rattle.float_steps.specs.Order.{finite_of}
use Rattle.float_steps.specs.Words.{value_of}
use Rattle.operators.specs.Operators.{same_op, is_map}
use Rattle.operators.specs.declared.CompositeOp.{CompositeOp}
use Rattle.operators.specs.declared.CompositeOp.TheVariants as O
use Rattle.layers.specs.declared.Args.{Args}
use Rattle.pixels.specs.declared.Params.{Params}
use Rattle.pixels.specs.Pixel.{unused}

-- argument i, as a value
abbrev pub value_at : Args → ℕ → Float
value_at args i = value_of (get_or args.words i 0)

-- argument i of so many, with the value v: the default where it is missing or not finite
unfoldable pub arg_by : ℕ → ℕ → Float → Float → Float
arg_by count i v default = cond (ltb i count && finite_of v) v default

-- `arg`
abbrev pub arg_or : Args → ℕ → Float → Float
arg_or args i default = arg_by args.count i (value_at args i) default

-- as Mathematics reads it: a missing one is 0
unfoldable pub raw_by : ℕ → ℕ → Float → Float
raw_by count i v = cond (ltb i count) v f0

abbrev pub raw_arg : Args → ℕ → Float
raw_arg args i = raw_by args.count i (value_at args i)

abbrev pub pair : Float → Float → Params
pair a b = record { a = a; b = b; c = f0; d = f0 }

-- ---- what an operator asks for

-- `Blend` (composite.rs 707 to 716): 50 %, and what a leaves of 100 %
abbrev pub blend_params : Args → Params
blend_params args =
    let a = arg_or args 0 f50 ⊘ f100 in pair a (arg_or args 1 (f100 ⊖ a ⊗ f100) ⊘ f100)

-- `Dissolve` (composite.rs 717 to 724): 50 % and 100 %
abbrev pub dissolve_params : Args → Params
dissolve_params args = pair (arg_or args 0 f50 ⊘ f100) (arg_or args 1 f100 ⊘ f100)

-- `ChangeMask` (composite.rs 778 to 782): the fuzz, 0
abbrev pub mask_params : Args → Params
mask_params args = pair (arg_or args 0 f0) f0

-- `Threshold` (composite.rs 787 to 798): 0.05 and 1
abbrev pub threshold_params : Args → Params
threshold_params args = pair (arg_or args 0 twentieth) (arg_or args 1 f1)

-- `Modulate` (composite.rs 799 to 811): 100 % twice
abbrev pub modulate_params : Args → Params
modulate_params args = pair (arg_or args 0 f100 ⊘ f100) (arg_or args 1 f100 ⊘ f100)

-- the maps, `MapContext::new` (composite.rs 1147 to 1152): X, 20, and Y, which is X unless it is given. Blur, whose X is
-- another, is refused and never gets here.
abbrev pub map_params : Args → Params
map_params args = let x = arg_or args 0 f20 in pair x (arg_or args 1 x)

-- `Mathematics` (composite.rs 1025 to 1028)
abbrev pub raw_params : Args → Params
raw_params args = record { a = raw_arg args 0; b = raw_arg args 1; c = raw_arg args 2; d = raw_arg args 3 }

unfoldable pub params_of : CompositeOp → Args → Params
params_of op args =
    cond (same_op op O.Blend) (blend_params args)
    (cond (same_op op O.Dissolve) (dissolve_params args)
    (cond (same_op op O.ChangeMask) (mask_params args)
    (cond (same_op op O.Threshold) (threshold_params args)
    (cond (same_op op O.Modulate) (modulate_params args)
    (cond (same_op op O.Mathematics) (raw_params args)
    (cond (is_map op) (map_params args)
    unused))))))
