-- What the exported calls answer, where a host's form of an answer differs from the library's. Definitions only.
use Rattle.std.specs.Prelude.{cond, ℕ, Option, Some, None}
use Rattle.faults.specs.Faults.{NONE, OPERATOR}
use Rattle.job.specs.Memory.{Mem}
use Rattle.job.specs.Call.{Outcome}

-- the number that is answered and the operator that the caller then has
pub record NameAnswer : Type 0 where
  pub number : ℕ
  pub operator : ℕ

abbrev pub named : ℕ → ℕ → NameAnswer
named number operator = record { number = number; operator = operator }

-- document 01: a refused name answers OPERATOR and no operator: the caller's is as it was before
abbrev pub name_of : Option ℕ → ℕ → NameAnswer
name_of (Some n) before = named NONE n
name_of None before = named OPERATOR before

-- the job's memory after a call, and its answer as four numbers: finished is 1 for yes and 0 for no
pub record HostOutcome : Type 0 where
  pub mem : Mem
  pub number : ℕ
  pub layer : ℕ
  pub stores : ℕ
  pub finished : ℕ

abbrev pub host_outcome : Mem → (number layer stores finished : ℕ) → HostOutcome
host_outcome mem number layer stores finished = record { mem = mem; number = number; layer = layer; stores = stores; finished = finished }

abbrev pub job_outcome : Outcome → HostOutcome
job_outcome o = let a = o.answer in host_outcome o.mem a.number a.layer a.stores (cond a.finished 1 0)
