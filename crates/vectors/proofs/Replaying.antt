-- Laws on the kinds of lines: what is answered to a line of each kind, and to one of none. Assumes nothing.
use mathlib.Core.Path.{◌≡◌, ap}
use mathlib.Core.Bool.{true, false}
use mathlib.Core.List.{List}
use Prim.Native.Nat.{ℕ}
use borrow.Author.Tests.{ne_eqb}
use Rattle.vector_lines.specs.Numbers.{nowhere}
use Rattle.verdicts.specs.Lines.{first_of, answer}
use Rattle.vector_rooms.specs.declared.Room.{Room}
use Rattle.vector_rooms.specs.declared.Lists.{Lists}
use Rattle.vector_rooms.specs.declared.Memory.{Memory}
use Rattle.vector_rooms.specs.declared.Rooms.{Rooms}
use Rattle.vector_rooms.specs.Rooms.{Placed, placed}
use Rattle.vector_cases.specs.Cases.{name_at, narrowing_at, composition_at, card_at}
use Rattle.vector_jobs.specs.Jobs.{Jobbed, jobbed, job_at}
use Rattle.vectors.specs.Replay.{after_narrowing, after_composition, after_job, replayed_at}

-- k is what the lines before have kept
module _ (line : List ℕ) (k : Rooms) (b : ℕ) (is : b ≡ first_of line) where
  pub a_name : {r : ℕ} → b ≡ 70 → r ≡ name_at line → answer r k ≡ replayed_at line k
  unfolding replayed_at
  a_name e n = rw (← is, e, n)

  pub to_words : {r : ℕ} {input : Room ℕ 256} → b ≡ 78 → placed r input ≡ narrowing_at false line k.input
      → after_narrowing k (placed r input) ≡ replayed_at line k
  unfolding replayed_at
  to_words e x = rw (← is, e) (ap (λ (p : Placed (Room ℕ 256)). after_narrowing k p) x)

  pub to_bytes : {r : ℕ} {input : Room ℕ 256} → b ≡ 66 → placed r input ≡ narrowing_at true line k.input
      → after_narrowing k (placed r input) ≡ replayed_at line k
  unfolding replayed_at
  to_bytes e x = rw (← is, e) (ap (λ (p : Placed (Room ℕ 256)). after_narrowing k p) x)

  pub a_composition : {r : ℕ} {lists : Lists} → b ≡ 67 → placed r lists ≡ composition_at line k.lists
      → after_composition k (placed r lists) ≡ replayed_at line k
  unfolding replayed_at
  a_composition e x = rw (← is, e) (ap (λ (p : Placed Lists). after_composition k p) x)

  pub a_job : {r : ℕ} {lists : Lists} {memory : Memory} → b ≡ 74 → jobbed lists (placed r memory) ≡ job_at line k.lists k.memory
      → after_job k (jobbed lists (placed r memory)) ≡ replayed_at line k
  unfolding replayed_at
  a_job e x = rw (← is, e) (ap (λ (j : Jobbed). after_job k j) x)

  pub a_card : {r : ℕ} → b ≡ 82 → r ≡ card_at line → answer r k ≡ replayed_at line k
  unfolding replayed_at
  a_card e n = rw (← is, e, n)

  pub no_kind : (b ≡ 70 → ⊥) → (b ≡ 78 → ⊥) → (b ≡ 66 → ⊥) → (b ≡ 67 → ⊥) → (b ≡ 74 → ⊥) → (b ≡ 82 → ⊥) → answer nowhere k ≡ replayed_at line k
  unfolding replayed_at
  no_kind f n t c j r = rw (← is, ne_eqb b 70 f, ne_eqb b 78 n, ne_eqb b 66 t, ne_eqb b 67 c, ne_eqb b 74 j, ne_eqb b 82 r)
