-- The lines of a text, one after the other: what each asks with the lists as the lines before it left them, and where its answer ends. Definitions only.
use Rattle.std.specs.Prelude.{true, false, cond, List, ℕ, eqb}
use Rattle.vector_lines.specs.Numbers.{nowhere}
use Rattle.verdicts.specs.Lines.{first_of, Answered, answer}
use Rattle.vector_rooms.specs.declared.Room.{Room}
use Rattle.vector_rooms.specs.declared.Lists.{Lists}
use Rattle.vector_rooms.specs.declared.Rooms.{Rooms}
use Rattle.vector_rooms.specs.Rooms.{Placed}
use Rattle.vector_cases.specs.Cases.{name_at, narrowing_at, composition_at, card_at}
use Rattle.vector_jobs.specs.Jobs.{Jobbed, job_at}

abbrev pub after_narrowing : Rooms → Placed (Room ℕ 256) → Answered Rooms
after_narrowing k p = answer p.next (record { lists = k.lists; input = p.kept; memory = k.memory })

abbrev pub after_composition : Rooms → Placed Lists → Answered Rooms
after_composition k p = answer p.next (record { lists = p.kept; input = k.input; memory = k.memory })

abbrev pub after_job : Rooms → Jobbed → Answered Rooms
after_job k j = answer j.work.next (record { lists = j.lists; input = k.input; memory = j.work.kept })

-- F, N, B, C, J and R; a line of no kind has no answer
unfoldable pub replayed_at : List ℕ → Rooms → Answered Rooms
replayed_at line k =
    cond (eqb (first_of line) 70) (answer (name_at line) k)
    (cond (eqb (first_of line) 78) (after_narrowing k (narrowing_at false line k.input))
    (cond (eqb (first_of line) 66) (after_narrowing k (narrowing_at true line k.input))
    (cond (eqb (first_of line) 67) (after_composition k (composition_at line k.lists))
    (cond (eqb (first_of line) 74) (after_job k (job_at line k.lists k.memory))
    (cond (eqb (first_of line) 82) (answer (card_at line) k) (answer nowhere k))))))
