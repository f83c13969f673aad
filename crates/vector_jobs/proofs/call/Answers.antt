-- The answer's numbers are expected one after the other; the numbers that are read back fit 64 bits.
use Rattle.std.proofs.Common.{rules}
use Rattle.vector_jobs.proofs.Calls.{call_answered}
use Rattle.vector_jobs.proofs.call.Goals as goal

pub returns : goal.returns
returns c =
    call_answered _ _ _ _ _ _ (search rules) (search rules) (search rules) (search rules) c.tray_job-answer.ensures c.expect.ensures
    c.expect-after_answer.ensures c.expect-2.ensures c.expect-after_count.ensures c.position.ensures c.expect-3.ensures
