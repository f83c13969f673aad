-- What is read and called is what the definition reads and calls, one after the other.
use Rattle.vector_jobs.proofs.Calls.{played_read}
use Rattle.vector_jobs.proofs.played.Goals as goal

pub returns : goal.returns
returns c =
    let calls = rw c.new-calls.ensures at c.read-after_numbers.ensures in
    played_read _ _ _ c.read-after_memory.ensures calls c.as_slice.ensures c.called-after_calls.ensures c.left.ensures
