-- The test is the definition's, and the parts that are lent come back in their places.
use Rattle.vector_jobs.proofs.Calls.{no_room, parts_called}
use Rattle.vector_jobs.proofs.called.Goals as goal

pub returns-then-not-fits : goal.returns-then-not-fits
returns-then-not-fits c = no_room _ _ _ _ _ c.fits.ensures.value c.if-not-fits.true

pub returns : goal.returns
returns c = parts_called _ _ _ _ _ c.fits.ensures.value c.if-not-fits.false c.calls_on.ensures
