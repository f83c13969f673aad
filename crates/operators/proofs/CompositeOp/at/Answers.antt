-- Past the last number stands Over. Assumes nothing.
use Rattle.operators.proofs.Places.{past_the_last}
use Rattle.operators.proofs.CompositeOp.at.Goals as goal

pub returns-else-n-lt70 : goal.returns-else-n-lt70
returns-else-n-lt70 c = past_the_last c.args.n c.if-n-lt70.false
