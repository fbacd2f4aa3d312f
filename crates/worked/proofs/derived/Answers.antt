use Rattle.worked.proofs.Cases.{worked}
use Rattle.worked.proofs.derived.Goals as goal

pub returns : goal.returns
returns c = worked
