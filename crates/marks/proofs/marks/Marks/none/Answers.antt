use Rattle.marks.proofs.Words.{no_bits}
use Rattle.marks.proofs.marks.Marks.none.Goals as goal

pub returns : goal.returns
returns c k = no_bits 64 k
