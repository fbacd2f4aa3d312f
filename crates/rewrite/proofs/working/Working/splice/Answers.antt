use Rattle.std.proofs.Common.{arith}
use Rattle.rewrite.proofs.Lists.{spliced}
use Rattle.rewrite.proofs.working.Working.splice.Goals as goal

pub returns : goal.returns
returns c = let W = c.args.self.now in spliced W.events c.copy_within.new.self c.args.put.now c.copy_from_slice.new.self c.args.gone.start c.args.gone.end W.len c.requires.order c.requires.inside (omega arith) (omega arith) c.copy_within.ensures.after c.copy_from_slice.ensures.after
