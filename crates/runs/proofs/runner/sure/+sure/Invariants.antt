use Rattle.std.proofs.Common.{◌-◌, ◌*◌}
use Rattle.runs.proofs.runner.sure.+sure.Given as goal

abbrev pub decreases-sure_block : goal.decreases-sure_block
decreases-sure_block l = 2 * (l.span.to - l.span.at)

abbrev pub decreases-sure_statement : goal.decreases-sure_statement
decreases-sure_statement l = 2 * (l.span.to - l.span.at) - 1
