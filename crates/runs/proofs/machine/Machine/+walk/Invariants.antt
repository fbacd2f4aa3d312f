use Rattle.std.proofs.Common.{◌+◌, ◌-◌, ◌*◌}
use Rattle.runs.proofs.machine.Machine.+walk.Given as goal

abbrev pub decreases-run_block : goal.decreases-run_block
decreases-run_block l = 3 * (l.span.to - l.span.at)

abbrev pub decreases-run_branch : goal.decreases-run_branch
decreases-run_branch l = 3 * ((l.nonzero.to - l.nonzero.at) + (l.zero.to - l.zero.at)) + 1

abbrev pub decreases-run_declared : goal.decreases-run_declared
decreases-run_declared l = 3 * (l.span.to - l.span.at) + 1

abbrev pub decreases-run_statement : goal.decreases-run_statement
decreases-run_statement l = 3 * (l.span.to - l.span.at) - 1
