use Rattle.std.proofs.Common.{rules}
use Rattle.snippet.specs.Meant.{sizes_of, program_of}
use Rattle.runs.specs.Runs.{run_of}
use Rattle.runs.proofs.Exact.{rest_few}
use Rattle.runs.proofs.runner.walk.calls.run.Goals as goal

pub overflow_sub-taken : goal.overflow_sub-taken
unfolding run_of
overflow_sub-taken c =
    let s = c.args.snippet.now in
    let few = rest_few (sizes_of s) (program_of s) s.body.limits.few_values c.args.number in
    search rules
