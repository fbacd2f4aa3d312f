use Rattle.runs.proofs.Bounds.{few_choices}
use Rattle.runs.proofs.runner.walk.calls.begun.Goals as goal

pub overflow_add-limits : goal.overflow_add-limits
overflow_add-limits c = few_choices c.args.snippet.now
