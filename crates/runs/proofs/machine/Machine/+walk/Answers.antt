use Rattle.std.proofs.Common.{arith}
use Rattle.std.proofs.lemmas.Result.{err_from_is_err_and}
use Rattle.runs.proofs.Laid.{stopped, carried}
use Rattle.runs.proofs.machine.Machine.+walk.Goals as goal

pub run_block-returns-in_err-run_statement : goal.run_block-returns-in_err-run_statement
run_block-returns-in_err-run_statement t c =
    let p = err_from_is_err_and c.from_residual.result c.from_residual.ensures.1 in
    rw p.1 (stopped c.args.self.now c.args.span (omega (arith, c.args.span.ordered)) c.run_statement.new.self _ c.in_err-run_statement.ensures)

pub run_block-returns : goal.run_block-returns
run_block-returns t c =
    carried c.args.self.now c.args.span (omega (arith, c.args.span.ordered)) c.run_statement.new.self c.run_block.new.self c.past.result c.run_block.result
    c.in_ok-run_statement.ensures c.past.ensures.at c.past.ensures.to c.run_block.ensures
