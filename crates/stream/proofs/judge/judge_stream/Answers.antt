use Rattle.std.proofs.Common.{sym, subst}
use Rattle.std.proofs.lemmas.Result.{IfOk-weaker}
use Rattle.stream.specs.Printed.{Printed, no_stream, fit}
use Rattle.stream.proofs.judge.judge_stream.Goals as goal

pub returns-in-Ok-clause-printed : goal.returns-in-Ok-clause-printed
returns-in-Ok-clause-printed c = IfOk-weaker c.judge_opened.result _ _ (λ v p. fit c.in-Ok.ensures p) c.judge_opened.ensures

pub returns-in-Err-clause-printed : goal.returns-in-Err-clause-printed
returns-in-Err-clause-printed c =
    let (unfit, is) = c.in-Err.ensures in
    IfOk-weaker c.decline.result _ _ (λ v q. subst (Printed _) (sym q) (rw is (no_stream unfit))) c.decline.ensures
