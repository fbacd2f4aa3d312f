use Rattle.std.proofs.Common.{sym, subst}
use Rattle.std.proofs.lemmas.Result.{IfOk-weaker}
use Rattle.pairs.specs.Meant.{meant}
use Rattle.stream.specs.Printed.{FilesPrinted, declined, judged}
use Rattle.stream.proofs.judge.judge_opened.Goals as goal

pub returns-in-Ok : goal.returns-in-Ok
returns-in-Ok c =
    let e = c.in-Ok.ensures in
    IfOk-weaker c.judge_pair.result _ _ (λ v l. judged (meant c.in-Ok.pair) e.gives e.judged.is l) c.judge_pair.ensures

pub returns-in-Err : goal.returns-in-Err
returns-in-Err c =
    let e = c.in-Err.ensures in
    IfOk-weaker c.decline.result _ _ (λ v q. subst (FilesPrinted _ _ _ _) (sym q) (declined c.in-Err.refusal e.gives)) c.decline.ensures
