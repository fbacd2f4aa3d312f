use Rattle.std.proofs.Common.{Ok}
use Rattle.std.proofs.lemmas.Result.{err_from_is_err_and}
use Rattle.judging.specs.Judged.{unread, declined, accepted}
use Rattle.judging.proofs.Settling.{exactly}
use Rattle.judging.proofs.decide.judge.Goals as goal

pub returns-in_err-hand_in-clause-judged : goal.returns-in_err-hand_in-clause-judged
returns-in_err-hand_in-clause-judged g c =
    let p = err_from_is_err_and c.from_residual.result c.from_residual.ensures.1 in
    rw (p.1, p.2) (unread c.in_err-hand_in.ensures.gives)

pub returns-in_err-decide-clause-judged : goal.returns-in_err-decide-clause-judged
returns-in_err-decide-clause-judged g c =
    let p = err_from_is_err_and c.from_residual-in_err-decide.result c.from_residual-in_err-decide.ensures.1 in
    rw (p.1, p.2) (declined c.in_ok-hand_in.ensures.gives c.in_err-decide.ensures)

pub returns-in_err-decide-clause-exactly : goal.returns-in_err-decide-clause-exactly
returns-in_err-decide-clause-exactly g c =
    exactly (λ k. (c.type_inv.bytes k).fits) _ (returns-in_err-decide-clause-judged g c)

pub returns-clause-judged : goal.returns-clause-judged
returns-clause-judged g c = accepted c.in_ok-hand_in.ensures.gives c.in_ok-decide.ensures

pub returns-clause-exactly : goal.returns-clause-exactly
returns-clause-exactly g c = exactly (λ k. (c.type_inv.bytes k).fits) (Ok _) (returns-clause-judged g c)
