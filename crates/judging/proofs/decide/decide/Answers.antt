use Rattle.std.proofs.Common.{inl, inr}
use Rattle.std.proofs.lemmas.Result.{err_from_is_err_and}
use Rattle.judging.proofs.Deciding.{no_replacement, no_original, found_idle, found_apart, found_settled}
use Rattle.judging.proofs.decide.decide.Goals as goal
use Rattle.judging.proofs.decide.decide.Goals.{then-wanted-via-then-wanted, then-wanted-via-else-wanted+then-given}

pub returns-in_err-wanted : goal.returns-in_err-wanted
returns-in_err-wanted g c =
    let p = err_from_is_err_and c.from_residual.result c.from_residual.ensures.1 in
    let e = c.in_err-wanted.ensures in
    rw (p.1, p.2, e.1) (no_replacement (g.M.Model.meaning c.args.model.now) c.args.pair.now c.args.hand_in.now e.0)

pub returns-in_err-given : goal.returns-in_err-given
returns-in_err-given g c =
    let p = err_from_is_err_and c.from_residual-in_err-given.result c.from_residual-in_err-given.ensures.1 in
    let e = c.in_err-given.ensures in
    rw (p.1, p.2, e.1) (no_original (g.M.Model.meaning c.args.model.now) c.args.pair.now c.args.hand_in.now e.0)

pub returns-then-wanted : goal.returns-then-wanted
returns-then-wanted g c =
    found_idle (g.M.Model.meaning c.args.model.now) c.args.pair.now c.args.hand_in.now c.in_ok-wanted.wanted c.in_ok-given.given c.in_ok-wanted.ensures c.in_ok-given.ensures
    (elim c.then-wanted.branch [
      | then-wanted-via-then-wanted w ↦ inl w.if-wanted.true
      | then-wanted-via-else-wanted+then-given w ↦ inr w.if-given.true
    ])

pub returns-then-not-same : goal.returns-then-not-same
returns-then-not-same g c =
    found_apart (g.M.Model.meaning c.args.model.now) c.args.pair.now c.args.hand_in.now c.in_ok-wanted.wanted c.in_ok-given.given c.in_ok-wanted.ensures c.in_ok-given.ensures
    c.if-wanted.false c.if-given.false c.if-not-same.ensures

pub returns : goal.returns
returns g c =
    found_settled (g.M.Model.meaning c.args.model.now) c.args.pair.now c.args.hand_in.now c.in_ok-wanted.wanted c.in_ok-given.given c.in_ok-wanted.ensures c.in_ok-given.ensures
    c.if-wanted.false c.if-given.false c.if-not-same.ensures c.settle.result c.settle.ensures
