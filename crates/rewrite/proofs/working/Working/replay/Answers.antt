use Rattle.std.proofs.Common.{◌≡◌, rules, of_calls}
use Rattle.std.proofs.lemmas.Result.{err_from_is_err_and}
use Rattle.rewrite.specs.Steps.{none, word}
use Rattle.rewrite.proofs.Fitting.{fits_one}
use Rattle.rewrite.proofs.Reach.{stopped, went_on, told_ok, told_err}
use Rattle.rewrite.proofs.working.Working.replay.Goals as goal

pub loop-at-init : goal.loop-at-init
loop-at-init g c = none

pub returns-in_err-map_err-clause-replayed : goal.returns-in_err-map_err-clause-replayed
returns-in_err-map_err-clause-replayed g c =
    let (e, p, q) = err_from_is_err_and c.from_residual.result c.from_residual.ensures.1 in
    let (d, k, r) = told_err _ c.apply.result c.map_err.result c.map_err.ensures.cases c.in_err-map_err.was in
    let k : e ≡ record { step = c.loop-at.at-counter; why = d } = search (rules, of_calls) in
    rw (p, k) (stopped c.args.ranges.values c.args.ranges.locations c.args.steps.now c.loop-at.at-counter (word c.args.self.now) (word c.loop-at.self) _ c.loop-at.invariant (word c.apply.new.self) d c.loop-at-test.true (rw r at c.apply.ensures))

pub loop-at-preserved : goal.loop-at-preserved
loop-at-preserved g c =
    let (t, n) = rw (told_ok _ c.apply.result c.map_err.result c.map_err.ensures.cases c.in_ok-map_err.was) at c.apply.ensures in
    went_on c.args.ranges.values c.args.ranges.locations c.args.steps.now c.loop-at.at-counter (word c.args.self.now) (word c.loop-at.self) _ c.loop-at.invariant (word c.apply.new.self) c.loop-at-test.true t n

pub returns-in_err-map_err-clause-sure : goal.returns-in_err-map_err-clause-sure
returns-in_err-map_err-clause-sure g c v l s w a b p q F G = fits_one F G

pub returns-clause-sure : goal.returns-clause-sure
returns-clause-sure g c v l s w a b p q F G = fits_one F G
