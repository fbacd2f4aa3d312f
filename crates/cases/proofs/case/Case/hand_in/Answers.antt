use Rattle.std.proofs.Common.{refl}
use Rattle.std.proofs.lemmas.Result.{err_from_is_err_and}
use Rattle.marks.specs.Marks.{marked}
use Rattle.judging.proofs.Settling.{names_one}
use Rattle.cases.specs.History.{hand_in}
use Rattle.cases.proofs.Histories.{marks_accepted, marks_refused}
use Rattle.cases.proofs.Promises.{named_few}
use Rattle.cases.proofs.Cases.{going_on}
use Rattle.cases.proofs.case.Case.hand_in.Goals as goal

pub returns-clause-answer : goal.returns-clause-answer
returns-clause-answer g c = (c.in_ok-run.run', c.in_ok-run.ensures.judged, c.in_ok-run.ensures.exactly)

pub returns-clause-goes_on : goal.returns-clause-goes_on
returns-clause-goes_on g c =
    let s = c.args.self.now in
    let met = g.met.M.Model in
    let law = met.lawful in
    let n = c.in_ok-run.ensures.exactly in
    let run = c.in_ok-run.run' in
    going_on g.M.Model.meaning law s _ (hand_in c.args.bytes.now)
    (marks_accepted c.args.bytes.now run (marked c.add.new.self) n (λ k q. names_one q n) (c.add.ensures.added (named_few s.pair run n)))

pub returns-in_err-run-clause-answer : goal.returns-in_err-run-clause-answer
returns-in_err-run-clause-answer g c =
    let p = err_from_is_err_and c.from_residual.result c.from_residual.ensures.1 in
    rw (p.1, p.2) (c.in_err-run.ensures.judged, c.in_err-run.ensures.exactly)

pub returns-in_err-run-clause-declined : goal.returns-in_err-run-clause-declined
returns-in_err-run-clause-declined g c =
    let p = err_from_is_err_and c.from_residual.result c.from_residual.ensures.1 in
    rw p.1 (record { pair = refl; model = refl; active = refl; matched = refl })

pub returns-in_err-run-clause-goes_on : goal.returns-in_err-run-clause-goes_on
returns-in_err-run-clause-goes_on g c =
    let met = g.met.M.Model in
    let law = met.lawful in
    going_on g.M.Model.meaning law c.args.self.now _ (hand_in c.args.bytes.now) (marks_refused c.args.bytes.now c.in_err-run.ensures.exactly)
