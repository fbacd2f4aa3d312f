use Rattle.cases.specs.History.{verdict}
use Rattle.cases.proofs.Histories.{marks_verdict}
use Rattle.cases.proofs.Cases.{standing, going_on}
use Rattle.cases.proofs.case.Case.verdict.Goals as goal

pub returns : goal.returns
returns g c =
    let s = c.args.self.now in
    let met = g.met.M.Model in
    let law = met.lawful in
    record {
      marks = c.first_missing.ensures;
      promise = λ h f. (standing g.M.Model.meaning s (law s.model) f).verdict c.first_missing.result c.first_missing.ensures;
      goes_on = going_on g.M.Model.meaning law s s verdict marks_verdict;
    }
