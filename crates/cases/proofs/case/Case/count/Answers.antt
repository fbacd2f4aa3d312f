use Rattle.cases.specs.History.{count}
use Rattle.cases.proofs.Histories.{marks_count}
use Rattle.cases.proofs.Cases.{standing, going_on}
use Rattle.cases.proofs.case.Case.count.Goals as goal

pub returns : goal.returns
returns g c =
    let s = c.args.self.now in
    let met = g.met.M.Model in
    let law = met.lawful in
    record {
      marks = (c.count.ensures, c.count-2.ensures);
      promise = λ h f. (standing g.M.Model.meaning s (law s.model) f).count _ _ (c.count.ensures, c.count-2.ensures);
      goes_on = going_on g.M.Model.meaning law s s count marks_count;
    }
