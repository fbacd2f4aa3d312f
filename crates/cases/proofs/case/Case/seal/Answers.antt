use Rattle.std.proofs.Common.{rules}
use Rattle.cases.proofs.case.Case.seal.Goals as goal

pub returns : goal.returns
returns g c = record {
  model = search rules;
  count = c.count-tally.ensures.marks;
  verdict = c.verdict.ensures.marks;
  promise = λ h f. (c.verdict.ensures.promise h f, c.count-tally.ensures.promise h f);
}
