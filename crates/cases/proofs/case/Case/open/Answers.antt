use Rattle.std.proofs.Common.{refl, ap, ◌∙◌}
use Rattle.snippet.specs.Keeps.{Sizes}
use Rattle.snippet.specs.Meant.{program_of}
use Rattle.judging.proofs.Pairs.{same_sizes}
use Rattle.cases.specs.Active.{is_active}
use Rattle.cases.proofs.Histories.{marks_none}
use Rattle.cases.proofs.Cases.{following, standing}
use Rattle.cases.proofs.case.Case.open.Goals as goal

pub invariant_of-result : goal.invariant_of-result
invariant_of-result g c =
    record { live = λ k. c.active_runs-active.ensures k ∙ ap (λ (z : Sizes). is_active z (program_of c.args.pair.replacement) k) (same_sizes c.args.pair) }

pub returns : goal.returns
returns g c =
    let met = g.met.M.Model in
    let m = c.args.model in
    let law = met.lawful m in
    let f = following g.M.Model.meaning _ (marks_none c.none.ensures) in
    record { pair = refl; model = refl; follows = f; promise = standing g.M.Model.meaning _ law f }
