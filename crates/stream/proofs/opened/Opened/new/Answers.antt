use Rattle.std.proofs.Common.{sym, ◌∙◌, rules}
use Rattle.std.proofs.lemmas.Result.{err_from_is_err_and}
use Rattle.stream.proofs.Opening.{no_model}
use Rattle.stream.proofs.opened.Opened.new.Goals as goal

pub returns-in_err-model : goal.returns-in_err-model
returns-in_err-model c =
    let p = err_from_is_err_and c.from_residual.result c.from_residual.ensures.1 in
    let n = c.new-parts.ensures in
    let e = c.in_err-model.ensures in
    rw (p.1, p.2) (no_model c.args.stream.now n.rejoins _ _ (sym n.parts ∙ c.in-Some-Model.ensures.steps.0) c.in-Some-Model.byte (search rules) e.0, e.1)
