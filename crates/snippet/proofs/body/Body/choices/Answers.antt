use Rattle.std.proofs.Common.{rules, sym, take, ap, ◌∙◌}
use Rattle.snippet.proofs.Count.{counted_is, count_b}
use Rattle.snippet.specs.Layout.{block}
use Rattle.snippet.specs.Runs.{counted}
use Rattle.snippet.proofs.body.Body.choices.Goals as goal

pub returns-clause-value : goal.returns-clause-value
returns-clause-value c =
    let s = c.args.self.now in
    let e = sym (counted_is (take s.len s.statements)) ∙ ap counted s.laid ∙ count_b (block s.statements 0 s.len) in
    search (rules, e)
