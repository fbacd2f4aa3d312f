use Rattle.std.proofs.Common.{◌≡◌, ◌*◌, ap, ◌∙◌, arith, rules, tests}
use lib.Count.{ones}
use Rattle.std.specs.List.{sum_by}
use Rattle.std.proofs.lemmas.Iterator.{YieldsList-from_slice}
use Rattle.std.proofs.lemmas.Iterator.Adapters.{fits_from_length, at_most_from_yields_List}
use Rattle.marks.specs.Marks.{marked, count_below}
use Rattle.marks.proofs.Words.{count_words}
use Rattle.marks.proofs.marks.Marks.count.Goals as goal

pub sum-requires-clause-fits : goal.sum-requires-clause-fits
sum-requires-clause-fits c = fits_from_length _ _ 64 _ (at_most_from_yields_List (YieldsList-from_slice c.args.self.now.words cc) (omega (arith, c.args.self.now.full))) c.map.ensures.closure (omega arith) (λ x r q k. search (rules, tests))

pub returns : goal.returns
returns c =
    let s = c.args.self.now in
    let e : c.sum.result ≡ sum_by ones s.words = search rules in
    e ∙ count_words s.words (λ i. search rules) ∙ ap (λ n. count_below (marked s) (n * 64)) s.full
