use Rattle.std.proofs.Common.{ℕ, List, [], ◌++◌, vec_items, refl, sym, ap, ◌∙◌, subst, append-nil}
use Rattle.stream.specs.Files.{files}
use Rattle.stream.specs.Handed.{Handed}
use Rattle.stream.proofs.Handing.{handed_none, one_more}
use Rattle.stream.proofs.judge.hand_in_all.Goals as goal

pub loop-bytes-init : goal.loop-bytes-init
loop-bytes-init g c = ([], refl, handed_none g.M.Model.meaning _ _ c.requires.follows c.requires.stands c.requires.empty)

pub loop-bytes-preserved : goal.loop-bytes-preserved
loop-bytes-preserved g c =
    let (taken, whole, handed) = c.loop-bytes.invariant in
    let h = c.hand_in.ensures in
    one_more g.M.Model.meaning c.args.case.now c.loop-bytes.case c.hand_in.new.self
    (files c.into_iter-bytes-iterator.result) taken (files c.loop-bytes.bytes-iterator) (files c.next.new.self)
    (vec_items c.loop-bytes.out) (vec_items c.print.new.out) c.in-Some.bytes.now c.hand_in.result
    whole handed c.in-Some.ensures.steps h.pair h.model h.answer h.goes_on c.in_ok-print.ensures

-- nothing is left
pub returns : goal.returns
returns g c =
    let (taken, whole, handed) = c.loop-bytes.invariant in
    let all = ap files (sym c.into_iter-bytes-iterator.ensures.into_iter_gives) ∙ whole ∙ ap (λ xs. taken ++ xs) c.in-None.ensures.steps.0 ∙ append-nil taken in
    subst (λ (x : List (List ℕ)). Handed g.M.Model.meaning c.args.case.now c.loop-bytes.case x (vec_items c.loop-bytes.out)) (sym all) handed
