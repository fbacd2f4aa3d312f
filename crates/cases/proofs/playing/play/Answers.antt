use Rattle.std.proofs.Common.{◌≡◌, ℕ, ◌<◌, List, map, length, get_or, take, set, sym, refl, ap, ◌∙◌, subst, arith}
use Rattle.std.proofs.lemmas.List.{take_all, length-map}
use Rattle.pairs.specs.Meant.{meant}
use Rattle.pairs.specs.declared.pair.Pair.{Pair}
use Rattle.cases.specs.declared.script.Standing.{Standing}
use Rattle.cases.specs.History as history
use Rattle.cases.specs.Standing.{Follows}
use Rattle.cases.specs.Played.{call_of, Promised}
use Rattle.cases.proofs.Plays.{calls_more, promised, noted, left}
use Rattle.cases.proofs.playing.play.Goals as goal

pub loop-i-init : goal.loop-i-init
loop-i-init g c = (refl, refl, c.open-case.ensures.follows, λ j d h l. absurd (omega arith), λ j d h. refl)

pub loop-i-preserved : goal.loop-i-preserved
loop-i-preserved g c =
    let inv = c.loop-i.invariant in
    let case = c.loop-i.case in
    let met = g.met.M.Model in
    let x = case.model in
    let law = met.lawful x in
    let cs = map call_of c.args.calls.now in
    let i = c.loop-i.i in
    let p = c.open-case.result.pair in
    let y = c.open-case.result.model in
    let s = c.standing.result in
    let here = promised g.S.Sets.sets g.S.Sets.words g.M.Model.meaning case (take i cs) s law inv.2 c.standing.ensures.verdict c.standing.ensures.count p y inv.0 inv.1 in (
      c.make.ensures.pair ∙ inv.0,
      c.make.ensures.model ∙ inv.1,
      subst (λ (h : List history.Call). Follows g.M.Model.meaning c.make.new.case h) (sym (calls_more c.args.calls.now i _ (omega arith))) ((c.make.ensures.goes_on (take i cs) inv.2).0),
      (λ j d h l. noted g.S.Sets.sets g.S.Sets.words (g.M.Model.meaning y) (meant p) cs i c.loop-i.standings c.note.new.standings s c.note.ensures here inv.3 j d h (omega arith)),
      (λ j d h. left g.S.Sets.sets g.S.Sets.words (g.M.Model.meaning y) (meant p) cs i c.loop-i.standings c.note.new.standings s c.note.ensures c.args.standings.now inv.4 j d (omega arith)),
    )

pub returns : goal.returns
returns g c =
    let inv = c.loop-i.invariant in
    let case = c.loop-i.case in
    let met = g.met.M.Model in
    let x = case.model in
    let law = met.lawful x in
    let calls = c.args.calls.now in
    let cs = map call_of calls in
    let i = c.loop-i.i in
    let many : length cs ≡ length calls = length-map calls call_of in
    let p = c.args.pair in
    let y = c.args.model in
    let s = c.standing-last.result in
    let q = c.open-case.ensures.pair in
    let z = c.open-case.ensures.model in
    let here = promised g.S.Sets.sets g.S.Sets.words g.M.Model.meaning case (take i cs) s law inv.2 c.standing-last.ensures.verdict c.standing-last.ensures.count p y (inv.0 ∙ q) (inv.1 ∙ z) in
    let earlier = λ (j : ℕ) (d : Standing) (h : j < i) (l : j < length c.loop-i.standings).
    subst (λ (v : _). Promised g.S.Sets.sets g.S.Sets.words (g.M.Model.meaning v) (meant p) (take j cs) (get_or c.loop-i.standings j d)) z
    (subst (λ (v : Pair). Promised g.S.Sets.sets g.S.Sets.words (g.M.Model.meaning c.open-case.result.model) (meant v) (take j cs) (get_or c.loop-i.standings j d)) q (inv.3 j d h l)) in
    let e : c.note-2.new.standings ≡ set c.loop-i.standings i s = c.note-2.ensures ∙ ap (λ (k : ℕ). set c.loop-i.standings k s) (omega arith) in
    record {
      each = λ j d h l. noted g.S.Sets.sets g.S.Sets.words (g.M.Model.meaning y) (meant p) cs i c.loop-i.standings c.note-2.new.standings s e here earlier j d (omega arith) (omega arith);
      rest = λ j d h. left g.S.Sets.sets g.S.Sets.words (g.M.Model.meaning y) (meant p) cs i c.loop-i.standings c.note-2.new.standings s e c.args.standings.now inv.4 j d (omega arith);
      last = subst (λ (h : List history.Call). Promised g.S.Sets.sets g.S.Sets.words (g.M.Model.meaning y) (meant p) h s) (take_all i cs (omega arith)) here;
    }
