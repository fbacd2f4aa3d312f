use Rattle.std.proofs.Common.{ℕ, ◌*◌, ◌≤◌, Some, subst, ap, length, length-drop, inl, inr, arith, rules}
use Rattle.marks.specs.Marks.{missing, Lowest}
use Rattle.std.proofs.lemmas.Bool.{cases_lt, and_left}
use Rattle.marks.proofs.Words.{next_one, none_next, none_left, some_left, bit_past}
use Rattle.marks.proofs.marks.Marks.first_missing.Goals as goal

pub returns-then-left-ne0 : goal.returns-then-left-ne0
returns-then-left-ne0 c =
    let h = c.in-Some.ensures.steps in
    let i = c.loop-i.invariant in
    let n = c.loop-i.i-iterator.count in
    let s = c.args.self.now.words in
    let t = c.args.there.now.words in
    rw h.1
    (subst (λ (k : ℕ). Lowest (missing c.args.self.now c.args.there.now) (Some k)) (omega (arith, ap length i.here, ap length h.0.0, length-drop n s, c.args.self.now.full))
    (some_left s t n c.in-Some.word.now c.in-Some.other.now (next_one s _ _ n _ i.here h.0.0).0 (next_one t _ _ n _ i.there h.0.1).0
    (search rules) i.none (search rules) (omega arith)))

pub loop-i-preserved : goal.loop-i-preserved
loop-i-preserved c =
    let h = c.in-Some.ensures.steps in
    let i = c.loop-i.invariant in
    let n = c.loop-i.i-iterator.count in
    let s = c.args.self.now.words in
    let t = c.args.there.now.words in
    let a = next_one s _ _ n _ i.here h.0.0 in
    let b = next_one t _ _ n _ i.there h.0.1 in
    rw h.2 (record {
      here = a.1;
      there = b.1;
      none = none_left s t n c.in-Some.word.now c.in-Some.other.now a.0 b.0 (search rules) i.none c.if-left-ne0.false;
    })

pub returns : goal.returns
returns c k =
    let s = c.args.self.now in
    let t = c.args.there.now in
    let i = c.loop-i.invariant in
    let n = c.loop-i.i-iterator.count in
    let all : 64 ≤ n = elim c.in-None.ensures.steps.0 [
      | inl e ↦ omega (arith, none_next s.words _ n i.here e.1.0, s.full)
      | inr e ↦ omega (arith, none_next t.words _ n i.there e.1.0, t.full)
    ] in
    elim (cases_lt k (n * 64)) [
      | inl l ↦ i.none k l
      | inr g ↦ and_left _ _ (bit_past s.words k (omega (arith, s.full)))
    ]
