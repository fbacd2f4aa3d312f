-- What a case's marks promise.
use Rattle.std.proofs.Common.{◌≡◌, ℕ, zero, suc, ◌+◌, ◌<◌, Bool, true, false, cond, not, ◌&&◌, ltb, List, Some, None, Option, sym, refl, ap, ◌∙◌, subst, inl, inr, add-zero, add-one, arith}
use Rattle.std.proofs.lemmas.Bool.{and_parts, and_from, not-true, not_from_false, ltb-true, lt-ltb, both_ways, cases_Bool}
use Rattle.trace.specs.Words.{Word, Registers, behaviour, Behaviours}
use Rattle.ordering.specs.Meaning.{Meaning, Lawful}
use Rattle.surroundings.specs.Steps.{Reaches}
use Rattle.surroundings.specs.Soundness.{Reached, AddsNothing}
use Rattle.surroundings.proofs.Sound.{sound}
use Rattle.rewrite.proofs.Reach.{chain_reaches}
use Rattle.snippet.specs.Keeps.{Sizes}
use Rattle.snippet.specs.Meant.{sizes_of, program_of}
use Rattle.pairs.specs.Program.{Program}
use Rattle.pairs.specs.Meant.{meant}
use Rattle.pairs.specs.declared.pair.Pair.{Pair}
use Rattle.runs.specs.Runs.{start_of, end_of, word_of, idle, Active}
use Rattle.runs.specs.Runs as runs
use Rattle.runs.specs.Behaviours.{Behaves}
use Rattle.runs.specs.Exact.{BehavioursAreRuns}
use Rattle.runs.proofs.Exact.{behaviours_are_runs}
use Rattle.runs.proofs.Bounds.{count_is}
use Rattle.judging.specs.Valid.{Names}
use Rattle.judging.proofs.Pairs.{same_sizes}
use Rattle.marks.specs.Marks.{Lowest, count_below}
use Rattle.cases.specs.Active.{is_active}
use Rattle.cases.specs.History.{Call, Matched, here, later}
use Rattle.cases.specs.Promise.{HowMany, none, counted, skipped, Replaces, VerdictPromise, CountPromise}
use Rattle.cases.proofs.Histories.{Marking}

-- the test for a run that is not idle
module _ (m : Sizes) (b : _) (k : ℕ) where
  pub active_from : is_active m b k ≡ true → Active m b k
  active_from e = let p = and_parts (ltb k (runs.count m b)) _ e in (ltb-true k (runs.count m b) p.0, not-true (idle m b k) p.1)

  pub active_to : Active m b k → is_active m b k ≡ true
  active_to a = and_from (ltb k (runs.count m b)) _ (lt-ltb k (runs.count m b) a.0) (not_from_false (idle m b k) a.1)

-- how many numbers pass a test
pub how_many : (t : ℕ → Bool) (Q : ℕ → Type 0) → ((k : ℕ) → t k ≡ true → Q k) → ((k : ℕ) → Q k → t k ≡ true) → (n : ℕ) → HowMany Q n (count_below t n)
unfolding count_below
how_many t Q f g zero = none
how_many t Q f g (suc n) =
    elim (cases_Bool (t n)) [
      | inl e ↦ subst (λ (c : ℕ). HowMany Q (suc n) c) (sym (ap (λ (b : Bool). count_below t n + cond b 1 0) e ∙ add-one (count_below t n))) (counted (how_many t Q f g n) (f n e))
      | inr e ↦ subst (λ (c : ℕ). HowMany Q (suc n) c) (sym (ap (λ (b : Bool). count_below t n + cond b 1 0) e ∙ add-zero (count_below t n))) (skipped (how_many t Q f g n) (λ q. both_ways (t n) e (g n q)))
    ]

module _ {m : Meaning} {P : Program} where
  -- a matched run follows from a behaviour of the original
  from_matched : {k : ℕ} {calls : List Call} → BehavioursAreRuns P.sizes P.original → Matched m P k calls
      → (w : Word) × Behaves P.sizes P.original (behaviour (start_of P.sizes k) (end_of P.sizes P.replacement k) w) × Reaches m w (word_of P.sizes P.replacement k)
  from_matched {k} b (later q) = from_matched b q
  from_matched {k} b (here n) =
      let d = n.derivation in
      let V = n.valid in
      let w = word_of P.sizes P.original d.from in
      subst (λ (j : ℕ). (w : Word) × Behaves P.sizes P.original (behaviour (start_of P.sizes j) (end_of P.sizes P.replacement j) w) × Reaches m w (word_of P.sizes P.replacement j)) n.run (
        w,
        subst (λ (s : Registers). Behaves P.sizes P.original (behaviour s (end_of P.sizes P.replacement d.to) w)) V.start
            (subst (λ (e : Registers). Behaves P.sizes P.original (behaviour (start_of P.sizes d.from) e w)) V.end (b.behave d.from V.from)),
        chain_reaches V.steps,
      )

  module _ {calls : List Call} (law : Lawful m) (b : BehavioursAreRuns P.sizes P.original) (b' : BehavioursAreRuns P.sizes P.replacement)
      (all : (k : ℕ) → Replaces P k → Matched m P k calls) where
    reached : Reached m (Behaves P.sizes P.original) (Behaves P.sizes P.replacement)
    reached s e w β =
        let (k, active, shows, only) = b'.covered (behaviour s e w) β in
        let (w₀, o, r) = from_matched b (all k active) in (
          w₀,
          subst (λ (x : Registers). Behaves P.sizes P.original (behaviour x e w₀)) shows.start (subst (λ (x : Registers). Behaves P.sizes P.original (behaviour (start_of P.sizes k) x w₀)) shows.end o),
          subst (λ (x : Word). Reaches m w₀ x) shows.word r,
        )

    -- no surrounding, whatever sets it adds, shows more with the replacement
    pub unobservable {ℓ} : {S W : Type ℓ} (v : ℕ) (sets : S → Behaviours) (words : W → Word → Type 0)
        → AddsNothing m v sets words (Behaves P.sizes P.original) (Behaves P.sizes P.replacement)
    unobservable v sets words = sound law v sets words (Behaves P.sizes P.original) (Behaves P.sizes P.replacement) reached

none_some : {k : ℕ} → ◌≡◌ {A = Option ℕ} None (Some k) → ⊥
none_some e = let z : ◌≡◌ {A = ℕ} 0 1 = cc in omega arith

some_same : {j k : ℕ} → ◌≡◌ {A = Option ℕ} (Some j) (Some k) → j ≡ k
some_same e = cc

module _ {m : Meaning} {P : Program} {a t : ℕ → Bool} {calls : List Call} (live : (k : ℕ) → a k ≡ is_active P.sizes P.replacement k) (f : Marking m P t calls) where
  active_is : (k : ℕ) → a k ≡ true → Replaces P k
  active_is k e = active_from P.sizes P.replacement k (sym (live k) ∙ e)

  to_active : (k : ℕ) → Replaces P k → a k ≡ true
  to_active k r = live k ∙ active_to P.sizes P.replacement k r

  -- a run that is not idle and not missing is matched
  found : (k : ℕ) → (a k && not (t k)) ≡ false → Replaces P k → Matched m P k calls
  found k e r =
      elim (cases_Bool (t k)) [
        | inl q ↦ f.matched k q
        | inr n ↦ absurd (both_ways (a k && not (t k)) e (and_from (a k) (not (t k)) (to_active k r) (not_from_false (t k) n)))
      ]

  pub verdict_promise : (Sound : Type 0) → (((k : ℕ) → Replaces P k → Matched m P k calls) → Sound) → (v : Option ℕ) → Lowest (λ k. a k && not (t k)) v → VerdictPromise Sound m P calls v
  verdict_promise Sound s None low = record {
    sound = λ e. s (λ k r. found k (low k) r);
    matched = λ e k r. found k (low k) r;
    exactly = λ g. refl;
    lowest = λ k e. absurd (none_some e);
  }
  verdict_promise Sound s (Some n) low =
      let p = and_parts (a n) (not (t n)) low.0 in
      let r = active_is n p.0 in
      let lost = λ (q : Matched m P n calls). both_ways (t n) (not-true (t n) p.1) (f.marks n q) in
      record {
        sound = λ e. absurd (none_some (sym e));
        matched = λ e k r. absurd (none_some (sym e));
        exactly = λ g. absurd (lost (g n r));
        lowest = λ k e. subst (λ (j : ℕ). Replaces P j × (Matched m P j calls → ⊥) × ((i : ℕ) → i < j → Replaces P i → Matched m P i calls)) (some_same e) (r, lost, λ i h q. found i (low.1 i h) q);
      }

  pub count_promise : (n c : ℕ) → n ≡ count_below t 4096 → c ≡ count_below a 4096 → CountPromise m P calls n c
  count_promise n c p q = record {
    matched = subst (λ (x : ℕ). HowMany (λ k. Matched m P k calls) 4096 x) (sym p) (how_many t _ f.matched f.marks 4096);
    active = subst (λ (x : ℕ). HowMany (Replaces P) 4096 x) (sym q) (how_many a _ active_is to_active 4096);
  }

-- the two snippets of a pair
module _ (p : Pair) where
  pub original_runs : BehavioursAreRuns (meant p).sizes (meant p).original
  original_runs = behaviours_are_runs (sizes_of p.original) (program_of p.original) p.original.body.limits.few_values

  pub replacement_runs : BehavioursAreRuns (meant p).sizes (meant p).replacement
  replacement_runs = behaviours_are_runs (sizes_of p.original) (program_of p.replacement) p.original.body.limits.few_values

  -- a run that a hand-in names has a mark
  pub named_few : {m : Meaning} {bs : List ℕ} (k : ℕ) → Names m (meant p) bs k → k < 4096
  named_few k n =
      let c = count_is p.replacement in
      let e = ap (λ (z : Sizes). runs.count z (program_of p.replacement)) (same_sizes p) in
      let b = p.replacement.bounded in
      let r = n.run in
      omega (arith, n.valid.to.0)
