-- Standings written one after another.
use Rattle.std.proofs.Common.{◌≡◌, ℕ, ◌+◌, ◌<◌, ◌≤◌, List, [], ◌∷◌, ◌++◌, map, length, get_or, take, set, sym, ap, ◌∙◌, subst, inl, inr, arith, get_or-set_other, get_or-set_same}
use Rattle.std.proofs.lemmas.List.{take_more, get_or-map, length-map}
use Rattle.std.proofs.lemmas.Bool.{cases_eq}
use Rattle.trace.specs.Words.{Word, Behaviours}
use Rattle.ordering.specs.Meaning.{Meaning, Lawful}
use Rattle.pairs.specs.Program.{Program}
use Rattle.pairs.specs.Meant.{meant}
use Rattle.pairs.specs.declared.pair.Pair.{Pair}
use Rattle.cases.specs.declared.case.Case.{Case}
use Rattle.cases.specs.declared.script.Call.{Call}
use Rattle.cases.specs.declared.script.Standing.{Standing}
use Rattle.cases.specs.History as history
use Rattle.cases.specs.Standing.{Follows, Verdict, Counted}
use Rattle.cases.specs.Played.{call_of, Promised}
use Rattle.cases.proofs.Promises.{unobservable, verdict_promise, count_promise, original_runs, replacement_runs}
use Rattle.cases.proofs.Cases.{marking}

-- the calls up to a place, and the one there
pub calls_more : (calls : List Call) (i : ℕ) (d : Call) → i < length calls → take (i + 1) (map call_of calls) ≡ take i (map call_of calls) ++ call_of (get_or calls i d) ∷ []
calls_more calls i d h =
    take_more (map call_of calls) i (call_of d) (rw (length-map calls call_of) h) ∙ ap (λ (x : history.Call). take i (map call_of calls) ++ x ∷ []) (get_or-map call_of calls i d (call_of d) h)

module _ (sets : ℕ → Behaviours) (words : ℕ → Word → Type 0) where
  -- a case that follows calls keeps the promise for arbitrary sets
  pub promised : {M : Type 0} (meaning : M → Meaning) (c : Case M) (calls : List history.Call) (s : Standing) → Lawful (meaning c.model) → Follows meaning c calls
      → Verdict c s.lowest → Counted c s.tally.matched s.tally.active → (p : Pair) (x : M) → c.pair ≡ p → c.model ≡ x → Promised sets words (meaning x) (meant p) calls s
  promised {M} meaning c calls s law f v n p x e q =
      let P = meant c.pair in
      let here : Promised sets words (meaning c.model) P calls s = record {
        verdict = verdict_promise c.live (marking meaning c f) _ (λ all. unobservable law (original_runs c.pair) (replacement_runs c.pair) all P.sizes.values sets words) s.lowest v;
        count = count_promise c.live (marking meaning c f) s.tally.matched s.tally.active n.0 n.1;
      } in
      subst (λ (y : M). Promised sets words (meaning y) (meant p) calls s) q (subst (λ (y : Pair). Promised sets words (meaning c.model) (meant y) calls s) e here)

  module _ (m : Meaning) (P : Program) (cs : List history.Call) (i : ℕ) (old new : List Standing) (s : Standing) (e : new ≡ set old i s) where
    -- one standing more
    pub noted : Promised sets words m P (take i cs) s → ((j : ℕ) (d : Standing) → j < i → j < length old → Promised sets words m P (take j cs) (get_or old j d))
        → (j : ℕ) (d : Standing) → j < i + 1 → j < length old → Promised sets words m P (take j cs) (get_or new j d)
    noted here before j d h l =
        elim (cases_eq j i) [
          | inl same ↦
              let r : get_or new j d ≡ s = ap (λ (x : List Standing). get_or x j d) e ∙ ap (λ (k : ℕ). get_or (set old i s) k d) same ∙ get_or-set_same old i s d (omega arith) in
              subst (λ (x : Standing). Promised sets words m P (take j cs) x) (sym r) (subst (λ (k : ℕ). Promised sets words m P (take k cs) s) (sym same) here)
          | inr apart ↦
              let r : get_or new j d ≡ get_or old j d = ap (λ (x : List Standing). get_or x j d) e ∙ get_or-set_other old i j s d apart in
              subst (λ (x : Standing). Promised sets words m P (take j cs) x) (sym r) (before j d (omega arith) l)
        ]

    -- those past it are unchanged
    pub left : (start : List Standing) → ((j : ℕ) (d : Standing) → i ≤ j → get_or old j d ≡ get_or start j d) → (j : ℕ) (d : Standing) → i < j → get_or new j d ≡ get_or start j d
    left start kept j d h = ap (λ (x : List Standing). get_or x j d) e ∙ get_or-set_other old i j s d (λ q. omega arith) ∙ kept j d (omega arith)
