-- Matched runs as calls are added, and what the marks then follow.
use Rattle.std.proofs.Common.{◌≡◌, ℕ, Bool, true, false, ◌||◌, eqb, ◌⊎◌, List, [], ◌∷◌, ◌++◌, sym, ◌∙◌, subst, inl, inr}
use Rattle.std.proofs.lemmas.Bool.{both_ways, or_cases, or_left, or_right, eqb-true, eq-eqb}
use Rattle.ordering.specs.Meaning.{Meaning}
use Rattle.pairs.specs.Program.{Program}
use Rattle.judging.specs.Valid.{Names}
use Rattle.cases.specs.History.{Call, hand_in, verdict, count, Matched, here, later}

module _ {m : Meaning} {P : Program} {k : ℕ} where
  before : {h : List Call} (cs : List Call) → Matched m P k h → Matched m P k (h ++ cs)
  before cs (here n) = here n
  before cs (later q) = later (before cs q)

  after : (h : List Call) {cs : List Call} → Matched m P k cs → Matched m P k (h ++ cs)
  after [] q = q
  after (c ∷ h) q = later (after h q)

  split : (h : List Call) {cs : List Call} → Matched m P k (h ++ cs) → Matched m P k h ⊎ Matched m P k cs
  split [] q = inr q
  split (_ ∷ h) (here n) = inl (here n)
  split (_ ∷ h) (later q) = elim (split h q) [ inl a ↦ inl (later a) | inr b ↦ inr b ]

  never : Matched m P k [] → ⊥
  never q = elim q [ ]

  named : {bs : List ℕ} → Matched m P k (hand_in bs ∷ []) → Names m P bs k
  named (here n) = n
  named (later q) = absurd (never q)

  silent_verdict : Matched m P k (verdict ∷ []) → ⊥
  silent_verdict (later q) = never q

  silent_count : Matched m P k (count ∷ []) → ⊥
  silent_count (later q) = never q

-- A test that holds of just the matched runs.
pub record Marking (m : Meaning) (P : Program) (t : ℕ → Bool) (calls : List Call) : Type 0 where
  pub matched : (k : ℕ) → t k ≡ true → Matched m P k calls
  pub marks : (k : ℕ) → Matched m P k calls → t k ≡ true

module _ {m : Meaning} {P : Program} {t : ℕ → Bool} where
  pub marks_none : ((k : ℕ) → t k ≡ false) → Marking m P t []
  marks_none n = record { matched = λ k e. absurd (both_ways (t k) (n k) e); marks = λ k q. absurd (never q) }

  -- calls that match nothing
  quiet : (cs : List Call) → ((k : ℕ) → Matched m P k cs → ⊥) → (h : List Call) → Marking m P t h → Marking m P t (h ++ cs)
  quiet cs n h f = record {
    matched = λ k e. before cs (f.matched k e);
    marks = λ k q. elim (split h q) [ inl a ↦ f.marks k a | inr b ↦ absurd (n k b) ];
  }

  pub marks_verdict : (h : List Call) → Marking m P t h → Marking m P t (h ++ verdict ∷ [])
  marks_verdict = quiet (verdict ∷ []) (λ k q. silent_verdict q)

  pub marks_count : (h : List Call) → Marking m P t h → Marking m P t (h ++ count ∷ [])
  marks_count = quiet (count ∷ []) (λ k q. silent_count q)

  pub marks_refused : (bs : List ℕ) → ((k : ℕ) → Names m P bs k → ⊥) → (h : List Call) → Marking m P t h → Marking m P t (h ++ hand_in bs ∷ [])
  marks_refused bs n = quiet (hand_in bs ∷ []) (λ k q. n k (named q))

  -- a hand-in names one run
  pub marks_accepted : (bs : List ℕ) (run : ℕ) (t' : ℕ → Bool) → Names m P bs run → ((k : ℕ) → Names m P bs k → k ≡ run) → ((k : ℕ) → t' k ≡ (t k || eqb k run))
      → (h : List Call) → Marking m P t h → Marking m P t' (h ++ hand_in bs ∷ [])
  marks_accepted bs run t' n only e h f = record {
    matched = λ k q.
        elim (or_cases (t k) (eqb k run) (sym (e k) ∙ q)) [
          | inl a ↦ before (hand_in bs ∷ []) (f.matched k a)
          | inr b ↦ after h (here (subst (λ (j : ℕ). Names m P bs j) (sym (eqb-true k run b)) n))
        ];
    marks = λ k q.
        e k ∙ elim (split h q) [
          | inl a ↦ or_left (t k) (eqb k run) (f.marks k a)
          | inr b ↦ or_right (t k) (eqb k run) (eq-eqb k run (only k (named b)))
        ];
  }
