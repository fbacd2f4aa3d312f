-- What a case holds after the calls made since its opening.
use Rattle.std.specs.Prelude.{◌≡◌, ℕ, true, List, [], ◌∷◌, ◌++◌, Ok, Err, Option, Result}
use Rattle.trace.specs.declared.refusal.Refusal.{Refusal}
use Rattle.ordering.specs.Meaning.{Meaning}
use Rattle.marks.specs.Marks.{marked, missing, Lowest, count_below}
use Rattle.pairs.specs.Meant.{meant}
use Rattle.cases.specs.History.{Call, Matched}
use Rattle.cases.specs.Promise.{VerdictPromise, CountPromise, Unobservable}
use Rattle.cases.specs.declared.case.Case.{Case}

-- The verdict and the count that the marks give.
abbrev pub Verdict : {M : Type 0} → Case M → Option ℕ → Type 0
Verdict c v = Lowest (missing c.active c.matched) v

abbrev pub Counted : {M : Type 0} → Case M → ℕ → ℕ → Type 0
Counted c n a = (n ≡ count_below (marked c.matched) 4096) × (a ≡ count_below (marked c.active) 4096)

-- The marks are the runs that the calls match. `M` is the model's type, and `meaning` what its value means.
pub record Follows {M : Type 0} (meaning : M → Meaning) (c : Case M) (calls : List Call) : Type 0 where
  pub matched : (k : ℕ) → marked c.matched k ≡ true → Matched (meaning c.model) (meant c.pair) k calls
  pub marks : (k : ℕ) → Matched (meaning c.model) (meant c.pair) k calls → marked c.matched k ≡ true

-- The whole promise at this moment: of the verdict and of the count that would be answered.
pub record Stands {M : Type 0} (meaning : M → Meaning) (c : Case M) (calls : List Call) : Type 0 where
  pub verdict : (v : Option ℕ) → Verdict c v → VerdictPromise (Unobservable (meaning c.model) (meant c.pair)) (meaning c.model) (meant c.pair) calls v
  pub count : (n a : ℕ) → Counted c n a → CountPromise (meaning c.model) (meant c.pair) calls n a

-- A call takes a case from one moment to the next: whatever calls it followed before, it follows them with this
-- one at their end, and the whole promise stands then.
abbrev pub GoesOn : {M : Type 0} → (M → Meaning) → Case M → Call → Case M → Type 0
GoesOn meaning before call after =
    (calls : List Call) → Follows meaning before calls
    → Follows meaning after (calls ++ call ∷ []) × Stands meaning after (calls ++ call ∷ [])

-- Pair, model and marks are as they were.
pub record Same {M : Type 0} (before after : Case M) : Type 0 where
  pub pair : after.pair ≡ before.pair
  pub model : after.model ≡ before.model
  pub active : after.active ≡ before.active
  pub matched : after.matched ≡ before.matched

-- A hand-in that is declined changes nothing.
abbrev pub Unchanged : {M : Type 0} → Result (Unit {0}) Refusal → Case M → Case M → Type 0
Unchanged (Ok _) before after = Unit {0}
Unchanged (Err e) before after = Same before after
