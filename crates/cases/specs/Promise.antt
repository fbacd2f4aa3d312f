-- What the answers of a case promise after any calls.
use Rattle.std.specs.Prelude.{◌≡◌, ℕ, suc, ◌<◌, List, Some, None, Ok, Err, Option, Result}
use Rattle.trace.specs.declared.refusal.Refusal.{Refusal}
use Rattle.ordering.specs.Meaning.{Meaning}
use Rattle.surroundings.specs.Soundness.{AddsNothingByTests}
use Rattle.pairs.specs.Program.{Program}
use Rattle.runs.specs.Runs.{Active}
use Rattle.runs.specs.Behaviours.{Behaves}
use Rattle.judging.specs.Valid.{Names}
use Rattle.judging.specs.Judged.{Judged}
use Rattle.cases.specs.History.{Call, Matched}

-- How many numbers below n have a property.
pub data HowMany (P : ℕ → Type 0) : ℕ → ℕ → Type 0 where
  none : HowMany P 0 0
  counted : {n c : ℕ} → HowMany P n c → P n → HowMany P (suc n) (suc c)
  skipped : {n c : ℕ} → HowMany P n c → (P n → ⊥) → HowMany P (suc n) c

-- A run of the replacement that is not idle.
abbrev pub Replaces : Program → ℕ → Type 0
Replaces P k = Active P.sizes P.replacement k

-- No surrounding has an observation with the replacement that it lacks with the original. The sets that a
-- surrounding adds are those that tests decide.
abbrev pub Unobservable : Meaning → Program → Type 0
Unobservable m P = AddsNothingByTests m P.sizes.values (Behaves P.sizes P.original) (Behaves P.sizes P.replacement)

-- The verdict after the calls. `Sound` is what a sound verdict promises.
pub record VerdictPromise (Sound : Type 0) (m : Meaning) (P : Program) (calls : List Call) (v : Option ℕ) : Type 0 where
  -- a sound verdict is sound
  pub sound : v ≡ None → Sound
  -- it is sound exactly if every run that is not idle is matched
  pub matched : v ≡ None → (k : ℕ) → Replaces P k → Matched m P k calls
  pub exactly : ((k : ℕ) → Replaces P k → Matched m P k calls) → v ≡ None
  -- otherwise it is the lowest run that is not
  pub lowest : (k : ℕ) → v ≡ Some k → Replaces P k × (Matched m P k calls → ⊥) × ((j : ℕ) → j < k → Replaces P j → Matched m P j calls)

-- The count after the calls: n runs are matched, and a are not idle. No run has a number of 4,096 or above.
pub record CountPromise (m : Meaning) (P : Program) (calls : List Call) (n a : ℕ) : Type 0 where
  pub matched : HowMany (λ k. Matched m P k calls) 4096 n
  pub active : HowMany (Replaces P) 4096 a

-- What is answered to a hand-in: none, or the first cause against it; accepted exactly if it is valid.
abbrev pub HandInAnswer : Meaning → Program → List ℕ → Result (Unit {0}) Refusal → Type 0
HandInAnswer m P bs (Ok _) = (k : ℕ) × Judged m P bs (Ok k) × Names m P bs k
HandInAnswer m P bs (Err e) = Judged m P bs (Err e) × ((k : ℕ) → Names m P bs k → ⊥)
