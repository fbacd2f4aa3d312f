-- What it means that a replacement is sound in every surrounding.
use Rattle.std.specs.Prelude.{◌≡◌, Bool, true, ℕ}
use Rattle.trace.specs.Words.{Word, Registers, Behaviour, behaviour, Behaviours, Observation, observation}
use Rattle.ordering.specs.Meaning.{Meaning}
use Rattle.surroundings.specs.Steps.{Reaches}
use Rattle.surroundings.specs.Surroundings.{Surrounding, around}

-- Some behaviour of the set shows the observation.
abbrev pub Observed : Behaviours → Observation → Type 0
Observed B o = (b : Behaviour) × B b × (observation b ≡ o)

-- In every surrounding, every observation with the replacement R is one with the original O.
abbrev pub AddsNothing {ℓ} : {S W : Type ℓ} → Meaning → ℕ → (S → Behaviours) → (W → Word → Type 0) → Behaviours → Behaviours → Type ℓ
AddsNothing {S = S} {W = W} m v sets words O R =
    (C : Surrounding v S W) (o : Observation) → Observed (around m v sets words C R) o → Observed (around m v sets words C O) o

-- The same, for the sets that tests decide.
abbrev pub AddsNothingByTests : Meaning → ℕ → Behaviours → Behaviours → Type 0
AddsNothingByTests m v O R = AddsNothing {S = Behaviour → Bool} {W = Word → Bool} m v (λ test b. test b ≡ true) (λ test w. test w ≡ true) O R

-- Every behaviour of R is reached from one of O with the same registers, by a finite number of steps.
abbrev pub Reached : Meaning → Behaviours → Behaviours → Type 0
Reached m O R = (s e : Registers) (w : Word) → R (behaviour s e w) → (w₀ : Word) × O (behaviour s e w₀) × Reaches m w₀ w

-- The theorem, for the sets that numbers name.
abbrev pub SoundEverywhere : Meaning → (ℕ → Behaviours) → (ℕ → Word → Type 0) → Type 0
SoundEverywhere m sets words = (v o r : ℕ) → Reached m (sets o) (sets r) → AddsNothing m v sets words (sets o) (sets r)
