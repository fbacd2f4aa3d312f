-- Sets of behaviours closed under a model's own steps, and the surroundings built from them.
use Rattle.std.specs.Prelude.{[], ◌∷◌, ◌++◌, Bool, true, false, ◌≡◌, ℕ, ◌<◌, get_or, set}
use Rattle.trace.specs.declared.event.Event.{Event}
use Rattle.trace.specs.declared.event.Event.TheVariants.{Load as load, Store as store, LoadStore as load_store_event, Fence as fence, Get as get, Print as print}
use Rattle.trace.specs.Words.{Word, Registers, Behaviour, behaviour, Behaviours}
use Rattle.trace.specs.Limits.{locations, Small, SmallWord}
use Rattle.ordering.specs.Meaning.{Meaning}
use Rattle.surroundings.specs.Steps.{Relaxes}

-- Whatever the model's own steps lead to belongs to the set.
pub data Closed (m : Meaning) (B : Behaviours) : Behaviour → Type 0 where
  closed : {s e : Registers} {w w' : Word} → B (behaviour s e w) → Relaxes m w w' → Closed m B (behaviour s e w')

-- The behaviours of a set whose values are below v and whose locations are 0 to 7; words likewise.
abbrev pub Limited : ℕ → Behaviours → Behaviours
Limited v A b = A b × Small v b

abbrev pub LimitedWords : ℕ → (Word → Type 0) → Word → Type 0
LimitedWords v W w = W w × SmallWord v w

-- One behaviour after another, end registers meeting start registers.
pub data Joined (A B : Behaviours) : Behaviour → Type 0 where
  join : {s k e : Registers} {u w : Word} → A (behaviour s k u) → B (behaviour k e w) → Joined A B (behaviour s e (u ++ w))

-- Which way a choice goes: for a value that is not 0, or for 0.
abbrev pub Way : Bool → ℕ → Type 0
Way true n = ¬ (n ≡ 0)
Way false n = n ≡ 0

-- The behaviours whose start register i goes that way, and any others.
pub data Chosen (way : Bool) (i : ℕ) (A B : Behaviours) (b : Behaviour) : Type 0 where
  kept : Way way (get_or b.start i 0) → B b → Chosen way i A B b
  added : A b → Chosen way i A B b

-- Two words, each in its order, in one.
pub data Interleaved : Word → Word → Word → Type 0 where
  none : Interleaved [] [] []
  left : (e : Event) {u v w : Word} → Interleaved u v w → Interleaved (e ∷ u) v (e ∷ w)
  right : (e : Event) {u v w : Word} → Interleaved u v w → Interleaved u (e ∷ v) (e ∷ w)

pub data Beside (V : Word → Type 0) (B : Behaviours) : Behaviour → Type 0 where
  beside : {s e : Registers} {u v w : Word} → B (behaviour s e u) → V v → Interleaved u v w → Beside V B (behaviour s e w)

-- Register i starts at x, and ends with its outer value.
pub data WithRegister (i x : ℕ) (B : Behaviours) : Behaviour → Type 0 where
  inside : {s e : Registers} {w : Word} → B (behaviour (set s i x) e w) → WithRegister i x B (behaviour s (set e i (get_or s i 0)) w)

-- The event is not one of L's.
abbrev pub Elsewhere : ℕ → Event → Type 0
Elsewhere L (load K x) = ¬ (K ≡ L)
Elsewhere L (store K x) = ¬ (K ≡ L)
Elsewhere L (load_store_event K x y) = ¬ (K ≡ L)
Elsewhere L fence = Unit {0}
Elsewhere L (get x) = Unit {0}
Elsewhere L (print x) = Unit {0}

-- From the value x on, each load and load-store of L finds L's latest value; the second word is the
-- first without L's events.
pub data Hides (L : ℕ) : ℕ → Word → Word → Type 0 where
  end : {x : ℕ} → Hides L x [] []
  found : {x : ℕ} {w w' : Word} → Hides L x w w' → Hides L x (load L x ∷ w) w'
  stored : {x y : ℕ} {w w' : Word} → Hides L y w w' → Hides L x (store L y ∷ w) w'
  exchanged : {x y : ℕ} {w w' : Word} → Hides L y w w' → Hides L x (load_store_event L x y ∷ w) w'
  other : {x : ℕ} {e : Event} {w w' : Word} → Elsewhere L e → Hides L x w w' → Hides L x (e ∷ w) (e ∷ w')

pub data WithLocation (L x : ℕ) (B : Behaviours) : Behaviour → Type 0 where
  inside : {s e : Registers} {w w' : Word} → B (behaviour s e w) → Hides L x w w' → WithLocation L x B (behaviour s e w')

-- A surrounding is built from the hole in any number of steps, with values below v. `S` names the sets
-- of behaviours that a step adds, `W` the sets of words.
pub data Surrounding {ℓ} (v : ℕ) (S W : Type ℓ) : Type ℓ where
  hole : Surrounding v S W
  before : S → Surrounding v S W → Surrounding v S W
  after : S → Surrounding v S W → Surrounding v S W
  choice : (way : Bool) (i : ℕ) → S → Surrounding v S W → Surrounding v S W
  beside : W → Surrounding v S W → Surrounding v S W
  declared_register : (i x : ℕ) → x < v → Surrounding v S W → Surrounding v S W
  declared_location : (L x : ℕ) → L < locations → x < v → Surrounding v S W → Surrounding v S W

module _ {ℓ} {S W : Type ℓ} (m : Meaning) (v : ℕ) (sets : S → Behaviours) (words : W → Word → Type 0) where
  -- The set of a surrounding around the set B, closed again after each step.
  abbrev pub around : Surrounding v S W → Behaviours → Behaviours
  around hole B = Closed m B
  around (before a C) B = Closed m (Joined (Limited v (sets a)) (around C B))
  around (after a C) B = Closed m (Joined (around C B) (Limited v (sets a)))
  around (choice way i a C) B = Closed m (Chosen way i (Limited v (sets a)) (around C B))
  around (beside u C) B = Closed m (Beside (LimitedWords v (words u)) (around C B))
  around (declared_register i x small C) B = Closed m (WithRegister i x (around C B))
  around (declared_location L x few small C) B = Closed m (WithLocation L x (around C B))
