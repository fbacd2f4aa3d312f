-- The steps that turn one word into another: the model's own (rules 1 and 2), and those that no
-- surrounding can tell (rules 3 to 7).
use Rattle.std.specs.Prelude.{◌≡◌, true, [], ◌∷◌, ◌++◌, ◌⊎◌, ℕ}
use Rattle.trace.specs.declared.event.Event.{Event}
use Rattle.trace.specs.declared.event.Event.TheVariants.{Load as load, Store as store}
use Rattle.trace.specs.declared.event.Access.{Access}
use Rattle.trace.specs.declared.event.Kind.TheVariants as kinds
use Rattle.trace.specs.Words.{Word, access}
use Rattle.ordering.specs.declared.model.Removal.TheVariants.{StoreAfterLoad, LoadAfterStore}
use Rattle.ordering.specs.Meaning.{Meaning}

-- A load or a store, whatever its value, is an access.
pub data IsAccess : Event → Access → Type 0 where
  is_load : {L x : ℕ} → IsAccess (load L x) (access kinds.Load L)
  is_store : {L x : ℕ} → IsAccess (store L x) (access kinds.Store L)

-- Rule 1 swaps two accesses, rule 2 forwards a store to a load; anywhere in the word.
pub data Relax (m : Meaning) : Word → Word → Type 0 where
  swap : {e f : Event} {a b : Access} {t : Word} → IsAccess e a → IsAccess f b → m.swaps a b ≡ true → Relax m (e ∷ f ∷ t) (f ∷ e ∷ t)
  forward : {L x : ℕ} {t : Word} → m.forwards L ≡ true → Relax m (store L x ∷ load L x ∷ t) (store L x ∷ t)
  past : (e : Event) {w w' : Word} → Relax m w w' → Relax m (e ∷ w) (e ∷ w')

-- Rules 3 to 7 put one event in the place of two, or of none.
pub data Becomes (m : Meaning) : Word → Event → Type 0 where
  rule3 : {L x : ℕ} → Becomes m (load L x ∷ load L x ∷ []) (load L x)
  rule4 : {L x y : ℕ} → Becomes m (store L x ∷ store L y ∷ []) (store L y)
  rule5 : {L x : ℕ} → m.permits StoreAfterLoad L ≡ true → Becomes m (load L x ∷ store L x ∷ []) (load L x)
  rule6 : {L x : ℕ} → m.permits LoadAfterStore L ≡ true → Becomes m (store L x ∷ load L x ∷ []) (store L x)
  rule7 : {L x : ℕ} → Becomes m [] (load L x)

pub data Invisible (m : Meaning) : Word → Word → Type 0 where
  here : {k : Event} {X t : Word} → Becomes m X k → Invisible m (X ++ t) (k ∷ t)
  past : (e : Event) {w w' : Word} → Invisible m w w' → Invisible m (e ∷ w) (e ∷ w')

-- A finite number of steps.
pub data Many (R : Word → Word → Type 0) : Word → Word → Type 0 where
  done : {w : Word} → Many R w w
  next : {u v w : Word} → R u v → Many R v w → Many R u w

-- A finite number of the model's own steps.
abbrev pub Relaxes : Meaning → Word → Word → Type 0
Relaxes m = Many (Relax m)

-- A finite number of steps of rules 1 to 7.
abbrev pub Reaches : Meaning → Word → Word → Type 0
Reaches m = Many (λ u w. Relax m u w ⊎ Invisible m u w)
