-- What an ordering model means, and what every model must show.
use Rattle.std.specs.Prelude.{◌≡◌, ℕ, ◌<◌, Bool, true, ◌⊎◌}
use Rattle.trace.specs.declared.event.Access.{Access}
use Rattle.trace.specs.declared.event.Kind.{Kind}
use Rattle.trace.specs.declared.event.Kind.TheVariants.{Load, Store}
use Rattle.trace.specs.Words.{access}
use Rattle.trace.specs.Limits.{locations}
use Rattle.ordering.specs.declared.model.Removal.{Removal}
use Rattle.ordering.specs.declared.model.Removal.TheVariants.{StoreAfterLoad, LoadAfterStore}

-- The three parts of a meaning: which access may swap with the access just after it (in this order),
-- at which locations a store is forwarded to a load, at which locations each removal is permitted.
pub record Meaning : Type 0 where
  pub swaps : Access → Access → Bool
  pub forwards : ℕ → Bool
  pub permits : Removal → ℕ → Bool

-- Nothing is allowed above location 7.
pub record Within (m : Meaning) : Type 0 where
  pub swapped : (a b : Access) → m.swaps a b ≡ true → (a.location < locations) × (b.location < locations)
  pub forwarded : (L : ℕ) → m.forwards L ≡ true → L < locations
  pub permitted : (r : Removal) (L : ℕ) → m.permits r L ≡ true → L < locations

-- Two accesses to one location swap only if both are loads.
abbrev pub OneLocation : Meaning → Type 0
OneLocation m = (a b : Access) → m.swaps a b ≡ true → a.location ≡ b.location → (a.kind ≡ Load) × (b.kind ≡ Load)

-- What may swap with one kind of access to L, before it or after it, may swap with the other kind too.
pub record SwapsToo (m : Meaning) (one other : Kind) (L : ℕ) : Type 0 where
  pub before : (a : Access) → m.swaps a (access one L) ≡ true → m.swaps a (access other L) ≡ true
  pub after : (b : Access) → m.swaps (access one L) b ≡ true → m.swaps (access other L) b ≡ true

-- Where a store may go after a load, a store of L swaps with whatever a load of L swaps with.
abbrev pub StoreGoes : Meaning → Type 0
StoreGoes m = (L : ℕ) → m.permits StoreAfterLoad L ≡ true → SwapsToo m Load Store L

-- Where a load may go after a store, L is forwarded, or a load of L swaps with whatever a store of L swaps with.
abbrev pub LoadGoes : Meaning → Type 0
LoadGoes m = (L : ℕ) → m.permits LoadAfterStore L ≡ true → (m.forwards L ≡ true) ⊎ SwapsToo m Store Load L

-- What every model must show: the soundness of a verdict rests on it.
pub record Lawful (m : Meaning) : Type 0 where
  pub within : Within m
  pub together : OneLocation m
  -- what rule 5 needs
  pub five : StoreGoes m
  -- what rule 6 needs
  pub six : LoadGoes m
