-- Values below v, and locations 0 to 7.
use Rattle.std.specs.Prelude.{ℕ, ◌<◌, [], ◌∷◌}
use Rattle.trace.specs.declared.event.Event.{Event}
use Rattle.trace.specs.declared.event.Event.TheVariants.{Load, Store, LoadStore, Fence, Get, Print}
use Rattle.trace.specs.Words.{Word, Registers, Behaviour}

-- How many locations there can be at most.
abbrev pub locations : ℕ
locations = 8

abbrev pub SmallEvent : ℕ → Event → Type 0
SmallEvent v (Load L x) = (L < locations) × (x < v)
SmallEvent v (Store L x) = (L < locations) × (x < v)
SmallEvent v (LoadStore L x y) = (L < locations) × (x < v) × (y < v)
SmallEvent v Fence = Unit {0}
SmallEvent v (Get x) = x < v
SmallEvent v (Print x) = x < v

abbrev pub SmallWord : ℕ → Word → Type 0
SmallWord v [] = Unit {0}
SmallWord v (e ∷ w) = SmallEvent v e × SmallWord v w

abbrev pub SmallValues : ℕ → Registers → Type 0
SmallValues v [] = Unit {0}
SmallValues v (x ∷ xs) = (x < v) × SmallValues v xs

-- All values of a behaviour are below v, and its locations below 8.
pub record Small (v : ℕ) (b : Behaviour) : Type 0 where
  pub start : SmallValues v b.start
  pub end : SmallValues v b.end
  pub word : SmallWord v b.word
