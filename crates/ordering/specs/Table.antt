-- The five named models.
use Rattle.std.specs.Prelude.{ℕ, Bool, true, false, not, ◌&&◌, ◌||◌, ◌==◌, nat_le}
use Rattle.trace.specs.declared.event.Access.{Access}
use Rattle.trace.specs.declared.event.Kind.{Kind}
use Rattle.trace.specs.declared.event.Kind.TheVariants.{Load, Store}
use Rattle.ordering.specs.declared.model.Removal.{Removal}
use Rattle.ordering.specs.declared.model.Removal.TheVariants.{StoreAfterLoad, LoadAfterStore}
use Rattle.ordering.specs.Meaning.{Meaning}

-- Locations 0 to 7.
abbrev pub every : ℕ → Bool
every L = nat_le L 7

abbrev pub none : ℕ → Bool
none L = false

abbrev pub both : Access → Access → Bool
both a b = every a.location && every b.location

abbrev pub apart : Access → Access → Bool
apart a b = not (a.location == b.location)

abbrev pub store_then_load : Kind → Kind → Bool
store_then_load Load b = false
store_then_load Store Load = true
store_then_load Store Store = false

abbrev pub store_then_any : Kind → Kind → Bool
store_then_any Load b = false
store_then_any Store b = true

abbrev pub load_then_load : Kind → Kind → Bool
load_then_load Load Load = true
load_then_load Load Store = false
load_then_load Store b = false

abbrev pub six_only : Removal → ℕ → Bool
six_only StoreAfterLoad L = false
six_only LoadAfterStore L = every L

abbrev pub five_and_six : Removal → ℕ → Bool
five_and_six r L = every L

abbrev pub neither : Removal → ℕ → Bool
neither r L = false

abbrev pub tso_swaps : Access → Access → Bool
tso_swaps a b = both a b && (store_then_load a.kind b.kind && apart a b)

-- 1: nothing swaps, nothing is forwarded; rules 5 and 6 are permitted.
abbrev pub sc : Meaning
sc = record { swaps = λ a b. false; forwards = none; permits = five_and_six }

-- 2: a store may swap with a load after it, at different locations; nothing more.
abbrev pub ibm390 : Meaning
ibm390 = record { swaps = tso_swaps; forwards = none; permits = neither }

-- 3: as 390, and stores are forwarded everywhere; rule 6 is permitted.
abbrev pub tso : Meaning
tso = record { swaps = tso_swaps; forwards = every; permits = six_only }

-- 4: as TSO, and a store may swap with a store after it, at different locations; rules 5 and 6 are permitted.
abbrev pub pso : Meaning
pso = record { swaps = λ a b. both a b && (store_then_any a.kind b.kind && apart a b); forwards = every; permits = five_and_six }

-- 5: as TSO, and a load may swap with a load after it, at any locations; rule 6 is permitted.
abbrev pub clr : Meaning
clr = record { swaps = λ a b. both a b && (load_then_load a.kind b.kind || (store_then_load a.kind b.kind && apart a b)); forwards = every; permits = six_only }
