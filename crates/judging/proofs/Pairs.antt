-- The two snippets of a pair have the same sizes.
use Rattle.std.proofs.Common.{◌≡◌, ℕ, refl}
use Rattle.snippet.specs.Keeps.{Sizes}
use Rattle.snippet.specs.Meant.{sizes_of}
use Rattle.pairs.specs.declared.pair.Pair.{Pair}

same : (v v' r r' l l' : ℕ) → v' ≡ v → r' ≡ r → l' ≡ l → ◌≡◌ {A = Sizes} (record { values = v'; registers = r'; locations = l' }) (record { values = v; registers = r; locations = l })
same v v' r r' l l' a b c = rw (a, b, c) refl

pub same_sizes : (p : Pair) → sizes_of p.replacement ≡ sizes_of p.original
same_sizes p = same _ _ _ _ _ _ p.same_values p.same_registers p.same_locations
