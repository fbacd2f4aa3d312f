-- Pinned locations: the model under them, but nothing swaps or is forwarded where one is involved.
use Rattle.std.specs.Prelude.{ℕ, ◌/◌, ◌%◌, ◌^◌, Bool, not, ◌&&◌, ◌==◌}
use Rattle.ordering.specs.Meaning.{Meaning}

-- Bit L of the mask is set.
unfoldable pub pinned : ℕ → ℕ → Bool
pinned mask L = (mask / 2 ^ L) % 2 == 1

abbrev pub free : ℕ → ℕ → Bool
free mask L = not (pinned mask L)

abbrev pub pinning : ℕ → Meaning → Meaning
pinning mask m = record {
  swaps = λ a b. m.swaps a b && (free mask a.location && free mask b.location);
  forwards = λ L. m.forwards L && free mask L;
  permits = m.permits;
}
