-- Sets of run numbers, one bit each; the lowest of some numbers, and how many they are.
use Rattle.std.specs.Prelude.{◌≡◌, ℕ, zero, suc, ◌+◌, ◌/◌, ◌%◌, ◌^◌, ◌<◌, Bool, true, false, cond, not, ◌&&◌, List, Some, None, Option, ◌==◌, slice_index}
use Rattle.marks.specs.declared.marks.Marks.{Marks}

-- Bit i of the word w.
unfoldable pub bit : ℕ → ℕ → Bool
bit w i = (w / 2 ^ i) % 2 == 1

-- Bit k of words of 64 bits each.
unfoldable pub bit_of : List ℕ → ℕ → Bool
bit_of ws k = bit (slice_index ws (k / 64)) (k % 64)

abbrev pub marked : Marks → ℕ → Bool
marked m k = bit_of m.words k

-- In the first set, and not in the second.
abbrev pub missing : Marks → Marks → ℕ → Bool
missing here there k = marked here k && not (marked there k)

-- The lowest number that passes a test, if any does.
abbrev pub Lowest : (ℕ → Bool) → Option ℕ → Type 0
Lowest P None = (k : ℕ) → P k ≡ false
Lowest P (Some k) = (P k ≡ true) × ((j : ℕ) → j < k → P j ≡ false)

-- How many numbers below n pass a test.
unfoldable pub count_below : (ℕ → Bool) → ℕ → ℕ
count_below P zero = 0
count_below P (suc n) = count_below P n + cond (P n) 1 0
