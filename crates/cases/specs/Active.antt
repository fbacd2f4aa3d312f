-- The runs that are not idle, by a test.
use Rattle.std.specs.Prelude.{ℕ, Bool, not, ◌&&◌, nat_lt}
use Rattle.snippet.specs.Program.{Block}
use Rattle.snippet.specs.Keeps.{Sizes}
use Rattle.runs.specs.Runs.{idle, count}

abbrev pub is_active : Sizes → Block → ℕ → Bool
is_active m b k = nat_lt k (count m b) && not (idle m b k)
