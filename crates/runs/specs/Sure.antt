-- The choices that every run takes.
use Rattle.std.specs.Prelude.{◌≡◌, ℕ, ◌+◌, false}
use Rattle.snippet.specs.Program.{Block, Command, end, then, skip, load, store, constant, copy, sum, equal, compare_and_swap, fence, get, print, branch, declare}
use Rattle.snippet.specs.Keeps.{Sizes}
use Rattle.runs.specs.Runs.{idle}

-- How many commands take a choice in every run: those that take one and stand in no if.
abbrev mutual
  pub sure_b : Block → ℕ
  sure_b end = 0
  sure_b (then s b) = sure_c s + sure_b b

  pub sure_c : Command → ℕ
  sure_c skip = 0
  sure_c (load a L) = 1
  sure_c (store L a) = 0
  sure_c (constant a x) = 0
  sure_c (copy a b) = 0
  sure_c (sum a b c) = 0
  sure_c (equal a b c) = 0
  sure_c (compare_and_swap a L c d) = 1
  sure_c fence = 0
  sure_c (get a) = 1
  sure_c (print a) = 0
  sure_c (branch a t e) = 0
  sure_c (declare a x b) = sure_b b

-- No run is idle.
abbrev pub NeverIdle : Sizes → Block → Type 0
NeverIdle m b = (k : ℕ) → idle m b k ≡ false
