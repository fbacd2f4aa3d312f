use Rattle.std.proofs.Common.{◌≡◌, ℕ, not, ◌&&◌, ltb}
use Rattle.snippet.specs.Meant.{sizes_of, program_of}
use Rattle.runs.specs.Runs.{idle}
use Rattle.marks.specs.Marks.{marked}
use Rattle.cases.proofs.active.active_runs.Given as goal

abbrev pub invariant-loop-k : goal.invariant-loop-k
invariant-loop-k l = (j : ℕ) → marked l.active j ≡ (ltb j l.k && not (idle (sizes_of l.snippet) (program_of l.snippet) j))
