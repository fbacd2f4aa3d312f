use Rattle.std.proofs.Common.{◌≡◌, ℕ, List, ◌++◌, vec_items}
use Rattle.stream.specs.Files.{files}
use Rattle.stream.specs.Handed.{Handed}
use Rattle.stream.proofs.judge.hand_in_all.Given as goal

-- the files that have been handed in
abbrev pub invariant-loop-bytes : goal.invariant-loop-bytes
invariant-loop-bytes g l =
    (taken : List (List ℕ))
    × (files l.initial.bytes-iterator ≡ taken ++ files l.bytes-iterator)
    × Handed g.M.Model.meaning l.initial.case l.case taken (vec_items l.out)
