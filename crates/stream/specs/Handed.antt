-- A case after hand-ins, and the lines that answered them.
use Rattle.std.specs.Prelude.{◌≡◌, ℕ, List, map}
use Rattle.ordering.specs.Meaning.{Meaning}
use Rattle.pairs.specs.Meant.{meant}
use Rattle.cases.specs.History.{hand_in}
use Rattle.cases.specs.Standing.{Follows, Stands}
use Rattle.cases.specs.declared.case.Case.{Case}
use Rattle.stream.specs.Printed.{Answers}

-- The case is as the hand-ins leave it, and the bytes answer them.
pub record Handed {M : Type 0} (meaning : M → Meaning) (before after : Case M) (files : List (List ℕ)) (out : List ℕ) : Type 0 where
  pub pair : after.pair ≡ before.pair
  pub model : after.model ≡ before.model
  pub answers : Answers (meaning before.model) (meant before.pair) files out
  pub follows : Follows meaning after (map hand_in files)
  pub stands : Stands meaning after (map hand_in files)
