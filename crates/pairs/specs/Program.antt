-- A pair as it is meant.
use Rattle.snippet.specs.Program.{Block}
use Rattle.snippet.specs.Keeps.{Sizes}

-- An original and what is to replace it, over the same values, registers and locations.
pub record Program : Type 0 where
  pub sizes : Sizes
  pub original : Block
  pub replacement : Block
