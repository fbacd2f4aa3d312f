-- What a pair file is: the bytes of a pair that keeps the limits.
use Rattle.std.specs.Prelude.{◌≡◌, ℕ, ◌≤◌, true, List, ◌∷◌, ◌++◌}
use Rattle.snippet.specs.Program.{Block, size_b}
use Rattle.snippet.specs.Keeps.{Sizes, keeps_b}
use Rattle.snippet.specs.Encode.{sized, encode_b}
use Rattle.snippet.specs.Runs.{runs_of}
use Rattle.pairs.specs.Program.{Program}

-- The numbers of values, registers and locations, and both bodies behind their lengths.
abbrev pub encode_rest : Program → List ℕ
encode_rest P = P.sizes.values ∷ P.sizes.registers ∷ P.sizes.locations ∷ (sized (encode_b P.original) ++ sized (encode_b P.replacement))

-- The version, and the rest behind its length.
abbrev pub encode_pair : Program → List ℕ
encode_pair P = 1 ∷ sized (encode_rest P)

-- The limits of a snippet: how many statements, their operands and depth, and how many runs.
pub record Kept (m : Sizes) (b : Block) : Type 0 where
  pub few : size_b b ≤ 32
  pub proper : keeps_b m 0 b ≡ true
  pub runs : runs_of m b ≤ 4096

-- The bytes are the file of a pair that keeps the limits.
pub record IsFile (bs : List ℕ) (P : Program) : Type 0 where
  pub bytes : bs ≡ encode_pair P
  pub values : (2 ≤ P.sizes.values) × (P.sizes.values ≤ 4)
  pub registers : (1 ≤ P.sizes.registers) × (P.sizes.registers ≤ 4)
  pub locations : (1 ≤ P.sizes.locations) × (P.sizes.locations ≤ 8)
  pub original : Kept P.sizes P.original
  pub replacement : Kept P.sizes P.replacement
