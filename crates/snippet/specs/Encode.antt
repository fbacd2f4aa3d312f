-- The bytes of a snippet.
use Rattle.std.specs.Prelude.{ℕ, ◌/◌, ◌%◌, ◌<◌, List, [], ◌∷◌, ◌++◌, length, slice_index}
use Rattle.snippet.specs.Program.{Block, Command, end, then, skip, load, store, constant, copy, sum, equal, compare_and_swap, fence, get, print, branch, declare}

abbrev pub Bytes : List ℕ → Type 0
Bytes bs = (k : ℕ) → slice_index bs k < 256

-- Bytes behind their length in two bytes, the higher first.
abbrev pub sized : List ℕ → List ℕ
sized bs = (length bs / 256) ∷ (length bs % 256) ∷ bs

-- A command is its number and its operands, an inner block its length and its bytes.
abbrev mutual
  pub encode_b : Block → List ℕ
  encode_b end = []
  encode_b (then s b) = encode_c s ++ encode_b b

  pub encode_c : Command → List ℕ
  encode_c skip = 0 ∷ []
  encode_c (load a L) = 1 ∷ a ∷ L ∷ []
  encode_c (store L a) = 2 ∷ L ∷ a ∷ []
  encode_c (constant a x) = 3 ∷ a ∷ x ∷ []
  encode_c (copy a b) = 4 ∷ a ∷ b ∷ []
  encode_c (sum a b c) = 5 ∷ a ∷ b ∷ c ∷ []
  encode_c (equal a b c) = 6 ∷ a ∷ b ∷ c ∷ []
  encode_c (compare_and_swap a L c d) = 7 ∷ a ∷ L ∷ c ∷ d ∷ []
  encode_c fence = 8 ∷ []
  encode_c (get a) = 9 ∷ a ∷ []
  encode_c (print a) = 10 ∷ a ∷ []
  encode_c (branch a t e) = 11 ∷ a ∷ (sized (encode_b t) ++ sized (encode_b e))
  encode_c (declare a x b) = 12 ∷ a ∷ x ∷ sized (encode_b b)
