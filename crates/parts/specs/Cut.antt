-- A stream and its parts.
use Rattle.std.specs.Prelude.{ℕ, zero, suc, ◌+◌, ◌*◌, min, List, [], ◌∷◌, length, take, drop, slice_index}

-- A part, with the place in the stream where it starts: the model byte, the pair file, or a hand-in file.
pub data Piece : Type 0 where
  model : ℕ → ℕ → Piece
  pair : List ℕ → ℕ → Piece
  hand_in : List ℕ → ℕ → Piece

-- The length that a file states: three bytes, of which the last two are the length of what follows.
abbrev pub stated : List ℕ → ℕ
stated bs = 3 + slice_index bs 1 * 256 + slice_index bs 2

-- How many of the bytes that are left the next file has: as many as it states, or all where they
-- end before. A missing byte counts as 0 above, so fewer than three bytes are one part.
abbrev pub part_length : List ℕ → ℕ
part_length bs = min (stated bs) (length bs)

-- The hand-ins in the bytes from a place of the stream on. Each has a byte at least, so the
-- number of bytes bounds the recursion.
unfoldable pub cut_within : ℕ → List ℕ → ℕ → List Piece
cut_within zero bs at = []
cut_within (suc n) [] at = []
cut_within (suc n) (b ∷ bs) at =
    hand_in (take (part_length (b ∷ bs)) (b ∷ bs)) at ∷ cut_within n (drop (part_length (b ∷ bs)) (b ∷ bs)) (at + part_length (b ∷ bs))

-- The hand-ins of all the bytes that are left.
unfoldable pub cut : List ℕ → ℕ → List Piece
cut bs at = cut_within (length bs) bs at

-- The pair file, and the hand-ins after it.
unfoldable pub files : List ℕ → ℕ → List Piece
files bs at = pair (take (part_length bs) bs) at ∷ cut (drop (part_length bs) bs) (at + part_length bs)

-- A model byte, a pair file, and hand-ins until the stream ends.
unfoldable pub parts_from : List ℕ → ℕ → List Piece
parts_from [] at = []
parts_from (b ∷ bs) at = model b at ∷ files bs (at + 1)

-- The parts of a stream.
abbrev pub parts_of : List ℕ → List Piece
parts_of bs = parts_from bs 0
