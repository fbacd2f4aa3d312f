-- What a cutter still has to give, and what it gives next.
use Rattle.std.specs.Prelude.{◌≡◌, ℕ, List, [], ◌∷◌, drop, Some, None, Option}
use Rattle.parts.specs.declared.cutter.Parts.{Parts}
use Rattle.parts.specs.declared.cutter.Stage.{Stage}
use Rattle.parts.specs.declared.cutter.Stage.TheVariants.{Model, Pair, HandIns}
use Rattle.parts.specs.declared.part.Part.{Part}
use Rattle.parts.specs.declared.part.Part.TheVariants as parts
use Rattle.parts.specs.Cut.{Piece, model, pair, hand_in, files, cut, parts_from}

-- A part as the stream has it.
abbrev pub piece_of : Part → Piece
piece_of (parts.Model byte at) = model byte at
piece_of (parts.Pair bytes at) = pair bytes.now at
piece_of (parts.HandIn bytes at) = hand_in bytes.now at

-- The parts of what is left of the stream, from the place where that starts.
abbrev pub left_at : Stage → List ℕ → ℕ → List Piece
left_at Model bs at = parts_from bs at
left_at Pair bs at = files bs at
left_at HandIns bs at = cut bs at

-- The bytes that have not been taken yet.
abbrev pub rest : Parts → List ℕ
rest p = drop p.at p.stream.now

-- The parts that have not been taken yet.
abbrev pub left : Parts → List Piece
left p = left_at p.stage (rest p) p.at

-- The first part that was left is taken; where none is left, none is, and nothing changes.
abbrev pub Takes : Parts → Option Part → Parts → Type 0
Takes before (Some part) after = left before ≡ piece_of part ∷ left after
Takes before None after = (left before ≡ []) × (after ≡ before)
