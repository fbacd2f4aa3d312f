-- What the parts of a stream are, and that no others are so.
use Rattle.std.specs.Prelude.{◌≡◌, ℕ, ◌+◌, ◌<◌, ◌≤◌, List, [], ◌∷◌, length}
use Rattle.std.specs.List.{flat_map}
use Rattle.parts.specs.Cut.{Piece, model, pair, hand_in, stated, parts_of}

-- The bytes of a part, and the place where it starts.
abbrev pub bytes_of : Piece → List ℕ
bytes_of (model b at) = b ∷ []
bytes_of (pair bs at) = bs
bytes_of (hand_in bs at) = bs

abbrev pub place_of : Piece → ℕ
place_of (model b at) = at
place_of (pair bs at) = at
place_of (hand_in bs at) = at

-- The first part starts at a place, and each other where the one before it ends.
abbrev pub Placed : ℕ → List Piece → Type 0
Placed n [] = Unit {0}
Placed n (p ∷ ps) = (place_of p ≡ n) × Placed (n + length (bytes_of p)) ps

-- Each file has the length that it states, but for the last, which the stream's end may cut short.
abbrev pub Whole : List Piece → Type 0
Whole [] = Unit {0}
Whole (p ∷ []) = length (bytes_of p) ≤ stated (bytes_of p)
Whole (p ∷ q ∷ ps) = (length (bytes_of p) ≡ stated (bytes_of p)) × Whole (q ∷ ps)

-- Hand-ins, each with a byte at least.
abbrev pub HandIns : List Piece → Type 0
HandIns [] = Unit {0}
HandIns (model b at ∷ ps) = ⊥
HandIns (pair bs at ∷ ps) = ⊥
HandIns (hand_in bs at ∷ ps) = (0 < length bs) × HandIns ps

-- The files that bytes from a place on are, one after another.
pub record Laid (bs : List ℕ) (at : ℕ) (ps : List Piece) : Type 0 where
  pub rejoined : flat_map bytes_of ps ≡ bs
  pub placed : Placed at ps
  pub whole : Whole ps

-- The parts of a stream are its first byte, a pair file and hand-ins, and no other cut is so.
pub record Cuts (b : ℕ) (bs : List ℕ) : Type 0 where
  pub file : List ℕ
  pub handed : List Piece
  pub parts : parts_of (b ∷ bs) ≡ model b 0 ∷ pair file 1 ∷ handed
  pub laid : Laid bs 1 (pair file 1 ∷ handed)
  pub hand_ins : HandIns handed
  pub only : (f : List ℕ) (ps : List Piece) → Laid bs 1 (pair f 1 ∷ ps) → HandIns ps → parts_of (b ∷ bs) ≡ model b 0 ∷ pair f 1 ∷ ps

-- An empty stream has no parts.
abbrev pub Rejoins : List ℕ → Type 0
Rejoins [] = parts_of [] ≡ []
Rejoins (b ∷ bs) = Cuts b bs
