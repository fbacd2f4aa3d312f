-- The calls made on a case since its opening, and the runs that they match.
use Rattle.std.specs.Prelude.{ℕ, List, ◌∷◌}
use Rattle.ordering.specs.Meaning.{Meaning}
use Rattle.pairs.specs.Program.{Program}
use Rattle.judging.specs.Valid.{Names}

-- A hand-in of some bytes, a verdict question, a count.
pub data Call : Type 0 where
  hand_in : List ℕ → Call
  verdict : Call
  count : Call

-- A run is matched once a hand-in with no cause against it named it. The bytes of the hand-in, the pair
-- and the model decide, and nothing else does.
pub data Matched (m : Meaning) (P : Program) (k : ℕ) : List Call → Type 0 where
  here : {bs : List ℕ} {calls : List Call} → Names m P bs k → Matched m P k (hand_in bs ∷ calls)
  later : {c : Call} {calls : List Call} → Matched m P k calls → Matched m P k (c ∷ calls)
