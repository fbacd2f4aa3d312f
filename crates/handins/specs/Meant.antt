-- What the record of a hand-in stands for, and what an answer says of the bytes.
use Rattle.std.specs.Prelude.{◌≡◌, ℕ, List, take, Ok, Err, Result}
use Rattle.trace.specs.declared.refusal.Refusal.{Refusal}
use Rattle.handins.specs.Encoded.{Derivation, IsHandIn}
use Rattle.handins.specs.declared.hand_in.HandIn.{HandIn}

abbrev pub meant : HandIn → Derivation
meant h = record { to = h.replacement; from = h.original; steps = take h.count h.steps }

-- The bytes are this derivation's file, and no other's.
pub record OnlyHandIn (bs : List ℕ) (d : Derivation) : Type 0 where
  pub is : IsHandIn bs d
  pub only : (c : Derivation) → IsHandIn bs c → c ≡ d

-- A hand-in is answered exactly for its file; bytes that are declined are no hand-in's file.
abbrev pub Judged : Result HandIn Refusal → List ℕ → Type 0
Judged (Ok h) bs = OnlyHandIn bs (meant h)
Judged (Err e) bs = (d : Derivation) → IsHandIn bs d → ⊥
