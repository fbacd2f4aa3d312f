-- The first parts of a stream.
use Rattle.std.proofs.Common.{◌≡◌, ℕ, List, [], ◌∷◌, None, sym, ap, ◌∙◌, arith}
use Rattle.parts.specs.Cut.{Piece, model, pair, parts_of}
use Rattle.parts.specs.Law.{bytes_of, HandIns, Rejoins}
use Rattle.stream.specs.Models.{model_of}
use Rattle.stream.specs.Printed.{Unfit, unknown}

nil_cons : {A : Type 0} (x : A) (xs : List A) → ◌≡◌ {A = List A} (x ∷ xs) [] → ⊥
nil_cons x xs e = let z : ◌≡◌ {A = ℕ} 0 1 = cc in omega arith

same_head : {A : Type 0} (x y : A) (xs ys : List A) → ◌≡◌ {A = List A} (x ∷ xs) (y ∷ ys) → (x ≡ y) × (xs ≡ ys)
same_head x y xs ys e = (cc, cc)

one_byte : (b c : ℕ) → ◌≡◌ {A = List ℕ} (b ∷ []) (c ∷ []) → b ≡ c
one_byte b c e = cc

-- A stream that has a part has a model byte, and then a pair and hand-ins.
record Starts (p : Piece) (rest : List Piece) : Type 0 where
  pub byte : ℕ
  pub file : List ℕ
  pub handed : List Piece
  pub is : p ≡ model byte 0
  pub then : rest ≡ pair file 1 ∷ handed
  pub hand_ins : HandIns handed

starts : (stream : List ℕ) → Rejoins stream → (p : Piece) (rest : List Piece) → parts_of stream ≡ p ∷ rest → Starts p rest
starts [] r p rest e = absurd (nil_cons p rest (sym e ∙ r))
starts (b ∷ bs) r p rest e =
    let h = same_head p (model b 0) rest (pair r.file 1 ∷ r.handed) (sym e ∙ r.parts) in
    record { byte = b; file = r.file; handed = r.handed; is = h.0; then = h.1; hand_ins = r.hand_ins }

module _ (stream : List ℕ) (r : Rejoins stream) (p : Piece) (rest : List Piece) (e : parts_of stream ≡ p ∷ rest) (byte : ℕ) (is : bytes_of p ≡ byte ∷ []) where
  first : parts_of stream ≡ model byte 0 ∷ rest
  first =
      let s = starts stream r p rest e in
      let b = one_byte s.byte byte (ap bytes_of (sym s.is) ∙ is) in
      e ∙ ap (λ (x : Piece). x ∷ rest) (s.is ∙ ap (λ (n : ℕ). model n 0) b)

  pub no_model : model_of byte ≡ None → Unfit stream
  no_model n = unknown first n
