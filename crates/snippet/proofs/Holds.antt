-- A list that holds another from a place on.
use Rattle.std.proofs.Common.{◌≡◌, ℕ, suc, ◌+◌, List, [], ◌∷◌, ◌++◌, length, get_or, refl, ap, ◌∙◌, subst, arith}

module _ {A : Type 0} (d : A) where
  abbrev pub Holds : List A → ℕ → List A → Type 0
  Holds ns at [] = Unit {0}
  Holds ns at (x ∷ xs) = (get_or ns at d ≡ x) × Holds ns (at + 1) xs

  pub moved : (ns : List A) (at at' : ℕ) (xs : List A) → at ≡ at' → Holds ns at xs → Holds ns at' xs
  moved ns at at' xs e h = subst (λ (k : ℕ). Holds ns k xs) e h

  pub front : (ns : List A) (at : ℕ) (xs ys : List A) → Holds ns at (xs ++ ys) → Holds ns at xs
  front ns at [] ys h = tt
  front ns at (x ∷ xs) ys h = (h.0, front ns (at + 1) xs ys h.1)

  pub back : (ns : List A) (at : ℕ) (xs ys : List A) → Holds ns at (xs ++ ys) → Holds ns (at + length xs) ys
  back ns at [] ys h = moved ns at (at + 0) ys (omega arith) h
  back ns at (x ∷ xs) ys h = moved ns (at + 1 + length xs) (at + suc (length xs)) ys (omega arith) (back ns (at + 1) xs ys h.1)

  pub join : (ns : List A) (at : ℕ) (xs ys : List A) → Holds ns at xs → Holds ns (at + length xs) ys → Holds ns at (xs ++ ys)
  join ns at [] ys h k = moved ns (at + 0) at ys (omega arith) k
  join ns at (x ∷ xs) ys h k = (h.0, join ns (at + 1) xs ys h.1 (moved ns (at + suc (length xs)) (at + 1 + length xs) ys (omega arith) k))

  down : (n : A) (ns : List A) (at : ℕ) (xs : List A) → Holds (n ∷ ns) (suc at) xs → Holds ns at xs
  down n ns at [] h = tt
  down n ns at (x ∷ xs) h = (h.0, down n ns (at + 1) xs (moved (n ∷ ns) (suc at + 1) (suc (at + 1)) xs (omega arith) h.1))

  up : (n : A) (ns : List A) (at : ℕ) (xs : List A) → Holds ns at xs → Holds (n ∷ ns) (suc at) xs
  up n ns at [] h = tt
  up n ns at (x ∷ xs) h = (h.0, moved (n ∷ ns) (suc (at + 1)) (suc at + 1) xs (omega arith) (up n ns (at + 1) xs h.1))

  pub self : (xs : List A) → Holds xs 0 xs
  self [] = tt
  self (x ∷ xs) = (refl, up x xs 0 xs (self xs))

  pub whole : (ns xs : List A) → Holds ns 0 xs → length xs ≡ length ns → ns ≡ xs
  whole [] [] h e = refl
  whole [] (x ∷ xs) h e = absurd (omega arith)
  whole (n ∷ ns) [] h e = absurd (omega arith)
  whole (n ∷ ns) (x ∷ xs) h e =
      let p : ns ≡ xs = whole ns xs (down n ns 0 xs h.1) (omega arith) in
      ap (λ (z : A). z ∷ ns) h.0 ∙ ap (λ (z : List A). x ∷ z) p
