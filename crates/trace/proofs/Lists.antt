-- One list laid over another.
use Rattle.std.proofs.Common.{◌≡◌, ℕ, suc, ◌+◌, ◌≤◌, List, [], ◌∷◌, ◌++◌, length, drop, set, sym, ap, ◌∙◌, add-zero, add-suc, suc-add, arith}
use lib.Seq.{sets, sets-eq}

module _ {A : Type 0} where
  -- Two parts are laid one after the other.
  pub sets-append : (xs : List A) (i : ℕ) (a b : List A) → sets xs i (a ++ b) ≡ sets (sets xs i a) (i + length a) b
  sets-append xs i [] b = ap (λ (k : ℕ). sets xs k b) (sym (add-zero i))
  sets-append xs i (w ∷ a) b =
      sets-append (set xs i w) (suc i) a b
      ∙ ap (λ (k : ℕ). sets (sets (set xs i w) (suc i) a) k b) (suc-add i (length a) ∙ sym (add-suc i (length a)))

  -- A list laid from the first place on, where there is room for it.
  pub sets_start : (xs a : List A) → length a ≤ length xs → sets xs 0 a ≡ a ++ drop (length a) xs
  sets_start xs a h =
      let l : 0 + length a ≡ length a = omega arith in
      sets-eq a xs 0 (omega arith) ∙ ap (λ (k : ℕ). a ++ drop k xs) l
