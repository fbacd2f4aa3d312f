-- The parts of what is left, one at a time.
use Rattle.std.proofs.Common.{◌≡◌, ℕ, zero, suc, ◌+◌, ◌-◌, ◌<◌, ◌≤◌, List, [], ◌∷◌, length, get_or, take, drop, refl, ap, ◌∙◌, arith}
use Rattle.std.proofs.lemmas.List.{length-drop, drop-drop, length-take-le, take_rest, drop_more, drop_all}
use Rattle.parts.specs.Cut.{model, pair, hand_in, part_length, cut_within, cut, files, parts_from}

-- Any bound that suffices gives the same.
enough : (n m : ℕ) (bs : List ℕ) (at : ℕ) → length bs ≤ n → length bs ≤ m → cut_within n bs at ≡ cut_within m bs at
unfolding cut_within
enough zero zero bs at h k = refl
enough zero (suc m) [] at h k = refl
enough zero (suc m) (b ∷ bs) at h k = absurd (omega arith)
enough (suc n) zero [] at h k = refl
enough (suc n) zero (b ∷ bs) at h k = absurd (omega arith)
enough (suc n) (suc m) [] at h k = refl
enough (suc n) (suc m) (b ∷ bs) at h k =
    let p = part_length (b ∷ bs) in
    let l = length-drop p (b ∷ bs) in
    ap (λ ps. hand_in (take p (b ∷ bs)) at ∷ ps) (enough n m (drop p (b ∷ bs)) (at + p) (omega arith) (omega arith))

-- Taking the next part is one step of the cut.
pub cut_step : (bs : List ℕ) (at : ℕ) → 0 < length bs → cut bs at ≡ hand_in (take (part_length bs) bs) at ∷ cut (drop (part_length bs) bs) (at + part_length bs)
unfolding cut cut_within
cut_step [] at h = absurd (omega arith)
cut_step (b ∷ bs) at h =
    let p = part_length (b ∷ bs) in
    let l = length-drop p (b ∷ bs) in
    ap (λ ps. hand_in (take p (b ∷ bs)) at ∷ ps) (enough (length bs) (length (drop p (b ∷ bs))) (drop p (b ∷ bs)) (at + p) (omega arith) (omega arith))

pub cut_none : (at : ℕ) → cut [] at ≡ []
unfolding cut cut_within
cut_none at = refl

-- The same by places of the stream, where a file was taken from the bytes that are left.
module _ (stream : List ℕ) (at : ℕ) where
  pub none_left : length stream ≤ at → (parts_from (drop at stream) at ≡ []) × (cut (drop at stream) at ≡ [])
  unfolding parts_from cut cut_within
  none_left h = rw (drop_all at stream h) (refl, refl)

  pub model_taken : (byte : ℕ) → byte ≡ get_or stream at 0 → at < length stream → parts_from (drop at stream) at ≡ model byte at ∷ files (drop (at + 1) stream) (at + 1)
  unfolding parts_from
  model_taken byte e h = rw e (ap (λ bs. parts_from bs at) (drop_more stream at 0 h))

  abbrev bytes_left : List ℕ
  bytes_left = take (length stream - at) (drop at stream)

  module _ (file : List ℕ) (is : file ≡ take (part_length bytes_left) bytes_left) where
    first : take (part_length (drop at stream)) (drop at stream) ≡ file
    first = rw (is, take_rest stream at) refl

    size : part_length (drop at stream) ≡ length file
    size = rw (← first, length-take-le (part_length (drop at stream)) (drop at stream) (omega arith)) refl

    others : drop (part_length (drop at stream)) (drop at stream) ≡ drop (at + length file) stream
    others = drop-drop (part_length (drop at stream)) at stream ∙ ap (λ (k : ℕ). drop (at + k) stream) size

    pub pair_taken : files (drop at stream) at ≡ pair file at ∷ cut (drop (at + length file) stream) (at + length file)
    unfolding files
    pair_taken = rw (first, others, size) refl

    pub hand_in_taken : at < length stream → cut (drop at stream) at ≡ hand_in file at ∷ cut (drop (at + length file) stream) (at + length file)
    hand_in_taken h = cut_step (drop at stream) at (omega (arith, length-drop at stream)) ∙ rw (first, others, size) refl
