-- Words of bits: one set bit more, the lowest bit that is left, and a count word by word.
use Rattle.std.proofs.Common.{◌≡◌, ℕ, suc, ◌+◌, ◌-◌, ◌*◌, ◌/◌, ◌%◌, ◌^◌, ◌<◌, ◌≤◌, Bool, false, not, ◌&&◌, ◌||◌, eqb, List, [], ◌∷◌, length, get_or, set, drop, replicate, Some, sym, refl, ap, ◌∙◌, ap₂, inl, inr, arith, get_or-set_other, get_or-set_same}
use mir.Syntax.{w64}
use lib.Bits.{bit_and, bit_or, and_le_l}
use lib.Count.{count_trailing_zeros, ones}
use Rattle.std.specs.List.{sum_by}
use Rattle.std.proofs.Math.Bool.{or-true, or-false}
use Rattle.std.proofs.lemmas.Nat.{div-mul-add, mod-mul-add}
use Rattle.std.proofs.lemmas.Nat.Bits.{bit_at-zero, bit_at_set_same, bit_at_set_other, bit_at-trailing_zeros}
use Rattle.std.proofs.lemmas.List.{get_or_past, get_or-replicate, length-replicate, drop_more, length-drop}
use Rattle.std.proofs.lemmas.List.Sums.{sum_by-cons}
use Rattle.std.proofs.lemmas.Bool.{eq-eqb, ne_eqb, cases_eq, cases_lt}
use Rattle.marks.specs.Marks.{bit, bit_of, Lowest, count_below}
use Rattle.marks.proofs.Bits.{same_test, bit_left, ones_count, count_ext, count_add}

-- a word with one bit more
module _ (ws : List ℕ) (k : ℕ) where
  abbrev more : ℕ
  more = bit_or (get_or ws (k / 64) 0) (1 * 2 ^ (k % 64) % 2 ^ 64)

  pub bit_added : k / 64 < length ws → (q : ℕ) → bit_of (set ws (k / 64) more) q ≡ (bit_of ws q || eqb q k)
  unfolding bit bit_of
  bit_added h q =
      let low : k % 64 < 64 = omega arith in
      elim (cases_eq (q / 64) (k / 64)) [
        | inr d ↦
            ap (λ (w : ℕ). bit w (q % 64)) (get_or-set_other ws (k / 64) (q / 64) more 0 d)
            ∙ sym (or-false _)
            ∙ ap (λ (b : Bool). bit_of ws q || b) (sym (ne_eqb q k (λ e. d (ap (λ (n : ℕ). n / 64) e))))
        | inl e ↦
            let here : get_or (set ws (k / 64) more) (q / 64) 0 ≡ more = ap (λ (i : ℕ). get_or (set ws (k / 64) more) i 0) e ∙ get_or-set_same ws (k / 64) more 0 h in
            ap (λ (w : ℕ). bit w (q % 64)) here
            ∙ elim (cases_eq q k) [
              | inl s ↦
                  ap (λ (n : ℕ). bit more (n % 64)) s
                  ∙ same_test _ _ (bit_at_set_same w64 (get_or ws (k / 64) 0) (k % 64) low)
                  ∙ sym (or-true (bit_of ws q))
                  ∙ ap (λ (b : Bool). bit_of ws q || b) (sym (eq-eqb q k s))
              | inr d ↦
                  same_test _ _ (bit_at_set_other w64 (get_or ws (k / 64) 0) (k % 64) low (q % 64) (λ m. d (omega arith)))
                  ∙ ap (λ (i : ℕ). bit (get_or ws i 0) (q % 64)) (sym e)
                  ∙ sym (or-false (bit_of ws q))
                  ∙ ap (λ (b : Bool). bit_of ws q || b) (sym (ne_eqb q k d))
            ]
      ]

none_at : (n i : ℕ) → ◌≡◌ {A = ℕ} (get_or {A = ℕ} (replicate n 0) i 0) 0
none_at n i = elim (cases_lt i n) [ inl h ↦ get_or-replicate n i 0 0 h | inr h ↦ get_or_past (replicate n 0) i 0 (omega (arith, length-replicate {A = ℕ} n 0)) ]

pub no_bits : (n k : ℕ) → bit_of (replicate n 0) k ≡ false
unfolding bit bit_of
no_bits n k = ap (λ (w : ℕ). bit w (k % 64)) (none_at n (k / 64)) ∙ same_test _ _ (bit_at-zero (k % 64))

-- no bit is set past the last word
pub bit_past : (ws : List ℕ) (k : ℕ) → length ws ≤ k / 64 → bit_of ws k ≡ false
unfolding bit bit_of
bit_past ws k h = ap (λ (w : ℕ). bit w (k % 64)) (get_or_past ws (k / 64) 0 h) ∙ same_test _ _ (bit_at-zero (k % 64))

-- bit i of word number `word`
bit_within : (ws : List ℕ) (word i : ℕ) → i < 64 → bit_of ws (word * 64 + i) ≡ bit (get_or ws word 0) i
unfolding bit_of
bit_within ws word i h = ap₂ (λ (a b : ℕ). bit (get_or ws a 0) b) (div-mul-add word 64 i h) (mod-mul-add word 64 i h)

-- the next of some elements
pub next_one : (xs rest others : List ℕ) (n x : ℕ) → rest ≡ drop n xs → rest ≡ x ∷ others → (x ≡ get_or xs n 0) × (others ≡ drop (n + 1) xs)
next_one xs rest others n x e f =
    let within : n < length xs = omega (arith, ap length e, ap length f, length-drop n xs) in
    let g = drop_more xs n 0 within in
    (cc, cc)

pub none_next : (xs rest : List ℕ) (n : ℕ) → rest ≡ drop n xs → length rest ≡ 0 → length xs ≤ n
none_next xs rest n e f = omega (arith, ap length e, length-drop n xs)

-- a word of each
module _ (here there : List ℕ) (word a b : ℕ) (is : a ≡ get_or here word 0) (is' : b ≡ get_or there word 0) where
  -- what is left of the first
  abbrev left : ℕ
  left = bit_and a ((2 ^ 64 - 1) - b)

  abbrev P : ℕ → Bool
  P k = bit_of here k && not (bit_of there k)

  module _ (small : b < 2 ^ 64) (inv : (k : ℕ) → k < word * 64 → P k ≡ false) where
    left_bit : (i : ℕ) → i < 64 → bit left i ≡ P (word * 64 + i)
    left_bit i h =
        bit_left a b i small h
        ∙ ap₂ (λ (x y : Bool). x && not y) (ap (λ (w : ℕ). bit w i) is ∙ sym (bit_within here word i h)) (ap (λ (w : ℕ). bit w i) is' ∙ sym (bit_within there word i h))

    before : (t : ℕ) → t ≤ 64 → ((i : ℕ) → i < t → bit left i ≡ false) → (k : ℕ) → k < word * 64 + t → P k ≡ false
    before t le none k h =
        elim (cases_lt k (word * 64)) [
          | inl l ↦ inv k l
          | inr g ↦
              let i : ℕ = k - word * 64 in
              let e : word * 64 + i ≡ k = omega arith in
              let it : i < t = omega arith in
              ap P (sym e) ∙ sym (left_bit i (omega arith)) ∙ none i it
        ]

    pub none_left : left ≡ 0 → (k : ℕ) → k < (word + 1) * 64 → P k ≡ false
    unfolding bit
    none_left e k h = before 64 (omega arith) (λ i l. ap (λ (w : ℕ). bit w i) e ∙ same_test _ _ (bit_at-zero i)) k (omega arith)

    pub some_left : a < 2 ^ 64 → 0 < left → Lowest P (Some (word * 64 + count_trailing_zeros 64 left))
    unfolding bit
    some_left fits p =
        let z = bit_at-trailing_zeros w64 left p (omega (arith, and_le_l a ((2 ^ 64 - 1) - b))) in (
          sym (left_bit (count_trailing_zeros 64 left) z.0) ∙ same_test _ _ z.1,
          (λ j h. before (count_trailing_zeros 64 left) (omega (arith, z.0)) (λ i l. same_test _ _ (z.2 i l)) j h),
        )

first_word : (w : ℕ) (ws : List ℕ) (k : ℕ) → k < 64 → bit w k ≡ bit_of (w ∷ ws) k
unfolding bit_of
first_word w ws k h = ap₂ (λ (a b : ℕ). bit (get_or (w ∷ ws) a 0) b) (sym (let e : k / 64 ≡ 0 = omega arith in e)) (sym (let e : k % 64 ≡ k = omega arith in e))

other_words : (w : ℕ) (ws : List ℕ) (k : ℕ) → bit_of ws k ≡ bit_of (w ∷ ws) (64 + k)
unfolding bit_of
other_words w ws k =
    let a : suc (k / 64) ≡ (64 + k) / 64 = omega arith in
    let b : k % 64 ≡ (64 + k) % 64 = omega arith in
    ap₂ (λ (a b : ℕ). bit (get_or (w ∷ ws) a 0) b) a b

-- Each word counts for itself.
pub count_words : (ws : List ℕ) → ((i : ℕ) → get_or ws i 0 < 2 ^ 64) → sum_by ones ws ≡ count_below (bit_of ws) (length ws * 64)
unfolding count_below
count_words [] h = refl
count_words (w ∷ ws) h =
    let e : 64 + length ws * 64 ≡ length (w ∷ ws) * 64 = omega arith in
    sum_by-cons ones w ws
    ∙ ap₂ (λ (a b : ℕ). a + b)
    (ones_count 64 w (h 0) ∙ count_ext (bit w) (bit_of (w ∷ ws)) 64 (first_word w ws))
    (count_words ws (λ i. h (suc i)) ∙ count_ext (bit_of ws) (λ k. bit_of (w ∷ ws) (64 + k)) (length ws * 64) (λ k l. other_words w ws k))
    ∙ sym (count_add (bit_of (w ∷ ws)) 64 (length ws * 64))
    ∙ ap (count_below (bit_of (w ∷ ws))) e
