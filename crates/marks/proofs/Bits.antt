-- Bits of a word, and how many are set.
use Rattle.std.proofs.Common.{◌≡◌, ℕ, zero, suc, ◌+◌, ◌-◌, ◌/◌, ◌%◌, ◌^◌, ◌<◌, min, Bool, cond, not, ◌&&◌, eqb, refl, ap, ◌∙◌, sym, ap₂, add-zero, add_assoc, add-suc, one-add, pow-suc, zero-add, arith}
use mir.Syntax.{w64}
use lib.Bits.{bit_and}
use lib.Count.{ones, ones_step, ones-ones}
use Rattle.std.proofs.lemmas.Nat.Bits.{bit_at_and, bit_at-lt, bit_at-suc, bit_at_lowest, bit_at_not}
use Rattle.marks.specs.Marks.{bit, count_below}

pub same_test : (m n : ℕ) → m ≡ n → eqb m 1 ≡ eqb n 1
same_test m n e = ap (λ (d : ℕ). eqb d 1) e

-- A digit that is in the first word and not in the second.
digits : (m n : ℕ) → m < 2 → n < 2 → eqb (min m (1 - n)) 1 ≡ (eqb m 1 && not (eqb n 1))
digits zero zero h k = refl
digits zero (suc zero) h k = refl
digits (suc zero) zero h k = refl
digits (suc zero) (suc zero) h k = refl
digits m (suc (suc n)) h k = absurd (omega arith)
digits (suc (suc m)) n h k = absurd (omega arith)

pub bit_left : (a b i : ℕ) → b < 2 ^ 64 → i < 64 → bit (bit_and a ((2 ^ 64 - 1) - b)) i ≡ (bit a i && not (bit b i))
unfolding bit
bit_left a b i h l =
    same_test _ _ (bit_at_and a ((2 ^ 64 - 1) - b) i ∙ ap (min ((a / 2 ^ i) % 2)) (bit_at_not w64 b i h l))
    ∙ digits ((a / 2 ^ i) % 2) ((b / 2 ^ i) % 2) (bit_at-lt a i) (bit_at-lt b i)

pub count_ext : (P Q : ℕ → Bool) (n : ℕ) → ((k : ℕ) → k < n → P k ≡ Q k) → count_below P n ≡ count_below Q n
unfolding count_below
count_ext P Q zero h = refl
count_ext P Q (suc n) h = ap₂ (λ (a : ℕ) (b : Bool). a + cond b 1 0) (count_ext P Q n (λ k l. h k (omega arith))) (h n (omega arith))

pub count_add : (P : ℕ → Bool) (a b : ℕ) → count_below P (a + b) ≡ count_below P a + count_below (λ k. P (a + k)) b
unfolding count_below
count_add P a zero = ap (count_below P) (add-zero a) ∙ sym (add-zero (count_below P a))
count_add P a (suc b) =
    ap (count_below P) (add-suc a b) ∙ ap (λ (n : ℕ). n + cond (P (a + b)) 1 0) (count_add P a b) ∙ add_assoc _ _ _

one_of : (n : ℕ) → n < 2 → cond (eqb n 1) 1 0 ≡ n
one_of zero h = refl
one_of (suc zero) h = refl
one_of (suc (suc n)) h = absurd (omega arith)

pub ones_count : (k w : ℕ) → w < 2 ^ k → ones w ≡ count_below (bit w) k
unfolding count_below bit
ones_count zero w h = let e : w ≡ 0 = omega arith in ap ones e ∙ ones-ones 0
ones_count (suc k) w h =
    let half : w / 2 < 2 ^ k = omega (arith, pow-suc 2 k) in
    let low : w % 2 ≡ count_below (bit w) 1 = sym (zero-add _ ∙ ap (λ (n : ℕ). cond (eqb n 1) 1 0) (bit_at_lowest w) ∙ one_of (w % 2) (omega arith)) in
    let rest : ones (w / 2) ≡ count_below (λ i. bit w (1 + i)) k =
    ones_count k (w / 2) half ∙ count_ext (bit (w / 2)) (λ i. bit w (1 + i)) k (λ i l. sym (ap (λ (n : ℕ). eqb n 1) (ap (λ (j : ℕ). (w / 2 ^ j) % 2) (one-add i) ∙ bit_at-suc w i))) in
    ones_step w ∙ ap₂ (λ (a b : ℕ). a + b) low rest ∙ sym (count_add (bit w) 1 k) ∙ ap (count_below (bit w)) (one-add k)
