-- The numbers below v ^ m are the lists of m digits.
use Rattle.std.proofs.Common.{◌≡◌, ℕ, zero, suc, ◌+◌, ◌-◌, ◌*◌, ◌/◌, ◌%◌, ◌^◌, ◌<◌, ◌≤◌, Bool, true, false, cond, not, eqb, List, [], ◌∷◌, ◌++◌, length, take, drop, sym, refl, ap, ◌∙◌, ⊎_elim, mod-lt, div-lt_iff_lt-mul, suc-add, pow-suc, div-add-mod', zero-add, div-le_self, div-one, arith, pow_mono}
use native.Mathlib.Nat.{div-div-eq-div-mul, pow-zero, pow-le-pow_left, pow-succ'}
use lib.Arith.{digits_lt, digits_div, digits_mod}
use Rattle.std.proofs.lemmas.Bool.{eqb-true, eqb-false, eq-eqb, ne_eqb, cases_eq, cases_lt}
use Rattle.std.proofs.lemmas.List.{take_at, drop_at}
use Rattle.trace.specs.Limits.{SmallValues}
use Rattle.runs.specs.Runs.{digits, nonzero}

pub digits_length : (v m k : ℕ) → length (digits v m k) ≡ m
digits_length v zero k = refl
digits_length v (suc m) k = ap suc (digits_length v m (k / v))

pub digits_small : (v m k : ℕ) → 0 < v → SmallValues v (digits v m k)
digits_small v zero k h = tt
digits_small v (suc m) k h = (mod-lt k h, digits_small v m (k / v) h)

-- The first digit and the others.
pub digits_next : (v m k : ℕ) → 0 < m → digits v m k ≡ k % v ∷ digits v (m - 1) (k / v)
digits_next v zero k h = absurd (never h)
  where
    never : 0 < 0 → ⊥
    never l = omega arith
digits_next v (suc m) k h = let e : suc m - 1 ≡ m = omega arith in rw e refl

pub div_below : (v m k : ℕ) → 0 < v → 0 < m → k < v ^ m → k / v < v ^ (m - 1)
div_below v zero k h p l = absurd (never p)
  where
    never : 0 < 0 → ⊥
    never l = omega arith
div_below v (suc m) k h p l =
    let e : suc m - 1 ≡ m = omega arith in
    rw e ((div-lt_iff_lt-mul h).1 (rw (pow-suc v m) at l))

-- ---- the number that digits write

abbrev pub number : ℕ → List ℕ → ℕ
number v [] = 0
number v (x ∷ xs) = number v xs * v + x

pub number_digits : (v m k : ℕ) → 0 < v → k < v ^ m → number v (digits v m k) ≡ k
number_digits v zero k h l = let one = pow-zero v in omega arith
number_digits v (suc m) k h l =
    let below : k / v < v ^ m = (div-lt_iff_lt-mul h).1 (rw (pow-suc v m) at l) in
    ap (λ (n : ℕ). n * v + k % v) (number_digits v m (k / v) h below) ∙ div-add-mod' k v

pub digits_number : (v : ℕ) (xs : List ℕ) → SmallValues v xs → digits v (length xs) (number v xs) ≡ xs
digits_number v [] h = refl
digits_number v (x ∷ xs) h =
    rw (digits_mod (number v xs) h.0, digits_div (number v xs) h.0) (ap (λ (ys : List ℕ). x ∷ ys) (digits_number v xs h.1))

pub number_below : (v : ℕ) (xs : List ℕ) → SmallValues v xs → number v xs < v ^ length xs
number_below v [] h = let one = pow-zero v in omega arith
number_below v (x ∷ xs) h = rw (pow-suc v (length xs)) (digits_lt (number_below v xs h.1) h.0)

-- The lower digits and the upper ones.
pub digits_split : (v a b k : ℕ) → digits v (a + b) k ≡ digits v a k ++ digits v b (k / v ^ a)
digits_split v zero b k = rw (zero-add b, pow-zero v, div-one k) refl
digits_split v (suc a) b k =
    rw (suc-add a b, pow-succ' v a, ← div-div-eq-div-mul k v (v ^ a))
    (ap (λ (ys : List ℕ). k % v ∷ ys) (digits_split v a b (k / v)))

-- A number is 0 if all its digits are.
pub nonzero_digits : (v m k : ℕ) → 0 < v → k < v ^ m → nonzero (digits v m k) ≡ not (eqb k 0)
nonzero_digits v zero k h l = let one = pow-zero v in rw (eq-eqb k 0 (omega arith)) refl
nonzero_digits v (suc m) k h l =
    let below : k / v < v ^ m = (div-lt_iff_lt-mul h).1 (rw (pow-suc v m) at l) in
    by (eqb (k % v) 0) refl (nonzero_digits v m (k / v) h below)
  where
    whole : k / v * v + k % v ≡ k
    whole = div-add-mod' k v

    by : (c : Bool) → eqb (k % v) 0 ≡ c → {t : Bool} → t ≡ not (eqb (k / v) 0) → cond c t true ≡ not (eqb k 0)
    by true e {t} q = q ∙ ap not (⊎_elim (λ z. eq-eqb (k / v) 0 z ∙ sym (eq-eqb k 0 (from z))) (λ z. ne_eqb (k / v) 0 z ∙ sym (ne_eqb k 0 (λ p. z (to p)))) (cases_eq (k / v) 0))
      where
        from : k / v ≡ 0 → k ≡ 0
        from z = sym whole ∙ rw (z, eqb-true (k % v) 0 e) (omega arith)

        to : k ≡ 0 → k / v ≡ 0
        to p = let d = div-le_self k v in omega arith
    by false e q = sym (ap not (ne_eqb k 0 none))
      where
        none : k ≡ 0 → ⊥
        none p = eqb-false (k % v) 0 e (omega (arith, whole))

-- A number of digits is small where it writes few numbers.
pub few_digits : (v n : ℕ) → 2 ≤ v → v ^ n ≤ 4096 → n ≤ 12
few_digits v n h l = ⊎_elim (λ p. omega arith) (λ p. absurd (never p)) (cases_lt n 13)
  where
    never : 13 ≤ n → ⊥
    never p =
        let a : 2 ^ n ≤ v ^ n = pow-le-pow_left h n in
        let b : 2 ^ 13 ≤ 2 ^ n = pow_mono p in
        omega arith

pub lower_digits : (v a b k : ℕ) → take a (digits v (a + b) k) ≡ digits v a k
lower_digits v a b k = ap (take a) (digits_split v a b k) ∙ take_at (digits v a k) (digits v b (k / v ^ a)) a (digits_length v a k)

pub upper_digits : (v a b k : ℕ) → drop a (digits v (a + b) k) ≡ digits v b (k / v ^ a)
upper_digits v a b k = ap (drop a) (digits_split v a b k) ∙ drop_at (digits v a k) (digits v b (k / v ^ a)) a (digits_length v a k)
