-- The steps of a hand-in, read from chunks of four bytes.
use Rattle.std.proofs.Common.{◌≡◌, ℕ, zero, suc, ◌+◌, ◌-◌, ◌*◌, ◌/◌, ◌%◌, true, Ok, ◌<◌, ◌≤◌, List, [], ◌∷◌, ◌++◌, length, get_or, take, drop, set, refl, sym, ap, ◌∙◌, arith, length-drop, get_or-drop}
use Rattle.std.proofs.lemmas.Bool.{and_from, le-leb, eq-eqb}
use Rattle.std.specs.Simd.{first_chunks}
use Rattle.std.proofs.lemmas.List.{take_more_set, drop-drop, get_or-take}
use Rattle.rewrite.specs.declared.working.Step.{Step}
use Rattle.pairs.specs.File.{header_at}
use Rattle.handins.specs.File.{step_at, steps_from, right_length, derivation_at}
use Rattle.handins.proofs.Laws.{steps_more}

-- the first chunks of four bytes, by their places
chunk_at : (n i : ℕ) (bs : List ℕ) → i < n → get_or (first_chunks 4 n bs) i [] ≡ take 4 (drop (4 * i) bs)
chunk_at zero i bs h = absurd (omega arith)
chunk_at (suc n) zero bs h = refl
chunk_at (suc n) (suc i) bs h =
    chunk_at n i (drop 4 bs) (omega arith) ∙ ap (take 4) (drop-drop (4 * i) 4 bs ∙ ap (λ (k : ℕ). drop k bs) {x = 4 + 4 * i} {y = 4 * suc i} (omega arith))

module _ (bs : List ℕ) (chunks : List (List ℕ)) (n i : ℕ) (front : chunks ≡ first_chunks 4 n bs) (h : i < n) where
  pub byte : (j : ℕ) → j < 4 → get_or (get_or chunks i []) j 0 ≡ get_or bs (4 * i + j) 0
  byte j k = ap (λ (cs : List (List ℕ)). get_or (get_or cs i []) j 0) front ∙ ap (λ (c : List ℕ). get_or c j 0) (chunk_at n i bs h) ∙ get_or-take 4 (drop (4 * i) bs) j 0 k ∙ get_or-drop (4 * i) bs j 0

-- a step whose four bytes stand in their order from a place on
pub step_of : (bs : List ℕ) (at : ℕ) (s : Step) → s.rule ≡ get_or bs at 0 → s.place ≡ get_or bs (at + 1) 0 → s.location ≡ get_or bs (at + 2) 0 → s.value ≡ get_or bs (at + 3) 0 → s ≡ step_at bs at
step_of bs at s a b d e = λ i. record { rule = a i; place = b i; location = d i; value = e i }

-- one step more is written
pub step_written : (bs : List ℕ) (steps : List Step) (i : ℕ) (s : Step) → i < length steps → take i steps ≡ steps_from bs 0 i → s ≡ step_at bs (4 * i) → take (i + 1) (set steps i s) ≡ steps_from bs 0 (i + 1)
step_written bs steps i s h before is =
    take_more_set steps i s h ∙ ap (λ (x : List Step). x ++ s ∷ []) before ∙ ap (λ (t : Step). steps_from bs 0 i ++ t ∷ []) is
    ∙ ap (λ (j : ℕ). steps_from bs 0 i ++ step_at bs j ∷ []) {x = 4 * i} {y = 0 + 4 * i} (omega arith) ∙ sym (steps_more bs 0 i)

steps_shift : (bs : List ℕ) (k i n : ℕ) → steps_from (drop k bs) i n ≡ steps_from bs (k + i) n
steps_shift bs k i zero = refl
steps_shift bs k i (suc n) =
    let byte = λ (at to : ℕ) (e : k + at ≡ to). get_or-drop k bs at 0 ∙ ap (λ (j : ℕ). get_or bs j 0) e in
    let more = steps_shift bs k (i + 4) n ∙ ap (λ (j : ℕ). steps_from bs j n) {x = k + (i + 4)} {y = k + i + 4} (omega arith) in
    rw (byte i (k + i) refl, byte (i + 1) (k + i + 1) (omega arith), byte (i + 2) (k + i + 2) (omega arith), byte (i + 3) (k + i + 3) (omega arith), more) refl

-- a hand-in whose steps were read from what follows its two numbers
pub read : (bs tail : List ℕ) (steps : List Step) → header_at bs ≡ Ok tt → 7 ≤ length bs → tail ≡ drop 7 bs → length tail ≤ 256 → length tail % 4 ≡ 0
    → take (length tail / 4) steps ≡ steps_from tail 0 (length tail / 4)
    → derivation_at bs ≡ Ok (record { to = get_or bs 3 0 * 256 + get_or bs 4 0; from = get_or bs 5 0 * 256 + get_or bs 6 0; steps = take (length tail / 4) steps })
read bs tail steps header long is few even there =
    let n : length tail + 7 ≡ length bs = omega (arith, ap length is, length-drop 7 bs) in
    let count : (length bs - 3 - 4) / 4 ≡ length tail / 4 = omega arith in
    let right : right_length (length bs - 3) ≡ true = and_from _ _ (le-leb 4 (length bs - 3) (omega arith)) (and_from _ _ (le-leb (length bs - 3) 260 (omega arith)) (eq-eqb ((length bs - 3) % 4) 0 (omega arith))) in
    rw (header, right, count, there, is, steps_shift bs 7 0 (length (drop 7 bs) / 4)) refl
