-- A run takes each choice that every run takes. Where these are all choices, it leaves none, so it is not idle.
use Rattle.std.proofs.Common.{◌≡◌, ℕ, ◌-◌, ◌≤◌, List, [], ◌∷◌, length, false, eqb, get_or, set, refl, arith}
use Rattle.std.proofs.lemmas.Bool.{cond_both}
use Rattle.trace.specs.Words.{Registers}
use Rattle.snippet.specs.Program.{Block, Command, end, then, skip, load, store, constant, copy, sum, equal, compare_and_swap, fence, get, print, branch, declare, choices_b}
use Rattle.snippet.specs.Keeps.{Sizes}
use Rattle.runs.specs.Runs.{Run, others, run_b, run_c, run_of, start_of, choices_of, nonzero}
use Rattle.runs.specs.Sure.{sure_b, sure_c, NeverIdle}
use Rattle.runs.proofs.Exact.{choices-length}

one_less : (ch : List ℕ) → length (others ch) ≤ length ch - 1
one_less [] = omega arith
one_less (x ∷ xs) = omega arith

-- What a run leaves of its choices.
module _ (v : ℕ) where
  mutual
    rest_b : (b : Block) (ch : List ℕ) (r : Registers) → length (run_b v b ch r).rest ≤ length ch - sure_b b
    rest_b end ch r = omega arith
    rest_b (then s b) ch r =
        let o = run_c v s ch r in
        let one = rest_c s ch r in
        let two = rest_b b o.rest o.registers in
        omega arith

    rest_c : (s : Command) (ch : List ℕ) (r : Registers) → length (run_c v s ch r).rest ≤ length ch - sure_c s
    rest_c skip ch r = omega arith
    rest_c (load a L) ch r = one_less ch
    rest_c (store L a) ch r = omega arith
    rest_c (constant a x) ch r = omega arith
    rest_c (copy a b) ch r = omega arith
    rest_c (sum a b c) ch r = omega arith
    rest_c (equal a b c) ch r = omega arith
    rest_c (compare_and_swap a L c d) ch r = one_less ch
    rest_c fence ch r = omega arith
    rest_c (get a) ch r = one_less ch
    rest_c (print a) ch r = omega arith
    rest_c (branch a t e) ch r =
        let one = rest_b e ch r in
        let two = rest_b t ch r in
        cond_both (eqb (get_or r a 0) 0) (run_b v e ch r) (run_b v t ch r) (λ (o : Run). length o.rest ≤ length ch - 0) (λ q. omega arith) (λ q. omega arith)
    rest_c (declare a x b) ch r = rest_b b ch (set r a x)

none_nonzero : (ch : List ℕ) → length ch ≤ 0 → nonzero ch ≡ false
none_nonzero [] h = refl
none_nonzero (x ∷ xs) h = absurd (never h)
  where
    never : length (x ∷ xs) ≤ 0 → ⊥
    never h = omega arith

pub never_idle : (m : Sizes) (b : Block) → 2 ≤ m.values → sure_b b ≡ choices_b b → NeverIdle m b
unfolding run_of
never_idle m b two all k =
    let rest = rest_b m.values b (choices_of m b k) (start_of m k) in
    none_nonzero (run_of m b k).rest (omega (arith, choices-length m b two k))
