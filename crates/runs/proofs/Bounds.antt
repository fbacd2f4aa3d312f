-- What the record of a snippet bounds: a run's word has at most one event for each statement, so at most 32.
use Rattle.std.proofs.Common.{◌≡◌, ℕ, ◌+◌, ◌^◌, ◌≤◌, eqb, List, length, get_or, take, set, Fits, w8, sym, ap, ◌∙◌, arith, length-append, length-take}
use Rattle.std.proofs.lemmas.Bool.{cond_both}
use Rattle.trace.specs.Words.{Registers}
use Rattle.snippet.specs.Program.{Block, Command, end, then, skip, load, store, constant, copy, sum, equal, compare_and_swap, fence, get, print, branch, declare, size_b, size_c}
use Rattle.snippet.specs.Keeps.{Sizes}
use Rattle.snippet.specs.Meant.{sizes_of, program_of}
use Rattle.snippet.specs.declared.snippet.Snippet.{Snippet}
use Rattle.snippet.proofs.Laying.{length_b}
use Rattle.runs.proofs.Digits.{few_digits}
use Rattle.runs.specs.Runs.{Run, run_b, run_c, run_of, start_of, choices_of, word_of, count}

module _ (v : ℕ) where
  mutual
    events_b : (b : Block) (ch : List ℕ) (r : Registers) → length (run_b v b ch r).word ≤ size_b b
    events_b end ch r = omega arith
    events_b (then s b) ch r =
        let o = run_c v s ch r in
        let one = events_c s ch r in
        let two = events_b b o.rest o.registers in
        omega (arith, length-append o.word (run_b v b o.rest o.registers).word)

    events_c : (s : Command) (ch : List ℕ) (r : Registers) → length (run_c v s ch r).word ≤ size_c s
    events_c skip ch r = omega arith
    events_c (load a L) ch r = omega arith
    events_c (store L a) ch r = omega arith
    events_c (constant a x) ch r = omega arith
    events_c (copy a b) ch r = omega arith
    events_c (sum a b c) ch r = omega arith
    events_c (equal a b c) ch r = omega arith
    events_c (compare_and_swap a L c d) ch r = omega arith
    events_c fence ch r = omega arith
    events_c (get a) ch r = omega arith
    events_c (print a) ch r = omega arith
    events_c (branch a t e) ch r =
        let one = events_b e ch r in
        let two = events_b t ch r in
        cond_both (eqb (get_or r a 0) 0) (run_b v e ch r) (run_b v t ch r) (λ (o : Run). length o.word ≤ size_c (branch a t e)) (λ q. omega arith) (λ q. omega arith)
    events_c (declare a x b) ch r = let h = events_b b ch (set r a x) in omega arith

word_size : (m : Sizes) (b : Block) (k : ℕ) → length (word_of m b k) ≤ size_b b
unfolding run_of
word_size m b k = events_b m.values b (choices_of m b k) (start_of m k)

pub word_few : (s : Snippet) (k : ℕ) → length (word_of (sizes_of s) (program_of s) k) ≤ 32
word_few s k =
    let h = word_size (sizes_of s) (program_of s) k in
    let n = s.body.len in
    let e = ap length s.body.laid ∙ length_b (program_of s) in
    let l : length (take n s.body.statements) ≤ n = simp length-take (omega arith) in
    omega (arith, s.body.few)

-- A snippet's record has the number of its runs.
pub count_is : (s : Snippet) → count (sizes_of s) (program_of s) ≡ s.runs
unfolding count
count_is s = sym (s.powered ∙ ap (λ (n : ℕ). s.body.limits.values ^ (s.body.limits.registers + n)) s.counted)

-- A snippet has few registers and choices, since its runs are few.
pub few_choices : (s : Snippet) → Fits w8 (s.body.limits.registers + s.choices)
few_choices s =
    let few = few_digits s.body.limits.values (s.body.limits.registers + s.choices) s.body.limits.few_values (omega (arith, s.powered, s.bounded)) in
    omega arith
