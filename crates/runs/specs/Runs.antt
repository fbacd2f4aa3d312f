-- Runs: a snippet carried out from start registers, with a choice for each value that it finds. A run has a number.
use Rattle.std.specs.Prelude.{◌≡◌, ℕ, zero, suc, ◌+◌, ◌-◌, ◌/◌, ◌%◌, ◌^◌, ◌<◌, Bool, true, false, cond, List, [], ◌∷◌, ◌++◌, length, ◌==◌, slice_index, slice_set}
use Rattle.trace.specs.Words.{Word, Registers}
use Rattle.trace.specs.declared.event.Event.TheVariants.{Load, Store, LoadStore, Fence, Get, Print}
use Rattle.snippet.specs.Program.{Block, Command, end, then, skip, load, store, constant, copy, sum, equal, compare_and_swap, fence, get, print, branch, declare, choices_b}
use Rattle.snippet.specs.Keeps.{Sizes}

-- So many digits of a number in base v, the lowest first.
abbrev pub digits : ℕ → ℕ → ℕ → List ℕ
digits v zero k = []
digits v (suc m) k = k % v ∷ digits v m (k / v)

-- The next choice, and those after it.
abbrev pub first : List ℕ → ℕ
first [] = 0
first (x ∷ xs) = x

abbrev pub others : List ℕ → List ℕ
others [] = []
others (x ∷ xs) = xs

-- What a run leaves: its word, its end registers, and the choices that it did not take.
pub record Run : Type 0 where
  pub word : Word
  pub registers : Registers
  pub rest : List ℕ

abbrev pub ran : Word → Registers → List ℕ → Run
ran w z ch = record { word = w; registers = z; rest = ch }

-- A run with the choices ch, from the registers r, with values below v. Each load, compare-and-swap and get that is
-- carried out takes the next choice.
abbrev mutual
  pub run_b : ℕ → Block → List ℕ → Registers → Run
  run_b v end ch r = ran [] r ch
  run_b v (then s b) ch r =
      ran
      ((run_c v s ch r).word ++ (run_b v b (run_c v s ch r).rest (run_c v s ch r).registers).word)
      (run_b v b (run_c v s ch r).rest (run_c v s ch r).registers).registers
      (run_b v b (run_c v s ch r).rest (run_c v s ch r).registers).rest

  pub run_c : ℕ → Command → List ℕ → Registers → Run
  run_c v skip ch r = ran [] r ch
  run_c v (load a L) ch r = ran (Load L (first ch) ∷ []) (slice_set r a (first ch)) (others ch)
  run_c v (store L a) ch r = ran (Store L (slice_index r a) ∷ []) r ch
  run_c v (constant a x) ch r = ran [] (slice_set r a x) ch
  run_c v (copy a b) ch r = ran [] (slice_set r a (slice_index r b)) ch
  run_c v (sum a b c) ch r = ran [] (slice_set r a ((slice_index r b + slice_index r c) % v)) ch
  run_c v (equal a b c) ch r = ran [] (slice_set r a (cond (slice_index r b == slice_index r c) 1 0)) ch
  run_c v (compare_and_swap a L c d) ch r =
      ran (LoadStore L (first ch) (cond (first ch == slice_index r c) (slice_index r d) (first ch)) ∷ []) (slice_set r a (first ch)) (others ch)
  run_c v fence ch r = ran (Fence ∷ []) r ch
  run_c v (get a) ch r = ran (Get (first ch) ∷ []) (slice_set r a (first ch)) (others ch)
  run_c v (print a) ch r = ran (Print (slice_index r a) ∷ []) r ch
  run_c v (branch a t e) ch r = cond (slice_index r a == 0) (run_b v e ch r) (run_b v t ch r)
  run_c v (declare a x b) ch r =
      ran
      (run_b v b ch (slice_set r a x)).word
      (slice_set (run_b v b ch (slice_set r a x)).registers a (slice_index r a))
      (run_b v b ch (slice_set r a x)).rest

-- The lowest digits of a run's number are its start registers, from register 0 up.
unfoldable pub start_of : Sizes → ℕ → Registers
start_of m k = digits m.values m.registers k

-- The digits above them are its choices, one for each statement that can take one.
unfoldable pub choices_of : Sizes → Block → ℕ → List ℕ
choices_of m b k = digits m.values (choices_b b) (k / m.values ^ m.registers)

unfoldable pub run_of : Sizes → Block → ℕ → Run
run_of m b k = run_b m.values b (choices_of m b k) (start_of m k)

abbrev pub word_of : Sizes → Block → ℕ → Word
word_of m b k = (run_of m b k).word

abbrev pub end_of : Sizes → Block → ℕ → Registers
end_of m b k = (run_of m b k).registers

-- How many choices a run takes.
abbrev pub taken_of : Sizes → Block → ℕ → ℕ
taken_of m b k = choices_b b - length (run_of m b k).rest

-- Whether some number of a list is not 0.
abbrev pub nonzero : List ℕ → Bool
nonzero [] = false
nonzero (x ∷ xs) = cond (x == 0) (nonzero xs) true

-- A run is idle if a choice that it did not take is not 0.
abbrev pub idle : Sizes → Block → ℕ → Bool
idle m b k = nonzero (run_of m b k).rest

-- How many runs there are.
unfoldable pub count : Sizes → Block → ℕ
count m b = m.values ^ (m.registers + choices_b b)

-- The runs that are not idle.
abbrev pub Active : Sizes → Block → ℕ → Type 0
Active m b k = (k < count m b) × (idle m b k ≡ false)
