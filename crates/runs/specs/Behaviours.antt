-- What a snippet can do, by its statements alone.
use Rattle.std.specs.Prelude.{◌≡◌, ℕ, ◌+◌, ◌%◌, ◌<◌, cond, [], ◌∷◌, ◌++◌, length, ◌==◌, ◌≢◌, slice_index, slice_set}
use Rattle.trace.specs.Words.{Word, Registers, Behaviour}
use Rattle.trace.specs.Limits.{SmallValues}
use Rattle.trace.specs.declared.event.Event.TheVariants.{Load, Store, LoadStore, Fence, Get, Print}
use Rattle.snippet.specs.Program.{Block, Command, end, then, skip, load, store, constant, copy, sum, equal, compare_and_swap, fence, get, print, branch, declare}
use Rattle.snippet.specs.Keeps.{Sizes}

-- With values below v: from the start registers r a block may come to the end registers z, with the word w.
abbrev mutual
  pub behaves_b : ℕ → Block → Registers → Word → Registers → Type 0
  behaves_b v end r w z = (w ≡ []) × (z ≡ r)
  -- the first command ends at the registers m from which the others start
  behaves_b v (then s b) r w z = (m : Registers) × (w₁ : Word) × (w₂ : Word) × behaves_c v s r w₁ m × behaves_b v b m w₂ z × (w ≡ w₁ ++ w₂)

  pub behaves_c : ℕ → Command → Registers → Word → Registers → Type 0
  behaves_c v skip r w z = (w ≡ []) × (z ≡ r)
  -- what a load, a compare-and-swap and a get find can be any value
  behaves_c v (load a L) r w z = (x : ℕ) × (x < v) × (w ≡ Load L x ∷ []) × (z ≡ slice_set r a x)
  behaves_c v (store L a) r w z = (w ≡ Store L (slice_index r a) ∷ []) × (z ≡ r)
  behaves_c v (constant a x) r w z = (w ≡ []) × (z ≡ slice_set r a x)
  behaves_c v (copy a b) r w z = (w ≡ []) × (z ≡ slice_set r a (slice_index r b))
  behaves_c v (sum a b c) r w z = (w ≡ []) × (z ≡ slice_set r a ((slice_index r b + slice_index r c) % v))
  behaves_c v (equal a b c) r w z = (w ≡ []) × (z ≡ slice_set r a (cond (slice_index r b == slice_index r c) 1 0))
  -- it leaves d's value where it finds c's, and else what it finds
  behaves_c v (compare_and_swap a L c d) r w z =
      (x : ℕ) × (x < v) × (w ≡ LoadStore L x (cond (x == slice_index r c) (slice_index r d) x) ∷ []) × (z ≡ slice_set r a x)
  behaves_c v fence r w z = (w ≡ Fence ∷ []) × (z ≡ r)
  behaves_c v (get a) r w z = (x : ℕ) × (x < v) × (w ≡ Get x ∷ []) × (z ≡ slice_set r a x)
  behaves_c v (print a) r w z = (w ≡ Print (slice_index r a) ∷ []) × (z ≡ r)
  behaves_c v (branch a t e) r w z = (slice_index r a ≡ 0 → behaves_b v e r w z) × ((slice_index r a ≢ 0) → behaves_b v t r w z)
  -- the block starts from a = x, and a ends as it was
  behaves_c v (declare a x b) r w z = (m : Registers) × behaves_b v b (slice_set r a x) w m × (z ≡ slice_set m a (slice_index r a))

-- Registers from which a snippet may start: as many as there are, with values below v.
pub record StartRegisters (m : Sizes) (s : Registers) : Type 0 where
  pub many : length s ≡ m.registers
  pub small : SmallValues m.values s

-- The behaviours of a snippet: a set of behaviours.
pub record Behaves (m : Sizes) (b : Block) (β : Behaviour) : Type 0 where
  pub starts : StartRegisters m β.start
  pub goes : behaves_b m.values b β.start β.word β.end
