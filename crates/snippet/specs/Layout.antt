-- How a block lies in an array of statements: each command before those of its blocks.
use Rattle.std.specs.Prelude.{ℕ, zero, suc, ◌+◌, ◌-◌, cond, List, [], ◌∷◌, ◌++◌, nat_lt, slice_index_or}
use Rattle.snippet.specs.Program.{Block, Command, end, then, skip, load, store, constant, copy, sum, equal, compare_and_swap, fence, get, print, branch, declare, size_b}
use Rattle.snippet.specs.declared.statement.Statement.{Statement}
use Rattle.snippet.specs.declared.statement.Statement.TheVariants.{Skip, Load, Store, Constant, Copy, Sum, Equal, CompareAndSwap, Fence, Get, Print, If, Declare}

-- The statements of a block, in the order in which they lie.
abbrev mutual
  pub flat_b : Block → List Statement
  flat_b end = []
  flat_b (then s b) = flat_c s ++ flat_b b

  pub flat_c : Command → List Statement
  flat_c skip = Skip ∷ []
  flat_c (load a L) = Load a L ∷ []
  flat_c (store L a) = Store L a ∷ []
  flat_c (constant a x) = Constant a x ∷ []
  flat_c (copy a b) = Copy a b ∷ []
  flat_c (sum a b c) = Sum a b c ∷ []
  flat_c (equal a b c) = Equal a b c ∷ []
  flat_c (compare_and_swap a L c d) = CompareAndSwap a L c d ∷ []
  flat_c fence = Fence ∷ []
  flat_c (get a) = Get a ∷ []
  flat_c (print a) = Print a ∷ []
  flat_c (branch a t e) = If a (size_b t) (size_b e) ∷ (flat_b t ++ flat_b e)
  flat_c (declare a x b) = Declare a x (size_b b) ∷ flat_b b

-- Where so many statements from a place on end, within a block that ends at `to`.
abbrev pub ending : ℕ → ℕ → ℕ → ℕ
ending at count to = cond (nat_lt (to - at) count) to (at + count)

-- The place after a statement and its blocks.
abbrev pub after : Statement → ℕ → ℕ → ℕ
after Skip at to = at + 1
after (Load a L) at to = at + 1
after (Store L a) at to = at + 1
after (Constant a x) at to = at + 1
after (Copy a b) at to = at + 1
after (Sum a b c) at to = at + 1
after (Equal a b c) at to = at + 1
after (CompareAndSwap a L c d) at to = at + 1
after Fence at to = at + 1
after (Get a) at to = at + 1
after (Print a) at to = at + 1
after (If a t e) at to = ending (ending (at + 1) t to) e to
after (Declare a x b) at to = ending (at + 1) b to

-- The command at a place, where `blocks` gives the block from one place to another.
abbrev pub command_of : (ℕ → ℕ → Block) → Statement → ℕ → ℕ → Command
command_of blocks Skip at to = skip
command_of blocks (Load a L) at to = load a L
command_of blocks (Store L a) at to = store L a
command_of blocks (Constant a x) at to = constant a x
command_of blocks (Copy a b) at to = copy a b
command_of blocks (Sum a b c) at to = sum a b c
command_of blocks (Equal a b c) at to = equal a b c
command_of blocks (CompareAndSwap a L c d) at to = compare_and_swap a L c d
command_of blocks Fence at to = fence
command_of blocks (Get a) at to = get a
command_of blocks (Print a) at to = print a
command_of blocks (If a t e) at to = branch a (blocks (at + 1) (ending (at + 1) t to)) (blocks (ending (at + 1) t to) (ending (ending (at + 1) t to) e to))
command_of blocks (Declare a x b) at to = declare a x (blocks (at + 1) (ending (at + 1) b to))

-- The first number bounds the recursion.
unfoldable pub block_by : ℕ → List Statement → ℕ → ℕ → Block
block_by zero ns at to = end
block_by (suc f) ns at to =
    cond (nat_lt at to) (then (command_of (block_by f ns) (slice_index_or ns at Skip) at to) (block_by f ns (after (slice_index_or ns at Skip) at to) to)) end

-- The block that lies in the statements from one place to another.
unfoldable pub block : List Statement → ℕ → ℕ → Block
block ns at to = block_by (suc (to - at)) ns at to
