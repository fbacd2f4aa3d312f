-- The statements of a block that take a choice.
use Rattle.std.proofs.Common.{◌≡◌, ℕ, ◌+◌, ◌==◌, cond, List, [], ◌∷◌, ◌++◌, refl, arith}
use Rattle.std.specs.List.{count_by}
use Rattle.std.proofs.lemmas.List.Recursion.{is_count_by}
use Rattle.snippet.specs.Program.{Block, Command, end, then, skip, load, store, constant, copy, sum, equal, compare_and_swap, fence, get, print, branch, declare, choices_b, choices_c}
use Rattle.snippet.specs.Layout.{flat_b, flat_c}
use Rattle.snippet.specs.Runs.{takes, counted}
use Rattle.snippet.specs.declared.statement.Statement.{Statement}
use Rattle.snippet.specs.declared.statement.Statement.TheVariants.{Skip, Load, Store, Constant, Copy, Sum, Equal, CompareAndSwap, Fence, Get, Print, If, Declare}

counted-++ : (xs ys : List Statement) → counted (xs ++ ys) ≡ counted xs + counted ys
counted-++ [] ys = omega arith
counted-++ (x ∷ xs) ys = let h = counted-++ xs ys in omega arith

mutual
  pub count_b : (b : Block) → counted (flat_b b) ≡ choices_b b
  count_b end = refl
  count_b (then s b) =
      let p = counted-++ (flat_c s) (flat_b b) in
      let q = count_c s in
      let r = count_b b in
      omega arith

  count_c : (s : Command) → counted (flat_c s) ≡ choices_c s
  count_c skip = refl
  count_c (load a b) = refl
  count_c (store a b) = refl
  count_c (constant a b) = refl
  count_c (copy a b) = refl
  count_c (sum a b c) = refl
  count_c (equal a b c) = refl
  count_c (compare_and_swap a b c d) = refl
  count_c fence = refl
  count_c (get a) = refl
  count_c (print a) = refl
  count_c (branch a t e) =
      let p = counted-++ (flat_b t) (flat_b e) in
      let q = count_b t in
      let r = count_b e in
      omega arith
  count_c (declare a x b) = let r = count_b b in omega arith

-- A statement takes one choice or none, so the choices are the statements that take one.
counted_more : (s : Statement) (n : ℕ) → takes s + n ≡ cond (takes s == 1) (1 + n) n
counted_more Skip n = omega arith
counted_more (Load a b) n = omega arith
counted_more (Store a b) n = omega arith
counted_more (Constant a b) n = omega arith
counted_more (Copy a b) n = omega arith
counted_more (Sum a b c) n = omega arith
counted_more (Equal a b c) n = omega arith
counted_more (CompareAndSwap a b c d) n = omega arith
counted_more Fence n = omega arith
counted_more (Get a) n = omega arith
counted_more (Print a) n = omega arith
counted_more (If a t e) n = omega arith
counted_more (Declare a x b) n = omega arith

pub counted_is : (xs : List Statement) → counted xs ≡ count_by (λ s. takes s == 1) xs
counted_is xs = is_count_by counted (λ s. takes s == 1) refl (λ s xs. counted_more s (counted xs)) xs
