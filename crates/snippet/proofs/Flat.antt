-- The block that lies where the statements of a block were laid is that block.
use Rattle.std.proofs.Common.{◌≡◌, ℕ, ◌+◌, ◌-◌, ◌≤◌, List, ◌++◌, length, get_or, take, drop, Ok, Result, sym, refl, ap, ◌∙◌, arith, take_at, le-ltb}
use lib.Seq.{sets, sets-eq}
use Rattle.snippet.proofs.Holds.{Holds, front, back, moved, self}
use Rattle.snippet.proofs.Laying.{length_b, length_c}
use Rattle.snippet.proofs.Blocks.{block_end, block_then}
use Rattle.snippet.specs.Program.{Block, Command, end, then, skip, load, store, constant, copy, sum, equal, compare_and_swap, fence, get, print, branch, declare, size_b, size_c}
use Rattle.snippet.specs.Layout.{flat_b, flat_c, ending, after, command_of, block}
use Rattle.trace.specs.declared.refusal.Refusal.{Refusal}
use Rattle.snippet.specs.declared.statement.Statement.{Statement}
use Rattle.snippet.specs.declared.statement.Statement.TheVariants.{Skip}

pub one_at_least : (s : Command) → 1 ≤ size_c s
one_at_least skip = omega arith
one_at_least (load a b) = omega arith
one_at_least (store a b) = omega arith
one_at_least (constant a b) = omega arith
one_at_least (copy a b) = omega arith
one_at_least (sum a b c) = omega arith
one_at_least (equal a b c) = omega arith
one_at_least (compare_and_swap a b c d) = omega arith
one_at_least fence = omega arith
one_at_least (get a) = omega arith
one_at_least (print a) = omega arith
one_at_least (branch a t e) = omega arith
one_at_least (declare a x b) = omega arith

ending_is : (at count to : ℕ) → at + count ≤ to → ending at count to ≡ at + count
ending_is at count to h = let k : count ≤ to - at = omega arith in rw (le-ltb (to - at) count k) refl

module _ (ns : List Statement) where
  mutual
    pub layout_b : (b : Block) (at to : ℕ) → Holds Skip ns at (flat_b b) → to ≡ at + size_b b → block ns at to ≡ b
    layout_b end at to h e = block_end ns at to (omega arith)
    layout_b (then s b) at to h e =
        let n = get_or ns at Skip in
        let p = one_at_least s in
        let one = layout_c s at to (front Skip ns at (flat_c s) (flat_b b) h) (omega arith) in
        let k : Holds Skip ns (after n at to) (flat_b b) = moved Skip ns _ _ (flat_b b) (ap (λ k. at + k) (length_c s) ∙ sym one.1) (back Skip ns at (flat_c s) (flat_b b) h) in
        let two = layout_b b (after n at to) to k (omega (arith, one.1)) in
        block_then ns at to (omega arith)
        ∙ ap (λ (z : Command). then z (block ns (after n at to) to)) one.0 ∙ ap (λ (z : Block). then s z) two

    layout_c : (s : Command) (at to : ℕ) → Holds Skip ns at (flat_c s) → at + size_c s ≤ to
        → (command_of (block ns) (get_or ns at Skip) at to ≡ s) × (after (get_or ns at Skip) at to ≡ at + size_c s)
    layout_c skip at to h l = rw h.0 (refl, refl)
    layout_c (load a b) at to h l = rw h.0 (refl, refl)
    layout_c (store a b) at to h l = rw h.0 (refl, refl)
    layout_c (constant a b) at to h l = rw h.0 (refl, refl)
    layout_c (copy a b) at to h l = rw h.0 (refl, refl)
    layout_c (sum a b c) at to h l = rw h.0 (refl, refl)
    layout_c (equal a b c) at to h l = rw h.0 (refl, refl)
    layout_c (compare_and_swap a b c d) at to h l = rw h.0 (refl, refl)
    layout_c fence at to h l = rw h.0 (refl, refl)
    layout_c (get a) at to h l = rw h.0 (refl, refl)
    layout_c (print a) at to h l = rw h.0 (refl, refl)
    layout_c (branch a t e) at to h l =
        let p = ending_is (at + 1) (size_b t) to (omega arith) in
        let q = ending_is (at + 1 + size_b t) (size_b e) to (omega arith) in
        let x = layout_b t (at + 1) (at + 1 + size_b t) (front Skip ns (at + 1) (flat_b t) (flat_b e) h.1) refl in
        let y = layout_b e (at + 1 + size_b t) (at + 1 + size_b t + size_b e)
        (moved Skip ns _ _ (flat_b e) (ap (λ k. at + 1 + k) (length_b t)) (back Skip ns (at + 1) (flat_b t) (flat_b e) h.1)) refl in
        rw (h.0, p, q) (rw (x, y) refl, omega arith)
    layout_c (declare a x b) at to h l =
        let p = ending_is (at + 1) (size_b b) to (omega arith) in
        let y = layout_b b (at + 1) (at + 1 + size_b b) h.1 refl in
        rw (h.0, p) (rw y refl, omega arith)

-- Statements that were laid from the first place on.
pub block_laid : (ns ns' : List Statement) (b : Block) (len : ℕ) → ns' ≡ sets ns 0 (flat_b b) → len ≡ 0 + size_b b → len ≤ length ns → block ns' 0 len ≡ b
block_laid ns ns' b len e n h =
    let l = length_b b in
    let w : ns' ≡ flat_b b ++ drop (0 + length (flat_b b)) ns = e ∙ sets-eq (flat_b b) ns 0 (omega arith) in
    layout_b ns' b 0 len (rw w (front Skip _ 0 (flat_b b) _ (self Skip (flat_b b ++ drop (0 + length (flat_b b)) ns)))) n

pub read_laid : {p : Result Block Refusal} (ns ns' : List Statement) (b : Block) (len : ℕ) → p ≡ Ok b → ns' ≡ sets ns 0 (flat_b b) → len ≡ 0 + size_b b → len ≤ length ns → p ≡ Ok (block ns' 0 len)
read_laid ns ns' b len q e n h = q ∙ ap (λ (z : Block). Ok z) (sym (block_laid ns ns' b len e n h))

pub front_laid : (ns ns' : List Statement) (b : Block) (len : ℕ) → ns' ≡ sets ns 0 (flat_b b) → len ≡ 0 + size_b b → len ≤ length ns → take len ns' ≡ flat_b (block ns' 0 len)
front_laid ns ns' b len e n h =
    let l = length_b b in
    let w : ns' ≡ flat_b b ++ drop (0 + length (flat_b b)) ns = e ∙ sets-eq (flat_b b) ns 0 (omega arith) in
    let f : take len ns' ≡ flat_b b = ap (λ (x : List Statement). take len x) w ∙ take_at (flat_b b) _ len (omega arith) in
    f ∙ ap flat_b (sym (block_laid ns ns' b len e n h))
