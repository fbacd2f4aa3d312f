-- The block that lies in statements, a command at a time.
use Rattle.std.proofs.Common.{◌≡◌, ℕ, zero, suc, ◌+◌, ◌-◌, ◌<◌, ◌≤◌, Bool, true, false, cond, ltb, List, get_or, refl, ap, ◌∙◌, arith, ltb-false, ltb-true, le-ltb, lt-ltb}
use Rattle.snippet.specs.Program.{Block, Command, end, then, branch, declare}
use Rattle.snippet.specs.Layout.{ending, after, command_of, block_by, block}
use Rattle.snippet.specs.declared.statement.Statement.{Statement}
use Rattle.snippet.specs.declared.statement.Statement.TheVariants.{Skip, Load, Store, Constant, Copy, Sum, Equal, CompareAndSwap, Fence, Get, Print, If, Declare}

ending_by : (c : Bool) (at count to : ℕ) → ltb (to - at) count ≡ c → at ≤ to → (at ≤ cond c to (at + count)) × (cond c to (at + count) ≤ to)
ending_by true at count to e h = (h, omega arith)
ending_by false at count to e h = let k = ltb-false (to - at) count e in (omega arith, omega arith)

ending_within : (at count to : ℕ) → at ≤ to → (at ≤ ending at count to) × (ending at count to ≤ to)
ending_within at count to h = ending_by (ltb (to - at) count) at count to refl h

pub after_within : (n : Statement) (at to : ℕ) → at < to → (at < after n at to) × (after n at to ≤ to)
after_within Skip at to h = (omega arith, omega arith)
after_within (Load a b) at to h = (omega arith, omega arith)
after_within (Store a b) at to h = (omega arith, omega arith)
after_within (Constant a b) at to h = (omega arith, omega arith)
after_within (Copy a b) at to h = (omega arith, omega arith)
after_within (Sum a b c) at to h = (omega arith, omega arith)
after_within (Equal a b c) at to h = (omega arith, omega arith)
after_within (CompareAndSwap a b c d) at to h = (omega arith, omega arith)
after_within Fence at to h = (omega arith, omega arith)
after_within (Get a) at to h = (omega arith, omega arith)
after_within (Print a) at to h = (omega arith, omega arith)
after_within (If a t e) at to h =
    let one = ending_within (at + 1) t to (omega arith) in
    let two = ending_within (ending (at + 1) t to) e to one.1 in
    (omega (arith, one.0, two.0), two.1)
after_within (Declare a x b) at to h =
    let one = ending_within (at + 1) b to (omega arith) in
    (omega (arith, one.0), one.1)

command_same : (B C : ℕ → ℕ → Block) (n : Statement) (at to : ℕ) → at < to → ((x y : ℕ) → at < x → y ≤ to → B x y ≡ C x y) → command_of B n at to ≡ command_of C n at to
command_same B C Skip at to h k = refl
command_same B C (Load a b) at to h k = refl
command_same B C (Store a b) at to h k = refl
command_same B C (Constant a b) at to h k = refl
command_same B C (Copy a b) at to h k = refl
command_same B C (Sum a b c) at to h k = refl
command_same B C (Equal a b c) at to h k = refl
command_same B C (CompareAndSwap a b c d) at to h k = refl
command_same B C Fence at to h k = refl
command_same B C (Get a) at to h k = refl
command_same B C (Print a) at to h k = refl
command_same B C (If a t e) at to h k =
    let m = ending (at + 1) t to in
    let one = ending_within (at + 1) t to (omega arith) in
    let two = ending_within m e to one.1 in
    let p : B (at + 1) m ≡ C (at + 1) m = k (at + 1) m (omega arith) one.1 in
    let q : B m (ending m e to) ≡ C m (ending m e to) = k m (ending m e to) (omega (arith, one.0)) two.1 in
    ap (λ (x : Block). branch a x (B m (ending m e to))) p ∙ ap (λ (x : Block). branch a (C (at + 1) m) x) q
command_same B C (Declare a x b) at to h k =
    let one = ending_within (at + 1) b to (omega arith) in
    ap (λ (y : Block). declare a x y) (k (at + 1) (ending (at + 1) b to) (omega arith) one.1)

module _ (ns : List Statement) where
  fuel : (f g at to : ℕ) → to - at < f → to - at < g → block_by f ns at to ≡ block_by g ns at to
  unfolding block_by
  fuel zero g at to h k = absurd (omega arith)
  fuel (suc f) zero at to h k = absurd (omega arith)
  fuel (suc f) (suc g) at to h k = by (ltb at to) refl (λ l. command_same (block_by f ns) (block_by g ns) (get_or ns at Skip) at to l (λ x y p q. fuel f g x y (omega arith) (omega arith))) (λ l. let w = after_within (get_or ns at Skip) at to l in fuel f g (after (get_or ns at Skip) at to) to (omega (arith, w.0, w.1)) (omega (arith, w.0, w.1)))
    where
      by : (c : Bool) → ltb at to ≡ c → {s t : Command} {x y : Block} → (at < to → s ≡ t) → (at < to → x ≡ y) → cond c (then s x) end ≡ cond c (then t y) end
      by true e {s} {t} {x} {y} p q =
          let l = ltb-true at to e in
          ap (λ (z : Command). then z x) (p l) ∙ ap (λ (z : Block). then t z) (q l)
      by false e p q = refl

  pub block_end : (at to : ℕ) → to ≤ at → block ns at to ≡ end
  unfolding block block_by
  block_end at to h = rw (le-ltb at to h) refl

  pub block_then : (at to : ℕ) → at < to → block ns at to ≡ then (command_of (block ns) (get_or ns at Skip) at to) (block ns (after (get_or ns at Skip) at to) to)
  unfolding block block_by
  block_then at to h =
      let n = get_or ns at Skip in
      let w = after_within n at to h in
      let p : command_of (block_by (to - at) ns) n at to ≡ command_of (block ns) n at to =
      command_same (block_by (to - at) ns) (block ns) n at to h (λ x y p q. fuel (to - at) (suc (y - x)) x y (omega arith) (omega arith)) in
      let q : block_by (to - at) ns (after n at to) to ≡ block ns (after n at to) to =
      fuel (to - at) (suc (to - after n at to)) (after n at to) to (omega (arith, w.0, w.1)) (omega arith) in
      rw (lt-ltb at to h)
      (ap (λ (z : Command). then z (block_by (to - at) ns (after n at to) to)) p ∙ ap (λ (z : Block). then (command_of (block ns) n at to) z) q)
