-- How the statements of a command or a block are laid into an array, and what is read of them.
use Rattle.std.proofs.Common.{◌≡◌, ℕ, zero, suc, ◌+◌, ◌<◌, ◌≤◌, ◌≢◌, List, [], ◌∷◌, ◌++◌, length, get_or, set, Ok, Result, sym, refl, ap, ◌∙◌, add-one, arith, length-append, lt-ltb}
use Rattle.snippet.specs.Program.{Block, Command, end, then, skip, load, store, constant, copy, sum, equal, compare_and_swap, fence, get, print, branch, declare, size_b, size_c}
use Rattle.snippet.specs.Layout.{flat_b, flat_c}
use Rattle.snippet.specs.Keeps.{Sizes}
use Rattle.snippet.specs.Parse.{operand_at, inner_at, branch_at, declare_at, parse_c}
use Rattle.trace.specs.declared.refusal.Refusal.{Refusal}
use Rattle.trace.proofs.Lists.{sets-append}
use Rattle.std.specs.declared.ops.Range.{Range}
use lib.Seq.{sets, set_comm}
use Rattle.snippet.specs.declared.statement.Statement.{Statement}

-- A bound that is passed is a successor.
pub by_suc : (P : ℕ → Type 0) (n : ℕ) → ((g : ℕ) → n ≤ g → P (suc g)) → (f : ℕ) → n < f → P f
by_suc P n k zero h = absurd (omega arith)
by_suc P n k (suc g) h = k g (omega arith)

mutual
  pub length_b : (b : Block) → length (flat_b b) ≡ size_b b
  length_b end = refl
  length_b (then s b) = length-append (flat_c s) (flat_b b) ∙ (rw (length_c s, length_b b) refl)

  pub length_c : (s : Command) → length (flat_c s) ≡ size_c s
  length_c skip = refl
  length_c (load a b) = refl
  length_c (store a b) = refl
  length_c (constant a b) = refl
  length_c (copy a b) = refl
  length_c (sum a b c) = refl
  length_c (equal a b c) = refl
  length_c (compare_and_swap a b c d) = refl
  length_c fence = refl
  length_c (get a) = refl
  length_c (print a) = refl
  length_c (branch a t e) =
      let p = length-append (flat_b t) (flat_b e) in
      let q = length_b t in
      let r = length_b e in
      omega arith
  length_c (declare a x b) = let q = length_b b in omega arith

-- A later write below what was laid.
pub set-sets : (xs : List Statement) (i j : ℕ) (v : Statement) (a : List Statement) → i < j → set (sets xs j a) i v ≡ sets (set xs i v) j a
set-sets xs i j v [] h = refl
set-sets xs i j v (w ∷ a) h =
    let ne : j ≢ i = λ e. omega arith in
    set-sets (set xs j w) i (suc j) v a (omega arith) ∙ ap (λ (z : List Statement). sets z (suc j) a) (set_comm xs j i w v ne)

pub laid_then : (ns ns₁ ns₂ : List Statement) (seen next : ℕ) (s : Command) (b : Block)
    → ns₁ ≡ sets ns seen (flat_c s) → next ≡ seen + size_c s → ns₂ ≡ sets ns₁ next (flat_b b) → ns₂ ≡ sets ns seen (flat_b (then s b))
laid_then ns ns₁ ns₂ seen next s b p q r =
    let n : next ≡ seen + length (flat_c s) = q ∙ ap (λ k. seen + k) (sym (length_c s)) in
    r ∙ rw (p, n) (sym (sets-append ns seen (flat_c s) (flat_b b)))

-- A statement at the place that was kept for it.
pub laid_at : (ns : List Statement) (seen : ℕ) (v : Statement) (a : List Statement) → set (sets ns (seen + 1) a) seen v ≡ sets ns seen (v ∷ a)
laid_at ns seen v a = set-sets ns seen (seen + 1) v a (omega arith) ∙ ap (λ (k : ℕ). sets (set ns seen v) k a) (add-one seen)

pub laid_both : (ns ns₁ ns₂ : List Statement) (at middle : ℕ) (t e : Block)
    → ns₁ ≡ sets ns at (flat_b t) → middle ≡ at + size_b t → ns₂ ≡ sets ns₁ middle (flat_b e) → ns₂ ≡ sets ns at (flat_b t ++ flat_b e)
laid_both ns ns₁ ns₂ at middle t e p m q =
    let l : middle ≡ at + length (flat_b t) = m ∙ ap (λ k. at + k) (sym (length_b t)) in
    q ∙ rw (p, l) (sym (sets-append ns at (flat_b t) (flat_b e)))

pub is_branch : (m : Sizes) (blocks : ℕ → ℕ → ℕ → Result Block Refusal) (bs : List ℕ) (depth seen at to a : ℕ) (i j : Range ℕ) (t : Block) (middle : ℕ) (e : Block)
    → operand_at bs (at + 1) to m.registers ≡ Ok a → inner_at bs depth (at + 2) to ≡ Ok i → blocks (seen + 1) i.start i.end ≡ Ok t
    → middle ≡ seen + 1 + size_b t → inner_at bs depth i.end to ≡ Ok j → blocks middle j.start j.end ≡ Ok e
    → branch_at m blocks bs depth seen at to ≡ Ok (branch a t e, j.end)
is_branch m blocks bs depth seen at to a i j t middle e p q r n u w =
    rw (p, q, r, u, ← n, w) refl

pub is_declare : (m : Sizes) (blocks : ℕ → ℕ → ℕ → Result Block Refusal) (bs : List ℕ) (depth seen at to a x : ℕ) (i : Range ℕ) (b : Block)
    → operand_at bs (at + 1) to m.registers ≡ Ok a → operand_at bs (at + 2) to m.values ≡ Ok x → inner_at bs depth (at + 3) to ≡ Ok i → blocks (seen + 1) i.start i.end ≡ Ok b
    → declare_at m blocks bs depth seen at to ≡ Ok (declare a x b, i.end)
is_declare m blocks bs depth seen at to a x i b p q r u = rw (p, q, r, u) refl

module _ (m : Sizes) (blocks : ℕ → ℕ → ℕ → Result Block Refusal) (bs : List ℕ) (depth seen at to : ℕ) (h : seen < 32) where
  pub branch_at_lem : get_or bs at 0 ≡ 11 → parse_c m blocks bs depth seen at to ≡ branch_at m blocks bs depth seen at to
  branch_at_lem e = rw (lt-ltb seen 32 h, e) refl

  pub declare_at_lem : get_or bs at 0 ≡ 12 → parse_c m blocks bs depth seen at to ≡ declare_at m blocks bs depth seen at to
  declare_at_lem e = rw (lt-ltb seen 32 h, e) refl
