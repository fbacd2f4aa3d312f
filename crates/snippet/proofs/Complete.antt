-- The encoding of a snippet that keeps the limits is read as that snippet.
use Rattle.std.proofs.Common.{◌≡◌, ℕ, suc, ◌+◌, ◌-◌, ◌<◌, ◌≤◌, true, ◌&&◌, ltb, List, [], ◌∷◌, ◌++◌, length, Ok, Result, refl, ◌∙◌, arith, length-append, lt-ltb, eq-eqb, ne_eqb}
use Rattle.std.proofs.lemmas.Bool.{and_parts}
use Rattle.snippet.proofs.Holds.{Holds, front, back, moved}
use Rattle.snippet.proofs.Inverse.{operand_is, inner_is, there}
use Rattle.snippet.proofs.Laying.{by_suc, is_branch, is_declare, branch_at_lem, declare_at_lem}
use Rattle.snippet.specs.Program.{Block, Command, end, then, skip, load, store, constant, copy, sum, equal, compare_and_swap, fence, get, print, branch, declare, size_b, size_c}
use Rattle.snippet.specs.Keeps.{Sizes, keeps_b, keeps_c}
use Rattle.snippet.specs.Encode.{sized, encode_b, encode_c}
use Rattle.snippet.specs.Parse.{and_then, one, two, three, four, branch_at, declare_at, parse_c, parse_b}
use Rattle.trace.specs.declared.refusal.Refusal.{Refusal}
use Rattle.std.specs.declared.ops.Range.{Range}

longer : (s : Command) → 1 ≤ length (encode_c s)
longer skip = omega arith
longer (load a b) = omega arith
longer (store a b) = omega arith
longer (constant a b) = omega arith
longer (copy a b) = omega arith
longer (sum a b c) = omega arith
longer (equal a b c) = omega arith
longer (compare_and_swap a b c d) = omega arith
longer fence = omega arith
longer (get a) = omega arith
longer (print a) = omega arith
longer (branch a t e) = omega arith
longer (declare a x b) = omega arith

-- Operands that are there and below their limits.
module _ (bs : List ℕ) where
  is_one : (p : ℕ) (mk : ℕ → Command) (at to a : ℕ) → Holds 0 bs (at + 1) (a ∷ []) → at + 2 ≤ to → ltb a p ≡ true → one bs p mk at to ≡ Ok (mk a, at + 2)
  is_one p mk at to a h l k = rw (operand_is bs (at + 1) to p a h.0 (omega arith) k) refl

  is_two : (p q : ℕ) (mk : ℕ → ℕ → Command) (at to a b : ℕ) → Holds 0 bs (at + 1) (a ∷ b ∷ []) → at + 3 ≤ to → (ltb a p && ltb b q) ≡ true → two bs p q mk at to ≡ Ok (mk a b, at + 3)
  is_two p q mk at to a b h l k =
      let u = and_parts _ _ k in
      rw (
        operand_is bs (at + 1) to p a h.0 (omega arith) u.0,
        operand_is bs (at + 2) to q b (there bs (at + 1 + 1) (at + 2) b (omega arith) h.1.0) (omega arith) u.1,
      ) refl

  is_three : (p q r : ℕ) (mk : ℕ → ℕ → ℕ → Command) (at to a b c : ℕ) → Holds 0 bs (at + 1) (a ∷ b ∷ c ∷ []) → at + 4 ≤ to
      → (ltb a p && (ltb b q && ltb c r)) ≡ true → three bs p q r mk at to ≡ Ok (mk a b c, at + 4)
  is_three p q r mk at to a b c h l k =
      let u = and_parts (ltb a p) (ltb b q && ltb c r) k in
      let v = and_parts (ltb b q) (ltb c r) u.1 in
      rw (
        operand_is bs (at + 1) to p a h.0 (omega arith) u.0,
        operand_is bs (at + 2) to q b (there bs (at + 1 + 1) (at + 2) b (omega arith) h.1.0) (omega arith) v.0,
        operand_is bs (at + 3) to r c (there bs (at + 1 + 1 + 1) (at + 3) c (omega arith) h.1.1.0) (omega arith) v.1,
      ) refl

  is_four : (p q r s : ℕ) (mk : ℕ → ℕ → ℕ → ℕ → Command) (at to a b c d : ℕ) → Holds 0 bs (at + 1) (a ∷ b ∷ c ∷ d ∷ []) → at + 5 ≤ to
      → (ltb a p && (ltb b q && (ltb c r && ltb d s))) ≡ true → four bs p q r s mk at to ≡ Ok (mk a b c d, at + 5)
  is_four p q r s mk at to a b c d h l k =
      let u = and_parts (ltb a p) (ltb b q && (ltb c r && ltb d s)) k in
      let v = and_parts (ltb b q) (ltb c r && ltb d s) u.1 in
      let w = and_parts (ltb c r) (ltb d s) v.1 in
      rw (
        operand_is bs (at + 1) to p a h.0 (omega arith) u.0,
        operand_is bs (at + 2) to q b (there bs (at + 1 + 1) (at + 2) b (omega arith) h.1.0) (omega arith) v.0,
        operand_is bs (at + 3) to r c (there bs (at + 1 + 1 + 1) (at + 3) c (omega arith) h.1.1.0) (omega arith) w.0,
        operand_is bs (at + 4) to s d (there bs (at + 1 + 1 + 1 + 1) (at + 4) d (omega arith) h.1.1.1.0) (omega arith) w.1,
      ) refl

then_is : (m : Sizes) (g : ℕ) (bs : List ℕ) (depth seen at to next : ℕ) (s : Command) (b : Block) → at < to
    → parse_c m (parse_b m g bs (depth + 1)) bs depth seen at to ≡ Ok (s, next)
    → parse_b m g bs depth (seen + size_c s) next to ≡ Ok b
    → parse_b m (suc g) bs depth seen at to ≡ Ok (then s b)
then_is m g bs depth seen at to next s b l p q =
    let ne : at ≡ to → ⊥ = λ e. omega arith in
    rw (ne_eqb at to ne) (by _ (λ k x. parse_b m g bs depth k x to) p q)
  where
    by : (x : Result (Command × ℕ) Refusal) (k : ℕ → ℕ → Result Block Refusal) → x ≡ Ok (s, next) → k (seen + size_c s) next ≡ Ok b
        → and_then x (λ s. and_then (k (seen + size_c s.0) s.1) (λ b. Ok (then s.0 b))) ≡ Ok (then s b)
    by x k p q = rw (p, q) refl

ends : (s : Command) (x y : ℕ) → x ≡ y → ◌≡◌ {A = Result (Command × ℕ) Refusal} (Ok (s, x)) (Ok (s, y))
ends s x y e = rw e refl

module _ (m : Sizes) (bs : List ℕ) where
  mutual
    pub complete_b : (t : Block) (f depth seen at to : ℕ) → Holds 0 bs at (encode_b t) → to ≡ at + length (encode_b t) → seen + size_b t ≤ 32 → keeps_b m depth t ≡ true → to - at < f
        → parse_b m f bs depth seen at to ≡ Ok t
    complete_b end f depth seen at to h e n p l = by_suc (λ f. parse_b m f bs depth seen at to ≡ Ok end) (to - at) (λ g k. rw (eq-eqb at to (omega arith)) refl) f l
    complete_b (then s b) f depth seen at to h e n p l = by_suc (λ f. parse_b m f bs depth seen at to ≡ Ok (then s b)) (to - at)
        (λ g k.
        let la = length-append (encode_c s) (encode_b b) in
        let lo = longer s in
        let q = and_parts (keeps_c m depth s) (keeps_b m depth b) p in
        then_is m g bs depth seen at to (at + length (encode_c s)) s b (omega arith)
        (complete_c s g depth seen at to (front 0 bs at (encode_c s) (encode_b b) h) (omega arith) (omega arith) q.0 k)
        (complete_b b g depth (seen + size_c s) (at + length (encode_c s)) to (back 0 bs at (encode_c s) (encode_b b) h) (omega arith) (omega arith) q.1 (omega arith)))
        f l

    complete_c : (s : Command) (g depth seen at to : ℕ) → Holds 0 bs at (encode_c s) → at + length (encode_c s) ≤ to → seen + size_c s ≤ 32 → keeps_c m depth s ≡ true → to - at ≤ g
        → parse_c m (parse_b m g bs (depth + 1)) bs depth seen at to ≡ Ok (s, at + length (encode_c s))
    complete_c skip g depth seen at to h k n p f = rw (lt-ltb seen 32 (omega arith), h.0) refl
    complete_c (load a b) g depth seen at to h k n p f = rw (lt-ltb seen 32 (omega arith), h.0) (is_two bs m.registers m.locations load at to a b h.1 k p)
    complete_c (store a b) g depth seen at to h k n p f = rw (lt-ltb seen 32 (omega arith), h.0) (is_two bs m.locations m.registers store at to a b h.1 k p)
    complete_c (constant a b) g depth seen at to h k n p f = rw (lt-ltb seen 32 (omega arith), h.0) (is_two bs m.registers m.values constant at to a b h.1 k p)
    complete_c (copy a b) g depth seen at to h k n p f = rw (lt-ltb seen 32 (omega arith), h.0) (is_two bs m.registers m.registers copy at to a b h.1 k p)
    complete_c (sum a b c) g depth seen at to h k n p f = rw (lt-ltb seen 32 (omega arith), h.0) (is_three bs m.registers m.registers m.registers sum at to a b c h.1 k p)
    complete_c (equal a b c) g depth seen at to h k n p f = rw (lt-ltb seen 32 (omega arith), h.0) (is_three bs m.registers m.registers m.registers equal at to a b c h.1 k p)
    complete_c (compare_and_swap a b c d) g depth seen at to h k n p f =
        rw (lt-ltb seen 32 (omega arith), h.0) (is_four bs m.registers m.locations m.registers m.registers compare_and_swap at to a b c d h.1 k p)
    complete_c fence g depth seen at to h k n p f = rw (lt-ltb seen 32 (omega arith), h.0) refl
    complete_c (get a) g depth seen at to h k n p f = rw (lt-ltb seen 32 (omega arith), h.0) (is_one bs m.registers get at to a h.1 k p)
    complete_c (print a) g depth seen at to h k n p f = rw (lt-ltb seen 32 (omega arith), h.0) (is_one bs m.registers print at to a h.1 k p)
    complete_c (branch a t e) g depth seen at to h k n p f =
        let p0 = and_parts (ltb a m.registers) (ltb depth 8 && (keeps_b m (depth + 1) t && keeps_b m (depth + 1) e)) p in
        let p1 = and_parts (ltb depth 8) (keeps_b m (depth + 1) t && keeps_b m (depth + 1) e) p0.1 in
        let p2 = and_parts (keeps_b m (depth + 1) t) (keeps_b m (depth + 1) e) p1.1 in
        let blocks = parse_b m g bs (depth + 1) in
        let one = encode_b t in
        let two = sized (encode_b e) in
        let la = length-append one two in
        let r : Holds 0 bs (at + 4) (one ++ two) = moved 0 bs (at + 1 + 1 + 1 + 1) (at + 4) (one ++ two) (omega arith) h.1.1.1.1 in
        let i : Range ℕ = record { start = at + 2 + 2; end = at + 2 + 2 + length one } in
        let w = back 0 bs (at + 4) one two r in
        let x = moved 0 bs (at + 4 + length one) i.end two (omega arith) w in
        let j : Range ℕ = record { start = i.end + 2; end = i.end + 2 + length (encode_b e) } in
        let is : branch_at m blocks bs depth seen at to ≡ Ok (branch a t e, j.end) =
        is_branch m blocks bs depth seen at to a i j t (seen + 1 + size_b t) e
        (operand_is bs (at + 1) to m.registers a h.1.0 (omega arith) p0.0)
        (inner_is bs depth (at + 2) to (length one) (there bs (at + 1 + 1) (at + 2) _ (omega arith) h.1.1.0) (there bs (at + 1 + 1 + 1) (at + 2 + 1) _ (omega arith) h.1.1.1.0) (omega arith) p1.0)
        (complete_b t g (depth + 1) (seen + 1) (at + 2 + 2) i.end (moved 0 bs (at + 4) (at + 2 + 2) one (omega arith) (front 0 bs (at + 4) one two r)) refl (omega arith) p2.0 (omega arith))
        refl
        (inner_is bs depth i.end to (length (encode_b e)) x.0 x.1.0 (omega arith) p1.0)
        (complete_b e g (depth + 1) (seen + 1 + size_b t) j.start j.end (moved 0 bs (i.end + 1 + 1) j.start (encode_b e) (omega arith) x.1.1) refl (omega arith) p2.1 (omega arith)) in
        branch_at_lem m blocks bs depth seen at to (omega arith) h.0 ∙ is ∙ ends (branch a t e) j.end _ (omega arith)
    complete_c (declare a v b) g depth seen at to h k n p f =
        let p0 = and_parts (ltb a m.registers) (ltb v m.values && (ltb depth 8 && keeps_b m (depth + 1) b)) p in
        let p1 = and_parts (ltb v m.values) (ltb depth 8 && keeps_b m (depth + 1) b) p0.1 in
        let p2 = and_parts (ltb depth 8) (keeps_b m (depth + 1) b) p1.1 in
        let blocks = parse_b m g bs (depth + 1) in
        let i : Range ℕ = record { start = at + 3 + 2; end = at + 3 + 2 + length (encode_b b) } in
        let is : declare_at m blocks bs depth seen at to ≡ Ok (declare a v b, i.end) =
        is_declare m blocks bs depth seen at to a v i b
        (operand_is bs (at + 1) to m.registers a h.1.0 (omega arith) p0.0)
        (operand_is bs (at + 2) to m.values v (there bs (at + 1 + 1) (at + 2) v (omega arith) h.1.1.0) (omega arith) p1.0)
        (inner_is bs depth (at + 3) to (length (encode_b b)) (there bs (at + 1 + 1 + 1) (at + 3) _ (omega arith) h.1.1.1.0) (there bs (at + 1 + 1 + 1 + 1) (at + 3 + 1) _ (omega arith) h.1.1.1.1.0) (omega arith) p2.0)
        (complete_b b g (depth + 1) (seen + 1) i.start i.end (moved 0 bs (at + 1 + 1 + 1 + 1 + 1) i.start (encode_b b) (omega arith) h.1.1.1.1.1) refl (omega arith) p2.1 (omega arith)) in
        declare_at_lem m blocks bs depth seen at to (omega arith) h.0 ∙ is ∙ ends (declare a v b) i.end _ (omega arith)
