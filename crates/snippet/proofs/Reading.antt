-- From what the reader's parts read to what the reader reads.
use Rattle.std.proofs.Common.{◌≡◌, ℕ, suc, ◌+◌, ◌-◌, ◌<◌, ◌≤◌, List, [], ◌∷◌, ◌++◌, length, set, Ok, Err, Result, IfOk, sym, refl, ap, ◌∙◌, arith, eq-eqb, ne_eqb, le-ltb, length-append}
use lib.Seq.{sets}
use Rattle.std.specs.declared.ops.Range.{Range}
use Rattle.trace.specs.declared.refusal.Refusal.{Refusal}
use Rattle.trace.specs.declared.refusal.Cause.TheVariants.{TooMuch}
use Rattle.snippet.proofs.Laying.{by_suc, length_b, length_c, laid_at, laid_then, laid_both}
use Rattle.snippet.specs.Keeps.{Sizes, sizes}
use Rattle.snippet.specs.Parse.{refusal, and_then, operand_at, inner_at, branch_at, declare_at, parse_c, parse_b}
use Rattle.snippet.specs.Program.{Block, Command, end, then, branch, declare, size_b, size_c}
use Rattle.snippet.specs.Layout.{flat_b, flat_c}
use Rattle.snippet.specs.Reads.{Gives, NestedRead, StatementRead, ReadB, ReadS, ReadsBlock, blocks_of, nested_at, leaf_of}
use Rattle.snippet.specs.declared.read.Laid.{Laid}
use Rattle.snippet.specs.declared.read.Reader.{Reader}
use Rattle.snippet.specs.declared.read.Source.{Source}
use Rattle.snippet.specs.declared.statement.Statement.{Statement}
use Rattle.snippet.specs.declared.statement.Statement.TheVariants.{If, Declare}

-- An inner block, and what goes on from it.
on_block : {C : Type 0} (i : Range ℕ) (x : Result Block Refusal) (k : Block × ℕ → Result C Refusal) → and_then (and_then x (λ t. Ok (t, i.end))) k ≡ and_then x (λ t. k (t, i.end))
on_block i (Ok t) k = refl
on_block i (Err e) k = refl

on_range : {C : Type 0} (x : Result (Range ℕ) Refusal) (block : Range ℕ → Result Block Refusal) (k : Block × ℕ → Result C Refusal)
    → and_then (and_then x (λ i. and_then (block i) (λ t. Ok (t, i.end)))) k ≡ and_then x (λ i. and_then (block i) (λ t. k (t, i.end)))
on_range (Ok i) block k = on_block i (block i) k
on_range (Err e) block k = refl

same : {A B : Type 0} (x : Result A Refusal) (f g : A → Result B Refusal) → ((a : A) → f a ≡ g a) → and_then x f ≡ and_then x g
same (Ok a) f g h = h a
same (Err e) f g h = refl

-- A command that holds blocks, by its inner blocks. Its place is kept behind the commands before it.
module _ (s : Reader) (f seen : ℕ) where
  abbrev operand : ℕ → ℕ → Result ℕ Refusal
  operand at limit = operand_at s.source.bytes.now at s.source.end limit

  abbrev inner : ℕ → Result (Range ℕ) Refusal
  inner at = inner_at s.source.bytes.now s.source.depth at s.source.end

  abbrev block : ℕ → Range ℕ → Result Block Refusal
  block seen i = blocks_of s.source f seen i.start i.end

  abbrev nested : ℕ → ℕ → Result (Block × ℕ) Refusal
  nested seen at = nested_at (blocks_of s.source f) s.source.bytes.now s.source.depth seen at s.source.end

  abbrev command : (Sizes → (ℕ → ℕ → ℕ → Result Block Refusal) → List ℕ → ℕ → ℕ → ℕ → ℕ → Result (Command × ℕ) Refusal) → Result (Command × ℕ) Refusal
  command parse = parse (sizes s.source.limits) (blocks_of s.source f) s.source.bytes.now s.source.depth seen s.at s.source.end

  branch_nested : command branch_at
      ≡ and_then (operand (s.at + 1) s.source.limits.registers) (λ a. and_then (nested (seen + 1) (s.at + 2)) (λ t.
      and_then (nested (seen + 1 + size_b t.0) t.1) (λ e. Ok (branch a t.0 e.0, e.1))))
  branch_nested = same (operand (s.at + 1) s.source.limits.registers) _ _ (λ a.
      let second = λ (t : Block × ℕ). and_then (nested (seen + 1 + size_b t.0) t.1) (λ e. Ok (branch a t.0 e.0, e.1)) in
      sym (on_range (inner (s.at + 2)) (block (seen + 1)) second
      ∙ same (inner (s.at + 2)) _ _ (λ i. same (block (seen + 1) i) _ _ (λ t.
      on_range (inner i.end) (block (seen + 1 + size_b t)) (λ e. Ok (branch a t e.0, e.1))))))

  declare_nested : command declare_at
      ≡ and_then (operand (s.at + 1) s.source.limits.registers) (λ a. and_then (operand (s.at + 2) s.source.limits.values) (λ x.
      and_then (nested (seen + 1) (s.at + 3)) (λ t. Ok (declare a x t.0, t.1))))
  declare_nested = same (operand (s.at + 1) s.source.limits.registers) _ _ (λ a. same (operand (s.at + 2) s.source.limits.values) _ _ (λ x.
      sym (on_range (inner (s.at + 3)) (block (seen + 1)) (λ t. Ok (declare a x t.0, t.1)))))

  module _ (a : ℕ) {at₁ len : ℕ} (register : operand (s.at + 1) s.source.limits.registers ≡ Ok a) (kept : len ≡ seen + 1) where
    pub branch_first : {e : Refusal} → at₁ ≡ s.at + 2 → nested len at₁ ≡ Err e → command branch_at ≡ Err e
    branch_first q h = branch_nested ∙ rw (register, ← q, ← kept, h) refl

    pub branch_second : {e : Refusal} {ns ns₁ : List Statement} {at₂ len₂ n : ℕ}
        → at₁ ≡ s.at + 2 → NestedRead (nested len at₁) ns ns₁ len at₂ len₂ n → nested len₂ at₂ ≡ Err e → command branch_at ≡ Err e
    branch_second q h k = branch_nested ∙ rw (register, ← q, ← kept, h.is, ← h.more, k) refl

    pub branch_done : {ns ns₁ ns₂ : List Statement} {at₂ len₂ at₃ len₃ n k : ℕ}
        → at₁ ≡ s.at + 2 → NestedRead (nested len at₁) ns ns₁ len at₂ len₂ n → NestedRead (nested len₂ at₂) ns₁ ns₂ len₂ at₃ len₃ k
        → StatementRead (command branch_at) (If a n k) ns ns₂ len at₃ len₃
    branch_done q h j =
        record {
          command = branch a h.body j.body;
          rest = flat_b h.body ++ flat_b j.body;
          is = branch_nested ∙ rw (register, ← q, ← kept, h.is, ← h.more, j.is) refl;
          flat = rw (h.size, j.size) refl;
          laid = laid_both _ _ _ _ _ h.body j.body h.laid h.more j.laid;
          count = omega (arith, h.more, j.more, length-append (flat_b h.body) (flat_b j.body), length_b h.body, length_b j.body);
        }

    pub declare_inner : {e : Refusal} (x : ℕ) → operand (s.at + 2) s.source.limits.values ≡ Ok x
        → at₁ ≡ s.at + 3 → nested len at₁ ≡ Err e → command declare_at ≡ Err e
    declare_inner x u q h = declare_nested ∙ rw (register, u, ← q, ← kept, h) refl

    pub declare_done : {ns ns₁ : List Statement} {at₂ len₂ n : ℕ} (x : ℕ) → operand (s.at + 2) s.source.limits.values ≡ Ok x
        → at₁ ≡ s.at + 3 → NestedRead (nested len at₁) ns ns₁ len at₂ len₂ n
        → StatementRead (command declare_at) (Declare a x n) ns ns₁ len at₂ len₂
    declare_done x u q h =
        record {
          command = declare a x h.body;
          rest = flat_b h.body;
          is = declare_nested ∙ rw (register, u, ← q, ← kept, h.is) refl;
          flat = rw h.size refl;
          laid = h.laid;
          count = omega (arith, h.more, length_b h.body);
        }

-- A command without blocks.
pub leaf_read : (r : Result Statement Refusal) (p : Result (Command × ℕ) Refusal) (o : Laid) (next : ℕ)
    → Gives r p (λ n. (leaf_of n, next)) → IfOk r (λ n. flat_c (leaf_of n) ≡ n ∷ []) → ReadS r p o.statements o.len o next
leaf_read (Ok n) p o next g h = record { command = leaf_of n; rest = []; is = g; flat = h; laid = refl; count = omega arith }
leaf_read (Err e) p o next g h = g

-- A block, a command at a time.
pub block_done : (s : Reader) (o : Laid) → s.at ≡ s.source.end → ReadsBlock s o (Ok tt) o
block_done s o e = by_suc _ _ (λ g h. rw (eq-eqb s.at s.source.end e) record { body = end; is = refl; laid = refl; count = omega arith })

pub block_full : (s : Reader) (o : Laid) → s.at < s.source.end → 32 ≤ o.len → ReadsBlock s o (Err (refusal TooMuch s.at)) o
block_full s o l n = by_suc _ _ (λ g h.
    let ne : s.at ≡ s.source.end → ⊥ = λ q. omega arith in
    rw (ne_eqb s.at s.source.end ne, le-ltb o.len 32 n) refl)

-- The place of a command is kept, and its statement set there once those of its blocks are laid.
module _ (s s' : Reader) (o : Laid) {len₁ : ℕ} (l : s.at < s.source.end) (kept : len₁ ≡ o.len + 1) where
  pub block_refused : (e : Refusal) (o' : Laid) → ((seen f : ℕ) → len₁ ≡ seen + 1 → s.source.end - s.at ≤ f → command s f seen parse_c ≡ Err e) → ReadsBlock s o (Err e) o'
  block_refused e o' k = by_suc _ _ (λ g h.
      let ne : s.at ≡ s.source.end → ⊥ = λ q. omega arith in
      rw (ne_eqb s.at s.source.end ne, k o.len g kept h) refl)

  pub block_more : {n : Statement} {ns' : List Statement} {len' : ℕ} → s'.source ≡ s.source → s.at < s'.at
      → ((seen f : ℕ) → len₁ ≡ seen + 1 → s.source.end - s.at ≤ f → StatementRead (command s f seen parse_c) n o.statements ns' len₁ s'.at len')
      → (r : Result (Unit {0}) Refusal) (o' : Laid)
      → ((f : ℕ) → s'.source.end - s'.at < f
      → ReadB r (parse_b (sizes s'.source.limits) f s'.source.bytes.now s'.source.depth len' s'.at s'.source.end) (set ns' o.len n) len' o')
      → ReadsBlock s o r o'
  block_more {n} {ns'} {len'} p a k (Ok _) o' h = by_suc _ _ (λ g q.
      let ne : s.at ≡ s.source.end → ⊥ = λ e. omega arith in
      let to : s'.source.end ≡ s.source.end = ap (λ (x : Source). x.end) p in
      let w = k o.len g kept q in
      let size : size_c w.command ≡ suc (length w.rest) = sym (length_c w.command) ∙ ap length w.flat in
      let laid : set ns' o.len n ≡ sets o.statements o.len (flat_c w.command) = rw (w.laid, kept, w.flat) (laid_at o.statements o.len n w.rest) in
      let count : len' ≡ o.len + size_c w.command = omega (arith, w.count) in
      let b = rw p at h g (omega arith) in
      record {
        body = then w.command b.body;
        is = rw (ne_eqb s.at s.source.end ne, w.is, ← count, b.is) refl;
        laid = laid_then _ _ _ _ _ w.command b.body laid count b.laid;
        count = omega (arith, b.count);
      })
  block_more {n} {ns'} {len'} p a k (Err e) o' h = by_suc _ _ (λ g q.
      let ne : s.at ≡ s.source.end → ⊥ = λ e. omega arith in
      let to : s'.source.end ≡ s.source.end = ap (λ (x : Source). x.end) p in
      let w = k o.len g kept q in
      let size : size_c w.command ≡ suc (length w.rest) = sym (length_c w.command) ∙ ap length w.flat in
      let count : len' ≡ o.len + size_c w.command = omega (arith, w.count) in
      let b = rw p at h g (omega arith) in
      rw (ne_eqb s.at s.source.end ne, w.is, ← count, b) refl)
