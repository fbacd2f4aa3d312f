-- How bytes are read as a snippet: what is read, or why and where it is declined.
use Rattle.std.specs.Prelude.{ℕ, zero, suc, ◌+◌, ◌-◌, ◌*◌, cond, List, length, Ok, Err, Result, ◌==◌, nat_lt, slice_index}
use Rattle.trace.specs.declared.refusal.Refusal.{Refusal}
use Rattle.trace.specs.declared.refusal.Cause.{Cause}
use Rattle.trace.specs.declared.refusal.Cause.TheVariants.{Missing, Unknown, TooMuch}
use Rattle.snippet.specs.Program.{Block, Command, end, then, skip, load, store, constant, copy, sum, equal, compare_and_swap, fence, get, print, branch, declare, size_b, size_c}
use Rattle.snippet.specs.Keeps.{Sizes}
use Rattle.std.specs.declared.ops.Range.{Range}

abbrev pub refusal : Cause → ℕ → Refusal
refusal cause at = record { cause = cause; place = at }

abbrev pub declined : {A : Type 0} → Cause → ℕ → Result A Refusal
declined cause at = Err (refusal cause at)

-- A reading, and then one that goes on from what was read.
abbrev pub and_then : {A B : Type 0} → Result A Refusal → (A → Result B Refusal) → Result B Refusal
and_then (Ok a) f = f a
and_then (Err e) f = Err e

-- The operand at a place, below a limit. The block that holds it ends at `to`.
abbrev pub operand_at : List ℕ → ℕ → ℕ → ℕ → Result ℕ Refusal
operand_at bs at to limit =
    cond (nat_lt at to) (cond (nat_lt (slice_index bs at) limit) (Ok (slice_index bs at)) (declined Unknown at)) (declined Missing at)

-- Where the block whose length stands at a place begins and ends: within what holds it.
abbrev pub span_at : List ℕ → ℕ → ℕ → Result (Range ℕ) Refusal
span_at bs at to =
    cond (nat_lt (to - at) 2)
    (declined Missing at)
    (cond (nat_lt (to - (at + 2)) (slice_index bs at * 256 + slice_index bs (at + 1)))
    (declined Missing at)
    (Ok (record { start = at + 2; end = at + 2 + (slice_index bs at * 256 + slice_index bs (at + 1)) })))

-- The same inside a block of a depth, which is below eight.
abbrev pub inner_at : List ℕ → ℕ → ℕ → ℕ → Result (Range ℕ) Refusal
inner_at bs depth at to = and_then (span_at bs at to) (λ i. cond (nat_lt depth 8) (Ok i) (declined TooMuch at))

-- A command of so many operands below their limits, and the place after it.
abbrev pub one : List ℕ → ℕ → (ℕ → Command) → ℕ → ℕ → Result (Command × ℕ) Refusal
one bs p mk at to = and_then (operand_at bs (at + 1) to p) (λ a. Ok (mk a, at + 2))

abbrev pub two : List ℕ → ℕ → ℕ → (ℕ → ℕ → Command) → ℕ → ℕ → Result (Command × ℕ) Refusal
two bs p q mk at to = and_then (operand_at bs (at + 1) to p) (λ a. and_then (operand_at bs (at + 2) to q) (λ b. Ok (mk a b, at + 3)))

abbrev pub three : List ℕ → ℕ → ℕ → ℕ → (ℕ → ℕ → ℕ → Command) → ℕ → ℕ → Result (Command × ℕ) Refusal
three bs p q r mk at to =
    and_then (operand_at bs (at + 1) to p) (λ a. and_then (operand_at bs (at + 2) to q) (λ b.
    and_then (operand_at bs (at + 3) to r) (λ c. Ok (mk a b c, at + 4))))

abbrev pub four : List ℕ → ℕ → ℕ → ℕ → ℕ → (ℕ → ℕ → ℕ → ℕ → Command) → ℕ → ℕ → Result (Command × ℕ) Refusal
four bs p q r s mk at to =
    and_then (operand_at bs (at + 1) to p) (λ a. and_then (operand_at bs (at + 2) to q) (λ b.
    and_then (operand_at bs (at + 3) to r) (λ c. and_then (operand_at bs (at + 4) to s) (λ d. Ok (mk a b c d, at + 5)))))

-- A command without blocks, by its number.
abbrev pub leaf_at : Sizes → List ℕ → ℕ → ℕ → Result (Command × ℕ) Refusal
leaf_at m bs at to =
    cond (slice_index bs at == 0) (Ok (skip, at + 1)) (
    cond (slice_index bs at == 1) (two bs m.registers m.locations load at to) (
    cond (slice_index bs at == 2) (two bs m.locations m.registers store at to) (
    cond (slice_index bs at == 3) (two bs m.registers m.values constant at to) (
    cond (slice_index bs at == 4) (two bs m.registers m.registers copy at to) (
    cond (slice_index bs at == 5) (three bs m.registers m.registers m.registers sum at to) (
    cond (slice_index bs at == 6) (three bs m.registers m.registers m.registers equal at to) (
    cond (slice_index bs at == 7) (four bs m.registers m.locations m.registers m.registers compare_and_swap at to) (
    cond (slice_index bs at == 8) (Ok (fence, at + 1)) (
    cond (slice_index bs at == 9) (one bs m.registers get at to) (
    cond (slice_index bs at == 10) (one bs m.registers print at to) (
    declined Unknown at)))))))))))

-- An if. `blocks` reads an inner block, with the commands before it, from a place to its end.
abbrev pub branch_at : Sizes → (ℕ → ℕ → ℕ → Result Block Refusal) → List ℕ → ℕ → ℕ → ℕ → ℕ → Result (Command × ℕ) Refusal
branch_at m blocks bs depth seen at to =
    and_then (operand_at bs (at + 1) to m.registers) (λ a.
    and_then (inner_at bs depth (at + 2) to) (λ i. and_then (blocks (seen + 1) i.start i.end) (λ t.
    and_then (inner_at bs depth i.end to) (λ j. and_then (blocks (seen + 1 + size_b t) j.start j.end) (λ e.
    Ok (branch a t e, j.end))))))

abbrev pub declare_at : Sizes → (ℕ → ℕ → ℕ → Result Block Refusal) → List ℕ → ℕ → ℕ → ℕ → ℕ → Result (Command × ℕ) Refusal
declare_at m blocks bs depth seen at to =
    and_then (operand_at bs (at + 1) to m.registers) (λ a.
    and_then (operand_at bs (at + 2) to m.values) (λ x.
    and_then (inner_at bs depth (at + 3) to) (λ i. and_then (blocks (seen + 1) i.start i.end) (λ b.
    Ok (declare a x b, i.end)))))

-- A command with its blocks: nothing of a 33rd is read.
abbrev pub parse_c : Sizes → (ℕ → ℕ → ℕ → Result Block Refusal) → List ℕ → ℕ → ℕ → ℕ → ℕ → Result (Command × ℕ) Refusal
parse_c m blocks bs depth seen at to =
    cond (nat_lt seen 32)
    (cond (slice_index bs at == 11)
    (branch_at m blocks bs depth seen at to)
    (cond (slice_index bs at == 12) (declare_at m blocks bs depth seen at to) (leaf_at m bs at to)))
    (declined TooMuch at)

-- A block from a place to its end, at a depth, with the commands before it. The first number bounds the reading.
abbrev pub parse_b : Sizes → ℕ → List ℕ → ℕ → ℕ → ℕ → ℕ → Result Block Refusal
parse_b m zero bs depth seen at to = Ok end
parse_b m (suc f) bs depth seen at to =
    cond (at == to)
    (Ok end)
    (and_then (parse_c m (parse_b m f bs (depth + 1)) bs depth seen at to) (λ s.
    and_then (parse_b m f bs depth (seen + size_c s.0) s.1 to) (λ b. Ok (then s.0 b))))

-- The body whose length stands at a place, and the place after it.
abbrev pub body_at : Sizes → List ℕ → ℕ → Result (Block × ℕ) Refusal
body_at m bs at =
    and_then (span_at bs at (length bs)) (λ i. and_then (parse_b m (suc (i.end - i.start)) bs 0 0 i.start i.end) (λ t. Ok (t, i.end)))
