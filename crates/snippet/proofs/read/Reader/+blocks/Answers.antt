use Rattle.std.proofs.Common.{rules, ◌≡◌, get_or, ◌∙◌, Ok, Err, refl, arith, lt-ltb, ne_eqb}
use Rattle.std.proofs.lemmas.Result.{err_from_is_err_and}
use Rattle.snippet.proofs.Reading.{block_done, block_full, block_refused, block_more, leaf_read, branch_first, branch_second, branch_done, declare_inner, declare_done}
use Rattle.snippet.specs.Parse.{refusal}
use Rattle.trace.specs.declared.refusal.Cause.TheVariants.{TooMuch}
use Rattle.snippet.proofs.read.Reader.+blocks.Goals as goal

pub block-loop-self-preserved : goal.block-loop-self-preserved
block-loop-self-preserved t c =
    let p = c.in_ok-statement.ensures.source in
    record {
      source = p ∙ c.loop-self.invariant.source;
      from = omega (arith, c.in_ok-statement.ensures.ahead);
      whole = λ r o k. c.loop-self.invariant.whole r o
          (block_more c.loop-self.self c.statement.new.self c.loop-self.out c.loop-self-test.true refl p c.in_ok-statement.ensures.ahead c.in_ok-statement.ensures.reads r o k);
    }

pub block-returns-then-place-ge-MOST : goal.block-returns-then-place-ge-MOST
block-returns-then-place-ge-MOST t c = rw c.refused.ensures (c.loop-self.invariant.whole (Err (refusal TooMuch c.loop-self.self.at)) c.loop-self.out (block_full c.loop-self.self c.loop-self.out c.loop-self-test.true c.if-place-ge-MOST.true))

pub block-returns-in_err-statement : goal.block-returns-in_err-statement
block-returns-in_err-statement t c =
    let p = err_from_is_err_and c.from_residual.result c.from_residual.ensures.1 in
    let e = c.in_err-statement.field-0.0 in
    rw (p.1, p.2) (c.loop-self.invariant.whole (Err e) c.statement.new.out
    (block_refused c.loop-self.self c.statement.new.self c.loop-self.out c.loop-self-test.true refl e c.statement.new.out c.in_err-statement.ensures.reads))

pub block-returns : goal.block-returns
block-returns t c = c.loop-self.invariant.whole (Ok tt) c.loop-self.out (block_done c.loop-self.self c.loop-self.out (omega arith))

pub statement-returns-in-11-clause-reads : goal.statement-returns-in-11-clause-reads
statement-returns-in-11-clause-reads t c = λ seen f e h. rw (lt-ltb seen 32 (omega arith), c.in-11.is) (c.branch-self.ensures.reads seen f e h)

pub statement-returns-in-12-clause-reads : goal.statement-returns-in-12-clause-reads
statement-returns-in-12-clause-reads t c = λ seen f e h. rw (lt-ltb seen 32 (omega arith), c.in-12.is) (c.declared.ensures.reads seen f e h)

pub statement-returns-in_default-clause-reads : goal.statement-returns-in_default-clause-reads
statement-returns-in_default-clause-reads t c = λ seen f e h.
    let n = get_or c.args.self.now.source.bytes.now c.args.self.now.at 0 in
    let a : n ≡ 11 → ⊥ = λ q. omega arith in
    let b : n ≡ 12 → ⊥ = λ q. omega arith in
    rw (lt-ltb seen 32 (omega arith), ne_eqb n 11 a, ne_eqb n 12 b) (leaf_read c.leaf.result _ c.args.out.now c.leaf.new.self.at c.leaf.ensures.gives c.leaf.ensures.flat)

pub branch-returns-in_err-nested-clause-reads : goal.branch-returns-in_err-nested-clause-reads
branch-returns-in_err-nested-clause-reads t c = λ seen f e h.
    let p = err_from_is_err_and c.from_residual-in_err-nested.result c.from_residual-in_err-nested.ensures.1 in
    let q = c.in_ok-operand.ensures.source ∙ c.number.ensures.source in
    let one = rw q at c.in_err-nested.ensures.reads f (search rules) in
    rw (p.1, p.2) (branch_first c.args.self.now f seen c.in_ok-operand.field-0 (search rules) e (search rules) one)

pub branch-returns-in_err-nested-2-clause-reads : goal.branch-returns-in_err-nested-2-clause-reads
branch-returns-in_err-nested-2-clause-reads t c = λ seen f e h.
    let p = err_from_is_err_and c.from_residual-in_err-nested-2.result c.from_residual-in_err-nested-2.ensures.1 in
    let q = c.in_ok-operand.ensures.source ∙ c.number.ensures.source in
    let one = rw q at c.in_ok-nested.ensures.reads f (search rules) in
    let r = c.in_ok-nested.ensures.source ∙ q in
    let two = rw r at c.in_err-nested-2.ensures.reads f (search rules) in
    rw (p.1, p.2) (branch_second c.args.self.now f seen c.in_ok-operand.field-0 (search rules) e (search rules) one two)

pub branch-returns-clause-reads : goal.branch-returns-clause-reads
branch-returns-clause-reads t c = λ seen f e h.
    let q = c.in_ok-operand.ensures.source ∙ c.number.ensures.source in
    let one = rw q at c.in_ok-nested.ensures.reads f (search rules) in
    let r = c.in_ok-nested.ensures.source ∙ q in
    let two = rw r at c.in_ok-nested-2.ensures.reads f (search rules) in
    branch_done c.args.self.now f seen c.in_ok-operand.field-0 (search rules) e (search rules) one two

pub declared-returns-in_err-nested-clause-reads : goal.declared-returns-in_err-nested-clause-reads
declared-returns-in_err-nested-clause-reads t c = λ seen f e h.
    let p = err_from_is_err_and c.from_residual-in_err-nested.result c.from_residual-in_err-nested.ensures.1 in
    let q = c.in_ok-operand-2.ensures.source ∙ c.in_ok-operand.ensures.source ∙ c.number.ensures.source in
    let one = rw q at c.in_err-nested.ensures.reads f (search rules) in
    rw (p.1, p.2) (declare_inner c.args.self.now f seen c.in_ok-operand.field-0 (search rules) e c.in_ok-operand-2.field-0 (search rules) (search rules) one)

pub declared-returns-clause-reads : goal.declared-returns-clause-reads
declared-returns-clause-reads t c = λ seen f e h.
    let q = c.in_ok-operand-2.ensures.source ∙ c.in_ok-operand.ensures.source ∙ c.number.ensures.source in
    let one = rw q at c.in_ok-nested.ensures.reads f (search rules) in
    declare_done c.args.self.now f seen c.in_ok-operand.field-0 (search rules) e c.in_ok-operand-2.field-0 (search rules) (search rules) one
