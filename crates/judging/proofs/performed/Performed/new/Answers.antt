use Rattle.std.proofs.Common.{inl, inr, arith}
use Rattle.runs.proofs.Bounds.{word_few}
use Rattle.judging.proofs.performed.Performed.new.Goals as goal

-- there is such a run, and its word has at most 32 events
pub returns-in_err-ran : goal.returns-in_err-ran
returns-in_err-ran c =
    let s = c.args.snippet.now in
    let few = word_few s c.args.number in
    let there = c.in_ok-start.ensures.0 in
    elim c.in_err-ran.ensures.answer [ inl n ↦ absurd (omega (arith, n.number)) | inr f ↦ absurd (omega (arith, f.short)) ]
