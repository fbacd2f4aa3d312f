use Rattle.std.proofs.Common.{inl, inr, arith}
use Rattle.runs.proofs.Bounds.{word_few, count_is}
use Rattle.cases.proofs.active.is_idle.Goals as goal

-- there is such a run, and its word has at most 32 events
pub unreachable-requires : goal.unreachable-requires
unreachable-requires c =
    let s = c.args.snippet.now in
    let few = word_few s c.args.number in
    let many = count_is s in
    elim c.in-Err.ensures.answer [ inl n ↦ absurd (omega (arith, n.number)) | inr f ↦ absurd (omega (arith, f.short)) ]
