use Rattle.std.proofs.Common.{◌≡◌, ℕ, Ok, Result}
use Rattle.trace.specs.declared.refusal.Refusal.{Refusal}
use Rattle.lines.specs.Lines.{numbers_of, written}
use Rattle.stream.proofs.Adding.{added}
use Rattle.stream.proofs.print.print.Goals as goal

ok_size : {n k : ℕ} → ◌≡◌ {A = Result ℕ Refusal} (Ok n) (Ok k) → n ≡ k
ok_size e = cc

pub returns : goal.returns
returns c =
    let line = written (numbers_of c.args.line) in
    added c.extend_from_slice.result _ _ line _ _ c.in-Ok.length (ok_size c.in-Ok.ensures.answer) c.in-Ok.ensures.bytes c.extend_from_slice.ensures.items
