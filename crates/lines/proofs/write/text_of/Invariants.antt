use Rattle.std.proofs.Common.{◌≡◌, ◌++◌}
use Rattle.lines.proofs.Bytes.{still}
use Rattle.lines.proofs.write.text_of.Given as goal

-- what was written, and what is still to come, are the whole line
abbrev pub invariant-loop-number : goal.invariant-loop-number
invariant-loop-number l = l.text.bytes ++ still l.others l.last l.number-index ≡ still l.others l.last 0
