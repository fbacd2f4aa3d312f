use Rattle.std.proofs.Common.{ap, sym, ◌∙◌}
use Rattle.lines.specs.Lines.{written}
use Rattle.lines.proofs.Bytes.{room_more, one_more, room_last, all_written}
use Rattle.lines.proofs.write.text_of.Goals as goal

pub push_number-requires-clause-room : goal.push_number-requires-clause-room
push_number-requires-clause-room c = room_more c.in-Some.others.now c.in-Some.last.now c.loop-number.text.bytes c.loop-number.number-index c.loop-number.invariant c.loop-number-test.true (rw (← c.in-Some.ensures.cases.0) c.requires)

pub loop-number-preserved : goal.loop-number-preserved
loop-number-preserved c = one_more c.in-Some.others.now c.in-Some.last.now c.loop-number.text.bytes c.loop-number.number-index c.loop-number.invariant _ c.loop-number-test.true c.push_number.ensures

pub push_number-requires-in-Some-clause-room : goal.push_number-requires-in-Some-clause-room
push_number-requires-in-Some-clause-room c = room_last c.in-Some.others.now c.in-Some.last.now c.loop-number.text.bytes c.loop-number.number-index c.loop-number.invariant c.loop-number-test.false (rw (← c.in-Some.ensures.cases.0) c.requires)

pub returns-after-loop-number-clause-text : goal.returns-after-loop-number-clause-text
returns-after-loop-number-clause-text c = all_written c.in-Some.others.now c.in-Some.last.now c.loop-number.text.bytes c.loop-number.number-index c.loop-number.invariant _ c.loop-number-test.false c.push_number-in-Some.ensures ∙ ap written (sym c.in-Some.ensures.cases.0)
