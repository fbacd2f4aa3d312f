use Rattle.std.proofs.Common.{◌∙◌, ◌*◌, get_or, ap, add-zero, arith, rules, length-set}
use Rattle.handins.proofs.Chunks.{byte, step_of, step_written}
use Rattle.handins.proofs.read.read_steps.Goals as goal

pub loop-i-preserved : goal.loop-i-preserved
loop-i-preserved c =
    let bs = c.args.bytes.now in
    let i = c.loop-i.i in
    let old = c.loop-i.invariant in
    let chunks = c.as_chunks.ensures in
    let byte = byte bs c.as_chunks.result.0.now _ i chunks.front (omega (arith, chunks.front_len, c.loop-i-test.true)) in
    let step = step_of bs (4 * i) c.from.result (search (rules, byte 0 (omega arith) ∙ ap (λ k. get_or bs k 0) (add-zero (4 * i)))) (search (rules, byte 1 (omega arith))) (search (rules, byte 2 (omega arith))) (search (rules, byte 3 (omega arith))) in
    record {
      full = length-set c.loop-i.steps i c.from.result ∙ old.full;
      steps = step_written bs c.loop-i.steps i c.from.result (omega (arith, old.full, chunks.front_len, c.loop-i-test.true, c.requires.few)) old.steps step;
    }
