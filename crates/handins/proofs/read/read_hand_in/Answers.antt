use Rattle.std.proofs.Common.{Err, arith, rules, length-drop}
use Rattle.std.proofs.lemmas.List.{take_all}
use Rattle.trace.specs.declared.refusal.Cause.TheVariants.{HandInLength}
use Rattle.snippet.specs.Parse.{refusal}
use Rattle.handins.proofs.Laws.{only_hand_in, judged}
use Rattle.handins.proofs.Chunks.{read}
use Rattle.handins.proofs.read.read_hand_in.Goals as goal

pub returns-in-len7-up-clause-gives : goal.returns-in-len7-up-clause-gives
returns-in-len7-up-clause-gives c =
    rw (c.from_be_bytes.ensures, c.from_be_bytes-in-len7-up.ensures)
    (read c.args.bytes.now _ c.read_steps.result (search rules) c.in-len7-up.len_at_least (take_all _ _ (omega (arith, length-drop 7 c.args.bytes.now))) c.if-steps-le256.true c.if-steps-eq0.true c.read_steps.ensures.steps)

pub returns-in-len7-up-clause-judged : goal.returns-in-len7-up-clause-judged
returns-in-len7-up-clause-judged c = only_hand_in _ c.args.bytes.now (λ k. (c.type_inv.bytes k).fits) (returns-in-len7-up-clause-gives c)

pub returns-in_default-2-clause-judged : goal.returns-in_default-2-clause-judged
returns-in_default-2-clause-judged c = judged (Err (refusal HandInLength 0)) c.args.bytes.now (λ k. (c.type_inv.bytes k).fits) (search rules)

pub returns-in_default-3-clause-judged : goal.returns-in_default-3-clause-judged
returns-in_default-3-clause-judged c = judged (Err (refusal HandInLength 0)) c.args.bytes.now (λ k. (c.type_inv.bytes k).fits) (search rules)
