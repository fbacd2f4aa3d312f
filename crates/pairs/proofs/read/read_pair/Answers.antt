use Rattle.std.proofs.Common.{rules}
use Rattle.pairs.proofs.Laws.{only_file, judged}
use Rattle.pairs.proofs.read.read_pair.Goals as goal

pub returns-in_err-original-clause-judged : goal.returns-in_err-original-clause-judged
returns-in_err-original-clause-judged c =
    judged c.from_residual-in_err-original.result c.args.bytes.now (λ k. (c.type_inv.bytes k).fits) (search rules)

pub returns-in_err-replacement-clause-judged : goal.returns-in_err-replacement-clause-judged
returns-in_err-replacement-clause-judged c =
    judged c.from_residual-in_err-replacement.result c.args.bytes.now (λ k. (c.type_inv.bytes k).fits) (search rules)

pub returns-clause-judged : goal.returns-clause-judged
returns-clause-judged c = only_file _ c.args.bytes.now (λ k. (c.type_inv.bytes k).fits) (search rules)
