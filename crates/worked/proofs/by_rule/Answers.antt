use Rattle.std.proofs.Common.{◌≡◌, ◌/◌, ◌%◌, arith}
use Rattle.worked.proofs.by_rule.Goals as goal

pub returns : goal.returns
returns c =
    let a : 0 ≡ c.args.to / 256 = omega arith in
    let b : c.args.to ≡ c.args.to % 256 = omega arith in
    let d : 0 ≡ c.args.from / 256 = omega arith in
    let e : c.args.from ≡ c.args.from % 256 = omega arith in
    cc
