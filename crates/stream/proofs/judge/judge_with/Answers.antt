use Rattle.std.proofs.Common.{vec_items}
use Rattle.stream.specs.Files.{files}
use Rattle.stream.proofs.Reporting.{lines_made}
use Rattle.stream.proofs.judge.judge_with.Goals as goal

pub returns : goal.returns
returns g c =
    let o = c.open-case.ensures in
    let s = c.seal.ensures in
    let r = c.report.ensures in
    lines_made g.M.Model.meaning g.M.Model.NUMBER c.args.model c.args.pair c.open-case.result c.hand_in_all.new.case
    (files c.args.hand_ins) (vec_items c.hand_in_all.new.out) (vec_items c.print.new.out) c.report.result
    o.pair o.model c.in_ok-hand_in_all.ensures (rw r s.model) (rw r s.count) (rw r s.verdict) c.in_ok-print.ensures
