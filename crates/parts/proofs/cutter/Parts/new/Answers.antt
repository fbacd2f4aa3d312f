use Rattle.std.proofs.Common.{rules}
use Rattle.parts.proofs.Laws.{rejoins}
use Rattle.parts.proofs.cutter.Parts.new.Goals as goal

pub returns : goal.returns
returns c = record { parts = search rules; rejoins = rejoins c.args.stream.now }
