use Rattle.std.proofs.Common.{rules}
use lib.Seq.{set_out}
use Rattle.cases.proofs.playing.note.Goals as goal

pub returns-else-at-standings : goal.returns-else-at-standings
returns-else-at-standings c = search (rules, set_out)
