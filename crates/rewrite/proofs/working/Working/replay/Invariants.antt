use Rattle.std.proofs.Common.{take}
use Rattle.rewrite.specs.Steps.{word, Chain}
use Rattle.rewrite.proofs.working.Working.replay.Given as goal

abbrev pub invariant-loop-at : goal.invariant-loop-at
invariant-loop-at g l = Chain (g.M.Model.meaning l.model) l.ranges.values l.ranges.locations (take l.at-counter l.steps) (word l.initial.self) (word l.self)
