use Rattle.std.proofs.Common.{◌≡◌, ◌+◌, ◌-◌, ◌*◌, ◌≤◌, Result}
use Rattle.trace.specs.declared.refusal.Refusal.{Refusal}
use Rattle.snippet.specs.Reads.{ReadsBlock}
use Rattle.snippet.specs.declared.read.Laid.{Laid}
use Rattle.snippet.proofs.read.Reader.+blocks.Given as goal

abbrev pub decreases-block : goal.decreases-block
decreases-block l = 3 * (l.self.source.end - l.self.at) + 2

abbrev pub decreases-statement : goal.decreases-statement
decreases-statement l = 3 * (l.self.now.source.end - l.self.now.at) + 1

abbrev pub decreases-branch : goal.decreases-branch
decreases-branch l = 3 * (l.self.now.source.end - l.self.now.at)

abbrev pub decreases-declared : goal.decreases-declared
decreases-declared l = 3 * (l.self.now.source.end - l.self.now.at)

abbrev pub decreases-nested : goal.decreases-nested
decreases-nested l = 3 * (l.self.now.source.end - l.self.now.at)

-- What the rest of the block is read as, the whole is read as.
abbrev pub invariant-block-loop-self : goal.invariant-block-loop-self
invariant-block-loop-self l = record {
  source : l.self.source ≡ l.fn.self.source;
  from : l.fn.self.at ≤ l.self.at;
  whole : (r : Result (Unit {0}) Refusal) (o : Laid) → ReadsBlock l.self l.out r o → ReadsBlock l.fn.self l.fn.out r o;
}

abbrev pub decreases-block-loop-self : goal.decreases-block-loop-self
decreases-block-loop-self l = l.self.source.end - l.self.at
