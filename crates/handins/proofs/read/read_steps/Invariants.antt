use Rattle.std.proofs.Common.{◌≡◌, length, take}
use Rattle.handins.specs.File.{steps_from}
use Rattle.handins.proofs.read.read_steps.Given as goal

abbrev pub invariant-loop-i : goal.invariant-loop-i
invariant-loop-i l = record {
  full : length l.steps ≡ 64;
  steps : take l.i l.steps ≡ steps_from l.fn.bytes 0 l.i;
}
