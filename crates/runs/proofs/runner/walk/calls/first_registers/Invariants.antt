use Rattle.std.proofs.Common.{◌≡◌, take, drop}
use Rattle.runs.specs.Held.{held}
use Rattle.runs.proofs.runner.walk.calls.first_registers.Given as goal

abbrev pub invariant-loop-register : goal.invariant-loop-register
invariant-loop-register l =
    (held l.registers ≡ take l._register l.initial.choices)
    × (l.choices ≡ drop l._register l.initial.choices)
