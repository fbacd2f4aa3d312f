-- What the record of the registers stands for.
use Rattle.std.specs.Prelude.{ℕ, List, take}
use Rattle.runs.specs.declared.registers.Registers.{Registers}

-- The values of the registers that there are, from register 0 up.
abbrev pub held : Registers → List ℕ
held r = take r.count r.values
