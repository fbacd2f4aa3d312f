-- The worked pairs. Values are 0 and 1; A is location 0, and B location 1.
use Rattle.std.specs.Prelude.{ℕ}
use Rattle.snippet.specs.Program.{Block, Command, end, then, load, store, copy, branch}
use Rattle.snippet.specs.Keeps.{Sizes}
use Rattle.pairs.specs.Program.{Program}

-- Two values, and so many registers and locations.
abbrev pub sized : ℕ → ℕ → Sizes
sized registers locations = record { values = 2; registers = registers; locations = locations }

abbrev pub pair : Sizes → Block → Block → Program
pair m original replacement = record { sizes = m; original = original; replacement = replacement }

abbrev pub one : Command → Block
one s = then s end

abbrev pub two : Command → Command → Block
two s t = then s (one t)

-- "r0 := A; if r0 {} else {A := r0}" to "r0 := A".
abbrev pub store_back : Program
store_back = pair (sized 1 1) (two (load 0 0) (branch 0 end (one (store 0 0)))) (one (load 0 0))

-- "A := r0; r1 := B" to "r1 := B; A := r0".
abbrev pub store_later : Program
store_later = pair (sized 2 2) (two (store 0 0) (load 1 1)) (two (load 1 1) (store 0 0))

-- "r1 := B; A := r0" to "A := r0; r1 := B".
abbrev pub store_sooner : Program
store_sooner = pair (sized 2 2) (two (load 1 1) (store 0 0)) (two (store 0 0) (load 1 1))

-- "r0 := A; r1 := A" to "r0 := A; r1 := r0".
abbrev pub load_once : Program
load_once = pair (sized 2 1) (two (load 0 0) (load 1 0)) (two (load 0 0) (copy 1 0))

-- "A := r0; r1 := A" to "A := r0; r1 := r0".
abbrev pub load_back : Program
load_back = pair (sized 2 1) (two (store 0 0) (load 1 0)) (two (store 0 0) (copy 1 0))

-- "if r0 {r0 := A} else {}".
abbrev pub load_maybe : Block
load_maybe = one (branch 0 (one (load 0 0)) end)
