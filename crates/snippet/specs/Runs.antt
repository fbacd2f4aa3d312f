-- How many runs a snippet has.
use Rattle.std.specs.Prelude.{◌≡◌, ℕ, ◌+◌, ◌^◌, ◌<◌, ◌≤◌, List, [], ◌∷◌, Ok, Err, Result}
use Rattle.trace.specs.declared.refusal.Refusal.{Refusal}
use Rattle.trace.specs.declared.refusal.Cause.TheVariants.{TooManyRuns}
use Rattle.snippet.specs.Program.{Block, choices_b}
use Rattle.snippet.specs.Keeps.{Sizes, sizes}
use Rattle.snippet.specs.Parse.{refusal}
use Rattle.snippet.specs.Meant.{block_of}
use Rattle.snippet.specs.declared.body.Body.{Body}
use Rattle.snippet.specs.declared.snippet.Snippet.{Snippet}
use Rattle.snippet.specs.declared.statement.Statement.{Statement}
use Rattle.snippet.specs.declared.statement.Statement.TheVariants.{Skip, Load, Store, Constant, Copy, Sum, Equal, CompareAndSwap, Fence, Get, Print, If, Declare}

-- A run starts from any registers, and takes a value at each choice.
abbrev pub runs_of : Sizes → Block → ℕ
runs_of m b = m.values ^ (m.registers + choices_b b)

-- A body makes a snippet exactly if it has at most 4,096 runs.
abbrev pub Admitted : Result Snippet Refusal → Body → Type 0
Admitted (Ok s) b = (s.body ≡ b) × (runs_of (sizes b.limits) (block_of b) ≤ 4096)
Admitted (Err e) b = (e ≡ refusal TooManyRuns 0) × (4096 < runs_of (sizes b.limits) (block_of b))

-- How many choices a statement takes itself, and some statements together.
abbrev pub takes : Statement → ℕ
takes Skip = 0
takes (Load a L) = 1
takes (Store L a) = 0
takes (Constant a x) = 0
takes (Copy a b) = 0
takes (Sum a b c) = 0
takes (Equal a b c) = 0
takes (CompareAndSwap a L c d) = 1
takes Fence = 0
takes (Get a) = 1
takes (Print a) = 0
takes (If a t e) = 0
takes (Declare a x b) = 0

abbrev pub counted : List Statement → ℕ
counted [] = 0
counted (x ∷ xs) = takes x + counted xs
