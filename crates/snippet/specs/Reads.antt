-- What the functions of the reader say of what they read, in the words of Parse.
use Rattle.std.specs.Prelude.{◌≡◌, ℕ, ◌+◌, ◌-◌, ◌<◌, ◌≤◌, List, ◌∷◌, length, Ok, Err, Result}
use Rattle.std.proofs.lemmas.List.Edits.{sets}
use Rattle.trace.specs.declared.refusal.Refusal.{Refusal}
use Rattle.snippet.specs.Program.{Block, Command, end, size_b}
use Rattle.snippet.specs.Layout.{flat_b, flat_c, command_of}
use Rattle.snippet.specs.Keeps.{Sizes, sizes}
use Rattle.snippet.specs.Meant.{block_of}
use Rattle.snippet.specs.Parse.{and_then, inner_at, parse_b}
use Rattle.snippet.specs.declared.body.Body.{Body}
use Rattle.snippet.specs.declared.limits.Limits.{Limits}
use Rattle.snippet.specs.declared.read.Laid.{Laid}
use Rattle.snippet.specs.declared.read.Reader.{Reader}
use Rattle.snippet.specs.declared.read.Source.{Source}
use Rattle.snippet.specs.declared.statement.Statement.{Statement}

-- The same answer: a value through `f`, a refusal as it is.
abbrev pub Gives : {A B : Type 0} → Result A Refusal → Result B Refusal → (A → B) → Type 0
Gives (Ok a) p f = p ≡ Ok (f a)
Gives (Err e) p f = p ≡ Err e

-- A body as a block, with the place after it.
abbrev pub placed : Body × ℕ → Block × ℕ
placed a = (block_of a.0, a.1)

-- The body has the limits that were given.
abbrev pub Under : Result (Body × ℕ) Refusal → Limits → Type 0
Under (Ok a) m = a.0.limits ≡ m
Under (Err e) m = Unit {0}

-- The place after the body is within so many bytes.
abbrev pub After : Result (Body × ℕ) Refusal → ℕ → Type 0
After (Ok a) n = a.1 ≤ n
After (Err e) n = Unit {0}

-- A block that was read, and laid into the array from the place `seen` up to `all`.
pub record BlockRead (p : Result Block Refusal) (ns ns' : List Statement) (seen all : ℕ) : Type 0 where
  pub body : Block
  pub is : p ≡ Ok body
  pub laid : ns' ≡ sets ns seen (flat_b body)
  pub count : all ≡ seen + size_b body

-- An inner block that was read behind its length, with the number of its statements.
pub record NestedRead (p : Result (Block × ℕ) Refusal) (ns ns' : List Statement) (seen next all count : ℕ) : Type 0 where
  pub body : Block
  pub is : p ≡ Ok (body, next)
  pub laid : ns' ≡ sets ns seen (flat_b body)
  pub more : all ≡ seen + size_b body
  pub size : count ≡ size_b body

-- A command that was read, whose own statement is `n`: those of its blocks are laid behind the place that is kept for it.
pub record StatementRead (p : Result (Command × ℕ) Refusal) (n : Statement) (ns ns' : List Statement) (seen next all : ℕ) : Type 0 where
  pub command : Command
  pub rest : List Statement
  pub is : p ≡ Ok (command, next)
  pub flat : flat_c command ≡ n ∷ rest
  pub laid : ns' ≡ sets ns seen rest
  pub count : all ≡ seen + length rest

-- It was read, and laid behind what there was; or it is refused the same.
abbrev pub ReadB : Result (Unit {0}) Refusal → Result Block Refusal → List Statement → ℕ → Laid → Type 0
ReadB (Ok _) p ns seen o = BlockRead p ns o.statements seen o.len
ReadB (Err e) p ns seen o = p ≡ Err e

abbrev pub ReadS : Result Statement Refusal → Result (Command × ℕ) Refusal → List Statement → ℕ → Laid → ℕ → Type 0
ReadS (Ok n) p ns seen o next = StatementRead p n ns o.statements seen next o.len
ReadS (Err e) p ns seen o next = p ≡ Err e

abbrev pub ReadN : Result ℕ Refusal → Result (Block × ℕ) Refusal → List Statement → ℕ → Laid → ℕ → Type 0
ReadN (Ok n) p ns seen o next = NestedRead p ns o.statements seen next o.len n
ReadN (Err e) p ns seen o next = p ≡ Err e

-- The inner blocks of a block, from a place to an end, with the commands before them. The first number bounds the reading.
abbrev pub blocks_of : Source → ℕ → ℕ → ℕ → ℕ → Result Block Refusal
blocks_of s f = parse_b (sizes s.limits) f s.bytes.now (s.depth + 1)

-- An inner block behind its length, and the place after it.
abbrev pub nested_at : (ℕ → ℕ → ℕ → Result Block Refusal) → List ℕ → ℕ → ℕ → ℕ → ℕ → Result (Block × ℕ) Refusal
nested_at blocks bs depth seen at to = and_then (inner_at bs depth at to) (λ i. and_then (blocks seen i.start i.end) (λ t. Ok (t, i.end)))

-- What a reader answers is what is read where it stood, behind what was laid: the rest of its block, an inner block, a command.
abbrev pub ReadsBlock : Reader → Laid → Result (Unit {0}) Refusal → Laid → Type 0
ReadsBlock s o r o' =
    (f : ℕ) → s.source.end - s.at < f
    → ReadB r (parse_b (sizes s.source.limits) f s.source.bytes.now s.source.depth o.len s.at s.source.end) o.statements o.len o'

abbrev pub ReadsNested : Reader → Laid → Result ℕ Refusal → Reader → Laid → Type 0
ReadsNested s o r s' o' =
    (f : ℕ) → s.source.end - s.at ≤ f
    → ReadN r (nested_at (blocks_of s.source f) s.source.bytes.now s.source.depth o.len s.at s.source.end) o.statements o.len o' s'.at

-- `parse` is parse_c, branch_at or declare_at, and `seen` counts the commands before the place that is kept.
abbrev pub ReadsStatement : (Sizes → (ℕ → ℕ → ℕ → Result Block Refusal) → List ℕ → ℕ → ℕ → ℕ → ℕ → Result (Command × ℕ) Refusal)
    → Reader → Laid → Result Statement Refusal → Reader → Laid → Type 0
ReadsStatement parse s o r s' o' =
    (seen f : ℕ) → o.len ≡ seen + 1 → s.source.end - s.at ≤ f
    → ReadS r (parse (sizes s.source.limits) (blocks_of s.source f) s.source.bytes.now s.source.depth seen s.at s.source.end) o.statements o.len o' s'.at

-- The command that a statement without blocks is.
abbrev pub leaf_of : Statement → Command
leaf_of n = command_of (λ x y. end) n 0 0
