-- How the walks over blocks and statements end: a view of the code's own.
use Rattle.std.specs.Prelude.{◌≡◌, ℕ, ◌+◌, ◌<◌, ◌≤◌, List, length, Ok, Err, Result, slice_index, slice_set}
use Rattle.std.proofs.lemmas.List.Edits.{sets}
use Rattle.snippet.specs.Program.{Block, Command}
use Rattle.snippet.specs.Layout.{block}
use Rattle.snippet.specs.declared.body.Body.{Body}
use Rattle.runs.specs.Runs.{Run, run_b, run_c}
use Rattle.runs.specs.Held.{held}
use Rattle.runs.specs.declared.full.Full.{Full}
use Rattle.runs.specs.declared.machine.Machine.{Machine}
use Rattle.runs.specs.declared.span.Span.{Span}

-- A run is carried out whose word starts at a place of the caller's events, of which there are `room`.
pub record Finished (run : Run) (room at : ℕ) (rs cs : List ℕ) (n : ℕ) : Type 0 where
  pub fits : at + length run.word ≤ room
  pub written : n ≡ at + length run.word
  pub registers : rs ≡ run.registers
  pub rest : cs ≡ run.rest

abbrev pub Ends : Result (Unit {0}) Full → Run → ℕ → ℕ → List ℕ → List ℕ → ℕ → Type 0
Ends (Ok u) run room at rs cs n = Finished run room at rs cs n
Ends (Err e) run room at rs cs n = room < at + length run.word

-- Whatever became of the registers meanwhile, one of them has its former value again.
abbrev pub Restored : ℕ → List ℕ → List ℕ → Type 0
Restored register before after = (m : List ℕ) × (after ≡ slice_set m register (slice_index before register))

-- The block that lies in a span of a body's statements.
abbrev pub block_in : Body → Span → Block
block_in b s = block b.statements s.at s.to

-- What a machine is to carry out next, if it is this block or this command.
abbrev pub of_block : Machine → Block → Run
of_block m b = run_b m.body.now.limits.values b m.choices (held m.registers)

abbrev pub of_command : Machine → Command → Run
of_command m s = run_c m.body.now.limits.values s m.choices (held m.registers)

-- A machine has carried out a run, as far as its events have room. They are the same slice as before.
pub record Walks (run : Run) (before after : Machine) (result : Result (Unit {0}) Full) : Type 0 where
  pub body : after.body ≡ before.body
  pub same : after.events.ghost_name ≡ before.events.ghost_name
  pub events : after.events.now ≡ sets before.events.now before.written run.word
  pub ends : Ends result run (length before.events.now) before.written (held after.registers) after.choices after.written
