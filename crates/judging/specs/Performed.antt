-- A run as it was carried out, with its word, its start and end registers, and whether it is idle.
use Rattle.std.specs.Prelude.{◌≡◌, ℕ, ◌<◌, ◌≤◌, take, Ok, Err, Result}
use Rattle.trace.specs.declared.refusal.Refusal.{Refusal}
use Rattle.trace.specs.declared.refusal.Cause.TheVariants.{NoSuchRun}
use Rattle.snippet.specs.Parse.{refusal}
use Rattle.snippet.specs.Program.{Block}
use Rattle.snippet.specs.Keeps.{Sizes}
use Rattle.runs.specs.Runs.{start_of, end_of, word_of, idle, count}
use Rattle.runs.specs.Held.{held}
use Rattle.judging.specs.declared.performed.Performed.{Performed}

pub record Performs (m : Sizes) (b : Block) (k : ℕ) (p : Performed) : Type 0 where
  pub number : k < count m b
  pub word : take p.length p.events ≡ word_of m b k
  pub start : held p.start ≡ start_of m k
  pub end : held p.end ≡ end_of m b k
  pub idle : p.idle ≡ idle m b k

abbrev pub PerformAnswer : Sizes → Block → ℕ → Result Performed Refusal → Type 0
PerformAnswer m b k (Ok p) = Performs m b k p
PerformAnswer m b k (Err e) = (count m b ≤ k) × (e ≡ refusal NoSuchRun 0)
