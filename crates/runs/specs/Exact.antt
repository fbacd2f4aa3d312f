-- Behaviours are runs: each behaviour of a snippet is that of exactly one run that is not idle.
use Rattle.std.specs.Prelude.{◌≡◌, ℕ}
use Rattle.trace.specs.Words.{Behaviour, behaviour}
use Rattle.snippet.specs.Program.{Block}
use Rattle.snippet.specs.Keeps.{Sizes}
use Rattle.runs.specs.Behaviours.{Behaves}
use Rattle.runs.specs.Runs.{start_of, end_of, word_of, Active}

-- The run k goes as the behaviour β.
pub record Shows (m : Sizes) (b : Block) (k : ℕ) (β : Behaviour) : Type 0 where
  pub start : start_of m k ≡ β.start
  pub end : end_of m b k ≡ β.end
  pub word : word_of m b k ≡ β.word

pub record BehavioursAreRuns (m : Sizes) (b : Block) : Type 0 where
  pub covered :
      (β : Behaviour) → Behaves m b β →
      (k : ℕ) × Active m b k × Shows m b k β × ((k' : ℕ) → Active m b k' → Shows m b k' β → k' ≡ k)
  pub behave : (k : ℕ) → Active m b k → Behaves m b (behaviour (start_of m k) (end_of m b k) (word_of m b k))
