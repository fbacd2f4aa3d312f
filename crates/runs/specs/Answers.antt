-- What the calls answer.
use Rattle.std.specs.Prelude.{◌≡◌, ℕ, ◌<◌, ◌≤◌, ◌⊎◌, ◌++◌, length, take, drop, Ok, Err, Result}
use Rattle.trace.specs.Words.{Word}
use Rattle.trace.specs.declared.refusal.Cause.{Cause}
use Rattle.trace.specs.declared.refusal.Cause.TheVariants.{NoSuchRun, NoRoom}
use Rattle.trace.specs.declared.refusal.Refusal.{Refusal}
use Rattle.snippet.specs.Program.{Block}
use Rattle.snippet.specs.Keeps.{Sizes}
use Rattle.runs.specs.Runs.{start_of, word_of, end_of, taken_of, idle, count}
use Rattle.runs.specs.Held.{held}
use Rattle.runs.specs.declared.registers.Registers.{Registers}
use Rattle.runs.specs.declared.ran.Ran.{Ran}

-- A refusal of a call as a whole.
abbrev pub declined : Cause → Refusal
declined c = record { cause = c; place = 0 }

-- Asked for the start registers of the run k.
abbrev pub StartAnswer : Sizes → Block → ℕ → Result Registers Refusal → Type 0
StartAnswer m b k (Ok r) = (k < count m b) × (held r ≡ start_of m k)
StartAnswer m b k (Err e) = (count m b ≤ k) × (e ≡ declined NoSuchRun)

-- Asked to carry out the run k. The registers are r, and r' after the call; the events are w, and w' after it.
module _ (m : Sizes) (b : Block) (k : ℕ) (r r' : Registers) (w w' : Word) where
  -- The events begin with the run's word, and the registers are its end registers.
  pub record CarriedOut (done : Ran) : Type 0 where
    pub number : k < count m b
    pub fits : length (word_of m b k) ≤ length w
    pub events : w' ≡ word_of m b k ++ drop (length (word_of m b k)) w
    pub registers : held r' ≡ end_of m b k
    pub long : done.length ≡ length (word_of m b k)
    pub taken : done.taken ≡ taken_of m b k
    pub idle : done.idle ≡ idle m b k

  -- There is no run k, and nothing is changed.
  pub record NotARun (e : Refusal) : Type 0 where
    pub number : count m b ≤ k
    pub refusal : e ≡ declined NoSuchRun
    pub events : w' ≡ w
    pub registers : r' ≡ r

  -- The events are too few for the run's word: they hold its beginning, and the registers are unchanged.
  pub record TooFewEvents (e : Refusal) : Type 0 where
    pub number : k < count m b
    pub refusal : e ≡ declined NoRoom
    pub short : length w < length (word_of m b k)
    pub events : w' ≡ take (length w) (word_of m b k)
    pub registers : r' ≡ r

  abbrev pub RunAnswer : Result Ran Refusal → Type 0
  RunAnswer (Ok done) = CarriedOut done
  RunAnswer (Err e) = NotARun e ⊎ TooFewEvents e
