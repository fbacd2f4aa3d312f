-- What is answered to a hand-in: the causes against it, in their order.
use Rattle.std.specs.Prelude.{◌≡◌, ℕ, ◌<◌, false, List, Ok, Err, Result}
use Rattle.trace.specs.declared.refusal.Refusal.{Refusal}
use Rattle.trace.specs.declared.refusal.Cause.TheVariants.{NoSuchRun, IdleRun, StartRegisters, Ending}
use Rattle.trace.specs.Words.{Word, Registers}
use Rattle.ordering.specs.Meaning.{Meaning}
use Rattle.rewrite.specs.declared.working.Step.{Step}
use Rattle.rewrite.specs.declared.working.Stopped.{Stopped}
use Rattle.rewrite.specs.Steps.{Chain, Replayed}
use Rattle.rewrite.specs.Refused.{refusal_of}
use Rattle.snippet.specs.Parse.{refusal}
use Rattle.pairs.specs.Program.{Program}
use Rattle.runs.specs.Runs.{start_of, end_of, word_of, idle, count}
use Rattle.handins.specs.Encoded.{Derivation}
use Rattle.handins.specs.File.{derivation_at}

-- What comes of steps on the word a with end registers s, which should lead to the word b with end registers t.
pub data Settled (m : Meaning) (v l : ℕ) (ss : List Step) (a b : Word) (s t : Registers) : Result (Unit {0}) Refusal → Type 0 where
  -- 13, 14, 15: the first step that is denied
  stopped : {w : Word} (e : Stopped) → Replayed m v l ss a (Err e) w → Settled m v l ss a b s t (Err (refusal_of e))
  -- 16: all steps are taken, and lead elsewhere
  elsewhere : {w : Word} → Chain m v l ss a w → ((w ≡ b) × (s ≡ t) → ⊥) → Settled m v l ss a b s t (Err (refusal Ending 0))
  reached : Chain m v l ss a b → s ≡ t → Settled m v l ss a b s t (Ok tt)

module _ (m : Meaning) (P : Program) where
  -- Both runs are there.
  abbrev pub There : Derivation → Type 0
  There d = (d.to < count P.sizes P.replacement) × (d.from < count P.sizes P.original)

  -- Neither is idle.
  abbrev pub Busy : Derivation → Type 0
  Busy d = (idle P.sizes P.replacement d.to ≡ false) × (idle P.sizes P.original d.from ≡ false)

  abbrev pub SameStart : Derivation → Type 0
  SameStart d = start_of P.sizes d.from ≡ start_of P.sizes d.to

  -- What is answered to a hand-in that was read.
  pub data Decided (d : Derivation) : Result (Unit {0}) Refusal → Type 0 where
    -- 10: a run number is not below the number of runs
    no_run : (There d → ⊥) → Decided d (Err (refusal NoSuchRun 0))
    -- 11: a run is idle
    idle_run : There d → (Busy d → ⊥) → Decided d (Err (refusal IdleRun 0))
    -- 12: the start registers differ
    apart : There d → Busy d → (SameStart d → ⊥) → Decided d (Err (refusal StartRegisters 0))
    -- 13 to 16, or none
    settled : {r : Result (Unit {0}) Refusal} → There d → Busy d → SameStart d
        → Settled m P.sizes.values P.sizes.locations d.steps (word_of P.sizes P.original d.from) (word_of P.sizes P.replacement d.to) (end_of P.sizes P.original d.from) (end_of P.sizes P.replacement d.to) r
        → Decided d r

  -- What is answered to bytes: the run that they name, or the first cause against them.
  pub data Judged (bs : List ℕ) : Result ℕ Refusal → Type 0 where
    -- 1, 2, 3, 9
    unread : {e : Refusal} → derivation_at bs ≡ Err e → Judged bs (Err e)
    declined : {d : Derivation} {e : Refusal} → derivation_at bs ≡ Ok d → Decided d (Err e) → Judged bs (Err e)
    accepted : {d : Derivation} → derivation_at bs ≡ Ok d → Decided d (Ok tt) → Judged bs (Ok d.to)

  -- There is one answer to any bytes.
  abbrev pub OneAnswer : List ℕ → Type 0
  OneAnswer bs = (r s : Result ℕ Refusal) → Judged bs r → Judged bs s → r ≡ s
