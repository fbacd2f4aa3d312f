-- What is promised of any list of calls played on a new case, at the opening and after each.
use Rattle.std.specs.Prelude.{◌≡◌, ℕ, ◌<◌, ◌≤◌, List, length, take, slice_index_or}
use Rattle.trace.specs.Words.{Word, Behaviours}
use Rattle.ordering.specs.Meaning.{Meaning}
use Rattle.surroundings.specs.Soundness.{AddsNothing}
use Rattle.pairs.specs.Program.{Program}
use Rattle.runs.specs.Behaviours.{Behaves}
use Rattle.cases.specs.History as history
use Rattle.cases.specs.Promise.{VerdictPromise, CountPromise}
use Rattle.cases.specs.declared.script.Call.{Call}
use Rattle.cases.specs.declared.script.Call.TheVariants.{HandIn, Verdict, Count}
use Rattle.cases.specs.declared.script.Standing.{Standing}

abbrev pub call_of : Call → history.Call
call_of (HandIn bytes) = history.hand_in bytes.now
call_of Verdict = history.verdict
call_of Count = history.count

module _ (sets : ℕ → Behaviours) (words : ℕ → Word → Type 0) (m : Meaning) (P : Program) where
  -- The whole promise of a standing after some calls. A surrounding may add any of the sets.
  pub record Promised (calls : List history.Call) (s : Standing) : Type 0 where
    pub verdict : VerdictPromise (AddsNothing m P.sizes.values sets words (Behaves P.sizes P.original) (Behaves P.sizes P.replacement)) m P calls s.lowest
    pub count : CountPromise m P calls s.tally.matched s.tally.active

  -- The standings before and after, and the answer: the promise holds at the opening, after each call, and at
  -- the end; standings past those are unchanged.
  pub record Played (calls : List history.Call) (before after : List Standing) (s : Standing) : Type 0 where
    pub each : (i : ℕ) (d : Standing) → i ≤ length calls → i < length before → Promised (take i calls) (slice_index_or after i d)
    pub rest : (i : ℕ) (d : Standing) → length calls < i → slice_index_or after i d ≡ slice_index_or before i d
    pub last : Promised calls s
