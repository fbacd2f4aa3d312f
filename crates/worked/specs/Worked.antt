-- What the definitions answer to hand-ins for the worked pairs.
use Rattle.std.specs.Prelude.{◌≡◌, ℕ, true, false, [], ◌∷◌, Ok, Err}
use Rattle.trace.specs.declared.refusal.Cause.TheVariants.{Misfit, Forbidden}
use Rattle.ordering.specs.Meaning.{Meaning}
use Rattle.ordering.specs.Table as models
use Rattle.ordering.specs.Pinning.{pinning}
use Rattle.rewrite.specs.declared.working.Step.{Step}
use Rattle.snippet.specs.Parse.{refusal}
use Rattle.pairs.specs.Program.{Program}
use Rattle.runs.specs.Runs.{idle, count}
use Rattle.handins.specs.Encoded.{Derivation, encode_hand_in}
use Rattle.judging.specs.Judged.{Judged}
use Rattle.worked.specs.Pairs.{sized, store_back, store_later, store_sooner, load_once, load_back, load_maybe}

-- A step of a rule at place 0.
abbrev pub step : ℕ → Step
step rule = record { rule = rule; place = 0; location = 0; value = 0 }

-- The run `to` of the replacement from the run `from` of the original, by one step of a rule.
abbrev pub by_rule : ℕ → ℕ → ℕ → Derivation
by_rule rule to from = record { to = to; from = from; steps = step rule ∷ [] }

-- The same without steps.
abbrev pub as_it_is : ℕ → ℕ → Derivation
as_it_is to from = record { to = to; from = from; steps = [] }

pub data Answer : Type 0 where
  accepted : Answer
  forbidden : Answer

-- What is answered to a hand-in's file: it is accepted, for the run that it names, or declined with 14 at step 0.
abbrev pub Answered : Program → Derivation → Answer → Meaning → Type 0
Answered P d accepted m = Judged m P (encode_hand_in d) (Ok d.to)
Answered P d forbidden m = Judged m P (encode_hand_in d) (Err (refusal Forbidden 0))

-- The answers on the five models.
pub record OnModels (P : Program) (d : Derivation) (on_sc on390 on_tso on_pso on_clr : Answer) : Type 0 where
  pub sc : Answered P d on_sc models.sc
  pub ibm390 : Answered P d on390 models.ibm390
  pub tso : Answered P d on_tso models.tso
  pub pso : Answered P d on_pso models.pso
  pub clr : Answered P d on_clr models.clr

-- Four runs: from 0 and from 1 with the choice 0, and from 0 and from 1 with the choice 1. Only from 1 is the choice taken.
pub record OneIdle : Type 0 where
  pub runs : count (sized 1 1) load_maybe ≡ 4
  pub run0 : idle (sized 1 1) load_maybe 0 ≡ false
  pub run1 : idle (sized 1 1) load_maybe 1 ≡ false
  pub run2 : idle (sized 1 1) load_maybe 2 ≡ true
  pub run3 : idle (sized 1 1) load_maybe 3 ≡ false

-- The columns are SC, 390, TSO, PSO and CLR.
pub record Worked : Type 0 where
  -- 1: a run that stores the 0 that it just loaded; rule 5 removes the store
  pub of_store_back : OnModels store_back (by_rule 5 0 0) accepted forbidden forbidden accepted forbidden
  -- 2: a run that loads 1 stores nothing, so the words are equal
  pub no_store : (m : Meaning) → Answered store_back (as_it_is 2 2) accepted m
  -- 3: a store swaps with a load of another location after it
  pub of_store_later : OnModels store_later (by_rule 1 0 0) forbidden accepted accepted accepted accepted
  -- 4: a load does not swap with a store after it
  pub of_store_sooner : OnModels store_sooner (by_rule 1 0 0) forbidden forbidden forbidden forbidden forbidden
  -- 5: as 3, with A pinned
  pub pinned : Answered store_later (by_rule 1 0 0) forbidden (pinning 1 models.tso)
  -- 6: two loads that find 1 become one; they do not where the second finds 0
  pub of_load_once : (m : Meaning) → Answered load_once (by_rule 3 4 12) accepted m
  pub load_twice : (m : Meaning) → Judged m load_once (encode_hand_in (by_rule 3 4 4)) (Err (refusal Misfit 0))
  -- 7: a load of the 1 that was just stored goes, by rule 2 and by rule 6
  pub forwarded : OnModels load_back (by_rule 2 1 5) forbidden forbidden accepted accepted accepted
  pub removed : OnModels load_back (by_rule 6 1 5) accepted forbidden accepted accepted accepted
  -- 8: a choice that is not taken
  pub one_idle : OneIdle
