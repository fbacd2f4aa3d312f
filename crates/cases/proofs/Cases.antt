-- A case that follows calls keeps the whole promise.
use Rattle.std.proofs.Common.{◌≡◌, ℕ, true, List, [], ◌∷◌, ◌++◌}
use Rattle.ordering.specs.Meaning.{Meaning, Lawful}
use Rattle.marks.specs.Marks.{marked}
use Rattle.pairs.specs.Meant.{meant}
use Rattle.cases.specs.declared.case.Case.{Case}
use Rattle.cases.specs.History.{Call, Matched}
use Rattle.cases.specs.Promise.{Replaces, Unobservable}
use Rattle.cases.specs.Standing.{Follows, Stands, GoesOn}
use Rattle.cases.proofs.Histories.{Marking}
use Rattle.cases.proofs.Promises.{unobservable, verdict_promise, count_promise, original_runs, replacement_runs}

module _ {M : Type 0} (meaning : M → Meaning) (c : Case M) where
  pub marking : {calls : List Call} → Follows meaning c calls → Marking (meaning c.model) (meant c.pair) (marked c.matched) calls
  marking f = record { matched = f.matched; marks = f.marks }

  pub following : {calls : List Call} → Marking (meaning c.model) (meant c.pair) (marked c.matched) calls → Follows meaning c calls
  following f = record { matched = f.matched; marks = f.marks }

  module _ (law : Lawful (meaning c.model)) where
    pub adds_nothing : {calls : List Call} → ((k : ℕ) → Replaces (meant c.pair) k → Matched (meaning c.model) (meant c.pair) k calls) → Unobservable (meaning c.model) (meant c.pair)
    adds_nothing all = unobservable law (original_runs c.pair) (replacement_runs c.pair) all (meant c.pair).sizes.values (λ test b. test b ≡ true) (λ test w. test w ≡ true)

    pub standing : {calls : List Call} → Follows meaning c calls → Stands meaning c calls
    standing f = record {
      verdict = verdict_promise c.live (marking f) (Unobservable (meaning c.model) (meant c.pair)) adds_nothing;
      count = λ n a h. count_promise c.live (marking f) n a h.0 h.1;
    }

-- a case goes on where its marks do
pub going_on : {M : Type 0} (meaning : M → Meaning) → ((m : M) → Lawful (meaning m)) → (before after : Case M) (call : Call)
    → ((h : List Call) → Marking (meaning before.model) (meant before.pair) (marked before.matched) h → Marking (meaning after.model) (meant after.pair) (marked after.matched) (h ++ call ∷ []))
    → GoesOn meaning before call after
going_on meaning law before after call step h f =
    let g = following meaning after (step h (marking meaning before f)) in
    (g, standing meaning after (law after.model) g)
