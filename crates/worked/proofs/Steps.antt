-- What is answered to a hand-in whose runs are there, are not idle, and start alike.
use Rattle.std.proofs.Common.{◌≡◌, ℕ, ◌<◌, ◌≤◌, Bool, true, false, [], ◌∷◌, ◌++◌, length, Some, Ok, Err, Result, refl, ap, ◌∙◌, lit<, lit≤}
use Rattle.std.proofs.lemmas.Bool.{both_ways}
use Rattle.trace.specs.Words.{Word}
use Rattle.trace.specs.declared.refusal.Refusal.{Refusal}
use Rattle.ordering.specs.Meaning.{Meaning}
use Rattle.ordering.specs.Table as models
use Rattle.rewrite.specs.declared.working.Rule.{Rule}
use Rattle.rewrite.specs.declared.working.Question.{Question}
use Rattle.rewrite.specs.declared.working.Denied.{Denied}
use Rattle.rewrite.specs.declared.working.Denied.TheVariants.{Forbidden}
use Rattle.rewrite.specs.Steps.{answer, rule_of, Spare, Turns, Fits, Applied, none, more}
use Rattle.rewrite.proofs.Fitting.{fits_one}
use Rattle.rewrite.proofs.Reach as reach
use Rattle.snippet.specs.Parse.{refusal}
use Rattle.pairs.specs.Program.{Program}
use Rattle.runs.specs.Runs.{start_of, end_of, word_of, idle, count}
use Rattle.handins.specs.Encoded.{Derivation, encode_hand_in}
use Rattle.handins.specs.File.{derivation_at}
use Rattle.handins.proofs.Laws.{complete}
use Rattle.rewrite.specs.Refused.{cause_of}
use Rattle.judging.specs.Judged.{Settled, stopped, reached, Decided, settled, Judged}
use Rattle.worked.specs.Worked.{Answer, Answered, OnModels, step, by_rule}

-- What is asked of the runs before the steps are looked at.
abbrev pub Ready : Program → ℕ → ℕ → Type 0
Ready P to from =
    ((to < count P.sizes P.replacement) × (from < count P.sizes P.original))
    × ((idle P.sizes P.replacement to ≡ false) × (idle P.sizes P.original from ≡ false))
    × (start_of P.sizes from ≡ start_of P.sizes to)

-- What comes of the steps.
abbrev Outcome : Meaning → Program → Derivation → Result (Unit {0}) Refusal → Type 0
Outcome m P d =
    Settled m P.sizes.values P.sizes.locations d.steps (word_of P.sizes P.original d.from) (word_of P.sizes P.replacement d.to)
    (end_of P.sizes P.original d.from) (end_of P.sizes P.replacement d.to)

module _ (P : Program) (d : Derivation) (r : Ready P d.to d.from) (few : length d.steps ≤ 64) (m : Meaning) where
  read : derivation_at (encode_hand_in d) ≡ Ok d
  read = complete (encode_hand_in d) d (record { bytes = refl; few = few })

  decide : {o : Result (Unit {0}) Refusal} → Outcome m P d o → Decided m P d o
  decide s = settled r.0 r.1 r.2 s

  pub accept : Outcome m P d (Ok tt) → Judged m P (encode_hand_in d) (Ok d.to)
  accept s = Judged.accepted read (decide s)

  decline : {e : Refusal} → Outcome m P d (Err e) → Judged m P (encode_hand_in d) (Err e)
  decline s = Judged.declined read (decide s)

-- A step at place 0 of a word that it takes whole.
pub whole : (v l n : ℕ) {R : Rule} {X Y : Word} {q : Question} → rule_of n ≡ Some R → Spare v l (step n) R → Turns 0 0 R X Y q → Fits v l (step n) (X ++ []) (Y ++ []) q
whole v l n {R} {X} {Y} r s t = record { rule = R; number = r; spare = s; u = []; X = X; Y = Y; t = []; place = refl; from = refl; to = refl; turns = t }

-- A hand-in of one step that leads to the replacement's run, if the model says yes to the question.
pub record OneStep (P : Program) (n to from : ℕ) (q : Question) : Type 0 where
  pub ready : Ready P to from
  pub fits : Fits P.sizes.values P.sizes.locations (step n) (word_of P.sizes P.original from) (word_of P.sizes P.replacement to) q
  pub short : length (word_of P.sizes P.replacement to) ≤ 48
  pub end : end_of P.sizes P.original from ≡ end_of P.sizes P.replacement to

-- What an answer says of the model.
abbrev pub said : Answer → Bool
said Answer.accepted = true
said Answer.forbidden = false

module _ {P : Program} {n to from : ℕ} where
  -- The one step is denied.
  pub denied : Ready P to from → (m : Meaning) (why : Denied)
      → Applied m P.sizes.values P.sizes.locations (step n) (word_of P.sizes P.original from) (Err why) (word_of P.sizes P.original from)
      → Judged m P (encode_hand_in (by_rule n to from)) (Err (refusal (cause_of why) 0))
  denied r m why a =
      let w = word_of P.sizes P.original from in
      decline P (by_rule n to from) r (lit≤ tt) m
      (stopped (record { step = 0; why = why }) (reach.stopped P.sizes.values P.sizes.locations (step n ∷ []) 0 w w (step n) none w why (lit< tt) a))

  module _ {q : Question} (o : OneStep P n to from q) where
    -- The model's answer to the question decides.
    pub on_model : (m : Meaning) (a : Answer) → answer m q ≡ said a → Answered P (by_rule n to from) a m
    on_model m Answer.accepted h = accept P (by_rule n to from) o.ready (lit≤ tt) m (reached (more (q, o.fits, h) o.short none) o.end)
    on_model m Answer.forbidden h =
        denied o.ready m Forbidden (refl, (_, q, o.fits), λ w t. both_ways (answer m q) h (ap (answer m) (fits_one o.fits t.1).1 ∙ t.2))

    pub on_models : {sc ibm390 tso pso clr : Answer} → answer models.sc q ≡ said sc → answer models.ibm390 q ≡ said ibm390 → answer models.tso q ≡ said tso
        → answer models.pso q ≡ said pso → answer models.clr q ≡ said clr → OnModels P (by_rule n to from) sc ibm390 tso pso clr
    on_models {sc} {ibm390} {tso} {pso} {clr} a b c d e = record {
      sc = on_model models.sc sc a;
      ibm390 = on_model models.ibm390 ibm390 b;
      tso = on_model models.tso tso c;
      pso = on_model models.pso pso d;
      clr = on_model models.clr clr e;
    }
