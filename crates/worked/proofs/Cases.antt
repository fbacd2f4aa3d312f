-- The worked cases: what is particular to each computes.
use Rattle.std.proofs.Common.{◌≡◌, ℕ, [], ◌∷◌, refl, arith, lit<, lit≤}
use Rattle.trace.specs.declared.event.Kind.TheVariants as kinds
use Rattle.trace.specs.declared.event.Event.TheVariants.{Load}
use Rattle.trace.specs.Words.{Word, access}
use Rattle.ordering.specs.declared.model.Removal.TheVariants.{StoreAfterLoad, LoadAfterStore}
use Rattle.ordering.specs.Table as models
use Rattle.ordering.specs.Pinning.{pinned, pinning}
use Rattle.rewrite.specs.declared.working.Denied.TheVariants.{Misfit}
use Rattle.rewrite.specs.declared.working.Rule.{Rule}
use Rattle.rewrite.specs.declared.working.Rule.TheVariants.{LoadAfterLoad, NewLoad}
use Rattle.rewrite.specs.declared.working.Question.{Question}
use Rattle.rewrite.specs.declared.working.Question.TheVariants.{MaySwap, Forwards, Permits, Nothing}
use Rattle.rewrite.specs.Steps.{Turns, forward, loads, load_store, store_load, none}
use Rattle.rewrite.proofs.Fitting.{fit_pair}
use Rattle.rewrite.proofs.Shapes.{yes_swap}
use Rattle.runs.specs.Runs.{start_of, choices_of, run_of, count}
use Rattle.judging.specs.Judged.{reached}
use Rattle.worked.specs.Pairs.{store_back, store_later, store_sooner, load_once, load_back}
use Rattle.worked.specs.Worked.{accepted, forbidden, Worked, as_it_is}
use Rattle.worked.proofs.Steps.{OneStep, whole, accept, denied, on_model, on_models}

of_store_back : OneStep store_back 5 0 0 (Permits StoreAfterLoad 0)
unfolding start_of choices_of run_of count
of_store_back = record { ready = ((lit< tt, lit< tt), (refl, refl), refl); fits = whole 2 1 5 refl (refl, refl) load_store; short = lit≤ tt; end = refl }

of_store_later : OneStep store_later 1 0 0 (MaySwap (access kinds.Store 0) (access kinds.Load 1))
unfolding start_of choices_of run_of count
of_store_later = record { ready = ((lit< tt, lit< tt), (refl, refl), refl); fits = whole 2 2 1 refl (refl, refl) (yes_swap refl refl (refl, refl) 0 0); short = lit≤ tt; end = refl }

of_store_sooner : OneStep store_sooner 1 0 0 (MaySwap (access kinds.Load 1) (access kinds.Store 0))
unfolding start_of choices_of run_of count
of_store_sooner = record { ready = ((lit< tt, lit< tt), (refl, refl), refl); fits = whole 2 2 1 refl (refl, refl) (yes_swap refl refl (refl, refl) 0 0); short = lit≤ tt; end = refl }

of_load_once : OneStep load_once 3 4 12 Nothing
unfolding start_of choices_of run_of count
of_load_once = record { ready = ((lit< tt, lit< tt), (refl, refl), refl); fits = whole 2 1 3 refl (refl, refl) loads; short = lit≤ tt; end = refl }

forwarded : OneStep load_back 2 1 5 (Forwards 0)
unfolding start_of choices_of run_of count
forwarded = record { ready = ((lit< tt, lit< tt), (refl, refl), refl); fits = whole 2 1 2 refl (refl, refl) forward; short = lit≤ tt; end = refl }

removed : OneStep load_back 6 1 5 (Permits LoadAfterStore 0)
unfolding start_of choices_of run_of count
removed = record { ready = ((lit< tt, lit< tt), (refl, refl), refl); fits = whole 2 1 6 refl (refl, refl) store_load; short = lit≤ tt; end = refl }

-- Two loads that find 1 and 0 are not alike.
unlike : {Y : Word} {q : Question} → Turns 0 0 LoadAfterLoad (Load 0 1 ∷ Load 0 0 ∷ []) Y q → ⊥
unlike t = elim t [ ]

other_rule : ◌≡◌ {A = Rule} LoadAfterLoad NewLoad → ⊥
other_rule p = let z : ◌≡◌ {A = ℕ} 0 1 = cc in omega arith

pub worked : Worked
unfolding start_of choices_of run_of count pinned
worked = record {
  of_store_back = on_models of_store_back refl refl refl refl refl;
  no_store = λ m. accept store_back (as_it_is 2 2) ((lit< tt, lit< tt), (refl, refl), refl) (lit≤ tt) m (reached none refl);
  of_store_later = on_models of_store_later refl refl refl refl refl;
  of_store_sooner = on_models of_store_sooner refl refl refl refl refl;
  pinned = on_model of_store_later (pinning 1 models.tso) forbidden refl;
  of_load_once = λ m. on_model of_load_once m accepted refl;
  load_twice = λ m.
      denied {n = 3} {to = 4} {from = 4} ((lit< tt, lit< tt), (refl, refl), refl) m Misfit
      (refl, λ w q F. unlike ((fit_pair F refl other_rule).3 (Load 0 1) (Load 0 0) (Load 0 1) (Load 0 0) refl refl));
  forwarded = on_models forwarded refl refl refl refl refl;
  removed = on_models removed refl refl refl refl refl;
  one_idle = record { runs = refl; run0 = refl; run1 = refl; run2 = refl; run3 = refl };
}
