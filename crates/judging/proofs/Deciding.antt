-- The causes against a hand-in that was read, from what the runs showed.
use Rattle.std.proofs.Common.{◌≡◌, ◌≤◌, true, false, ◌⊎◌, take, Err, Result, sym, ◌∙◌, subst, inl, inr, arith}
use Rattle.std.proofs.lemmas.Bool.{both_ways}
use Rattle.trace.specs.declared.refusal.Refusal.{Refusal}
use Rattle.trace.specs.declared.refusal.Cause.TheVariants.{NoSuchRun, IdleRun, StartRegisters}
use Rattle.ordering.specs.Meaning.{Meaning}
use Rattle.snippet.specs.Keeps.{Sizes}
use Rattle.snippet.specs.Meant.{sizes_of, program_of}
use Rattle.snippet.specs.Parse.{refusal}
use Rattle.pairs.specs.Meant.{meant}
use Rattle.pairs.specs.declared.pair.Pair.{Pair}
use Rattle.runs.specs.Runs.{count}
use Rattle.runs.specs.Held.{held}
use Rattle.handins.specs.Meant.{meant as derivation}
use Rattle.handins.specs.declared.hand_in.HandIn.{HandIn}
use Rattle.judging.specs.declared.performed.Performed.{Performed}
use Rattle.judging.specs.Performed.{Performs}
use Rattle.judging.specs.Judged.{Settled, Decided, no_run, idle_run, apart, settled}
use Rattle.judging.proofs.Pairs.{same_sizes}

module _ (m : Meaning) (p : Pair) (h : HandIn) where
  pub no_replacement : count (sizes_of p.replacement) (program_of p.replacement) ≤ h.replacement → Decided m (meant p) (derivation h) (Err (refusal NoSuchRun 0))
  no_replacement n =
      let k = subst (λ (z : Sizes). count z (program_of p.replacement) ≤ h.replacement) (same_sizes p) n in
      no_run (λ t. omega (arith, t.0))

  pub no_original : count (sizes_of p.original) (program_of p.original) ≤ h.original → Decided m (meant p) (derivation h) (Err (refusal NoSuchRun 0))
  no_original n = no_run (λ t. omega (arith, t.1))

  module _ (w g : Performed) (W₀ : Performs (sizes_of p.replacement) (program_of p.replacement) h.replacement w)
      (G : Performs (sizes_of p.original) (program_of p.original) h.original g) where
    W : Performs (sizes_of p.original) (program_of p.replacement) h.replacement w
    W = subst (λ (z : Sizes). Performs z (program_of p.replacement) h.replacement w) (same_sizes p) W₀

    pub found_idle : (w.idle ≡ true) ⊎ (g.idle ≡ true) → Decided m (meant p) (derivation h) (Err (refusal IdleRun 0))
    found_idle e = idle_run (W.number, G.number)
        (λ b. elim e [ inl i ↦ both_ways w.idle (W.idle ∙ b.0) i | inr i ↦ both_ways g.idle (G.idle ∙ b.1) i ])

    module _ (wi : w.idle ≡ false) (gi : g.idle ≡ false) where
      pub found_apart : (held g.start ≡ held w.start → ⊥) → Decided m (meant p) (derivation h) (Err (refusal StartRegisters 0))
      found_apart n = apart (W.number, G.number) (sym W.idle ∙ wi, sym G.idle ∙ gi) (λ e. n (G.start ∙ e ∙ sym W.start))

      pub found_settled : held g.start ≡ held w.start → (r : Result (Unit {0}) Refusal)
          → Settled m p.original.body.limits.values p.original.body.limits.locations (take h.count h.steps) (take g.length g.events) (take w.length w.events) (held g.end) (held w.end) r
          → Decided m (meant p) (derivation h) r
      found_settled e r s =
          settled (W.number, G.number) (sym W.idle ∙ wi, sym G.idle ∙ gi) (sym G.start ∙ e ∙ W.start)
          (rw (← G.word, ← W.word, ← G.end, ← W.end) s)
