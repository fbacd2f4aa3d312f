-- A pinned model keeps the laws of the model under it.
use Rattle.std.specs.Prelude.{◌≡◌, ℕ, true, false, ◌&&◌}
use Rattle.std.proofs.Common.{inl, inr}
use Rattle.std.proofs.lemmas.Bool.{and_parts, and_from, cases_Bool, both_ways}
use Rattle.trace.specs.declared.event.Access.{Access}
use Rattle.trace.specs.declared.event.Kind.{Kind}
use Rattle.trace.specs.declared.event.Kind.TheVariants.{Load, Store}
use Rattle.trace.specs.Words.{access}
use Rattle.ordering.specs.Meaning.{Meaning, Within, OneLocation, SwapsToo, StoreGoes, LoadGoes, Lawful}
use Rattle.ordering.specs.Pinning.{free, pinning}

module _ (mask : ℕ) (m : Meaning) where
  -- what swaps under the pins, and what the pins add
  parts : (a b : Access) → (pinning mask m).swaps a b ≡ true → (m.swaps a b ≡ true) × ((free mask a.location && free mask b.location) ≡ true)
  parts a b h = and_parts (m.swaps a b) (free mask a.location && free mask b.location) h

  same : (one other : Kind) (L : ℕ) → SwapsToo m one other L → SwapsToo (pinning mask m) one other L
  same one other L s = record {
    before = λ a h. let p = parts a (access one L) h in and_from _ _ (s.before a p.0) p.1;
    after = λ b h. let p = parts (access one L) b h in and_from _ _ (s.after b p.0) p.1;
  }

  -- nothing swaps with a pinned location
  nothing : (one other : Kind) (L : ℕ) → free mask L ≡ false → SwapsToo (pinning mask m) one other L
  nothing one other L p = record {
    before = λ a h. absurd (both_ways (free mask L) p (and_parts (free mask a.location) (free mask L) (parts a (access one L) h).1).1);
    after = λ b h. absurd (both_ways (free mask L) p (and_parts (free mask L) (free mask b.location) (parts (access one L) b h).1).0);
  }

  pub pinned_within : Within m → Within (pinning mask m)
  pinned_within w = record {
    swapped = λ a b h. w.swapped a b (parts a b h).0;
    forwarded = λ L h. w.forwarded L (and_parts (m.forwards L) (free mask L) h).0;
    permitted = w.permitted;
  }

  pub pinned_together : OneLocation m → OneLocation (pinning mask m)
  pinned_together p a b h e = p a b (parts a b h).0 e

  pub pinned_five : StoreGoes m → StoreGoes (pinning mask m)
  pinned_five p L h = same Load Store L (p L h)

  pub pinned_six : LoadGoes m → LoadGoes (pinning mask m)
  pinned_six p L h =
      elim (cases_Bool (free mask L)) [
        | inl f ↦ elim (p L h) [ inl e ↦ inl (and_from (m.forwards L) (free mask L) e f) | inr s ↦ inr (same Store Load L s) ]
        | inr n ↦ inr (nothing Store Load L n)
      ]

  pub pinned_lawful : Lawful m → Lawful (pinning mask m)
  pinned_lawful l = record { within = pinned_within l.within; together = pinned_together l.together; five = pinned_five l.five; six = pinned_six l.six }
