-- A replacement whose behaviours are reached from the original's adds no observation, in any surrounding.
use mathlib.Core.List.{◌++◌}
use mathlib.Core.Path.{◌≡◌, refl, ap, ◌∙◌}
use Prim.Native.Nat.{ℕ}
use lib.ListN.{set}
use Rattle.trace.specs.Words.{Word, Behaviour, behaviour, Behaviours, shown}
use Rattle.ordering.specs.Meaning.{Meaning, Lawful}
use Rattle.surroundings.specs.Steps.{Relaxes, done}
use Rattle.surroundings.specs.Surroundings.{Closed, closed, Joined, join, Chosen, kept, added, Interleaved, Beside, WithRegister, Hides, WithLocation, Surrounding, hole, before, after, choice, declared_register, declared_location, around, Limited, LimitedWords}
use Rattle.surroundings.specs.Soundness.{Reached, AddsNothing}
use Rattle.surroundings.proofs.Commute.{joined}
use Rattle.surroundings.proofs.Derived.{Derived, base, step, derived_relaxes, derived_reaches, carry, carry_by, invisible_under, invisible_before, interleaved_back, hides_back, invisible_shown}

abbrev From : Meaning → Behaviours → Behaviours
From m B b = Derived m (λ w. B (behaviour b.start b.end w)) b.word

more : {m : Meaning} {B : Behaviours} {b : Behaviour} → Closed m B b → (w : Word) → Relaxes m b.word w → Closed m B (behaviour b.start b.end w)
more (closed b q) w r = closed b (joined q r)

module _ {m : Meaning} (p : Lawful m) {B R : Behaviours} where
  close : ((b : Behaviour) → R b → From m B b) → (b : Behaviour) → Closed m R b → From m (Closed m B) b
  close f _ (closed {s} {e} {w} r q) =
      derived_relaxes p (λ u v c. more c v) (carry_by (λ u. u) (λ u v i. i) (λ u c. closed c done) (f (behaviour s e w) r)) q

  filled : Reached m B R → (b : Behaviour) → Closed m R b → From m (Closed m B) b
  filled f _ (closed {s} {e} {w} r q) =
      let (w₀, o, t) = f s e w r in
      derived_relaxes p (λ u v c. more c v) (derived_reaches p (λ u v c. more c v) (base (closed o done)) t) q

module _ {m : Meaning} {B R : Behaviours} (f : (b : Behaviour) → R b → From m B b) where
  joined_before : (A : Behaviours) (b : Behaviour) → Joined A R b → From m (Joined A B) b
  joined_before A _ (join {k = k} {e = e} {u = u} {w = w} a r) = carry_by (λ v. u ++ v) (invisible_under u) (λ v c. join a c) (f (behaviour k e w) r)

  joined_after : (A : Behaviours) (b : Behaviour) → Joined R A b → From m (Joined B A) b
  joined_after A _ (join {s = s} {k = k} {u = u} {w = w} r a) = carry_by (λ v. v ++ w) (invisible_before w) (λ v c. join c a) (f (behaviour s k u) r)

  chosen : (way : _) (i : ℕ) (A : Behaviours) (b : Behaviour) → Chosen way i A R b → From m (Chosen way i A B) b
  chosen way i A b (kept t r) = carry_by (λ v. v) (λ u v j. j) (λ v c. kept t c) (f b r)
  chosen way i A b (added a) = base (added a)

  interleaved : (V : Word → Type 0) (b : Behaviour) → Beside V R b → From m (Beside V B) b
  interleaved V _ (Beside.beside {s} {e} {u} {v} r a h) = carry (λ y z. Interleaved y v z) (interleaved_back v) (λ y z c g. Beside.beside c a g) (f (behaviour s e u) r) h

  register : (i x : ℕ) (b : Behaviour) → WithRegister i x R b → From m (WithRegister i x B) b
  register i x _ (WithRegister.inside {s} {e} {w} r) = carry_by (λ v. v) (λ u v j. j) (λ v c. WithRegister.inside c) (f (behaviour (set s i x) e w) r)

  hidden : (L x : ℕ) (b : Behaviour) → WithLocation L x R b → From m (WithLocation L x B) b
  hidden L x _ (WithLocation.inside {s} {e} {w} r h) = carry (Hides L x) (hides_back L x) (λ y z c g. WithLocation.inside c g) (f (behaviour s e w) r) h

pub derived_shown : {m : Meaning} {P : Word → Type 0} {w : Word} → Derived m P w → (u : Word) × P u × (shown u ≡ shown w)
derived_shown (base b) = (_, b, refl)
derived_shown (step d i) = let (u, b, q) = derived_shown d in (u, b, q ∙ invisible_shown i)

module _ {ℓ} {S W : Type ℓ} {m : Meaning} (p : Lawful m) (v : ℕ) (sets : S → Behaviours) (words : W → Word → Type 0) (O R : Behaviours) (f : Reached m O R) where
  everywhere : (C : Surrounding v S W) (b : Behaviour) → around m v sets words C R b → From m (around m v sets words C O) b
  everywhere hole = filled p f
  everywhere (before a C) = close p (joined_before (everywhere C) (Limited v (sets a)))
  everywhere (after a C) = close p (joined_after (everywhere C) (Limited v (sets a)))
  everywhere (choice way i a C) = close p (chosen (everywhere C) way i (Limited v (sets a)))
  everywhere (Surrounding.beside u C) = close p (interleaved (everywhere C) (LimitedWords v (words u)))
  everywhere (declared_register i x small C) = close p (register (everywhere C) i x)
  everywhere (declared_location L x few small C) = close p (hidden (everywhere C) L x)

  pub sound : AddsNothing m v sets words O R
  sound C o (b, r, q) =
      let (w, c, t) = derived_shown (everywhere C b r) in
      (behaviour b.start b.end w, c, ap (λ (x : Word). record { start = b.start; end = b.end; shown = x }) t ∙ q)
