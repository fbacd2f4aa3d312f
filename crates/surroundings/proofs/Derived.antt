-- What a set of words leads to by invisible steps. If the set is closed under the model's own steps, so is that.
use mathlib.Core.List.{[], ◌∷◌, ◌++◌, append_assoc}
use mathlib.Core.Logic.{inl, inr}
use mathlib.Core.Path.{◌≡◌, refl, ap}
use Prim.Native.Nat.{ℕ}
use Rattle.trace.specs.declared.event.Event.{Event}
use Rattle.trace.specs.declared.event.Event.TheVariants.{Load as load, Store as store, LoadStore as load_store_event, Fence as fence, Get as get, Print as print}
use Rattle.trace.specs.Words.{Word, shown}
use Rattle.ordering.specs.Meaning.{Meaning, Lawful}
use Rattle.surroundings.specs.Steps.{Becomes, rule3, rule4, rule5, rule6, rule7, Invisible, here, done, next, Relaxes, Reaches}
use Rattle.surroundings.specs.Surroundings.{Interleaved, none, left, right, Hides, found, stored, exchanged, other}
use Rattle.surroundings.proofs.Commute.{one, wholly, but_one, commutes}

pub data Derived (m : Meaning) (P : Word → Type 0) : Word → Type 0 where
  base : {w : Word} → P w → Derived m P w
  step : {u w : Word} → Derived m P u → Invisible m u w → Derived m P w

module _ {m : Meaning} (p : Lawful m) {P : Word → Type 0} (shut : (u w : Word) → P u → Relaxes m u w → P w) where
  pub derived_relaxes : {u w : Word} → Derived m P u → Relaxes m u w → Derived m P w
  derived_relaxes (base b) r = base (shut _ _ b r)
  derived_relaxes (step d i) r = elim (commutes p i r) [ wholly q ↦ derived_relaxes d q | but_one q j ↦ step (derived_relaxes d q) j ]

  pub derived_reaches : {u w : Word} → Derived m P u → Reaches m u w → Derived m P w
  derived_reaches d done = d
  derived_reaches d (next (inl r) q) = derived_reaches (derived_relaxes d (one r)) q
  derived_reaches d (next (inr i) q) = derived_reaches (step d i) q

-- An invisible step before the relation G is one after it, or none.
pub data Back (m : Meaning) (G : Word → Word → Type 0) (u w : Word) : Type 0 where
  same : G u w → Back m G u w
  stepped : {v : Word} → G u v → Invisible m v w → Back m G u w

lefts : (X : Word) {u v w : Word} → Interleaved u v w → Interleaved (X ++ u) v (X ++ w)
lefts [] h = h
lefts (e ∷ X) h = left e (lefts X h)

shown_past : (e : Event) (u w : Word) → shown u ≡ shown w → shown (e ∷ u) ≡ shown (e ∷ w)
shown_past (load L x) u w q = q
shown_past (store L x) u w q = q
shown_past (load_store_event L x y) u w q = q
shown_past fence u w q = q
shown_past (get x) u w q = ap (λ (v : Word). get x ∷ v) q
shown_past (print x) u w q = ap (λ (v : Word). print x ∷ v) q

module _ {m : Meaning} where
  pub carry : {P Q : Word → Type 0} (G : Word → Word → Type 0) → ((u v w : Word) → Invisible m u v → G v w → Back m G u w) → ((u w : Word) → P u → G u w → Q w) → {v w : Word} → Derived m P v → G v w → Derived m Q w
  carry G back q (base b) g = base (q _ _ b g)
  carry G back q (step d i) g = elim (back _ _ _ i g) [ same h ↦ carry G back q d h | stepped h j ↦ step (carry G back q d h) j ]

  pub carry_by : {P Q : Word → Type 0} (g : Word → Word) → ((u w : Word) → Invisible m u w → Invisible m (g u) (g w)) → ((w : Word) → P w → Q (g w)) → {w : Word} → Derived m P w → Derived m Q (g w)
  carry_by g lift q (base b) = base (q _ b)
  carry_by g lift q (step d i) = step (carry_by g lift q d) (lift _ _ i)

  pub invisible_under : (X : Word) (u w : Word) → Invisible m u w → Invisible m (X ++ u) (X ++ w)
  invisible_under [] u w i = i
  invisible_under (e ∷ X) u w i = Invisible.past e (invisible_under X u w i)

  pub invisible_before : (Y : Word) (u w : Word) → Invisible m u w → Invisible m (u ++ Y) (w ++ Y)
  invisible_before Y _ _ (here {X = X} {t = t} g) = rw (append_assoc X t Y) (here g)
  invisible_before Y _ _ (Invisible.past e i) = Invisible.past e (invisible_before Y _ _ i)

  pub interleaved_back : (x u v w : Word) → Invisible m u v → Interleaved v x w → Back m (λ y z. Interleaved y x z) u w
  interleaved_back _ u _ _ i none = elim i [ ]
  interleaved_back x u _ _ (here {X = X} g) (left _ h) = stepped (lefts X h) (here g)
  interleaved_back x _ _ _ (Invisible.past e i) (left _ h) = elim (interleaved_back x _ _ _ i h) [ same k ↦ same (left e k) | stepped k j ↦ stepped (left e k) (Invisible.past e j) ]
  interleaved_back _ u v _ i (right f {v = x} h) = elim (interleaved_back x u v _ i h) [ same k ↦ same (right f k) | stepped k j ↦ stepped (right f k) (Invisible.past f j) ]

  hides_here : {L x : ℕ} {X t w : Word} {k : Event} → Becomes m X k → Hides L x (k ∷ t) w → Back m (Hides L x) (X ++ t) w
  hides_here rule3 (found h) = same (found (found h))
  hides_here rule3 (other n h) = stepped (other n (other n h)) (here rule3)
  hides_here rule4 (stored h) = same (stored (stored h))
  hides_here rule4 (other n h) = stepped (other n (other n h)) (here rule4)
  hides_here (rule5 g) (found h) = same (found (stored h))
  hides_here (rule5 g) (other n h) = stepped (other n (other n h)) (here (rule5 g))
  hides_here (rule6 g) (stored h) = same (stored (found h))
  hides_here (rule6 g) (other n h) = stepped (other n (other n h)) (here (rule6 g))
  hides_here rule7 (found h) = same h
  hides_here rule7 (other n h) = stepped h (here rule7)

  pub hides_back : (L x : ℕ) (u v w : Word) → Invisible m u v → Hides L x v w → Back m (Hides L x) u w
  hides_back L x _ _ w (here g) h = hides_here g h
  hides_back L x _ _ w (Invisible.past _ i) (found h) = elim (hides_back L x _ _ w i h) [ same k ↦ same (found k) | stepped k j ↦ stepped (found k) j ]
  hides_back L x _ _ w (Invisible.past _ i) (stored {y = y} h) = elim (hides_back L y _ _ w i h) [ same k ↦ same (stored k) | stepped k j ↦ stepped (stored k) j ]
  hides_back L x _ _ w (Invisible.past _ i) (exchanged {y = y} h) = elim (hides_back L y _ _ w i h) [ same k ↦ same (exchanged k) | stepped k j ↦ stepped (exchanged k) j ]
  hides_back L x _ _ _ (Invisible.past e i) (other n h) = elim (hides_back L x _ _ _ i h) [ same k ↦ same (other n k) | stepped k j ↦ stepped (other n k) (Invisible.past e j) ]

  becomes_shown : {X : Word} {k : Event} (t : Word) → Becomes m X k → shown (X ++ t) ≡ shown (k ∷ t)
  becomes_shown t rule3 = refl
  becomes_shown t rule4 = refl
  becomes_shown t (rule5 g) = refl
  becomes_shown t (rule6 g) = refl
  becomes_shown t rule7 = refl

  pub invisible_shown : {u w : Word} → Invisible m u w → shown u ≡ shown w
  invisible_shown (here {t = t} g) = becomes_shown t g
  invisible_shown (Invisible.past e i) = shown_past e _ _ (invisible_shown i)
