-- A model's own step after an invisible one can be made before it.
use mathlib.Core.List.{[], ◌∷◌, ◌++◌}
use mathlib.Core.Logic.{inl, inr}
use mathlib.Core.Path.{◌≡◌}
use Prim.Native.Nat.{ℕ}
use mathlib.Core.Bool.{true}
use Rattle.trace.specs.declared.event.Event.{Event}
use Rattle.trace.specs.declared.event.Event.TheVariants.{Load as load, Store as store}
use Rattle.trace.specs.declared.event.Access.{Access}
use Rattle.trace.specs.Words.{Word}
use Rattle.ordering.specs.Meaning.{Meaning, Lawful}
use Rattle.surroundings.specs.Steps.{IsAccess, is_load, is_store, Relax, swap, forward, Becomes, rule3, rule4, rule5, rule6, rule7, Invisible, here, Many, done, next, Relaxes}

pub joined : {R : Word → Word → Type 0} {u v w : Word} → Many R u v → Many R v w → Many R u w
joined done r = r
joined (next s q) r = next s (joined q r)

pub one : {R : Word → Word → Type 0} {u w : Word} → R u w → Many R u w
one s = next s done

pub relaxes_past : {m : Meaning} (e : Event) {u w : Word} → Relaxes m u w → Relaxes m (e ∷ u) (e ∷ w)
relaxes_past e done = done
relaxes_past e (next s r) = next (Relax.past e s) (relaxes_past e r)

pub relax_under : {m : Meaning} (X : Word) {u w : Word} → Relax m u w → Relax m (X ++ u) (X ++ w)
relax_under [] r = r
relax_under (e ∷ X) r = Relax.past e (relax_under X r)

-- The model's own steps lead from u to w, but for at most one invisible step at the end.
pub data Nearly (m : Meaning) (u w : Word) : Type 0 where
  wholly : Relaxes m u w → Nearly m u w
  but_one : {v : Word} → Relaxes m u v → Invisible m v w → Nearly m u w

nearly_past : {m : Meaning} (e : Event) {u w : Word} → Nearly m u w → Nearly m (e ∷ u) (e ∷ w)
nearly_past e (wholly r) = wholly (relaxes_past e r)
nearly_past e (but_one r i) = but_one (relaxes_past e r) (Invisible.past e i)

module _ {m : Meaning} (p : Lawful m) where
  -- the kept event swaps with the event after it
  swap_after : {X : Word} {k f : Event} {a b : Access} (t : Word) → Becomes m X k → IsAccess k a → IsAccess f b → m.swaps a b ≡ true → Nearly m (X ++ f ∷ t) (f ∷ k ∷ t)
  swap_after t rule3 is_load q s = but_one (next (Relax.past _ (swap is_load q s)) (one (swap is_load q s))) (Invisible.past _ (here rule3))
  swap_after t rule4 is_store q s = but_one (next (Relax.past _ (swap is_store q s)) (one (swap is_store q s))) (Invisible.past _ (here rule4))
  swap_after {b = b} t (rule5 {L = L} g) is_load q s =
      but_one (next (Relax.past _ (swap is_store q ((p.five L g).after b s))) (one (swap is_load q s))) (Invisible.past _ (here (rule5 g)))
  swap_after {b = b} t (rule6 {L = L} g) is_store q s =
      elim (p.six L g) [
        | inl f ↦ wholly (next (forward f) (one (swap is_store q s)))
        | inr h ↦ but_one (next (Relax.past _ (swap is_load q (h.after b s))) (one (swap is_store q s))) (Invisible.past _ (here (rule6 g)))
      ]
  swap_after t rule7 is_load q s = but_one done (Invisible.past _ (here rule7))

  -- the kept event swaps with the event before it
  swap_before : {X : Word} {k f : Event} {a b : Access} (t : Word) → Becomes m X k → IsAccess f b → IsAccess k a → m.swaps b a ≡ true → Nearly m (f ∷ X ++ t) (k ∷ f ∷ t)
  swap_before t rule3 q is_load s = but_one (next (swap q is_load s) (one (Relax.past _ (swap q is_load s)))) (here rule3)
  swap_before t rule4 q is_store s = but_one (next (swap q is_store s) (one (Relax.past _ (swap q is_store s)))) (here rule4)
  swap_before {b = b} t (rule5 {L = L} g) q is_load s =
      but_one (next (swap q is_load s) (one (Relax.past _ (swap q is_store ((p.five L g).before b s))))) (here (rule5 g))
  swap_before {b = b} t (rule6 {L = L} g) q is_store s =
      elim (p.six L g) [
        | inl f ↦ wholly (next (Relax.past _ (forward f)) (one (swap q is_store s)))
        | inr h ↦ but_one (next (swap q is_store s) (one (Relax.past _ (swap q is_load (h.before b s))))) (here (rule6 g))
      ]
  swap_before t rule7 q is_load s = but_one done (here rule7)

  -- the kept event is a store, and is forwarded to the load after it
  forward_from : {X : Word} {L x : ℕ} (t : Word) → Becomes m X (store L x) → m.forwards L ≡ true → Nearly m (X ++ load L x ∷ t) (store L x ∷ t)
  forward_from t rule4 f = but_one (one (Relax.past _ (forward f))) (here rule4)
  forward_from t (rule6 g) f = wholly (next (forward f) (one (forward f)))

  -- the kept event is a load, and the store before it is forwarded to it
  forward_to : {X : Word} {L x : ℕ} (t : Word) → Becomes m X (load L x) → m.forwards L ≡ true → Nearly m (store L x ∷ X ++ t) (store L x ∷ t)
  forward_to t rule3 f = wholly (next (forward f) (one (forward f)))
  forward_to t (rule5 g) f = but_one (one (forward f)) (here rule4)
  forward_to t rule7 f = wholly done

  pub commute : {u v w : Word} → Invisible m u v → Relax m v w → Nearly m u w
  commute (here {t = _ ∷ t} g) (swap a b s) = swap_after t g a b s
  commute (here {t = _ ∷ t} g) (forward f) = forward_from t g f
  commute (here {X = X} g) (Relax.past _ r) = but_one (one (relax_under X r)) (here g)
  commute (Invisible.past e (here {t = t} g)) (swap a b s) = swap_before t g a b s
  commute (Invisible.past e (Invisible.past f i)) (swap a b s) = but_one (one (swap a b s)) (Invisible.past f (Invisible.past e i))
  commute (Invisible.past e (here {t = t} g)) (forward f) = forward_to t g f
  commute (Invisible.past e (Invisible.past _ i)) (forward f) = but_one (one (forward f)) (Invisible.past e i)
  commute (Invisible.past e i) (Relax.past _ r) = nearly_past e (commute i r)

  pub commutes : {u v w : Word} → Invisible m u v → Relaxes m v w → Nearly m u w
  commutes i done = but_one done i
  commutes i (next s r) = elim (commute i s) [
    | wholly q ↦ wholly (joined q r)
    | but_one q j ↦ elim (commutes j r) [ wholly q' ↦ wholly (joined q q') | but_one q' j' ↦ but_one (joined q q') j' ]
  ]
