-- The rules on two events, by the events' parts.
use Rattle.std.proofs.Common.{◌≡◌, ℕ, [], ◌∷◌, Some, None, Option, Bool, true, false, MatchBool, MatchOption, ◌≢◌, sym, refl, ◌∙◌}
use Rattle.std.specs.Bool.{then_some}
use Rattle.trace.specs.declared.event.Event.{Event}
use Rattle.trace.specs.declared.event.Event.TheVariants.{Load as load, Store as store, LoadStore as load_store_event, Fence as fence, Get as get, Print as print}
use Rattle.trace.specs.declared.event.Access.{Access}
use Rattle.trace.specs.declared.event.Kind.TheVariants as kinds
use Rattle.trace.specs.Words.{Word, access, access_of}
use Rattle.surroundings.specs.Steps.{IsAccess, is_load, is_store}
use Rattle.rewrite.specs.declared.working.Rule.{Rule}
use Rattle.rewrite.specs.declared.working.Rule.TheVariants.{Swap, Forward, LoadAfterLoad, StoreBeforeStore, StoreAfterLoad, LoadAfterStore}
use Rattle.rewrite.specs.declared.working.Question.{Question}
use Rattle.rewrite.specs.declared.working.Question.TheVariants.{MaySwap, Nothing}
use Rattle.rewrite.specs.Steps.{Turns, swap, forward, loads, stores, load_store, store_load}
use Rattle.rewrite.specs.Views.{left}

access_from : (e : Event) (a : Access) → access_of e ≡ Some a → IsAccess e a
access_from (load K y) a h = let p : access kinds.Load K ≡ a = cc in rw (sym p) is_load
access_from (store K y) a h = let p : access kinds.Store K ≡ a = cc in rw (sym p) is_store
access_from (load_store_event K y z) a h = cc
access_from fence a h = cc
access_from (get y) a h = cc
access_from (print y) a h = cc

pub access_to : {e : Event} {a : Access} → IsAccess e a → access_of e ≡ Some a
access_to is_load = refl
access_to is_store = refl

pub yes_swap : {e f : Event} {a b : Option Access} → a ≡ access_of e → b ≡ access_of f → {i j : Access} → (a ≡ Some i) × (b ≡ Some j) → (K z : ℕ) → Turns K z Swap (e ∷ f ∷ []) (f ∷ e ∷ []) (MaySwap i j)
yes_swap {e} {f} p q {i} {j} (s, t) K z = swap (access_from e i (sym p ∙ s)) (access_from f j (sym q ∙ t))

pub no_swap : {e f : Event} → access_of f ≡ None → (K z : ℕ) (Y : Word) (q : Question) → Turns K z Swap (e ∷ f ∷ []) Y q → ⊥
no_swap h K z Y q (swap i j) = let p = access_to j in cc

-- what comes after the first event
pub after_forward : {L x K z : ℕ} {f : Event} {Y : Word} {q : Question} → Turns K z Forward (store L x ∷ f ∷ []) Y q → f ≡ load L x
after_forward forward = refl

pub after_loads : {L x K z : ℕ} {f : Event} {Y : Word} {q : Question} → Turns K z LoadAfterLoad (load L x ∷ f ∷ []) Y q → f ≡ load L x
after_loads loads = refl

pub after_load_store : {L x K z : ℕ} {f : Event} {Y : Word} {q : Question} → Turns K z StoreAfterLoad (load L x ∷ f ∷ []) Y q → f ≡ store L x
after_load_store load_store = refl

pub after_store_load : {L x K z : ℕ} {f : Event} {Y : Word} {q : Question} → Turns K z LoadAfterStore (store L x ∷ f ∷ []) Y q → f ≡ load L x
after_store_load store_load = refl

after_stores : {L x K z : ℕ} {f : Event} {Y : Word} {q : Question} → Turns K z StoreBeforeStore (store L x ∷ f ∷ []) Y q → (y : ℕ) × (f ≡ store L y)
after_stores (stores {y = y}) = (y, refl)

-- two stores fit exactly if they are to one location
pub stores_fit : (L x : ℕ) (f : Event) (b : Bool) (o : Option Question) → o ≡ then_some b Nothing → MatchBool b ((y : ℕ) × (f ≡ store L y)) ((y : ℕ) → f ≢ store L y)
    → MatchOption o ((K z : ℕ) (Y : Word) (q : Question) → Turns K z StoreBeforeStore (store L x ∷ f ∷ []) Y q → ⊥) (λ q. (K z : ℕ) → Turns K z StoreBeforeStore (store L x ∷ f ∷ []) (f ∷ []) q)
stores_fit L x f true o e p = rw e (λ K z. rw p.1 stores)
stores_fit L x f false o e n = rw e (λ K z Y q t. let p = after_stores t in n p.0 p.1)

-- the rule fits exactly if the second event is the one that is wanted
pub wanted_fits : {R : Rule} {e f w : Event} (o : Option Question) (Q : Question) → ((K z : ℕ) → Turns K z R (e ∷ w ∷ []) (left R e w) Q) → ((K z : ℕ) (Y : Word) (q : Question) → Turns K z R (e ∷ f ∷ []) Y q → f ≡ w) → MatchOption o (f ≢ w) (λ q. (f ≡ w) × (q ≡ Q))
    → MatchOption o ((K z : ℕ) (Y : Word) (q : Question) → Turns K z R (e ∷ f ∷ []) Y q → ⊥) (λ q. (K z : ℕ) → Turns K z R (e ∷ f ∷ []) (left R e f) q)
wanted_fits None Q fits only n = λ K z Y q t. n (only K z Y q t)
wanted_fits (Some q) Q fits only p = λ K z. rw (p.0, p.1) (fits K z)
