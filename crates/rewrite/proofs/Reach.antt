-- Chains of steps, and the theory's steps.
use Rattle.std.proofs.Common.{◌≡◌, ℕ, ◌+◌, ◌<◌, ◌≤◌, true, ◌⊎◌, List, [], ◌∷◌, ◌++◌, length, get_or, take, drop, Ok, Err, Result, MatchResult, sym, refl, ap, ◌∙◌, subst, ap₂, inl, inr, arith, length-take}
use Rattle.std.proofs.lemmas.List.{take-append-drop, take-take, drop_more, take_more, get_or-take, get_or_default}
use Rattle.std.proofs.lemmas.Bool.{cases_order}
use Rattle.std.proofs.lemmas.Result.{err_from_is_err_and}
use Rattle.std.specs.Result.{IsErrAnd}
use Rattle.trace.specs.Words.{Word}
use Rattle.ordering.specs.Meaning.{Meaning}
use Rattle.surroundings.specs.Steps.{Relax, Invisible, here, rule3, rule4, rule5, rule6, rule7, done, next, Reaches}
use Rattle.surroundings.proofs.Commute.{relax_under}
use Rattle.surroundings.proofs.Derived.{invisible_under}
use Rattle.rewrite.specs.declared.working.Step.{Step}
use Rattle.rewrite.specs.declared.working.Stopped.{Stopped}
use Rattle.rewrite.specs.declared.working.Rule.{Rule}
use Rattle.rewrite.specs.declared.working.Question.{Question}
use Rattle.rewrite.specs.declared.working.Denied.{Denied}
use Rattle.rewrite.specs.declared.working.Denied.TheVariants.{Misfit, Forbidden, Overlong}
use Rattle.rewrite.specs.Steps.{answer, Turns, loads, stores, load_store, store_load, new_load, Takes, Applied, Replayed, Chain, none, more}
use Rattle.rewrite.proofs.Fitting.{fits_one}

abbrev StepOf : Meaning → Word → Word → Type 0
StepOf m u w = Relax m u w ⊎ Invisible m u w

unchanged : (m : Meaning) (v l : ℕ) (s : Step) (w w' : Word) (d : Denied) → Applied m v l s w (Err d) w' → w ≡ w'
unchanged m v l s w w' Misfit r = sym r.0
unchanged m v l s w w' Forbidden r = sym r.0
unchanged m v l s w w' Overlong r = sym r.0

module _ {m : Meaning} where
  turn : {K z : ℕ} {R : Rule} {X Y : Word} {q : Question} (t : Word) → Turns K z R X Y q → answer m q ≡ true → StepOf m (X ++ t) (Y ++ t)
  turn t (Turns.swap i j) h = inl (Relax.swap i j h)
  turn t Turns.forward h = inl (Relax.forward h)
  turn t loads h = inr (here rule3)
  turn t stores h = inr (here rule4)
  turn t load_store h = inr (here (rule5 h))
  turn t store_load h = inr (here (rule6 h))
  turn t new_load h = inr (here rule7)

  under : (u : Word) {a b : Word} → StepOf m a b → StepOf m (u ++ a) (u ++ b)
  under u (inl r) = inl (relax_under u r)
  under u (inr i) = inr (invisible_under u _ _ i)

  taken : {v l : ℕ} {s : Step} {w w' : Word} → Takes m v l s w w' → StepOf m w w'
  taken (q, F, h) = rw (F.from, F.to) (under F.u (turn F.t F.turns h))

  pub chain_reaches : {v l : ℕ} {ss : List Step} {w w' : Word} → Chain m v l ss w w' → Reaches m w w'
  chain_reaches none = done
  chain_reaches (more t n c) = next (taken t) (chain_reaches c)

  pub chain_one : {v l : ℕ} {ss : List Step} {a b c : Word} → Chain m v l ss a b → Chain m v l ss a c → b ≡ c
  chain_one none none = refl
  chain_one {v} {l} {c = c} (more {ss = ss} t n d) (more t' n' d') = chain_one d (subst (λ (x : Word). Chain m v l ss x c) (sym (fits_one t.1 t'.1).0) d')

  pub chain_push : {v l : ℕ} {ss : List Step} {s : Step} {a b c : Word} → Chain m v l ss a b → Takes m v l s b c → length c ≤ 48 → Chain m v l (ss ++ s ∷ []) a c
  chain_push none t n = more t n none
  chain_push (more u k d) t n = more u k (chain_push d t n)

  -- a refused step is not taken to a word of at most 48 events
  pub refused : (v l : ℕ) (s : Step) (w w' c : Word) (d : Denied) → Applied m v l s w (Err d) w' → Takes m v l s w c → length c ≤ 48 → ⊥
  refused v l s w w' c Misfit r (q, F, h) n = r.1 c q F
  refused v l s w w' c Forbidden r t n = r.2 c t
  refused v l s w w' c Overlong r (q, F, h) n =
      let (c', (p, G, k), e) = r.1 in
      let o = ap length (fits_one F G).0 in
      omega arith

  pub no_chain : {v l : ℕ} {ss : List Step} {s : Step} (ts : List Step) {a b c : Word} → Chain m v l ss a b → ((x : Word) → Takes m v l s b x → length x ≤ 48 → ⊥) → Chain m v l (ss ++ s ∷ ts) a c → ⊥
  no_chain ts none r (more t n d) = r _ t n
  no_chain {v} {l} {s = s} ts {c = c} (more {ss = ss} t n d) r (more t' n' d') = no_chain ts d r (subst (λ (x : Word). Chain m v l (ss ++ s ∷ ts) x c) (sym (fits_one t.1 t'.1).0) d')

  -- the loop: it stops at a step, or goes on past one
  module _ (v l : ℕ) (ss : List Step) (i : ℕ) (w b : Word) (z : Step) (ch : Chain m v l (take i ss) w b) where
    pub stopped : (b' : Word) (d : Denied) → i < length ss → Applied m v l (get_or ss i z) b (Err d) b' → Replayed m v l ss w (Err (record { step = i; why = d })) b'
    stopped b' d h r =
        let e = unchanged m v l (get_or ss i z) b b' d r in (
          h,
          subst (λ (x : Word). Chain m v l (take i ss) w x) e ch,
          (λ s. subst (λ (x : Word). Applied m v l (get_or ss i s) x (Err d) b') e (subst (λ (y : Step). Applied m v l y b (Err d) b') (get_or_default ss i z s h) r)),
          λ w'' full.
              no_chain (drop (i + 1) ss) ch (λ x t n. refused v l (get_or ss i z) b b' x d r t n) (subst (λ (y : List Step). Chain m v l y w w'') (sym (take-append-drop i ss) ∙ ap (λ (y : List Step). take i ss ++ y) (drop_more ss i z h)) full),
        )

    pub went_on : (b' : Word) → i < length ss → Takes m v l (get_or ss i z) b b' → length b' ≤ 48 → Chain m v l (take (i + 1) ss) w b'
    went_on b' h t n = subst (λ (y : List Step). Chain m v l y w b') (sym (take_more ss i z h)) (chain_push ch t n)

-- an answer, and the same with its error told by another
module _ {E F : Type 0} (P : E → F → Type 0) where
  pub told_ok : (r : Result (Unit {0}) E) (r' : Result (Unit {0}) F) → MatchResult r (λ u. r' ≡ Ok u) (λ e. IsErrAnd r' (P e)) → {u : Unit {0}} → r' ≡ Ok u → r ≡ Ok tt
  told_ok (Ok u) r' c h = refl
  told_ok (Err e) r' c h = let (y, p, q) = err_from_is_err_and r' c in cc

  pub told_err : (r : Result (Unit {0}) E) (r' : Result (Unit {0}) F) → MatchResult r (λ u. r' ≡ Ok u) (λ e. IsErrAnd r' (P e)) → {f : F} → r' ≡ Err f → (e : E) × P e f × (r ≡ Err e)
  told_err (Ok u) r' c h = cc
  told_err (Err e) r' c {f} h = let (y, p, q) = err_from_is_err_and r' c in let k : y ≡ f = cc in (e, subst (λ (z : F). P e z) k q, refl)

-- a step is denied for one reason
denied_one : (m : Meaning) (v l : ℕ) (s : Step) (w : Word) (d d' : Denied) → Applied m v l s w (Err d) w → Applied m v l s w (Err d') w → d ≡ d'
denied_one m v l s w Misfit Misfit a b = refl
denied_one m v l s w Misfit Forbidden a b = absurd (a.1 b.1.0 b.1.1 b.1.2)
denied_one m v l s w Misfit Overlong a b = absurd (a.1 b.1.0 b.1.1.0 b.1.1.1)
denied_one m v l s w Forbidden Misfit a b = absurd (b.1 a.1.0 a.1.1 a.1.2)
denied_one m v l s w Forbidden Forbidden a b = refl
denied_one m v l s w Forbidden Overlong a b = absurd (a.2 b.1.0 b.1.1)
denied_one m v l s w Overlong Misfit a b = absurd (b.1 a.1.0 a.1.1.0 a.1.1.1)
denied_one m v l s w Overlong Forbidden a b = absurd (b.2 a.1.0 a.1.1)
denied_one m v l s w Overlong Overlong a b = refl

zero : Step
zero = record { rule = 0; place = 0; location = 0; value = 0 }

module _ {m : Meaning} {v l : ℕ} {ss : List Step} {a : Word} where
  -- no chain goes past a step that is denied
  not_past : (e : Stopped) (w w' : Word) (j : ℕ) → Replayed m v l ss a (Err e) w → e.step < j → Chain m v l (take j ss) a w' → ⊥
  not_past e w w' j r h c =
      let i = e.step in
      let n : i < length (take j ss) = simp length-take (omega (arith, r.0)) in
      let split : take j ss ≡ take i ss ++ get_or ss i zero ∷ drop (i + 1) (take j ss) =
      sym (take-append-drop i (take j ss))
      ∙ ap₂ (λ (x y : List Step). x ++ y) (take-take i j ss (omega arith)) (drop_more (take j ss) i zero n ∙ ap (λ (s : Step). s ∷ drop (i + 1) (take j ss)) (get_or-take j ss i zero h)) in
      no_chain (drop (i + 1) (take j ss)) r.1 (λ x t k. refused v l (get_or ss i zero) w w x e.why (r.2 zero) t k) (subst (λ (y : List Step). Chain m v l y a w') split c)

  -- the first step that is denied, and why, are certain
  pub stopped_one : (e e' : Stopped) (w w' : Word) → Replayed m v l ss a (Err e) w → Replayed m v l ss a (Err e') w' → e ≡ e'
  stopped_one e e' w w' r r' =
      elim (cases_order e.step e'.step) [
        | inl same ↦
            let c : Chain m v l (take e.step ss) a w' = subst (λ (i : ℕ). Chain m v l (take i ss) a w') (sym same) r'.1 in
            let at : w' ≡ w = chain_one c r.1 in
            let b : Applied m v l (get_or ss e.step zero) w (Err e'.why) w =
            subst (λ (x : Word). Applied m v l (get_or ss e.step zero) x (Err e'.why) x) at (subst (λ (i : ℕ). Applied m v l (get_or ss i zero) w' (Err e'.why) w') (sym same) (r'.2 zero)) in
            ap₂ (λ (i : ℕ) (d : Denied). record { step = i; why = d }) same (denied_one m v l (get_or ss e.step zero) w e.why e'.why (r.2 zero) b)
        | inr s ↦ elim s [
          | inl h ↦ absurd (not_past e w w' e'.step r h r'.1)
          | inr h ↦ absurd (not_past e' w' w e.step r' h r.1)
        ]
      ]
