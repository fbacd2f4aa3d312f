-- A hand-in that is settled is valid, and the other way round; and there is one answer.
use Rattle.std.proofs.Common.{◌≡◌, ℕ, List, take, Ok, Err, Result, sym, refl, ap, ◌∙◌, subst, arith, length-take}
use Rattle.std.proofs.lemmas.List.{take_all}
use Rattle.trace.specs.declared.refusal.Refusal.{Refusal}
use Rattle.trace.specs.declared.refusal.Cause.TheVariants.{Ending}
use Rattle.trace.specs.Words.{Word, Registers}
use Rattle.ordering.specs.Meaning.{Meaning}
use Rattle.rewrite.specs.declared.working.Step.{Step}
use Rattle.rewrite.specs.declared.working.Stopped.{Stopped}
use Rattle.rewrite.specs.Steps.{Chain, Replayed}
use Rattle.rewrite.specs.Refused.{refusal_of}
use Rattle.snippet.specs.Parse.{refusal}
use Rattle.rewrite.proofs.Reach.{chain_one, stopped_one}
use Rattle.snippet.proofs.Inverse.{no_ok, ok_inj}
use Rattle.pairs.specs.Program.{Program}
use Rattle.handins.specs.Encoded.{Derivation}
use Rattle.handins.specs.File.{derivation_at}
use Rattle.handins.proofs.Laws.{sound, complete}
use Rattle.snippet.specs.Encode.{Bytes}
use Rattle.judging.specs.declared.performed.Performed.{Performed}
use Rattle.judging.specs.Valid.{Valid, Names, Exactly}
use Rattle.judging.specs.Judged.{Settled, stopped, elsewhere, reached, Decided, no_run, idle_run, apart, settled, Judged, unread, declined, accepted, OneAnswer}

module _ {m : Meaning} {v l : ℕ} {ss : List Step} {a b : Word} {s t : Registers} where
  -- steps that lead to b are not stopped, and lead nowhere else
  unsettled : {e : Refusal} → Settled m v l ss a b s t (Err e) → Chain m v l ss a b → s ≡ t → ⊥
  unsettled (stopped e r) c q = r.3 b c
  unsettled (elsewhere d n) c q = n (chain_one d c, q)

  settles : Settled m v l ss a b s t (Ok tt) → Chain m v l ss a b × (s ≡ t)
  settles (reached c q) = (c, q)

-- the steps begin at the whole word of a run
pub start_word : {w w' : Word} (p : Performed) → w' ≡ take p.length p.events → w ≡ take 48 w' → w ≡ take p.length p.events
start_word p e f =
    let few = p.few in
    f ∙ ap (take 48) e ∙ take_all 48 (take p.length p.events) (simp length-take (omega arith))

module _ {m : Meaning} {v l : ℕ} {ss : List Step} {a b : Word} {s t : Registers} where
  pub stopped_at : {a' w : Word} (e : Stopped) → a' ≡ a → Replayed m v l ss a' (Err e) w → Settled m v l ss a b s t (Err (refusal_of e))
  stopped_at {w = w} e p r = stopped e (subst (λ (x : Word). Replayed m v l ss x (Err e) w) p r)

  pub reached_at : {a' b' : Word} → a' ≡ a → b' ≡ b → Chain m v l ss a' b' → s ≡ t → Settled m v l ss a b s t (Ok tt)
  reached_at p q c e = reached (rw (← p, ← q) c) e

  pub elsewhere_at : {a' w : Word} → a' ≡ a → Chain m v l ss a' w → ((w ≡ b) × (s ≡ t) → ⊥) → Settled m v l ss a b s t (Err (refusal Ending 0))
  elsewhere_at {w = w} p c n = elsewhere (subst (λ (x : Word). Chain m v l ss x w) p c) n

module _ {m : Meaning} {P : Program} {d : Derivation} where
  pub valid : Decided m P d (Ok tt) → Valid m P d
  valid (settled there busy start s) =
      let z = settles s in
      record { to = (there.0, busy.0); from = (there.1, busy.1); start = start; end = z.1; steps = z.0 }

  pub invalid : {e : Refusal} → Decided m P d (Err e) → Valid m P d → ⊥
  invalid (no_run n) w = n (w.to.0, w.from.0)
  invalid (idle_run there n) w = n (w.to.1, w.from.1)
  invalid (apart there busy n) w = n w.start
  invalid (settled there busy start s) w = unsettled s w.steps w.end

err_inj : {A : Type 0} (x y : Refusal) → ◌≡◌ {A = Result A Refusal} (Err x) (Err y) → x ≡ y
err_inj x y q = cc

module _ {m : Meaning} {P : Program} {bs : List ℕ} where
  -- accepted exactly if valid
  pub exactly : Bytes bs → (r : Result ℕ Refusal) → Judged m P bs r → Exactly m P bs r
  exactly b _ (accepted {d} e D) = record { derivation = d; file = sound bs d b e; valid = valid D; run = refl }
  exactly b _ (unread {e} q) = λ k n. no_ok e n.derivation (sym q ∙ complete bs n.derivation n.file)
  exactly b _ (declined {d} q D) = λ k n.
      invalid D (subst (Valid m P) (ok_inj n.derivation d (sym (complete bs n.derivation n.file) ∙ q)) n.valid)

-- there is one answer
module _ {m : Meaning} {v l : ℕ} {ss : List Step} {a b : Word} {s t : Registers} where
  settled_one : {q r : Result (Unit {0}) Refusal} → Settled m v l ss a b s t q → Settled m v l ss a b s t r → q ≡ r
  settled_one (stopped {w} e x) (stopped {w = w'} e' x') = ap (λ (z : Stopped). Err (refusal_of z)) (stopped_one e e' w w' x x')
  settled_one (stopped e x) (elsewhere {w} c n) = absurd (x.3 w c)
  settled_one (stopped e x) (reached c p) = absurd (x.3 b c)
  settled_one (elsewhere {w} c n) (stopped e x) = absurd (x.3 w c)
  settled_one (elsewhere c n) (elsewhere c' n') = refl
  settled_one (elsewhere c n) (reached c' p) = absurd (n (chain_one c c', p))
  settled_one (reached c p) (stopped e x) = absurd (x.3 b c)
  settled_one (reached c p) (elsewhere c' n) = absurd (n (chain_one c' c, p))
  settled_one (reached c p) (reached c' p') = refl

module _ {m : Meaning} {P : Program} where
  decided_one : {d : Derivation} {q r : Result (Unit {0}) Refusal} → Decided m P d q → Decided m P d r → q ≡ r
  decided_one (no_run n) (no_run n') = refl
  decided_one (no_run n) (idle_run t n') = absurd (n t)
  decided_one (no_run n) (apart t b n') = absurd (n t)
  decided_one (no_run n) (settled t b e s) = absurd (n t)
  decided_one (idle_run t n) (no_run n') = absurd (n' t)
  decided_one (idle_run t n) (idle_run t' n') = refl
  decided_one (idle_run t n) (apart t' b n') = absurd (n b)
  decided_one (idle_run t n) (settled t' b e s) = absurd (n b)
  decided_one (apart t b n) (no_run n') = absurd (n' t)
  decided_one (apart t b n) (idle_run t' n') = absurd (n' b)
  decided_one (apart t b n) (apart t' b' n') = refl
  decided_one (apart t b n) (settled t' b' e s) = absurd (n e)
  decided_one (settled t b e s) (no_run n') = absurd (n' t)
  decided_one (settled t b e s) (idle_run t' n') = absurd (n' b)
  decided_one (settled t b e s) (apart t' b' n') = absurd (n' e)
  decided_one (settled t b e s) (settled t' b' e' s') = settled_one s s'

  to_same : {d d' : Derivation} {r : Result (Unit {0}) Refusal} (bs : List ℕ) → derivation_at bs ≡ Ok d → derivation_at bs ≡ Ok d' → Decided m P d' r → Decided m P d r
  to_same {d} {d'} {r} bs p q D = subst (λ (z : Derivation). Decided m P z r) (ok_inj d' d (sym q ∙ p)) D

  pub judged_one : (bs : List ℕ) → OneAnswer m P bs
  judged_one bs _ _ (unread {e} p) (unread {e = e'} q) = ap (λ (z : Refusal). Err z) (err_inj e e' (sym p ∙ q))
  judged_one bs _ _ (unread {e} p) (declined {d} q D) = absurd (no_ok e d (sym p ∙ q))
  judged_one bs _ _ (unread {e} p) (accepted {d} q D) = absurd (no_ok e d (sym p ∙ q))
  judged_one bs _ _ (declined {d} p D) (unread {e} q) = absurd (no_ok e d (sym q ∙ p))
  judged_one bs _ _ (declined {d} {e} p D) (declined {d = d'} {e = e'} q D') = ap (λ (z : Refusal). Err z) (err_inj e e' (decided_one D (to_same bs p q D')))
  judged_one bs _ _ (declined {d} {e} p D) (accepted q D') = absurd (no_ok e tt (decided_one D (to_same bs p q D')))
  judged_one bs _ _ (accepted {d} p D) (unread {e} q) = absurd (no_ok e d (sym q ∙ p))
  judged_one bs _ _ (accepted {d} p D) (declined {d = d'} {e} q D') = absurd (no_ok e tt (sym (decided_one D (to_same bs p q D'))))
  judged_one bs _ _ (accepted {d} p D) (accepted {d = d'} q D') = ap (λ (z : Derivation). Ok z.to) (ok_inj d d' (sym p ∙ q))

-- a hand-in names at most one run
pub names_one : {m : Meaning} {P : Program} {bs : List ℕ} {j k : ℕ} → Names m P bs j → Names m P bs k → j ≡ k
names_one {bs = bs} n n' =
    let d = n.derivation in
    let d' = n'.derivation in
    sym n.run ∙ ap (λ (z : Derivation). z.to) (ok_inj d d' (sym (complete bs d n.file) ∙ complete bs d' n'.file)) ∙ n'.run
