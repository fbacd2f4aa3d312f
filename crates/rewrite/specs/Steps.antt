-- What each rule does to a word, what it asks of the model, and what comes of steps.
use Rattle.std.specs.Prelude.{◌≡◌, ℕ, ◌<◌, ◌≤◌, Bool, true, cond, List, [], ◌∷◌, ◌++◌, length, take, Some, None, Ok, Err, Option, Result, ◌==◌, slice_index_or}
use Rattle.trace.specs.declared.event.Event.{Event}
use Rattle.trace.specs.declared.event.Event.TheVariants.{Load as load, Store as store}
use Rattle.trace.specs.declared.event.Access.{Access}
use Rattle.trace.specs.Words.{Word}
use Rattle.ordering.specs.declared.model.Removal.TheVariants as removals
use Rattle.ordering.specs.Meaning.{Meaning}
use Rattle.surroundings.specs.Steps.{IsAccess, Reaches}
use Rattle.rewrite.specs.declared.working.Working.{Working}
use Rattle.rewrite.specs.declared.working.Step.{Step}
use Rattle.rewrite.specs.declared.working.Stopped.{Stopped}
use Rattle.rewrite.specs.declared.working.Rule.{Rule}
use Rattle.rewrite.specs.declared.working.Rule.TheVariants.{Swap, Forward, LoadAfterLoad, StoreBeforeStore, StoreAfterLoad, LoadAfterStore, NewLoad}
use Rattle.rewrite.specs.declared.working.Question.{Question}
use Rattle.rewrite.specs.declared.working.Question.TheVariants.{MaySwap, Forwards, Permits, Nothing}
use Rattle.rewrite.specs.declared.working.Denied.{Denied}
use Rattle.rewrite.specs.declared.working.Denied.TheVariants.{Misfit, Forbidden, Overlong}

-- The events of a working word.
abbrev pub word : Working → Word
word w = take w.len w.events

-- The rule of a number.
abbrev pub rule_of : ℕ → Option Rule
rule_of n =
    cond (n == 1) (Some Swap) (cond (n == 2) (Some Forward) (cond (n == 3) (Some LoadAfterLoad) (cond (n == 4) (Some StoreBeforeStore) (
    cond (n == 5) (Some StoreAfterLoad) (cond (n == 6) (Some LoadAfterStore) (cond (n == 7) (Some NewLoad) None))))))

-- The model's answer to a question.
abbrev pub answer : Meaning → Question → Bool
answer m (MaySwap a b) = m.swaps a b
answer m (Forwards L) = m.forwards L
answer m (Permits r L) = m.permits r L
answer m Nothing = true

-- The rule turns X into Y, if the model says yes to the question. Rule 7 puts in the load of K and z.
pub data Turns (K z : ℕ) : Rule → Word → Word → Question → Type 0 where
  -- 1: two accesses swap
  swap : {e f : Event} {a b : Access} → IsAccess e a → IsAccess f b → Turns K z Swap (e ∷ f ∷ []) (f ∷ e ∷ []) (MaySwap a b)
  -- 2: a store is forwarded to the load of its value, and the load goes
  forward : {L x : ℕ} → Turns K z Forward (store L x ∷ load L x ∷ []) (store L x ∷ []) (Forwards L)
  -- 3: of two loads of one value one goes
  loads : {L x : ℕ} → Turns K z LoadAfterLoad (load L x ∷ load L x ∷ []) (load L x ∷ []) Nothing
  -- 4: of two stores to one location the first goes
  stores : {L x y : ℕ} → Turns K z StoreBeforeStore (store L x ∷ store L y ∷ []) (store L y ∷ []) Nothing
  -- 5: a store of the value just loaded goes
  load_store : {L x : ℕ} → Turns K z StoreAfterLoad (load L x ∷ store L x ∷ []) (load L x ∷ []) (Permits removals.StoreAfterLoad L)
  -- 6: a load of the value just stored goes
  store_load : {L x : ℕ} → Turns K z LoadAfterStore (store L x ∷ load L x ∷ []) (store L x ∷ []) (Permits removals.LoadAfterStore L)
  -- 7: a load is put in
  new_load : Turns K z NewLoad [] (load K z ∷ []) Nothing

-- The last two bytes of a step are 0; rule 7's are a location below l and a value below v.
abbrev pub Spare : ℕ → ℕ → Step → Rule → Type 0
Spare v l s Swap = (s.location ≡ 0) × (s.value ≡ 0)
Spare v l s Forward = (s.location ≡ 0) × (s.value ≡ 0)
Spare v l s LoadAfterLoad = (s.location ≡ 0) × (s.value ≡ 0)
Spare v l s StoreBeforeStore = (s.location ≡ 0) × (s.value ≡ 0)
Spare v l s StoreAfterLoad = (s.location ≡ 0) × (s.value ≡ 0)
Spare v l s LoadAfterStore = (s.location ≡ 0) × (s.value ≡ 0)
Spare v l s NewLoad = (s.location < l) × (s.value < v)

-- The step fits w, would give w' and asks q: w is u ++ X ++ t and w' is u ++ Y ++ t, with u as long as
-- the step's place.
pub record Fits (v l : ℕ) (s : Step) (w w' : Word) (q : Question) : Type 0 where
  pub rule : Rule
  pub number : rule_of s.rule ≡ Some rule
  pub spare : Spare v l s rule
  pub u : Word
  pub X : Word
  pub Y : Word
  pub t : Word
  pub place : length u ≡ s.place
  pub from : w ≡ u ++ (X ++ t)
  pub to : w' ≡ u ++ (Y ++ t)
  pub turns : Turns s.location s.value rule X Y q

-- The step fits, and the model says yes.
abbrev pub Takes : Meaning → ℕ → ℕ → Step → Word → Word → Type 0
Takes m v l s w w' = (q : Question) × Fits v l s w w' q × (answer m q ≡ true)

-- What comes of a step on w: the answer r, and the word w' afterwards.
abbrev pub Applied : Meaning → ℕ → ℕ → Step → Word → Result (Unit {0}) Denied → Word → Type 0
Applied m v l s w (Ok _) w' = Takes m v l s w w' × (length w' ≤ 48)
Applied m v l s w (Err Misfit) w' = (w' ≡ w) × ((w'' : Word) (q : Question) → Fits v l s w w'' q → ⊥)
Applied m v l s w (Err Forbidden) w' = (w' ≡ w) × ((w'' : Word) × (q : Question) × Fits v l s w w'' q) × ((w'' : Word) → Takes m v l s w w'' → ⊥)
Applied m v l s w (Err Overlong) w' = (w' ≡ w) × ((w'' : Word) × Takes m v l s w w'' × (length w'' ≡ 49))

-- Steps one after another, each taken, with never more than 48 events.
pub data Chain (m : Meaning) (v l : ℕ) : List Step → Word → Word → Type 0 where
  none : {w : Word} → Chain m v l [] w w
  more : {s : Step} {ss : List Step} {a b c : Word} → Takes m v l s a b → length b ≤ 48 → Chain m v l ss b c → Chain m v l (s ∷ ss) a c

-- What comes of steps on w: all are taken, or the step at i is the first that is not, and the word is
-- left as that step found it.
abbrev pub Replayed : Meaning → ℕ → ℕ → List Step → Word → Result (Unit {0}) Stopped → Word → Type 0
Replayed m v l ss w (Ok _) w' = Chain m v l ss w w'
Replayed m v l ss w (Err e) w' =
    (e.step < length ss) × Chain m v l (take e.step ss) w w' × ((s : Step) → Applied m v l (slice_index_or ss e.step s) w' (Err e.why) w') × ((w'' : Word) → Chain m v l ss w w'' → ⊥)

-- A step gives at most one word, and asks one question.
abbrev pub StepsAreSure : Type 0
StepsAreSure = (v l : ℕ) (s : Step) (w a b : Word) (p q : Question) → Fits v l s w a p → Fits v l s w b q → (a ≡ b) × (p ≡ q)

-- Steps that are taken lead from word to word by the rules that are sound in every surrounding.
abbrev pub ChainsReach : Meaning → Type 0
ChainsReach m = (v l : ℕ) (ss : List Step) (w w' : Word) → Chain m v l ss w w' → Reaches m w w'
