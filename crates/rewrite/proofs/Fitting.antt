-- When a step fits.
use Rattle.std.proofs.Common.{◌≡◌, ◌↔◌, ℕ, ◌+◌, ◌<◌, ◌≤◌, [], ◌∷◌, ◌++◌, length, get_or, take, drop, Some, sym, refl, ap, ◌∙◌, subst, ap₂, add_assoc, arith, length-take}
use Rattle.std.proofs.lemmas.List.{take-append-drop, take_at, drop_at, drop_more, length-append, length-take-le, get_or-take}
use Rattle.std.proofs.lemmas.List.Prefix.{at_reads}
use Rattle.trace.specs.declared.event.Event.{Event}
use Rattle.trace.specs.declared.event.Event.TheVariants.{Load as load}
use Rattle.trace.specs.declared.event.Access.{Access}
use Rattle.trace.specs.Words.{Word}
use Rattle.surroundings.specs.Steps.{IsAccess}
use Rattle.rewrite.specs.declared.working.Step.{Step}
use Rattle.rewrite.specs.declared.working.Rule.{Rule}
use Rattle.rewrite.specs.declared.working.Rule.TheVariants.{Swap, Forward, LoadAfterLoad, StoreBeforeStore, StoreAfterLoad, LoadAfterStore, NewLoad}
use Rattle.rewrite.specs.declared.working.Question.{Question}
use Rattle.rewrite.specs.declared.working.Question.TheVariants.{MaySwap, Nothing}
use Rattle.rewrite.specs.declared.working.Working.{Working}
use Rattle.rewrite.specs.Steps.{word, Turns, swap, forward, loads, stores, load_store, store_load, new_load, rule_of, Spare, Fits}
use Rattle.rewrite.proofs.Shapes.{access_to}

same_access : {e f : Event} {a b : Access} → IsAccess e a → IsAccess f b → e ≡ f → a ≡ b
same_access i j h = let p = access_to i in let q = access_to j in cc

-- A rule leaves one word of a word, and asks one question.
pub turns_one : {K z : ℕ} {R : Rule} {X X' Y Y' : Word} {q q' : Question} (t t' : Word) → Turns K z R X Y q → Turns K z R X' Y' q' → X ++ t ≡ X' ++ t' → (Y ++ t ≡ Y' ++ t') × (q ≡ q')
turns_one t t' (swap i j) (swap k l) h = (cc, ap₂ MaySwap (same_access i k (cc)) (same_access j l (cc)))
turns_one t t' forward forward h = (cc, cc)
turns_one t t' loads loads h = (cc, cc)
turns_one t t' stores stores h = (cc, cc)
turns_one t t' load_store load_store h = (cc, cc)
turns_one t t' store_load store_load h = (cc, cc)
turns_one t t' new_load new_load h = (cc, cc)

-- on two events, the spare bytes are 0
spare_pair : (v l : ℕ) (s : Step) (R : Rule) → (R ≡ NewLoad → ⊥) → Spare v l s R ↔ ((s.location ≡ 0) × (s.value ≡ 0))
spare_pair v l s Swap n = (λ h. h, λ h. h)
spare_pair v l s Forward n = (λ h. h, λ h. h)
spare_pair v l s LoadAfterLoad n = (λ h. h, λ h. h)
spare_pair v l s StoreBeforeStore n = (λ h. h, λ h. h)
spare_pair v l s StoreAfterLoad n = (λ h. h, λ h. h)
spare_pair v l s LoadAfterStore n = (λ h. h, λ h. h)
spare_pair v l s NewLoad n = absurd (n refl)

pair_shape : {K z : ℕ} {R : Rule} {X Y : Word} {q : Question} → Turns K z R X Y q → (R ≡ NewLoad → ⊥) → (e f : Event) × (X ≡ e ∷ f ∷ [])
pair_shape (swap i j) n = (_, _, refl)
pair_shape forward n = (_, _, refl)
pair_shape loads n = (_, _, refl)
pair_shape stores n = (_, _, refl)
pair_shape load_store n = (_, _, refl)
pair_shape store_load n = (_, _, refl)
pair_shape new_load n = absurd (n refl)

put_turns : {K z : ℕ} {X Y : Word} {q : Question} → Turns K z NewLoad X Y q → (length X ≡ 0) × (length Y ≡ 1)
put_turns new_load = (refl, refl)

module _ {v l : ℕ} {s : Step} {w w'' : Word} {q : Question} (F : Fits v l s w w'' q) where
  fit_rule : {R : Rule} → rule_of s.rule ≡ Some R → F.rule ≡ R
  fit_rule h = let n = F.number in cc

  fit_rest : drop s.place w ≡ F.X ++ F.t
  fit_rest = ap (drop s.place) F.from ∙ drop_at F.u (F.X ++ F.t) s.place F.place

  pub fit_long : length w ≡ s.place + (length F.X + length F.t)
  fit_long = ap length F.from ∙ length-append F.u (F.X ++ F.t) ∙ ap₂ (λ (a b : ℕ). a + b) F.place (length-append F.X F.t)

  -- a fitting rule on two events: the spare bytes, the place, the events
  pub fit_pair : {R : Rule} → rule_of s.rule ≡ Some R → (R ≡ NewLoad → ⊥) → (s.location ≡ 0) × (s.value ≡ 0) × (s.place + 1 < length w)
      × ((d d' e f : Event) → e ≡ get_or w s.place d → f ≡ get_or w (s.place + 1) d' → Turns s.location s.value R (e ∷ f ∷ []) F.Y q)
  fit_pair {R} h n =
      let r = fit_rule h in
      let (e', f', x) = pair_shape F.turns (λ p. n (sym r ∙ p)) in
      let sp = (spare_pair v l s F.rule (λ p. n (sym r ∙ p))).0 F.spare in
      let two : length F.X ≡ 2 = ap length x in (
        sp.0,
        sp.1,
        omega (arith, fit_long),
        λ d d' e f p k.
            let a : e ≡ e' = p ∙ ap (λ (i : ℕ). get_or w i d) {x = s.place} {y = s.place + 0} (omega arith) ∙ at_reads d w F.X s.place F.t fit_rest 0 (omega arith) ∙ ap (λ (y : Word). get_or y 0 d) x in
            let b : f ≡ f' = k ∙ at_reads d' w F.X s.place F.t fit_rest 1 (omega arith) ∙ ap (λ (y : Word). get_or y 1 d') x in
            let y : F.X ≡ e ∷ f ∷ [] = cc in
            subst (λ (o : Rule). Turns s.location s.value o (e ∷ f ∷ []) F.Y q) r (subst (λ (o : Word). Turns s.location s.value F.rule o F.Y q) y F.turns),
      )

  -- rule 7
  pub fit_put : rule_of s.rule ≡ Some NewLoad → (s.location < l) × (s.value < v) × (s.place ≤ length w)
  fit_put h =
      let sp = subst (λ (o : Rule). Spare v l s o) (fit_rule h) F.spare in
      (sp.0, sp.1, omega (arith, fit_long))

  pub put_long : rule_of s.rule ≡ Some NewLoad → length w'' ≡ length w + 1
  put_long h =
      let t = put_turns (subst (λ (o : Rule). Turns s.location s.value o F.X F.Y q) (fit_rule h) F.turns) in
      omega (arith, fit_long, ap length F.to, length-append F.u (F.Y ++ F.t), length-append F.Y F.t)

-- A step gives one word of a word, and asks one question.
pub fits_one : {v l : ℕ} {s : Step} {w a b : Word} {q q' : Question} → Fits v l s w a q → Fits v l s w b q' → (a ≡ b) × (q ≡ q')
fits_one {s = s} {w} {a} {b} {q} {q'} F G =
    let h : F.X ++ F.t ≡ G.X ++ G.t = sym (fit_rest F) ∙ fit_rest G in
    let k : F.u ≡ G.u = sym (take_at F.u (F.X ++ F.t) s.place F.place) ∙ ap (take s.place) (sym F.from ∙ G.from) ∙ take_at G.u (G.X ++ G.t) s.place G.place in
    let T : Turns s.location s.value F.rule G.X G.Y q' = subst (λ (o : Rule). Turns s.location s.value o G.X G.Y q') (fit_rule G F.number) G.turns in
    let o = turns_one F.t G.t F.turns T h in
    (F.to ∙ ap₂ (λ (x y : Word). x ++ y) k o.0 ∙ sym G.to, o.1)

pub word_long : (W : Working) → length (word W) ≡ W.len
word_long W = length-take-le W.len W.events (omega (arith, W.room, W.ok))

pub word_short : (W : Working) → length (word W) ≤ 48
word_short W = omega (arith, W.ok, length-take W.len W.events)

-- an event of the word, as the code reads it
pub word_at : (W : Working) (i : ℕ) (d : Event) → i < W.len → get_or W.events i d ≡ get_or (word W) i d
word_at W i d h = sym (get_or-take W.len W.events i d h)

-- what fits the word at a step's place
module _ (v l : ℕ) (s : Step) (W : Working) where
  pub make_pair : {R : Rule} → rule_of s.rule ≡ Some R → (R ≡ NewLoad → ⊥) → s.location ≡ 0 → s.value ≡ 0 → s.place + 1 < W.len
      → (d d' : Event) {Y : Word} {q : Question} → Turns s.location s.value R (get_or W.events s.place d ∷ get_or W.events (s.place + 1) d' ∷ []) Y q
      → Fits v l s (word W) (take s.place (word W) ++ (Y ++ drop (s.place + 2) (word W))) q
  make_pair {R} r n lo va h d d' {Y} {q} t =
      let w : Word = word W in
      let long : length w ≡ W.len = word_long W in
      let two : drop s.place w ≡ get_or W.events s.place d ∷ get_or W.events (s.place + 1) d' ∷ drop (s.place + 2) w =
      drop_more w s.place d (omega arith)
      ∙ ap₂ (λ (x : Event) (y : Word). x ∷ y) (sym (word_at W s.place d (omega arith))) (drop_more w (s.place + 1) d' (omega arith) ∙ ap₂ (λ (x : Event) (y : Word). x ∷ y) (sym (word_at W (s.place + 1) d' h)) (ap (λ (i : ℕ). drop i w) (add_assoc s.place 1 1))) in
      record {
        rule = R;
        number = r;
        spare = (spare_pair v l s R n).1 (lo, va);
        u = take s.place w;
        X = get_or W.events s.place d ∷ get_or W.events (s.place + 1) d' ∷ [];
        Y = Y;
        t = drop (s.place + 2) w;
        place = length-take-le s.place w (omega arith);
        from = sym (take-append-drop s.place w) ∙ ap (λ (y : Word). take s.place w ++ y) two;
        to = refl;
        turns = t;
      }

  pub make_put : rule_of s.rule ≡ Some NewLoad → s.location < l → s.value < v → s.place ≤ W.len
      → Fits v l s (word W) (take s.place (word W) ++ ((load s.location s.value ∷ []) ++ drop s.place (word W))) Nothing
  make_put r lo va h =
      let w : Word = word W in
      let long : length w ≡ W.len = word_long W in
      record {
        rule = NewLoad;
        number = r;
        spare = (lo, va);
        u = take s.place w;
        X = [];
        Y = load s.location s.value ∷ [];
        t = drop s.place w;
        place = length-take-le s.place w (omega arith);
        from = sym (take-append-drop s.place w);
        to = refl;
        turns = new_load;
      }
