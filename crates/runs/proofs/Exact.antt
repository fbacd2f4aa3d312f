-- Behaviours are runs. A word shows the choices that were taken, so a behaviour's run takes those, and is 0 in the others.
use Rattle.std.proofs.Common.{◌≡◌, ℕ, zero, suc, ◌+◌, ◌-◌, ◌/◌, ◌^◌, ◌<◌, ◌≤◌, Bool, true, false, cond, eqb, List, [], ◌∷◌, ◌++◌, length, get_or, take, drop, set, replicate, sym, refl, ap, ◌∙◌, append_assoc, arith, length-append}
use Rattle.std.proofs.lemmas.List.{length-replicate, take_at, drop_at}
use Rattle.std.proofs.lemmas.Bool.{eq-eqb, ne_eqb, eqb-true, eqb-false, cond_both}
use Rattle.trace.specs.Words.{Word, Registers, Behaviour, behaviour}
use Rattle.trace.specs.Limits.{SmallValues}
use Rattle.trace.specs.declared.event.Event.TheVariants.{Load, Store, LoadStore, Fence, Get, Print}
use Rattle.snippet.specs.Program.{Block, Command, end, then, skip, load, store, constant, copy, sum, equal, compare_and_swap, fence, get, print, branch, declare, choices_b, choices_c}
use Rattle.snippet.specs.Keeps.{Sizes}
use Rattle.runs.specs.Behaviours.{behaves_b, behaves_c, StartRegisters, Behaves}
use Rattle.runs.specs.Runs.{digits, first, others, Run, ran, run_b, run_c, start_of, choices_of, run_of, nonzero, count, Active}
use Rattle.runs.specs.Exact.{Shows, BehavioursAreRuns}
use Rattle.runs.proofs.Digits.{number, digits_length, digits_small, number_digits, digits_number, number_below, digits_split, lower_digits, upper_digits}

-- The choices that a word shows.
abbrev chosen : Word → List ℕ
chosen [] = []
chosen (Load L x ∷ w) = x ∷ chosen w
chosen (Store L x ∷ w) = chosen w
chosen (LoadStore L x y ∷ w) = x ∷ chosen w
chosen (Fence ∷ w) = chosen w
chosen (Get x ∷ w) = x ∷ chosen w
chosen (Print x ∷ w) = chosen w

chosen-append : (w u : Word) → chosen (w ++ u) ≡ chosen w ++ chosen u
chosen-append [] u = refl
chosen-append (Load L x ∷ w) u = ap (λ c. x ∷ c) (chosen-append w u)
chosen-append (Store L x ∷ w) u = chosen-append w u
chosen-append (LoadStore L x y ∷ w) u = ap (λ c. x ∷ c) (chosen-append w u)
chosen-append (Fence ∷ w) u = chosen-append w u
chosen-append (Get x ∷ w) u = ap (λ c. x ∷ c) (chosen-append w u)
chosen-append (Print x ∷ w) u = chosen-append w u

-- ---- from a behaviour to a run

join_runs : (v : ℕ) (s : Command) (b : Block) (ch r : List ℕ) (w : Word) (m cs : List ℕ) (u : Run) → run_c v s ch r ≡ ran w m cs → run_b v b cs m ≡ u → run_b v (then s b) ch r ≡ ran (w ++ u.word) u.registers u.rest
join_runs v s b ch r w m cs u e f = rw e (rw f refl)

module _ (v : ℕ) where
  mutual
    follow_b : (b : Block) (r : Registers) (w : Word) (z : Registers) → behaves_b v b r w z → (tail : List ℕ) → run_b v b (chosen w ++ tail) r ≡ ran w z tail
    follow_b end r w z h tail = rw (h.0, h.1) refl
    follow_b (then s b) r w z h tail =
        let w₁ = h.1 in
        let w₂ = h.2 in
        let split : chosen w ++ tail ≡ chosen w₁ ++ (chosen w₂ ++ tail) =
        ap (λ (c : List ℕ). c ++ tail) (ap chosen h.5 ∙ chosen-append w₁ w₂) ∙ append_assoc (chosen w₁) (chosen w₂) tail in
        ap (λ (c : List ℕ). run_b v (then s b) c r) split
        ∙ join_runs v s b _ r w₁ h.0 (chosen w₂ ++ tail) (ran w₂ z tail)
        (follow_c s r w₁ h.0 h.3 (chosen w₂ ++ tail)) (follow_b b h.0 w₂ z h.4 tail)
        ∙ ap (λ (x : Word). ran x z tail) (sym h.5)

    follow_c : (s : Command) (r : Registers) (w : Word) (z : Registers) → behaves_c v s r w z → (tail : List ℕ) → run_c v s (chosen w ++ tail) r ≡ ran w z tail
    follow_c skip r w z h tail = rw (h.0, h.1) refl
    follow_c (load a L) r w z h tail = rw (h.2, h.3) refl
    follow_c (store L a) r w z h tail = rw (h.0, h.1) refl
    follow_c (constant a x) r w z h tail = rw (h.0, h.1) refl
    follow_c (copy a b) r w z h tail = rw (h.0, h.1) refl
    follow_c (sum a b c) r w z h tail = rw (h.0, h.1) refl
    follow_c (equal a b c) r w z h tail = rw (h.0, h.1) refl
    follow_c (compare_and_swap a L c d) r w z h tail = rw (h.2, h.3) refl
    follow_c fence r w z h tail = rw (h.0, h.1) refl
    follow_c (get a) r w z h tail = rw (h.2, h.3) refl
    follow_c (print a) r w z h tail = rw (h.0, h.1) refl
    follow_c (branch a t e) r w z h tail =
        let n = get_or r a 0 in
        let ch = chosen w ++ tail in
        cond_both (eqb n 0) (run_b v e ch r) (run_b v t ch r) (λ (o : Run). o ≡ ran w z tail)
        (λ q. follow_b e r w z (h.0 (eqb-true n 0 q)) tail)
        (λ q. follow_b t r w z (h.1 (eqb-false n 0 q)) tail)
    follow_c (declare a x b) r w z h tail = rw h.2 (rw (follow_b b (set r a x) w h.0 h.1 tail) refl)

-- ---- the choices that a behaviour shows are few and small

small-append : (v : ℕ) (xs ys : List ℕ) → SmallValues v xs → SmallValues v ys → SmallValues v (xs ++ ys)
small-append v [] ys h g = g
small-append v (x ∷ xs) ys h g = (h.0, small-append v xs ys h.1 g)

small_zeros : (v n : ℕ) → 0 < v → SmallValues v (replicate n 0)
small_zeros v zero h = tt
small_zeros v (suc n) h = (h, small_zeros v n h)

abbrev Fair : ℕ → ℕ → Word → Type 0
Fair v n w = (length (chosen w) ≤ n) × SmallValues v (chosen w)

fair_pick : (c : Bool) (n v m₁ m₂ : ℕ) (w : Word) → eqb n 0 ≡ c → (n ≡ 0 → Fair v m₁ w) → ((n ≡ 0 → ⊥) → Fair v m₂ w) → Fair v (m₂ + m₁) w
fair_pick true n v m₁ m₂ w e f h = let q = f (eqb-true n 0 e) in (omega (arith, q.0), q.1)
fair_pick false n v m₁ m₂ w e f h = let q = h (eqb-false n 0 e) in (omega (arith, q.0), q.1)

module _ (v : ℕ) where
  mutual
    fair_b : (b : Block) (r : Registers) (w : Word) (z : Registers) → behaves_b v b r w z → Fair v (choices_b b) w
    fair_b end r w z h = rw h.0 (omega arith, tt)
    fair_b (then s b) r w z h =
        let one = fair_c s r h.1 h.0 h.3 in
        let two = fair_b b h.0 h.2 z h.4 in
        rw (h.5, chosen-append h.1 h.2)
        (omega (arith, one.0, two.0, length-append (chosen h.1) (chosen h.2)), small-append v (chosen h.1) (chosen h.2) one.1 two.1)

    fair_c : (s : Command) (r : Registers) (w : Word) (z : Registers) → behaves_c v s r w z → Fair v (choices_c s) w
    fair_c skip r w z h = rw h.0 (omega arith, tt)
    fair_c (load a L) r w z h = rw h.2 (omega arith, (h.1, tt))
    fair_c (store L a) r w z h = rw h.0 (omega arith, tt)
    fair_c (constant a x) r w z h = rw h.0 (omega arith, tt)
    fair_c (copy a b) r w z h = rw h.0 (omega arith, tt)
    fair_c (sum a b c) r w z h = rw h.0 (omega arith, tt)
    fair_c (equal a b c) r w z h = rw h.0 (omega arith, tt)
    fair_c (compare_and_swap a L c d) r w z h = rw h.2 (omega arith, (h.1, tt))
    fair_c fence r w z h = rw h.0 (omega arith, tt)
    fair_c (get a) r w z h = rw h.2 (omega arith, (h.1, tt))
    fair_c (print a) r w z h = rw h.0 (omega arith, tt)
    fair_c (branch a t e) r w z h =
        fair_pick (eqb (get_or r a 0) 0) (get_or r a 0) v (choices_b e) (choices_b t) w refl (λ q. fair_b e r w z (h.0 q)) (λ q. fair_b t r w z (h.1 q))
    fair_c (declare a x b) r w z h = fair_b b (set r a x) w h.0 h.1

-- ---- what a run leaves of its choices

abbrev Left : ℕ → ℕ → List ℕ → Run → Type 0
Left v n ch o = (length ch ≤ n + length o.rest) × (SmallValues v ch → SmallValues v o.rest) × (n ≤ length ch → ch ≡ chosen o.word ++ o.rest)

left_one : (v : ℕ) (ch : List ℕ) → (length ch ≤ 1 + length (others ch)) × (SmallValues v ch → SmallValues v (others ch)) × (1 ≤ length ch → ch ≡ first ch ∷ others ch)
left_one v [] = (omega arith, λ h. h, λ l. absurd (never l))
  where
    never : 1 ≤ 0 → ⊥
    never l = omega arith
left_one v (x ∷ xs) = (omega arith, λ h. h.1, λ l. refl)

none : (v : ℕ) (ch : List ℕ) → (length ch ≤ 0 + length ch) × (SmallValues v ch → SmallValues v ch) × (0 ≤ length ch → ch ≡ ch)
none v ch = (omega arith, λ h. h, λ l. refl)

module _ (v : ℕ) where
  mutual
    left_b : (b : Block) (ch : List ℕ) (r : Registers) → Left v (choices_b b) ch (run_b v b ch r)
    left_b end ch r = none v ch
    left_b (then s b) ch r =
        let o = run_c v s ch r in
        let u = run_b v b o.rest o.registers in
        let one = left_c s ch r in
        let two = left_b b o.rest o.registers in (
          omega (arith, one.0, two.0),
          λ h. two.1 (one.1 h),
          λ l. one.2 (omega arith) ∙ ap (λ (c : List ℕ). chosen o.word ++ c) (two.2 (omega (arith, one.0)))
              ∙ sym (ap (λ (c : List ℕ). c ++ u.rest) (chosen-append o.word u.word) ∙ append_assoc (chosen o.word) (chosen u.word) u.rest),
        )

    left_c : (s : Command) (ch : List ℕ) (r : Registers) → Left v (choices_c s) ch (run_c v s ch r)
    left_c skip ch r = none v ch
    left_c (load a L) ch r = left_one v ch
    left_c (store L a) ch r = none v ch
    left_c (constant a x) ch r = none v ch
    left_c (copy a b) ch r = none v ch
    left_c (sum a b c) ch r = none v ch
    left_c (equal a b c) ch r = none v ch
    left_c (compare_and_swap a L c d) ch r = left_one v ch
    left_c fence ch r = none v ch
    left_c (get a) ch r = left_one v ch
    left_c (print a) ch r = none v ch
    left_c (branch a t e) ch r =
        let one = left_b e ch r in
        let two = left_b t ch r in
        cond_both (eqb (get_or r a 0) 0) (run_b v e ch r) (run_b v t ch r) (Left v (choices_c (branch a t e)) ch)
        (λ q. (omega (arith, one.0), one.1, λ l. one.2 (omega arith)))
        (λ q. (omega (arith, two.0), two.1, λ l. two.2 (omega arith)))
    left_c (declare a x b) ch r = left_b b ch (set r a x)

-- ---- from a run to a behaviour

module _ (v : ℕ) (pos : 0 < v) where
  first_small : (ch : List ℕ) → SmallValues v ch → first ch < v
  first_small [] h = pos
  first_small (x ∷ xs) h = h.0

  mutual
    back_b : (b : Block) (ch : List ℕ) (r : Registers) → SmallValues v ch → behaves_b v b r (run_b v b ch r).word (run_b v b ch r).registers
    back_b end ch r h = (refl, refl)
    back_b (then s b) ch r h =
        let o = run_c v s ch r in
        (o.registers, o.word, (run_b v b o.rest o.registers).word, back_c s ch r h, back_b b o.rest o.registers ((left_c v s ch r).1 h), refl)

    back_c : (s : Command) (ch : List ℕ) (r : Registers) → SmallValues v ch → behaves_c v s r (run_c v s ch r).word (run_c v s ch r).registers
    back_c skip ch r h = (refl, refl)
    back_c (load a L) ch r h = (first ch, first_small ch h, refl, refl)
    back_c (store L a) ch r h = (refl, refl)
    back_c (constant a x) ch r h = (refl, refl)
    back_c (copy a b) ch r h = (refl, refl)
    back_c (sum a b c) ch r h = (refl, refl)
    back_c (equal a b c) ch r h = (refl, refl)
    back_c (compare_and_swap a L c d) ch r h = (first ch, first_small ch h, refl, refl)
    back_c fence ch r h = (refl, refl)
    back_c (get a) ch r h = (first ch, first_small ch h, refl, refl)
    back_c (print a) ch r h = (refl, refl)
    back_c (branch a t e) ch r h =
        let one = back_b e ch r h in
        let two = back_b t ch r h in
        (λ q. rw (eq-eqb (get_or r a 0) 0 q) one, λ q. rw (ne_eqb (get_or r a 0) 0 q) two)
    back_c (declare a x b) ch r h = ((run_b v b ch (set r a x)).registers, back_b b ch (set r a x) h, refl)

-- ---- zeros

zeros_idle : (n : ℕ) → nonzero (replicate n 0) ≡ false
zeros_idle zero = refl
zeros_idle (suc n) = zeros_idle n

all_zeros : (xs : List ℕ) → nonzero xs ≡ false → xs ≡ replicate (length xs) 0
all_zeros [] h = refl
all_zeros (x ∷ xs) h = by (eqb x 0) refl h (all_zeros xs)
  where
    by : (c : Bool) → eqb x 0 ≡ c → cond c (nonzero xs) true ≡ false → (nonzero xs ≡ false → xs ≡ replicate (length xs) 0) → x ∷ xs ≡ 0 ∷ replicate (length xs) 0
    by true e h rest = rw (eqb-true x 0 e) (ap (λ (ys : List ℕ). 0 ∷ ys) (rest h))
    by false e h rest = cc

-- ---- the theorem

module _ (m : Sizes) (b : Block) (two : 2 ≤ m.values) where
  -- A run's number by its start registers and choices.
  by_digits : (k : ℕ) → k < count m b → k ≡ number m.values (start_of m k ++ choices_of m b k)
  unfolding count start_of choices_of
  by_digits k l =
      sym (number_digits m.values (m.registers + choices_b b) k (omega arith) l)
      ∙ ap (number m.values) (digits_split m.values m.registers (choices_b b) k)

  -- The number of start registers s and choices ch.
  module _ (s ch : List ℕ) (start : StartRegisters m s) (many : length ch ≡ choices_b b) (small : SmallValues m.values ch) where
    abbrev the_number : ℕ
    the_number = number m.values (s ++ ch)

    long : length (s ++ ch) ≡ m.registers + choices_b b
    long = length-append s ch ∙ omega (arith, start.many)

    both : SmallValues m.values (s ++ ch)
    both = small-append m.values s ch start.small small

    the_run : the_number < count m b
    unfolding count
    the_run = rw (← long) (number_below m.values (s ++ ch) both)

    the_digits : digits m.values (m.registers + choices_b b) the_number ≡ s ++ ch
    the_digits = ap (λ (n : ℕ). digits m.values n the_number) (sym long) ∙ digits_number m.values (s ++ ch) both

    the_start : start_of m the_number ≡ s
    unfolding start_of
    the_start =
        sym (lower_digits m.values m.registers (choices_b b) the_number)
        ∙ ap (take m.registers) the_digits
        ∙ take_at s ch m.registers start.many

    the_choices : choices_of m b the_number ≡ ch
    unfolding choices_of
    the_choices =
        sym (upper_digits m.values m.registers (choices_b b) the_number)
        ∙ ap (drop m.registers) the_digits
        ∙ drop_at s ch m.registers start.many

  abbrev padded : Word → List ℕ
  padded w = chosen w ++ replicate (choices_b b - length (chosen w)) 0

  pub choices-length : (k : ℕ) → length (choices_of m b k) ≡ choices_b b
  unfolding choices_of
  choices-length k = digits_length m.values (choices_b b) (k / m.values ^ m.registers)

  -- A run's word shows the choices that it takes, and the others are left.
  split_choices : (k : ℕ) → choices_of m b k ≡ chosen (run_of m b k).word ++ (run_of m b k).rest
  unfolding run_of
  split_choices k = (left_b m.values b (choices_of m b k) (start_of m k)).2 (omega (arith, choices-length k))

  rest-length : (k : ℕ) → length (chosen (run_of m b k).word) + length (run_of m b k).rest ≡ choices_b b
  rest-length k =
      sym (length-append (chosen (run_of m b k).word) (run_of m b k).rest) ∙ ap length (sym (split_choices k)) ∙ choices-length k

  pub rest_few : (k : ℕ) → length (run_of m b k).rest ≤ choices_b b
  rest_few k = let h = rest-length k in omega arith

  -- Those left by a run that is not idle are zeros.
  padded_choices : (k : ℕ) → Active m b k → choices_of m b k ≡ padded (run_of m b k).word
  padded_choices k a =
      let shown = chosen (run_of m b k).word in
      let n : length (run_of m b k).rest ≡ choices_b b - length shown = let h = rest-length k in omega arith in
      split_choices k ∙ ap (λ (x : List ℕ). shown ++ x) (all_zeros (run_of m b k).rest a.1 ∙ ap (λ (i : ℕ). replicate i 0) n)

  module _ (β : Behaviour) (h : Behaves m b β) where
    fair : Fair m.values (choices_b b) β.word
    fair = fair_b m.values b β.start β.word β.end h.goes

    many_choices : length (padded β.word) ≡ choices_b b
    many_choices =
        let n = choices_b b - length (chosen β.word) in
        omega (arith, length-append (chosen β.word) (replicate n 0), length-replicate {A = ℕ} n 0, fair.0)

    small_choices : SmallValues m.values (padded β.word)
    small_choices =
        let n = choices_b b - length (chosen β.word) in
        small-append m.values (chosen β.word) (replicate n 0) fair.1 (small_zeros m.values n (omega arith))

    abbrev shower : ℕ
    shower = number m.values (β.start ++ padded β.word)

    shower_start : start_of m shower ≡ β.start
    shower_start = the_start β.start (padded β.word) h.starts many_choices small_choices

    shower_runs : run_of m b shower ≡ ran β.word β.end (replicate (choices_b b - length (chosen β.word)) 0)
    unfolding run_of
    shower_runs =
        rw (shower_start, the_choices β.start (padded β.word) h.starts many_choices small_choices)
        (follow_b m.values b β.start β.word β.end h.goes (replicate (choices_b b - length (chosen β.word)) 0))

    shower_active : Active m b shower
    shower_active = (
      the_run β.start (padded β.word) h.starts many_choices small_choices,
      ap (λ (o : Run). nonzero o.rest) shower_runs ∙ zeros_idle (choices_b b - length (chosen β.word)),
    )

    shower_shows : Shows m b shower β
    shower_shows = record { start = shower_start; end = ap (λ (o : Run). o.registers) shower_runs; word = ap (λ (o : Run). o.word) shower_runs }

    only : (k : ℕ) → Active m b k → Shows m b k β → k ≡ shower
    only k a s =
        by_digits k a.0
        ∙ ap (λ (x : List ℕ). number m.values (x ++ choices_of m b k)) s.start
        ∙ ap (λ (x : List ℕ). number m.values (β.start ++ x)) (padded_choices k a ∙ ap padded s.word)

  behave : (k : ℕ) → Active m b k → Behaves m b (behaviour (start_of m k) (run_of m b k).registers (run_of m b k).word)
  unfolding start_of choices_of run_of
  behave k a =
      record {
        starts = record { many = digits_length m.values m.registers k; small = digits_small m.values m.registers k (omega arith) };
        goes = back_b m.values (omega arith) b (choices_of m b k) (start_of m k) (digits_small m.values (choices_b b) (k / m.values ^ m.registers) (omega arith));
      }

  pub behaviours_are_runs : BehavioursAreRuns m b
  behaviours_are_runs =
      record { covered = λ β h. (shower β h, shower_active β h, shower_shows β h, only β h); behave = behave }
