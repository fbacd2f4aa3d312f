-- What is written, and what is read back.
use Rattle.std.proofs.Common.{◌≡◌, ℕ, suc, ◌+◌, ◌-◌, ◌*◌, ◌/◌, ◌%◌, ◌^◌, ◌<◌, ◌≤◌, false, eqb, List, [], ◌∷◌, ◌++◌, length, get_or, drop, decimal, sym, refl, ap, ◌∙◌, append_assoc, arith, lit<}
use Rattle.std.proofs.lemmas.Bool.{ne_eqb}
use Rattle.std.proofs.lemmas.List.{drop_more, drop_all, length-append, length_push}
use Rattle.std.proofs.lemmas.Fmt.{decimal_by_steps, length-decimal-le}
use Rattle.lines.specs.Lines.{written, read_on, read_line, longest}

-- A byte that is neither a space nor a line feed is a digit.
read_digit : (n d : ℕ) (s : List ℕ) → read_on n ((48 + d) ∷ s) ≡ read_on (n * 10 + d) s
unfolding read_on
read_digit n d s =
    let a : eqb (48 + d) 32 ≡ false = ne_eqb (48 + d) 32 (λ e. omega arith) in
    let b : eqb (48 + d) 10 ≡ false = ne_eqb (48 + d) 10 (λ e. omega arith) in
    let e : (48 + d) - 48 ≡ d = omega arith in
    rw (a, b, e)

read_decimal : (n : ℕ) → n < 2 ^ 64 → (s : List ℕ) → read_on 0 (decimal n ++ s) ≡ read_on n s
read_decimal =
    decimal_by_steps (λ n ds. (s : List ℕ) → read_on 0 (ds ++ s) ≡ read_on n s)
    (λ n h s. read_digit 0 n s ∙ ap (λ k. read_on k s) (omega arith))
    (λ n ds h before s.
    ap (read_on 0) (append_assoc ds ((48 + n % 10) ∷ []) s)
    ∙ before ((48 + n % 10) ∷ s)
    ∙ read_digit (n / 10) (n % 10) s
    ∙ ap (λ k. read_on k s) (omega arith))

-- The bytes of a line from one of its numbers on, where the last one is y.
abbrev pub still : List ℕ → ℕ → ℕ → List ℕ
still ns y i = written (drop i ns ++ y ∷ [])

next : (n y : ℕ) (ns : List ℕ) → written (n ∷ ns ++ y ∷ []) ≡ decimal n ++ (32 ∷ written (ns ++ y ∷ []))
unfolding written
next n y [] = refl
next n y (m ∷ ns) = refl

module _ (ns : List ℕ) (y : ℕ) where
  still_more : (i : ℕ) → i < length ns → still ns y i ≡ decimal (get_or ns i 0) ++ (32 ∷ still ns y (i + 1))
  still_more i h = ap (λ (xs : List ℕ). written (xs ++ y ∷ [])) (drop_more ns i 0 h) ∙ next (get_or ns i 0) y (drop (i + 1) ns)

  still_last : (i : ℕ) → length ns ≤ i → still ns y i ≡ decimal y ++ (10 ∷ [])
  unfolding written
  still_last i h = ap (λ (xs : List ℕ). written (xs ++ y ∷ [])) (drop_all i ns h)

  module _ (text : List ℕ) (i : ℕ) (so_far : text ++ still ns y i ≡ still ns y 0) where
    pub room_more : i < length ns → length (still ns y 0) ≤ longest → length text + length (decimal (get_or ns i 0)) < longest
    room_more h fits =
        let first : List ℕ = decimal (get_or ns i 0) in
        omega (arith, ap length so_far, length-append text (still ns y i), ap length (still_more i h), length-append first (32 ∷ still ns y (i + 1)))

    pub one_more : (more : List ℕ) → i < length ns → more ≡ text ++ decimal (get_or ns i 0) ++ 32 ∷ [] → more ++ still ns y (i + 1) ≡ still ns y 0
    one_more more h e =
        let first : List ℕ = decimal (get_or ns i 0) in
        let later : List ℕ = still ns y (i + 1) in
        ap (λ xs. xs ++ later) e
        ∙ append_assoc (text ++ first) (32 ∷ []) later
        ∙ append_assoc text first (32 ∷ later)
        ∙ ap (λ xs. text ++ xs) (sym (still_more i h))
        ∙ so_far

    pub room_last : length ns ≤ i → length (still ns y 0) ≤ longest → length text + length (decimal y) < longest
    room_last h fits =
        omega (arith, ap length so_far, length-append text (still ns y i), ap length (still_last i h), length_push (decimal y) 10)

    pub all_written : (all : List ℕ) → length ns ≤ i → all ≡ text ++ decimal y ++ 10 ∷ [] → all ≡ still ns y 0
    all_written all h e = e ∙ append_assoc text (decimal y) (10 ∷ []) ∙ ap (λ xs. text ++ xs) (sym (still_last i h)) ∙ so_far

-- A line is read back as its numbers.
pub read_written : (ns : List ℕ) → ((i : ℕ) → get_or ns i 0 < 2 ^ 64) → read_line (written ns) ≡ ns
unfolding read_line read_on written
read_written [] h = refl
read_written (n ∷ []) h = read_decimal n (h 0) (10 ∷ [])
read_written (n ∷ m ∷ ns) h = read_decimal n (h 0) (32 ∷ written (m ∷ ns)) ∙ ap (λ ms. n ∷ ms) (read_written (m ∷ ns) (λ i. h (suc i)))

-- How long a line is.
long_last : (n : ℕ) → length (written (n ∷ [])) ≡ length (decimal n) + 1
unfolding written
long_last n = length_push (decimal n) 10

long_more : (n m : ℕ) (ns : List ℕ) → length (written (n ∷ m ∷ ns)) ≡ length (decimal n) + 1 + length (written (m ∷ ns))
unfolding written
long_more n m ns = grind (arith, length-append (decimal n) (32 ∷ written (m ∷ ns)))

-- Two digits and twenty, or three, five, five, one and five.
pub answer_fits : (n p : ℕ) → n < 100 → p < 2 ^ 64 → length (written (n ∷ p ∷ [])) ≤ longest
answer_fits n p a b =
    omega (arith, long_more n p [], long_last p, length-decimal-le 2 n (lit< tt) a (omega arith), length-decimal-le 20 p (lit< tt) (omega arith) b)

pub report_fits : (m a b f r : ℕ) → m < 256 → a < 65536 → b < 65536 → f < 2 → r < 65536 → length (written (m ∷ a ∷ b ∷ f ∷ r ∷ [])) ≤ longest
report_fits m a b f r hm ha hb hf hr =
    omega (
      arith,
      long_more m a (b ∷ f ∷ r ∷ []),
      long_more a b (f ∷ r ∷ []),
      long_more b f (r ∷ []),
      long_more f r [],
      long_last r,
      length-decimal-le 3 m (lit< tt) (omega arith) (omega arith),
      length-decimal-le 5 a (lit< tt) (omega arith) (omega arith),
      length-decimal-le 5 b (lit< tt) (omega arith) (omega arith),
      length-decimal-le 1 f (lit< tt) (omega arith) (omega arith),
      length-decimal-le 5 r (lit< tt) (omega arith) (omega arith),
    )
