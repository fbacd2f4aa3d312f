-- What an accepting reading says of its parts, and the other way round.
use Rattle.std.proofs.Common.{◌≡◌, ℕ, ◌+◌, ◌-◌, ◌*◌, ◌/◌, ◌%◌, ◌<◌, ◌≤◌, Bool, true, false, cond, eqb, ltb, ◌⊎◌, List, length, get_or, Ok, Err, Result, sym, refl, ap, ◌∙◌, subst, inl, inr, arith, ltb-false, ltb-true, le-ltb, lt-ltb}
use Rattle.std.proofs.lemmas.Bool.{eqb-true}
use Rattle.snippet.proofs.Holds.{Holds}
use Rattle.snippet.specs.Encode.{Bytes, sized}
use Rattle.snippet.specs.Parse.{declined, and_then, operand_at, span_at, inner_at}
use Rattle.trace.specs.declared.refusal.Refusal.{Refusal}
use Rattle.std.specs.declared.ops.Range.{Range}
use Rattle.trace.specs.declared.refusal.Cause.{Cause}
use Rattle.trace.specs.declared.refusal.Cause.TheVariants.{Missing, Unknown, TooMuch}

pub no_ok : {A : Type 0} (e : Refusal) (z : A) → ◌≡◌ {A = Result A Refusal} (Err e) (Ok z) → ⊥
no_ok e z q = let n : ◌≡◌ {A = ℕ} 0 1 = cc in omega arith

pub ok_inj : {A : Type 0} (x y : A) → ◌≡◌ {A = Result A Refusal} (Ok x) (Ok y) → x ≡ y
ok_inj x y q = cc

pub both : {A B : Type 0} (p : Result A Refusal) (k : A → Result B Refusal) (z : B) → and_then p k ≡ Ok z → (a : A) × ((p ≡ Ok a) × (k a ≡ Ok z))
both (Ok a) k z e = (a, (refl, e))
both (Err f) k z e = absurd (no_ok f z e)

pub pass : {A : Type 0} (c : Bool) (n : Cause) (p : ℕ) (y : Result A Refusal) (z : A) → cond c (declined n p) y ≡ Ok z → (c ≡ false) × (y ≡ Ok z)
pass true n p y z e = absurd (no_ok _ z e)
pass false n p y z e = (refl, e)

pub keep : {A : Type 0} (c : Bool) (n : Cause) (p : ℕ) (x : Result A Refusal) (z : A) → cond c x (declined n p) ≡ Ok z → (c ≡ true) × (x ≡ Ok z)
keep true n p x z e = (refl, e)
keep false n p x z e = absurd (no_ok _ z e)

pub pick : {A : Type 0} (n k : ℕ) (x y : Result A Refusal) (z : A) → cond (eqb n k) x y ≡ Ok z → ((n ≡ k) × (x ≡ Ok z)) ⊎ (y ≡ Ok z)
pick {A} n k x y z e = by (eqb n k) refl e
  where
    by : (c : Bool) → eqb n k ≡ c → cond c x y ≡ Ok z → ((n ≡ k) × (x ≡ Ok z)) ⊎ (y ≡ Ok z)
    by true q e = inl (eqb-true n k q, e)
    by false q e = inr e

pub operand_ok : (bs : List ℕ) (at to limit a : ℕ) → operand_at bs at to limit ≡ Ok a → (get_or bs at 0 ≡ a) × (at < to) × (ltb a limit ≡ true)
operand_ok bs at to limit a e =
    let p = keep (ltb at to) Missing at _ a e in
    let q = keep (ltb (get_or bs at 0) limit) Unknown at _ a p.1 in
    let r = ok_inj _ _ q.1 in
    (r, ltb-true at to p.0, ap (λ (x : ℕ). ltb x limit) (sym r) ∙ q.0)

pub operand_is : (bs : List ℕ) (at to limit a : ℕ) → get_or bs at 0 ≡ a → at < to → ltb a limit ≡ true → operand_at bs at to limit ≡ Ok a
operand_is bs at to limit a e h k = rw (lt-ltb at to h, e, k) refl

pub record Spanned (bs : List ℕ) (at to : ℕ) (i : Range ℕ) : Type 0 where
  pub from : i.start ≡ at + 2
  pub to' : i.end ≡ at + 2 + (get_or bs at 0 * 256 + get_or bs (at + 1) 0)
  pub within : i.end ≤ to
  pub room : at + 2 ≤ to

pub span_ok : (bs : List ℕ) (at to : ℕ) (i : Range ℕ) → span_at bs at to ≡ Ok i → Spanned bs at to i
span_ok bs at to i e =
    let n = get_or bs at 0 * 256 + get_or bs (at + 1) 0 in
    let p = pass (ltb (to - at) 2) Missing at _ i e in
    let q = pass (ltb (to - (at + 2)) n) Missing at _ i p.1 in
    let s = ok_inj _ _ q.1 in
    let f : i.start ≡ at + 2 = ap (λ (x : Range ℕ). x.start) (sym s) in
    let t : i.end ≡ at + 2 + n = ap (λ (x : Range ℕ). x.end) (sym s) in
    let one = ltb-false (to - at) 2 p.0 in
    let two = ltb-false (to - (at + 2)) n q.0 in
    record { from = f; to' = t; within = omega arith; room = omega arith }

pub span_is : (bs : List ℕ) (at to n : ℕ) → get_or bs at 0 ≡ n / 256 → get_or bs (at + 1) 0 ≡ n % 256 → at + 2 + n ≤ to
    → span_at bs at to ≡ Ok (record { start = at + 2; end = at + 2 + n })
span_is bs at to n e k h =
    let s : get_or bs at 0 * 256 + get_or bs (at + 1) 0 ≡ n = omega arith in
    let x : 2 ≤ to - at = omega arith in
    let y : n ≤ to - (at + 2) = omega arith in
    rw (s, le-ltb (to - at) 2 x, le-ltb (to - (at + 2)) n y) refl

pub inner_ok : (bs : List ℕ) (depth at to : ℕ) (i : Range ℕ) → inner_at bs depth at to ≡ Ok i → Spanned bs at to i × (ltb depth 8 ≡ true)
inner_ok bs depth at to i e =
    let p = both (span_at bs at to) _ i e in
    let q = keep (ltb depth 8) TooMuch at _ i p.1.1 in
    (subst (Spanned bs at to) (ok_inj _ _ q.1) (span_ok bs at to p.0 p.1.0), q.0)

pub inner_is : (bs : List ℕ) (depth at to n : ℕ) → get_or bs at 0 ≡ n / 256 → get_or bs (at + 1) 0 ≡ n % 256 → at + 2 + n ≤ to → ltb depth 8 ≡ true
    → inner_at bs depth at to ≡ Ok (record { start = at + 2; end = at + 2 + n })
inner_is bs depth at to n e k h d = rw (span_is bs at to n e k h, d) refl

pub there : (bs : List ℕ) (i j x : ℕ) → i ≡ j → get_or bs i 0 ≡ x → get_or bs j 0 ≡ x
there bs i j x e h = ap (λ (k : ℕ). get_or bs k 0) (sym e) ∙ h

-- A length and the bytes behind it.
pub sized_holds : (bs : List ℕ) (at : ℕ) (xs : List ℕ) → Bytes bs → length xs ≡ get_or bs at 0 * 256 + get_or bs (at + 1) 0 → Holds 0 bs (at + 2) xs → Holds 0 bs at (sized xs)
sized_holds bs at xs b e h =
    let u = b at in
    let v = b (at + 1) in
    let p : get_or bs at 0 ≡ length xs / 256 = omega arith in
    let q : get_or bs (at + 1) 0 ≡ length xs % 256 = omega arith in
    let w : Holds 0 bs (at + 1 + 1) xs = subst (λ (k : ℕ). Holds 0 bs k xs) (omega arith) h in
    (p, (q, w))
