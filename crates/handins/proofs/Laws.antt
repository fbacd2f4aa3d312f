-- Bytes are read as a hand-in exactly if they are its file.
use Rattle.std.proofs.Common.{◌≡◌, ℕ, zero, suc, ◌+◌, ◌-◌, ◌*◌, ◌/◌, ◌%◌, true, leb, List, [], ◌∷◌, ◌++◌, length, get_or, Ok, Err, Result, sym, refl, ap, ◌∙◌, subst, add-one, arith}
use Rattle.std.proofs.lemmas.Bool.{and_parts, and_from, leb-true, le-leb, eqb-true, eq-eqb}
use Rattle.trace.specs.declared.refusal.Refusal.{Refusal}
use Rattle.trace.specs.declared.refusal.Cause.TheVariants.{HandInLength}
use Rattle.rewrite.specs.declared.working.Step.{Step}
use Rattle.snippet.specs.Encode.{Bytes}
use Rattle.snippet.specs.Reads.{Gives}
use Rattle.snippet.proofs.Holds.{Holds, moved, self, whole}
use Rattle.snippet.proofs.Inverse.{both, keep, ok_inj, no_ok, there, sized_holds}
use Rattle.pairs.specs.File.{header_at}
use Rattle.pairs.proofs.Heads.{header_ok, header_is}
use Rattle.handins.specs.declared.hand_in.HandIn.{HandIn}
use Rattle.handins.specs.Encoded.{Derivation, encode_steps, encode_rest, encode_hand_in, IsHandIn}
use Rattle.handins.specs.File.{step_at, steps_from, right_length, derivation_at}
use Rattle.handins.specs.Meant.{meant, OnlyHandIn, Judged}

long_steps : (ss : List Step) → length (encode_steps ss) ≡ 4 * length ss
long_steps [] = refl
long_steps (s ∷ ss) = let h = long_steps ss in omega arith

many_steps : (bs : List ℕ) (at n : ℕ) → length (steps_from bs at n) ≡ n
many_steps bs at zero = refl
many_steps bs at (suc n) = ap suc (many_steps bs (at + 4) n)

-- one step more at the end
pub steps_more : (bs : List ℕ) (at n : ℕ) → steps_from bs at (n + 1) ≡ steps_from bs at n ++ step_at bs (at + 4 * n) ∷ []
steps_more bs at n = rw (add-one n) (go at n)
  where
    go : (at n : ℕ) → steps_from bs at (suc n) ≡ steps_from bs at n ++ step_at bs (at + 4 * n) ∷ []
    go at zero = ap (λ (k : ℕ). step_at bs k ∷ []) {x = at} {y = at + 4 * 0} (omega arith)
    go at (suc n) =
        ap (λ (x : List Step). step_at bs at ∷ x)
        (go (at + 4) n ∙ ap (λ (k : ℕ). steps_from bs (at + 4) n ++ step_at bs k ∷ []) {x = at + 4 + 4 * n} {y = at + 4 * suc n} (omega arith))

steps_there : (bs : List ℕ) (at n : ℕ) → Holds 0 bs at (encode_steps (steps_from bs at n))
steps_there bs at zero = tt
steps_there bs at (suc n) = (
  refl,
  (
    refl,
    (
      there bs (at + 2) (at + 1 + 1) _ (omega arith) refl,
      (
        there bs (at + 3) (at + 1 + 1 + 1) _ (omega arith) refl,
        moved 0 bs (at + 4) (at + 1 + 1 + 1 + 1) (encode_steps (steps_from bs (at + 4) n)) (omega arith) (steps_there bs (at + 4) n),
      ),
    ),
  ),
)

steps_back : (bs : List ℕ) (at : ℕ) (ss : List Step) → Holds 0 bs at (encode_steps ss) → steps_from bs at (length ss) ≡ ss
steps_back bs at [] h = refl
steps_back bs at (s ∷ ss) h =
    let third = there bs (at + 1 + 1) (at + 2) s.location (omega arith) h.1.1.0 in
    let fourth = there bs (at + 1 + 1 + 1) (at + 3) s.value (omega arith) h.1.1.1.0 in
    let rest = steps_back bs (at + 4) ss (moved 0 bs (at + 1 + 1 + 1 + 1) (at + 4) (encode_steps ss) (omega arith) h.1.1.1.1) in
    rw (h.0, h.1.0, third, fourth, rest) refl

pub sound : (bs : List ℕ) (d : Derivation) → Bytes bs → derivation_at bs ≡ Ok d → IsHandIn bs d
sound bs d b e =
    let a = both (header_at bs) _ d e in
    let h = header_ok bs a.0 a.1.0 in
    let c = keep (right_length (length bs - 3)) HandInLength 0 _ d a.1.1 in
    let n = length bs - 3 in
    let p = and_parts (leb 4 n) _ c.0 in
    let q = and_parts (leb n 260) _ p.1 in
    let low = leb-true 4 n p.0 in
    let high = leb-true n 260 q.0 in
    let even = eqb-true (n % 4) 0 q.1 in
    let count = (n - 4) / 4 in
    let steps = steps_from bs 7 count in
    let many = many_steps bs 7 count in
    let long = long_steps steps in
    let D : Derivation = record { to = get_or bs 3 0 * 256 + get_or bs 4 0; from = get_or bs 5 0 * 256 + get_or bs 6 0; steps = steps } in
    let b4 = b 4 in
    let b6 = b 6 in
    let size = h.size in
    let full = h.long in
    let rest : Holds 0 bs 3 (encode_rest D) = (omega arith, (omega arith, (omega arith, (omega arith, steps_there bs 7 count)))) in
    subst (IsHandIn bs) (ok_inj _ _ c.1)
    record {
      bytes = whole 0 bs (encode_hand_in D) (h.version, sized_holds bs 1 (encode_rest D) b (omega arith) rest) (omega arith);
      few = omega arith;
    }

pub complete : (bs : List ℕ) (d : Derivation) → IsHandIn bs d → derivation_at bs ≡ Ok d
complete bs d i =
    let h : Holds 0 bs 0 (encode_hand_in d) = subst (λ (x : List ℕ). Holds 0 bs 0 x) i.bytes (self 0 bs) in
    let long = long_steps d.steps in
    let few = i.few in
    let n : length bs ≡ 7 + 4 * length d.steps = omega (arith, ap length i.bytes) in
    let header = header_is bs (record { long = omega arith; version = h.0; size = omega (arith, h.1.0, h.1.1.0) }) in
    let right : right_length (length bs - 3) ≡ true = and_from _ _ (le-leb 4 (length bs - 3) (omega arith)) (and_from _ _ (le-leb (length bs - 3) 260 (omega arith)) (eq-eqb ((length bs - 3) % 4) 0 (omega arith))) in
    let count : (length bs - 3 - 4) / 4 ≡ length d.steps = omega arith in
    let r = h.1.1.1 in
    let to : get_or bs 3 0 * 256 + get_or bs 4 0 ≡ d.to = omega (arith, r.0, r.1.0) in
    let from : get_or bs 5 0 * 256 + get_or bs 6 0 ≡ d.from = omega (arith, r.1.1.0, r.1.1.1.0) in
    rw (header, right, count, to, from, steps_back bs 7 d.steps r.1.1.1.1) refl

pub only_hand_in : (d : Derivation) (bs : List ℕ) → Bytes bs → derivation_at bs ≡ Ok d → OnlyHandIn bs d
only_hand_in d bs b e = record { is = sound bs d b e; only = λ c i. ok_inj c d (sym (complete bs c i) ∙ e) }

pub judged : (r : Result HandIn Refusal) (bs : List ℕ) → Bytes bs → Gives r (derivation_at bs) meant → Judged r bs
judged (Ok h) bs b e = only_hand_in (meant h) bs b e
judged (Err x) bs b e = λ d i. no_ok x d (sym e ∙ complete bs d i)
