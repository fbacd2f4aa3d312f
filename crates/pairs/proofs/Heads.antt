-- The version byte and the length of a file.
use Rattle.std.proofs.Common.{◌≡◌, ℕ, ◌+◌, ◌-◌, ◌*◌, ◌≤◌, eqb, ltb, List, length, get_or, Ok, refl, ltb-false, le-ltb, eq-eqb}
use Rattle.std.proofs.lemmas.Bool.{eqb-true}
use Rattle.trace.specs.declared.refusal.Cause.TheVariants.{Short, Version, Length}
use Rattle.snippet.proofs.Inverse.{pass, keep}
use Rattle.pairs.specs.File.{header_at}

pub record Header (bs : List ℕ) : Type 0 where
  pub long : 3 ≤ length bs
  pub version : get_or bs 0 0 ≡ 1
  pub size : get_or bs 1 0 * 256 + get_or bs 2 0 ≡ length bs - 3

pub header_ok : (bs : List ℕ) (x : Unit {0}) → header_at bs ≡ Ok x → Header bs
header_ok bs x e =
    let p = pass (ltb (length bs) 3) Short 0 _ x e in
    let q = keep (eqb (get_or bs 0 0) 1) Version 0 _ x p.1 in
    let r = keep (eqb (get_or bs 1 0 * 256 + get_or bs 2 0) (length bs - 3)) Length 1 _ x q.1 in
    record { long = ltb-false (length bs) 3 p.0; version = eqb-true _ _ q.0; size = eqb-true _ _ r.0 }

pub header_is : (bs : List ℕ) → Header bs → header_at bs ≡ Ok tt
header_is bs h = rw (le-ltb (length bs) 3 h.long, eq-eqb (get_or bs 0 0) 1 h.version, eq-eqb (get_or bs 1 0 * 256 + get_or bs 2 0) (length bs - 3) h.size) refl
