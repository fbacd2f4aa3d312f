-- Bytes are read as a pair exactly if they are its file.
use Rattle.std.proofs.Common.{◌≡◌, ℕ, ◌+◌, ◌<◌, ◌≤◌, true, eqb, ltb, List, ◌++◌, length, get_or, Ok, Err, Result, sym, refl, ap, ◌∙◌, subst, arith, length-append, ltb-false, ltb-true, le-ltb, lt-ltb, eq-eqb}
use Rattle.std.proofs.lemmas.Bool.{eqb-true}
use Rattle.trace.specs.declared.refusal.Refusal.{Refusal}
use Rattle.trace.specs.declared.refusal.Cause.TheVariants.{Head, Missing, TooManyRuns}
use Rattle.snippet.proofs.Holds.{Holds, front, back, join, moved, self, whole}
use Rattle.snippet.proofs.Inverse.{both, pass, keep, ok_inj, no_ok, sized_holds}
use Rattle.snippet.proofs.Bodies.{body_ok, body_is}
use Rattle.snippet.specs.Program.{Block}
use Rattle.snippet.specs.Keeps.{Sizes}
use Rattle.snippet.specs.Encode.{Bytes, sized, encode_b}
use Rattle.snippet.specs.Parse.{body_at}
use Rattle.snippet.specs.Reads.{Gives}
use Rattle.snippet.specs.Runs.{runs_of}
use Rattle.pairs.specs.Program.{Program}
use Rattle.pairs.specs.Encoded.{encode_rest, encode_pair, IsFile}
use Rattle.pairs.specs.Meant.{meant, OnlyFile, Judged}
use Rattle.pairs.specs.File.{header_at, limit_at, sizes_at, end_at, few_runs, pair_at}
use Rattle.pairs.proofs.Heads.{header_ok, header_is}
use Rattle.pairs.specs.declared.pair.Pair.{Pair}

limit_ok : (bs : List ℕ) (at low high x : ℕ) → limit_at bs at low high ≡ Ok x → (get_or bs at 0 ≡ x) × (at < length bs) × (low ≤ x) × (x ≤ high)
limit_ok bs at low high x e =
    let p = keep (ltb at (length bs)) Head at _ x e in
    let q = pass (ltb (get_or bs at 0) low) Head at _ x p.1 in
    let r = pass (ltb high (get_or bs at 0)) Head at _ x q.1 in
    let s = ok_inj _ _ r.1 in
    let l = ltb-false (get_or bs at 0) low q.0 in
    let h = ltb-false high (get_or bs at 0) r.0 in
    (s, ltb-true at (length bs) p.0, omega arith, omega arith)

limit_is : (bs : List ℕ) (at low high x : ℕ) → get_or bs at 0 ≡ x → at < length bs → low ≤ x → x ≤ high → limit_at bs at low high ≡ Ok x
limit_is bs at low high x e a l h = rw (lt-ltb at (length bs) a, e, le-ltb x low l, le-ltb high x h) refl

record Limited (bs : List ℕ) (m : Sizes) : Type 0 where
  pub v : get_or bs 3 0 ≡ m.values
  pub r : get_or bs 4 0 ≡ m.registers
  pub l : get_or bs 5 0 ≡ m.locations
  pub long : 6 ≤ length bs
  pub values : (2 ≤ m.values) × (m.values ≤ 4)
  pub registers : (1 ≤ m.registers) × (m.registers ≤ 4)
  pub locations : (1 ≤ m.locations) × (m.locations ≤ 8)

sizes_ok : (bs : List ℕ) (m : Sizes) → sizes_at bs ≡ Ok m → Limited bs m
sizes_ok bs m e =
    let p = both (limit_at bs 3 2 4) _ m e in
    let q = both (limit_at bs 4 1 4) _ m p.1.1 in
    let r = both (limit_at bs 5 1 8) _ m q.1.1 in
    let x = limit_ok bs 3 2 4 p.0 p.1.0 in
    let y = limit_ok bs 4 1 4 q.0 q.1.0 in
    let z = limit_ok bs 5 1 8 r.0 r.1.0 in
    subst (Limited bs) (ok_inj _ _ r.1.1)
    record { v = x.0; r = y.0; l = z.0; long = z.1; values = (x.2, x.3); registers = (y.2, y.3); locations = (z.2, z.3) }

sizes_is : (bs : List ℕ) (m : Sizes) → Limited bs m → sizes_at bs ≡ Ok m
sizes_is bs m h =
    let k = h.long in
    let p = limit_is bs 3 2 4 m.values h.v (omega arith) h.values.0 h.values.1 in
    let q = limit_is bs 4 1 4 m.registers h.r (omega arith) h.registers.0 h.registers.1 in
    let r = limit_is bs 5 1 8 m.locations h.l (omega arith) h.locations.0 h.locations.1 in
    rw (p, q, r) refl

runs_ok : (m : Sizes) (t : Block) (x : Unit {0}) → few_runs m t ≡ Ok x → runs_of m t ≤ 4096
runs_ok m t x e = ltb-false 4096 (runs_of m t) (pass (ltb 4096 (runs_of m t)) TooManyRuns 0 _ x e).0

runs_is : (m : Sizes) (t : Block) → runs_of m t ≤ 4096 → few_runs m t ≡ Ok tt
runs_is m t h = rw (le-ltb 4096 (runs_of m t) h) refl

sound : (bs : List ℕ) (P : Program) → Bytes bs → pair_at bs ≡ Ok P → IsFile bs P
sound bs P b e =
    let a = both (header_at bs) _ P e in
    let c = both (sizes_at bs) _ P a.1.1 in
    let d = both (body_at c.0 bs 6) _ P c.1.1 in
    let f = both (body_at c.0 bs d.0.1) _ P d.1.1 in
    let g = both (end_at bs f.0.1) _ P f.1.1 in
    let i = both (few_runs c.0 d.0.0) _ P g.1.1 in
    let j = both (few_runs c.0 f.0.0) _ P i.1.1 in
    let h = header_ok bs a.0 a.1.0 in
    let l = sizes_ok bs c.0 c.1.0 in
    let x = body_ok c.0 bs 6 d.0 b d.1.0 in
    let y = body_ok c.0 bs d.0.1 f.0 b f.1.0 in
    let n = eqb-true f.0.1 (length bs) (keep (eqb f.0.1 (length bs)) Missing f.0.1 _ g.0 g.1.0).0 in
    let one = sized (encode_b d.0.0) in
    let two = sized (encode_b f.0.0) in
    let la = length-append (encode_b d.0.0) two in
    let xe = x.ends in
    let ye = y.ends in
    let hs = h.size in
    let hl = h.long in
    let Q : Program = record { sizes = c.0; original = d.0.0; replacement = f.0.0 } in
    let k : Holds 0 bs 6 (one ++ two) = join 0 bs 6 one two x.holds (moved 0 bs d.0.1 (6 + length one) two (omega arith) y.holds) in
    let r : Holds 0 bs 3 (encode_rest Q) = (l.v, (l.r, (l.l, k))) in
    let w : Holds 0 bs 1 (sized (encode_rest Q)) = sized_holds bs 1 (encode_rest Q) b (omega arith) r in
    subst (IsFile bs) (ok_inj _ _ j.1.1)
    record {
      bytes = whole 0 bs (encode_pair Q) (h.version, w) (omega arith);
      values = l.values;
      registers = l.registers;
      locations = l.locations;
      original = record { few = x.few; proper = x.proper; runs = runs_ok c.0 d.0.0 i.0 i.1.0 };
      replacement = record { few = y.few; proper = y.proper; runs = runs_ok c.0 f.0.0 j.0 j.1.0 };
    }

complete : (bs : List ℕ) (P : Program) → IsFile bs P → pair_at bs ≡ Ok P
complete bs P e =
    let m = P.sizes in
    let t = P.original in
    let u = P.replacement in
    let one = sized (encode_b t) in
    let two = sized (encode_b u) in
    let la = length-append (encode_b t) two in
    let n = ap length e.bytes in
    let h : Holds 0 bs 0 (encode_pair P) = subst (λ (x : List ℕ). Holds 0 bs 0 x) e.bytes (self 0 bs) in
    let k : Holds 0 bs 6 (one ++ two) = h.1.1.1.1.1.1 in
    let middle = 6 + 2 + length (encode_b t) in
    let a = header_is bs (record { long = omega arith; version = h.0; size = omega (arith, h.1.0, h.1.1.0) }) in
    let c = sizes_is bs m (record { v = h.1.1.1.0; r = h.1.1.1.1.0; l = h.1.1.1.1.1.0; long = omega arith; values = e.values; registers = e.registers; locations = e.locations }) in
    let d = body_is m bs 6 t middle (record { holds = front 0 bs 6 one two k; ends = refl; within = omega arith; few = e.original.few; proper = e.original.proper }) in
    let f = body_is m bs middle u (length bs) (record { holds = moved 0 bs (6 + length one) middle two (omega arith) (back 0 bs 6 one two k); ends = omega arith; within = omega arith; few = e.replacement.few; proper = e.replacement.proper }) in
    rest m t u middle a c d f (eq-eqb (length bs) (length bs) refl) (runs_is m t e.original.runs) (runs_is m u e.replacement.runs)
  where
    rest : (m : Sizes) (t u : Block) (middle : ℕ) → header_at bs ≡ Ok tt → sizes_at bs ≡ Ok m → body_at m bs 6 ≡ Ok (t, middle) → body_at m bs middle ≡ Ok (u, length bs)
        → eqb (length bs) (length bs) ≡ true → few_runs m t ≡ Ok tt → few_runs m u ≡ Ok tt → pair_at bs ≡ Ok (record { sizes = m; original = t; replacement = u })
    rest m t u middle a c d f n x y = rw (a, c, d, f, n, x, y) refl

pub only_file : (P : Program) (bs : List ℕ) → Bytes bs → pair_at bs ≡ Ok P → OnlyFile bs P
only_file P bs b e = record { is = sound bs P b e; only = λ Q h. ok_inj Q P (sym (complete bs Q h) ∙ e) }

pub judged : (r : Result Pair Refusal) (bs : List ℕ) → Bytes bs → Gives r (pair_at bs) meant → Judged r bs
judged (Ok p) bs b e = only_file (meant p) bs b e
judged (Err x) bs b e = λ P h. no_ok x P (sym e ∙ complete bs P h)
