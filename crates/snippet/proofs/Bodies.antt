-- A body behind its length is read exactly if it is its encoding and keeps the limits.
use Rattle.std.proofs.Common.{◌≡◌, ℕ, suc, ◌+◌, ◌-◌, ◌*◌, ◌≤◌, true, List, length, get_or, Ok, refl, subst, arith}
use Rattle.snippet.proofs.Holds.{Holds, moved}
use Rattle.snippet.proofs.Inverse.{both, ok_inj, span_ok, span_is, sized_holds}
use Rattle.snippet.proofs.Sound.{sound_b}
use Rattle.snippet.proofs.Complete.{complete_b}
use Rattle.snippet.specs.Program.{Block, size_b}
use Rattle.snippet.specs.Keeps.{Sizes, keeps_b}
use Rattle.snippet.specs.Encode.{Bytes, sized, encode_b}
use Rattle.snippet.specs.Parse.{span_at, body_at}

pub record Placed (m : Sizes) (bs : List ℕ) (at : ℕ) (t : Block) (to : ℕ) : Type 0 where
  pub holds : Holds 0 bs at (sized (encode_b t))
  pub ends : to ≡ at + 2 + length (encode_b t)
  pub within : to ≤ length bs
  pub few : size_b t ≤ 32
  pub proper : keeps_b m 0 t ≡ true

module _ (m : Sizes) (bs : List ℕ) (at : ℕ) where
  pub body_ok : (q : Block × ℕ) → Bytes bs → body_at m bs at ≡ Ok q → Placed m bs at q.0 q.1
  body_ok q b e =
      let i = both (span_at bs at (length bs)) _ q e in
      let t = both _ _ q i.1.1 in
      let n = span_ok bs at (length bs) i.0 i.1.0 in
      let f = n.from in
      let g = n.to' in
      let s = sound_b m bs b (suc (i.0.end - i.0.start)) 0 0 i.0.start i.0.end t.0 (omega arith) (omega arith) (omega arith) t.1.0 in
      let d = s.ends in
      let l : length (encode_b t.0) ≡ get_or bs at 0 * 256 + get_or bs (at + 1) 0 = omega arith in
      subst (λ (q : Block × ℕ). Placed m bs at q.0 q.1) (ok_inj _ _ t.1.1)
      record {
        holds = sized_holds bs at (encode_b t.0) b l (moved 0 bs i.0.start (at + 2) (encode_b t.0) f s.holds);
        ends = omega arith;
        within = n.within;
        few = omega (arith, s.few);
        proper = s.proper;
      }

  pub body_is : (t : Block) (to : ℕ) → Placed m bs at t to → body_at m bs at ≡ Ok (t, to)
  body_is t to h =
      let n = length (encode_b t) in
      let e = h.ends in
      let w = h.within in
      let p = span_is bs at (length bs) n h.holds.0 h.holds.1.0 (omega arith) in
      let q = complete_b m bs t (suc (at + 2 + n - (at + 2))) 0 0 (at + 2) (at + 2 + n) (moved 0 bs (at + 1 + 1) (at + 2) (encode_b t) (omega arith) h.holds.1.1) refl (omega (arith, h.few)) h.proper (omega arith) in
      rw (p, q, e) refl
