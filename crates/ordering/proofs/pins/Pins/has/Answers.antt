use Rattle.std.proofs.Common.{◌≡◌, ℕ, ◌/◌, ◌%◌, ◌^◌, ◌<◌, ◌≤◌, eqb, sym, ap, ◌∙◌, arith, pow_mono}
use native.Mathlib.Nat.{div-eq_of_lt}
use Rattle.std.proofs.lemmas.Nat.{and_mask}
use Rattle.std.proofs.lemmas.Bool.{lt-leb}
use Rattle.ordering.specs.Pinning.{pinned}
use Rattle.ordering.proofs.pins.Pins.has.Goals as goal

pub returns-then-location-le7 : goal.returns-then-location-le7
unfolding pinned
returns-then-location-le7 c = ap (λ (n : ℕ). eqb n 1) (and_mask (c.args.self.now.mask / 2 ^ c.args.location) 1)

-- the mask has eight bits
none_above : (mask L : ℕ) → mask < 2 ^ 8 → 7 < L → mask / 2 ^ L ≡ 0
none_above mask L m h = let p : 8 ≤ L = omega arith in let q : 2 ^ 8 ≤ 2 ^ L = pow_mono p in let lt : mask < 2 ^ L = omega arith in div-eq_of_lt lt

pub returns-else-location-le7 : goal.returns-else-location-le7
unfolding pinned
returns-else-location-le7 c =
    let L = c.args.location in
    let h : 7 < L = omega arith in
    lt-leb L 7 h ∙ sym (ap (λ (n : ℕ). eqb (n % 2) 1) (none_above c.args.self.now.mask L (omega arith) h))
