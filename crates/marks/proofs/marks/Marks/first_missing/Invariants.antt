use Rattle.std.proofs.Common.{◌≡◌, ℕ, ◌*◌, ◌<◌, drop, false}
use Rattle.marks.specs.Marks.{missing}
use Rattle.marks.proofs.marks.Marks.first_missing.Given as goal

-- the words that are still to come, and no run below them
abbrev pub invariant-loop-i : goal.invariant-loop-i
invariant-loop-i l = record {
  here : l.i-iterator.iter.a.rest.now ≡ drop l.i-iterator.count l.self.words;
  there : l.i-iterator.iter.b.rest.now ≡ drop l.i-iterator.count l.there.words;
  none : (k : ℕ) → k < l.i-iterator.count * 64 → missing l.self l.there k ≡ false;
}
