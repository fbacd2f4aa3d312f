-- What the C function leaves.
use Rattle.std.specs.Prelude.{◌≡◌, ℕ, Bool, true, false, cond, List, ◌++◌, length, drop, nat_le}
use Rattle.stream.specs.Printed.{Printed}

-- The lines stand at the beginning, with what was there behind them; where there is no room for all of
-- them, nothing has changed.
abbrev pub Filled : List ℕ → List ℕ → List ℕ → Type 0
Filled lines before after = after ≡ cond (nat_le (length lines) (length before)) (lines ++ drop (length lines) before) before

-- Yes: the lines are those for the stream, and their length is told. No, for want of memory: nothing has
-- changed.
abbrev pub Written : Bool → List ℕ → List ℕ → List ℕ → ℕ → ℕ → Type 0
Written true stream before after told tells =
    (lines : List ℕ) × (Printed stream lines) × (Filled lines before after) × (tells ≡ length lines)
Written false stream before after told tells = (after ≡ before) × (tells ≡ told)
