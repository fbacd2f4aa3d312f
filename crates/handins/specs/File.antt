-- How bytes are read as a hand-in: the derivation, or why they are declined.
use Rattle.std.specs.Prelude.{ℕ, zero, suc, ◌+◌, ◌-◌, ◌*◌, ◌/◌, ◌%◌, Bool, cond, ◌&&◌, List, [], ◌∷◌, length, Ok, Result, ◌==◌, nat_le, slice_index}
use Rattle.trace.specs.declared.refusal.Refusal.{Refusal}
use Rattle.trace.specs.declared.refusal.Cause.TheVariants.{HandInLength}
use Rattle.snippet.specs.Parse.{and_then, declined}
use Rattle.pairs.specs.File.{header_at}
use Rattle.rewrite.specs.declared.working.Step.{Step}
use Rattle.handins.specs.Encoded.{Derivation}

abbrev pub step_at : List ℕ → ℕ → Step
step_at bs at = record { rule = slice_index bs at; place = slice_index bs (at + 1); location = slice_index bs (at + 2); value = slice_index bs (at + 3) }

-- So many steps from a place on.
abbrev pub steps_from : List ℕ → ℕ → ℕ → List Step
steps_from bs at zero = []
steps_from bs at (suc n) = step_at bs at ∷ steps_from bs (at + 4) n

-- 4 + 4s bytes, s from 0 to 64.
abbrev pub right_length : ℕ → Bool
right_length n = nat_le 4 n && (nat_le n 260 && n % 4 == 0)

abbrev pub derivation_at : List ℕ → Result Derivation Refusal
derivation_at bs =
    and_then (header_at bs) (λ _.
    cond (right_length (length bs - 3))
    (Ok (record {
      to = slice_index bs 3 * 256 + slice_index bs 4;
      from = slice_index bs 5 * 256 + slice_index bs 6;
      steps = steps_from bs 7 ((length bs - 3 - 4) / 4);
    }))
    (declined HandInLength 0))
