-- How bytes are read as a pair file: the pair, or why and where they are declined.
use Rattle.std.specs.Prelude.{ℕ, ◌+◌, ◌-◌, ◌*◌, ◌≤◌, cond, List, length, Ok, Err, Result, ◌==◌, nat_lt, slice_index}
use Rattle.trace.specs.declared.refusal.Refusal.{Refusal}
use Rattle.trace.specs.declared.refusal.Cause.TheVariants.{Short, Version, Length, Head, Missing, TooManyRuns}
use Rattle.snippet.specs.Program.{Block}
use Rattle.snippet.specs.Keeps.{Sizes}
use Rattle.snippet.specs.Parse.{and_then, declined, body_at}
use Rattle.snippet.specs.Runs.{runs_of}
use Rattle.pairs.specs.Program.{Program}

-- The version byte and the length of the rest.
abbrev pub header_at : List ℕ → Result (Unit {0}) Refusal
header_at bs =
    cond (nat_lt (length bs) 3)
    (declined Short 0)
    (cond (slice_index bs 0 == 1)
    (cond (slice_index bs 1 * 256 + slice_index bs 2 == length bs - 3) (Ok tt) (declined Length 1))
    (declined Version 0))

-- A number from a least to a greatest.
abbrev pub limit_at : List ℕ → ℕ → ℕ → ℕ → Result ℕ Refusal
limit_at bs at low high =
    cond (nat_lt at (length bs))
    (cond (nat_lt (slice_index bs at) low) (declined Head at) (cond (nat_lt high (slice_index bs at)) (declined Head at) (Ok (slice_index bs at))))
    (declined Head at)

-- How many values, registers and locations there are.
abbrev pub sizes_at : List ℕ → Result Sizes Refusal
sizes_at bs =
    and_then (limit_at bs 3 2 4) (λ v. and_then (limit_at bs 4 1 4) (λ r. and_then (limit_at bs 5 1 8) (λ l.
    Ok (record { values = v; registers = r; locations = l }))))

-- No byte is left over.
abbrev pub end_at : List ℕ → ℕ → Result (Unit {0}) Refusal
end_at bs at = cond (at == length bs) (Ok tt) (declined Missing at)

-- No more than 4,096 runs.
abbrev pub few_runs : Sizes → Block → Result (Unit {0}) Refusal
few_runs m b = cond (nat_lt 4096 (runs_of m b)) (declined TooManyRuns 0) (Ok tt)

-- The runs are counted once both bodies have been read.
abbrev pub pair_at : List ℕ → Result Program Refusal
pair_at bs =
    and_then (header_at bs) (λ _. and_then (sizes_at bs) (λ m. and_then (body_at m bs 6) (λ t. and_then (body_at m bs t.1) (λ u.
    and_then (end_at bs u.1) (λ _. and_then (few_runs m t.0) (λ _. and_then (few_runs m u.0) (λ _.
    Ok (record { sizes = m; original = t.0; replacement = u.0 }))))))))

-- A number that was read lies in its range.
abbrev pub From : Result ℕ Refusal → ℕ → ℕ → Type 0
From (Ok x) low high = (low ≤ x) × (x ≤ high)
From (Err e) low high = Unit {0}
