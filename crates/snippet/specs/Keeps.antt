-- The limits that the operands and the depth of a snippet keep.
use Rattle.std.specs.Prelude.{ℕ, ◌+◌, Bool, true, ◌&&◌, nat_lt}
use Rattle.snippet.specs.Program.{Block, Command, end, then, skip, load, store, constant, copy, sum, equal, compare_and_swap, fence, get, print, branch, declare}
use Rattle.snippet.specs.declared.limits.Limits.{Limits}

-- How many values, registers and locations there are.
pub record Sizes : Type 0 where
  pub values : ℕ
  pub registers : ℕ
  pub locations : ℕ

abbrev pub sizes : Limits → Sizes
sizes m = record { values = m.values; registers = m.registers; locations = m.locations }

-- Registers, locations and values are in range, and blocks lie at most eight deep. The number is the depth.
abbrev mutual
  pub keeps_b : Sizes → ℕ → Block → Bool
  keeps_b m depth end = true
  keeps_b m depth (then s b) = keeps_c m depth s && keeps_b m depth b

  pub keeps_c : Sizes → ℕ → Command → Bool
  keeps_c m depth skip = true
  keeps_c m depth (load a L) = nat_lt a m.registers && nat_lt L m.locations
  keeps_c m depth (store L a) = nat_lt L m.locations && nat_lt a m.registers
  keeps_c m depth (constant a x) = nat_lt a m.registers && nat_lt x m.values
  keeps_c m depth (copy a b) = nat_lt a m.registers && nat_lt b m.registers
  keeps_c m depth (sum a b c) = nat_lt a m.registers && (nat_lt b m.registers && nat_lt c m.registers)
  keeps_c m depth (equal a b c) = nat_lt a m.registers && (nat_lt b m.registers && nat_lt c m.registers)
  keeps_c m depth (compare_and_swap a L c d) = nat_lt a m.registers && (nat_lt L m.locations && (nat_lt c m.registers && nat_lt d m.registers))
  keeps_c m depth fence = true
  keeps_c m depth (get a) = nat_lt a m.registers
  keeps_c m depth (print a) = nat_lt a m.registers
  keeps_c m depth (branch a t e) = nat_lt a m.registers && (nat_lt depth 8 && (keeps_b m (depth + 1) t && keeps_b m (depth + 1) e))
  keeps_c m depth (declare a x b) = nat_lt a m.registers && (nat_lt x m.values && (nat_lt depth 8 && keeps_b m (depth + 1) b))
