-- Snippets as they are meant: blocks of commands, some of which hold blocks.
use Rattle.std.specs.Prelude.{ℕ, ◌+◌}

mutual
  -- A list of commands.
  pub data Block : Type 0 where
    end : Block
    then : Command → Block → Block

  -- Registers are written a, b, c and d, a location L, a value x.
  pub data Command : Type 0 where
    skip : Command
    load : (a L : ℕ) → Command
    store : (L a : ℕ) → Command
    constant : (a x : ℕ) → Command
    copy : (a b : ℕ) → Command
    sum : (a b c : ℕ) → Command
    equal : (a b c : ℕ) → Command
    compare_and_swap : (a L c d : ℕ) → Command
    fence : Command
    get : (a : ℕ) → Command
    print : (a : ℕ) → Command
    -- the first block is for a register that is not 0, the second for one that is
    branch : (a : ℕ) → Block → Block → Command
    declare : (a x : ℕ) → Block → Command

-- How many commands there are, inner ones counted.
abbrev mutual
  pub size_b : Block → ℕ
  size_b end = 0
  size_b (then s b) = size_c s + size_b b

  pub size_c : Command → ℕ
  size_c skip = 1
  size_c (load a L) = 1
  size_c (store L a) = 1
  size_c (constant a x) = 1
  size_c (copy a b) = 1
  size_c (sum a b c) = 1
  size_c (equal a b c) = 1
  size_c (compare_and_swap a L c d) = 1
  size_c fence = 1
  size_c (get a) = 1
  size_c (print a) = 1
  size_c (branch a t e) = 1 + (size_b t + size_b e)
  size_c (declare a x b) = 1 + size_b b

-- How many commands take a choice: load, compare-and-swap and get, inner ones counted.
abbrev mutual
  pub choices_b : Block → ℕ
  choices_b end = 0
  choices_b (then s b) = choices_c s + choices_b b

  pub choices_c : Command → ℕ
  choices_c skip = 0
  choices_c (load a L) = 1
  choices_c (store L a) = 0
  choices_c (constant a x) = 0
  choices_c (copy a b) = 0
  choices_c (sum a b c) = 0
  choices_c (equal a b c) = 0
  choices_c (compare_and_swap a L c d) = 1
  choices_c fence = 0
  choices_c (get a) = 1
  choices_c (print a) = 0
  choices_c (branch a t e) = choices_b t + choices_b e
  choices_c (declare a x b) = choices_b b
