-- What a line says, its bytes, and how they are read.
use Rattle.std.specs.Prelude.{ℕ, ◌+◌, ◌-◌, ◌*◌, cond, List, [], ◌∷◌, ◌++◌, Some, None, Ok, Err, decimal, Option, Result, ◌==◌, nat_lt}
use Rattle.trace.specs.declared.refusal.Refusal.{Refusal}
use Rattle.trace.specs.declared.refusal.Cause.TheVariants.{NoRoom}
use Rattle.trace.specs.Refusals.{number_of}
use Rattle.lines.specs.declared.line.Line.{Line}
use Rattle.lines.specs.declared.line.Line.TheVariants.{Answer}
use Rattle.lines.specs.declared.line.Line.TheVariants as lines
use Rattle.lines.specs.declared.line.Report.{Report}

-- The answer to a file or a hand-in: a cause's number and its place, 0 and 0 where it is accepted.
abbrev pub answer_numbers : ℕ → ℕ → List ℕ
answer_numbers number place = number ∷ place ∷ []

-- A case is sound (0) where no run is left unmatched.
abbrev pub flag_of : Option ℕ → ℕ
flag_of None = 0
flag_of (Some run) = 1

-- The lowest unmatched run, or 0.
abbrev pub run_of : Option ℕ → ℕ
run_of None = 0
run_of (Some run) = run

-- The report: the model, the runs that are not idle, the matched ones, 0 for sound, and the lowest unmatched run.
abbrev pub report_numbers : Report → List ℕ
report_numbers r = r.model ∷ r.active ∷ r.matched ∷ flag_of r.lowest ∷ run_of r.lowest ∷ []

-- The numbers of a line.
abbrev pub numbers_of : Line → List ℕ
numbers_of (Answer (Ok u)) = answer_numbers 0 0
numbers_of (Answer (Err refusal)) = answer_numbers (number_of refusal.cause) refusal.place
numbers_of (lines.Report report) = report_numbers report

-- The bytes of a line: its numbers in decimal, a space between two, and a line feed.
unfoldable pub written : List ℕ → List ℕ
written [] = []
written (n ∷ []) = decimal n ++ (10 ∷ [])
written (n ∷ m ∷ ns) = decimal n ++ (32 ∷ written (m ∷ ns))

-- The numbers of a line's bytes: a space ends a number, a line feed the line, and any other byte is a digit.
unfoldable pub read_on : ℕ → List ℕ → List ℕ
read_on n [] = []
read_on n (b ∷ bs) = cond (b == 32) (n ∷ read_on 0 bs) (cond (b == 10) (n ∷ []) (read_on (n * 10 + (b - 48)) bs))

-- A line is read from its first number on.
unfoldable pub read_line : List ℕ → List ℕ
read_line bs = read_on 0 bs

-- Every line has at most so many bytes.
abbrev pub longest : ℕ
longest = 24

-- A line of the given length is written where there is room for any line, and else declined.
abbrev pub room : ℕ → ℕ → Result ℕ Refusal
room there size = cond (nat_lt there longest) (Err (record { cause = NoRoom; place = 0 })) (Ok size)
