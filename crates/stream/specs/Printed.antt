-- What is printed for a stream.
use Rattle.std.specs.Prelude.{◌≡◌, ℕ, ◌<◌, ◌≤◌, List, [], ◌∷◌, ◌++◌, map, length, Some, None, Ok, Err, Option, Result}
use Rattle.trace.specs.declared.refusal.Refusal.{Refusal}
use Rattle.trace.specs.Refusals.{number_of}
use Rattle.ordering.specs.Meaning.{Meaning}
use Rattle.pairs.specs.Program.{Program}
use Rattle.pairs.specs.Encoded.{IsFile}
use Rattle.pairs.specs.File.{pair_at}
use Rattle.judging.specs.Judged.{Judged}
use Rattle.cases.specs.History.{hand_in}
use Rattle.cases.specs.Promise.{VerdictPromise, CountPromise, Unobservable}
use Rattle.lines.specs.Lines.{answer_numbers, flag_of, run_of, written}
use Rattle.parts.specs.Cut.{Piece, model, pair, parts_of}
use Rattle.parts.specs.Law.{bytes_of}
use Rattle.stream.specs.Models.{model_of}

-- The most bytes that a stream can have.
abbrev pub most_bytes : ℕ
most_bytes = 32768

-- The line for a cause: its number and its place.
abbrev pub cause_line : Refusal → List ℕ
cause_line e = written (answer_numbers (number_of e.cause) e.place)

-- The line for a hand-in: 0 and 0 where it is accepted.
abbrev pub answer_line : Result ℕ Refusal → List ℕ
answer_line (Ok run) = written (answer_numbers 0 0)
answer_line (Err e) = cause_line e

-- A line for each hand-in, in their order, with the one answer to its bytes.
pub data Answers (m : Meaning) (P : Program) : List (List ℕ) → List ℕ → Type 0 where
  none : Answers m P [] []
  next : {bs : List ℕ} {files : List (List ℕ)} {out : List ℕ} (r : Result ℕ Refusal) → Judged m P bs r → Answers m P files out → Answers m P (bs ∷ files) (answer_line r ++ out)

-- The report after the hand-ins: the model's number, how many runs are not idle, how many are matched, 0 for
-- sound, and the lowest run that is not matched. What is printed as sound is sound: no surrounding has an
-- observation with the replacement that it lacks with the original.
pub record Reported (b : ℕ) (m : Meaning) (P : Program) (files : List (List ℕ)) (line : List ℕ) : Type 0 where
  pub lowest : Option ℕ
  pub matched : ℕ
  pub active : ℕ
  pub verdict : VerdictPromise (Unobservable m P) m P (map hand_in files) lowest
  pub count : CountPromise m P (map hand_in files) matched active
  pub bytes : line ≡ written (b ∷ active ∷ matched ∷ flag_of lowest ∷ run_of lowest ∷ [])

-- All lines for a model's number, a model, a pair and hand-ins.
pub record Lines (b : ℕ) (m : Meaning) (P : Program) (files : List (List ℕ)) (out : List ℕ) : Type 0 where
  pub answers : List ℕ
  pub report : List ℕ
  pub answered : Answers m P files answers
  pub reported : Reported b m P files report
  pub bytes : out ≡ answers ++ report

-- 18: the stream is empty, too long, or its first byte names no model.
pub data Unfit (stream : List ℕ) : Type 0 where
  empty : stream ≡ [] → Unfit stream
  long : most_bytes < length stream → Unfit stream
  unknown : {b : ℕ} {files : List Piece} → parts_of stream ≡ model b 0 ∷ files → model_of b ≡ None → Unfit stream

-- A stream that can be judged: the number b of the model m, the bytes of the pair file, and the hand-ins.
pub record Fit (stream : List ℕ) (b : ℕ) (m : Meaning) (file : List ℕ) (handed : List Piece) : Type 0 where
  pub few : length stream ≤ most_bytes
  pub parts : parts_of stream ≡ model b 0 ∷ pair file 1 ∷ handed
  pub model : model_of b ≡ Some m

-- What is printed for a pair file and hand-ins, once the model is known.
pub data FilesPrinted (b : ℕ) (m : Meaning) (file : List ℕ) (files : List (List ℕ)) : List ℕ → Type 0 where
  -- 1 to 8: the pair is declined, and no hand-in is judged
  declined : (e : Refusal) → pair_at file ≡ Err e → FilesPrinted b m file files (cause_line e)
  judged : {out : List ℕ} (P : Program) → pair_at file ≡ Ok P → IsFile file P → Lines b m P files out → FilesPrinted b m file files out

-- What is printed for a stream.
pub data Printed (stream : List ℕ) : List ℕ → Type 0 where
  no_stream : Unfit stream → Printed stream (written (18 ∷ 0 ∷ []))
  fit : {b : ℕ} {m : Meaning} {file : List ℕ} {handed : List Piece} {out : List ℕ} → Fit stream b m file handed
      → FilesPrinted b m file (map bytes_of handed) out → Printed stream out

-- One output for each stream.
abbrev pub PrintedOnce : List ℕ → Type 0
PrintedOnce stream = (out out' : List ℕ) → Printed stream out → Printed stream out' → out ≡ out'
