-- What a pair's record stands for, and what an answer says of the bytes.
use Rattle.std.specs.Prelude.{◌≡◌, ℕ, List, Ok, Err, Result}
use Rattle.trace.specs.declared.refusal.Refusal.{Refusal}
use Rattle.snippet.specs.Meant.{program_of, sizes_of}
use Rattle.pairs.specs.Program.{Program}
use Rattle.pairs.specs.Encoded.{IsFile}
use Rattle.pairs.specs.declared.pair.Pair.{Pair}

abbrev pub meant : Pair → Program
meant p = record { sizes = sizes_of p.original; original = program_of p.original; replacement = program_of p.replacement }

-- The bytes are this pair's file, and no other's.
pub record OnlyFile (bs : List ℕ) (P : Program) : Type 0 where
  pub is : IsFile bs P
  pub only : (Q : Program) → IsFile bs Q → Q ≡ P

-- A pair is answered exactly for its file; bytes that are declined are no pair's file.
abbrev pub Judged : Result Pair Refusal → List ℕ → Type 0
Judged (Ok p) bs = OnlyFile bs (meant p)
Judged (Err e) bs = (P : Program) → IsFile bs P → ⊥
