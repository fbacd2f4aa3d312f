-- The hand-ins of a stream that have not been judged yet.
use Rattle.std.specs.Prelude.{◌≡◌, ℕ, List, [], ◌∷◌, map, Some, None, Option}
use Rattle.std.specs.Borrow.{Bor}
use Rattle.parts.specs.Law.{bytes_of}
use Rattle.parts.specs.Left.{left}
use Rattle.stream.specs.declared.opened.HandIns.{HandIns}

-- The bytes of each, in their order.
abbrev pub files : HandIns → List (List ℕ)
files h = map bytes_of (left h.parts)

-- The first of them is taken, if there is one.
abbrev pub Takes : HandIns → Option (Bor (List ℕ)) → HandIns → Type 0
Takes before (Some bytes) after = files before ≡ bytes.now ∷ files after
Takes before None after = (files before ≡ []) × (files after ≡ [])
