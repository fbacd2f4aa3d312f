-- The model that a byte names.
use Rattle.std.specs.Prelude.{◌≡◌, ℕ, cond, Some, None, Ok, Err, Option, Result, ◌==◌}
use Rattle.trace.specs.declared.refusal.Refusal.{Refusal}
use Rattle.trace.specs.declared.refusal.Cause.TheVariants.{Stream}
use Rattle.ordering.specs.Meaning.{Meaning}
use Rattle.ordering.specs.Table.{sc, ibm390, tso, pso, clr}
use Rattle.snippet.specs.Parse.{refusal}
use Rattle.stream.specs.declared.named.Named.{Named}
use Rattle.stream.specs.declared.named.Named.TheVariants.{Sc, Ibm390, Tso, Pso, Clr}

-- 1 to 5 name a model, and no other byte does.
abbrev pub model_of : ℕ → Option Meaning
model_of b =
    cond (b == 1) (Some sc)
    (cond (b == 2) (Some ibm390)
    (cond (b == 3) (Some tso)
    (cond (b == 4) (Some pso)
    (cond (b == 5) (Some clr) None))))

-- The byte and the meaning of each model that can be named.
abbrev pub byte_of : Named → ℕ
byte_of Sc = 1
byte_of Ibm390 = 2
byte_of Tso = 3
byte_of Pso = 4
byte_of Clr = 5

abbrev pub meaning_of : Named → Meaning
meaning_of Sc = sc
meaning_of Ibm390 = ibm390
meaning_of Tso = tso
meaning_of Pso = pso
meaning_of Clr = clr

-- The name is the one that the byte stands for, and where there is none, the stream is declined.
abbrev pub NamedBy : ℕ → Result Named Refusal → Type 0
NamedBy b (Ok n) = (b ≡ byte_of n) × (model_of b ≡ Some (meaning_of n))
NamedBy b (Err e) = (model_of b ≡ None) × (e ≡ refusal Stream 0)
