-- When a hand-in is valid.
use Rattle.std.specs.Prelude.{◌≡◌, ℕ, List, Ok, Err, Result}
use Rattle.trace.specs.declared.refusal.Refusal.{Refusal}
use Rattle.ordering.specs.Meaning.{Meaning}
use Rattle.rewrite.specs.Steps.{Chain}
use Rattle.pairs.specs.Program.{Program}
use Rattle.runs.specs.Runs.{start_of, end_of, word_of, Active}
use Rattle.handins.specs.Encoded.{Derivation, IsHandIn}

-- Neither run is idle, both start from the same registers, and the steps, all allowed and never above 48
-- events, turn the original's word into the replacement's, with equal end registers.
pub record Valid (m : Meaning) (P : Program) (d : Derivation) : Type 0 where
  pub to : Active P.sizes P.replacement d.to
  pub from : Active P.sizes P.original d.from
  pub start : start_of P.sizes d.from ≡ start_of P.sizes d.to
  pub end : end_of P.sizes P.original d.from ≡ end_of P.sizes P.replacement d.to
  pub steps : Chain m P.sizes.values P.sizes.locations d.steps (word_of P.sizes P.original d.from) (word_of P.sizes P.replacement d.to)

-- The bytes are the file of a valid hand-in, of at most 64 steps, for the run k of the replacement.
pub record Names (m : Meaning) (P : Program) (bs : List ℕ) (k : ℕ) : Type 0 where
  pub derivation : Derivation
  pub file : IsHandIn bs derivation
  pub valid : Valid m P derivation
  pub run : derivation.to ≡ k

-- A hand-in is accepted exactly if it is valid; the answer is the run that it names.
abbrev pub Exactly : Meaning → Program → List ℕ → Result ℕ Refusal → Type 0
Exactly m P bs (Ok k) = Names m P bs k
Exactly m P bs (Err e) = (k : ℕ) → Names m P bs k → ⊥
