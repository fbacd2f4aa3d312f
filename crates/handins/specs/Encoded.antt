-- What a hand-in is, and its file.
use Rattle.std.specs.Prelude.{◌≡◌, ℕ, ◌/◌, ◌%◌, ◌≤◌, List, [], ◌∷◌, length}
use Rattle.rewrite.specs.declared.working.Step.{Step}
use Rattle.snippet.specs.Encode.{sized}

-- Steps that are to lead from a run of the original to a run of the replacement.
pub record Derivation : Type 0 where
  pub to : ℕ
  pub from : ℕ
  pub steps : List Step

-- Four bytes for each step: rule, place, location, value.
abbrev pub encode_steps : List Step → List ℕ
encode_steps [] = []
encode_steps (s ∷ ss) = s.rule ∷ s.place ∷ s.location ∷ s.value ∷ encode_steps ss

-- The replacement's run, the original's run, two bytes each, and the steps.
abbrev pub encode_rest : Derivation → List ℕ
encode_rest d = (d.to / 256) ∷ (d.to % 256) ∷ (d.from / 256) ∷ (d.from % 256) ∷ encode_steps d.steps

-- The version, and the rest behind its length.
abbrev pub encode_hand_in : Derivation → List ℕ
encode_hand_in d = 1 ∷ sized (encode_rest d)

-- The bytes are the file of a derivation of at most 64 steps.
pub record IsHandIn (bs : List ℕ) (d : Derivation) : Type 0 where
  pub bytes : bs ≡ encode_hand_in d
  pub few : length d.steps ≤ 64
