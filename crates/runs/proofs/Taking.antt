-- A list's first elements, taken one by one.
use Rattle.std.proofs.Common.{◌≡◌, ℕ, ◌+◌, ◌<◌, List, [], ◌∷◌, ◌++◌, length, take, drop, sym, ap, ◌∙◌}
use Rattle.std.proofs.lemmas.List.{take_more, drop_more}
use Rattle.runs.specs.Runs.{first, others}

pub take_first : (xs : List ℕ) (i : ℕ) → i < length xs → take (i + 1) xs ≡ take i xs ++ (first (drop i xs) ∷ [])
take_first xs i h = take_more xs i 0 h ∙ ap (λ (y : ℕ). take i xs ++ (y ∷ [])) (sym (ap first (drop_more xs i 0 h)))

pub drop_first : (xs : List ℕ) (i : ℕ) → i < length xs → drop (i + 1) xs ≡ others (drop i xs)
drop_first xs i h = sym (ap others (drop_more xs i 0 h))
