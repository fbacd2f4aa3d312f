use Rattle.std.proofs.Common.{◌≡◌, ℕ, ◌≤◌, List, length, take, min, ap, sym, ◌∙◌, inl, inr, arith}
use Rattle.std.proofs.lemmas.List.{append-nil, take_all}
use Rattle.std.proofs.lemmas.Bool.{cases_lt}
use Rattle.rewrite.proofs.working.Working.of.Goals as goal

-- at most 48, and all where that is fewer
cut : {A : Type 0} (xs : List A) (n : ℕ) → n ≤ 48 → min 48 (length xs) ≤ n → take n xs ≡ take 48 xs
cut xs n most all =
    elim (cases_lt n 48) [
      | inl l ↦ take_all n xs (omega (arith, all, l)) ∙ sym (take_all 48 xs (omega (arith, all, l)))
      | inr g ↦ ap (λ (k : ℕ). take k xs) {x = n} {y = 48} (omega (arith, most, g))
    ]

pub returns : goal.returns
returns c = c.splice.ensures ∙ append-nil _ ∙ cut c.args.events.now _ (omega arith) (omega arith)
