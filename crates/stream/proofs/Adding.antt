-- A line that was written is added to what is printed.
use Rattle.std.proofs.Common.{◌≡◌, ℕ, cond, List, ◌++◌, length, take, is_ok, IfOk, Ok, Err, Result, sym, ap, ◌∙◌}
use Rattle.std.proofs.lemmas.List.{take_at}

pub added : {E : Type 0} (r : Result (Unit {0}) E) (items new line rest bytes : List ℕ) (n : ℕ) → n ≡ length line → bytes ≡ line ++ rest
    → new ≡ cond (is_ok r) (items ++ take n bytes) items → IfOk r (λ _. new ≡ items ++ line)
added (Ok u) items new line rest bytes n size is e =
    e ∙ ap (λ xs. items ++ xs) (ap (take n) is ∙ take_at line rest n (sym size))
added (Err x) items new line rest bytes n size is e = tt
