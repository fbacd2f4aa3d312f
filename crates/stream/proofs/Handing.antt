-- One more hand-in.
use Rattle.std.proofs.Common.{◌≡◌, ℕ, List, [], ◌∷◌, ◌++◌, map, Ok, Err, Result, sym, refl, ap, ◌∙◌, subst, append_assoc, append-nil}
use Rattle.trace.specs.declared.refusal.Refusal.{Refusal}
use Rattle.ordering.specs.Meaning.{Meaning}
use Rattle.pairs.specs.Program.{Program}
use Rattle.pairs.specs.Meant.{meant}
use Rattle.pairs.specs.declared.pair.Pair.{Pair}
use Rattle.judging.specs.Judged.{Judged}
use Rattle.lines.specs.Lines.{numbers_of, written}
use Rattle.lines.specs.declared.line.Line.TheVariants.{Answer}
use Rattle.cases.specs.History.{hand_in}
use Rattle.cases.specs.Promise.{HandInAnswer}
use Rattle.cases.specs.Standing.{Follows, Stands, GoesOn}
use Rattle.cases.specs.declared.case.Case.{Case}
use Rattle.stream.specs.Printed.{answer_line, Answers, none, next}
use Rattle.stream.specs.Handed.{Handed}

pub map_more : {X Y : Type 0} (f : X → Y) (xs : List X) (x : X) → map f (xs ++ x ∷ []) ≡ map f xs ++ f x ∷ []
map_more f [] x = refl
map_more f (y ∷ xs) x = ap (λ ys. f y ∷ ys) (map_more f xs x)

module _ {m : Meaning} {P : Program} where
  more_answers : {files : List (List ℕ)} {out bs : List ℕ} (r : Result ℕ Refusal) → Judged m P bs r → Answers m P files out → Answers m P (files ++ bs ∷ []) (out ++ answer_line r)
  more_answers {bs = bs} r j none = subst (Answers m P (bs ∷ [])) (append-nil (answer_line r)) (next r j none)
  more_answers {files = _ ∷ files} {bs = bs} r j (next {bs = first} {out = out} q k a) =
      subst (Answers m P (first ∷ (files ++ bs ∷ []))) (sym (append_assoc (answer_line q) out (answer_line r))) (next q k (more_answers r j a))

  -- the answer to a hand-in, and its line
  answered : (bs : List ℕ) (r : Result (Unit {0}) Refusal) → HandInAnswer m P bs r → (j : Result ℕ Refusal) × Judged m P bs j × (answer_line j ≡ written (numbers_of (Answer r)))
  answered bs (Ok u) (k, j, n) = (Ok k, j, refl)
  answered bs (Err e) (j, n) = (Err e, j, refl)

module _ {M : Type 0} (meaning : M → Meaning) where
  pub handed_none : (c : Case M) (out : List ℕ) → Follows meaning c [] → Stands meaning c [] → out ≡ [] → Handed meaning c c [] out
  handed_none c out f s e = record { pair = refl; model = refl; answers = subst (Answers _ _ []) (sym e) none; follows = f; stands = s }

  pub handed_more : (before mid after : Case M) (files : List (List ℕ)) (out new bs : List ℕ) (r : Result (Unit {0}) Refusal)
      → Handed meaning before mid files out → after.pair ≡ mid.pair → after.model ≡ mid.model → HandInAnswer (meaning mid.model) (meant mid.pair) bs r
      → Follows meaning after (map hand_in files ++ hand_in bs ∷ []) → Stands meaning after (map hand_in files ++ hand_in bs ∷ [])
      → new ≡ out ++ written (numbers_of (Answer r)) → Handed meaning before after (files ++ bs ∷ []) new
  handed_more before mid after files out new bs r h p q a f s e =
      let calls = sym (map_more hand_in files bs) in
      let here : HandInAnswer (meaning before.model) (meant before.pair) bs r =
      subst (λ (x : Pair). HandInAnswer (meaning before.model) (meant x) bs r) h.pair (subst (λ (x : M). HandInAnswer (meaning x) (meant mid.pair) bs r) h.model a) in
      let (j, k, line) = answered bs r here in
      record {
        pair = p ∙ h.pair;
        model = q ∙ h.model;
        answers = subst (Answers (meaning before.model) (meant before.pair) (files ++ bs ∷ [])) (ap (λ xs. out ++ xs) line ∙ sym e) (more_answers j k h.answers);
        follows = subst (Follows meaning after) calls f;
        stands = subst (Stands meaning after) calls s;
      }

  -- a hand-in is taken, and its line written
  pub one_more : (before mid after : Case M) (all taken rest rest' : List (List ℕ)) (out new bs : List ℕ) (r : Result (Unit {0}) Refusal)
      → all ≡ taken ++ rest → Handed meaning before mid taken out → rest ≡ bs ∷ rest'
      → after.pair ≡ mid.pair → after.model ≡ mid.model → HandInAnswer (meaning mid.model) (meant mid.pair) bs r
      → GoesOn meaning mid (hand_in bs) after → new ≡ out ++ written (numbers_of (Answer r))
      → (t : List (List ℕ)) × (all ≡ t ++ rest') × Handed meaning before after t new
  one_more before mid after all taken rest rest' out new bs r whole h e same-pair same-model a on w = (
    taken ++ bs ∷ [],
    whole ∙ ap (λ xs. taken ++ xs) e ∙ sym (append_assoc taken (bs ∷ []) rest'),
    handed_more before mid after taken out new bs r h same-pair same-model a (on _ h.follows).0 (on _ h.follows).1 w,
  )
