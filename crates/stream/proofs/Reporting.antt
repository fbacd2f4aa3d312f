-- The report after the hand-ins.
use Rattle.std.proofs.Common.{◌≡◌, ℕ, List, [], ◌∷◌, ◌++◌, map, Option, refl, ◌∙◌, subst}
use Rattle.ordering.specs.Meaning.{Meaning}
use Rattle.pairs.specs.Program.{Program}
use Rattle.pairs.specs.Meant.{meant}
use Rattle.pairs.specs.declared.pair.Pair.{Pair}
use Rattle.lines.specs.Lines.{flag_of, run_of, report_numbers, written}
use Rattle.lines.specs.declared.line.Report.{Report}
use Rattle.cases.specs.History.{hand_in}
use Rattle.cases.specs.Promise.{VerdictPromise, CountPromise, Unobservable}
use Rattle.cases.specs.Standing.{Verdict, Counted}
use Rattle.cases.specs.declared.case.Case.{Case}
use Rattle.stream.specs.Printed.{Answers, Lines}
use Rattle.stream.specs.Handed.{Handed}

pub same_report : (b b' a a' n n' : ℕ) (v v' : Option ℕ) → b ≡ b' → a ≡ a' → n ≡ n' → v ≡ v'
    → written (b ∷ a ∷ n ∷ flag_of v ∷ run_of v ∷ []) ≡ written (b' ∷ a' ∷ n' ∷ flag_of v' ∷ run_of v' ∷ [])
same_report b b' a a' n n' v v' p q r s = rw (p, q, r, s) refl

module _ {M : Type 0} (meaning : M → Meaning) where
  -- what holds of one model and pair holds of the same
  moved : (F : Meaning → Program → Type 0) (x y : M) (p q : Pair) → x ≡ y → p ≡ q → F (meaning x) (meant p) → F (meaning y) (meant q)
  moved F x y p q e d f = subst (λ (z : Pair). F (meaning y) (meant z)) d (subst (λ (z : M). F (meaning z) (meant p)) e f)

  pub lines_made : (number : ℕ) (model : M) (pair : Pair) (opened ended : Case M) (files : List (List ℕ)) (out new : List ℕ) (r : Report)
      → opened.pair ≡ pair → opened.model ≡ model → Handed meaning opened ended files out
      → r.model ≡ number → Counted ended r.matched r.active → Verdict ended r.lowest
      → new ≡ out ++ written (report_numbers r) → Lines number (meaning model) (meant pair) files new
  lines_made number model pair opened ended files out new r p m h b counts low e = record {
    answers = out;
    report = written (report_numbers r);
    answered = moved (λ x P. Answers x P files out) opened.model model opened.pair pair m p h.answers;
    reported = record {
      lowest = r.lowest;
      matched = r.matched;
      active = r.active;
      verdict = moved (λ x P. VerdictPromise (Unobservable x P) x P (map hand_in files) r.lowest) ended.model model ended.pair pair (h.model ∙ m) (h.pair ∙ p) (h.stands.verdict r.lowest low);
      count = moved (λ x P. CountPromise x P (map hand_in files) r.matched r.active) ended.model model ended.pair pair (h.model ∙ m) (h.pair ∙ p) (h.stands.count r.matched r.active counts);
      bytes = rw b refl;
    };
    bytes = e;
  }
