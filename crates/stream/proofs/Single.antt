-- There is one output for each stream.
use Rattle.std.proofs.Common.{◌≡◌, ℕ, suc, List, [], ◌∷◌, ◌++◌, map, Some, None, Err, Option, Result, sym, refl, ap, ◌∙◌, subst, ap₂, inl, inr, arith}
use Rattle.std.proofs.lemmas.Bool.{cases_lt}
use Rattle.trace.specs.declared.refusal.Refusal.{Refusal}
use Rattle.ordering.specs.Meaning.{Meaning}
use Rattle.snippet.proofs.Inverse.{ok_inj, no_ok}
use Rattle.pairs.specs.Program.{Program}
use Rattle.judging.proofs.Settling.{judged_one}
use Rattle.cases.specs.History.{Call}
use Rattle.cases.specs.Promise.{HowMany, counted, skipped, VerdictPromise}
use Rattle.cases.specs.Promise as promise
use Rattle.parts.specs.Cut.{Piece, model, pair, parts_from, parts_of}
use Rattle.parts.specs.Law.{bytes_of}
use Rattle.stream.specs.Models.{model_of}
use Rattle.stream.specs.Printed.{cause_line, answer_line, Answers, none, next, Reported, Lines, Unfit, empty, long, unknown, Fit, FilesPrinted, declined, judged, no_stream, fit, PrintedOnce}
use Rattle.stream.proofs.Reporting.{same_report}

how_many_one : {P : ℕ → Type 0} {n c d : ℕ} → HowMany P n c → HowMany P n d → c ≡ d
how_many_one promise.none promise.none = refl
how_many_one (counted a p) (counted b q) = ap suc (how_many_one a b)
how_many_one (counted a p) (skipped b n) = absurd (n p)
how_many_one (skipped a n) (counted b p) = absurd (n p)
how_many_one (skipped a n) (skipped b o) = how_many_one a b

module _ {S : Type 0} {m : Meaning} {P : Program} {calls : List Call} where
  verdict_one : (v w : Option ℕ) → VerdictPromise S m P calls v → VerdictPromise S m P calls w → v ≡ w
  verdict_one None None a b = refl
  verdict_one None (Some k) a b = sym (b.exactly (a.matched refl))
  verdict_one (Some j) None a b = a.exactly (b.matched refl)
  verdict_one (Some j) (Some k) a b =
      let x = a.lowest j refl in
      let y = b.lowest k refl in
      elim (cases_lt j k) [
        | inl h ↦ absurd (x.1 (y.2 j h x.0))
        | inr h ↦ elim (cases_lt k j) [
          | inl i ↦ absurd (y.1 (x.2 k i y.0))
          | inr i ↦ ap (λ (n : ℕ). Some n) (omega arith)
        ]
      ]

module _ {m : Meaning} {P : Program} where
  answers_one : {files : List (List ℕ)} {out out' : List ℕ} → Answers m P files out → Answers m P files out' → out ≡ out'
  answers_one none none = refl
  answers_one (next {bs = bs} r j a) (next q k b) = ap₂ (λ x y. x ++ y) (ap answer_line (judged_one bs r q j k)) (answers_one a b)

  report_one : {b : ℕ} {files : List (List ℕ)} {line line' : List ℕ} → Reported b m P files line → Reported b m P files line' → line ≡ line'
  report_one {b} r q =
      r.bytes
      ∙ same_report b b r.active q.active r.matched q.matched r.lowest q.lowest refl
      (how_many_one r.count.active q.count.active) (how_many_one r.count.matched q.count.matched) (verdict_one r.lowest q.lowest r.verdict q.verdict)
      ∙ sym q.bytes

  lines_one : {b : ℕ} {files : List (List ℕ)} {out out' : List ℕ} → Lines b m P files out → Lines b m P files out' → out ≡ out'
  lines_one x y = x.bytes ∙ ap₂ (λ a r. a ++ r) (answers_one x.answered y.answered) (report_one x.reported y.reported) ∙ sym y.bytes

err_inj : (x y : Refusal) → ◌≡◌ {A = Result Program Refusal} (Err x) (Err y) → x ≡ y
err_inj x y q = cc

module _ {b : ℕ} {m : Meaning} {file : List ℕ} {files : List (List ℕ)} where
  files_one : {out out' : List ℕ} → FilesPrinted b m file files out → FilesPrinted b m file files out' → out ≡ out'
  files_one (declined e p) (declined d q) = ap cause_line (err_inj e d (sym p ∙ q))
  files_one (declined e p) (judged P q i l) = absurd (no_ok e P (sym p ∙ q))
  files_one (judged P p i l) (declined e q) = absurd (no_ok e P (sym q ∙ p))
  files_one (judged {out = out} P p i l) (judged {out = out'} Q q j k) = lines_one l (subst (λ (R : Program). Lines b m R files out') (ok_inj Q P (sym q ∙ p)) k)

some_inj : (m n : Meaning) → ◌≡◌ {A = Option Meaning} (Some m) (Some n) → m ≡ n
some_inj m n e = cc

none_some : (m : Meaning) → ◌≡◌ {A = Option Meaning} None (Some m) → ⊥
none_some m e = let z : ◌≡◌ {A = ℕ} 0 1 = cc in omega arith

no_parts : (p : Piece) (ps : List Piece) → parts_of [] ≡ p ∷ ps → ⊥
unfolding parts_from
no_parts p ps e = let z : ◌≡◌ {A = ℕ} 0 1 = cc in omega arith

first_byte : (b c : ℕ) (ps qs : List Piece) → ◌≡◌ {A = List Piece} (model b 0 ∷ ps) (model c 0 ∷ qs) → b ≡ c
first_byte b c ps qs e = cc

rest_files : (b c : ℕ) (f g : List ℕ) (ps qs : List Piece) → ◌≡◌ {A = List Piece} (model b 0 ∷ pair f 1 ∷ ps) (model c 0 ∷ pair g 1 ∷ qs) → (f ≡ g) × (ps ≡ qs)
rest_files b c f g ps qs e = (cc, cc)

unfit : {stream : List ℕ} {b : ℕ} {m : Meaning} {file : List ℕ} {handed : List Piece} → Unfit stream → Fit stream b m file handed → ⊥
unfit (empty e) f = no_parts _ _ (ap parts_of (sym e) ∙ f.parts)
unfit (long h) f = omega (arith, f.few)
unfit {b = b} {m = m} (unknown {b = c} {files = files} e n) f = none_some m (sym n ∙ ap model_of (first_byte c b files _ (sym e ∙ f.parts)) ∙ f.model)

same_files : (b c : ℕ) (m n : Meaning) (f g : List ℕ) (ps qs : List Piece) (out : List ℕ) → b ≡ c → m ≡ n → f ≡ g → ps ≡ qs
    → FilesPrinted c n g (map bytes_of qs) out → FilesPrinted b m f (map bytes_of ps) out
same_files b c m n f g ps qs out p q r s x = rw (p, q, r, s) x

pub printed_once : (stream : List ℕ) → PrintedOnce stream
printed_once stream _ _ (no_stream u) (no_stream w) = refl
printed_once stream _ _ (no_stream u) (fit f p) = absurd (unfit u f)
printed_once stream _ _ (fit f p) (no_stream u) = absurd (unfit u f)
printed_once stream _ _ (fit {b} {m} {file} {handed} f p) (fit {b = c} {m = n} {file = g} {handed = qs} {out = out} h q) =
    let e = sym f.parts ∙ h.parts in
    let byte = first_byte b c _ _ e in
    let rest = rest_files b c file g handed qs e in
    files_one p (same_files b c m n file g handed qs out byte (some_inj m n (sym f.model ∙ ap model_of byte ∙ h.model)) rest.0 rest.1 q)
