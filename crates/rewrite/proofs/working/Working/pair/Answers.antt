use Rattle.std.proofs.Common.{◌≡◌, ◌+◌, sym, refl, arith}
use Rattle.std.proofs.lemmas.Result.{err_from_is_err_and}
use Rattle.rewrite.specs.declared.working.Denied.TheVariants.{Misfit}
use Rattle.rewrite.proofs.Fitting.{fit_pair, make_pair, fits_one, word_long, word_short, word_at}
use Rattle.rewrite.proofs.working.Working.pair.Goals as goal

pub returns-then-step-ne0 : goal.returns-then-step-ne0
returns-then-step-ne0 g c v l = (
  refl,
  λ w q F. let (a, b, d, t) = fit_pair F c.requires.number c.requires.pairs in let n = word_long c.args.self.now in let p = c.from-p.ensures in elim c.then-step-ne0.branch [
    | goal.then-step-ne0-via-then-step-ne0 y ↦ omega arith
    | goal.then-step-ne0-via-else-step-ne0+then-step-ne0-2 y ↦ omega arith
    | goal.then-step-ne0-via-else-step-ne0+else-step-ne0-2+then-p-self y ↦ omega arith
  ],
)

pub returns-in_err-question : goal.returns-in_err-question
returns-in_err-question g c v l =
    let W = c.args.self.now in
    let s = c.args.step in
    let o = c.in_err-question.ensures.ok_part in
    let no = rw (o, c.from-p.ensures) at c.fits.ensures in
    let e : c.in_err-question.field-0.0 ≡ Misfit = let x = rw o at c.in_err-question.ensures.value in cc in
    let r = err_from_is_err_and c.from_residual.result c.from_residual.ensures.1 in
    rw (r.1, r.2, e) (
      refl,
      λ w q F.
          let (a, b, d, t) = fit_pair F c.requires.number c.requires.pairs in
          no s.location s.value F.Y q (t _ _ _ _ (word_at W s.place _ (omega (arith, c.from-p.ensures))) (word_at W (s.place + 1) _ (omega (arith, c.from-p.ensures)))),
    )

pub returns-then-not-ask : goal.returns-then-not-ask
returns-then-not-ask g c v l =
    let s = c.args.step in
    let yes = rw (c.in_ok-question.ensures.ok_part, c.from-p.ensures) at c.fits.ensures in
    let F = make_pair v l s c.args.self.now c.requires.number c.requires.pairs (omega arith) (omega arith) (omega (arith, c.from-p.ensures)) _ _ (yes s.location s.value) in (
      refl,
      (_, _, F),
      λ w (q, G, y).
          let o = (fits_one F G).1 in
          let n = c.if-not-ask.ensures in
          cc,
    )

pub returns : goal.returns
returns g c v l =
    let s = c.args.step in
    let yes = rw (c.in_ok-question.ensures.ok_part, c.from-p.ensures) at c.fits.ensures in
    let F = make_pair v l s c.args.self.now c.requires.number c.requires.pairs (omega arith) (omega arith) (omega (arith, c.from-p.ensures)) _ _ (yes s.location s.value) in
    ((c.in_ok-question.question, rw (c.turn.ensures, c.from-p.ensures) F, sym c.if-not-ask.ensures), word_short c.turn.new.self)
