use Rattle.std.proofs.Common.{refl, arith}
use Rattle.rewrite.specs.declared.working.Question.TheVariants.{Nothing}
use Rattle.rewrite.proofs.Fitting.{fit_put, make_put, put_long, word_long, word_short}
use Rattle.rewrite.proofs.working.Working.put.Goals as goal

pub returns-then-step-ranges : goal.returns-then-step-ranges
returns-then-step-ranges c m = (
  refl,
  λ w q F. let (a, b, d) = fit_put F c.requires in let n = word_long c.args.self.now in let p = c.from-p.ensures in elim c.then-step-ranges.branch [
    | goal.then-step-ranges-via-then-step-ranges y ↦ omega arith
    | goal.then-step-ranges-via-else-step-ranges+then-step-ranges-2 y ↦ omega arith
    | goal.then-step-ranges-via-else-step-ranges+else-step-ranges-2+then-p-self y ↦ omega arith
  ],
)

pub returns-then-self-eq-MOST : goal.returns-then-self-eq-MOST
returns-then-self-eq-MOST c m =
    let W = c.args.self.now in
    let F = make_put c.args.ranges.values c.args.ranges.locations c.args.step W c.requires (omega arith) (omega arith) (omega (arith, c.from-p.ensures)) in
    (refl, (_, (Nothing, F, refl), omega (arith, word_long W, put_long F c.requires)))

pub returns : goal.returns
returns c m =
    let F = make_put c.args.ranges.values c.args.ranges.locations c.args.step c.args.self.now c.requires (omega arith) (omega arith) (omega (arith, c.from-p.ensures)) in
    ((Nothing, rw (c.splice.ensures, c.from-p.ensures) F, refl), word_short c.splice.new.self)
