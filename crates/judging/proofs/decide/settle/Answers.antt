use Rattle.std.proofs.Common.{◌≡◌, ◌∙◌, rules, of_calls}
use Rattle.std.proofs.lemmas.Result.{err_from_is_err_and}
use Rattle.rewrite.specs.Refused.{refusal_of}
use Rattle.rewrite.proofs.Reach.{told_ok, told_err}
use Rattle.judging.proofs.Settling.{start_word, stopped_at, reached_at, elsewhere_at}
use Rattle.judging.proofs.decide.settle.Goals as goal
use Rattle.judging.proofs.decide.settle.Goals.{else-is-via-then-is+else-same, else-is-via-else-is}

pub returns-in_err-map_err : goal.returns-in_err-map_err
returns-in_err-map_err g c =
    let (e, p, q) = err_from_is_err_and c.from_residual.result c.from_residual.ensures.1 in
    let (d, k, r) = told_err _ c.replay.result c.map_err.result c.map_err.ensures.cases c.in_err-map_err.was in
    let is : e ≡ refusal_of d = search (rules, of_calls) in
    rw (p, is) (stopped_at d (start_word c.args.given.now c.word.ensures c.of-word.ensures) (rw r at c.replay.ensures.replayed))

pub returns-then-same : goal.returns-then-same
returns-then-same g c =
    let d = rw (told_ok _ c.replay.result c.map_err.result c.map_err.ensures.cases c.in_ok-map_err.was) at c.replay.ensures.replayed in
    reached_at (start_word c.args.given.now c.word.ensures c.of-word.ensures) (c.if-is.ensures ∙ c.word-2.ensures) d c.if-same.ensures

pub returns-else-is : goal.returns-else-is
returns-else-is g c =
    let d = rw (told_ok _ c.replay.result c.map_err.result c.map_err.ensures.cases c.in_ok-map_err.was) at c.replay.ensures.replayed in
    elsewhere_at (start_word c.args.given.now c.word.ensures c.of-word.ensures) d
    (λ q. elim c.else-is.branch [
      | else-is-via-then-is+else-same w ↦ w.if-same.ensures q.1
      | else-is-via-else-is w ↦ w.if-is.ensures (rw c.word-2.ensures q.0)
    ])
