use Rattle.std.proofs.Common.{◌≡◌, ℕ, not, ◌&&◌, ltb, ap, ◌∙◌, arith}
use Rattle.snippet.specs.Meant.{sizes_of, program_of}
use Rattle.runs.specs.Runs.{idle, count}
use Rattle.runs.proofs.Bounds.{count_is}
use Rattle.cases.proofs.active.active_runs.Goals as goal

pub returns : goal.returns
returns c j =
    let s = c.args.snippet.now in
    let many = count_is s in
    let e : c.loop-k.k ≡ count (sizes_of s) (program_of s) = omega arith in
    c.loop-k.invariant j ∙ ap (λ (n : ℕ). ltb j n && not (idle (sizes_of s) (program_of s) j)) e
