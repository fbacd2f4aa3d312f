use Rattle.std.proofs.Common.{◌≡◌, Some, None, Option, length, refl, ap, ◌∙◌, arith}
use Rattle.std.specs.Prelude.{⊤}
use Rattle.std.specs.Iterator.{MakesProgress, item_count}
use Rattle.parts.specs.Left.{left, left_at, rest, Takes}
use Rattle.parts.specs.declared.cutter.Parts.{Parts}
use Rattle.parts.specs.declared.cutter.Stage.{Stage}
use Rattle.parts.specs.declared.part.Part.{Part}
use Rattle.parts.proofs.Steps.{none_left, model_taken, pair_taken, hand_in_taken}
use Rattle.parts.proofs.next.PartsIterator.next.Goals as goal

-- there is one part fewer after each
goes_on : (before : Parts) (r : Option Part) (after : Parts) → Takes before r after → MakesProgress (λ _. ⊤) (item_count left) before r after
goes_on before None after e = record { on = λ _. tt; keeps = tt; rests = λ _. tt }
goes_on before (Some p) after e = record { on = λ _. (tt, tt, omega (arith, ap length e)); keeps = tt; rests = λ _. tt }

by_stage : (p : Parts) (s : Stage) → p.stage ≡ s → left p ≡ left_at s (rest p) p.at
by_stage p s e = ap (λ t. left_at t (rest p) p.at) e

pub returns-in_err-byte-in-Model : goal.returns-in_err-byte-in-Model
returns-in_err-byte-in-Model c =
    let p = c.args.self.now in
    let h = c.in_err-byte-in-Model.ensures.lookup in
    let t = by_stage p _ c.in-Model.is ∙ (none_left p.stream.now p.at (omega (arith, h))).0 in
    rw c.from_residual.ensures (record { steps = ((t, refl), refl); goes = goes_on p None p (t, refl) })

pub returns-in_ok-byte-in-Model : goal.returns-in_ok-byte-in-Model
returns-in_ok-byte-in-Model c =
    let p = c.args.self.now in
    let h = c.in_ok-byte-in-Model.ensures.lookup in
    let t = by_stage p _ c.in-Model.is ∙ model_taken p.stream.now p.at _ (h.3.1 0) h.3.0 in
    record { steps = (t, refl); goes = goes_on p (Some _) _ t }

pub returns-in-Pair : goal.returns-in-Pair
returns-in-Pair c =
    let p = c.args.self.now in
    let t = by_stage p _ c.in-Pair.is ∙ pair_taken p.stream.now p.at _ c.first_file-bytes.ensures in
    record { steps = (t, refl); goes = goes_on p (Some _) _ t }

pub returns-then-at-stream : goal.returns-then-at-stream
returns-then-at-stream c =
    let p = c.args.self.now in
    let t = by_stage p _ c.in-HandIns.is ∙ (none_left p.stream.now p.at (omega arith)).1 in
    record { steps = ((t, refl), refl); goes = goes_on p None p (t, refl) }

pub returns-else-at-stream : goal.returns-else-at-stream
returns-else-at-stream c =
    let p = c.args.self.now in
    let t = by_stage p _ c.in-HandIns.is ∙ hand_in_taken p.stream.now p.at _ c.first_file-bytes-in-HandIns.ensures (omega arith) ∙ rw c.in-HandIns.is refl in
    record { steps = (t, refl); goes = goes_on p (Some _) _ t }
