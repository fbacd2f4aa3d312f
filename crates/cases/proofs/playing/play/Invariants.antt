use Rattle.std.proofs.Common.{◌≡◌, ℕ, ◌<◌, ◌≤◌, map, length, get_or, take}
use Rattle.pairs.specs.Meant.{meant}
use Rattle.cases.specs.Played.{call_of, Promised}
use Rattle.cases.specs.Standing.{Follows}
use Rattle.cases.specs.declared.script.Standing.{Standing}
use Rattle.cases.proofs.playing.play.Given as goal

abbrev pub invariant-loop-i : goal.invariant-loop-i
invariant-loop-i g l =
    (l.case.pair ≡ l.initial.case.pair)
    × (l.case.model ≡ l.initial.case.model)
    × Follows g.M.Model.meaning l.case (take l.i (map call_of l.calls))
    × ((j : ℕ) (d : Standing) → j < l.i → j < length l.standings → Promised g.S.Sets.sets g.S.Sets.words (g.M.Model.meaning l.initial.case.model) (meant l.initial.case.pair) (take j (map call_of l.calls)) (get_or l.standings j d))
    × ((j : ℕ) (d : Standing) → l.i ≤ j → get_or l.standings j d ≡ get_or l.initial.standings j d)
