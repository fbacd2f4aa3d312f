-- For the code: what the rules on two events leave.
use Rattle.std.specs.Prelude.{[], ◌∷◌}
use Rattle.trace.specs.declared.event.Event.{Event}
use Rattle.trace.specs.Words.{Word}
use Rattle.rewrite.specs.declared.working.Rule.{Rule}
use Rattle.rewrite.specs.declared.working.Rule.TheVariants.{Swap, Forward, LoadAfterLoad, StoreBeforeStore, StoreAfterLoad, LoadAfterStore, NewLoad}

-- Rule 7 is on no events.
abbrev pub left : Rule → Event → Event → Word
left Swap e f = f ∷ e ∷ []
left Forward e f = e ∷ []
left LoadAfterLoad e f = e ∷ []
left StoreBeforeStore e f = f ∷ []
left StoreAfterLoad e f = e ∷ []
left LoadAfterStore e f = e ∷ []
left NewLoad e f = e ∷ []
