-- That only hand-ins are left is a fact with at most one proof.
use Rattle.std.specs.Prelude.{List, [], ◌∷◌}
use Rattle.std.specs.Coded.{×_prop, Unit-prop, le_prop}
use Rattle.parts.specs.Cut.{Piece, model, pair, hand_in}
use Rattle.parts.specs.Law.{HandIns}

pub HandIns-prop : (ps : List Piece) → IsProp (HandIns ps)
HandIns-prop [] = Unit-prop
HandIns-prop (model b at ∷ ps) = λ x. absurd x
HandIns-prop (pair bs at ∷ ps) = λ x. absurd x
HandIns-prop (hand_in bs at ∷ ps) = ×_prop le_prop (HandIns-prop ps)
