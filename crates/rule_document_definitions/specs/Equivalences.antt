-- What fields must agree in is an equivalence: so if each field of a group agrees with the first, any two agree (GraphQL, October
-- 2021, section 5.3.2).
use Rattle.graphql_names.specs.Placed.{Place}
use Rattle.rule_definitions.specs.Judged.{Judged}
use Rattle.rule_document_definitions.specs.Selected.{StandingField}
use Rattle.rule_document_definitions.specs.Merging.{SameShape, SameNameAndArguments}

pub record IsEquivalence (Agree : StandingField Place → StandingField Place → Type 0) : Type 0 where
  pub reflexive : (f : StandingField Place) → Agree f f
  pub symmetric : (f g : StandingField Place) → Agree f g → Agree g f
  pub transitive : (f g k : StandingField Place) → Agree f g → Agree g k → Agree f k

-- having one shape is an equivalence
abbrev pub ShapesAgreeAsEquals : Type 0
ShapesAgreeAsEquals = (s : Judged) → IsEquivalence (SameShape s)

-- having one name and the same arguments is an equivalence
abbrev pub SelectionsAgreeAsEquals : Type 0
SelectionsAgreeAsEquals = IsEquivalence SameNameAndArguments
