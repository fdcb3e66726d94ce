-- What the rules on schemas imply, of a schema that keeps them and of what validation leaves of it.
use Rattle.std.specs.Prelude.{Contains}
use Rattle.graphql_names.specs.Placed.{Place, Text}
use Rattle.graphql_names.specs.declared.span.FileId.{FileId}
use Rattle.tree_literals.specs.TypeTree.{NonNullNamedTree}
use Rattle.tree_literals.specs.ValueTree.{ValueTree}
use Rattle.rule_definitions.specs.in_schema_types.SchemaTree.{SchemaTree}
use Rattle.rule_definitions.specs.Distinct.{AreUnder}
use Rattle.rule_definitions.specs.Words.{Present}
use Rattle.rule_definitions.specs.Judged.{Judged, judged, IsBuiltInScalar}
use Rattle.rule_definitions.specs.Names.{scalar_names}
use Rattle.rule_definitions.specs.Kept.{validated}
use Rattle.rule_definitions.specs.Rules.{SchemaRules}
use Rattle.rule_schema_laws.specs.Implementing.{ImplementsInOrder}
use Rattle.rule_schema_laws.specs.Literals.{IsLiteral, HasTheFiveAlone, HasNoKeywordValue, InputTypesHaveLiterals}
use Rattle.rule_schema_laws.specs.Named.{HasNames}

-- for every `Judged`, also one that rules read of no schema in memory
abbrev pub OrderedWhereRulesHold : Type 0
OrderedWhereRulesHold = (s : Judged) → SchemaRules s → ImplementsInOrder s

-- for schemas in which no two types have the same name, as in every schema in memory
abbrev pub OrderedAfterValidation : Type 0
OrderedAfterValidation = (s : SchemaTree Place) → AreUnder s.types → SchemaRules (judged s) → ImplementsInOrder (judged (validated s))

-- each input type has a literal after validation, if also the names of enum values and input fields are names, as in every schema in memory
abbrev pub LiteralsAfterValidation : Type 0
LiteralsAfterValidation = (s : SchemaTree Place) → AreUnder s.types → HasNames (judged s) → SchemaRules (judged s)
    → HasTheFiveAlone (judged s) → HasNoKeywordValue (judged s) → InputTypesHaveLiterals (judged (validated s))

-- the premise on scalars is needed: if a built-in scalar is none of the five, its `Name!` has no literal
abbrev pub OtherScalarsHaveNone : Type 0
OtherScalarsHaveNone = (s : Judged) (n : Text (Unit {0})) → Present (s.type_named n.it) (λ t. IsBuiltInScalar s n.it t) → (Contains scalar_names n.it → ⊥)
    → (file : FileId) (v : ValueTree Place) → IsLiteral s (NonNullNamedTree n) file v → ⊥
