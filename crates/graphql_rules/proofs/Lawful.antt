-- What follows for the schema that is left, where no rule breaks of the schema that was given.
use Rattle.std.proofs.Common.{◌≡◌, refl, sym, subst}
use Rattle.graphql_names.specs.Placed.{Place}
use Rattle.rule_cycles.specs.in_schema.SchemaOf.{schema_tree}
use Rattle.rule_cycles.specs.in_schema.declared.schema.Schema.{Schema}
use Rattle.schema_components.specs.Names.{Entries}
use Rattle.rule_definitions.specs.in_schema_types.SchemaTree.{SchemaType, SchemaTree}
use Rattle.rule_definitions.specs.Distinct.{AreAllDistinct}
use Rattle.rule_definitions.specs.Judged.{judged}
use Rattle.rule_definitions.specs.Kept.{validated}
use Rattle.rule_definitions.specs.Rules.{SchemaRules}
use Rattle.rule_schema_laws.specs.Implementing.{ImplementsInOrder}
use Rattle.rule_schema_laws.specs.Literals.{HasTheFiveAlone, HasNoKeywordValue, InputTypesHaveLiterals}
use Rattle.rule_schema_laws.proofs.Validated.{ordered_after, literals_after}
use Rattle.rule_schema_laws.proofs.Named.{has_names}

-- with the types of what is left, a schema is what is left
pub left_is : (s : SchemaTree Place) (types : Entries (SchemaType Place)) → types ≡ (validated s).types → record s { types = types } ≡ validated s
left_is s types is = λ i. record s { types = is i }

module _ (s : Schema) (left : SchemaTree Place) (is : left ≡ validated (schema_tree s)) (distinct : AreAllDistinct (schema_tree s)) (rules : SchemaRules (judged (schema_tree s))) where
  pub ordered_left : ImplementsInOrder (judged left)
  ordered_left = subst (λ t. ImplementsInOrder (judged t)) (sym is) (ordered_after (schema_tree s) distinct.types rules)

  pub literals_left : HasTheFiveAlone (judged (schema_tree s)) → HasNoKeywordValue (judged (schema_tree s)) → InputTypesHaveLiterals (judged left)
  literals_left five keywords = subst (λ t. InputTypesHaveLiterals (judged t)) (sym is) (literals_after (schema_tree s) distinct.types (has_names (schema_tree s) s.types.entries refl) rules five keywords)
