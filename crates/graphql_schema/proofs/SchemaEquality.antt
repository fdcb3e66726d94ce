-- `==` of schemas decides whether they are the same without places, origins, sources and order.
use Rattle.std.proofs.Common.{◌≡◌, ap}
use Rattle.std.specs.Bool.{Decides}
use Rattle.graphql_names.specs.Node.{content}
use Rattle.graphql_names.specs.Placed.{node_tree}
use Rattle.tree_directives.specs.DirectiveTree.{directive_definition_tree}
use Rattle.schema_components.proofs.in_operations.Decided.{through, pair_decides}
use Rattle.schema_components.proofs.in_operations.DirectiveEquality.{directive_definition_eq-Decides}
use Rattle.schema_components.proofs.NamedEquality.{maps_decide}
use Rattle.schema_building.specs.in_schema_types.TypeView.{name_text, extended_type}
use Rattle.schema_building.specs.in_schema_types.Plain.{PlainSchema, plain, plain_type, plain_directive_definition}
use Rattle.schema_building.proofs.in_schema_types.TypeEquality.{type_eq-Decides, roots_eq-Decides}
use Rattle.graphql_schema.specs.SchemaOf.{schema_tree}
use Rattle.graphql_schema.specs.declared.schema.Schema.{Schema}
use Rattle.graphql_schema.specs.contracts.schema.SchemaPartialEq.TheImpl as schema_impl

pub schema_eq-Decides : (a b : Schema) → Decides (schema_impl.ghosts.eq a b) (plain (schema_tree a) ≡ plain (schema_tree b))
schema_eq-Decides a b =
    through
    (pair_decides _ _ (roots_eq-Decides a.schema_definition b.schema_definition)
    (pair_decides _ _ (maps_decide name_text _ plain_directive_definition (node_tree directive_definition_tree) (λ x y. directive_definition_eq-Decides (content x) (content y)) a.directive_definitions b.directive_definitions)
    (maps_decide name_text _ plain_type extended_type type_eq-Decides a.types b.types)))
    (λ h i. record { definition = h.0 i; directives = h.1.0 i; types = h.1.1 i })
    (λ e. (ap (λ (s : PlainSchema). s.definition) e, (ap (λ (s : PlainSchema). s.directives) e, ap (λ (s : PlainSchema). s.types) e)))

-- what `==` of schemas says
pub ruleset equality = (schema_eq-Decides)
