-- Definitions to compute with, without places.
use Rattle.std.proofs.Common.{ℕ, false, List, [], map, None}
use Rattle.graphql_names.specs.Placed.{Placed, Place, Text}
use Rattle.tree_directives.specs.in_literals.TypeTree.{NamedTree}
use Rattle.tree_directives.specs.DirectiveTree.{DirectiveTree, Directives}
use Rattle.tree_directives.specs.declared.directive_location.DirectiveLocation.{DirectiveLocation}
use Rattle.tree_directives.specs.declared.operation_type.OperationType.{OperationType}
use Rattle.schema_types.specs.in_type_members.TypeSystemTree.{FieldDefinitionTree, RootOperationTree, FieldsParts}
use Rattle.tree_definitions.specs.DefinitionTree.{DefinitionTree, DirectiveDefinition, Schema, ScalarType, ObjectType, InterfaceType, ExtendSchema, ExtendScalar, ExtendObject}

abbrev pub word : List ℕ → Text Place
word n = record { it = n; place = None }

abbrev pub here : {A : Type 0} → A → Placed Place A
here x = record { it = x; place = None }

-- n: t
abbrev pub field : List ℕ → List ℕ → Placed Place (FieldDefinitionTree Place)
field n t = here (record { description = None; name = word n; arguments = []; ty = NamedTree (word t); directives = [] })

-- @n
abbrev pub use_of : List ℕ → Placed Place (DirectiveTree Place)
use_of n = here (record { name = word n; arguments = [] })

-- operation: name
abbrev pub root : OperationType → List ℕ → Placed Place (RootOperationTree Place)
root o n = here (record { operation_type = o; name = word n })

abbrev pub parts : List ℕ → List (List ℕ) → Directives Place → List (Placed Place (FieldDefinitionTree Place)) → FieldsParts Place
parts n interfaces directives fields = record { name = word n; interfaces = map word interfaces; directives = directives; fields = fields }

abbrev pub Fields : Type 0
Fields = List (Placed Place (FieldDefinitionTree Place))

abbrev pub object : List ℕ → List (List ℕ) → Directives Place → Fields → DefinitionTree Place
object n interfaces directives fields = ObjectType None None (parts n interfaces directives fields)

abbrev pub interface : List ℕ → Fields → DefinitionTree Place
interface n fields = InterfaceType None None (parts n [] [] fields)

abbrev pub extend_object : List ℕ → List (List ℕ) → Directives Place → Fields → DefinitionTree Place
extend_object n interfaces directives fields = ExtendObject None (parts n interfaces directives fields)

abbrev pub directive : List ℕ → List DirectiveLocation → DefinitionTree Place
directive n locations = DirectiveDefinition None (record { description = None; name = word n; arguments = []; directives = []; repeatable = false; locations = locations })

abbrev pub scalar : List ℕ → DefinitionTree Place
scalar n = ScalarType None None (record { name = word n; directives = [] })

abbrev pub extend_scalar : List ℕ → Directives Place → DefinitionTree Place
extend_scalar n directives = ExtendScalar None (record { name = word n; directives = directives })

abbrev pub schema : Directives Place → List (Placed Place (RootOperationTree Place)) → DefinitionTree Place
schema directives roots = Schema None None (record { directives = directives; roots = roots })

abbrev pub extend_schema : Directives Place → List (Placed Place (RootOperationTree Place)) → DefinitionTree Place
extend_schema directives roots = ExtendSchema None (record { directives = directives; roots = roots })
