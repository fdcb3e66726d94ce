-- What the trees of rows are made of. A place is that from one byte to another in the text with a number.
use Rattle.std.specs.Prelude.{ℕ, ◌+◌, false, List, [], None}
use Rattle.graphql_names.specs.Placed.{Place, Placed, Text}
use Rattle.tree_definitions.specs.DefinitionTree.{DefinitionTree, Operation, ObjectType, DirectiveDefinition, ExtendObject}
use Rattle.tree_definitions.specs.in_type_members.TypeSystemTree.{FieldDefinitionTree, FieldsParts}
use Rattle.schema_fold.specs.in_literals.TypeTree.{NamedTree}
use Rattle.schema_fold.specs.in_directives.DirectiveTree.{DirectiveTree, Directives}
use Rattle.schema_fold.specs.in_directives.declared.directive_location.DirectiveLocation.{DirectiveLocation}
use Rattle.schema_fold.specs.in_directives.declared.operation_type.OperationType.TheVariants.{Query}
use Rattle.tree_definitions.specs.in_operations.SelectionTree.{SelectionTrees, FieldTree, no_selections, selection_then}
use Rattle.graphql_faults.specs.in_grammar.Places.{place_in}
use Rattle.verdict_definitions.specs.Texts.{Terms}

-- the terms of the program
abbrev pub terms : Terms
terms = record { nesting = 500; first_text = 1; first_extension = 1 }

abbrev pub named : List ℕ → Place → Text Place
named text place = record { it = text; place = place }

abbrev pub node : {A : Type 0} → A → Place → Placed Place A
node x place = record { it = x; place = place }

-- name: ty, in the schema text, where the name begins and ends, and the type does
abbrev pub field_definition : List ℕ → ℕ → ℕ → List ℕ → ℕ → ℕ → Placed Place (FieldDefinitionTree Place)
field_definition name begin end ty ty_begin ty_end =
    node (record { description = None; name = named name (place_in 1 begin end); arguments = []; ty = NamedTree (named ty (place_in 1 ty_begin ty_end)); directives = [] }) (place_in 1 begin ty_end)

abbrev pub fields_of : Text Place → Directives Place → List (Placed Place (FieldDefinitionTree Place)) → FieldsParts Place
fields_of name directives fields = record { name = name; interfaces = []; directives = directives; fields = fields }

-- type name { fields }
abbrev pub object : Place → Text Place → List (Placed Place (FieldDefinitionTree Place)) → DefinitionTree Place
object place name fields = ObjectType place None (fields_of name [] fields)

-- extend type name { fields }
abbrev pub extend_object : Place → Text Place → List (Placed Place (FieldDefinitionTree Place)) → DefinitionTree Place
extend_object place name fields = ExtendObject place (fields_of name [] fields)

-- @name
abbrev pub use_of : List ℕ → ℕ → ℕ → Placed Place (DirectiveTree Place)
use_of name begin end = node (record { name = named name (place_in 1 (begin + 1) end); arguments = [] }) (place_in 1 begin end)

-- directive @name on locations
abbrev pub directive : Place → Text Place → List DirectiveLocation → DefinitionTree Place
directive place name locations = DirectiveDefinition place (record { description = None; name = name; arguments = []; directives = []; repeatable = false; locations = locations })

-- a field alone, in the document
abbrev pub field : List ℕ → ℕ → ℕ → SelectionTrees Place → SelectionTrees Place
field name begin end more = selection_then (FieldTree (place_in 2 begin end) (record { alias = None; name = named name (place_in 2 begin end); arguments = []; directives = [] }) no_selections) more

-- { selections }
abbrev pub short_query : Place → SelectionTrees Place → DefinitionTree Place
short_query place selections = Operation place (record { operation_type = Query; name = None; variables = []; directives = []; selections = selections })
