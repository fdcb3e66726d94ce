-- What is written of small lists of definitions, after all that is built in. All parts are at one place of a text.
use Rattle.std.proofs.Common.{◌≡◌, ℕ, false, List, [], ◌∷◌, map, codes, Option, None, Some, refl}
use Rattle.graphql_names.specs.Placed.{Place, Placed, Text}
use Rattle.schema_built_in.specs.Table.{built_in_definitions}
use Rattle.tree_definitions.specs.DefinitionTree.{DefinitionTree, ObjectType, InterfaceType, DirectiveDefinition, Schema, Operation, Fragment, ExtendScalar, ExtendObject, ExtendSchema}
use Rattle.tree_definitions.specs.in_type_members.TypeSystemTree.{FieldDefinitionTree, FieldsParts}
use Rattle.schema_fold.specs.in_literals.TypeTree.{NamedTree, NonNullNamedTree}
use Rattle.schema_fold.specs.in_directives.DirectiveTree.{DirectiveTree, Directives, InputValueTree}
use Rattle.schema_fold.specs.in_directives.declared.directive_location.DirectiveLocation.{DirectiveLocation}
use Rattle.schema_fold.specs.in_directives.declared.directive_location.DirectiveLocation.TheVariants as at
use Rattle.schema_fold.specs.in_directives.declared.operation_type.OperationType.TheVariants as operation
use Rattle.tree_definitions.specs.in_operations.SelectionTree.{SelectionTrees, FieldTree, SpreadTree, no_selections, selection_then}
use Rattle.graphql_faults.specs.in_grammar.Places.{place_in}
use Rattle.tree_definitions.specs.in_operations.Joined.{joined}
use Rattle.verdict_definitions.specs.Texts.{Tree}
use Rattle.verdict_definitions.specs.Out.{Out, OutDoc, layout_text}
use Rattle.verdict_definitions.proofs.RowTrees.{terms}

abbrev here : Place
here = place_in 1 0 1

abbrev word : List ℕ → Text Place
word n = record { it = n; place = here }

abbrev node : {A : Type 0} → A → Placed Place A
node x = record { it = x; place = here }

-- name: ty
abbrev field : List ℕ → List ℕ → Placed Place (FieldDefinitionTree Place)
field name ty = node (record { description = None; name = word name; arguments = []; ty = NamedTree (word ty); directives = [] })

-- @name
abbrev use_of : List ℕ → Placed Place (DirectiveTree Place)
use_of name = node (record { name = word name; arguments = [] })

abbrev fields_of : List ℕ → List (List ℕ) → Directives Place → List (Placed Place (FieldDefinitionTree Place)) → FieldsParts Place
fields_of name interfaces directives fields = record { name = word name; interfaces = map word interfaces; directives = directives; fields = fields }

abbrev object : List ℕ → List (Placed Place (FieldDefinitionTree Place)) → DefinitionTree Place
object name fields = ObjectType here None (fields_of name [] [] fields)

abbrev extend_object : List ℕ → List (Placed Place (FieldDefinitionTree Place)) → DefinitionTree Place
extend_object name fields = ExtendObject here (fields_of name [] [] fields)

abbrev directive : List ℕ → List (Placed Place (InputValueTree Place)) → List DirectiveLocation → DefinitionTree Place
directive name arguments locations = DirectiveDefinition here (record { description = None; name = word name; arguments = arguments; directives = []; repeatable = false; locations = locations })

abbrev query_of : List (Placed Place (FieldDefinitionTree Place)) → DefinitionTree Place
query_of fields = object (codes "Query") fields

abbrev a : Placed Place (FieldDefinitionTree Place)
a = field (codes "a") (codes "Int")

abbrev b : Placed Place (FieldDefinitionTree Place)
b = field (codes "b") (codes "Int")

-- the written schema of these definitions, on one line
abbrev line_of : Tree → List ℕ
line_of ds = layout_text None (Out terms (ds ∷ []))

-- S `type Query { a: Int }`: the implicit schema is left out
implicit : line_of (query_of (a ∷ []) ∷ []) ≡ codes "type Query { a: Int }"
unfolding built_in_definitions place_in joined
implicit = refl

-- S `schema { query: Query } type Query { a: Int }`: so is one that is written, where its roots are the implicit ones
abbrev schema_of_query : DefinitionTree Place
schema_of_query = Schema here None (record { directives = []; roots = node (record { operation_type = operation.Query; name = word (codes "Query") }) ∷ [] })

left_out : line_of (schema_of_query ∷ query_of (a ∷ []) ∷ []) ≡ codes "type Query { a: Int }"
unfolding built_in_definitions place_in joined
left_out = refl

-- S `schema { query: Query } type Query { m: Mutation } type Mutation { a: Int }`: it has no mutation root, and is written as it is
not_implicit : line_of (schema_of_query ∷ query_of (field (codes "m") (codes "Mutation") ∷ []) ∷ object (codes "Mutation") (a ∷ []) ∷ [])
    ≡ codes "schema { query: Query } type Query { m: Mutation } type Mutation { a: Int }"
unfolding built_in_definitions place_in joined
not_implicit = refl

-- S `extend type Query { b: Int } type Query { a: Int }`: an extension before its type is written after it
in_front : line_of (extend_object (codes "Query") (b ∷ []) ∷ query_of (a ∷ []) ∷ []) ≡ codes "type Query { a: Int } extend type Query { b: Int }"
unfolding built_in_definitions place_in joined
in_front = refl

-- the two definitions as two texts, in either order
two_texts : layout_text None (Out terms ((extend_object (codes "Query") (b ∷ []) ∷ []) ∷ (query_of (a ∷ []) ∷ []) ∷ [])) ≡ codes "type Query { a: Int } extend type Query { b: Int }"
unfolding built_in_definitions place_in joined
two_texts = refl

two_texts_back : layout_text None (Out terms ((query_of (a ∷ []) ∷ []) ∷ (extend_object (codes "Query") (b ∷ []) ∷ []) ∷ [])) ≡ codes "type Query { a: Int } extend type Query { b: Int }"
unfolding built_in_definitions place_in joined
two_texts_back = refl

-- S `type Query { field: Int } extend schema @dir directive @dir on SCHEMA`: an implicit schema that is extended is written
schema_extended : line_of (query_of (field (codes "field") (codes "Int") ∷ []) ∷ ExtendSchema here (record { directives = use_of (codes "dir") ∷ []; roots = [] }) ∷ directive (codes "dir") [] (at.Schema ∷ []) ∷ [])
    ≡ codes "schema { query: Query } extend schema @dir directive @dir on SCHEMA type Query { field: Int }"
unfolding built_in_definitions place_in joined
schema_extended = refl

-- S `extend scalar ID @d directive @d on SCALAR type Query { a: Int }`: an extension of a built-in type is written alone
built_in_extended : line_of (ExtendScalar here (record { name = word (codes "ID"); directives = use_of (codes "d") ∷ [] }) ∷ directive (codes "d") [] (at.Scalar ∷ []) ∷ query_of (a ∷ []) ∷ [])
    ≡ codes "directive @d on SCALAR extend scalar ID @d type Query { a: Int }"
unfolding built_in_definitions place_in joined
built_in_extended = refl

-- S `directive @skip(if: Boolean!) on FIELD | FRAGMENT_SPREAD | INLINE_FRAGMENT type Query { a: Int }`: a definition that replaces a built-in one is written
abbrev if_boolean : Placed Place (InputValueTree Place)
if_boolean = node (record { description = None; name = word (codes "if"); ty = node (NonNullNamedTree (word (codes "Boolean"))); default_value = None; directives = [] })

skip_defined : line_of (directive (codes "skip") (if_boolean ∷ []) (at.Field ∷ at.FragmentSpread ∷ at.InlineFragment ∷ []) ∷ query_of (a ∷ []) ∷ [])
    ≡ codes "directive @skip(if: Boolean!) on FIELD | FRAGMENT_SPREAD | INLINE_FRAGMENT type Query { a: Int }"
unfolding built_in_definitions place_in joined
skip_defined = refl

-- S `extend type Query { withArg(arg: Boolean): String @deprecated, } type Query { int: Int, } extend type Query implements Inter interface Inter { string: String }
-- extend type Query @customDirective extend type Query { string: String, } directive @customDirective on OBJECT`
abbrev with_arg : Placed Place (FieldDefinitionTree Place)
with_arg = node (record {
  description = None;
  name = word (codes "withArg");
  arguments = node (record { description = None; name = word (codes "arg"); ty = node (NamedTree (word (codes "Boolean"))); default_value = None; directives = [] }) ∷ [];
  ty = NamedTree (word (codes "String"));
  directives = use_of (codes "deprecated") ∷ [];
})

abbrev five_extensions : Tree
five_extensions =
    extend_object (codes "Query") (with_arg ∷ [])
    ∷ query_of (field (codes "int") (codes "Int") ∷ [])
    ∷ ExtendObject here (fields_of (codes "Query") (codes "Inter" ∷ []) [] [])
    ∷ InterfaceType here None (fields_of (codes "Inter") [] [] (field (codes "string") (codes "String") ∷ []))
    ∷ ExtendObject here (fields_of (codes "Query") [] (use_of (codes "customDirective") ∷ []) [])
    ∷ extend_object (codes "Query") (field (codes "string") (codes "String") ∷ [])
    ∷ directive (codes "customDirective") [] (at.Object ∷ [])
    ∷ []

in_order : line_of five_extensions
    ≡ codes "directive @customDirective on OBJECT type Query { int: Int } extend type Query @customDirective extend type Query implements Inter extend type Query { withArg(arg: Boolean): String @deprecated } extend type Query { string: String } interface Inter { string: String }"
unfolding built_in_definitions place_in joined
in_order = refl

-- S `"x\ny" type Query { a: Int }`, under two spaces
described : layout_text (Some (codes "  ")) (Out terms ((ObjectType here (Some (word (codes "x\ny"))) (fields_of (codes "Query") [] [] (a ∷ [])) ∷ []) ∷ [])) ≡ codes "\"\"\"\nx\ny\n\"\"\"\ntype Query {\n  a: Int\n}\n"
unfolding built_in_definitions place_in joined
described = refl

-- ---- documents

abbrev leaf : List ℕ → SelectionTrees Place → SelectionTrees Place
leaf name more = selection_then (FieldTree here (record { alias = None; name = word name; arguments = []; directives = [] }) no_selections) more

abbrev query : Option (Text Place) → SelectionTrees Place → DefinitionTree Place
query name selections = Operation here (record { operation_type = operation.Query; name = name; variables = []; directives = []; selections = selections })

-- D `{ b a }`: selections stay in their order
selections_in_order : layout_text None (OutDoc (query None (leaf (codes "b") (leaf (codes "a") no_selections)) ∷ [])) ≡ codes "{ b a }"
unfolding joined
selections_in_order = refl

-- D `fragment F on Query { a } query Q { ...F } { b }`: an operation without a name first, and fragments last
operations_first : layout_text None (OutDoc (
    Fragment here (record { name = word (codes "F"); type_condition = word (codes "Query"); directives = []; selections = leaf (codes "a") no_selections })
    ∷ query (Some (word (codes "Q"))) (selection_then (SpreadTree here (word (codes "F")) []) no_selections)
    ∷ query None (leaf (codes "b") no_selections)
    ∷ []))
    ≡ codes "{ b } query Q { ...F } fragment F on Query { a }"
unfolding joined
operations_first = refl
