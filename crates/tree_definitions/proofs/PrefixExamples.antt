-- Each form of definitions under a prefix of two spaces, of four spaces and of one tab, computed. The texts are written by hand.
use Rattle.std.proofs.Common.{◌≡◌, ℕ, List, [], ◌∷◌, codes, true, Option, None, Some, refl}
use Rattle.spec_tree.specs.in_operations.Joined.{joined}
use Rattle.spec_tree.specs.in_operations.Placed.{Placed, Text}
use Rattle.spec_tree.specs.in_operations.TypeTree.{TypeTree, NamedTree, NonNullNamedTree, NonNullListTree}
use Rattle.spec_tree.specs.in_operations.ValueTree.{ValueTree, IntTree, StringTree, VariableTree, ListTree, ObjectTree, no_items, item_then, no_entries, entry_then}
use Rattle.spec_tree.specs.in_operations.DirectiveTree.{DirectiveTree, ArgumentTree, InputValueTree}
use Rattle.spec_tree.specs.in_operations.SelectionTree.{SelectionTrees, FieldHead, FieldTree, SpreadTree, InlineTree, no_selections, selection_then}
use Rattle.spec_tree.specs.in_operations.OperationTree.{VariableDefinitionTree}
use Rattle.tree_composite_types.specs.in_directives.declared.operation_type.OperationType.TheVariants.{Query, Mutation}
use Rattle.tree_composite_types.specs.in_directives.declared.directive_location.DirectiveLocation.TheVariants as at
use Rattle.tree_composite_types.specs.in_type_members.TypeSystemTree.{FieldDefinitionTree, EnumValueTree, FieldsParts}
use Rattle.tree_definitions.specs.DefinitionTree.{DefinitionTree, Operation, Fragment, DirectiveDefinition, Schema, ScalarType, ObjectType, InterfaceType, UnionType, EnumType, InputObjectType, ExtendObject}
use Rattle.tree_definitions.specs.DocumentLayout.{document_text}

abbrev U : Type 0
U = Unit {0}

abbrev text : List ℕ → Text U
text t = record { it = t; place = tt }

abbrev node : {A : Type 0} → A → Placed U A
node a = record { it = a; place = tt }

-- the text of a definition alone in a document
abbrev under : List ℕ → DefinitionTree U → List ℕ
under prefix t = document_text (Some prefix) 0 (t ∷ [])

abbrev d : List (Placed U (DirectiveTree U))
d = node (record { name = text (codes "d"); arguments = [] }) ∷ []

abbrev named : List ℕ → TypeTree U
named n = NamedTree (text n)

abbrev plain : List ℕ → FieldHead U
plain name = record { alias = None; name = text name; arguments = []; directives = [] }

abbrev only : List ℕ → SelectionTrees U
only name = selection_then (FieldTree tt (plain name) no_selections) no_selections

abbrev argument : List ℕ → ValueTree U → Placed U (ArgumentTree U)
argument name value = node (record { name = text name; value = node value })

abbrev variable : List ℕ → TypeTree U → Option (Placed U (ValueTree U)) → List (Placed U (DirectiveTree U)) → Placed U (VariableDefinitionTree U)
variable name ty default_value directives = node (record { name = text name; ty = node ty; default_value = default_value; directives = directives })

abbrev input : List ℕ → List ℕ → Option (Placed U (ValueTree U)) → List (Placed U (DirectiveTree U)) → Placed U (InputValueTree U)
input name ty default_value directives = node (record { description = None; name = text name; ty = node (named ty); default_value = default_value; directives = directives })

abbrev one : Option (Placed U (ValueTree U))
one = Some (node (IntTree (codes "1")))

abbrev long_query : DefinitionTree U
long_query = Operation tt (record {
  operation_type = Query;
  name = Some (text (codes "Q"));
  variables = variable (codes "v") (NonNullListTree (NonNullNamedTree (text (codes "Int")))) (Some (node (ListTree (item_then tt (IntTree (codes "1")) (item_then tt (IntTree (codes "2")) no_items))))) d ∷ variable (codes "w") (named (codes "I")) None [] ∷ [];
  directives = d;
  selections =
      selection_then (FieldTree tt (record { alias = Some (text (codes "a")); name = text (codes "f"); arguments = argument (codes "x") (ObjectTree (entry_then (text (codes "k")) tt (VariableTree (text (codes "v"))) (entry_then (text (codes "l")) tt (StringTree (codes "s")) no_entries))) ∷ []; directives = d }) (only (codes "b")))
      (selection_then (SpreadTree tt (text (codes "F")) d)
      (selection_then (InlineTree tt (Some (text (codes "T"))) d (only (codes "c"))) no_selections));
})

abbrev short_query : DefinitionTree U
short_query = Operation tt (record { operation_type = Query; name = None; variables = variable (codes "v") (named (codes "Int")) None [] ∷ []; directives = []; selections = only (codes "a") })

abbrev fragment : DefinitionTree U
fragment = Fragment tt (record { name = text (codes "F"); type_condition = text (codes "T"); directives = d; selections = only (codes "a") })

abbrev schema : DefinitionTree U
schema = Schema tt None (record { directives = d; roots = node (record { operation_type = Query; name = text (codes "Q") }) ∷ node (record { operation_type = Mutation; name = text (codes "M") }) ∷ [] })

abbrev scalar : DefinitionTree U
scalar = ScalarType tt None (record { name = text (codes "S"); directives = d })

abbrev field : FieldDefinitionTree U
field = record { description = None; name = text (codes "f"); arguments = input (codes "x") (codes "Int") one d ∷ input (codes "y") (codes "E") None [] ∷ []; ty = named (codes "T"); directives = d }

abbrev fields : FieldsParts U
fields = record { name = text (codes "T"); interfaces = text (codes "A") ∷ text (codes "B") ∷ []; directives = d; fields = node field ∷ [] }

abbrev value : List ℕ → List (Placed U (DirectiveTree U)) → Placed U (EnumValueTree U)
value name ds = node (record { description = None; value = text name; directives = ds })

abbrev union_type : DefinitionTree U
union_type = UnionType tt None (record { name = text (codes "U"); directives = d; members = text (codes "A") ∷ text (codes "B") ∷ [] })

abbrev enum_type : DefinitionTree U
enum_type = EnumType tt None (record { name = text (codes "E"); directives = d; values = value (codes "A") d ∷ value (codes "B") [] ∷ [] })

abbrev input_object : DefinitionTree U
input_object = InputObjectType tt None (record { name = text (codes "I"); directives = d; fields = input (codes "a") (codes "Int") one d ∷ input (codes "b") (codes "Int") None [] ∷ [] })

abbrev directive : DefinitionTree U
directive = DirectiveDefinition tt (record { description = None; name = text (codes "d"); arguments = input (codes "x") (codes "Int") None [] ∷ []; directives = d; repeatable = true; locations = at.Field ∷ at.Query ∷ [] })

long_query_under_two : under (codes "  ") long_query ≡ codes "query Q($v: [Int!]! = [1, 2] @d, $w: I) @d {\n  a: f(x: {k: $v, l: \"s\"}) @d {\n    b\n  }\n  ...F @d\n  ... on T @d {\n    c\n  }\n}\n"
unfolding joined
long_query_under_two = refl

long_query_under_four : under (codes "    ") long_query ≡ codes "query Q($v: [Int!]! = [1, 2] @d, $w: I) @d {\n    a: f(x: {k: $v, l: \"s\"}) @d {\n        b\n    }\n    ...F @d\n    ... on T @d {\n        c\n    }\n}\n"
unfolding joined
long_query_under_four = refl

long_query_under_tab : under (codes "\t") long_query ≡ codes "query Q($v: [Int!]! = [1, 2] @d, $w: I) @d {\n\ta: f(x: {k: $v, l: \"s\"}) @d {\n\t\tb\n\t}\n\t...F @d\n\t... on T @d {\n\t\tc\n\t}\n}\n"
unfolding joined
long_query_under_tab = refl

short_query_under_two : under (codes "  ") short_query ≡ codes "query($v: Int) {\n  a\n}\n"
unfolding joined
short_query_under_two = refl

short_query_under_four : under (codes "    ") short_query ≡ codes "query($v: Int) {\n    a\n}\n"
unfolding joined
short_query_under_four = refl

short_query_under_tab : under (codes "\t") short_query ≡ codes "query($v: Int) {\n\ta\n}\n"
unfolding joined
short_query_under_tab = refl

fragment_under_two : under (codes "  ") fragment ≡ codes "fragment F on T @d {\n  a\n}\n"
unfolding joined
fragment_under_two = refl

fragment_under_four : under (codes "    ") fragment ≡ codes "fragment F on T @d {\n    a\n}\n"
unfolding joined
fragment_under_four = refl

fragment_under_tab : under (codes "\t") fragment ≡ codes "fragment F on T @d {\n\ta\n}\n"
unfolding joined
fragment_under_tab = refl

schema_under_two : under (codes "  ") schema ≡ codes "schema @d {\n  query: Q\n  mutation: M\n}\n"
unfolding joined
schema_under_two = refl

schema_under_four : under (codes "    ") schema ≡ codes "schema @d {\n    query: Q\n    mutation: M\n}\n"
unfolding joined
schema_under_four = refl

schema_under_tab : under (codes "\t") schema ≡ codes "schema @d {\n\tquery: Q\n\tmutation: M\n}\n"
unfolding joined
schema_under_tab = refl

scalar_under_two : under (codes "  ") scalar ≡ codes "scalar S @d\n"
unfolding joined
scalar_under_two = refl

scalar_under_four : under (codes "    ") scalar ≡ codes "scalar S @d\n"
unfolding joined
scalar_under_four = refl

scalar_under_tab : under (codes "\t") scalar ≡ codes "scalar S @d\n"
unfolding joined
scalar_under_tab = refl

object_under_two : under (codes "  ") (ObjectType tt None fields) ≡ codes "type T implements A & B @d {\n  f(x: Int = 1 @d, y: E): T @d\n}\n"
unfolding joined
object_under_two = refl

object_under_four : under (codes "    ") (ObjectType tt None fields) ≡ codes "type T implements A & B @d {\n    f(x: Int = 1 @d, y: E): T @d\n}\n"
unfolding joined
object_under_four = refl

object_under_tab : under (codes "\t") (ObjectType tt None fields) ≡ codes "type T implements A & B @d {\n\tf(x: Int = 1 @d, y: E): T @d\n}\n"
unfolding joined
object_under_tab = refl

extended_object_under_two : under (codes "  ") (ExtendObject tt fields) ≡ codes "extend type T implements A & B @d {\n  f(x: Int = 1 @d, y: E): T @d\n}\n"
unfolding joined
extended_object_under_two = refl

extended_object_under_four : under (codes "    ") (ExtendObject tt fields) ≡ codes "extend type T implements A & B @d {\n    f(x: Int = 1 @d, y: E): T @d\n}\n"
unfolding joined
extended_object_under_four = refl

extended_object_under_tab : under (codes "\t") (ExtendObject tt fields) ≡ codes "extend type T implements A & B @d {\n\tf(x: Int = 1 @d, y: E): T @d\n}\n"
unfolding joined
extended_object_under_tab = refl

interface_under_two : under (codes "  ") (InterfaceType tt None fields) ≡ codes "interface T implements A & B @d {\n  f(x: Int = 1 @d, y: E): T @d\n}\n"
unfolding joined
interface_under_two = refl

interface_under_four : under (codes "    ") (InterfaceType tt None fields) ≡ codes "interface T implements A & B @d {\n    f(x: Int = 1 @d, y: E): T @d\n}\n"
unfolding joined
interface_under_four = refl

interface_under_tab : under (codes "\t") (InterfaceType tt None fields) ≡ codes "interface T implements A & B @d {\n\tf(x: Int = 1 @d, y: E): T @d\n}\n"
unfolding joined
interface_under_tab = refl

union_under_two : under (codes "  ") union_type ≡ codes "union U @d = A | B\n"
unfolding joined
union_under_two = refl

union_under_four : under (codes "    ") union_type ≡ codes "union U @d = A | B\n"
unfolding joined
union_under_four = refl

union_under_tab : under (codes "\t") union_type ≡ codes "union U @d = A | B\n"
unfolding joined
union_under_tab = refl

enum_under_two : under (codes "  ") enum_type ≡ codes "enum E @d {\n  A @d\n  B\n}\n"
unfolding joined
enum_under_two = refl

enum_under_four : under (codes "    ") enum_type ≡ codes "enum E @d {\n    A @d\n    B\n}\n"
unfolding joined
enum_under_four = refl

enum_under_tab : under (codes "\t") enum_type ≡ codes "enum E @d {\n\tA @d\n\tB\n}\n"
unfolding joined
enum_under_tab = refl

input_object_under_two : under (codes "  ") input_object ≡ codes "input I @d {\n  a: Int = 1 @d\n  b: Int\n}\n"
unfolding joined
input_object_under_two = refl

input_object_under_four : under (codes "    ") input_object ≡ codes "input I @d {\n    a: Int = 1 @d\n    b: Int\n}\n"
unfolding joined
input_object_under_four = refl

input_object_under_tab : under (codes "\t") input_object ≡ codes "input I @d {\n\ta: Int = 1 @d\n\tb: Int\n}\n"
unfolding joined
input_object_under_tab = refl

directive_under_two : under (codes "  ") directive ≡ codes "directive @d(x: Int) @d repeatable on FIELD | QUERY\n"
unfolding joined
directive_under_two = refl

directive_under_four : under (codes "    ") directive ≡ codes "directive @d(x: Int) @d repeatable on FIELD | QUERY\n"
unfolding joined
directive_under_four = refl

directive_under_tab : under (codes "\t") directive ≡ codes "directive @d(x: Int) @d repeatable on FIELD | QUERY\n"
unfolding joined
directive_under_tab = refl
