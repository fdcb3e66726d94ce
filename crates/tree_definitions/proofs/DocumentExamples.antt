-- The layout of small documents, computed. The texts are written by hand.
use Rattle.std.proofs.Common.{◌≡◌, ℕ, List, [], ◌∷◌, codes, Option, None, Some, refl}
use Rattle.spec_tree.specs.in_operations.Joined.{joined}
use Rattle.spec_tree.specs.in_operations.Placed.{Placed, Text}
use Rattle.spec_tree.specs.in_operations.TypeTree.{TypeTree, NamedTree}
use Rattle.spec_tree.specs.in_operations.ValueTree.{ValueTree, IntTree}
use Rattle.spec_tree.specs.in_operations.DirectiveTree.{DirectiveTree, InputValueTree}
use Rattle.spec_tree.specs.in_operations.SelectionTree.{FieldTree, no_selections, selection_then}
use Rattle.spec_tree.specs.in_operations.LineLayout.{Prefix}
use Rattle.tree_composite_types.specs.in_directives.declared.operation_type.OperationType.TheVariants.{Query, Mutation}
use Rattle.tree_composite_types.specs.in_type_members.TypeSystemTree.{FieldDefinitionTree, EnumValueTree, FieldsParts}
use Rattle.tree_definitions.specs.DefinitionTree.{DefinitionTree, Operation, Schema, ScalarType, ObjectType, InterfaceType, UnionType, EnumType, InputObjectType, ExtendSchema, ExtendScalar, ExtendObject, ExtendUnion}
use Rattle.tree_definitions.specs.DocumentLayout.{document_text}

abbrev U : Type 0
U = Unit {0}

abbrev text : List ℕ → Text U
text t = record { it = t; place = tt }

abbrev node : {A : Type 0} → A → Placed U A
node a = record { it = a; place = tt }

abbrev two : Prefix
two = Some (codes "  ")

abbrev four : Prefix
four = Some (codes "    ")

abbrev tab : Prefix
tab = Some (codes "\t")

abbrev named : List ℕ → TypeTree U
named n = NamedTree (text n)

abbrev d : List (Placed U (DirectiveTree U))
d = node (record { name = text (codes "d"); arguments = [] }) ∷ []

abbrev input : Option (Text U) → List ℕ → List ℕ → Option (Placed U (ValueTree U)) → List (Placed U (DirectiveTree U)) → Placed U (InputValueTree U)
input description name ty default_value directives = node (record { description = description; name = text name; ty = node (named ty); default_value = default_value; directives = directives })

abbrev one : Option (Placed U (ValueTree U))
one = Some (node (IntTree (codes "1")))

abbrev in_line : DefinitionTree U → List ℕ
in_line t = document_text None 0 (t ∷ [])

abbrev short_query : DefinitionTree U
short_query = Operation tt (record { operation_type = Query; name = None; variables = []; directives = []; selections = selection_then (FieldTree tt (record { alias = None; name = text (codes "a"); arguments = []; directives = [] }) no_selections) no_selections })

two_operations : document_text None 0 (short_query ∷ short_query ∷ []) ≡ codes "{ a } query { a }"
unfolding joined
two_operations = refl

two_operations_on_lines : document_text two 0 (short_query ∷ short_query ∷ []) ≡ codes "{\n  a\n}\n\nquery {\n  a\n}\n"
unfolding joined
two_operations_on_lines = refl

document_at_level : document_text two 1 (short_query ∷ short_query ∷ []) ≡ codes "  query {\n    a\n  }\n\n  query {\n    a\n  }\n"
unfolding joined
document_at_level = refl

-- schema @d { query: Q mutation: M }
abbrev schema : DefinitionTree U
schema = Schema tt None (record { directives = d; roots = node (record { operation_type = Query; name = text (codes "Q") }) ∷ node (record { operation_type = Mutation; name = text (codes "M") }) ∷ [] })

schema_in_line : in_line schema ≡ codes "schema @d { query: Q mutation: M }"
unfolding joined
schema_in_line = refl

schema_under_four : document_text four 0 (schema ∷ []) ≡ codes "schema @d {\n    query: Q\n    mutation: M\n}\n"
unfolding joined
schema_under_four = refl

scalar_in_line : in_line (ScalarType tt None (record { name = text (codes "S"); directives = d })) ≡ codes "scalar S @d"
unfolding joined
scalar_in_line = refl

-- type T implements A & B @d { f(x: Int = 1 @d, y: E): T @d }
abbrev field : FieldDefinitionTree U
field = record { description = None; name = text (codes "f"); arguments = input None (codes "x") (codes "Int") one d ∷ input None (codes "y") (codes "E") None [] ∷ []; ty = named (codes "T"); directives = d }

abbrev object : FieldsParts U
object = record { name = text (codes "T"); interfaces = text (codes "A") ∷ text (codes "B") ∷ []; directives = d; fields = node field ∷ [] }

object_in_line : in_line (ObjectType tt None object) ≡ codes "type T implements A & B @d { f(x: Int = 1 @d, y: E): T @d }"
unfolding joined
object_in_line = refl

object_under_tab : document_text tab 0 (ObjectType tt None object ∷ []) ≡ codes "type T implements A & B @d {\n\tf(x: Int = 1 @d, y: E): T @d\n}\n"
unfolding joined
object_under_tab = refl

interface_in_line : in_line (InterfaceType tt None object) ≡ codes "interface T implements A & B @d { f(x: Int = 1 @d, y: E): T @d }"
unfolding joined
interface_in_line = refl

union_in_line : in_line (UnionType tt None (record { name = text (codes "U"); directives = d; members = text (codes "A") ∷ text (codes "B") ∷ [] })) ≡ codes "union U @d = A | B"
unfolding joined
union_in_line = refl

abbrev value : List ℕ → List (Placed U (DirectiveTree U)) → Placed U (EnumValueTree U)
value name ds = node (record { description = None; value = text name; directives = ds })

enum_in_line : in_line (EnumType tt None (record { name = text (codes "E"); directives = d; values = value (codes "A") d ∷ value (codes "B") [] ∷ [] })) ≡ codes "enum E @d { A @d B }"
unfolding joined
enum_in_line = refl

input_object_in_line : in_line (InputObjectType tt None (record { name = text (codes "I"); directives = d; fields = input None (codes "a") (codes "Int") one d ∷ input None (codes "b") (codes "Int") None [] ∷ [] })) ≡ codes "input I @d { a: Int = 1 @d b: Int }"
unfolding joined
input_object_in_line = refl

-- extensions and descriptions
extensions_in_line : document_text None 0 (ExtendScalar tt (record { name = text (codes "S"); directives = d }) ∷ ExtendUnion tt (record { name = text (codes "U"); directives = []; members = text (codes "A") ∷ [] }) ∷ []) ≡ codes "extend scalar S @d extend union U = A"
unfolding joined
extensions_in_line = refl

extensions_on_lines : document_text two 0 (ExtendSchema tt (record { directives = d; roots = [] }) ∷ ExtendObject tt object ∷ []) ≡ codes "extend schema @d\n\nextend type T implements A & B @d {\n  f(x: Int = 1 @d, y: E): T @d\n}\n"
unfolding joined
extensions_on_lines = refl

described_in_line : in_line (ScalarType tt (Some (text (codes "x\ny"))) (record { name = text (codes "S"); directives = [] })) ≡ codes "\"x\\ny\" scalar S"
unfolding joined
described_in_line = refl

described_on_lines : document_text two 0 (ScalarType tt (Some (text (codes "x\ny"))) (record { name = text (codes "S"); directives = [] }) ∷ []) ≡ codes "\"\"\"\nx\ny\n\"\"\"\nscalar S\n"
unfolding joined
described_on_lines = refl

-- type Query { f("d" x: Int, y: Int): Int }
abbrev described_argument : DefinitionTree U
described_argument = ObjectType tt None (record { name = text (codes "Query"); interfaces = []; directives = []; fields = node (record { description = None; name = text (codes "f"); arguments = input (Some (text (codes "d"))) (codes "x") (codes "Int") None [] ∷ input None (codes "y") (codes "Int") None [] ∷ []; ty = named (codes "Int"); directives = [] }) ∷ [] })

described_argument_in_line : in_line described_argument ≡ codes "type Query { f(\"d\" x: Int, y: Int): Int }"
unfolding joined
described_argument_in_line = refl

described_argument_on_lines : document_text two 0 (described_argument ∷ []) ≡ codes "type Query {\n  f(\n    \"d\"\n    x: Int\n    y: Int\n  ): Int\n}\n"
unfolding joined
described_argument_on_lines = refl

-- one operation alone at level 1 has no line feed at its end, and a definition without fields has no braces
empty_type : in_line (ObjectType tt None (record { name = text (codes "T"); interfaces = []; directives = []; fields = [] })) ≡ codes "type T"
unfolding joined
empty_type = refl
