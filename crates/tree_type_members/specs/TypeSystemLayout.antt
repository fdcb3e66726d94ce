-- The texts of type system definitions and their extensions (GraphQL, October 2021, section 3).
use Rattle.std.specs.Prelude.{ℕ, List, [], ◌∷◌, map, codes}
use Rattle.tree_literals.specs.in_names.Placed.{Text}
use Rattle.tree_directives.specs.DirectiveTree.{Directives}
use Rattle.tree_literals.specs.Joined.{joined, further_text}
use Rattle.tree_literals.specs.LineLayout.{Prefix, Leveled, set_text}
use Rattle.tree_literals.specs.StringLayout.{description_text}
use Rattle.tree_literals.specs.ValueLayout.{type_text}
use Rattle.tree_directives.specs.DirectiveLayout.{directives_text}
use Rattle.tree_literals.specs.LineLayout.{texts_of}
use Rattle.tree_directives.specs.InputLayout.{input_value_text, argument_definitions_text}
use Rattle.tree_directives.specs.OperationQueries.{operation_keyword}
use Rattle.tree_type_members.specs.TypeSystemTree.{FieldDefinitionTree, EnumValueTree, RootOperationTree, SchemaParts, ScalarParts, FieldsParts, UnionParts, EnumParts, InputObjectParts}

abbrev pub name_text : {P : Type 0} → Text P → List ℕ
name_text n = n.it

-- names after a keyword, with a sign between each two; the empty text without names
abbrev pub names_text : {P : Type 0} → List ℕ → List ℕ → List (Text P) → List ℕ
names_text keyword sign [] = joined []
names_text keyword sign (n ∷ ns) = joined (keyword ∷ name_text n ∷ further_text sign (map name_text ns) ∷ [])

-- name(arguments): ty @directives
abbrev pub undescribed_field_text : {P : Type 0} → Prefix → FieldDefinitionTree P → Leveled
undescribed_field_text prefix f level =
    joined (f.name.it ∷ argument_definitions_text prefix f.arguments level ∷ codes ": " ∷ type_text f.ty ∷ directives_text f.directives ∷ [])

-- the same after its description
abbrev pub field_definition_text : {P : Type 0} → Prefix → FieldDefinitionTree P → Leveled
field_definition_text prefix f level = joined (description_text prefix level f.description ∷ undescribed_field_text prefix f level ∷ [])

-- description value @directives
abbrev pub enum_value_text : {P : Type 0} → Prefix → EnumValueTree P → Leveled
enum_value_text prefix v level = joined (description_text prefix level v.description ∷ v.value.it ∷ directives_text v.directives ∷ [])

-- operation: name
abbrev pub root_text : {P : Type 0} → RootOperationTree P → Leveled
root_text r level = joined (operation_keyword r.operation_type ∷ codes ": " ∷ r.name.it ∷ [])

-- keyword name implements A & B @directives
abbrev pub head_text : {P : Type 0} → List ℕ → Text P → List (Text P) → Directives P → List ℕ
head_text keyword name interfaces ds =
    joined (keyword ∷ name.it ∷ names_text (codes " implements ") (codes " & ") interfaces ∷ directives_text ds ∷ [])

-- Below, `lead` is what comes before a definition: its description, or the word `extend`.

abbrev pub extend : List ℕ
extend = codes "extend "

-- schema @directives { roots }
abbrev pub schema_text : {P : Type 0} → List ℕ → Prefix → SchemaParts P → Leveled
schema_text lead prefix s level =
    joined (lead ∷ codes "schema" ∷ directives_text s.directives ∷ set_text prefix level (texts_of root_text s.roots) ∷ [])

-- scalar name @directives
abbrev pub scalar_text : {P : Type 0} → List ℕ → ScalarParts P → List ℕ
scalar_text lead t = joined (lead ∷ head_text (codes "scalar ") t.name [] t.directives ∷ [])

-- type or interface name implements A & B @directives { fields }
abbrev pub fields_text : {P : Type 0} → List ℕ → List ℕ → Prefix → FieldsParts P → Leveled
fields_text lead keyword prefix t level =
    joined (lead ∷ head_text keyword t.name t.interfaces t.directives ∷ set_text prefix level (texts_of (field_definition_text prefix) t.fields) ∷ [])

-- union name @directives = A | B
abbrev pub union_text : {P : Type 0} → List ℕ → UnionParts P → List ℕ
union_text lead t = joined (lead ∷ head_text (codes "union ") t.name [] t.directives ∷ names_text (codes " = ") (codes " | ") t.members ∷ [])

-- enum name @directives { values }
abbrev pub enum_text : {P : Type 0} → List ℕ → Prefix → EnumParts P → Leveled
enum_text lead prefix t level =
    joined (lead ∷ head_text (codes "enum ") t.name [] t.directives ∷ set_text prefix level (texts_of (enum_value_text prefix) t.values) ∷ [])

-- input name @directives { fields }
abbrev pub input_object_text : {P : Type 0} → List ℕ → Prefix → InputObjectParts P → Leveled
input_object_text lead prefix t level =
    joined (lead ∷ head_text (codes "input ") t.name [] t.directives ∷ set_text prefix level (texts_of (input_value_text prefix) t.fields) ∷ [])
