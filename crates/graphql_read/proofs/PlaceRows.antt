-- Each place of a tree counts, by computation: in trees with all their parts, whose places are the numbers from 0 on, one that
-- does not pass is enough.
use Rattle.std.proofs.Common.{◌≡◌, ℕ, zero, suc, ◌+◌, Bool, true, ◌&&◌, not, nat_eq, [], ◌∷◌, Some, refl}
use Rattle.tree_operations.specs.in_directives.declared.operation_type.OperationType.TheVariants.{Query}
use Rattle.graphql_names.specs.Placed.{Placed, Text}
use Rattle.tree_literals.specs.TypeTree.{TypeTree, NamedTree, NonNullNamedTree, ListTree as ListTypeTree, NonNullListTree}
use Rattle.tree_literals.specs.ValueTree.{ValueTree, EnumTree, VariableTree, ListTree, ObjectTree, no_items, item_then, no_entries, entry_then}
use Rattle.tree_operations.specs.in_directives.DirectiveTree.{Directives, InputValueTree}
use Rattle.tree_operations.specs.SelectionTree.{FieldHead, SelectionTrees, FieldTree, SpreadTree, InlineTree, no_selections, selection_then}
use Rattle.tree_operations.specs.OperationTree.{VariableDefinitionTree}
use Rattle.read_types.specs.in_type_members.TypeSystemTree.{FieldDefinitionTree, SchemaParts, ScalarParts, FieldsParts, UnionParts, EnumParts, InputObjectParts}
use Rattle.read_types.specs.in_definitions.DefinitionTree.{DefinitionTree, Operation, Fragment, DirectiveDefinition, Schema, ScalarType, ObjectType, InterfaceType, UnionType, EnumType, InputObjectType, ExtendSchema, ExtendScalar, ExtendObject, ExtendInterface, ExtendUnion, ExtendEnum, ExtendInputObject}
use Rattle.graphql_read.specs.EachPlace.{all_in_type, all_in_selections, all_in_definition}

-- no place below the number may fail
abbrev each_counts : ℕ → ((ℕ → Bool) → Bool) → Bool
each_counts zero holds = true
each_counts (suc n) holds = not (holds (λ place. not (nat_eq place n))) && each_counts n holds

-- where all pass, the test does; and so many places count
abbrev have_places : ℕ → ((ℕ → Bool) → Bool) → Bool
have_places n holds = holds (λ place. true) && each_counts n holds

-- ---- trees whose places begin with a number

abbrev text : ℕ → Text ℕ
text k = record { it = []; place = k }

abbrev node : {A : Type 0} → ℕ → A → Placed ℕ A
node k x = record { it = x; place = k }

-- 1
abbrev type : ℕ → TypeTree ℕ
type k = ListTypeTree (NonNullListTree (NonNullNamedTree (text k)))

-- 6
abbrev value : ℕ → ValueTree ℕ
value k = ObjectTree (entry_then (text k) (k + 1) (ListTree (item_then (k + 2) (EnumTree (text (k + 3))) (item_then (k + 4) (VariableTree (text (k + 5))) no_items))) no_entries)

-- 11
abbrev directives : ℕ → Directives ℕ
directives k = node k (record { name = text (k + 1); arguments = node (k + 2) (record { name = text (k + 3); value = node (k + 4) (value (k + 5)) }) ∷ [] }) ∷ []

-- 22
abbrev input_value : ℕ → InputValueTree ℕ
input_value k = record {
  description = Some (text k);
  name = text (k + 1);
  ty = node (k + 2) (type (k + 3));
  default_value = Some (node (k + 4) (value (k + 5)));
  directives = directives (k + 11);
}

-- 22
abbrev head : ℕ → FieldHead ℕ
head k = record {
  alias = Some (text k);
  name = text (k + 1);
  arguments = node (k + 2) (record { name = text (k + 3); value = node (k + 4) (value (k + 5)) }) ∷ [];
  directives = directives (k + 11);
}

-- 51: a field and an inline fragment with a spread in each
abbrev selections : ℕ → SelectionTrees ℕ
selections k =
    selection_then (FieldTree k (head (k + 1)) (selection_then (SpreadTree (k + 23) (text (k + 24)) (directives (k + 25))) no_selections))
    (selection_then (InlineTree (k + 36) (Some (text (k + 37))) (directives (k + 38)) (selection_then (SpreadTree (k + 49) (text (k + 50)) []) no_selections)) no_selections)

-- 21
abbrev variable : ℕ → VariableDefinitionTree ℕ
variable k = record { name = text k; ty = node (k + 1) (type (k + 2)); default_value = Some (node (k + 3) (value (k + 4))); directives = directives (k + 10) }

-- 37
abbrev field : ℕ → FieldDefinitionTree ℕ
field k = record { description = Some (text k); name = text (k + 1); arguments = node (k + 2) (input_value (k + 3)) ∷ []; ty = type (k + 25); directives = directives (k + 26) }

-- 51
abbrev fields : ℕ → FieldsParts ℕ
fields k = record { name = text k; interfaces = text (k + 1) ∷ []; directives = directives (k + 2); fields = node (k + 13) (field (k + 14)) ∷ [] }

-- 13
abbrev schema : ℕ → SchemaParts ℕ
schema k = record { directives = directives k; roots = node (k + 11) (record { operation_type = Query; name = text (k + 12) }) ∷ [] }

-- 12
abbrev scalar : ℕ → ScalarParts ℕ
scalar k = record { name = text k; directives = directives (k + 1) }

-- 13
abbrev union : ℕ → UnionParts ℕ
union k = record { name = text k; directives = directives (k + 1); members = text (k + 12) ∷ [] }

-- 26
abbrev enum : ℕ → EnumParts ℕ
enum k = record { name = text k; directives = directives (k + 1); values = node (k + 12) (record { description = Some (text (k + 13)); value = text (k + 14); directives = directives (k + 15) }) ∷ [] }

-- 35
abbrev input_object : ℕ → InputObjectParts ℕ
input_object k = record { name = text k; directives = directives (k + 1); fields = node (k + 12) (input_value (k + 13)) ∷ [] }

-- ---- rows

abbrev Row : ℕ → DefinitionTree ℕ → Type 0
Row n d = have_places n (λ passes. all_in_definition passes d) ≡ true

named : have_places 1 (λ passes. all_in_type passes (NamedTree (text 0))) ≡ true
named = refl

other_types : have_places 1 (λ passes. all_in_type passes (type 0)) ≡ true
other_types = refl

selected : have_places 51 (λ passes. all_in_selections passes (selections 0)) ≡ true
selected = refl

operation : Row 86 (Operation 0 (record { operation_type = Query; name = Some (text 1); variables = node 2 (variable 3) ∷ []; directives = directives 24; selections = selections 35 }))
operation = refl

fragment : Row 65 (Fragment 0 (record { name = text 1; type_condition = text 2; directives = directives 3; selections = selections 14 }))
fragment = refl

directive_definition : Row 37 (DirectiveDefinition 0 (record { description = Some (text 1); name = text 2; arguments = node 3 (input_value 4) ∷ []; directives = directives 26; repeatable = true; locations = [] }))
directive_definition = refl

schema_definition : Row 15 (Schema 0 (Some (text 1)) (schema 2))
schema_definition = refl

scalar_type : Row 14 (ScalarType 0 (Some (text 1)) (scalar 2))
scalar_type = refl

object_type : Row 53 (ObjectType 0 (Some (text 1)) (fields 2))
object_type = refl

interface_type : Row 53 (InterfaceType 0 (Some (text 1)) (fields 2))
interface_type = refl

union_type : Row 15 (UnionType 0 (Some (text 1)) (union 2))
union_type = refl

enum_type : Row 28 (EnumType 0 (Some (text 1)) (enum 2))
enum_type = refl

input_object_type : Row 37 (InputObjectType 0 (Some (text 1)) (input_object 2))
input_object_type = refl

schema_extension : Row 14 (ExtendSchema 0 (schema 1))
schema_extension = refl

scalar_extension : Row 13 (ExtendScalar 0 (scalar 1))
scalar_extension = refl

object_extension : Row 52 (ExtendObject 0 (fields 1))
object_extension = refl

interface_extension : Row 52 (ExtendInterface 0 (fields 1))
interface_extension = refl

union_extension : Row 14 (ExtendUnion 0 (union 1))
union_extension = refl

enum_extension : Row 27 (ExtendEnum 0 (enum 1))
enum_extension = refl

input_object_extension : Row 36 (ExtendInputObject 0 (input_object 1))
input_object_extension = refl
