-- Types (sections 3.5 to 3.10). That the names of a type's fields, values and members differ is a rule of folding.
use Rattle.std.specs.Prelude.{◌≡◌, ℕ, true, false, List, Some}
use Rattle.graphql_names.specs.Placed.{Text}
use Rattle.tree_literals.specs.TypeTree.{NonNullNamedTree}
use Rattle.tree_directives.specs.declared.directive_location.DirectiveLocation.TheVariants as location
use Rattle.tree_directives.specs.DirectiveTree.{InputValueTree}
use Rattle.tree_type_members.specs.TypeSystemTree.{FieldDefinitionTree, EnumValueTree}
use Rattle.schema_types.specs.Looks.{TypeLooks}
use Rattle.schema_types.specs.Addresses.{TypeAt, InputAt}
use Rattle.schema_types.specs.declared.type_kind.TypeKind.{TypeKind}
use Rattle.schema_types.specs.declared.type_kind.TypeKind.TheVariants as kind
use Rattle.rule_definitions.specs.Words.{Present, Somewhere, IsEmpty}
use Rattle.rule_definitions.specs.Judged.{Judged, IsBuiltInScalar, type_location}
use Rattle.rule_document_definitions.specs.Reached.{Closed}
use Rattle.book_validity.specs.Words.{Never}
use Rattle.book_validity.specs.Members.{IsNameAllowed, AreApplied, IsValidFieldDefinition, IsValidEnumValue, IsValidInputValue}
use Rattle.book_validity.specs.Interfaces.{IsValidImplementation}

-- "An Object type must define one or more fields", and so must an interface and an input object; "A Union type must include one or more
-- unique member types"; "An Enum type must define one or more unique enum values"
abbrev pub HasParts : TypeLooks → TypeKind → Type 0
HasParts t kind.Scalar = Unit {0}
HasParts t kind.Object = Never (IsEmpty t.field)
HasParts t kind.Interface = Never (IsEmpty t.field)
HasParts t kind.Union = Never ((m : List ℕ) → t.has_member m ≡ false)
HasParts t kind.Enum = Never (IsEmpty t.value)
HasParts t kind.InputObject = Never (IsEmpty t.input)

-- 3.10 "references .. directly": a value of the input object n must contain one of m, in a field of the type `m!`, neither nullable nor a list
pub record Requires (s : Judged) (n m : List ℕ) : Type 0 where
  pub from : Present (s.type_named n) (λ t. (t.kind ≡ kind.InputObject) × Somewhere t.input (λ k v. (name : Text (Unit {0})) × ((v.ty.it ≡ NonNullNamedTree name) × (name.it ≡ m))))
  pub to : Present (s.type_named m) (λ u. u.kind ≡ kind.InputObject)

-- the type of this name
pub record IsValidType (s : Judged) (n : List ℕ) (t : TypeLooks) : Type 0 where
  -- 2.1.9 Reserved Names
  pub allowed : IsNameAllowed s (TypeAt n) n
  pub parts : HasParts t t.kind
  -- 3.6, 3.7 Objects and Interfaces
  pub fields : (m : List ℕ) (f : FieldDefinitionTree (Unit {0})) → t.field m ≡ Some f → IsValidFieldDefinition s n m f
  -- "must be a super-set of all interfaces it implements"
  pub implements : (i : List ℕ) → t.implements i ≡ true → Present (s.type_named i) (λ u. (u.kind ≡ kind.Interface) × IsValidImplementation s t u)
  -- 3.7: an interface "may not implement itself"
  pub not_itself : t.kind ≡ kind.Interface → t.implements n ≡ false
  -- 3.8 Unions: "The member types of a Union type must all be Object base types"
  pub members : (m : List ℕ) → t.has_member m ≡ true → Present (s.type_named m) (λ u. u.kind ≡ kind.Object)
  -- 3.9 Enums
  pub values : (m : List ℕ) (v : EnumValueTree (Unit {0})) → t.value m ≡ Some v → IsValidEnumValue s n m v
  -- 3.10 Input Objects, with "Circular References": "at least one of the fields in the chain of references must be either a nullable
  -- or a List type"
  pub inputs : (m : List ℕ) (v : InputValueTree (Unit {0})) → t.input m ≡ Some v → IsValidInputValue s (InputAt n m) m location.InputFieldDefinition v
  pub acyclic : Never (Closed (Requires s n) (Requires s) n)
  -- Laxer: those of a built-in scalar are not judged, nor what they are given (5.4, 5.6)
  -- 5.7 Directives
  pub directives : Never (IsBuiltInScalar s n t) → AreApplied s (type_location t.kind) t.directives
