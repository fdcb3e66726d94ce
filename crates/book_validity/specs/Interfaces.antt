-- IsValidImplementation (section 3.6).
use Rattle.std.specs.Prelude.{◌≡◌, ℕ, true, false, List, None, Some}
use Rattle.tree_directives.specs.DirectiveQueries.{is_required_input}
use Rattle.tree_type_members.specs.TypeSystemTree.{FieldDefinitionTree}
use Rattle.schema_types.specs.Looks.{TypeLooks}
use Rattle.rule_definitions.specs.Words.{Present}
use Rattle.rule_definitions.specs.Judged.{Judged}
use Rattle.rule_definitions.specs.Names.{input_name}
use Rattle.rule_definitions.specs.Subtypes.{is_valid_type}
use Rattle.book_validity.specs.Words.{Each, named}

-- step 2 of IsValidImplementation, for a field and the implemented field
pub record IsValidImplementationField (s : Judged) (field implemented : FieldDefinitionTree (Unit {0})) : Type 0 where
  -- "field must include an argument of the same name for every argument defined in implementedField. That named argument on field
  -- must accept the same type (invariant) as that named argument on implementedField."
  pub arguments : Each implemented.arguments (λ w. Present (named input_name field.arguments (input_name w)) (λ v. w.it.ty.it ≡ v.it.ty.it))
  -- Laxer: of a non-nullable type it may be with a default, by which it is not required (5.4.2.1: "non-null and does not have a default
  -- value")
  -- "field may include additional arguments not defined in implementedField, but any additional argument must not be required, e.g.
  -- must not be of a non-nullable type"
  pub additional : Each field.arguments (λ v. named input_name implemented.arguments (input_name v) ≡ None → is_required_input v.it ≡ false)
  -- "field must return a type which is equal to or a sub-type of (covariant) the return type of implementedField":
  -- IsValidImplementationFieldType(fieldType, implementedFieldType)
  pub field_type : is_valid_type s implemented.ty field.ty ≡ true

pub record IsValidImplementation (s : Judged) (t implemented : TypeLooks) : Type 0 where
  -- step 1: "If implementedType declares it implements any interfaces, type must also declare it implements those interfaces"
  pub interfaces : (i : List ℕ) → implemented.implements i ≡ true → t.implements i ≡ true
  -- step 2: "type must include a field of the same name for every field defined in implementedType"
  pub fields : (m : List ℕ) (wanted : FieldDefinitionTree (Unit {0})) → implemented.field m ≡ Some wanted → Present (t.field m) (λ field. IsValidImplementationField s field wanted)
