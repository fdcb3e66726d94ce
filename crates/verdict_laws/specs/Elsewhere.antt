-- Definitions that are not in the file of what is built in.
use Rattle.std.specs.Prelude.{◌≡◌, false, List, Some, Contains}
use Rattle.std.specs.List.{AllByRecursion}
use Rattle.graphql_names.specs.Placed.{Placed, Place}
use Rattle.graphql_names.specs.Places.{is_built_in}
use Rattle.schema_fold.specs.in_directives.DirectiveTree.{DirectiveDefinitionTree}
use Rattle.schema_fold.specs.in_type_members.TypeSystemTree.{FieldDefinitionTree}
use Rattle.schema_fold.specs.in_definitions.DefinitionTree.{DefinitionTree}
use Rattle.schema_fold.specs.in_schema_types.TypeParts.{TypeParts, TypeDefinition, type_here, type_extension_here}
use Rattle.schema_fold.specs.NumberedDefinition.{Definitions, directive_here}

-- none of these is in that file
abbrev pub AreElsewhere : {A : Type 0} → List (Placed Place A) → Type 0
AreElsewhere xs = AllByRecursion (λ x. is_built_in x.place ≡ false) xs

-- no field is in that file, and none of its arguments
abbrev pub AreFieldsElsewhere : List (Placed Place (FieldDefinitionTree Place)) → Type 0
AreFieldsElsewhere fs = AllByRecursion (λ f. (is_built_in f.place ≡ false) × AreElsewhere f.it.arguments) fs

pub record ArePartsElsewhere (p : TypeParts Place) : Type 0 where
  pub fields : AreFieldsElsewhere p.fields
  pub values : AreElsewhere p.values
  pub inputs : AreElsewhere p.inputs

-- the definition of a type or directive is not there, nor is a field, enum value, input field or argument of it, or of the extension of a type
pub record IsElsewhere (d : DefinitionTree Place) : Type 0 where
  pub type : (t : TypeDefinition Place) → type_here d ≡ Some t → (is_built_in t.place ≡ false) × ArePartsElsewhere t.parts
  pub extension : (e : TypeParts Place) → type_extension_here d ≡ Some e → ArePartsElsewhere e
  pub directive : (x : Placed Place (DirectiveDefinitionTree Place)) → directive_here d ≡ Some x → (is_built_in x.place ≡ false) × AreElsewhere x.it.arguments

abbrev pub AreAllElsewhere : Definitions → Type 0
AreAllElsewhere ds = (d : DefinitionTree Place) → Contains ds d → IsElsewhere d
