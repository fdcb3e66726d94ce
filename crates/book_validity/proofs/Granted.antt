-- What is to be shown of a schema, so that fields are as the algorithm takes for granted.
use Rattle.std.proofs.Common.{◌≡◌, ◌⊎◌, ℕ, List, Some, Contains, codes}
use Rattle.graphql_names.specs.Placed.{Place}
use Rattle.schema_types.specs.SchemaTree.{SchemaTree}
use Rattle.schema_types.specs.Plain.{plain}
use Rattle.schema_types.specs.Looks.{TypeLooks}
use Rattle.schema_types.specs.declared.type_kind.TypeKind.TheVariants as kind
use Rattle.spec_document.specs.MeantTree.{Definition}
use Rattle.verdict_definitions.specs.in_typing.Meanings.{meanings}
use Rattle.rule_definitions.specs.Words.{Present}
use Rattle.rule_definitions.specs.Judged.{Judged, judged}
use Rattle.rule_definitions.specs.Names.{named_in, scalar_names}
use Rattle.rule_definitions.proofs.KeptFacts.{IsReferenced}
use Rattle.rule_document_definitions.specs.PossibleTypes.{IsComposite}
use Rattle.book_validity.specs.FieldSelectionMerging.{IsScalarOrEnum}

module _ (s : Judged) where
  abbrev pub IsOutputType : List ℕ → Type 0
  IsOutputType n = IsScalarOrEnum s n ⊎ IsComposite s n

  -- fields are those of objects and interfaces
  abbrev pub FieldsAreOfTheirKinds : Type 0
  FieldsAreOfTheirKinds = (n m : List ℕ) (t : TypeLooks) (f : Definition) → s.type_named n ≡ Some t → t.field m ≡ Some f → (t.kind ≡ kind.Object) ⊎ (t.kind ≡ kind.Interface)

  -- the five scalars are there, and the types of the meta-fields
  pub record HasBuiltIn : Type 0 where
    pub scalars : (n : List ℕ) → Contains scalar_names n → Present (s.type_named n) (λ t. t.kind ≡ kind.Scalar)
    pub string_used : IsReferenced s (codes "String")
    pub schema_there : IsComposite s (codes "__Schema")
    pub type_there : IsComposite s (codes "__Type")

-- each field that can be selected is on a composite type and returns an output type
abbrev pub HasOutputFields : SchemaTree Place → Type 0
HasOutputFields s = (n m : List ℕ) (f : Definition) → (meanings (plain s)).field n m ≡ Some f → IsComposite (judged s) n × IsOutputType (judged s) (named_in f.ty)
