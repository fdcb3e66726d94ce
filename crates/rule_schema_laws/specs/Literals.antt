-- Each input type has a literal: a text of a value that may be given for it (GraphQL, October 2021, sections 2.9, 3.4.2 and 5.6).
use Rattle.std.specs.Prelude.{◌≡◌, ℕ, true, false, List, Contains}
use Rattle.graphql_names.specs.Placed.{Place}
use Rattle.graphql_names.specs.declared.span.FileId.{FileId}
use Rattle.tree_literals.specs.TypeTree.{TypeTree}
use Rattle.tree_literals.specs.ValueTree.{ValueTree}
use Rattle.tree_literals.specs.ValueQueries.{is_null_value}
use Rattle.tree_literals.specs.ValueLayout.{value_text}
use Rattle.tree_literals.specs.ValueWritable.{can_be_enum}
use Rattle.read_operations.specs.in_grammar.Grammar.{DerivesAs}
use Rattle.read_operations.specs.in_grammar.ValueGrammar.{value, constant}
use Rattle.read_operations.specs.Meanings.{in_file}
use Rattle.round_trip.specs.in_read.Reads.{HasTree}
use Rattle.rule_definitions.specs.in_schema_types.SchemaTree.{is_input_kind}
use Rattle.rule_definitions.specs.in_schema_types.declared.type_kind.TypeKind.TheVariants as kind
use Rattle.rule_definitions.specs.Words.{Present}
use Rattle.rule_definitions.specs.Faults.{FaultAt}
use Rattle.rule_definitions.specs.Judged.{Judged, IsBuiltInScalar}
use Rattle.rule_definitions.specs.Names.{scalar_names, named_in}
use Rattle.rule_definitions.specs.GivenValues.{Variables}
use Rattle.rule_definitions.specs.Values.{UniqueInputValueIn}
use Rattle.rule_definitions.specs.Accepts.{Accepts}

module _ (s : Judged) where
  -- IsInputType (section 3.4.2): the inner type is a scalar, an enum or an input object
  abbrev pub IsInputType : TypeTree (Unit {0}) → Type 0
  IsInputType ty = Present (s.type_named (named_in ty)) (λ t. is_input_kind t.kind ≡ true)

  -- A literal of the type: the text of the value, in the canonical layout, is a Value[Const] of the grammar, so without variables, and
  -- reading it in the file gives this value (section 2.9). The type accepts the value, with any variables (section 5.6.1); no object in it
  -- has two equal keys (section 5.6.3); and it is not null.
  pub record IsLiteral (ty : TypeTree (Unit {0})) (file : FileId) (v : ValueTree Place) : Type 0 where
    pub read : HasTree (DerivesAs (value (in_file file) constant)) (value_text v) v
    pub accepted : (variables : Variables Place) → Accepts s variables ty v
    pub keys : (fault : FaultAt Place (List Place)) → UniqueInputValueIn v fault → ⊥
    pub not_null : is_null_value v ≡ false

  -- each input type, with any marks and brackets, has a literal, in any file in which it is read
  abbrev pub InputTypesHaveLiterals : Type 0
  InputTypesHaveLiterals = (ty : TypeTree (Unit {0})) → IsInputType ty → (file : FileId) → (v : ValueTree Place) × IsLiteral ty file v

  -- ---- the premises

  -- the built-in scalars are among the five (section 3.5)
  abbrev pub HasTheFiveAlone : Type 0
  HasTheFiveAlone = (n : List ℕ) → Present (s.type_named n) (λ t. IsBuiltInScalar s n t) → Contains scalar_names n

  -- no enum has a value `true`, `false` or `null`, as the grammar requires (section 2.9.6)
  abbrev pub HasNoKeywordValue : Type 0
  HasNoKeywordValue = (n m : List ℕ) → Present (s.type_named n) (λ t. (t.kind ≡ kind.Enum) × Present (t.value m) (λ v. can_be_enum m ≡ false)) → ⊥
