-- Which kind is read, by the next token.
use Rattle.std.proofs.Common.{◌≡◌, ◌⊎◌, ℕ, Bool, true, false, Err, inl, inr, refl}
use Rattle.tree_directives.specs.DirectiveTree.{DirectiveDefinitionTree}
use Rattle.read_tokens.specs.Input.{Input, next}
use Rattle.read_grammar.specs.declared.parse_error.ParseError.TheVariants.{Unexpected}
use Rattle.read_grammar.specs.Meaning.{Meaning}
use Rattle.read_grammar.specs.Kinds.{next_is, is_schema, is_scalar, is_type, is_interface, is_union, is_enum, is_input, is_directive}
use Rattle.read_grammar.specs.Begins.{begins_kind}
use Rattle.read_grammar.specs.DocumentReading as d
use Rattle.read_grammar.specs.Reading.{◌<&>◌}
use Rattle.read_grammar.specs.TypeSystemGrammar.{KindTree}
use Rattle.read_grammar.specs.TypeSystemReading as y
use Rattle.read_grammar.proofs.Tests.{from_apart}
use Rattle.read_grammar.proofs.Values.{lacking}
use Rattle.read_types.specs.KindSteps.{schema_kind, schema_extension_kind, scalar_kind, object_kind, interface_kind, union_kind, enum_kind, input_object_kind, definition_kind, extension_kind}

module _ {P : Type 0} (m : Meaning P) where
  pub type_scalar : (n : ℕ) (i : Input) → next_is is_scalar (next i) ≡ true → y.type_definition m n i ≡ scalar_kind m n i
  unfolding y.type_definition
  type_scalar n i h = rw h refl

  pub type_object : (n : ℕ) (i : Input) → next_is is_type (next i) ≡ true → y.type_definition m n i ≡ object_kind m n i
  unfolding y.type_definition
  type_object n i h = rw (from_apart (next_is is_type) (next_is is_scalar) refl (next i) h, h) refl

  pub type_interface : (n : ℕ) (i : Input) → next_is is_interface (next i) ≡ true → y.type_definition m n i ≡ interface_kind m n i
  unfolding y.type_definition
  type_interface n i h =
      rw (from_apart (next_is is_interface) (next_is is_scalar) refl (next i) h, from_apart (next_is is_interface) (next_is is_type) refl (next i) h, h) refl

  pub type_union : (n : ℕ) (i : Input) → next_is is_union (next i) ≡ true → y.type_definition m n i ≡ union_kind m n i
  unfolding y.type_definition
  type_union n i h =
      rw (from_apart (next_is is_union) (next_is is_scalar) refl (next i) h, from_apart (next_is is_union) (next_is is_type) refl (next i) h, from_apart (next_is is_union) (next_is is_interface) refl (next i) h, h) refl

  pub type_enum : (n : ℕ) (i : Input) → next_is is_enum (next i) ≡ true → y.type_definition m n i ≡ enum_kind m n i
  unfolding y.type_definition
  type_enum n i h =
      rw (from_apart (next_is is_enum) (next_is is_scalar) refl (next i) h, from_apart (next_is is_enum) (next_is is_type) refl (next i) h, from_apart (next_is is_enum) (next_is is_interface) refl (next i) h, from_apart (next_is is_enum) (next_is is_union) refl (next i) h, h) refl

  pub type_input_object : (n : ℕ) (i : Input) → next_is is_input (next i) ≡ true → y.type_definition m n i ≡ input_object_kind m n i
  unfolding y.type_definition
  type_input_object n i h =
      rw (from_apart (next_is is_input) (next_is is_scalar) refl (next i) h, from_apart (next_is is_input) (next_is is_type) refl (next i) h, from_apart (next_is is_input) (next_is is_interface) refl (next i) h, from_apart (next_is is_input) (next_is is_union) refl (next i) h, from_apart (next_is is_input) (next_is is_enum) refl (next i) h, h) refl

  pub type_refused : (n : ℕ) (i : Input) → next_is is_scalar (next i) ≡ false → next_is is_type (next i) ≡ false → next_is is_interface (next i) ≡ false → next_is is_union (next i) ≡ false → next_is is_enum (next i) ≡ false → next_is is_input (next i) ≡ false → y.type_definition m n i ≡ Err (Unexpected, i)
  unfolding y.type_definition
  type_refused n i s t f u e p = rw (s, t, f, u, e, p) refl

  pub defines_schema : (n : ℕ) (i : Input) → next_is is_schema (next i) ≡ true → definition_kind m n i ≡ schema_kind m n i
  defines_schema n i h = rw h refl

  pub defines_type : (n : ℕ) (i : Input) → next_is is_schema (next i) ≡ false → definition_kind m n i ≡ y.type_definition m n i
  defines_type n i h = rw h refl

  pub extends_schema : (n : ℕ) (i : Input) → next_is is_schema (next i) ≡ true → extension_kind m n i ≡ schema_extension_kind m n i
  extends_schema n i h = rw h refl

  pub extends_type : (n : ℕ) (i : Input) → next_is is_schema (next i) ≡ false → extension_kind m n i ≡ y.type_definition m n i
  extends_type n i h = rw h refl

  pub undescribed_directive : (n : ℕ) (i : Input) → next_is is_directive (next i) ≡ true → d.undescribed m n i ≡ (inr <&> y.directive_definition m n) i
  unfolding d.undescribed
  undescribed_directive n i h = rw (from_apart (next_is is_directive) (next_is begins_kind) refl (next i) h, h) refl

  kind_refused : (n : ℕ) (i : Input) → lacking begins_kind (next i) ≡ true → definition_kind m n i ≡ Err (Unexpected, i)
  unfolding y.type_definition
  kind_refused n i h =
      rw (from_apart (lacking begins_kind) (next_is is_schema) refl (next i) h, from_apart (lacking begins_kind) (next_is is_scalar) refl (next i) h, from_apart (lacking begins_kind) (next_is is_type) refl (next i) h, from_apart (lacking begins_kind) (next_is is_interface) refl (next i) h, from_apart (lacking begins_kind) (next_is is_union) refl (next i) h, from_apart (lacking begins_kind) (next_is is_enum) refl (next i) h, from_apart (lacking begins_kind) (next_is is_input) refl (next i) h) refl

  abbrev left : KindTree P → KindTree P ⊎ DirectiveDefinitionTree P
  left x = inl x

  -- what is no definition of a directive is read as a kind, which refuses what begins none
  pub undescribed_kind : (n : ℕ) (i : Input) → next_is is_directive (next i) ≡ false → d.undescribed m n i ≡ (left <&> definition_kind m n) i
  unfolding d.undescribed
  undescribed_kind n i h = go (next_is begins_kind (next i)) refl
    where
      go : (t : Bool) → next_is begins_kind (next i) ≡ t → d.undescribed m n i ≡ (left <&> definition_kind m n) i
      go true b = rw b refl
      go false b = let none : lacking begins_kind (next i) ≡ true = rw b refl in rw (b, h, kind_refused n i none) refl
