-- The depth of tokens is that of the tree that they derive.
use Rattle.std.proofs.Common.{◌≡◌, ℕ, List, Option, ◌⊎◌, inl, inr, refl, ap, arith}
use Rattle.graphql_names.specs.Placed.{Text}
use Rattle.read_operations.specs.in_literals.TypeTree.{TypeTree}
use Rattle.read_operations.specs.in_directives.DirectiveTree.{DirectiveDefinitionTree}
use Rattle.read_operations.specs.in_operations.SelectionTree.{SelectionTrees}
use Rattle.read_operations.specs.in_definitions.DefinitionTree.{DefinitionTree, Operation, Fragment}
use Rattle.read_operations.specs.in_tokens.Input.{Token}
use Rattle.read_operations.specs.in_grammar.Meaning.{Meaning, start}
use Rattle.read_operations.specs.in_grammar.Depth.{depth}
use Rattle.read_operations.specs.in_grammar.Kinds.{is_extend}
use Rattle.read_operations.specs.in_grammar.Rules.{Rule}
use Rattle.read_operations.specs.in_grammar.TypeSystemGrammar.{KindTree, SchemaKind, ScalarKind, ObjectKind, InterfaceKind, UnionKind, EnumKind, InputObjectKind}
use Rattle.read_operations.specs.in_grammar.Grammar as g
use Rattle.read_operations.specs.in_grammar.Grammar.{DerivesAs, Derives, DerivesType, DerivesSelections, type_system_of, described, extension_of, extended, has_part}
use Rattle.round_trip.specs.TreeDepth.{directive_definition_depth, type_depth, selections_depth, definition_depth, document_depth}
use Rattle.round_trip.proofs.Nests.{Nests, flat, mapped, skip, choice, such_that, maybe_flat, located, one_or_more}
use Rattle.round_trip.proofs.ValuesNest.{type_nests}
use Rattle.round_trip.proofs.OperationsNest.{selections_nests, operation_nests, fragment_nests}
use Rattle.round_trip.proofs.TypeSystemNests.{kind_depth, description_flat, schema_nests, schema_extension_nests, type_definition_nests, directive_nests}

abbrev one_depth : {P : Type 0} → KindTree P ⊎ DirectiveDefinitionTree P → ℕ
one_depth (inl k) = kind_depth k
one_depth (inr d) = directive_definition_depth d

described_same : {P : Type 0} (p : P) (d : Option (Text P)) (x : KindTree P ⊎ DirectiveDefinitionTree P) → one_depth x ≡ definition_depth (described p d x)
described_same p d (inl (SchemaKind x)) = refl
described_same p d (inl (ScalarKind x)) = refl
described_same p d (inl (ObjectKind x)) = refl
described_same p d (inl (InterfaceKind x)) = refl
described_same p d (inl (UnionKind x)) = refl
described_same p d (inl (EnumKind x)) = refl
described_same p d (inl (InputObjectKind x)) = refl
described_same p d (inr x) = refl

extended_same : {P : Type 0} (p : P) (x : KindTree P) → kind_depth x ≡ definition_depth (extended p x)
extended_same p (SchemaKind x) = refl
extended_same p (ScalarKind x) = refl
extended_same p (ObjectKind x) = refl
extended_same p (InterfaceKind x) = refl
extended_same p (UnionKind x) = refl
extended_same p (EnumKind x) = refl
extended_same p (InputObjectKind x) = refl

module _ {P : Type 0} (m : Meaning P) where
  type_system_nests : (n : ℕ) → Nests (g.type_system_definition m n) definition_depth
  unfolding g.type_system_definition
  type_system_nests n =
      mapped type_system_of (located m (skip (maybe_flat (description_flat m))
      (choice {d = one_depth} (mapped inl (choice (mapped SchemaKind (schema_nests m n) (λ x. refl)) (type_definition_nests m n)) (λ x. refl)) (mapped inr (directive_nests m n) (λ x. refl))))) (λ x. described_same x.place x.it.0 x.it.1)

  extension_nests : (n : ℕ) → Nests (g.type_system_extension m n) definition_depth
  unfolding g.type_system_extension
  extension_nests n =
      mapped extension_of (located m (skip (flat is_extend refl) (such_that has_part (choice {d = kind_depth} (mapped SchemaKind (schema_extension_nests m n) (λ x. refl)) (type_definition_nests m n))))) (λ x. extended_same x.place x.it.1)

  definition_nests : (n : ℕ) → Nests (g.definition m n) definition_depth
  unfolding g.definition
  definition_nests n =
      choice (mapped (λ x. Operation x.place x.it) (located m (operation_nests m n)) (λ x. refl))
      (choice (mapped (λ x. Fragment x.place x.it) (located m (fragment_nests m n)) (λ x. refl))
      (choice (type_system_nests n) (extension_nests n)))

  document_nests : (n : ℕ) → Nests (g.document m n) document_depth
  unfolding g.document
  document_nests n = one_or_more (definition_nests n)

  all_tokens : {A : Type 0} (symbol : ℕ → Rule A) (deep : A → ℕ) → ((n : ℕ) → Nests (symbol n) deep) → (tokens : List Token) (tree : A) → DerivesAs symbol tokens tree → depth tokens ≡ deep tree
  unfolding depth
  all_tokens symbol deep nests tokens tree h = omega (arith, (nests h.0).at (start tokens) tree h.1 h.3, ap depth h.2)

  pub derived_depth : (tokens : List Token) (tree : List (DefinitionTree P)) → Derives m tokens tree → depth tokens ≡ document_depth tree
  derived_depth = all_tokens (g.document m) document_depth document_nests

  pub derived_type_depth : (tokens : List Token) (tree : TypeTree P) → DerivesType m tokens tree → depth tokens ≡ type_depth tree
  derived_type_depth = all_tokens _ type_depth (type_nests m)

  pub derived_selections_depth : (tokens : List Token) (tree : SelectionTrees P) → DerivesSelections m tokens tree → depth tokens ≡ selections_depth tree
  derived_selections_depth = all_tokens _ selections_depth (selections_nests m)
