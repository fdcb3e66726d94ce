-- Documents are read alike, and so a text has under each number the same tree, apart from places.
use Rattle.std.proofs.Common.{◌≡◌, ℕ, List, Option, ◌⊎◌, inl, inr, refl}
use Rattle.std.specs.Option.{option_map}
use Rattle.graphql_names.specs.Placed.{Text, unplaced_text}
use Rattle.tree_directives.specs.DirectiveTree.{DirectiveDefinitionTree, unplaced_directive_definition}
use Rattle.tree_definitions.specs.DefinitionTree.{DefinitionTree, Operation, Fragment, unplaced_definition, unplaced_document}
use Rattle.read_tokens.specs.Input.{Token}
use Rattle.read_grammar.specs.Meaning.{Meaning, start}
use Rattle.read_grammar.specs.Kinds.{is_extend}
use Rattle.read_grammar.specs.TypeSystemGrammar.{KindTree, SchemaKind, ScalarKind, ObjectKind, InterfaceKind, UnionKind, EnumKind, InputObjectKind}
use Rattle.read_grammar.specs.Grammar as g
use Rattle.read_grammar.specs.Grammar.{Derives, type_system_of, described, extension_of, extended, has_part}
use Rattle.verdict_laws.proofs.Alike.{Alike, skipped, made, seq, choice, such_that, maybe, one_or_more, located}
use Rattle.verdict_laws.proofs.OperationsAlike.{operation_alike, fragment_alike}
use Rattle.verdict_laws.proofs.TypeSystemAlike.{unplaced_kind, part_same, description_alike, schema_alike, schema_extension_alike, type_definition_alike, directive_alike}

abbrev unplaced_one : {P : Type 0} → KindTree P ⊎ DirectiveDefinitionTree P → KindTree (Unit {0}) ⊎ DirectiveDefinitionTree (Unit {0})
unplaced_one (inl x) = inl (unplaced_kind x)
unplaced_one (inr x) = inr (unplaced_directive_definition x)

described_same : {P : Type 0} (p : P) (d : Option (Text P)) (x : KindTree P ⊎ DirectiveDefinitionTree P) → unplaced_definition (described p d x) ≡ described tt (option_map unplaced_text d) (unplaced_one x)
described_same p d (inl (SchemaKind x)) = refl
described_same p d (inl (ScalarKind x)) = refl
described_same p d (inl (ObjectKind x)) = refl
described_same p d (inl (InterfaceKind x)) = refl
described_same p d (inl (UnionKind x)) = refl
described_same p d (inl (EnumKind x)) = refl
described_same p d (inl (InputObjectKind x)) = refl
described_same p d (inr x) = refl

extended_same : {P : Type 0} (p : P) (x : KindTree P) → unplaced_definition (extended p x) ≡ extended tt (unplaced_kind x)
extended_same p (SchemaKind x) = refl
extended_same p (ScalarKind x) = refl
extended_same p (ObjectKind x) = refl
extended_same p (InterfaceKind x) = refl
extended_same p (UnionKind x) = refl
extended_same p (EnumKind x) = refl
extended_same p (InputObjectKind x) = refl

module _ {P : Type 0} (string : Token → List ℕ) (at other : ℕ → ℕ → P) where
  abbrev m : Meaning P
  m = record { place = at; string = string }

  abbrev k : Meaning P
  k = record { place = other; string = string }

  type_system_alike : (n : ℕ) → Alike (g.type_system_definition m n) (g.type_system_definition k n) unplaced_definition
  unfolding g.type_system_definition
  type_system_alike n =
      made type_system_of (located (seq (maybe (description_alike string at other))
      (choice {u = unplaced_one} (made inl (choice (made SchemaKind (schema_alike string at other n) SchemaKind (λ x. refl)) (type_definition_alike string at other n)) inl (λ x. refl)) (made inr (directive_alike string at other n) inr (λ x. refl)))) m k)
      type_system_of (λ x. described_same x.place x.it.0 x.it.1)

  extension_alike : (n : ℕ) → Alike (g.type_system_extension m n) (g.type_system_extension k n) unplaced_definition
  unfolding g.type_system_extension
  extension_alike n =
      made extension_of (located (seq (skipped is_extend) (such_that has_part has_part part_same (choice {u = unplaced_kind} (made SchemaKind (schema_extension_alike string at other n) SchemaKind (λ x. refl)) (type_definition_alike string at other n)))) m k)
      extension_of (λ x. extended_same x.place x.it.1)

  definition_alike : (n : ℕ) → Alike (g.definition m n) (g.definition k n) unplaced_definition
  unfolding g.definition
  definition_alike n =
      choice (made (λ x. Operation x.place x.it) (located (operation_alike string at other n) m k) (λ x. Operation x.place x.it) (λ x. refl))
      (choice (made (λ x. Fragment x.place x.it) (located (fragment_alike string at other n) m k) (λ x. Fragment x.place x.it) (λ x. refl))
      (choice (type_system_alike n) (extension_alike n)))

  document_alike : (n : ℕ) → Alike (g.document m n) (g.document k n) unplaced_document
  unfolding g.document
  document_alike n = one_or_more (definition_alike n)

  pub derived_alike : (tokens : List Token) (tree : List (DefinitionTree P)) → Derives m tokens tree → (same : List (DefinitionTree P)) × Derives k tokens same × (unplaced_document tree ≡ unplaced_document same)
  derived_alike tokens tree h = let l = (document_alike h.0).at (start tokens) tree h.1 h.3 in (l.0, (h.0, h.1, h.2, l.1), l.2)
