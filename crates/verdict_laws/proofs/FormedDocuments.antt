-- What the grammar derives from the tokens of a text is well-formed.
use Rattle.std.proofs.Common.{◌≡◌, ℕ, ◌+◌, Bool, true, List, [], ◌∷◌, Option, refl, inl, inr, ◌⊎◌}
use Rattle.std.specs.List.{list_all}
use Rattle.graphql_names.specs.Placed.{Text}
use Rattle.tree_directives.specs.DirectiveTree.{DirectiveDefinitionTree}
use Rattle.tree_definitions.specs.DefinitionTree.{DefinitionTree, Operation, Fragment}
use Rattle.read_tokens.specs.Input.{Token}
use Rattle.read_grammar.specs.Meaning.{Meaning, start}
use Rattle.read_grammar.specs.Kinds.{is_extend}
use Rattle.read_grammar.specs.Rules as rule
use Rattle.read_grammar.specs.Rules.{◌·◌, ◌<$>◌, ◌∣◌}
use Rattle.read_grammar.specs.TypeSystemGrammar.{KindTree, SchemaKind, ScalarKind, ObjectKind, InterfaceKind, UnionKind, EnumKind, InputObjectKind}
use Rattle.read_grammar.specs.TypeSystemGrammar as y
use Rattle.read_grammar.specs.Grammar as g
use Rattle.read_grammar.specs.Grammar.{described, type_system_of, extended, extension_of, has_part, Derives}
use Rattle.read_operations.specs.Meanings.{in_file}
use Rattle.round_trip.specs.Definitions.{directive_definition_well_formed, definition_well_formed}
use Rattle.verdict_definitions.specs.Texts.{SourceText as Bytes, Tree, ReadsText, ReadsAll}
use Rattle.verdict_definitions.specs.Meaning.{all_definitions}
use Rattle.verdict_laws.proofs.Sound.{all_append}
use Rattle.verdict_laws.proofs.Taken.{AreTaken, are_taken, Makes, mapped, mark, seq, choice, such_that, maybe_any, some_all, located}
use Rattle.verdict_laws.proofs.FormedOperations.{operation_makes, fragment_makes}
use Rattle.verdict_laws.proofs.FormedTypeSystem.{kind_well_formed, description_makes, schema_definition_makes, type_definition_makes, directive_definition_makes, schema_extension_makes}

module _ {P : Type 0} where
  abbrev part_formed : KindTree P ⊎ DirectiveDefinitionTree P → Bool
  part_formed (inl kind) = kind_well_formed kind
  part_formed (inr d) = directive_definition_well_formed d

  described_good : (p : P) (d : Option (Text P)) (x : KindTree P ⊎ DirectiveDefinitionTree P) → part_formed x ≡ true → definition_well_formed (described p d x) ≡ true
  described_good p d (inl (SchemaKind x)) h = h
  described_good p d (inl (ScalarKind x)) h = h
  described_good p d (inl (ObjectKind x)) h = h
  described_good p d (inl (InterfaceKind x)) h = h
  described_good p d (inl (UnionKind x)) h = h
  described_good p d (inl (EnumKind x)) h = h
  described_good p d (inl (InputObjectKind x)) h = h
  described_good p d (inr x) h = h

  extended_good : (p : P) (x : KindTree P) → kind_well_formed x ≡ true → definition_well_formed (extended p x) ≡ true
  extended_good p (SchemaKind x) h = h
  extended_good p (ScalarKind x) h = h
  extended_good p (ObjectKind x) h = h
  extended_good p (InterfaceKind x) h = h
  extended_good p (UnionKind x) h = h
  extended_good p (EnumKind x) h = h
  extended_good p (InputObjectKind x) h = h

module _ {P : Type 0} (m : Meaning P) where
  schema_or_type : (n : ℕ) → Makes (SchemaKind <$> y.schema_definition m n ∣ y.type_definition m n) (λ x. kind_well_formed x)
  schema_or_type n = choice (mapped SchemaKind (schema_definition_makes m n) (λ x h. h)) (type_definition_makes m n)

  undescribed_makes : (n : ℕ) → Makes (inl <$> (SchemaKind <$> y.schema_definition m n ∣ y.type_definition m n) ∣ inr <$> y.directive_definition m n) (λ x. part_formed x)
  undescribed_makes n = choice (mapped inl (schema_or_type n) (λ x h. h)) (mapped inr (directive_definition_makes m n) (λ x h. h))

  extension_makes : (n : ℕ) → Makes (rule.such_that has_part (SchemaKind <$> y.schema_extension m n ∣ y.type_definition m n)) (λ x. kind_well_formed x)
  extension_makes n = such_that has_part (choice (mapped SchemaKind (schema_extension_makes m n) (λ x h. h)) (type_definition_makes m n)) (λ x h k. h)

  type_system_makes : (n : ℕ) → Makes (g.type_system_definition m n) (λ d. definition_well_formed d)
  unfolding g.type_system_definition
  type_system_makes n = mapped type_system_of (located m (seq (maybe_any (description_makes m)) (undescribed_makes n))) (λ x h. described_good x.place x.it.0 x.it.1 h)

  type_system_extension_makes : (n : ℕ) → Makes (g.type_system_extension m n) (λ d. definition_well_formed d)
  unfolding g.type_system_extension
  type_system_extension_makes n = mapped extension_of (located m (seq (mark is_extend) (extension_makes n))) (λ x h. extended_good x.place x.it.1 h)

  definition_makes : (n : ℕ) → Makes (g.definition m n) (λ d. definition_well_formed d)
  unfolding g.definition
  definition_makes n =
      choice (mapped (λ x. Operation x.place x.it) (located m (operation_makes m n)) (λ x h. h))
      (choice (mapped (λ x. Fragment x.place x.it) (located m (fragment_makes m n)) (λ x h. h)) (choice (type_system_makes n) (type_system_extension_makes n)))

  document_makes : (n : ℕ) → Makes (g.document m n) (λ ds. list_all definition_well_formed ds)
  unfolding g.document
  document_makes n = some_all (definition_makes n)

  pub document_formed : (tokens : List Token) (tree : List (DefinitionTree P)) → AreTaken tokens → Derives m tokens tree → list_all definition_well_formed tree ≡ true
  document_formed tokens tree taken d = ((document_makes d.0).holds (start tokens) tree d.1 taken d.3).0

-- what is read of a text is well-formed
pub read_formed : (number : ℕ) (text : Bytes) (tree : Tree) → ReadsText number text tree → list_all definition_well_formed tree ≡ true
read_formed number text tree r = document_formed (in_file (record { 0 = number })) r.tokens tree (are_taken text r.tokens [] r.lexed) r.derived

-- and so is what is read of several
pub all_formed : (first : ℕ) (texts : List Bytes) (trees : List Tree) → ReadsAll first texts trees → list_all definition_well_formed (all_definitions trees) ≡ true
all_formed first [] [] read = refl
all_formed first [] (tree ∷ trees) read = absurd read
all_formed first (text ∷ texts) [] read = absurd read
all_formed first (text ∷ texts) (tree ∷ trees) read = all_append definition_well_formed tree (all_definitions trees) (read_formed first text tree read.0) (all_formed (first + 1) texts trees read.1)
