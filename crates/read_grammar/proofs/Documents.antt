-- Documents are read exactly, steadily, and within the limit.
use Rattle.std.proofs.Common.{ℕ, ◌≤◌, refl, inl, inr, ◌⊎◌}
use Rattle.graphql_ast.specs.in_definitions.DefinitionTree.{Operation, Fragment}
use Rattle.read_grammar.specs.Meaning.{Meaning}
use Rattle.read_grammar.specs.Kinds.{next_is, is_string, is_schema, is_directive, is_fragment, is_extend}
use Rattle.read_grammar.specs.Begins.{begins_kind, begins_operation, begins_type_system, begins_definition}
use Rattle.read_grammar.specs.Rules as rule
use Rattle.read_grammar.specs.Rules.{Rule, ◌<$>◌, ◌∣◌}
use Rattle.read_grammar.specs.TypeSystemGrammar as tg
use Rattle.read_grammar.specs.TypeSystemGrammar.{KindTree, SchemaKind}
use Rattle.graphql_ast.specs.in_directives.DirectiveTree.{DirectiveDefinitionTree}
use Rattle.read_grammar.specs.Grammar as g
use Rattle.read_grammar.specs.Grammar.{type_system_of, extension_of, has_part}
use Rattle.read_grammar.specs.DocumentReading as d
use Rattle.read_grammar.proofs.Tests.{either, at_end}
use Rattle.read_grammar.proofs.Parses.{Parses, mapped, mark, weaker, seq, opt, alternative, only, such_that, located, one_or_more}
use Rattle.read_grammar.proofs.Operations.{operation_definition_parses, fragment_definition_parses}
use Rattle.read_grammar.proofs.TypeSystem.{after_definition, description_parses, schema_definition_parses, type_definition_parses, directive_definition_parses, schema_extension_parses}

module _ {P : Type 0} (m : Meaning P) where
  abbrev undescribed_rule : ℕ → Rule (KindTree P ⊎ DirectiveDefinitionTree P)
  undescribed_rule n = inl <$> (SchemaKind <$> tg.schema_definition m n ∣ tg.type_definition m n) ∣ inr <$> tg.directive_definition m n

  pub undescribed_parses : (n h : ℕ) → n ≤ h → Parses 1 n (undescribed_rule n) (d.undescribed m n) (d.undescribed m h) (either (next_is begins_kind) (next_is is_directive)) after_definition
  unfolding d.undescribed
  undescribed_parses n h le =
      alternative begins_kind refl refl
      (mapped inl (alternative is_schema refl refl (weaker (next_is is_schema) after_definition refl refl (mapped SchemaKind (schema_definition_parses m n h le))) (type_definition_parses m n h le)))
      (only is_directive refl (mapped inr (directive_definition_parses m n h le)))

  pub type_system_definition_parses : (n h : ℕ) → n ≤ h → Parses 1 n (g.type_system_definition m n) (d.type_system_definition m n) (d.type_system_definition m h) (next_is begins_type_system) after_definition
  unfolding g.type_system_definition d.type_system_definition
  type_system_definition_parses n h le =
      weaker (next_is begins_type_system) after_definition refl refl
      (mapped type_system_of (located m (opt is_string refl refl refl (description_parses m) (undescribed_parses n h le))))

  abbrev extension_rule : ℕ → Rule (KindTree P)
  extension_rule n = rule.such_that has_part (SchemaKind <$> tg.schema_extension m n ∣ tg.type_definition m n)

  pub extension_parses : (n h : ℕ) → n ≤ h → Parses 1 n (extension_rule n) (d.extension m n) (d.extension m h) (next_is begins_kind) after_definition
  unfolding d.extension
  extension_parses n h le =
      weaker (next_is begins_kind) after_definition refl refl
      (such_that has_part (alternative is_schema refl refl (mapped SchemaKind (schema_extension_parses m n h le)) (type_definition_parses m n h le)))

  pub type_system_extension_parses : (n h : ℕ) → n ≤ h → Parses 1 n (g.type_system_extension m n) (d.type_system_extension m n) (d.type_system_extension m h) (next_is is_extend) after_definition
  unfolding g.type_system_extension d.type_system_extension
  type_system_extension_parses n h le = mapped extension_of (located m (seq refl (mark is_extend refl) (extension_parses n h le)))

  pub definition_parses : (n h : ℕ) → n ≤ h → Parses 1 n (g.definition m n) (d.definition m n) (d.definition m h) (next_is begins_definition) after_definition
  unfolding g.definition d.definition
  definition_parses n h le =
      weaker (next_is begins_definition) after_definition refl refl
      (alternative begins_operation refl refl (weaker (next_is begins_operation) after_definition refl refl (mapped (λ x. Operation x.place x.it) (located m (operation_definition_parses m n h le))))
      (alternative is_fragment refl refl (weaker (next_is is_fragment) after_definition refl refl (mapped (λ x. Fragment x.place x.it) (located m (fragment_definition_parses m n h le))))
      (alternative begins_type_system refl refl (type_system_definition_parses n h le) (only is_extend refl (type_system_extension_parses n h le)))))

  pub document_parses : (n h : ℕ) → n ≤ h → Parses 0 n (g.document m n) (d.document m n) (d.document m h) (next_is begins_definition) at_end
  unfolding g.document d.document
  document_parses n h le = one_or_more begins_definition at_end refl refl refl refl (definition_parses n h le)
