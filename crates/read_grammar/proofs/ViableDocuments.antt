-- Where a parser of documents stops, the tokens before begin some document.
use Rattle.std.proofs.Common.{ℕ, suc, true, false, refl, inl, inr, ◌⊎◌}
use Rattle.graphql_ast.specs.in_definitions.DefinitionTree.{Operation, Fragment}
use Rattle.graphql_ast.specs.in_directives.DirectiveTree.{DirectiveDefinitionTree}
use Rattle.read_grammar.specs.Meaning.{Meaning}
use Rattle.read_grammar.specs.Kinds.{is_string, is_schema, is_directive, is_fragment, is_extend}
use Rattle.read_tokens.specs.declared.terminal.Terminal.TheVariants as k
use Rattle.read_grammar.specs.Begins.{begins_kind, begins_operation, begins_type_system, begins_definition}
use Rattle.read_grammar.specs.Rules as rule
use Rattle.read_grammar.specs.Rules.{Rule, ◌<$>◌, ◌∣◌}
use Rattle.read_grammar.specs.TypeSystemGrammar as tg
use Rattle.read_grammar.specs.TypeSystemGrammar.{KindTree, SchemaKind}
use Rattle.read_grammar.specs.Grammar as g
use Rattle.read_grammar.specs.Grammar.{type_system_of, extension_of, has_part}
use Rattle.read_grammar.specs.DocumentReading as d
use Rattle.read_grammar.proofs.Viable.{Viable, mapped, mark, weaker, seq, alternative, only, maybe, located}
use Rattle.read_grammar.proofs.ViableLists.{one_or_more}
use Rattle.read_grammar.proofs.ViableTests.{such_that}
use Rattle.read_grammar.proofs.ViableOperations.{operation_definition_viable, fragment_definition_viable}
use Rattle.read_grammar.proofs.ViableTypeSystem.{no_brace, description_viable, schema_definition_viable, type_definition_viable, directive_definition_viable, schema_extension_viable}
use Rattle.read_grammar.proofs.Extensions.{inner, grows, part_fills}

module _ {P : Type 0} (m : Meaning P) where
  abbrev undescribed_rule : ℕ → Rule (KindTree P ⊎ DirectiveDefinitionTree P)
  undescribed_rule n = inl <$> (SchemaKind <$> tg.schema_definition m n ∣ tg.type_definition m n) ∣ inr <$> tg.directive_definition m n

  undescribed_viable : (n : ℕ) → Viable true (undescribed_rule (suc n)) (d.undescribed m n) no_brace
  unfolding d.undescribed
  undescribed_viable n =
      alternative begins_kind (mapped inl (alternative is_schema (weaker no_brace (mapped SchemaKind (schema_definition_viable m n))) (type_definition_viable m n)))
      (only is_directive (weaker no_brace (mapped inr (directive_definition_viable m n))))

  type_system_definition_viable : (n : ℕ) → Viable true (g.type_system_definition m (suc n)) (d.type_system_definition m n) no_brace
  unfolding g.type_system_definition d.type_system_definition
  type_system_definition_viable n = mapped type_system_of (located m (seq (maybe is_string (description_viable m)) (undescribed_viable n)))

  extension_viable : (n : ℕ) → Viable true (rule.such_that has_part (inner m (suc n))) (d.extension m n) no_brace
  unfolding d.extension
  extension_viable n = such_that has_part (part_fills m n) (grows m n) (alternative is_schema (mapped SchemaKind (schema_extension_viable m n)) (type_definition_viable m n))

  type_system_extension_viable : (n : ℕ) → Viable true (g.type_system_extension m (suc n)) (d.type_system_extension m n) no_brace
  unfolding g.type_system_extension d.type_system_extension
  type_system_extension_viable n = mapped extension_of (located m (seq (mark is_extend k.Extend refl) (extension_viable n)))

  definition_viable : (n : ℕ) → Viable true (g.definition m (suc n)) (d.definition m n) no_brace
  unfolding g.definition d.definition
  definition_viable n =
      alternative begins_operation (weaker no_brace (mapped (λ x. Operation x.place x.it) (located m (operation_definition_viable m n))))
      (alternative is_fragment (weaker no_brace (mapped (λ x. Fragment x.place x.it) (located m (fragment_definition_viable m n))))
      (alternative begins_type_system (type_system_definition_viable n) (only is_extend (type_system_extension_viable n))))

  pub document_viable : (n : ℕ) → Viable false (g.document m (suc n)) (d.document m n) no_brace
  unfolding g.document d.document
  document_viable n = one_or_more begins_definition (definition_viable n)
