use Rattle.std.proofs.Common.{ℕ, List, sym, subst}
use Rattle.graphql_names.specs.Placed.{Placed, Place, node_tree}
use Rattle.tree_directives.specs.DirectiveTree.{DirectiveDefinitionTree, directive_definition_tree}
use Rattle.schema_components.specs.Names.{entries_of}
use Rattle.schema_types.specs.TypeView.{name_text}
use Rattle.schema_inputs.specs.Inputs.{AreEach, AreKnownIfMany}
use Rattle.schema_inputs.proofs.Lookups.{known_at}
use Rattle.schema_inputs.proofs.inputs.SchemaInputs.of_directive.Goals as goal

pub returns-in-Some : goal.returns-in-Some
returns-in-Some c =
    known_at (node_tree directive_definition_tree) c.args.name.now c.args.directives.now (λ d. d.it.arguments) c.deref.result.now c.in-Some.index c.in-Some.field-0-1.now c.in-Some.field-0-2.now
    (subst (λ l. AreEach (λ (e : List ℕ × Placed Place (DirectiveDefinitionTree Place)) kept. AreKnownIfMany e.1.it.arguments kept) (entries_of name_text (node_tree directive_definition_tree) c.args.directives.now) l) (sym c.deref.ensures.value) c.requires)
    c.in-Some.ensures.value c.in-Some.ensures.entry c.arguments_at.result c.arguments_at.ensures
