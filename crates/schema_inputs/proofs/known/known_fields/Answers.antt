use Rattle.std.proofs.Common.{ℕ, List, sym, subst}
use Rattle.graphql_names.specs.Placed.{Placed, Place}
use Rattle.tree_type_members.specs.TypeSystemTree.{FieldDefinitionTree, field_definition_tree}
use Rattle.schema_components.specs.Given.{Given, component_tree}
use Rattle.schema_components.specs.Names.{entries_of}
use Rattle.schema_types.specs.TypeView.{name_text}
use Rattle.schema_inputs.specs.Inputs.{AreEach, AreKnownIfMany}
use Rattle.schema_inputs.proofs.KnownInputs.{each_nothing}
use Rattle.schema_inputs.proofs.known.known_fields.Goals as goal

pub returns-else-some_takes_many : goal.returns-else-some_takes_many
returns-else-some_takes_many c =
    subst (λ l. AreEach (λ (e : List ℕ × Given Place (Placed Place (FieldDefinitionTree Place))) kept. AreKnownIfMany e.1.it.it.arguments kept) (entries_of name_text (component_tree field_definition_tree) c.args.fields.now) l) (sym c.new.ensures.items)
    (each_nothing (λ (e : List ℕ × Given Place (Placed Place (FieldDefinitionTree Place))) kept. AreKnownIfMany e.1.it.it.arguments kept) (entries_of name_text (component_tree field_definition_tree) c.args.fields.now))
