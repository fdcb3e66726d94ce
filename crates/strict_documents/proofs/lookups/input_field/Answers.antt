use Rattle.std.proofs.Common.{◌≡◌, ◌∙◌, refl, ap, sym, Some}
use Rattle.std.specs.Option.{option_map}
use Rattle.tree_directives.specs.DirectiveTree.{input_value_tree, unplaced_input_value}
use Rattle.schema_components.specs.Given.{component_tree, plain_given}
use Rattle.schema_types.specs.TypeView.{extended_type}
use Rattle.schema_types.specs.Addresses.{type_at}
use Rattle.graphql_schema.specs.SchemaOf.{schema_tree}
use Rattle.strict_documents.proofs.Found.{mapped_again}
use Rattle.strict_documents.proofs.Found.{no_input, input_there}
use Rattle.strict_documents.proofs.lookups.input_field.Goals as goal

pub returns-in-None : goal.returns-in-None
returns-in-None c = sym (no_input (schema_tree c.args.schema.now) c.args.ty.now.text c.args.name.now.text (sym c.type_named.ensures ∙ ap (option_map (λ t. extended_type t.now)) c.in-None.is))

pub returns-in-Some : goal.returns-in-Some
returns-in-Some c =
    let s = schema_tree c.args.schema.now in
    let t = extended_type c.in-Some.found.now in
    let there : type_at s c.args.ty.now.text ≡ Some t = sym c.type_named.ensures ∙ ap (option_map (λ t. extended_type t.now)) c.in-Some.is in
    sym (mapped_again (λ v. component_tree input_value_tree v.now) (plain_given unplaced_input_value) (λ v. plain_given unplaced_input_value (component_tree input_value_tree v.now)) c.find_input.result (λ v. refl))
    ∙ ap (option_map (plain_given unplaced_input_value)) c.find_input.ensures
    ∙ sym (input_there s c.args.ty.now.text c.args.name.now.text t there)
