use Rattle.std.proofs.Common.{◌≡◌, ◌≤◌, ◌-◌, Bool, [], length, sym, ap, ◌∙◌, if◌then◌else◌, arith}
use Rattle.std.specs.Option.{option_map_or}
use Rattle.std.proofs.lemmas.Bool.{le-ltb}
use Rattle.std.proofs.lemmas.List.{length-map}
use Rattle.graphql_names.specs.Placed.{node_tree}
use Rattle.tree_directives.specs.DirectiveTree.{directive_definition_tree}
use Rattle.schema_types.specs.TypeView.{name_text, extended_type}
use Rattle.graphql_schema.specs.SchemaOf.{schema_tree}
use Rattle.rule_cycles.specs.Numbers.{at_number}
use Rattle.rule_cycles.specs.UseNumbers.{definition_uses, type_uses}
use Rattle.rule_cycles.proofs.Numbering.{found_entry}
use Rattle.rule_cycles.proofs.flat.refers_to_nothing.Goals as goal

pub returns-in-Some : goal.returns-in-Some
returns-in-Some c = λ bare.
    let s = schema_tree c.args.schema.now in
    let directives : c.len-directives.result ≡ length s.directives = c.len-directives.ensures.len ∙ sym (length-map c.args.schema.now.directive_definitions.entries (λ e. (name_text e.0, node_tree directive_definition_tree e.1))) in
    let past : length s.directives ≤ c.args.node = omega (arith, directives) in
    let here = found_entry extended_type (λ e. type_uses s e.1) [] c.args.schema.now.types (c.args.node - c.len-directives.result) c.get_index.result c.get_index.ensures.entry in
    ap (λ (b : Bool). if b then at_number (definition_uses s) s.directives c.args.node else at_number (type_uses s) s.types (c.args.node - length s.directives)) (le-ltb c.args.node (length s.directives) past)
    ∙ ap (λ k. at_number (type_uses s) s.types (c.args.node - k)) (sym directives)
    ∙ here
    ∙ ap (λ r. option_map_or (λ p. type_uses s (extended_type p.1.now)) r []) c.in-Some.is
    ∙ c.is_bare_scalar.ensures bare s
