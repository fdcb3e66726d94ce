use Rattle.std.proofs.Common.{◌≡◌, Some, is_some, cond, sym, ap, ◌∙◌}
use Rattle.indexmap.specs.IndexMap.{get}
use Rattle.graphql_names.specs.Placed.{node_tree}
use Rattle.tree_directives.specs.DirectiveTree.{input_value_tree}
use Rattle.tree_directives.specs.declared.input_value.InputValueDefinition.{InputValueDefinition}
use Rattle.schema_components.specs.Names.{same_text}
use Rattle.schema_types.specs.TypeView.{name_text}
use Rattle.rule_types.proofs.FirstsFacts.{first_again, first_noted, some_lent}
use Rattle.rule_types.proofs.interface_arguments.note_first.Goals as goal

pub returns-then-is_some : goal.returns-then-is_some
returns-then-is_some c = λ before are n.
    first_again before (node_tree input_value_tree c.args.argument.now) c.args.firsts.now are
    (sym (ap is_some (c.first_like.ensures before are)) ∙ some_lent (node_tree input_value_tree) c.first_like.result ∙ sym c.is_some.ensures ∙ c.if-is_some.true) n

pub returns : goal.returns
returns c = λ before are n.
    let copied : node_tree input_value_tree c.in_ok-clone-2.field-0 ≡ node_tree input_value_tree c.args.argument.now = λ i. record { it = input_value_tree (c.in_ok-clone-2.ensures.cases.0 i); place = c.in_ok-clone-2.ensures.cases.1 i } in
    first_noted before (node_tree input_value_tree c.args.argument.now) c.args.firsts.now c.insert.new.self c.content.result.now.name c.in_ok-clone-2.field-0
    (ap (λ (v : InputValueDefinition). v.name.text) c.content.ensures) copied are
    (sym (ap is_some (c.first_like.ensures before are)) ∙ some_lent (node_tree input_value_tree) c.first_like.result ∙ sym c.is_some.ensures ∙ c.if-is_some.false)
    (λ q. c.in_ok-insert.ensures.updates.0 q ∙ (λ i. cond (same_text name_text (c.in_ok-clone.ensures.same i) q) (Some c.in_ok-clone-2.field-0) (get (same_text name_text) c.args.firsts.now q))) n
