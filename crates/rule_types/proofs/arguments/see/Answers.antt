use Rattle.std.proofs.Common.{◌≡◌, Option, None, Some, Bor, is_some, cond, refl, sym, ap, ◌∙◌}
use Rattle.std.specs.Option.{option_copied}
use Rattle.indexmap.specs.IndexMap.{get}
use Rattle.graphql_names.specs.Placed.{node_tree}
use Rattle.tree_directives.specs.DirectiveTree.{input_value_tree}
use Rattle.tree_directives.specs.declared.input_value.InputValueDefinition.{InputValueDefinition}
use Rattle.schema_components.specs.Names.{same_text}
use Rattle.schema_types.specs.TypeView.{name_text}
use Rattle.rule_types.proofs.SeenFacts.{seen_again, seen_first}
use Rattle.rule_types.proofs.arguments.see.Goals as goal

copied_some : {X : Type 0} (r : Option (Bor X)) → is_some (option_copied r) ≡ is_some r
copied_some None = refl
copied_some (Some x) = refl

pub returns-then-is_some : goal.returns-then-is_some
returns-then-is_some c = λ before are n.
    seen_again before (node_tree input_value_tree c.args.argument.now) c.args.seen.now c.content.result.now.name (ap (λ (v : InputValueDefinition). v.name.text) c.content.ensures) are
    (sym (ap is_some c.get.ensures.value) ∙ copied_some c.get.result ∙ sym c.is_some.ensures ∙ c.if-is_some.true) n

pub returns : goal.returns
returns c = λ before are n.
    seen_first before (node_tree input_value_tree c.args.argument.now) c.args.seen.now c.insert.new.self c.content.result.now.name (ap (λ (v : InputValueDefinition). v.name.text) c.content.ensures) are
    (sym (ap is_some c.get.ensures.value) ∙ copied_some c.get.result ∙ sym c.is_some.ensures ∙ c.if-is_some.false)
    (λ q. c.in_ok-insert.ensures.updates.0 q ∙ (λ i. cond (same_text name_text (c.in_ok-clone.ensures.same i) q) (Some (c.location.ensures i)) (get (same_text name_text) c.args.seen.now q))) n
