use Rattle.std.proofs.Common.{◌≡◌, [], ◌∷◌, option_map, sym, ap, ◌∙◌, rules}
use Rattle.std.proofs.lemmas.Result.{IfOk-equal}
use Rattle.graphql_names.specs.NameValue.{NameValue}
use Rattle.document_typed_selections.specs.TypedTree.{typed_selection_tree}
use Rattle.rule_definitions.specs.Room.{◌⊕◌}
use Rattle.rule_selection_queries.specs.in_reach.in_typed_operations.DocumentView.{operation_meant}
use Rattle.fault_document_errors.specs.DocumentBreaches.{SubscriptionUsesIntrospection}
use Rattle.rule_document_definitions.specs.DocumentFaults.{broken}
use Rattle.rule_document_definitions.specs.Selected.{operation_name}
use Rattle.rule_fragments.specs.Broken.{brokens_of}
use Rattle.rule_fragments.proofs.Introspected.{introspected}
use Rattle.rule_fragments.proofs.subscriptions.subscription_uses_introspection.Goals as goal

pub returns : goal.returns
returns c =
    let o = operation_meant c.args.operation.now in
    let field = ap (λ (k : NameValue). k.text) c.in_ok-field.ensures.same in
    let name : option_map (λ (n : NameValue). n.text) c.in_ok-name.name ≡ operation_name o = search rules in
    IfOk-equal c.tell_breach.result _ _ _ c.tell_breach.ensures.told
    (ap (λ l. brokens_of c.args.breaches.now ⊕ l)
    ((λ i. broken (c.location.ensures i) (SubscriptionUsesIntrospection (name i) (field i)) ∷ [])
    ∙ introspected o (typed_selection_tree c.args.selection.now) c.in-Some.node.now c.content.result.now c.in-Some.ensures c.content.ensures (sym c.if-not-is_meta_field_name.ensures)))
