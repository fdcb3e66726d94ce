use Rattle.std.proofs.Common.{ap, sym, ◌∙◌}
use Rattle.std.specs.Option.{option_map}
use Rattle.graphql_names.specs.NameValue.{NameValue}
use Rattle.graphql_names.specs.Placed.{name_tree, node_tree}
use Rattle.schema_types.specs.Addresses.{under}
use Rattle.document_typed_operations.specs.TypedDocument.{typed_operation_tree, typed_operations_tree}
use Rattle.document_typed_operations.specs.OperationsByName.{put_under, operation_at, put_at}
use Rattle.document_typed_operations.specs.declared.operation.Operation.{Operation}
use Rattle.document_typed_operations.proofs.OperationMaps.{under_names, under-lookup, put-insert}
use Rattle.document_typed_operations.proofs.operation_map.OperationMap.insert.Goals as goal

pub returns-in_ok-insert-in-Some-clause-stands : goal.returns-in_ok-insert-in-Some-clause-stands
returns-in_ok-insert-in-Some-clause-stands c =
    let old = c.args.self.now in
    let o = c.args.operation in
    let tree = node_tree typed_operation_tree o in
    let k = c.in_ok-name-in-Some.name in
    let is = ap (λ (x : Operation). x.name) (sym c.content.ensures) ∙ c.in-Some.is in
    let named =
    ap (under_names (node_tree typed_operation_tree)) c.in_ok-insert-in-Some.ensures.entries
    ∙ put-insert (node_tree typed_operation_tree) k o old.named.entries
    ∙ ap (λ (n : NameValue). put_under n.text tree (under_names (node_tree typed_operation_tree) old.named.entries)) c.in_ok-name-in-Some.ensures.same
    in
    (λ i. record { anonymous = option_map (node_tree typed_operation_tree) old.anonymous; named = named i })
    ∙ sym (ap (λ n. put_at (option_map name_tree n) tree (typed_operations_tree old)) is)

pub returns-in_ok-insert-in-Some-clause-given_back :
    goal.returns-in_ok-insert-in-Some-clause-given_back
returns-in_ok-insert-in-Some-clause-given_back c =
    let old = c.args.self.now in
    let k = c.in_ok-name-in-Some.name in
    let is = ap (λ (x : Operation). x.name) (sym c.content.ensures) ∙ c.in-Some.is in
    ap (option_map (node_tree typed_operation_tree)) c.in_ok-insert-in-Some.ensures.old
    ∙ under-lookup (node_tree typed_operation_tree) k old.named.entries
    ∙ ap (λ (n : NameValue). under n.text (under_names (node_tree typed_operation_tree) old.named.entries)) c.in_ok-name-in-Some.ensures.same
    ∙ sym (ap (λ n. operation_at (option_map name_tree n) (typed_operations_tree old)) is)
