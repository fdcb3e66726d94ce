use Rattle.std.proofs.Common.{◌≡◌, ap, subst, sym, true≢false, ◌∙◌, rules}
use Rattle.std.proofs.lemmas.Result.{on_ok_weaker}
use Rattle.graphql_schema.specs.SchemaOf.{schema_tree}
use Rattle.tree_directives.specs.declared.operation_type.OperationType.TheVariants as operation
use Rattle.document_typed_selections.specs.TypedTree.{typed_set_tree}
use Rattle.document_typed_operations.specs.DocumentView.{operation_meant}
use Rattle.document_typed_operations.specs.WalkView.{fragments_tree}
use Rattle.document_typed_operations.specs.declared.operation.Operation.{Operation}
use Rattle.rule_reach.specs.Reach.{meant_fragments}
use Rattle.strict_documents.specs.Telling.{TellsRoots}
use Rattle.strict_documents.proofs.AtRoots.{at_root, no_root}
use Rattle.strict_documents.proofs.roots.tell_roots.Goals as goal

pub returns-then-not-is_subscription : goal.returns-then-not-is_subscription
returns-then-not-is_subscription c =
    no_root (schema_tree c.args.schema.now) c.args.document.now c.args.operation.now c.args.departures.now c.args.departures.now
    (λ kind. true≢false (sym (c.if-not-is_subscription.ensures.1 (ap (λ (x : Operation). x.operation_type) c.content-own.ensures ∙ kind))))

pub returns : goal.returns
returns c =
    let t = schema_tree c.args.schema.now in
    let kind : (operation_meant c.args.operation.now).operation_type ≡ operation.Subscription = search rules in
    let fragments = c.args.document.now.fragments in
    let old = c.args.departures.now in
    let new = c.tell_root_selections.new.departures in
    on_ok_weaker c.tell_root_selections.result
    (λ told. at_root t c.args.document.now c.args.operation.now old new kind
    (subst (λ (x : Operation). TellsRoots t (meant_fragments fragments) x.selection_set.ty.text (fragments_tree fragments) (typed_set_tree x.selection_set) old new) c.content-own.ensures told))
    c.tell_root_selections.ensures
