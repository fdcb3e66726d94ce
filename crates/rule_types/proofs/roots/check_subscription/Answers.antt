use Rattle.std.proofs.Common.{◌≡◌, true, false, sym, ap, ◌∙◌}
use Rattle.std.proofs.lemmas.Result.{IfOk-equal}
use Rattle.graphql_names.specs.Node.{content}
use Rattle.tree_directives.specs.declared.operation_type.OperationType.TheVariants as operation
use Rattle.schema_types.specs.declared.schema_definition.SchemaDefinition.{SchemaDefinition}
use Rattle.fault_data.specs.FaultView.{faults_of}
use Rattle.fault_data.specs.Room.{◌⊕◌}
use Rattle.rule_types.specs.FaultLists.{duplicate_root_operation_type, is_same_root}
use Rattle.rule_types.specs.Trees.{root_tree}
use Rattle.rule_types.proofs.SameRoots.{again_of_first, again_of_other}
use Rattle.rule_types.proofs.roots.check_subscription.Goals as goal

pub returns-then-is_same_root : goal.returns-then-is_same_root
returns-then-is_same_root c =
    let r = content c.args.definition.now in
    let mutations = duplicate_root_operation_type operation.Mutation r.mutation operation.Subscription r.subscription in
    let same : is_same_root (root_tree r.query) (root_tree r.subscription) ≡ true =
    ap (λ (d : SchemaDefinition). is_same_root (root_tree d.query) (root_tree d.subscription)) (sym c.content-roots.ensures) ∙ sym c.is_same_root.ensures ∙ c.if-is_same_root.true in
    IfOk-equal c.duplicate_root_operation_type.result _ _ _ c.duplicate_root_operation_type.ensures
    (ap (λ l. faults_of c.args.faults.now ⊕ l) (
    ap (λ (d : SchemaDefinition). duplicate_root_operation_type operation.Query d.query operation.Subscription d.subscription) c.content-roots.ensures
    ∙ again_of_first mutations (root_tree r.query) (root_tree r.subscription) same))

pub returns : goal.returns
returns c =
    let r = content c.args.definition.now in
    let mutations = duplicate_root_operation_type operation.Mutation r.mutation operation.Subscription r.subscription in
    let other : is_same_root (root_tree r.query) (root_tree r.subscription) ≡ false =
    ap (λ (d : SchemaDefinition). is_same_root (root_tree d.query) (root_tree d.subscription)) (sym c.content-roots.ensures) ∙ sym c.is_same_root.ensures ∙ c.if-is_same_root.false in
    IfOk-equal c.duplicate_root_operation_type-2.result _ _ _ c.duplicate_root_operation_type-2.ensures
    (ap (λ l. faults_of c.args.faults.now ⊕ l) (
    ap (λ (d : SchemaDefinition). duplicate_root_operation_type operation.Mutation d.mutation operation.Subscription d.subscription) c.content-roots.ensures
    ∙ again_of_other mutations (root_tree r.query) (root_tree r.subscription) other))
