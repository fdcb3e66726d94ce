use Rattle.std.proofs.Common.{◌≡◌, ◌++◌, Some, false, rules, refl, ap, sym, subst, ◌∙◌}
use Rattle.graphql_names.specs.Node.{content, place}
use Rattle.tree_operations.specs.OperationTree.{operation_tree}
use Rattle.document_typing.specs.FaultView.{faults_of}
use Rattle.document_typing.specs.KeptDocument.{meant_operation}
use Rattle.document_typing.specs.DefinedByPlace.{IsDefinedDocument}
use Rattle.document_typing.specs.MeaningView.{schema_under, meanings_under}
use Rattle.document_typing.specs.SetFaults.{set_faults}
use Rattle.document_typing.specs.TypedDefinitions.{Typed, based, is_known, name_faults}
use Rattle.document_typing.specs.StepsView.{fragment_meanings, typed_view}
use Rattle.document_typing.proofs.AddedOperations.{and_kept, operation-put, told-known, checked, with-kept}
use Rattle.graphql_names.specs.Placed.{Place, node_tree}
use Rattle.schema_types.specs.in_components.Names.{entries_of}
use Rattle.schema_types.specs.TypeView.{name_text}
use Rattle.document_typed_operations.specs.TypedDocument.{typed_operation_tree, typed_fragment_tree, typed_operations_tree}
use Rattle.document_typing.proofs.DefinedPlaces.{operation-defined}
use Rattle.document_typing.proofs.document.TypedDocument.add_operation.Goals as goal

pub returns-clause-view : goal.returns-clause-view
returns-clause-view c =
    let m = meanings_under c.args.typing.now.schema in
    let p = place c.args.operation.now in
    let o = operation_tree (content c.args.operation.now) in
    let t = c.in-Some.root.text in
    let x = meant_operation m (based p t o) in
    let st = typed_view c.args.self.now in
    let between = c.check_name.new.self in
    let told : typed_view between ≡ checked m c.args.beside p o o.name st = c.in_ok-is_known.ensures.faults in
    let absent : is_known o.name st ≡ false = sym c.in_ok-is_known.ensures.known ∙ c.if-is_known.false in
    let root : m.root o.operation_type ≡ Some t = search rules in
    let put = operation-put (fragment_meanings between.fragments) (faults_of between.faults) o.name between.operations c.insert.new.self c.in_ok-typed.typed x
    c.in_ok-typed.ensures.kept refl c.in_ok-insert.ensures.stands
    (ap (is_known o.name) told ∙ told-known m c.args.beside p o (name_faults c.args.beside p o.name st) o.name st ∙ absent) in
    (λ i. record { document = put i; faults = c.in_ok-typed.ensures.faults i })
    ∙ ap (λ (s : Typed Place). record { document = and_kept o.name x s.document; faults = s.faults ++ set_faults m o.selections t }) told
    ∙ with-kept m c.args.beside p o o.name st t root absent

pub returns-clause-defined : goal.returns-clause-defined
returns-clause-defined c h =
    let s = schema_under c.args.typing.now.schema in
    let between = c.check_name.new.self in
    operation-defined s (entries_of name_text (node_tree typed_fragment_tree) between.fragments) (node_tree typed_operation_tree c.in_ok-typed.typed) (typed_operations_tree between.operations) (typed_operations_tree c.insert.new.self)
    c.in_ok-insert.ensures.stands c.in_ok-typed.ensures.defined (subst (IsDefinedDocument s) (sym c.in_ok-is_known.ensures.kept) h)
