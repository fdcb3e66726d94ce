use Rattle.std.proofs.Common.{◌≡◌, ◌↔◌, ◌∙◌, ◌++◌, map, ap, sym, subst, refl, Contains}
use Rattle.tree_operations.specs.SelectionTree.{selection_tree, selection_trees}
use Rattle.schema_types.specs.Plain.{plain}
use Rattle.graphql_schema.specs.SchemaOf.{schema_tree}
use Rattle.document_typing.specs.Meanings.{meanings}
use Rattle.document_typing.specs.TypedByPlace.{IsSetOn}
use Rattle.document_typing.specs.TypingFaults.{SetFails}
use Rattle.document_typing.specs.SetFaults.{set_faults}
use Rattle.document_typing.specs.FaultView.{fault_of, faults_of}
use Rattle.document_typing.proofs.SetFailures.{set-fails}
use Rattle.document_typing.proofs.FullLists.{tells-set}
use Rattle.document_typing.proofs.TypedPlaces.{kept_all-typed}
use Rattle.document_typing.proofs.field_set.field_set_from_ast.Goals as goal

pub returns-clause-faults : goal.returns-clause-faults
returns-clause-faults c f =
    let m = meanings (plain (schema_tree c.args.schema.now)) in
    let ts = selection_trees selection_tree c.args.selections.now in
    let t = c.args.type_name.now.text in
    let told : faults_of c.type_set.new.faults ≡ set_faults m ts t = c.in_ok-selection_set.ensures.faults ∙ ap (λ l. map fault_of l ++ set_faults m ts t) c.new-faults.ensures.items in
    subst (λ l. Contains l f ↔ SetFails m t ts f) (sym told) (set-fails m ts t f)

pub returns-clause-full : goal.returns-clause-full
returns-clause-full c =
    let m = meanings (plain (schema_tree c.args.schema.now)) in
    let ts = selection_trees selection_tree c.args.selections.now in
    let t = c.args.type_name.now.text in
    let told : faults_of c.type_set.new.faults ≡ set_faults m ts t = c.in_ok-selection_set.ensures.faults ∙ ap (λ l. map fault_of l ++ set_faults m ts t) c.new-faults.ensures.items in
    tells-set m ts t (faults_of c.type_set.new.faults) (λ f x. subst (λ l. Contains l f) (sym told) ((set-fails m ts t f).1 x))

pub returns-clause-typed : goal.returns-clause-typed
returns-clause-typed c =
    let m = meanings (plain (schema_tree c.args.schema.now)) in
    let ts = selection_trees selection_tree c.args.selections.now in
    let t = c.args.type_name.now.text in
    subst (IsSetOn m t) (sym c.in_ok-selection_set.ensures.kept) (refl, kept_all-typed m ts t)
