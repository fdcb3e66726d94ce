use Rattle.std.proofs.Common.{◌||◌, refl, sym, ap, ◌∙◌}
use Rattle.std.specs.Option.{option_map}
use Rattle.std.proofs.lemmas.Result.{IfOk-weaker}
use Rattle.schema_fold_index.specs.in_definitions.DefinitionTree.{definition_tree}
use Rattle.schema_fold_index.specs.in_fold.Made.{defined_view}
use Rattle.schema_fold_types.specs.DefinedKinds.{DefinedKinds}
use Rattle.schema_fold_types.specs.DefinedKindsView.{seen_view}
use Rattle.schema_fold_types.proofs.Seeing.{sees_none, sees_some}
use Rattle.schema_fold_types.proofs.defined_kinds.DefinedKinds.add.Goals as goal

pub returns-in-None : goal.returns-in-None
returns-in-None c =
    let old = seen_view c.args.self.now in
    let new : DefinedKinds = record { kinds = old.kinds; schema = old.schema || c.is_schema_definition.result } in
    sees_none old new (definition_tree c.args.d.now) (ap (λ b. old.schema || b) c.is_schema_definition.ensures) (sym c.type_definition.ensures ∙ ap (option_map defined_view) c.in-None.is) refl

pub returns-in-Some : goal.returns-in-Some
returns-in-Some c =
    let old = seen_view c.args.self.now in
    IfOk-weaker _ _ _ (λ _ h. sees_some old (seen_view c.add_type.new.self) (definition_tree c.args.d.now) (c.add_type.ensures.schema ∙ ap (λ b. old.schema || b) c.is_schema_definition.ensures)
    (defined_view c.in-Some.t) (sym c.type_definition.ensures ∙ ap (option_map defined_view) c.in-Some.is) h) c.add_type.ensures.kinds
