use Rattle.std.proofs.Common.{inl, inr, refl, sym, ◌∙◌, subst, true≢false}
use Rattle.graphql_names.specs.Node.{content}
use Rattle.tree_literals.specs.TypeTree.{type_tree}
use Rattle.tree_literals.specs.TypeQueries.{AreTypesCompatible}
use Rattle.tree_literals.specs.declared.ty.«Type».{«Type»}
use Rattle.tree_directives.specs.DirectiveTree.{input_value_tree}
use Rattle.tree_operations.specs.OperationTree.{variable_definition_tree}
use Rattle.rule_arguments.proofs.Types.{usage_allowed}
use Rattle.rule_arguments.proofs.usage.is_variable_usage_allowed.Goals as goal

pub returns-then-is_assignable_to : goal.returns-then-is_assignable_to
returns-then-is_assignable_to c =
    let fit = subst (λ (t : «Type»). AreTypesCompatible (type_tree t) (type_tree (content c.args.definition.now.ty))) c.content-ty.ensures
    (subst (λ (t : «Type»). AreTypesCompatible (type_tree c.content-ty.result.now) (type_tree t)) c.content.ensures (c.is_assignable_to.ensures.0 c.if-is_assignable_to.true)) in
    (λ t. (usage_allowed (variable_definition_tree c.args.variable.now) (input_value_tree c.args.definition.now)).0 (inl fit), λ h. refl)

pub returns : goal.returns
returns c =
    let allowed = usage_allowed (variable_definition_tree c.args.variable.now) (input_value_tree c.args.definition.now) in
    let fits = λ (e : AreTypesCompatible (type_tree (content c.args.variable.now.ty)) (type_tree (content c.args.definition.now.ty))).
    c.is_assignable_to.ensures.1 (subst (λ (t : «Type»). AreTypesCompatible (type_tree t) (type_tree c.content.result.now)) (sym c.content-ty.ensures)
    (subst (λ (t : «Type»). AreTypesCompatible (type_tree (content c.args.variable.now.ty)) (type_tree t)) (sym c.content.ensures) e)) in
    (λ t. allowed.0 (inr (c.fits_with_default.ensures.0 t)), λ h. elim (allowed.1 h) [ inl e ↦ absurd (true≢false (sym (fits e) ∙ c.if-is_assignable_to.false)) | inr d ↦ c.fits_with_default.ensures.1 d ])
