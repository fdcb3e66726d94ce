use Rattle.std.proofs.Common.{◌∙◌, List, map, refl, ap}
use Rattle.std.proofs.lemmas.Result.{on_ok_weaker}
use Rattle.graphql_names.specs.Placed.{node_tree}
use Rattle.graphql_names.specs.declared.node.Node.{Node}
use Rattle.tree_directives.specs.DirectiveTree.{directive_tree}
use Rattle.tree_directives.specs.declared.directive.Directive.{Directive}
use Rattle.document_typed_selections.specs.TypedTree.{typed_selection_tree}
use Rattle.graphql_schema.specs.SchemaOf.{schema_tree}
use Rattle.spec_document.specs.MeantTree.{meant}
use Rattle.rule_definitions.specs.Judged.{judged}
use Rattle.rule_warnings.specs.Views.{uses_of}
use Rattle.rule_warnings.specs.Told.{own_uses, directives_uses}
use Rattle.rule_warnings.proofs.Found.{both_told}
use Rattle.rule_warnings.proofs.Walked.{directives_meant}
use Rattle.rule_warnings.proofs.selections.tell_selection.Goals as goal

pub returns : goal.returns
returns c =
    let s = schema_tree c.args.schema.now in
    let own = own_uses s c.args.parent.now.text (meant (typed_selection_tree c.args.selection.now)) in
    on_ok_weaker c.tell_directives.result
    (λ told. both_told (uses_of c.args.uses.now) (uses_of c.tell_own.new.uses) (uses_of c.tell_directives.new.uses) own _ own _ c.in_ok-tell_own.ensures told refl
    (ap (λ (l : List (Node Directive)). directives_uses (judged s) (map (node_tree directive_tree) l)) c.as_slice.ensures.value
    ∙ ap (directives_uses (judged s)) (c.directives.ensures ∙ directives_meant (typed_selection_tree c.args.selection.now))))
    c.tell_directives.ensures
