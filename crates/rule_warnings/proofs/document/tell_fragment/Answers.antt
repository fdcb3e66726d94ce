use Rattle.std.proofs.Common.{◌∙◌, List, map, ap}
use Rattle.std.proofs.lemmas.Result.{on_ok_weaker}
use Rattle.graphql_names.specs.Placed.{node_tree}
use Rattle.graphql_names.specs.declared.node.Node.{Node}
use Rattle.tree_directives.specs.DirectiveTree.{directive_tree, directives_tree}
use Rattle.tree_directives.specs.declared.directive.Directive.{Directive}
use Rattle.document_typed_selections.specs.TypedTree.{typed_set_tree}
use Rattle.document_typed_operations.specs.declared.operation.Fragment.{Fragment}
use Rattle.graphql_schema.specs.SchemaOf.{schema_tree}
use Rattle.spec_document.specs.MeantTree.{meant_of_set}
use Rattle.rule_definitions.specs.Judged.{judged}
use Rattle.rule_warnings.specs.Views.{uses_of}
use Rattle.rule_warnings.specs.Told.{directives_uses, set_uses}
use Rattle.rule_warnings.proofs.Found.{both_told}
use Rattle.rule_warnings.proofs.document.tell_fragment.Goals as goal

pub returns : goal.returns
returns c =
    let s = schema_tree c.args.schema.now in
    on_ok_weaker c.tell_set.result
    (λ told. both_told (uses_of c.args.uses.now) (uses_of c.tell_directives.new.uses) (uses_of c.tell_set.new.uses) _ _ _ _ c.in_ok-tell_directives.ensures told
    (ap (λ (l : List (Node Directive)). directives_uses (judged s) (map (node_tree directive_tree) l)) c.as_slice.ensures.value
    ∙ ap (λ (f : Fragment). directives_uses (judged s) (directives_tree f.directives)) c.content-own.ensures)
    (ap (λ (f : Fragment). set_uses s (meant_of_set (typed_set_tree f.selection_set))) c.content-own.ensures))
    c.tell_set.ensures
