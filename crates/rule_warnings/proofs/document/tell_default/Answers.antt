use Rattle.std.proofs.Common.{◌∙◌, ap}
use Rattle.std.specs.Option.{option_map}
use Rattle.std.proofs.lemmas.Result.{on_ok_weaker}
use Rattle.graphql_names.specs.Placed.{Placed, Place, Text, node_tree}
use Rattle.graphql_names.specs.Node.{content}
use Rattle.tree_literals.specs.TypeTree.{type_tree}
use Rattle.tree_literals.specs.TypeQueries.{inner_name}
use Rattle.tree_literals.specs.ValueTree.{ValueTree, value_tree}
use Rattle.tree_literals.specs.declared.ty.«Type».{«Type»}
use Rattle.graphql_schema.specs.SchemaOf.{schema_tree}
use Rattle.rule_definitions.specs.Judged.{judged}
use Rattle.rule_definitions.specs.Room.{◌⊕◌}
use Rattle.rule_warnings.specs.Views.{uses_of}
use Rattle.rule_warnings.specs.Told.{value_uses}
use Rattle.rule_warnings.proofs.Found.{nothing_told, found_told}
use Rattle.rule_warnings.proofs.document.tell_default.Goals as goal

pub returns-in-None : goal.returns-in-None
returns-in-None c =
    let v = c.args.variable.now in
    let ty = (inner_name (type_tree (content v.ty))).it in
    nothing_told (λ (x : Placed Place (ValueTree Place)). value_uses (judged (schema_tree c.args.schema.now)) ty x.it) (uses_of c.args.uses.now) (option_map (node_tree value_tree) v.default_value)
    (ap (option_map (node_tree value_tree)) c.in-None.is)

pub returns-in-Some : goal.returns-in-Some
returns-in-Some c =
    let s = judged (schema_tree c.args.schema.now) in
    let v = c.args.variable.now in
    let ty = (inner_name (type_tree (content v.ty))).it in
    let old = uses_of c.args.uses.now in
    let named = ap (λ (n : Text Place). n.it) c.inner_named_type-ty.ensures ∙ ap (λ (t : «Type»). (inner_name (type_tree t)).it) c.content.ensures in
    on_ok_weaker c.tell_value.result
    (λ told. found_told (λ (x : Placed Place (ValueTree Place)). value_uses s ty x.it) old (option_map (node_tree value_tree) v.default_value) (node_tree value_tree c.in-Some.value) _
    (ap (option_map (node_tree value_tree)) c.in-Some.is)
    (told ∙ (λ i. old ⊕ value_uses (judged (schema_tree (c.schema.ensures i))) (named i) (value_tree (c.content-in-Some.ensures i)))))
    c.tell_value.ensures
