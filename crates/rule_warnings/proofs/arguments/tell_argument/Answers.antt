use Rattle.std.proofs.Common.{◌≡◌, ◌∙◌, ◌++◌, List, [], ap, sym, subst, find}
use Rattle.std.specs.Option.{option_map, option_map_or}
use Rattle.std.proofs.lemmas.Result.{on_ok_weaker}
use Rattle.graphql_names.specs.Node.{content}
use Rattle.graphql_names.specs.Placed.{Placed, Place, name_tree, node_tree, unplaced_node}
use Rattle.tree_literals.specs.ValueTree.{value_tree}
use Rattle.tree_directives.specs.DirectiveTree.{InputValueTree, input_value_tree, input_value_trees, directives_tree, unplaced_input_value, unplaced_directives}
use Rattle.tree_directives.specs.DirectiveQueries.{input_value_has_name}
use Rattle.tree_directives.specs.declared.directive.Argument.{Argument}
use Rattle.tree_directives.specs.declared.input_value.InputValueDefinition.{InputValueDefinition}
use Rattle.graphql_schema.specs.SchemaOf.{schema_tree}
use Rattle.rule_definitions.specs.Judged.{Judged, judged}
use Rattle.rule_definitions.specs.Names.{named_in}
use Rattle.rule_definitions.specs.Room.{◌⊕◌}
use Rattle.rule_warnings.specs.Deprecated.{DeprecatedUse, deprecation}
use Rattle.rule_warnings.specs.Views.{uses_of}
use Rattle.rule_warnings.specs.Told.{value_uses}
use Rattle.rule_warnings.specs.Telling.{use_by, plain_definitions}
use Rattle.rule_warnings.specs.declared.owner.Owner.{Owner}
use Rattle.rule_warnings.proofs.Deprecations.{plain_found}
use Rattle.rule_warnings.proofs.Found.{nothing_told, found_told, both_told}
use Rattle.rule_warnings.proofs.arguments.tell_argument.Goals as goal

-- what is told of an argument by its definition
abbrev by_definition : Judged → Owner → Argument → Placed (Unit {0}) (InputValueTree (Unit {0})) → List (DeprecatedUse Place)
by_definition s o a v = use_by o (deprecation v.it.directives) (name_tree a.name) ++ value_uses s (named_in v.it.ty.it) (value_tree (content a.value))

pub returns-in_default : goal.returns-in_default
returns-in_default c =
    let s = judged (schema_tree c.args.schema.now) in
    let defs = plain_definitions c.args.definitions.now in
    let old = uses_of c.args.uses.now in
    let a = c.content-given.result.now in
    subst (λ (x : Argument). old ≡ old ⊕ option_map_or (by_definition s c.args.owner x) (find (input_value_has_name x.name.text) defs) []) c.content-given.ensures
    (nothing_told (by_definition s c.args.owner a) old (find (input_value_has_name a.name.text) defs)
    (plain_found a.name.text (input_value_trees c.args.definitions.now)
    ∙ ap (option_map (unplaced_node unplaced_input_value)) (sym c.find.ensures ∙ ap (option_map (λ v. node_tree input_value_tree v.now)) c.in_default.is)))

pub returns : goal.returns
returns c =
    let s = judged (schema_tree c.args.schema.now) in
    let defs = plain_definitions c.args.definitions.now in
    let old = uses_of c.args.uses.now in
    let new = uses_of c.tell_value.new.uses in
    let a = c.content-given.result.now in
    on_ok_weaker c.tell_value.result
    (λ told. subst (λ (x : Argument). new ≡ old ⊕ option_map_or (by_definition s c.args.owner x) (find (input_value_has_name x.name.text) defs) []) c.content-given.ensures
    (found_told (by_definition s c.args.owner a) old (find (input_value_has_name a.name.text) defs) (unplaced_node unplaced_input_value (node_tree input_value_tree c.in-Some.definition.now)) new
    (plain_found a.name.text (input_value_trees c.args.definitions.now)
    ∙ ap (option_map (unplaced_node unplaced_input_value)) (sym c.find.ensures ∙ ap (option_map (λ v. node_tree input_value_tree v.now)) c.in-Some.is))
    (both_told old (uses_of c.tell_use.new.uses) new _ _ _ _ c.in_ok-tell_use.ensures told
    (ap (λ (d : InputValueDefinition). use_by c.args.owner (deprecation (unplaced_directives (directives_tree d.directives))) (name_tree a.name)) c.content-defined.ensures)
    (λ i. value_uses (judged (schema_tree (c.schema.ensures i))) ((c.inner_type-ty.ensures ∙ ap (λ (d : InputValueDefinition). named_in (unplaced_input_value (input_value_tree d)).ty.it) c.content-defined.ensures) i) (value_tree (c.content.ensures i))))))
    c.tell_value.ensures
