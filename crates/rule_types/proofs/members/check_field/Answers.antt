use Rattle.std.proofs.Common.{◌≡◌, ◌++◌, map, ap, ◌∙◌, codes, append_assoc}
use Rattle.std.proofs.lemmas.Result.{IfOk-equal}
use Rattle.graphql_names.specs.Node.{content}
use Rattle.graphql_names.specs.Places.{is_built_in}
use Rattle.graphql_names.specs.Placed.{node_tree}
use Rattle.tree_literals.specs.TypeQueries.{inner_name}
use Rattle.tree_directives.specs.DirectiveTree.{input_value_tree}
use Rattle.tree_type_members.specs.TypeSystemTree.{field_definition_tree}
use Rattle.tree_type_members.specs.declared.field_definition.FieldDefinition.{FieldDefinition}
use Rattle.fault_data.specs.FaultView.{faults_of}
use Rattle.fault_data.specs.Room.{◌⊕◌}
use Rattle.fault_data.proofs.Room.{room_both}
use Rattle.rule_types.specs.FaultLists.{kind_named, reserved_name, undefined_type, output_type, arguments_faults}
use Rattle.rule_types.specs.Trees.{schema_of}
use Rattle.rule_types.proofs.members.check_field.Goals as goal

pub returns : goal.returns
returns c =
    let s = schema_of c.args.judging.now in
    let old = faults_of c.args.faults.now in
    let m = c.args.name.now.text in
    let f = node_tree field_definition_tree c.args.field.now in
    let inner = kind_named s (inner_name f.it.ty).it in
    let named = reserved_name (is_built_in f.place) m f.it.name.place (codes "a field") in
    let undefined = undefined_type f.it.ty inner in
    let output = output_type m f inner in
    let arguments = arguments_faults s f.it.arguments in
    let definition : c.deref.result.now ≡ (content c.args.field.now).arguments.items =
    c.deref.ensures.value ∙ ap (λ (d : FieldDefinition). d.arguments.items) c.content.ensures in
    IfOk-equal c.check_arguments.result _ _ _ c.check_arguments.ensures
    ((λ i. c.in_ok-check_field_type.ensures i ⊕ arguments_faults s (map (node_tree input_value_tree) (definition i)))
    ∙ room_both old (named ++ (undefined ++ output)) arguments
    ∙ ap (λ l. old ⊕ l) (append_assoc named (undefined ++ output) arguments ∙ ap (λ l. named ++ l) (append_assoc undefined output arguments)))
