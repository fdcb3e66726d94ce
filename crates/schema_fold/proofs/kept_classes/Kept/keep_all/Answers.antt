use Rattle.std.proofs.Common.{List, ◌++◌, map, refl, ap, ◌∙◌}
use Rattle.graphql_names.specs.Placed.{Placed, Place, Text}
use Rattle.tree_directives.specs.DirectiveTree.{InputValueTree, directive_tree, input_value_tree}
use Rattle.schema_types.specs.in_type_members.TypeSystemTree.{FieldDefinitionTree, EnumValueTree, field_definition_tree, enum_value_tree}
use Rattle.schema_types.specs.in_components.Lists.{firsts, repeats}
use Rattle.schema_types.specs.in_components.Given.{component_tree, component_name_tree, given_name}
use Rattle.schema_fold.specs.BuildErrors.{BuildFault}
use Rattle.schema_fold.specs.Components.{keyed_firsts, field_key, value_key, input_key}
use Rattle.schema_fold.specs.FaultView.{faults_of}
use Rattle.schema_fold.specs.Keeping.{name_fault}
use Rattle.schema_fold.specs.Kept.{interface_repeat, field_repeat, repeat_faults}
use Rattle.schema_fold.specs.declared.build_error.Repeat.TheVariants as repeat
use Rattle.schema_fold.proofs.Grown.{kept_trees, told_trees}
use Rattle.schema_fold.proofs.Keeping.{following}
use Rattle.schema_fold.proofs.kept_classes.Kept.keep_all.Goals as goal

pub returns-clause-kept : goal.returns-clause-kept
returns-clause-kept c = λ i. record {
  directives = map (component_tree directive_tree) (c.swap.ensures.x_after i).items;
  interfaces = (c.in_ok-keep_names.ensures.kept ∙ ap (λ xs. firsts given_name (map component_name_tree xs)) c.as_slice.ensures.value) i;
  fields = (kept_trees field_definition_tree (λ f. f.name) field_key refl c.keep_components.new.kept c.as_slice-2.result.now c.in_ok-keep_components.ensures.kept
      ∙ ap (λ xs. keyed_firsts field_key (map (component_tree field_definition_tree) xs)) c.as_slice-2.ensures.value) i;
  members = (c.in_ok-keep_names-2.ensures.kept ∙ ap (λ xs. firsts given_name (map component_name_tree xs)) c.as_slice-3.ensures.value) i;
  values = (kept_trees enum_value_tree (λ v. v.value) value_key refl c.keep_components-2.new.kept c.as_slice-4.result.now c.in_ok-keep_components-2.ensures.kept
      ∙ ap (λ xs. keyed_firsts value_key (map (component_tree enum_value_tree) xs)) c.as_slice-4.ensures.value) i;
  inputs = (kept_trees input_value_tree (λ v. v.name) input_key refl c.keep_components-3.new.kept c.as_slice-5.result.now c.in_ok-keep_components-3.ensures.kept
      ∙ ap (λ xs. keyed_firsts input_key (map (component_tree input_value_tree) xs)) c.as_slice-5.ensures.value) i;
}

pub returns-clause-faults : goal.returns-clause-faults
returns-clause-faults c =
    let t = c.args.type_name.now.text in
    let all = c.args.all.now in
    let start = faults_of c.args.faults.now in
    let one = faults_of c.keep_names.new.faults in
    let two = faults_of c.keep_components.new.faults in
    let three = faults_of c.keep_names-2.new.faults in
    let four = faults_of c.keep_components-2.new.faults in
    let five = faults_of c.keep_components-3.new.faults in
    let p : List BuildFault = repeat_faults {A = Text Place} (interface_repeat c.args.kind) t given_name (λ x. x.place) (map component_name_tree all.interfaces.items) in
    let q : List BuildFault = repeat_faults {A = Placed Place (FieldDefinitionTree Place)} (field_repeat c.args.kind) t field_key (λ x. x.place) (map (component_tree field_definition_tree) all.fields.items) in
    let r : List BuildFault = repeat_faults {A = Text Place} repeat.UnionMember t given_name (λ x. x.place) (map component_name_tree all.members.items) in
    let s : List BuildFault = repeat_faults {A = Placed Place (EnumValueTree Place)} repeat.EnumValue t value_key (λ x. x.place) (map (component_tree enum_value_tree) all.values.items) in
    let u : List BuildFault = repeat_faults {A = Placed Place (InputValueTree Place)} repeat.InputField t input_key (λ x. x.place) (map (component_tree input_value_tree) all.inputs.items) in
    following start one two three four five p q r s u
    (c.in_ok-keep_names.ensures.faults ∙ ap (λ k. start ++ map (name_fault k t) (repeats given_name (map component_name_tree c.as_slice.result.now))) c.interface_repeat.ensures
    ∙ ap (λ xs. start ++ map (name_fault (interface_repeat c.args.kind) t) (repeats given_name (map component_name_tree xs))) c.as_slice.ensures.value)
    (c.in_ok-keep_components.ensures.faults ∙ ap (λ l. one ++ l) (told_trees field_definition_tree (λ f. f.name) field_key refl c.field_repeat.result t c.as_slice-2.result.now)
    ∙ ap (λ k. one ++ repeat_faults {A = Placed Place (FieldDefinitionTree Place)} k t field_key (λ x. x.place) (map (component_tree field_definition_tree) c.as_slice-2.result.now)) c.field_repeat.ensures
    ∙ ap (λ xs. one ++ repeat_faults {A = Placed Place (FieldDefinitionTree Place)} (field_repeat c.args.kind) t field_key (λ x. x.place) (map (component_tree field_definition_tree) xs)) c.as_slice-2.ensures.value)
    (c.in_ok-keep_names-2.ensures.faults ∙ ap (λ xs. two ++ map (name_fault repeat.UnionMember t) (repeats given_name (map component_name_tree xs))) c.as_slice-3.ensures.value)
    (c.in_ok-keep_components-2.ensures.faults ∙ ap (λ l. three ++ l) (told_trees enum_value_tree (λ v. v.value) value_key refl repeat.EnumValue t c.as_slice-4.result.now)
    ∙ ap (λ xs. three ++ repeat_faults {A = Placed Place (EnumValueTree Place)} repeat.EnumValue t value_key (λ x. x.place) (map (component_tree enum_value_tree) xs)) c.as_slice-4.ensures.value)
    (c.in_ok-keep_components-3.ensures.faults ∙ ap (λ l. four ++ l) (told_trees input_value_tree (λ v. v.name) input_key refl repeat.InputField t c.as_slice-5.result.now)
    ∙ ap (λ xs. four ++ repeat_faults {A = Placed Place (InputValueTree Place)} repeat.InputField t input_key (λ x. x.place) (map (component_tree input_value_tree) xs)) c.as_slice-5.ensures.value)
