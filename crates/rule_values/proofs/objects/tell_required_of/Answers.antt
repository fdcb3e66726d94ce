use Rattle.std.proofs.Common.{ℕ, Bool, List, true, IfSome, nat_eq, ap, subst, ◌∙◌}
use Rattle.std.specs.Option.{option_map_or}
use Rattle.std.specs.Cmp.Lexicographic.{pointwise}
use Rattle.std.proofs.lemmas.Result.{on_ok_weaker}
use Rattle.indexmap.specs.IndexMap.{get_by}
use Rattle.graphql_names.specs.NameValue.{NameValue}
use Rattle.tree_directives.specs.DirectiveTree.{input_value_tree}
use Rattle.schema_components.specs.Given.{component_tree}
use Rattle.schema_components.specs.Names.{entries_of}
use Rattle.schema_inputs.specs.Inputs.{AreRequired}
use Rattle.graphql_schema.specs.in_schema_types.TypeView.{name_text}
use Rattle.fault_data.specs.FaultView.{faults_of}
use Rattle.fault_data.specs.Room.{◌⊕◌}
use Rattle.rule_values.proofs.KnownFields.{listed_required}
use Rattle.rule_values.proofs.objects.tell_required_of.Goals as goal

pub returns-in-Some : goal.returns-in-Some
returns-in-Some c =
    let given = c.args.given.now in
    let all = c.args.fields.now.all.now in
    let missing : List ℕ → Bool = λ t. option_map_or (λ is_null. is_null) (get_by (λ (k : NameValue). pointwise nat_eq t (name_text k)) given.nulls.now) true in
    let are = subst (λ o. IfSome o (λ required. AreRequired (entries_of name_text (component_tree input_value_tree) all) required.now)) c.in-Some.is c.requires in
    on_ok_weaker c.tell_each_listed.result
    (λ h. h ∙ ap (λ l. faults_of c.args.faults.now ⊕ l) (listed_required missing given.name.now.text given.location c.in-Some.required.now all.entries are))
    c.tell_each_listed.ensures
