use Rattle.std.proofs.Common.{map, sym, ap, ◌∙◌}
use Rattle.indexmap.specs.IndexSet.{insert_key}
use Rattle.graphql_names.specs.NameValue.{NameValue}
use Rattle.schema_components.specs.Names.{same_text}
use Rattle.schema_building.specs.in_schema_types.TypeView.{name_text}
use Rattle.graphql_schema.specs.Noting.{and_type}
use Rattle.graphql_schema.specs.ImplementersView.{implementers_tree}
use Rattle.graphql_schema.proofs.Implementing.{added}
use Rattle.graphql_schema.proofs.implementers.Implementers.add.Goals as goal

pub returns-in_ok-insert : goal.returns-in_ok-insert
returns-in_ok-insert c =
    let old = c.args.self.now.objects.keys in
    let grown = ap (map name_text) (c.in_ok-insert.ensures.keys ∙ ap (λ (n : NameValue). insert_key (same_text name_text) old n) c.in_ok-name.ensures.same) ∙ added c.args.type_name.now old in
    (λ i. record { objects = grown i; interfaces = map name_text c.args.self.now.interfaces.keys })
    ∙ sym (ap (λ b. and_type b c.args.type_name.now.text (implementers_tree c.args.self.now)) c.if-is_object.true)

pub returns-in_ok-insert-2 : goal.returns-in_ok-insert-2
returns-in_ok-insert-2 c =
    let old = c.args.self.now.interfaces.keys in
    let grown = ap (map name_text) (c.in_ok-insert-2.ensures.keys ∙ ap (λ (n : NameValue). insert_key (same_text name_text) old n) c.in_ok-name.ensures.same) ∙ added c.args.type_name.now old in
    (λ i. record { objects = map name_text c.args.self.now.objects.keys; interfaces = grown i })
    ∙ sym (ap (λ b. and_type b c.args.type_name.now.text (implementers_tree c.args.self.now)) c.if-is_object.false)
