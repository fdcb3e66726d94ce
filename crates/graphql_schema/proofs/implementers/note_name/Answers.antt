use Rattle.std.proofs.Common.{Some, cond, refl, sym, ap, ◌∙◌, arith}
use Rattle.std.proofs.lemmas.Grind.{common_steps}
use Rattle.std.proofs.lemmas.Result.{IfOk-weaker}
use Rattle.indexmap.specs.IndexMap.{get}
use Rattle.indexmap.specs.Entry.{map_with_value, entry_value}
use Rattle.graphql_names.specs.NameValue.{NameValue}
use Rattle.schema_components.specs.Names.{same_text}
use Rattle.schema_components.specs.Given.{component_name_tree}
use Rattle.schema_building.specs.in_schema_types.TypeView.{name_text}
use Rattle.graphql_schema.specs.Noting.{and_type, naming}
use Rattle.graphql_schema.specs.ImplementersView.{implementers_tree}
use Rattle.graphql_schema.proofs.Implementing.{noted, or_nobody}
use Rattle.graphql_schema.proofs.implementers.note_name.Goals as goal

pub returns : goal.returns
returns c =
    let m = c.args.noted.now in
    let k = c.args.interface.now.name in
    let x = naming c.args.is_object c.args.name.now.text (component_name_tree c.args.interface.now) in
    let e = c.in_ok-noted.field-0 in
    let v = c.add.new.self in
    let copy = c.in_ok-interface.ensures.same in
    let was = sym (c.in_ok-noted.ensures.value ∙ ap (λ (n : NameValue). get (same_text name_text) m n) copy) in
    let had = ap implementers_tree c.or_insert-implementers.ensures.value ∙ or_nobody (entry_value e) c.new.result c.new.ensures in
    IfOk-weaker c.add.result _ _ (λ _ h i.
    let fact = noted m (map_with_value e v) k x (entry_value e) v refl was (h ∙ ap (and_type c.args.is_object c.args.name.now.text) had) (λ q.
    (c.in_ok-noted.ensures.update.0 v).0 q ∙ ap (λ (n : NameValue). cond (same_text name_text n q) (Some v) (get (same_text name_text) m q)) copy) i in
    grind (arith, common_steps, fact)) c.add.ensures
