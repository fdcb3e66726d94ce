use Rattle.std.proofs.Common.{sym, ap, ◌∙◌, false, option_copied}
use Rattle.std.specs.Option.{option_map_or}
use Rattle.schema_types.specs.Out.{is_object_named}
use Rattle.schema_types.specs.SchemaView.{types_view}
use Rattle.schema_writing.proofs.DefaultObject.{is_object, found_object}
use Rattle.schema_writing.proofs.implicit.is_default_object.Goals as goal

pub returns-in-None : goal.returns-in-None
returns-in-None c =
    let name = c.new_static_unchecked-name.result in
    let types = c.args.types.now in
    let named = c.new_static_unchecked-name.ensures.text ∙ c.default_type_name.ensures in
    sym (ap (is_object_named (types_view types)) (sym named) ∙ found_object name.text types.entries
    ∙ ap (λ o. option_map_or is_object o false) (sym c.get.ensures.value ∙ ap option_copied c.in-None.is))

pub returns : goal.returns
returns c =
    let name = c.new_static_unchecked-name.result in
    let types = c.args.types.now in
    let named = c.new_static_unchecked-name.ensures.text ∙ c.default_type_name.ensures in
    c.is_object.ensures
    ∙ sym (ap (is_object_named (types_view types)) (sym named) ∙ found_object name.text types.entries
    ∙ ap (λ o. option_map_or is_object o false) (sym c.get.ensures.value ∙ ap option_copied c.in-Some.is))
