use Rattle.std.proofs.Common.{◌∙◌, map, flat_map, sym, ap}
use Rattle.std.specs.Option.{option_map}
use Rattle.std.specs.Borrow.{Bor}
use Rattle.std.proofs.lemmas.Result.{on_ok_weaker}
use Rattle.graphql_names.specs.Node.{content, place}
use Rattle.graphql_names.specs.Placed.{Place}
use Rattle.graphql_names.specs.declared.node.Node.{Node}
use Rattle.schema_types.specs.SchemaTree.{SchemaType}
use Rattle.schema_types.specs.TypeView.{extended_type, interface_type}
use Rattle.schema_types.specs.declared.kinds.InterfaceType.{InterfaceType}
use Rattle.schema_types.specs.declared.type_kind.TypeKind.TheVariants as kind
use Rattle.graphql_schema.specs.LookUps.{type_of_kind}
use Rattle.graphql_schema.specs.SchemaOf.{schema_tree}
use Rattle.strict_documents.specs.DepartureViews.{departures_of}
use Rattle.strict_schemas.specs.Departing.{extra_over_field}
use Rattle.strict_schemas.specs.Told.{field_entry}
use Rattle.strict_schemas.proofs.Found.{nothing_told, found_told, told_as}
use Rattle.strict_schemas.proofs.extra.tell_over.Goals as goal

abbrev as_type : Bor (Node InterfaceType) → SchemaType Place
as_type n = interface_type (place n.now) (content n.now)

pub returns-in-None : goal.returns-in-None
returns-in-None c =
    let t = extended_type c.args.ty.now in
    nothing_told (λ (over : SchemaType Place). flat_map (extra_over_field t) over.fields) (departures_of c.args.departures.now) (type_of_kind (schema_tree c.args.schema.now) kind.Interface c.args.interface.now.name.text)
    (sym c.get_interface.ensures ∙ ap (option_map as_type) c.in-None.is)

pub returns-in-Some : goal.returns-in-Some
returns-in-Some c =
    let t = extended_type c.args.ty.now in
    let old = departures_of c.args.departures.now in
    let new = departures_of c.tell_over_fields.new.departures in
    on_ok_weaker c.tell_over_fields.result
    (λ told.
    found_told (λ (over : SchemaType Place). flat_map (extra_over_field t) over.fields) old (type_of_kind (schema_tree c.args.schema.now) kind.Interface c.args.interface.now.name.text) (as_type c.in-Some.over) new
    (sym c.get_interface.ensures ∙ ap (option_map as_type) c.in-Some.is)
    (told_as field_entry (extra_over_field t) old new c.content.result.now.fields.entries (as_type c.in-Some.over).fields (ap (λ (x : InterfaceType). map field_entry x.fields.entries) c.content.ensures) told))
    c.tell_over_fields.ensures
