use Rattle.std.proofs.Common.{List, None, map, ap, sym, ◌∙◌, ◌∷◌, []}
use Rattle.std.specs.Prelude.{fold}
use Rattle.std.specs.Borrow.{Bor}
use Rattle.std.specs.List.{flat_map}
use Rattle.std.proofs.lemmas.Grind.{fold-append}
use Rattle.std.proofs.lemmas.List.{map-append}
use Rattle.std.proofs.lemmas.Iterator.Consumers.{YieldsList-end, YieldsList-from_rest}
use Rattle.graphql_names.specs.NameValue.{NameValue}
use Rattle.schema_building.specs.in_schema_types.TypeView.{name_text, extended_type}
use Rattle.schema_building.specs.in_schema_types.declared.extended_type.ExtendedType.{ExtendedType}
use Rattle.graphql_schema.specs.Noting.{and_naming, namings_of, noted_in}
use Rattle.graphql_schema.proofs.Implementing.{namings_push}
use Rattle.graphql_schema.proofs.Implemented.{noted_is}
use Rattle.graphql_schema.proofs.schema.Schema.implementers_map.Goals as goal

pub loop-name-preserved : goal.loop-name-preserved
loop-name-preserved c = λ i.
    let lent : (Bor NameValue × Bor ExtendedType) → NameValue × ExtendedType = λ e. (e.0.now, e.1.now) in
    let es = map lent c.loop-name.yielded in
    let e : NameValue × ExtendedType = (c.in-Some.name.now, c.in-Some.ty.now) in
    let said = flat_map namings_of (map (λ (e : NameValue × ExtendedType). (name_text e.0, extended_type e.1)) es) in
    let more = namings_of (name_text e.0, extended_type e.1) in
    c.in_ok-note_type.ensures i
    ∙ ap (λ z. fold (and_naming i.text) z more) (c.loop-name.invariant i)
    ∙ sym (fold-append (and_naming i.text) None said more)
    ∙ sym (ap (fold (and_naming i.text) None) (ap (λ (l : List (NameValue × ExtendedType)). flat_map namings_of (map (λ (e : NameValue × ExtendedType). (name_text e.0, extended_type e.1)) l)) (map-append lent c.loop-name.yielded ((c.in-Some.name, c.in-Some.ty) ∷ [])) ∙ namings_push es e))

pub returns : goal.returns
returns c = λ i.
    let es = c.args.self.now.types.entries in
    let all = YieldsList-end (YieldsList-from_rest es c.into_iter-name-iterator.ensures.into_iter_gives.0) c.loop-name.yielded c.loop-name.name-iterator c.loop-name.yielded_by c.next.result c.next.new.self c.in-None.is c.next.ensures.steps in
    c.loop-name.invariant i
    ∙ ap (λ (l : List (NameValue × ExtendedType)). noted_in (flat_map namings_of (map (λ (e : NameValue × ExtendedType). (name_text e.0, extended_type e.1)) l)) i.text) all.0
    ∙ noted_is es i.text
