use Rattle.std.proofs.Common.{◌↔◌, Contains, sym, ℕ, List, [], ◌∷◌, map, ap, subst, ◌∙◌}
use Rattle.std.specs.Borrow.{Bor}
use Rattle.std.specs.List.{flat_map}
use Rattle.std.proofs.lemmas.List.{map-append}
use Rattle.std.proofs.lemmas.Iterator.Consumers.{YieldsList-end, YieldsList-from_rest}
use Rattle.graphql_names.specs.NameValue.{NameValue}
use Rattle.graphql_names.specs.Placed.{Place}
use Rattle.schema_types.specs.SchemaTree.{SchemaType}
use Rattle.schema_types.specs.TypeView.{name_text, extended_type}
use Rattle.schema_types.specs.declared.extended_type.ExtendedType.{ExtendedType}
use Rattle.rule_cycles.specs.in_schema.SchemaOf.{schema_tree}
use Rattle.rule_cycles.proofs.in_schema.DistinctFacts.{distinct_entries}
use Rattle.rule_definitions.specs.Judged.{judged}
use Rattle.rule_document_definitions.specs.PossibleTypes.{CanBe}
use Rattle.rule_fragments.specs.Held.{AddsEntries, possible_in}
use Rattle.rule_fragments.specs.Possible.{objects_of}
use Rattle.rule_fragments.specs.Noting.{type_notes}
use Rattle.rule_fragments.proofs.Noted.{none_yet, more_notes}
use Rattle.rule_fragments.proofs.Objects.{are_possible}
use Rattle.rule_fragments.proofs.Seen.{seen_under}
use Rattle.rule_fragments.proofs.possible_types.PossibleTypes.new.Goals as goal

abbrev view : NameValue × ExtendedType → List ℕ × SchemaType Place
view e = (name_text e.0, extended_type e.1)

abbrev lent : Bor NameValue × Bor ExtendedType → NameValue × ExtendedType
lent e = (e.0.now, e.1.now)

pub loop-name-init : goal.loop-name-init
loop-name-init c = none_yet c.new-objects.result.entries c.new-objects.ensures.empty

pub loop-name-preserved : goal.loop-name-preserved
loop-name-preserved c =
    let before = map lent c.loop-name.yielded in
    let e : NameValue × ExtendedType = (c.in-Some.name.now, c.in-Some.ty.now) in
    more_notes (type_notes (schema_tree c.args.schema.now)) [] c.loop-name.objects.entries c.note_type.new.noted.entries [] (map view before) _ (view e)
    (ap (map view) (map-append lent c.loop-name.yielded ((c.in-Some.name, c.in-Some.ty) ∷ [])) ∙ map-append view before (e ∷ []))
    c.loop-name.invariant c.in_ok-note_type.ensures

pub returns : goal.returns
returns c = λ n x.
    let s = schema_tree c.args.schema.now in
    let es = c.args.schema.now.types.entries in
    let noted = c.loop-name.objects.entries in
    let all = YieldsList-end (YieldsList-from_rest es c.into_iter-name-iterator.ensures.into_iter_gives.0) c.loop-name.yielded c.loop-name.name-iterator c.loop-name.yielded_by c.next.result c.next.new.self c.in-None.is c.next.ensures.steps in
    let right = are_possible s (distinct_entries extended_type es c.len-count.ensures.unique) noted
    (subst (λ (l : List (NameValue × ExtendedType)). AddsEntries [] noted (flat_map (type_notes s) (map view l))) all.0 c.loop-name.invariant) n x in
    subst (λ es. Contains (objects_of (possible_in es) n) x ↔ CanBe (judged s) n x) (λ i. (sym c.in_ok-new.ensures.ok i).entries)
    (subst (λ l. Contains l x ↔ CanBe (judged s) n x) (sym (seen_under n noted)) right)
