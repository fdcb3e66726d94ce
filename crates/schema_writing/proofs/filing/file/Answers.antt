use Rattle.std.proofs.Common.{◌∷◌, [], ◌++◌, refl, sym, ap, ◌∙◌, if◌then◌else◌}
use Rattle.std.specs.Option.{option_copied_mut}
use Rattle.indexmap.specs.IndexMap.{insert_entry}
use Rattle.indexmap.proofs.CallerLemmas.{insert_entry-new}
use Rattle.schema_components.specs.Given.{origin_tree}
use Rattle.schema_components.specs.contracts.component.ComponentOriginPartialEq.TheImpl as origin
use Rattle.schema_types.specs.Out.{same_giver}
use Rattle.schema_writing.specs.Filed.{filed_under}
use Rattle.schema_writing.proofs.Givers.{filed_new, filed_more, origins_say}
use Rattle.schema_writing.proofs.filing.file.Goals as goal

pub returns-in-Some : goal.returns-in-Some
returns-in-Some g c = λ giver.
    let eq = (origin.eq-value).it in
    let says = origins_say eq refl (λ e. refl) (λ e. refl) (λ e f. refl) in
    let wrote = (c.get_mut.follows.holds c.push.new.self).0 in
    let found = sym c.get_mut.ensures.value ∙ ap option_copied_mut c.in-Some.is in
    ap (filed_under giver) wrote ∙ filed_more eq says giver c.args.giver c.args.filed.now.entries _ c.push.new.self c.args.item found c.in_ok-push.ensures.items

pub returns : goal.returns
returns g c = λ giver.
    let eq = (origin.eq-value).it in
    let says = origins_say eq refl (λ e. refl) (λ e. refl) (λ e f. refl) in
    let old = c.args.filed.now in
    let k = c.args.giver in
    let v = c.push-2.new.self in
    let absent = sym c.get_mut.ensures.value ∙ ap option_copied_mut c.in_default.is in
    let items = c.in_ok-push-2.ensures.items ∙ ap (λ l. l ++ c.args.item ∷ []) c.new-items.ensures.items in
    ap (filed_under giver) (c.in_ok-insert.ensures.entries ∙ ap (λ m. insert_entry eq m.entries k v) c.get_mut.follows.holds-at-none ∙ insert_entry-new eq old k v absent)
    ∙ filed_new eq says giver k old.entries v absent
    ∙ ap (λ l. filed_under giver old.entries ++ (if same_giver giver (origin_tree k) then l else [])) items
