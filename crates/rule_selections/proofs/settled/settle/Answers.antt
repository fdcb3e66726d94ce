use Rattle.std.proofs.Common.{sym, ap, subst, ◌∙◌}
use Rattle.std.specs.Option.{option_map}
use Rattle.indexmap.specs.IndexMap.{insert_entry}
use Rattle.schema_components.specs.Names.{same_text}
use Rattle.schema_types.specs.TypeView.{name_text}
use Rattle.schema_types.specs.Addresses.{under}
use Rattle.rule_reach.specs.Reach.{meant_fragments}
use Rattle.rule_reach.proofs.Found.{meant_node, found_under}
use Rattle.rule_selections.specs.Settled.{fragment_meant}
use Rattle.rule_selections.specs.Telling.{terms_of}
use Rattle.rule_selections.proofs.Standing.{meant_entries, Replaced, replaced, replaces_more}
use Rattle.rule_selections.proofs.settled.settle.Goals as goal

pub returns : goal.returns
returns c = λ in'.
    let s = terms_of c.args.common.now in
    let fs = meant_fragments c.args.fragments.now in
    let name = c.args.name.now in
    let f = c.in-Some.fragment.now in
    let v = c.in_ok-thinned_fragment.field-0 in
    let old = c.args.instead.now in
    let new = c.insert.new.self in
    let found = sym (ap (option_map meant_node) c.in-Some.ensures.value ∙ found_under c.args.fragments.now name) in
    let entries = c.in_ok-insert.ensures.entries ∙ ap (λ n. insert_entry (same_text name_text) old.entries n v) c.in_ok-name.ensures.same in
    replaces_more s fs (meant_fragments old) (meant_fragments new) name (fragment_meant f) v found c.in_ok-thinned_fragment.ensures
    (λ n. subst (λ es. Replaced name v n (under n (meant_entries es)) (under n (meant_fragments old))) (sym entries) (replaced name v n old.entries)) in'
