use Rattle.std.proofs.Common.{◌≡◌, ◌++◌, [], map, sym, ap, subst, ◌∙◌, OnOk}
use Rattle.std.specs.Option.{option_map_or}
use Rattle.std.proofs.lemmas.List.{append-nil}
use Rattle.spec_document.specs.MeantTree.{meant_of_set}
use Rattle.document_typed_selections.specs.TypedTree.{typed_set_tree}
use Rattle.document_typed_operations.specs.declared.operation.Fragment.{Fragment}
use Rattle.rule_cycles.proofs.Numbering.{found_entry}
use Rattle.rule_fragments.specs.SpreadNumbers.{references_in}
use Rattle.rule_fragments.specs.SpreadViews.{fragment_meant, fragment_entries, spread_view}
use Rattle.rule_fragments.proofs.spread_graph.add_spreads_at.Goals as goal

pub returns-in-None : goal.returns-in-None
returns-in-None c =
    let es = fragment_entries c.args.fragments.now in
    let before = map spread_view c.args.references.now.items in
    let here = found_entry fragment_meant (λ e. references_in es e.1.set) [] c.args.fragments.now c.args.number c.get_index.result c.get_index.ensures.entry in
    sym (append-nil before)
    ∙ ap (λ l. before ++ l) (sym (here ∙ ap (λ r. option_map_or (λ p. references_in es (fragment_meant p.1.now).set) r []) c.in-None.is))

pub returns-in-Some : goal.returns-in-Some
returns-in-Some c =
    let es = fragment_entries c.args.fragments.now in
    let before = map spread_view c.args.references.now.items in
    let here = found_entry fragment_meant (λ e. references_in es e.1.set) [] c.args.fragments.now c.args.number c.get_index.result c.get_index.ensures.entry in
    subst (λ l. OnOk c.add_spreads.result (map spread_view c.add_spreads.new.references.items ≡ before ++ l))
    (
    ap (λ (f : Fragment). references_in es (meant_of_set (typed_set_tree f.selection_set))) c.content.ensures
    ∙ sym (here ∙ ap (λ r. option_map_or (λ p. references_in es (fragment_meant p.1.now).set) r []) c.in-Some.is)
    )
    c.add_spreads.ensures
