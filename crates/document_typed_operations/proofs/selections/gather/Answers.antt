use Rattle.std.proofs.Common.{◌≡◌, ◌∷◌, [], Some, true, false, map, ap, sym, ◌∙◌}
use Rattle.std.specs.Prelude.{is_some}
use Rattle.document_typed_selections.specs.TypedParts.{typed_spread_node}
use Rattle.document_typed_selections.specs.TypedTree.{typed_selection_tree}
use Rattle.document_typed_selections.specs.declared.selection.FragmentSpread.{FragmentSpread}
use Rattle.document_typed_operations.specs.Reached.{fragment_named}
use Rattle.document_typed_operations.specs.WalkView.{fragments_tree, gathered_names}
use Rattle.document_typed_operations.proofs.Gathering.{known_spread, unknown_spread, known_named, inserted_text}
use Rattle.document_typed_operations.proofs.selections.gather.Goals as goal

pub returns-in_ok-insert : goal.returns-in_ok-insert
returns-in_ok-insert c =
    let k = c.content.result.now.fragment_name in
    let es = c.args.fragments.now.entries in
    let known : is_some (fragment_named (fragments_tree c.args.fragments.now) k.text) ≡ true = sym (known_named k es) ∙ sym c.contains_key.ensures ∙ c.if-contains_key.true in
    ap (map (λ a. a.now.text)) c.in_ok-insert.ensures.keys
    ∙ inserted_text c.args.names.now.keys _
    ∙ known_spread (fragments_tree c.args.fragments.now) (gathered_names c.args.names.now) (typed_selection_tree c.args.selection.now) (typed_spread_node c.in-Some.spread.now) k.text c.in-Some.ensures
    (ap (λ (f : FragmentSpread). f.fragment_name.text ∷ []) (sym c.content.ensures)) known

pub returns-else-contains_key : goal.returns-else-contains_key
returns-else-contains_key c =
    let k = c.content.result.now.fragment_name in
    let es = c.args.fragments.now.entries in
    let unknown : is_some (fragment_named (fragments_tree c.args.fragments.now) k.text) ≡ false = sym (known_named k es) ∙ sym c.contains_key.ensures ∙ c.if-contains_key.false in
    unknown_spread (fragments_tree c.args.fragments.now) (gathered_names c.args.names.now) (typed_selection_tree c.args.selection.now) (typed_spread_node c.in-Some.spread.now) k.text c.in-Some.ensures
    (ap (λ (f : FragmentSpread). f.fragment_name.text ∷ []) (sym c.content.ensures)) unknown
