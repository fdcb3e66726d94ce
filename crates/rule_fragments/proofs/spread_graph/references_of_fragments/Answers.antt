use Rattle.std.proofs.Common.{◌≡◌, ◌≤◌, ℕ, [], length, sym, ◌∙◌, arith}
use Rattle.std.proofs.lemmas.List.{length-map}
use Rattle.schema_types.specs.TypeView.{name_text}
use Rattle.rule_cycles.proofs.InputGraphs.{past_the_last}
use Rattle.rule_fragments.specs.SpreadNumbers.{references_in, references_at}
use Rattle.rule_fragments.specs.SpreadViews.{fragment_meant, fragment_entries, spread_tree}
use Rattle.rule_fragments.proofs.Named.{names_differ}
use Rattle.rule_cycles.proofs.ReferenceFacts.{AreNoted-none, AreNoted-more, AreNoted-refers, AreNoted-labels}
use Rattle.rule_fragments.proofs.spread_graph.references_of_fragments.Goals as goal

pub loop-number-init : goal.loop-number-init
loop-number-init c = record {
  none_first = c.new-all.ensures.first_kind;
  all_roots = c.new-all.ensures.roots;
  bound = c.new-all.ensures.bound;
  noted = AreNoted-none spread_tree (references_at (fragment_entries c.args.fragments.now)) c.new-all.result c.new-all.ensures.references c.new-all.ensures.firsts;
}

pub loop-number-preserved : goal.loop-number-preserved
loop-number-preserved c =
    let i = c.loop-number.invariant in
    let adds = c.in_ok-push.ensures in
    record {
      none_first = adds.first_kind ∙ i.none_first;
      all_roots = adds.roots ∙ i.all_roots;
      bound = adds.bound ∙ i.bound;
      noted = AreNoted-more spread_tree (references_at (fragment_entries c.args.fragments.now)) c.loop-number.number c.loop-number.all c.push.new.self c.in_ok-spread_references.field-0.items i.noted adds c.in_ok-spread_references.ensures;
    }

pub returns : goal.returns
returns c =
    let i = c.loop-number.invariant in
    let es = fragment_entries c.args.fragments.now in
    let all : c.len-roots.result ≡ length es = c.len-roots.ensures.len ∙ sym (length-map c.args.fragments.now.entries (λ e. (name_text e.0, fragment_meant e.1))) in
    let last : c.len-roots.result ≡ c.loop-number.number = omega arith in
    let none : (j : ℕ) → c.loop-number.number ≤ j → references_at es j ≡ [] = λ j h. past_the_last (λ f. references_in es f.set) es j (omega (arith, all, last, h)) in
    record {
      distinct = names_differ c.args.fragments.now c.len-roots.ensures.unique;
      graph = record {
        none_first = i.none_first;
        all_roots = i.all_roots ∙ all;
        bound = i.bound;
        refers = AreNoted-refers spread_tree (references_at es) c.loop-number.number c.loop-number.all i.noted none;
      };
      labels = AreNoted-labels spread_tree (references_at es) c.loop-number.number c.loop-number.all i.noted none;
    }
