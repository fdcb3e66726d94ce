use Rattle.std.proofs.Common.{◌≡◌, ◌+◌, ◌≤◌, ℕ, [], length, sym, ◌∙◌, arith}
use Rattle.std.proofs.lemmas.List.{length-map}
use Rattle.graphql_names.specs.Placed.{node_tree}
use Rattle.tree_directives.specs.DirectiveTree.{directive_definition_tree}
use Rattle.schema_types.specs.TypeView.{name_text, extended_type}
use Rattle.graphql_schema.specs.SchemaOf.{schema_tree}
use Rattle.rule_cycles.specs.UseNumbers.{uses_at}
use Rattle.rule_cycles.specs.UseViews.{use_tree}
use Rattle.rule_cycles.proofs.UseFacts.{nothing_past}
use Rattle.rule_cycles.proofs.ReferenceFacts.{AreNoted-none, AreNoted-more, AreNoted-refers, AreNoted-labels}
use Rattle.rule_cycles.proofs.uses.references_of_definitions.Goals as goal

pub loop-node-init : goal.loop-node-init
loop-node-init c = record {
  directives = c.new-all.ensures.first_kind;
  all_roots = c.new-all.ensures.roots;
  bound = c.new-all.ensures.bound;
  noted = AreNoted-none use_tree (uses_at (schema_tree c.args.schema.now)) c.new-all.result c.new-all.ensures.references c.new-all.ensures.firsts;
}

pub loop-node-preserved : goal.loop-node-preserved
loop-node-preserved c =
    let i = c.loop-node.invariant in
    let adds = c.in_ok-push.ensures in
    record {
      directives = adds.first_kind ∙ i.directives;
      all_roots = adds.roots ∙ i.all_roots;
      bound = adds.bound ∙ i.bound;
      noted = AreNoted-more use_tree (uses_at (schema_tree c.args.schema.now)) c.loop-node.node c.loop-node.all c.push.new.self c.in_ok-use_references.field-0.items i.noted adds c.in_ok-use_references.ensures;
    }

pub returns : goal.returns
returns c =
    let i = c.loop-node.invariant in
    let s = schema_tree c.args.schema.now in
    let directives : c.len-roots.result ≡ length s.directives = c.len-roots.ensures.len ∙ sym (length-map c.args.schema.now.directive_definitions.entries (λ e. (name_text e.0, node_tree directive_definition_tree e.1))) in
    let types : c.len.result ≡ length s.types = c.len.ensures.len ∙ sym (length-map c.args.schema.now.types.entries (λ e. (name_text e.0, extended_type e.1))) in
    let last : length s.directives + length s.types ≡ c.loop-node.node = omega (arith, directives, types) in
    let none : (j : ℕ) → c.loop-node.node ≤ j → uses_at s j ≡ [] = λ j h. nothing_past s j (omega (arith, last, h)) in
    record {
      graph = record {
        directives = i.directives ∙ directives;
        all_roots = i.all_roots ∙ directives;
        bound = i.bound;
        refers = AreNoted-refers use_tree (uses_at s) c.loop-node.node c.loop-node.all i.noted none;
      };
      labels = AreNoted-labels use_tree (uses_at s) c.loop-node.node c.loop-node.all i.noted none;
    }
