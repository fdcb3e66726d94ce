use Rattle.std.proofs.Common.{◌≡◌, ◌<◌, length, map, Contains, sym, ap, subst, ◌∙◌, inl, inr, arith}
use Rattle.std.proofs.lemmas.Bool.{cases_lt}
use Rattle.std.proofs.lemmas.List.{length-map}
use Rattle.graphql_names.specs.Placed.{node_tree}
use Rattle.tree_directives.specs.DirectiveTree.{directive_definition_tree}
use Rattle.schema_types.specs.TypeView.{name_text}
use Rattle.graphql_schema.specs.SchemaOf.{schema_tree}
use Rattle.rule_cycles.specs.Labels.{targets}
use Rattle.rule_cycles.specs.UseNumbers.{uses_at}
use Rattle.rule_cycles.specs.UseViews.{use_view}
use Rattle.rule_cycles.proofs.flat.is_flat.Goals as goal

pub loop-node-preserved : goal.loop-node-preserved
loop-node-preserved c = λ directive node below there.
    let s = schema_tree c.args.schema.now in
    elim (cases_lt directive c.loop-node.node) [
      | inl before ↦ c.loop-node.invariant directive node before there
      | inr other ↦
          let same : directive ≡ c.loop-node.node = omega (arith, below, other) in
          let uses : map use_view c.deref.result.now ≡ uses_at s directive = ap (map use_view) c.deref.ensures.value ∙ c.in_ok-references.ensures ∙ ap (uses_at s) (sym same) in
          c.lead_to_nothing.ensures c.if-not-lead_to_nothing.false node (subst (λ rs. Contains (targets rs) node) (sym uses) there)
    ]

pub returns : goal.returns
returns c = λ all directive node below there.
    let s = schema_tree c.args.schema.now in
    let directives : c.len-node-end.result ≡ length s.directives = c.len-node-end.ensures.len ∙ sym (length-map c.args.schema.now.directive_definitions.entries (λ e. (name_text e.0, node_tree directive_definition_tree e.1))) in
    let inside : directive < c.loop-node.node = omega (arith, below, directives) in
    c.loop-node.invariant directive node inside there
