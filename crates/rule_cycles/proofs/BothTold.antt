-- What is told of input objects and then of directives.
use Rattle.std.proofs.Common.{List, ◌++◌, ap, ◌∙◌, inl, inr}
use Rattle.std.proofs.lemmas.List.Elements.{Contains-append_cases, Contains-append_left, Contains-append_right}
use Rattle.graphql_names.specs.Placed.{Place}
use Rattle.schema_types.specs.SchemaTree.{SchemaTree}
use Rattle.fault_data.specs.in_rule_definitions.PlacedFaults.{PlacedFault}
use Rattle.fault_data.specs.Room.{◌⊕◌}
use Rattle.fault_data.proofs.Room.{room_both}
use Rattle.rule_cycles.specs.SchemaCycles.{InputsTold, DirectivesTold, CyclesTold}

pub both_told : (s : SchemaTree Place) (old middle new : List PlacedFault) → InputsTold s old middle → DirectivesTold s middle new → CyclesTold s old new
both_told s old middle new a b = record {
  added = a.added ++ b.added;
  is = b.is ∙ ap (λ l. l ⊕ b.added) a.is ∙ room_both old a.added b.added;
  right = λ f c. elim (Contains-append_cases a.added b.added f c) [ inl l ↦ a.right f l | inr r ↦ b.right f r ];
  inputs = λ n cycle. let t = a.full n cycle in (t.0, (Contains-append_left a.added b.added t.0 t.1.0, t.1.1));
  directives = λ n cycle. let t = b.full n cycle in (t.0, (Contains-append_right a.added b.added t.0 t.1.0, t.1.1));
}
