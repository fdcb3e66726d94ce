-- What holds of uses alone, and what their variables add to it.
use Rattle.std.proofs.Common.{◌⊎◌, ◌↔◌, refl, inl, inr}
use Rattle.graphql_names.specs.Placed.{Placed, Place}
use Rattle.tree_directives.specs.DirectiveTree.{Arguments, DirectiveTree}
use Rattle.tree_directives.specs.declared.directive_location.DirectiveLocation.{DirectiveLocation}
use Rattle.rule_values.specs.in_schema.in_schema_types.Addresses.{Address, place_at}
use Rattle.rule_values.specs.in_rule_definitions.Judged.{Judged, judged}
use Rattle.rule_values.specs.in_rule_definitions.GivenValues.{Variables}
use Rattle.rule_values.specs.in_rule_definitions.Uses.{GivenBreaks, UseBreaks}
use Rattle.rule_values.specs.in_rule_definitions.PlacedFaults.{PlacedFault}
use Rattle.rule_values.proofs.in_fault_data.Judgings.{directive_look}
use Rattle.rule_arguments.specs.Trees.{no_schema_tree}
use Rattle.rule_arguments.specs.Alone.{ArgumentsBreak, DirectiveAloneBreaks}
use Rattle.rule_arguments.specs.GivenArguments.{VariablesGivenBreak}
use Rattle.rule_arguments.proofs.Uses.{use_undefined}

-- keys and variables apart
pub given_apart : (at : Address → Place) (s : Judged) (variables : Variables Place) (given : Arguments Place) (f : PlacedFault) → (ArgumentsBreak given f ⊎ VariablesGivenBreak variables given f) ↔ GivenBreaks at s variables given f
given_apart at s variables given f = (
  λ h. elim h [
    | inl a ↦ elim a [ inl r ↦ inl r | inr k ↦ inr (k.0, (k.1.0, (k.1.1.0, inl k.1.1.1))) ]
    | inr v ↦ inr (v.0, (v.1.0, (v.1.1.0, inr v.1.1.1)))
  ],
  λ q. elim q [
    | inl r ↦ inl (inl r)
    | inr x ↦ elim x.1.1.1 [ inl k ↦ inl (inr (x.0, (x.1.0, (x.1.1.0, k)))) | inr v ↦ inr (x.0, (x.1.0, (x.1.1.0, v))) ]
  ],
)

-- a use where nothing is defined
pub use_apart : (variables : Variables Place) (location : DirectiveLocation) (d : Placed Place (DirectiveTree Place)) (f : PlacedFault)
    → (DirectiveAloneBreaks d f ⊎ VariablesGivenBreak variables d.it.arguments f) ↔ UseBreaks (place_at no_schema_tree) (judged no_schema_tree) variables location d f
use_apart variables location d f =
    let given = given_apart (place_at no_schema_tree) (judged no_schema_tree) variables d.it.arguments f in
    let undefined = use_undefined no_schema_tree variables (directive_look no_schema_tree) location d refl f in (
      λ h. elim h [
        | inl a ↦ elim a [ inl g ↦ undefined.0 (inl (given.0 (inl g))) | inr e ↦ undefined.0 (inr e) ]
        | inr v ↦ undefined.0 (inl (given.0 (inr v)))
      ],
      λ q. elim (undefined.1 q) [
        | inl g ↦ elim (given.1 g) [ inl a ↦ inl (inl a) | inr v ↦ inr v ]
        | inr e ↦ inl (inr e)
      ],
    )
