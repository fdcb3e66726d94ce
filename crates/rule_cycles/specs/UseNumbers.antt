-- Private: leads to `RecursiveDirectiveDefinitionAt`. What directives and types refer to by number: directives come first, then types (section 3.13).
use Rattle.std.specs.Prelude.{ℕ, ◌+◌, ◌-◌, List, [], ◌∷◌, ◌++◌, flat_map, Option, None, Some, length, nat_lt, if◌then◌else◌}
use Rattle.std.specs.Option.{option_map}
use Rattle.graphql_names.specs.Placed.{Placed, Place}
use Rattle.tree_literals.specs.TypeTree.{TypeTree}
use Rattle.tree_literals.specs.TypeQueries.{inner_name}
use Rattle.tree_directives.specs.DirectiveTree.{DirectiveTree, Directives, InputValueTree, InputValues, DirectiveDefinitionTree}
use Rattle.schema_types.specs.SchemaTree.{SchemaType, SchemaTree}
use Rattle.schema_types.specs.Addresses.{applied}
use Rattle.rule_cycles.specs.Labels.{Labelled}
use Rattle.rule_cycles.specs.Numbers.{number_of, at_number, each_value}

-- the applied directive that makes a reference, or None for a reference to a type
abbrev pub Use : Type 0
Use = Option (Placed Place (DirectiveTree Place))

abbrev pub used : Option ℕ → Use → Labelled Use
used None by = []
used (Some i) by = (i, by) ∷ []

module _ (s : SchemaTree Place) where
  abbrev pub node_of_type : List ℕ → Option ℕ
  node_of_type n = option_map (λ i. length s.directives + i) (number_of n s.types)

  abbrev pub use_references : Placed Place (DirectiveTree Place) → Labelled Use
  use_references d = used (number_of d.it.name.it s.directives) (Some d)

  abbrev pub uses_references : Directives Place → Labelled Use
  uses_references ds = flat_map use_references ds

  abbrev pub type_reference : TypeTree Place → Labelled Use
  type_reference ty = used (node_of_type (inner_name ty).it) None

  abbrev pub input_uses : InputValueTree Place → Labelled Use
  input_uses v = uses_references v.directives ++ type_reference v.ty.it

  abbrev pub arguments_uses : InputValues Place → Labelled Use
  arguments_uses vs = flat_map (λ v. input_uses v.it) vs

  abbrev pub definition_uses : Placed Place (DirectiveDefinitionTree Place) → Labelled Use
  definition_uses d = arguments_uses d.it.arguments ++ uses_references d.it.directives

  abbrev pub part_uses : SchemaType Place → Labelled Use
  part_uses t = each_value (λ g. uses_references g.it.it.directives) t.values ++ each_value (λ g. input_uses g.it.it) t.inputs

  abbrev pub type_uses : SchemaType Place → Labelled Use
  type_uses t = uses_references (applied s t.directives) ++ part_uses t

  abbrev pub uses_at : ℕ → Labelled Use
  uses_at i = if nat_lt i (length s.directives) then at_number definition_uses s.directives i else at_number type_uses s.types (i - length s.directives)
