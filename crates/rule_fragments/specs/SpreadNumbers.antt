-- Private: leads to `FragmentCycles`. Fragments by number, which is their index in the document's order, and what they refer to by number (section 5.5.2.2).
use Rattle.std.specs.Prelude.{ℕ, [], ◌∷◌, ◌++◌, Option, None, Some}
use Rattle.graphql_names.specs.Placed.{Placed, Place, Text}
use Rattle.tree_directives.specs.DirectiveTree.{Directives, unplaced_directives}
use Rattle.schema_components.specs.Names.{Entries}
use Rattle.spec_document.specs.MeantTree.{MeantSelection, MeantField, MeantSpread, MeantInline, MeantSet, meant_set, MeantSelections, no_meant, meant_then, MeantFragment}
use Rattle.rule_definitions.specs.Diagnostics.{SpreadTree}
use Rattle.rule_cycles.specs.Labels.{Labelled}
use Rattle.rule_cycles.specs.Numbers.{number_of, at_number}

-- a spread with its place
abbrev pub Spread : Type 0
Spread = Placed Place SpreadTree

abbrev pub spread_of : Place → Text Place → Directives Place → Spread
spread_of p n ds = record { it = record { fragment_name = n.it; directives = unplaced_directives ds }; place = p }

abbrev pub referred : Option ℕ → Spread → Labelled Spread
referred None by = []
referred (Some i) by = (i, by) ∷ []

module _ (es : Entries (MeantFragment Place)) where
  -- the reference to the fragment that is spread, if it is defined
  abbrev pub spread_references : Spread → Labelled Spread
  spread_references by = referred (number_of by.it.fragment_name es) by

  -- the references by the spreads in a set, at any depth, in the order of the text
  abbrev mutual
    pub references_in : MeantSet Place → Labelled Spread
    references_in (meant_set t ss) = references_along ss

    pub references_along : MeantSelections Place → Labelled Spread
    references_along no_meant = []
    references_along (meant_then s ss) = references_of s ++ references_along ss

    pub references_of : MeantSelection Place → Labelled Spread
    references_of (MeantField p d h s) = references_in s
    references_of (MeantSpread p n ds) = spread_references (spread_of p n ds)
    references_of (MeantInline p c ds s) = references_in s

  -- the references of the fragment with a number
  abbrev pub references_at : ℕ → Labelled Spread
  references_at i = at_number (λ f. references_in f.set) es i
