-- Private: leads to `Defer.antt` of the rules' definitions.
-- Which selections may be left out by a directive of their own, `@skip` or `@include`.
use Rattle.std.specs.Prelude.{ℕ, Bool, true, false, ◌&&◌, ◌||◌, not, List, codes, bytes_eq, unwrap_or}
use Rattle.std.specs.List.{list_any}
use Rattle.graphql_names.specs.Placed.{Placed}
use Rattle.tree_directives.specs.DirectiveTree.{DirectiveTree}
use Rattle.spec_document.specs.MeantTree.{MeantSelection}
use Rattle.rule_definitions.specs.Names.{directive_name}
use Rattle.rule_document_definitions.specs.Selected.{selection_directives}
use Rattle.rule_document_definitions.specs.DeferUses.{literal_if}

module _ {P : Type 0} where
  abbrev pub is_directive : List ℕ → Placed P (DirectiveTree P) → Bool
  is_directive name e = bytes_eq (directive_name e) name

  abbrev pub leaves_out : Placed P (DirectiveTree P) → Bool
  leaves_out e = (is_directive (codes "skip") e && unwrap_or (literal_if e) true) || (is_directive (codes "include") e && not (unwrap_or (literal_if e) false))

  abbrev pub stays : MeantSelection P → Bool
  stays s = not (list_any leaves_out (selection_directives s))

  abbrev pub all_stay : MeantSelection P → Bool
  all_stay s = true
