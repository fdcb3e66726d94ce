-- Private: leads to `Subscriptions.antt` and `Defer.antt` of the rules' definitions.
-- What each rule tells of one selection or directive, as a list.
use Rattle.std.specs.Prelude.{ℕ, ◌+◌, ◌++◌, Bool, true, false, ◌&&◌, ◌||◌, not, List, [], ◌∷◌, flat_map, codes, bytes_eq, is_some, unwrap_or, if◌then◌else◌}
use Rattle.std.specs.List.{list_any}
use Rattle.std.specs.Option.{option_map_or}
use Rattle.graphql_names.specs.Placed.{Placed}
use Rattle.tree_literals.specs.ValueTree.{ValueTree}
use Rattle.tree_literals.specs.ValueQueries.{variable_name, boolean_value}
use Rattle.tree_directives.specs.DirectiveTree.{DirectiveTree}
use Rattle.spec_document.specs.MeantTree.{MeantSelection, MeantField, MeantSpread, MeantInline, MeantOperation}
use Rattle.fault_document_errors.specs.DocumentBreaches.{SubscriptionUsesIntrospection, SubscriptionUsesConditionalSelection, DeferOnRootMutationOrSubscriptionField, DeferInSubscriptionMustBeConditional}
use Rattle.rule_document_definitions.specs.DocumentFaults.{Broken, broken}
use Rattle.rule_document_definitions.specs.Selected.{operation_name, selection_directives}
use Rattle.rule_document_definitions.specs.RootFields.{meta_field_names}
use Rattle.rule_document_definitions.specs.DeferUses.{given_if}
use Rattle.rule_selection_queries.specs.Stays.{is_directive}

module _ {P : Type 0} where
  -- ---- subscriptions

  -- how many of these selections themselves are fields
  abbrev pub fields_in : MeantSelection P → ℕ
  fields_in (MeantField p d h s) = 1
  fields_in _ = 0

  abbrev pub field_count : List (MeantSelection P) → ℕ
  field_count [] = 0
  field_count (s ∷ ss) = fields_in s + field_count ss

  module _ (o : MeantOperation P) where
    abbrev pub introspection : MeantSelection P → List (Broken P)
    introspection (MeantField p d h s) = if list_any (bytes_eq h.name.it) meta_field_names then broken p (SubscriptionUsesIntrospection (operation_name o) h.name.it) ∷ [] else []
    introspection _ = []

    abbrev pub conditional : Placed P (DirectiveTree P) → List (Broken P)
    conditional e = if is_directive (codes "skip") e || is_directive (codes "include") e then broken e.place (SubscriptionUsesConditionalSelection (operation_name o)) ∷ [] else []

    -- what is told of one selection at the root
    abbrev pub at_root : MeantSelection P → List (Broken P)
    at_root s = introspection s ++ flat_map conditional (selection_directives s)

    -- ---- @defer

    abbrev pub deferred_at_root : Placed P (DirectiveTree P) → List (Broken P)
    deferred_at_root e = if is_directive (codes "defer") e then broken e.place (DeferOnRootMutationOrSubscriptionField o.operation_type) ∷ [] else []

    -- what is told of one selection at the root: nothing of a field
    abbrev pub fragment_deferred : MeantSelection P → List (Broken P)
    fragment_deferred (MeantField p d h s) = []
    fragment_deferred (MeantSpread p n ds) = flat_map deferred_at_root ds
    fragment_deferred (MeantInline p c ds s) = flat_map deferred_at_root ds

  abbrev pub is_condition : ValueTree P → Bool
  is_condition v = is_some (variable_name v) || not (unwrap_or (boolean_value v) true)

  abbrev pub is_conditional : Placed P (DirectiveTree P) → Bool
  is_conditional e = option_map_or (λ v. is_condition v.it) (given_if e) false

  abbrev pub deferred_always : Placed P (DirectiveTree P) → List (Broken P)
  deferred_always e = if is_directive (codes "defer") e && not (is_conditional e) then broken e.place DeferInSubscriptionMustBeConditional ∷ [] else []

  abbrev pub always_deferred : MeantSelection P → List (Broken P)
  always_deferred s = flat_map deferred_always (selection_directives s)
