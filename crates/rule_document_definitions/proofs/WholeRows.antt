-- Whole documents: one of which every rule holds, a field set and a document without a schema; and where meta-fields stand.
use Rattle.std.proofs.Common.{◌≡◌, ℕ, List, [], ◌∷◌, codes, bytes_eq, is_none, true, Contains, ◌⊎◌, if◌then◌else◌, refl, ap, subst, inl, inr, true≢false, arith}
use Rattle.graphql_names.specs.Placed.{Place}
use Rattle.tree_directives.specs.OperationQueries.{default_root_name}
use Rattle.schema_coordinates.specs.Coordinate.{OfAttribute}
use Rattle.rule_definitions.specs.in_schema_types.SchemaTree.{SchemaTree}
use Rattle.rule_definitions.specs.in_schema_types.BuiltIn.{built_in}
use Rattle.rule_definitions.specs.in_schema_types.Addresses.{FieldAt, ArgumentAt, field_at, place_at}
use Rattle.spec_document.specs.MeantTree.{MeantOperation, MeantSet, set_on}
use Rattle.rule_definitions.specs.Diagnostics.{MissingSubselection, UndefinedDirective}
use Rattle.rule_definitions.specs.Faults.{FaultAt, wrong}
use Rattle.rule_definitions.proofs.Lists.{not_in_nil, only}
use Rattle.rule_document_definitions.specs.DocumentFaults.{Broken, DocumentFault, OfData, OfDocument, OfLimit}
use Rattle.rule_document_definitions.specs.Reached.{first}
use Rattle.rule_document_definitions.specs.Variables.{VariablesBreak}
use Rattle.rule_document_definitions.specs.Fragments.{FragmentsBreak}
use Rattle.rule_document_definitions.specs.Selections.{SelectionsBreak}
use Rattle.rule_document_definitions.specs.Subscriptions.{SubscriptionBreaks}
use Rattle.rule_document_definitions.specs.Defer.{DeferBreaks}
use Rattle.rule_document_definitions.specs.DocumentRules.{RulesFail}
use Rattle.rule_document_definitions.specs.FieldSets.{FieldSetFails}
use Rattle.rule_document_definitions.specs.Standalone.{StandaloneFails}
use Rattle.rule_document_definitions.specs.PlacedDocumentFaults.{place_or_built_in}
use Rattle.rule_document_definitions.proofs.RowWords.{not_present, not_at_index, none_repeats, none_reached, no_fragment}
use Rattle.rule_document_definitions.proofs.RowParts.{by_numbers, small, query_name, a_name, p_type, leaf_with, p_field, query_of, alone, applied, at_root}
use Rattle.rule_document_definitions.proofs.SelectionRows.{only_a, a_selects_nothing, nothing_is_given, a_has_no_directive}
use Rattle.rule_definitions.specs.Names.{defined_name}

-- ---- `{ a }`: every rule holds

no_variable_rule : (fault : FaultAt ℕ (List ℕ)) → VariablesBreak by_numbers small (alone only_a) only_a fault → ⊥
no_variable_rule fault (inl h) = none_repeats defined_name h
no_variable_rule fault (inr (inl h)) = not_at_index h
no_variable_rule fault (inr (inr (inl h))) = not_at_index h
no_variable_rule fault (inr (inr (inr (inl h)))) = not_at_index h
no_variable_rule fault (inr (inr (inr (inr (inl h))))) = not_at_index h
no_variable_rule fault (inr (inr (inr (inr (inr (inl h)))))) = not_at_index h
no_variable_rule fault (inr (inr (inr (inr (inr (inr h)))))) = not_at_index h

no_selection_rule : (fault : FaultAt ℕ (List ℕ)) → SelectionsBreak by_numbers small (alone only_a) only_a fault → ⊥
no_selection_rule fault (inl h) = a_selects_nothing fault h
no_selection_rule fault (inr (inl h)) = nothing_is_given fault h
no_selection_rule fault (inr (inr h)) = a_has_no_directive fault h

no_fragment_rule : (fault : FaultAt ℕ (List ℕ)) → FragmentsBreak by_numbers small (alone only_a) only_a fault → ⊥
no_fragment_rule fault (inl h) = none_reached (alone only_a) only_a 1 refl h ((λ q. not_present q), tt)
no_fragment_rule fault (inr (inl h)) = no_fragment (alone only_a) only_a 1 refl (refl, tt) h
no_fragment_rule fault (inr (inr (inl (inl h)))) = no_fragment (alone only_a) only_a 1 refl (refl, tt) h
no_fragment_rule fault (inr (inr (inl (inr h)))) = none_reached (alone only_a) only_a 1 refl h ((λ q. not_present q), tt)
no_fragment_rule fault (inr (inr (inr h))) = none_reached (alone only_a) only_a 1 refl h ((λ q. elim q [ inl p ↦ not_present p | inr p ↦ not_present p ]), tt)

is_it : (Q : MeantOperation ℕ → Type 0) (o : MeantOperation ℕ) → Contains (only_a ∷ []) o → Q o → Q only_a
is_it Q o c q = subst Q (only only_a o c) q

no_subscription : (fault : Broken ℕ) → SubscriptionBreaks (alone only_a) only_a fault → ⊥
no_subscription fault (k, h) = true≢false (ap (λ e. bytes_eq (default_root_name e) (codes "Query")) k)

not_deferred : (fault : Broken ℕ) → DeferBreaks (alone only_a) only_a fault → ⊥
not_deferred fault (inl h) = h.0 refl
not_deferred fault (inr (k, h)) = true≢false (ap (λ e. bytes_eq (default_root_name e) (codes "Query")) k)

all_rules_hold : (fault : DocumentFault ℕ (List ℕ)) → RulesFail by_numbers small (alone only_a) fault → ⊥
all_rules_hold (OfData fault) (inl (o, (c, h))) = elim (is_it (λ w. VariablesBreak by_numbers small (alone only_a) w fault
    ⊎ (SelectionsBreak by_numbers small (alone only_a) w fault ⊎ FragmentsBreak by_numbers small (alone only_a) w fault)) o c h) [
      | inl p ↦ no_variable_rule fault p
      | inr (inl p) ↦ no_selection_rule fault p
      | inr (inr p) ↦ no_fragment_rule fault p
    ]
all_rules_hold (OfData fault) (inr (f, (c, h))) = not_in_nil f c
all_rules_hold (OfDocument fault) (inl (o, (c, h))) = no_subscription fault (is_it (λ w. SubscriptionBreaks (alone only_a) w fault) o c h)
all_rules_hold (OfDocument fault) (inr (inl (o, (c, h)))) = not_deferred fault (is_it (λ w. DeferBreaks (alone only_a) w fault) o c h)
all_rules_hold (OfDocument fault) (inr (inr (inl h))) = not_at_index h
all_rules_hold (OfDocument fault) (inr (inr (inr h))) = none_repeats (λ t. t.it) h
all_rules_hold (OfLimit place) h = h

-- ---- the field set `p` on Q (as row 24)

abbrev just_p : MeantSet ℕ
just_p = set_on query_name (p_field 2 [] ∷ [])

p_selects_nothing : FieldSetFails {E = List ℕ} by_numbers small just_p (OfData (wrong 2 (MissingSubselection (OfAttribute query_name (codes "p")) (codes "P") (codes "an interface type"))))
p_selects_nothing = inl (_, ((0, omega arith, refl), inr (inl (inl (at_root 0 (p_field 2 []), (first (0, omega arith, refl), (_, (refl, (p_type, (refl, (refl, (tt, refl))))))))))))

-- ---- `{ a @x }` without a schema

abbrev with_directive : MeantOperation ℕ
with_directive = query_of (leaf_with 2 a_name [] (applied 3 (codes "x") [] ∷ []) ∷ [])

x_is_no_directive : StandaloneFails {E = List ℕ} by_numbers (alone with_directive) (OfData (wrong 3 (UndefinedDirective (codes "x"))))
x_is_no_directive = inl (
  with_directive,
  (
    (0, omega arith, refl),
    inr (inr (inr (inr (inr (inr (inr (inl (
      at_root 0 (leaf_with 2 a_name [] (applied 3 (codes "x") [] ∷ [])),
      (
        first (0, omega arith, refl),
        (0, (_, (refl, inl (refl, refl)))),
      ),
    )))))))),
  ),
)

-- ---- meta-fields stand where all that is built in does, and so do their arguments; all else where it is written

meta_field_place : (s : SchemaTree Place) (t n : List ℕ) (i : ℕ) → is_none (field_at s t n) ≡ true → place_or_built_in s (ArgumentAt (FieldAt t n) i) ≡ built_in
meta_field_place s t n i e = ap (λ b. if b then built_in else place_at s (ArgumentAt (FieldAt t n) i)) e
