-- Rules on selections, by small documents: what breaks a rule, and what next to it does not.
use Rattle.std.proofs.Common.{ℕ, List, [], ◌∷◌, codes, None, refl, sym, inl, inr, true≢false, arith}
use Rattle.tree_literals.specs.ValueTree.{ValueTree, EntryTrees, IntTree, VariableTree, ObjectTree, no_entries, entry_then}
use Rattle.schema_coordinates.specs.Coordinate.{OfAttribute}
use Rattle.spec_document.specs.MeantTree.{MeantOperation}
use Rattle.rule_definitions.specs.Diagnostics.{MissingSubselection, UndefinedDirective, UndefinedArgument, UniqueInputValue, UndefinedVariable}
use Rattle.rule_definitions.specs.Faults.{FaultAt, wrong}
use Rattle.rule_definitions.specs.GivenValues.{entry_list}
use Rattle.rule_definitions.specs.Names.{argument_name, directive_name}
use Rattle.rule_document_definitions.specs.Selected.{StandingField}
use Rattle.rule_document_definitions.specs.Reached.{first}
use Rattle.rule_document_definitions.specs.Selections.{MissingSubselectionAt, FieldArgumentsBreak, DirectivesBreak}
use Rattle.rule_document_definitions.proofs.RowWords.{of_present, not_at_index, none_before, none_repeats, none_reached, no_fragment}
use Rattle.rule_document_definitions.proofs.RowParts.{by_numbers, at, small, query_name, a_name, v_name, int_type, p_type, leaf, leaf_with, p_field, query_of, alone, given, applied, at_root, leaf_at, root}

abbrev pub only_a : MeantOperation ℕ
only_a = query_of (leaf 2 a_name ∷ [])

abbrev pub there_a : StandingField ℕ
there_a = leaf_at root 0 query_name 2 None a_name [] []

-- ---- MissingSubselection: `{ p }`, and `{ a }`

abbrev bare_p : MeantOperation ℕ
bare_p = query_of (p_field 2 [] ∷ [])

p_selects_nothing : MissingSubselectionAt small (alone bare_p) bare_p (wrong {E = List ℕ} 2 (MissingSubselection (OfAttribute query_name (codes "p")) (codes "P") (codes "an interface type")))
p_selects_nothing = (at_root 0 (p_field 2 []), (first (0, omega arith, refl), (_, (refl, (p_type, (refl, (refl, (tt, refl))))))))

pub a_selects_nothing : (fault : FaultAt ℕ (List ℕ)) → MissingSubselectionAt small (alone only_a) only_a fault → ⊥
a_selects_nothing fault p = none_reached (alone only_a) only_a 1 refl p ((λ q. true≢false (sym (of_present int_type (of_present there_a q)).0)), tt)

-- ---- arguments: `{ a(x: 1) }`, and `{ a }`

abbrev with_x : ValueTree ℕ → MeantOperation ℕ
with_x v = query_of (leaf_with 2 a_name (given 3 (codes "x") v ∷ []) [] ∷ [])

x_is_not_defined : FieldArgumentsBreak small (alone (with_x (IntTree (codes "1")))) (with_x (IntTree (codes "1"))) (wrong {E = List ℕ} 3 (UndefinedArgument (codes "x") (OfAttribute query_name a_name) 0)) by_numbers
x_is_not_defined = (at_root 0 (leaf_with 2 a_name (given 3 (codes "x") (IntTree (codes "1")) ∷ []) []), (first (0, omega arith, refl), (_, (refl, inr (inl (0, (_, (refl, ((λ h. not_at_index h), refl)))))))))

pub nothing_is_given : (fault : FaultAt ℕ (List ℕ)) → FieldArgumentsBreak small (alone only_a) only_a fault by_numbers → ⊥
nothing_is_given fault p = none_reached (alone only_a) only_a 1 refl p (
  (λ q. elim (of_present there_a q) [
    | inl (inl h) ↦ none_repeats argument_name h
    | inl (inr h) ↦ not_at_index h
    | inr (inl h) ↦ not_at_index h
    | inr (inr (inl h)) ↦ not_at_index h
    | inr (inr (inr (inl h))) ↦ not_at_index h
    | inr (inr (inr (inr h))) ↦ not_at_index h
  ]),
  tt,
)

-- ---- UndefinedVariable: `{ a(x: $v) }`

v_is_not_defined : FieldArgumentsBreak small (alone (with_x (VariableTree (at 4 v_name)))) (with_x (VariableTree (at 4 v_name))) (wrong {E = List ℕ} 3 (UndefinedVariable v_name)) by_numbers
v_is_not_defined = (at_root 0 (leaf_with 2 a_name (given 3 (codes "x") (VariableTree (at 4 v_name)) ∷ []) []), (first (0, omega arith, refl), (_, (refl, inl (inr (0, (_, (refl, inr ((λ h. not_at_index h), refl)))))))))

-- ---- UniqueInputValue: `{ a(x: {a: 1, a: 2}) }` (row 16)

abbrev two_entries : EntryTrees ℕ
two_entries = entry_then (at 4 a_name) 5 (IntTree (codes "1")) (entry_then (at 6 a_name) 7 (IntTree (codes "2")) no_entries)

abbrev two_keys : ValueTree ℕ
two_keys = ObjectTree two_entries

a_stands_twice : FieldArgumentsBreak small (alone (with_x two_keys)) (with_x two_keys) (wrong {E = List ℕ} 6 (UniqueInputValue a_name 4 6)) by_numbers
a_stands_twice = (
  at_root 0 (leaf_with 2 a_name (given 3 (codes "x") two_keys ∷ []) []),
  (
    first (0, omega arith, refl),
    (
      _,
      (
        refl,
        inl (inr (
          0,
          (
            _,
            (
              refl,
              inl (inl (1, (_, (refl, (0, (_, (refl, (refl, (none_before (λ e. e.0.it) (entry_list two_entries) a_name, (omega arith, refl)))))))))),
            ),
          ),
        )),
      ),
    ),
  ),
)

-- ---- UndefinedDirective: `{ a @x }`, and `{ a }`

abbrev with_directive : MeantOperation ℕ
with_directive = query_of (leaf_with 2 a_name [] (applied 3 (codes "x") [] ∷ []) ∷ [])

x_is_no_directive : DirectivesBreak small (alone with_directive) with_directive (wrong {E = List ℕ} 3 (UndefinedDirective (codes "x"))) by_numbers
x_is_no_directive = inr (inl (at_root 0 (leaf_with 2 a_name [] (applied 3 (codes "x") [] ∷ [])), (first (0, omega arith, refl), inr (0, (_, (refl, inl (refl, refl)))))))

pub a_has_no_directive : (fault : FaultAt ℕ (List ℕ)) → DirectivesBreak small (alone only_a) only_a fault by_numbers → ⊥
a_has_no_directive fault (inl (inl h)) = none_repeats directive_name h
a_has_no_directive fault (inl (inr h)) = not_at_index h
a_has_no_directive fault (inr (inl p)) = none_reached (alone only_a) only_a 1 refl p ((λ q. elim q [ inl h ↦ none_repeats directive_name h | inr h ↦ not_at_index h ]), tt)
a_has_no_directive fault (inr (inr p)) = no_fragment (alone only_a) only_a 1 refl (refl, tt) p
