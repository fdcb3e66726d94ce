-- Rules on variables, by small documents: what breaks a rule, and what next to it does not.
use Rattle.std.proofs.Common.{ℕ, List, [], ◌∷◌, codes, is_some, None, Some, refl, sym, ap, inl, inr, true≢false, arith}
use Rattle.tree_literals.specs.TypeTree.{TypeTree, NamedTree, NonNullNamedTree, unplaced_type}
use Rattle.tree_literals.specs.ValueTree.{VariableTree, NullTree}
use Rattle.tree_directives.specs.DirectiveTree.{Arguments}
use Rattle.tree_directives.specs.declared.operation_type.OperationType.TheVariants as operation
use Rattle.spec_document.specs.MeantTree.{MeantOperation}
use Rattle.rule_definitions.specs.Diagnostics.{UniqueVariable, UndefinedDefinition, VariableInputType, UnusedVariable, UnsupportedValueType}
use Rattle.rule_definitions.specs.Faults.{FaultAt, wrong}
use Rattle.rule_definitions.specs.Names.{defined_name}
use Rattle.rule_document_definitions.specs.Reached.{first}
use Rattle.rule_document_definitions.specs.UsedVariables.{IsUsedIn, IsInSelection}
use Rattle.rule_document_definitions.specs.Variables.{UniqueVariableAt, DefaultValueBreaks, UndefinedVariableTypeAt, VariableInputTypeAt, UnusedVariableAt}
use Rattle.rule_document_definitions.proofs.RowWords.{of_present, not_present, not_at_index, at_only, none_before, one_repeats, none_reached, no_fragment}
use Rattle.rule_document_definitions.proofs.RowParts.{by_numbers, at, small, query_name, int_name, a_name, v_name, int_type, query_type, leaf, leaf_with, operation_of, alone, variable, given, at_root, leaf_at, root}

-- ---- UniqueVariable: `query ($v: Int, $v: Int) { a }`, and `query ($v: Int) { a }`

abbrev twice_v : MeantOperation ℕ
twice_v = operation_of operation.Query (variable 2 v_name int_name ∷ variable 3 v_name int_name ∷ []) (leaf 4 a_name ∷ [])

abbrev once_v : MeantOperation ℕ
once_v = operation_of operation.Query (variable 2 v_name int_name ∷ []) (leaf 4 a_name ∷ [])

v_is_declared_twice : UniqueVariableAt twice_v (wrong {E = List ℕ} 3 (UniqueVariable v_name 2 3))
v_is_declared_twice = (
  1,
  (
    variable 3 v_name int_name,
    (
      refl,
      (
        0,
        (
          variable 2 v_name int_name,
          (
            refl,
            (
              refl,
              (
                none_before defined_name twice_v.variables v_name,
                (omega arith, refl),
              ),
            ),
          ),
        ),
      ),
    ),
  ),
)

v_is_declared_once : (fault : FaultAt ℕ (List ℕ)) → UniqueVariableAt once_v fault → ⊥
v_is_declared_once fault p = one_repeats defined_name (variable 2 v_name int_name) p

-- ---- UndefinedDefinition: `query ($v: X) { a }`, and `query ($v: Int) { a }`

abbrev of_unknown : MeantOperation ℕ
of_unknown = operation_of operation.Query (variable 2 v_name (codes "X") ∷ []) (leaf 4 a_name ∷ [])

x_is_not_there : UndefinedVariableTypeAt small of_unknown (wrong {E = List ℕ} 2 (UndefinedDefinition (codes "X")))
x_is_not_there = (0, (variable 2 v_name (codes "X"), (refl, (refl, refl))))

int_is_there : (fault : FaultAt ℕ (List ℕ)) → UndefinedVariableTypeAt small once_v fault → ⊥
int_is_there fault p = true≢false (ap is_some (at_only (variable 2 v_name int_name) p).0)

-- ---- VariableInputType: `query ($v: Q) { a }`, and `query ($v: Int) { a }`

abbrev of_output : MeantOperation ℕ
of_output = operation_of operation.Query (variable 2 v_name query_name ∷ []) (leaf 4 a_name ∷ [])

q_is_no_input_type : VariableInputTypeAt small of_output (wrong {E = List ℕ} 2 (VariableInputType v_name (NamedTree (record { it = query_name; place = tt })) (codes "an object type")))
q_is_no_input_type = (0, (variable 2 v_name query_name, (refl, (query_type, (refl, (refl, refl))))))

int_is_an_input_type : (fault : FaultAt ℕ (List ℕ)) → VariableInputTypeAt small once_v fault → ⊥
int_is_an_input_type fault p = true≢false (of_present int_type (at_only (variable 2 v_name int_name) p)).0

-- ---- UnusedVariable: `query ($v: Int) { a }` (row 17), and `query ($v: Int) { a(x: $v) }`

v_is_unused : UnusedVariableAt once_v (wrong {E = List ℕ} 2 (UnusedVariable v_name)) by_numbers (alone once_v)
v_is_unused = (0, (variable 2 v_name int_name, (refl, (not_used, (2, (refl, refl))))))
  where
    in_a : IsInSelection v_name (at_root 0 (leaf 4 a_name)) → ⊥
    in_a (inl h) = not_at_index h
    in_a (inr h) = not_at_index (of_present (leaf_at root 0 query_name 4 None a_name [] []) h)

    not_used : IsUsedIn v_name (alone once_v) once_v → ⊥
    not_used (inl h) = not_at_index h
    not_used (inr (inl p)) = none_reached (alone once_v) once_v 1 refl p (in_a, tt)
    not_used (inr (inr p)) = no_fragment (alone once_v) once_v 1 refl (refl, tt) p

abbrev x_is_v : Arguments ℕ
x_is_v = given 7 (codes "x") (VariableTree (at 8 v_name)) ∷ []

abbrev used_v : MeantOperation ℕ
used_v = operation_of operation.Query (variable 2 v_name int_name ∷ []) (leaf_with 4 a_name x_is_v [] ∷ [])

v_is_used : (fault : FaultAt ℕ (List ℕ)) → UnusedVariableAt used_v fault by_numbers (alone used_v) → ⊥
v_is_used fault p = (at_only (variable 2 v_name int_name) p).0 (inr (inl (
  at_root 0 (leaf_with 4 a_name x_is_v []),
  (
    first (0, omega arith, refl),
    inr (leaf_at root 0 query_name 4 None a_name x_is_v [], (refl, (0, (_, (refl, refl))))),
  ),
)))

-- ---- UnsupportedValueType: `query ($v: Int! = null) { a }`, and `query ($v: Int = null) { a }`, `query ($v: Q! = null) { a }`

abbrev null_for : TypeTree ℕ → MeantOperation ℕ
null_for ty = operation_of operation.Query (record { it = record { name = at 2 v_name; ty = record { it = ty; place = 3 }; default_value = Some (record { it = NullTree; place = 4 }); directives = [] }; place = 2 } ∷ []) (leaf 5 a_name ∷ [])

abbrev strict_int : TypeTree ℕ
strict_int = NonNullNamedTree (at 3 int_name)

null_is_no_value : DefaultValueBreaks small (null_for strict_int) (wrong {E = List ℕ} 4 (UnsupportedValueType NullTree (unplaced_type strict_int) 3)) by_numbers
null_is_no_value = (0, (_, (refl, ((int_type, (refl, refl)), (_, (refl, inl (inl (int_type, (refl, ((λ e. true≢false e), refl))))))))))

null_is_a_value : (fault : FaultAt ℕ (List ℕ)) → DefaultValueBreaks small (null_for (NamedTree (at 3 int_name))) fault by_numbers → ⊥
null_is_a_value fault p = elim (of_present (record { it = NullTree; place = 4 }) (at_only _ p).1) [
  | inl (inl h) ↦ (of_present int_type h).0 refl
  | inl (inr (inl h)) ↦ not_present (of_present int_type h).1.1
  | inl (inr (inr (inl h))) ↦ not_present (of_present int_type h).1
  | inl (inr (inr (inr (inl h)))) ↦ not_present (of_present int_type h).1
  | inl (inr (inr (inr (inr h)))) ↦ not_present (of_present int_type h).1
  | inr h ↦ h
]

q_has_no_values : (fault : FaultAt ℕ (List ℕ)) → DefaultValueBreaks small (null_for (NonNullNamedTree (at 3 query_name))) fault by_numbers → ⊥
q_has_no_values fault p = true≢false (sym (of_present query_type (at_only _ p).0))
