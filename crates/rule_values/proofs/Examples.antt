-- Small values, by computation: what breaks a rule, and what next to it does not.
use Rattle.std.proofs.Common.{ℕ, true, false, List, [], ◌∷◌, codes, if◌then◌else◌, bytes_eq, None, Some, refl, sym, inl, inr, FitsSigned, w32}
use Rattle.graphql_names.specs.Placed.{Text}
use Rattle.tree_literals.specs.NumberSyntax.{integer_value}
use Rattle.tree_literals.specs.TypeTree.{NamedTree, ListTree as ListOf}
use Rattle.tree_literals.specs.ValueTree.{StringTree, IntTree, ListTree, no_items, item_then}
use Rattle.graphql_schema.specs.in_schema_types.Looks.{TypeLooks}
use Rattle.graphql_schema.specs.in_schema_types.declared.type_kind.TypeKind.TheVariants as kind
use Rattle.fault_data.specs.in_rule_definitions.Diagnostics.{UnsupportedValueType, IntCoercionError}
use Rattle.fault_data.specs.in_rule_definitions.Faults.{wrong}
use Rattle.fault_data.specs.in_rule_definitions.Judged.{Judged}
use Rattle.fault_data.specs.in_rule_definitions.GivenValues.{Wanted}
use Rattle.fault_data.specs.in_rule_definitions.Values.{FitsForm, IntCoercionErrorAt, TypeBreaks}
use Rattle.rule_values.proofs.Tells.{no_true}
use Rattle.rule_values.proofs.FormsTold.{fits_decides, among_more, among_one}

abbrev int_name : List ℕ
int_name = codes "Int"

abbrev int_text : Text (Unit {0})
int_text = record { it = int_name; place = tt }

abbrev int_type : TypeLooks
int_type = record { kind = kind.Scalar; description = None; name = int_text; directives = []; implements = λ m. false; field = λ m. None; has_member = λ m. false; value = λ m. None; input = λ m. None }

-- the built-in scalar Int, and nothing else
abbrev with_int : Judged
with_int = record {
  definition = record { description = None; directives = []; query = None; mutation = None; subscription = None };
  directive = λ n. None;
  type_named = λ n. if bytes_eq int_name n then Some int_type else None;
  built_in = λ at. true;
}

abbrev of_int : Wanted ℕ
of_int = record { it = NamedTree int_text; place = 0 }

abbrev of_ints : Wanted ℕ
of_ints = record { it = ListOf (NamedTree int_text); place = 0 }

-- ---- `[1, "x"]` against `[Int]`: the string is wrong, at its own place

no_string : FitsForm {P = ℕ} with_int [] of_int int_type (StringTree (codes "x")) → ⊥
no_string (inl custom) = absurd (no_true (sym custom.1))
no_string (inr (built_in, among)) =
    no_true ((among_more int_name (codes "String") (codes "ID" ∷ []) (bytes_eq int_name (codes "ID")) (among_one int_name (codes "ID"))).1 among)

list_breaks : TypeBreaks {P = ℕ} {E = ℕ} (λ a. 0) with_int [] of_ints 7 (ListTree (item_then 1 (IntTree (codes "1")) (item_then 2 (StringTree (codes "x")) no_items)))
    (wrong 2 (UnsupportedValueType (StringTree (codes "x")) (NamedTree int_text) 0))
list_breaks = inr ((int_type, (refl, inl refl)), inr (inl (inl (int_type, (refl, (no_string, refl))))))

-- ---- `2147483648` and `2147483647` against `Int`

too_large : FitsSigned w32 (integer_value (codes "2147483648")) → ⊥
too_large fits = no_true ((fits_decides (integer_value (codes "2147483648"))).1 fits)

large_breaks : IntCoercionErrorAt {P = ℕ} {E = ℕ} (λ a. 0) with_int [] of_int 7 (IntTree (codes "2147483648")) (wrong 7 (IntCoercionError (codes "2147483648")))
large_breaks = (int_type, (refl, ((refl, refl), (refl, (codes "2147483648", (refl, (too_large, refl)))))))

largest_fits : FitsSigned w32 (integer_value (codes "2147483647"))
largest_fits = (fits_decides (integer_value (codes "2147483647"))).0 refl

least_fits : FitsSigned w32 (integer_value (codes "-2147483648"))
least_fits = (fits_decides (integer_value (codes "-2147483648"))).0 refl

below_least : FitsSigned w32 (integer_value (codes "-2147483649")) → ⊥
below_least fits = no_true ((fits_decides (integer_value (codes "-2147483649"))).1 fits)
