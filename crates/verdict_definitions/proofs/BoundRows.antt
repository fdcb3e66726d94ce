-- The bound on references is passed by some schema: of input objects each of which has a field of the next, marked `!`.
use Rattle.std.proofs.Common.{◌≡◌, ◌+◌, ℕ, zero, suc, false, List, [], ◌∷◌, codes, slice_get, Option, None, Some, is_some, refl, sym, ap, ◌∙◌, inl, true≢false, arith}
use Rattle.std.proofs.lemmas.Option.{same_Some}
use Rattle.graphql_names.specs.Placed.{Text}
use Rattle.schema_fold.specs.in_literals.TypeTree.{NonNullNamedTree}
use Rattle.schema_fold.specs.in_directives.DirectiveTree.{InputValueTree}
use Rattle.schema_types.specs.Addresses.{TypeAt}
use Rattle.schema_types.specs.Looks.{TypeLooks}
use Rattle.schema_types.specs.declared.type_kind.TypeKind.TheVariants as kind
use Rattle.rule_cycle_search.specs.Paths.{IsWay, HasNoRepeat}
use Rattle.rule_definitions.specs.Diagnostics.{DeeplyNestedType}
use Rattle.rule_definitions.specs.Faults.{wrong}
use Rattle.rule_definitions.specs.Judged.{Judged}
use Rattle.rule_definitions.specs.Spots.{At}
use Rattle.rule_definitions.specs.Cycles.{RefersToInput, PassesReferenceBound}

-- ---- the input object k has fields of the type k + 1

abbrev name_of : ℕ → List ℕ
name_of k = k ∷ []

abbrev named : ℕ → Text (Unit {0})
named k = record { it = name_of k; place = tt }

abbrev field_of : ℕ → InputValueTree (Unit {0})
field_of k = record { description = None; name = named 0; ty = record { it = NonNullNamedTree (named k); place = tt }; default_value = None; directives = [] }

abbrev input_object : ℕ → TypeLooks
input_object k = record {
  kind = kind.InputObject;
  description = None;
  name = named 0;
  implements = λ n. false;
  has_member = λ n. false;
  field = λ n. None;
  value = λ n. None;
  input = λ n. Some (field_of k);
  directives = [];
}

abbrev type_under : List ℕ → Option TypeLooks
type_under (k ∷ []) = Some (input_object (suc k))
type_under _ = None

abbrev nested : Judged
nested = record {
  definition = record { description = None; directives = []; query = None; mutation = None; subscription = None };
  directive = λ n. None;
  type_named = type_under;
  built_in = λ a. false;
}

-- ---- the way from one of them on, so long

abbrev from : ℕ → ℕ → List (List ℕ)
from k zero = []
from k (suc count) = name_of k ∷ from (suc k) count

way : (k count : ℕ) → IsWay (RefersToInput nested) (from k count)
way k zero = tt
way k (suc zero) = tt
way k (suc (suc count)) = (
  (_, (input_object (suc k), (refl, (refl, (([], (field_of (suc k), (refl, (refl, (named (suc k), (refl, refl)))))), (input_object (suc (suc k)), (refl, refl))))))),
  way (suc k) (suc count),
)

stands : (k count i : ℕ) (x : List ℕ) → slice_get (from k count) i ≡ Some x → name_of (k + i) ≡ x
stands k zero i x e = absurd (true≢false (sym (ap is_some e)))
stands k (suc count) zero x e = ap name_of (omega arith) ∙ same_Some (name_of k) x e
stands k (suc count) (suc i) x e = ap name_of (omega arith) ∙ stands (suc k) count i x e

abbrev number_in : List ℕ → ℕ
number_in [] = 0
number_in (k ∷ rest) = k

apart : (k count : ℕ) → HasNoRepeat (from k count)
apart k count i j x a b =
    let same : k + i ≡ k + j = ap number_in (stands k count i x a ∙ sym (stands k count j x b)) in
    omega (arith, same)

-- one more than the bound
bound_passed : PassesReferenceBound nested (wrong (At (TypeAt (name_of 0))) (DeeplyNestedType (name_of 0) (codes "input object")))
bound_passed = inl (name_of 0, (from 1 32, (way 0 33, (apart 0 33, (omega arith, refl)))))
