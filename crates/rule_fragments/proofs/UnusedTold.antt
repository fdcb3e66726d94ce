-- What is told of each fragment that no name is used of is UnusedFragment.
use Rattle.std.proofs.Common.{◌≡◌, ◌↔◌, ℕ, Bool, true, false, List, [], ◌∷◌, ◌++◌, map, refl, sym, ap, subst, true≢false, ◌∙◌, Contains}
use Rattle.std.specs.Prelude.{bytes_eq, if◌then◌else◌}
use Rattle.std.specs.List.{flat_map, IsDistinct, list_any}
use Rattle.std.specs.Map.{keys_of}
use Rattle.indexmap.specs.IndexMap.{IndexMap, IsUnique}
use Rattle.graphql_names.specs.NameValue.{NameValue}
use Rattle.graphql_names.specs.Placed.{Place}
use Rattle.graphql_names.specs.declared.node.Node.{Node}
use Rattle.schema_components.specs.Names.{same_text}
use Rattle.schema_types.specs.TypeView.{name_text}
use Rattle.document_typed_operations.specs.declared.operation.Fragment.{Fragment}
use Rattle.spec_document.specs.MeantTree.{MeantFragment, MeantDocument}
use Rattle.rule_definitions.specs.Diagnostics.{UnusedFragment}
use Rattle.rule_definitions.specs.Faults.{wrong}
use Rattle.rule_definitions.specs.PlacedFaults.{PlacedFault}
use Rattle.rule_definitions.proofs.Lists.{found_in, given_in, not_in_nil, only, is_only}
use Rattle.rule_document_definitions.specs.Selected.{fragments}
use Rattle.rule_document_definitions.specs.Fragments.{UnusedFragmentAt}
use Rattle.rule_reach.specs.Reach.{meant_fragments}
use Rattle.rule_cycles.specs.Numbers.{each_value}
use Rattle.rule_fragments.specs.Used.{AreUnderOwnNames, IsUsed, AreUsed}
use Rattle.rule_fragments.specs.Unused.{unused_fragment}
use Rattle.rule_fragments.specs.SpreadViews.{fragment_meant}
use Rattle.rule_fragments.proofs.Named.{any_among, used_by_name, names_differ, at_once}

-- ---- of one fragment

module _ (names : List (List ℕ)) (f : MeantFragment Place) where
  abbrev either : Bool → List PlacedFault
  either b = if b then [] else wrong f.place (UnusedFragment f.name.it) ∷ []

  pub nothing_told : list_any (bytes_eq f.name.it) names ≡ true → [] ≡ unused_fragment names f
  nothing_told e = sym (ap either e)

  pub fault_told : list_any (bytes_eq f.name.it) names ≡ false → wrong f.place (UnusedFragment f.name.it) ∷ [] ≡ unused_fragment names f
  fault_told e = sym (ap either e)

-- ---- of all

-- what is told of the fragments of a map
pub told_fragments : (tells : MeantFragment Place → List PlacedFault) (es : List (NameValue × Node Fragment))
    → each_value (λ n. tells (fragment_meant n)) es ≡ flat_map tells (map (λ (e : List ℕ × MeantFragment Place). e.1) (map {B = List ℕ × MeantFragment Place} (λ (e : NameValue × Node Fragment). (name_text e.0, fragment_meant e.1)) es))
told_fragments tells [] = refl
told_fragments tells (e ∷ es) = (λ i. tells (fragment_meant e.1) ++ told_fragments tells es i)

module _ (d : MeantDocument Place) (distinct : IsDistinct bytes_eq (keys_of d.fragments)) (own : AreUnderOwnNames d) (names : List (List ℕ)) (used : AreUsed d names) where
  told_one : (f : MeantFragment Place) (x : PlacedFault) (b : Bool) → list_any (bytes_eq f.name.it) names ≡ b → Contains (if b then [] else wrong f.place (UnusedFragment f.name.it) ∷ []) x
      → (IsUsed d f → ⊥) × (x ≡ wrong f.place (UnusedFragment f.name.it))
  told_one f x true is c = not_in_nil x c
  told_one f x false is c = (
    λ u. true≢false (sym ((any_among f.name.it names).1 ((used f.name.it).1 (f, (u, refl)))) ∙ is),
    only (wrong f.place (UnusedFragment f.name.it)) x c,
  )

  one_told : (f : MeantFragment Place) (x : PlacedFault) → Contains (fragments d) f → (IsUsed d f → ⊥) → x ≡ wrong f.place (UnusedFragment f.name.it) → Contains (unused_fragment names f) x
  one_told f x c none is = by (list_any (bytes_eq f.name.it) names) refl
    where
      by : (b : Bool) → list_any (bytes_eq f.name.it) names ≡ b → Contains (if b then [] else wrong f.place (UnusedFragment f.name.it) ∷ []) x
      by true e = absurd (none (used_by_name d distinct own names used f c ((any_among f.name.it names).0 e)))
      by false e = is_only (wrong f.place (UnusedFragment f.name.it)) x is

  pub unused_told : (x : PlacedFault) → Contains (flat_map (unused_fragment names) (fragments d)) x ↔ UnusedFragmentAt d x
  unused_told x = (
    λ c.
        let f : (f : MeantFragment Place) × (Contains (fragments d) f × Contains (unused_fragment names f) x) = found_in (unused_fragment names) x (fragments d) c in
        (f.0, (f.1.0, told_one f.0 x (list_any (bytes_eq f.0.name.it) names) refl f.1.1)),
    λ h. given_in (unused_fragment names) x (fragments d) h.0 h.1.0 (one_told h.0 x h.1.0 h.1.1.0 h.1.1.1),
  )

pub unused_of_map : {S : Type 0} (m : IndexMap NameValue (Node Fragment) S) → IsUnique (same_text name_text) m → (d : MeantDocument Place) → d.fragments ≡ meant_fragments m → AreUnderOwnNames d → (names : List (List ℕ)) → AreUsed d names
    → (x : PlacedFault) → Contains (each_value (λ n. unused_fragment names (fragment_meant n)) m.entries) x ↔ UnusedFragmentAt d x
unused_of_map m unique d is own names used x =
    let same = is ∙ at_once m in
    let distinct : IsDistinct bytes_eq (keys_of d.fragments) = subst (λ es. IsDistinct bytes_eq (keys_of es)) (sym same) (names_differ m unique) in
    let list : each_value (λ n. unused_fragment names (fragment_meant n)) m.entries ≡ flat_map (unused_fragment names) (fragments d) =
    told_fragments (unused_fragment names) m.entries ∙ ap (λ es. flat_map (unused_fragment names) (map (λ (e : List ℕ × MeantFragment Place). e.1) es)) (sym same) in
    subst (λ l. Contains l x ↔ UnusedFragmentAt d x) (sym list) (unused_told d distinct own names used x)
