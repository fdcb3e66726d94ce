-- The set of a node with the members of the node and with the sets of the fragments that it spreads.
use Rattle.std.proofs.Common.{◌≡◌, ℕ, List, [], ◌∷◌, slice_get, Contains, refl, subst, inl, inr}
use Rattle.std.specs.Prelude.{Some}
use Rattle.std.specs.List.{AllZip}
use Rattle.graphql_names.specs.Placed.{Place}
use Rattle.rule_field_groups.proofs.in_components.Places.{Contains-rest}
use Rattle.rule_field_groups.specs.in_spec_document.MeantTree.{MeantDocument}
use Rattle.rule_field_groups.proofs.in_definitions.Lists.{not_in_nil, Contains-cons, Contains-first}
use Rattle.rule_field_groups.specs.in_document_definitions.ReadFields.{list_read}
use Rattle.rule_field_groups.proofs.in_document_definitions.Unplaced.{contains_map, contains_unmap}
use Rattle.rule_field_groups.specs.in_sets.in_reach.Fields.{meant_fragments}
use Rattle.rule_field_groups.specs.in_sets.declared.field_sets.FieldSets.{FieldSets}
use Rattle.rule_field_groups.specs.in_sets.declared.member.SetNode.{SetNode}
use Rattle.rule_field_groups.specs.in_sets.Nodes.{AreSets, HasAllStarts, set_nodes, fragment_nodes}
use Rattle.rule_field_groups.specs.in_sets.Read.{set_at}
use Rattle.rule_field_groups.specs.Members.{meant_sets}
use Rattle.rule_merging.specs.Examined.{SelectsAsMuch}
use Rattle.rule_field_groups.proofs.NodeFacts.{read_own, read_spreads, member_selected, spread_selects}
use Rattle.rule_merging.proofs.PairStep.{IsOpened}

-- each element of the left list is related to one of the right list
zip_left : {A B : Type 0} (R : A → B → Type 0) (xs : List A) (ys : List B) → AllZip R xs ys → (x : A) → Contains xs x → (y : B) × (Contains ys y × R x y)
zip_left R [] ys h x c = not_in_nil x c
zip_left R (x ∷ xs) [] h z c = absurd h
zip_left R (x ∷ xs) (y ∷ ys) (r, rest) z c = elim (Contains-cons x xs z c) [
  | inl e ↦ (y, (Contains-first y ys y refl, subst (λ u. R u y) e r))
  | inr k ↦ let u = zip_left R xs ys rest z k in (u.0, (Contains-rest y ys u.0 u.1.0, u.1.1))
]

zip_right : {A B : Type 0} (R : A → B → Type 0) (xs : List A) (ys : List B) → AllZip R xs ys → (y : B) → Contains ys y → (x : A) × (Contains xs x × R x y)
zip_right R xs [] h y c = not_in_nil y c
zip_right R [] (y ∷ ys) h z c = absurd h
zip_right R (x ∷ xs) (y ∷ ys) (r, rest) z c = elim (Contains-cons y ys z c) [
  | inl e ↦ (x, (Contains-first x xs x refl, subst (R x) e r))
  | inr k ↦ let u = zip_right R xs ys rest z k in (u.0, (Contains-rest x xs u.0 u.1.0, u.1.1))
]

module _ (w : FieldSets) (are : AreSets w) (starts : HasAllStarts w) (d : MeantDocument Place) (same : meant_fragments w.fragments.now ≡ d.fragments) where
  abbrev HasStart : ℕ → ℕ → Type 0
  HasStart p k = slice_get (fragment_nodes w) p ≡ Some k

  pub opened_node : (n : ℕ) (v : SetNode) → slice_get (set_nodes w) n ≡ Some v → (nodes : List ℕ) → AllZip HasStart v.spreads.items nodes → IsOpened d (set_at w n) v.members.items (meant_sets w nodes)
  opened_node n v at nodes led = record {
    within = member_selected w are starts d same n v at;
    covers = λ x c. (read_own w are starts d same n v at x).0 c;
    leads = λ u c.
        let k = contains_unmap (set_at w) nodes u c in
        subst (λ t. SelectsAsMuch d (set_at w n ∷ []) (t ∷ [])) k.1.1 (spread_selects w are starts d same n k.0 (v, (at, zip_right HasStart v.spreads.items nodes led k.0 k.1.0)));
    reaches = λ b h.
        let r = (read_spreads w are starts d same n v at b).0 h in
        let k = zip_left HasStart v.spreads.items nodes led r.0 r.1.0 in
        let e : r.1.1.0 ≡ k.0 = one_start r.0 r.1.1.0 k.0 r.1.1.1.0 k.1.1 in
        (set_at w k.0, (contains_map (set_at w) nodes k.0 k.1.0, subst (λ (j : ℕ). list_read (set_at w j) ≡ b) e r.1.1.1.1));
  }
    where
      one_start : (p j k : ℕ) → HasStart p j → HasStart p k → j ≡ k
      one_start p j k a b = cc
