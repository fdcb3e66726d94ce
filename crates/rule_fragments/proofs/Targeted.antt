-- What is told of the types of fragments is what breaks InvalidFragmentTarget.
use Rattle.std.proofs.Common.{◌≡◌, ◌↔◌, ◌∙◌, ℕ, Bool, true, false, ◌&&◌, not, List, [], ◌∷◌, refl, ap, sym, subst, Option, None, Some, is_some, true≢false, if◌then◌else◌}
use Rattle.std.specs.List.{flat_map}
use Rattle.std.specs.Option.{option_map, option_map_or}
use Rattle.graphql_names.specs.Node.{content, place}
use Rattle.graphql_names.specs.NameValue.{NameValue}
use Rattle.graphql_names.specs.Placed.{Text, Place}
use Rattle.graphql_names.specs.declared.node.Node.{Node}
use Rattle.schema_types.specs.SchemaTree.{SchemaType, SchemaTree, is_leaf_kind, is_output_kind}
use Rattle.schema_types.specs.Looks.{TypeLooks}
use Rattle.schema_types.specs.Addresses.{under}
use Rattle.document_typed_selections.specs.TypedTree.{TypedSelection}
use Rattle.document_typed_selections.specs.TypedParts.{typed_inline_node, as_typed_inline}
use Rattle.document_typed_selections.specs.declared.selection.InlineFragment.{InlineFragment}
use Rattle.spec_document.specs.MeantTree.{MeantSelection, MeantOperation, MeantFragment, MeantDocument, meant}
use Rattle.fault_data.proofs.Judgings.{type_seen, type_look}
use Rattle.rule_definitions.specs.Diagnostics.{InvalidFragmentTarget}
use Rattle.rule_definitions.specs.Faults.{wrong}
use Rattle.rule_definitions.specs.Judged.{judged}
use Rattle.rule_definitions.specs.PlacedFaults.{PlacedFault}
use Rattle.rule_definitions.specs.Words.{Present}
use Rattle.rule_document_definitions.specs.Selected.{selection_place, inline_condition, own}
use Rattle.rule_document_definitions.specs.PossibleTypes.{IsNoCompositeType, IsNotComposite}
use Rattle.rule_document_definitions.specs.Fragments.{InvalidFragmentTargetAt}
use Rattle.rule_definitions.proofs.Listing.{Lists, lists_same, lists_present, lists_when, lists_index}
use Rattle.rule_definitions.specs.Room.{◌⊕◌}
use Rattle.rule_definitions.proofs.Adding.{Gains, gains_list, gains_both}
use Rattle.rule_reach.specs.Reach.{Member, IsReach}
use Rattle.rule_reach.proofs.AtReaches.{at_reached, at_reached_fragment}
use Rattle.rule_fragments.specs.Listed.{is_no_composite, invalid_fragment_target, fragment_target, inline_target}
use Rattle.rule_fragments.proofs.Members.{no_inline, the_inline}

-- ---- types that are not composite

not_true : (b : Bool) → not b ≡ true → b ≡ false
not_true true e = sym e
not_true false e = refl

no_composite : (o : Option (SchemaType Place)) → (option_map_or (λ (t : SchemaType Place). not (is_output_kind t.kind && not (is_leaf_kind t.kind))) o false ≡ true) ↔ Present (option_map type_seen o) (λ (t : TypeLooks). IsNoCompositeType t)
no_composite None = (λ e. absurd (true≢false (sym e)), λ h. absurd (true≢false (sym (ap is_some h.1.0))))
no_composite (Some t) = (
  λ e. (type_seen t, (refl, not_true (is_output_kind t.kind && not (is_leaf_kind t.kind)) e)),
  λ h. let same : type_seen t ≡ h.0 = cc in ap not (subst (λ (u : TypeLooks). IsNoCompositeType u) (sym same) h.1.1),
)

module _ (s : SchemaTree Place) where
  pub not_composite : (n : List ℕ) → (is_no_composite s n ≡ true) ↔ IsNotComposite (judged s) n
  not_composite n = subst (λ (o : Option TypeLooks). (is_no_composite s n ≡ true) ↔ Present o (λ (t : TypeLooks). IsNoCompositeType t)) (sym (type_look s n)) (no_composite (under n s.types))

  lists_target : (at : Place) (name : Option (List ℕ)) (ty : List ℕ) → Lists (invalid_fragment_target s at name ty) (λ f. IsNotComposite (judged s) ty × (f ≡ wrong at (InvalidFragmentTarget name ty)))
  lists_target at name ty =
      let b = is_no_composite s ty in
      let x : PlacedFault = wrong at (InvalidFragmentTarget name ty) in
      lists_same (if b then x ∷ [] else []) (λ f. (λ h. ((not_composite ty).0 h.0, h.1), λ h. ((not_composite ty).1 h.0, h.1))) (lists_when b x)

  -- ---- of one selection

  module _ (t : TypedSelection Place) where
    abbrev of : Option (List ℕ) → List PlacedFault
    of o = option_map_or (λ c. invalid_fragment_target s (selection_place (meant t)) None c) o []

    pub untargeted : None ≡ as_typed_inline t → [] ≡ inline_target s (meant t)
    untargeted is = sym (ap of (no_inline t is))

    module _ (n : Node InlineFragment) (is : Some (typed_inline_node n) ≡ as_typed_inline t) where
      here : inline_target s (meant (typed_inline_node n)) ≡ inline_target s (meant t)
      here = ap (λ u. inline_target s (meant u)) (the_inline t (typed_inline_node n) is)

      abbrev of_condition : Option NameValue → List PlacedFault
      of_condition c = option_map_or (λ c. invalid_fragment_target s (place n) None c) (option_map (λ n. n.text) c) []

      twice : (c : Option NameValue) → of_condition c ≡ option_map_or (λ c. invalid_fragment_target s (place n) None c) (option_map (λ (n : Text Place). n.it) (option_map (λ (m : NameValue). record { it = m.text; place = m.location }) c)) []
      twice None = refl
      twice (Some c) = refl

      pub by_condition : (c : Option NameValue) → c ≡ (content n).type_condition → of_condition c ≡ inline_target s (meant t)
      by_condition c e = ap of_condition e ∙ twice (content n).type_condition ∙ here

-- ---- of all that is reached

module _ (d : MeantDocument Place) (o : MeantOperation Place) (reached : List (Member Place)) (spread : List (MeantFragment Place)) (reach : IsReach d (own o) reached spread) (s : SchemaTree Place) where
  abbrev OnFragment : MeantFragment Place → PlacedFault → Type 0
  OnFragment x f = IsNotComposite (judged s) x.type_condition.it × (f ≡ wrong x.place (InvalidFragmentTarget (Some x.name.it) x.type_condition.it))

  abbrev Inline : MeantSelection Place → PlacedFault → Type 0
  Inline x f = Present (inline_condition x) (λ c. IsNotComposite (judged s) c × (f ≡ wrong (selection_place x) (InvalidFragmentTarget None c)))

  lists_inline : (x : MeantSelection Place) → Lists (inline_target s x) (Inline x)
  lists_inline x = lists_present (inline_condition x) (λ c. invalid_fragment_target s (selection_place x) None c) (λ c f. IsNotComposite (judged s) c × (f ≡ wrong (selection_place x) (InvalidFragmentTarget None c))) (λ c is. lists_target s (selection_place x) None c)

  pub gains_targets : (a b c : List PlacedFault) → b ≡ a ⊕ flat_map (fragment_target s) spread → c ≡ b ⊕ flat_map (λ (e : Member Place). inline_target s e.1) reached → Gains a c (λ f. InvalidFragmentTargetAt (judged s) d o f)
  gains_targets a b c first second =
      gains_both a b c
      (gains_list a b (flat_map (fragment_target s) spread) first
      (lists_same (flat_map (fragment_target s) spread) (λ f. at_reached_fragment d o reached spread reach (λ x. OnFragment x f))
      (lists_index spread (fragment_target s) (λ i x f. OnFragment x f) (λ i x is. lists_target s x.place (Some x.name.it) x.type_condition.it))))
      (gains_list b c (flat_map (λ (e : Member Place). inline_target s e.1) reached) second
      (lists_same (flat_map (λ (e : Member Place). inline_target s e.1) reached) (λ f. at_reached d o reached spread reach (λ e. Inline e.1 f))
      (lists_index reached (λ e. inline_target s e.1) (λ i e f. Inline e.1 f) (λ i e is. lists_inline e.1))))
