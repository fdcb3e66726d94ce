-- Fragments under their own names, and the names of those that are used.
use Rattle.std.proofs.Common.{◌≡◌, ◌↔◌, ℕ, Bool, true, false, ◌||◌, List, [], ◌∷◌, map, slice_get, Some, refl, sym, ap, subst, ◌∙◌, inl, inr, true≢false, Contains}
use Rattle.std.specs.Prelude.{bytes_eq}
use Rattle.std.specs.List.{IsDistinct, AllByRecursion, list_any}
use Rattle.std.specs.Map.{keys_of}
use Rattle.std.proofs.lemmas.Option.{same_Some}
use Rattle.std.proofs.lemmas.List.Elements.{Contains-append_right}
use Rattle.std.proofs.lemmas.Slice.Eq.{bytes_eq-Decides}
use Rattle.indexmap.specs.IndexMap.{IndexMap, IsUnique}
use Rattle.graphql_names.specs.NameValue.{NameValue}
use Rattle.graphql_names.specs.Placed.{Placed, Place, node_tree}
use Rattle.graphql_names.specs.declared.node.Node.{Node}
use Rattle.schema_components.specs.Names.{Entries, same_text}
use Rattle.schema_types.specs.TypeView.{name_text}
use Rattle.document_typed_operations.specs.TypedDocument.{TypedFragment, typed_fragment_tree}
use Rattle.document_typed_operations.specs.declared.operation.Fragment.{Fragment}
use Rattle.spec_document.specs.MeantTree.{MeantFragment, MeantDocument}
use Rattle.rule_reach.specs.in_typed_operations.DocumentView.{meant_by_fragment}
use Rattle.rule_document_definitions.specs.Named.{FragmentsFoundByName}
use Rattle.rule_document_definitions.specs.Selected.{fragments, fragment_named}
use Rattle.rule_reach.specs.Reach.{meant_fragments}
use Rattle.rule_cycle_search.proofs.Lists.{not_in_nil, Contains-cons, Contains-first}
use Rattle.rule_definitions.proofs.Lists.{index_found, index_given}
use Rattle.rule_cycles.proofs.Entries.{under_at, under_given}
use Rattle.rule_fragments.specs.Used.{AreUnderOwnNames, IsUsed, AreUsed}
use Rattle.rule_fragments.specs.SpreadViews.{fragment_meant, fragment_entries}

-- ---- a name among others

pub any_among : (n : List ℕ) (ns : List (List ℕ)) → (list_any (bytes_eq n) ns ≡ true) ↔ Contains ns n
any_among n [] = (λ h. absurd (true≢false (sym h)), λ c. not_in_nil n c)
any_among n (m ∷ ns) = by (bytes_eq n m) refl (any_among n ns)
  where
    by : (b : Bool) → bytes_eq n m ≡ b → (list_any (bytes_eq n) ns ≡ true) ↔ Contains ns n → ((b || list_any (bytes_eq n) ns) ≡ true) ↔ Contains (m ∷ ns) n
    by true is rest = (λ h. Contains-first m ns n (sym ((bytes_eq-Decides n m).0 is)), λ c. refl)
    by false is rest = (
      λ h. Contains-append_right (m ∷ []) ns n (rest.0 h),
      λ c. elim (Contains-cons m ns n c) [
        | inl e ↦ absurd (true≢false (sym ((bytes_eq-Decides n m).1 (sym e)) ∙ is))
        | inr d ↦ rest.1 d
      ],
    )

-- ---- the names of a map

abbrev text_of : NameValue → List ℕ
text_of k = k.text

all_differ : (k : NameValue) (ks : List NameValue) → AllByRecursion (λ y. same_text name_text k y ≡ false) ks → AllByRecursion (λ n. bytes_eq k.text n ≡ false) (map text_of ks)
all_differ k [] h = h
all_differ k (y ∷ ks) h = (h.0, all_differ k ks h.1)

distinct_texts : (ks : List NameValue) → IsDistinct (same_text name_text) ks → IsDistinct bytes_eq (map text_of ks)
unfolding IsDistinct
distinct_texts [] h = h
distinct_texts (k ∷ ks) h = (all_differ k ks h.0, distinct_texts ks h.1)

entry_keys : (es : List (NameValue × Node Fragment)) → keys_of (map {B = List ℕ × MeantFragment Place} (λ (e : NameValue × Node Fragment). (name_text e.0, fragment_meant e.1)) es) ≡ map text_of (keys_of es)
entry_keys [] = refl
entry_keys (e ∷ es) = ap (λ l. name_text e.0 ∷ l) (entry_keys es)

pub names_differ : {S : Type 0} (m : IndexMap NameValue (Node Fragment) S) → IsUnique (same_text name_text) m → IsDistinct bytes_eq (keys_of (fragment_entries m))
names_differ m unique = subst (IsDistinct bytes_eq) (sym (entry_keys m.entries)) (distinct_texts (keys_of m.entries) unique)

-- the fragments of a document, made at once
both_steps : (es : List (NameValue × Node Fragment))
    → map {B = List ℕ × MeantFragment Place} (λ (e : List ℕ × Placed Place (TypedFragment Place)). (e.0, meant_by_fragment e.1)) (map {B = List ℕ × Placed Place (TypedFragment Place)} (λ (e : NameValue × Node Fragment). (name_text e.0, node_tree typed_fragment_tree e.1)) es)
    ≡ map {B = List ℕ × MeantFragment Place} (λ (e : NameValue × Node Fragment). (name_text e.0, fragment_meant e.1)) es
both_steps [] = refl
both_steps (e ∷ es) = ap (λ l. (name_text e.0, fragment_meant e.1) ∷ l) (both_steps es)

pub at_once : {S : Type 0} (m : IndexMap NameValue (Node Fragment) S) → meant_fragments m ≡ fragment_entries m
at_once m = both_steps m.entries

-- ---- fragments of a document

entry_there : {P : Type 0} (es : Entries (MeantFragment P)) (f : MeantFragment P) → Contains (map (λ (e : List ℕ × MeantFragment P). e.1) es) f → (e : List ℕ × MeantFragment P) × (Contains es e × (e.1 ≡ f))
entry_there [] f c = not_in_nil f c
entry_there (e ∷ es) f c = elim (Contains-cons e.1 (map (λ x. x.1) es) f c) [
  | inl same ↦ (e, (Contains-first e es e refl, same))
  | inr r ↦ let x = entry_there es f r in (x.0, (Contains-append_right (e ∷ []) es x.0 x.1.0, x.1.1))
]

value_there : {P : Type 0} (es : Entries (MeantFragment P)) (e : List ℕ × MeantFragment P) → Contains es e → Contains (map (λ (x : List ℕ × MeantFragment P). x.1) es) e.1
value_there [] e c = not_in_nil e c
value_there (x ∷ es) e c = elim (Contains-cons x es e c) [
  | inl same ↦ Contains-first x.1 (map (λ y. y.1) es) e.1 (ap (λ y. y.1) same)
  | inr r ↦ Contains-append_right (x.1 ∷ []) (map (λ y. y.1) es) e.1 (value_there es e r)
]

module _ {P : Type 0} (d : MeantDocument P) where
  -- what stands under a name is one of the fragments
  pub fragment_there : (n : List ℕ) (f : MeantFragment P) → fragment_named d n ≡ Some f → Contains (fragments d) f
  fragment_there n f h =
      let i : (i : ℕ) × (slice_get d.fragments i ≡ Some (n, f)) = under_given n d.fragments f h in
      value_there d.fragments (n, f) (index_given d.fragments i.0 (n, f) i.1)

  -- what is used is one of the fragments
  pub used_there : (f : MeantFragment P) → IsUsed d f → Contains (fragments d) f
  used_there f u = fragment_there u.1.1.1.1.0 f u.1.1.1.1.1.1

  module _ (distinct : IsDistinct bytes_eq (keys_of d.fragments)) (own : AreUnderOwnNames d) where
    -- each is at its number under its name
    pub own_number : (f : MeantFragment P) → Contains (fragments d) f → (i : ℕ) × (slice_get d.fragments i ≡ Some (f.name.it, f))
    own_number f c =
        let e : (e : List ℕ × MeantFragment P) × (Contains d.fragments e × (e.1 ≡ f)) = entry_there d.fragments f c in
        let i : (i : ℕ) × (slice_get d.fragments i ≡ Some e.0) = index_found d.fragments e.0 e.1.0 in
        let name : e.0.0 ≡ f.name.it = own e.0 e.1.0 ∙ ap (λ (g : MeantFragment P). g.name.it) e.1.1 in
        (i.0, i.1 ∙ (λ z. Some (name z, e.1.1 z)))

    pub are_named : FragmentsFoundByName d
    are_named f c = let i = own_number f c in under_at d.fragments distinct i.0 f.name.it f i.1

    -- fragments of one name are one
    pub one_fragment : (f g : MeantFragment P) → Contains (fragments d) f → Contains (fragments d) g → f.name.it ≡ g.name.it → f ≡ g
    one_fragment f g c e n = same_Some f g (sym (are_named f c) ∙ ap (fragment_named d) n ∙ are_named g e)

    -- the fragment of a name that is used, is used
    pub used_by_name : (names : List (List ℕ)) → AreUsed d names → (f : MeantFragment P) → Contains (fragments d) f → Contains names f.name.it → IsUsed d f
    used_by_name names used f c m =
        let g : (g : MeantFragment P) × (IsUsed d g × (g.name.it ≡ f.name.it)) = (used f.name.it).0 m in
        subst (IsUsed d) (one_fragment g.0 f (used_there g.0 g.1.0) c g.1.1) g.1.0
