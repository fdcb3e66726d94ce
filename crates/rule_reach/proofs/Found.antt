-- The two lists as the functions make them.
use Rattle.std.proofs.Common.{◌≡◌, ◌↔◌, ◌++◌, ◌∙◌, ◌+◌, ◌<◌, get_or, take, length, ℕ, Bool, List, [], ◌∷◌, map, true, false, refl, ap, sym, subst, append_assoc, append-nil, Contains}
use Rattle.std.specs.Prelude.{Option, Some, option_map, option_to_list, cond, find, if◌then◌else◌}
use Rattle.std.specs.Borrow.{Bor}
use Rattle.std.specs.Map.{lookup}
use Rattle.std.specs.Str.{bytes_eq}
use Rattle.std.proofs.lemmas.Grind.{flat_map-append}
use Rattle.indexmap.specs.IndexMap.{IndexMap}
use Rattle.graphql_names.specs.NameValue.{NameValue}
use Rattle.graphql_names.specs.Placed.{Place, node_tree}
use Rattle.graphql_names.specs.declared.node.Node.{Node}
use Rattle.schema_components.specs.Names.{entries_of}
use Rattle.schema_types.specs.TypeView.{name_text}
use Rattle.schema_types.specs.Addresses.{under}
use Rattle.document_typed_selections.specs.TypedTree.{TypedSet}
use Rattle.document_typed_selections.specs.declared.selection.Selection.{Selection}
use Rattle.document_typed_operations.specs.TypedDocument.{typed_fragment_tree}
use Rattle.document_typed_operations.specs.declared.operation.Fragment.{Fragment}
use Rattle.document_typed_operations.specs.Reached.{Fragments, Member as TypedMember, IsReached, IsReachedFragment}
use Rattle.document_typed_operations.specs.WalkView.{fragments_tree, lent_member}
use Rattle.rule_document_definitions.specs.in_spec_document.MeantTree.{MeantFragment, MeantDocument, meant, meant_of_set}
use Rattle.document_typed_operations.specs.DocumentView.{meant_by_fragment}
use Rattle.rule_document_definitions.specs.Selected.{Position, Standing, standing_in}
use Rattle.rule_reach.specs.Reach.{Member, member_of, meant_fragments, IsReach}
use Rattle.rule_reach.specs.Gathered.{fragments_under}
use Rattle.rule_definitions.proofs.Listing.{mapped_more}
use Rattle.rule_reach.proofs.Bridge.{is_reach}

map_twice : {A B C : Type 0} (g : B → C) (f : A → B) (xs : List A) → map g (map f xs) ≡ map (λ x. g (f x)) xs
map_twice g f [] = refl
map_twice g f (x ∷ xs) = ap (λ l. g (f x) ∷ l) (map_twice g f xs)

-- ---- selections

-- the same of a list that is the same
pub same_members : {X : Type 0} (l m : List X) (R : X → Type 0) → l ≡ m → ((x : X) → Contains m x ↔ R x) → (x : X) → Contains l x ↔ R x
same_members l m R is h = subst (λ k. (x : _) → Contains k x ↔ R x) (sym is) h

-- one more that the walk lends
pub lent_more : {P : Type 0} (old : List (TypedMember P)) (e : TypedMember P) (left : List (TypedMember P)) → (old ++ e ∷ []) ++ left ≡ old ++ (e ∷ left)
lent_more old e left = append_assoc old (e ∷ []) left

-- ---- fragments

-- the names up to one more
pub texts_more : (names : List (Bor NameValue)) (i : ℕ) (name : Bor NameValue) → i < length names → name ≡ get_or names i name → map (λ k. k.now.text) (take (i + 1) names) ≡ map (λ k. k.now.text) (take i names) ++ name.now.text ∷ []
texts_more names i name h is = mapped_more (λ (k : Bor NameValue). k.now.text) names i name h is

-- what the fragment of a node means
abbrev pub meant_node : Node Fragment → MeantFragment Place
meant_node n = meant_by_fragment (node_tree typed_fragment_tree n)

abbrev entry : NameValue × Node Fragment → List ℕ × MeantFragment Place
entry e = (e.0.text, meant_node e.1)

-- what a map has under a name is what stands under it
found_entry : (k : NameValue) (es : List (NameValue × Node Fragment)) → option_map meant_node (lookup (λ (a : NameValue). bytes_eq k.text a.text) es) ≡ under k.text (map entry es)
found_entry k [] = refl
found_entry k (e ∷ es) = by (bytes_eq k.text e.0.text) (found_entry k es)
  where
    by : (b : Bool) → option_map meant_node (lookup (λ (a : NameValue). bytes_eq k.text a.text) es) ≡ under k.text (map entry es)
        → option_map meant_node (if b then Some e.1 else lookup (λ (a : NameValue). bytes_eq k.text a.text) es) ≡ option_map (λ g. g.1) (cond b (Some (entry e)) (find (λ g. bytes_eq k.text g.0) (map entry es)))
    by true rest = refl
    by false rest = rest

module _ {S : Type 0} (fragments : IndexMap NameValue (Node Fragment) S) where
  pub found_under : (k : NameValue) → option_map meant_node (lookup (λ (a : NameValue). bytes_eq k.text a.text) fragments.entries) ≡ under k.text (meant_fragments fragments)
  found_under k = found_entry k fragments.entries ∙ ap (under k.text) (sym (map_twice (λ e. (e.0, meant_by_fragment e.1)) (λ (e : NameValue × Node Fragment). (e.0.text, node_tree typed_fragment_tree e.1)) fragments.entries))

  sets_tree : map (λ e. (e.0, e.1.it.set)) (entries_of name_text (node_tree typed_fragment_tree) fragments) ≡ fragments_tree fragments
  sets_tree = map_twice (λ e. (e.0, e.1.it.set)) (λ (e : NameValue × Node Fragment). (e.0.text, node_tree typed_fragment_tree e.1)) fragments.entries

  -- what is lent, and what the fragments of the names that are spread are
  pub made_reach : (start : TypedSet Place) (members : List (Bor NameValue × Bor Selection)) → ((e : TypedMember Place) → Contains (map lent_member members) e ↔ IsReached true (fragments_tree fragments) start e)
      → (names : List (List ℕ)) → ((n : List ℕ) → Contains names n ↔ IsReachedFragment true (fragments_tree fragments) start n)
      → (found : List (MeantFragment Place)) → found ≡ fragments_under (meant_fragments fragments) names
      → (d : MeantDocument Place) (holder : Position) → d.fragments ≡ meant_fragments fragments → IsReach d (standing_in holder (meant_of_set start)) (map member_of members) found
  made_reach start members reached names spread found is d holder same =
      let from : List (Standing Place) = standing_in holder (meant_of_set start) in
      let r = is_reach d (entries_of name_text (node_tree typed_fragment_tree) fragments) same holder start (map lent_member members)
      (subst (λ (fs : Fragments Place). (e : TypedMember Place) → Contains (map lent_member members) e ↔ IsReached true fs start e) (sym sets_tree) reached)
      names (subst (λ (fs : Fragments Place). (n : List ℕ) → Contains names n ↔ IsReachedFragment true fs start n) (sym sets_tree) spread) in
      subst (λ (l : List (Member Place)). IsReach d from l found) (map_twice (λ e. (e.0.it, meant e.1)) lent_member members)
      (subst (λ (l : List (MeantFragment Place)). IsReach d from (map (λ e. (e.0.it, meant e.1)) (map lent_member members)) l) (ap (λ fs. fragments_under fs names) same ∙ sym is) r)

  -- one name more
  pub named_more : (found : List (MeantFragment Place)) (names : List (List ℕ)) (n : List ℕ) (o : Option (MeantFragment Place)) → found ≡ fragments_under (meant_fragments fragments) names → o ≡ under n (meant_fragments fragments)
      → found ++ option_to_list o ≡ fragments_under (meant_fragments fragments) (names ++ n ∷ [])
  named_more found names n o so_far is =
      let fs = meant_fragments fragments in
      (λ i. so_far i ++ option_to_list (is i))
      ∙ sym (flat_map-append (λ n. option_to_list (under n fs)) names (n ∷ []) ∙ ap (λ l. fragments_under fs names ++ l) (append-nil (option_to_list (under n fs))))
