-- Sets by their nodes: those of a group, each number once.
use Rattle.std.proofs.Common.{◌≡◌, ◌⊎◌, ◌∙◌, ℕ, ◌+◌, ◌<◌, Bool, true, false, not, Option, None, Some, List, [], ◌∷◌, ◌++◌, length, get_or, take, Contains, refl, sym, ap, subst, append-nil, inl, inr, if◌then◌else◌, true≢false, arith}
use Rattle.std.specs.List.{AllZip, list_any}
use Rattle.std.specs.Prelude.{nat_eq, option_to_list}
use Rattle.std.proofs.lemmas.Bool.Decides.{Decides-eqb}
use Rattle.std.proofs.lemmas.List.{map-append}
use Rattle.std.proofs.lemmas.List.Elements.{Contains-append_left, Contains-append_cases, AllZip-push}
use Rattle.std.proofs.lemmas.Map.Views.{Contains-from_any, list_any-from_Contains}
use Rattle.std.proofs.lemmas.Cmp.{nat_eq_equiv}
use Rattle.indexmap.specs.IndexSet.{insert_key}
use Rattle.graphql_names.specs.Placed.{Place}
use Rattle.rule_selection_queries.specs.in_spec_document.MeantTree.{MeantSet, meant_set, no_meant, meant_then, meant_of_set}
use Rattle.rule_selection_queries.proofs.in_definitions.Lists.{not_in_nil, only}
use Rattle.rule_selection_queries.specs.in_document_definitions.ReadFields.{ReadSet, list_read}
use Rattle.rule_selection_queries.specs.in_document_definitions.Selected.{StandingField, HasNone}
use Rattle.rule_selection_queries.proofs.in_document_definitions.Unplaced.{contains_map}
use Rattle.rule_field_sets.specs.Nodes.{AreSets, HasMember, IsNodeBelow, own_set, set_nodes}
use Rattle.rule_field_sets.specs.Read.{set_at, set_content_at, node_read}
use Rattle.rule_field_sets.specs.declared.field_sets.FieldSets.{FieldSets}
use Rattle.rule_field_sets.specs.declared.member.Member.{Member}
use Rattle.rule_field_sets.proofs.Meaning.{set_of_node}
use Rattle.rule_field_groups.specs.Members.{field_of, fields_of, meant_sets, read_sets}
use Rattle.rule_field_groups.specs.Below.{IsBare, AreSetsOf, NotesSet}
use Rattle.rule_field_groups.specs.Under.{AreNumbered, AddsNode}
use Rattle.rule_field_groups.specs.declared.below.SetsBelow.{SetsBelow}
use Rattle.rule_field_groups.proofs.Lists.{in_last, taken_more, beside}

-- ---- the set of a member

-- one without selections
pub bare_of_none : {P : Type 0} (s : MeantSet P) → HasNone s → IsBare s
bare_of_none (meant_set t no_meant) none = tt
bare_of_none (meant_set t (meant_then s ss)) none = absurd none

pub none_of_bare : {P : Type 0} (s : MeantSet P) → IsBare s → HasNone s
none_of_bare (meant_set t no_meant) bare = tt
none_of_bare (meant_set t (meant_then s ss)) bare = absurd bare

module _ (w : FieldSets) (are : AreSets w) (m : Member) (has : HasMember w m) where
  -- as it is told by the member's node
  below_of : (o : Option ℕ) → m.below ≡ o → IsNodeBelow (set_nodes w) has.0 (own_set m.selection) o
  below_of o e = subst (IsNodeBelow (set_nodes w) has.0 (own_set m.selection)) e ((are.nodes has.0 has.1.0 has.1.1.0).below m has.1.1.1)

  -- it has no selections where there is no node of it
  pub member_bare : m.below ≡ None → IsBare (field_of m).set
  member_bare e = bare_of_none (field_of m).set (below_of None e)

  -- else it is that of the node, and has some
  pub member_below : (n : ℕ) → m.below ≡ Some n → set_at w n ≡ (field_of m).set
  member_below n e =
      let v = (below_of (Some n) e).1.1 in
      set_of_node w n v.0 v.1.0 ∙ ap meant_of_set v.1.1

  pub member_some : (n : ℕ) → m.below ≡ Some n → HasNone (field_of m).set → ⊥
  member_some n e = (below_of (Some n) e).0

-- ---- numbers of sets

same_number : (m n : ℕ) → nat_eq m n ≡ true → m ≡ n
same_number m n e = (Decides-eqb m n).0 e

-- a number that is found is there
pub number_among : (ns : List ℕ) (n : ℕ) → list_any (nat_eq n) ns ≡ true → Contains ns n
number_among ns n e = Contains-from_any same_number n ns e

-- one that is put in stands there, or goes last
pub number_there : (old new : List ℕ) (n : ℕ) (is_new : Bool) → is_new ≡ not (list_any (nat_eq n) old) → new ≡ insert_key nat_eq old n → is_new ≡ false → Contains old n × (new ≡ old)
number_there old new n is_new tells is told = by (list_any (nat_eq n) old) refl
  where
    by : (b : Bool) → list_any (nat_eq n) old ≡ b → Contains old n × (new ≡ old)
    by true e = (number_among old n e, is ∙ ap (λ b. if b then old else old ++ n ∷ []) e)
    by false e = absurd (true≢false (sym (sym told ∙ tells ∙ ap not e)))

pub number_new : (old new : List ℕ) (n : ℕ) (is_new : Bool) → is_new ≡ not (list_any (nat_eq n) old) → new ≡ insert_key nat_eq old n → is_new ≡ true → (Contains old n → ⊥) × (new ≡ old ++ n ∷ [])
number_new old new n is_new tells is told = by (list_any (nat_eq n) old) refl
  where
    by : (b : Bool) → list_any (nat_eq n) old ≡ b → (Contains old n → ⊥) × (new ≡ old ++ n ∷ [])
    by true e = absurd (true≢false (sym told ∙ tells ∙ ap not e))
    by false e = (
      λ c. true≢false (sym (list_any-from_Contains nat_eq_equiv n old c) ∙ e),
      is ∙ ap (λ b. if b then old else old ++ n ∷ []) e,
    )

-- ---- sets of a group

no_sets : AreSetsOf [] []
no_sets = record { within = λ s c. not_in_nil s c; covers = λ f c. not_in_nil f c }

-- what is among sets is among more of them
pub among_more : {field : StandingField Place} (old new : List (MeantSet Place)) → NotesSet field old new → (v : ReadSet) → Contains (read_sets old) v → Contains (read_sets new) v
among_more old new notes v c =
    subst (λ l. Contains (read_sets l) v) (sym notes.is) (subst (λ l. Contains l v) (sym (map-append list_read old notes.added)) (Contains-append_left (read_sets old) (read_sets notes.added) v c))

-- the set of a field that has no selections
pub bare_noted : (field : StandingField Place) (sets : List (MeantSet Place)) → IsBare field.set → NotesSet field sets sets
bare_noted field sets bare = record { added = []; is = sym (append-nil sets); its = λ s c. not_in_nil s c; there = inl bare }

-- with it the sets are those of one field more
sets_more : (field : StandingField Place) (group : List (StandingField Place)) (old new : List (MeantSet Place)) → NotesSet field old new → AreSetsOf group old → AreSetsOf (group ++ field ∷ []) new
sets_more field group old new notes so_far = record {
  within = λ s c. elim (Contains-append_cases old notes.added s (subst (λ l. Contains l s) notes.is c)) [
    | inl a ↦ let f = so_far.within s a in (f.0, (Contains-append_left group (field ∷ []) f.0 f.1.0, f.1.1))
    | inr b ↦ (field, (in_last group field, notes.its s b))
  ];
  covers = λ f c. elim (Contains-append_cases group (field ∷ []) f c) [
    | inl a ↦ elim (so_far.covers f a) [ inl bare ↦ inl bare | inr there ↦ inr (among_more old new notes (list_read f.set) there) ]
    | inr r ↦ subst (λ (x : StandingField Place). IsBare x.set ⊎ Contains (read_sets new) (list_read x.set)) (sym (only field f r)) notes.there
  ];
}

module _ (w : FieldSets) where
  -- the set of the node is read as the number
  abbrev reads_so : ℕ → ℕ → Type 0
  reads_so n i = set_content_at w n ≡ node_read w i

  -- none
  pub none_numbered : (found : SetsBelow) → found.numbers.keys ≡ [] → found.nodes.items ≡ [] → AreNumbered w found
  none_numbered found numbers nodes =
      subst (λ l. AllZip reads_so l found.nodes.items) (sym numbers)
      (subst (AllZip reads_so []) (sym nodes) tt)

  pub sets_begun : (nodes : List ℕ) → nodes ≡ [] → AreSetsOf [] (meant_sets w nodes)
  sets_begun nodes e = subst (λ l. AreSetsOf [] (meant_sets w l)) (sym e) no_sets

  -- field by field
  pub sets_step : (group : List Member) (old new : List ℕ) (i : ℕ) (x : Member) → i < length group → x ≡ get_or group i x
      → NotesSet (field_of x) (meant_sets w old) (meant_sets w new) → AreSetsOf (fields_of (take i group)) (meant_sets w old) → AreSetsOf (fields_of (take (i + 1) group)) (meant_sets w new)
  sets_step group old new i x h e notes so_far =
      subst (λ l. AreSetsOf l (meant_sets w new)) (sym (ap fields_of (taken_more group i x h e) ∙ map-append field_of (take i group) (x ∷ [])))
      (sets_more (field_of x) (fields_of (take i group)) (meant_sets w old) (meant_sets w new) notes so_far)

  -- a set that is read as a number that is there is read as the set of the node beside it
  pub read_there : (found : SetsBelow) → AreNumbered w found → (number node : ℕ) → Contains found.numbers.keys number → set_content_at w number ≡ node_read w node
      → {s : MeantSet Place} → set_at w node ≡ s → Contains (read_sets (meant_sets w found.nodes.items)) (list_read s)
  read_there found are number node there reads same =
      let i = beside reads_so found.numbers.keys found.nodes.items are number there in
      subst (Contains (read_sets (meant_sets w found.nodes.items))) (sym i.1.1 ∙ reads ∙ ap list_read same)
      (contains_map list_read (meant_sets w found.nodes.items) (set_at w i.0) (contains_map (set_at w) found.nodes.items i.0 i.1.0))

  module _ (old new : SetsBelow) (number node : ℕ) (adds : AddsNode number node old new) (are : AreNumbered w old) (reads : set_content_at w number ≡ node_read w node) where
    -- the set of a field that is that of the node
    pub set_noted : (field : StandingField Place) → set_at w node ≡ field.set → NotesSet field (meant_sets w old.nodes.items) (meant_sets w new.nodes.items)
    set_noted field same = elim adds [
      | inl a ↦ record {
        added = [];
        is = ap (meant_sets w) a.1.1 ∙ sym (append-nil (meant_sets w old.nodes.items));
        its = λ s c. not_in_nil s c;
        there = inr (subst (λ l. Contains (read_sets (meant_sets w l)) (list_read field.set)) (sym a.1.1) (read_there old are number node a.0 reads same));
      }
      | inr b ↦ record {
        added = set_at w node ∷ [];
        is = ap (meant_sets w) b.1.1 ∙ map-append (set_at w) old.nodes.items (node ∷ []);
        its = λ s c. sym same ∙ sym (only (set_at w node) s c);
        there = inr (subst (λ l. Contains (read_sets (meant_sets w l)) (list_read field.set)) (sym b.1.1)
            (subst (Contains (read_sets (meant_sets w (old.nodes.items ++ node ∷ [])))) (ap list_read same)
            (contains_map list_read (meant_sets w (old.nodes.items ++ node ∷ [])) (set_at w node) (contains_map (set_at w) (old.nodes.items ++ node ∷ []) node (in_last old.nodes.items node)))));
      }
    ]

    pub numbered_more : AreNumbered w new
    numbered_more = elim adds [
      | inl a ↦ by (sym a.1.0) (sym a.1.1) are
      | inr b ↦ by (sym b.1.0) (sym b.1.1) (AllZip-push reads_so old.numbers.keys old.nodes.items number node are reads)
    ]
      where
        by : {ns is : List ℕ} → ns ≡ new.numbers.keys → is ≡ new.nodes.items → AllZip reads_so ns is → AllZip reads_so new.numbers.keys new.nodes.items
        by {ns} {is} e f all = subst (λ l. AllZip reads_so l new.nodes.items) e (subst (AllZip reads_so ns) f all)

  -- ---- the set of a node that is put last, unless one with the same contents is there

  pub known_noted : (nodes : List ℕ) (one other : ℕ) (first node : ℕ) → Contains nodes first → set_content_at w one ≡ node_read w first → set_content_at w other ≡ node_read w node → other ≡ one
      → (field : StandingField Place) → set_at w node ≡ field.set → NotesSet field (meant_sets w nodes) (meant_sets w nodes)
  known_noted nodes one other first node there reads reads_too equal field same = record {
    added = [];
    is = sym (append-nil (meant_sets w nodes));
    its = λ s c. not_in_nil s c;
    there = inr (subst (Contains (read_sets (meant_sets w nodes))) (sym reads ∙ ap (set_content_at w) (sym equal) ∙ reads_too ∙ ap list_read same)
        (contains_map list_read (meant_sets w nodes) (set_at w first) (contains_map (set_at w) nodes first there)));
  }

  pub last_noted : (old new : List ℕ) (node : ℕ) → new ≡ old ++ node ∷ [] → (field : StandingField Place) → set_at w node ≡ field.set → NotesSet field (meant_sets w old) (meant_sets w new)
  last_noted old new node puts field same = record {
    added = set_at w node ∷ [];
    is = ap (meant_sets w) puts ∙ map-append (set_at w) old (node ∷ []);
    its = λ s c. sym same ∙ sym (only (set_at w node) s c);
    there = inr (subst (λ l. Contains (read_sets (meant_sets w l)) (list_read field.set)) (sym puts)
        (subst (Contains (read_sets (meant_sets w (old ++ node ∷ [])))) (ap list_read same)
        (contains_map list_read (meant_sets w (old ++ node ∷ [])) (set_at w node) (contains_map (set_at w) (old ++ node ∷ []) node (in_last old node)))));
  }

  -- ---- the sets of two fields

  -- that of one alone
  pub alone_noted : AreSets w → (m : Member) → HasMember w m → NotesSet (field_of m) [] (meant_sets w (option_to_list m.below))
  alone_noted are m has = by m.below refl
    where
      by : (o : Option ℕ) → m.below ≡ o → NotesSet (field_of m) [] (meant_sets w (option_to_list o))
      by None e = bare_noted (field_of m) [] (member_bare w are m has e)
      by (Some n) e = last_noted [] (n ∷ []) n refl (field_of m) (member_below w are m has n e)

  pub two_noted : (one other : Member) (first nodes : List ℕ) → NotesSet (field_of one) [] (meant_sets w first) → NotesSet (field_of other) (meant_sets w first) (meant_sets w nodes)
      → AreSetsOf (fields_of (one ∷ other ∷ [])) (meant_sets w nodes)
  two_noted one other first nodes a b = sets_more (field_of other) (field_of one ∷ []) (meant_sets w first) (meant_sets w nodes) b (sets_more (field_of one) [] [] (meant_sets w first) a no_sets)

  module _ (are : AreSets w) (one other : Member) (has : HasMember w one) (has_too : HasMember w other) where
    -- the first has none
    pub second_alone : one.below ≡ None → AreSetsOf (fields_of (one ∷ other ∷ [])) (meant_sets w (option_to_list other.below))
    second_alone none = two_noted one other [] (option_to_list other.below) (bare_noted (field_of one) [] (member_bare w are one has none)) (alone_noted are other has_too)

    -- the second has none
    pub first_alone : other.below ≡ None → AreSetsOf (fields_of (one ∷ other ∷ [])) (meant_sets w (option_to_list one.below))
    first_alone none =
        let nodes = option_to_list one.below in
        two_noted one other nodes nodes (alone_noted are one has) (bare_noted (field_of other) (meant_sets w nodes) (member_bare w are other has_too none))

    -- both are read alike
    pub one_for_both : (first second : ℕ) → one.below ≡ Some first → other.below ≡ Some second → (noted number : ℕ) → set_content_at w noted ≡ node_read w first → set_content_at w number ≡ node_read w second → number ≡ noted
        → AreSetsOf (fields_of (one ∷ other ∷ [])) (meant_sets w (option_to_list one.below))
    one_for_both first second is is_too noted number reads reads_too equal =
        let nodes = option_to_list one.below in
        let there : Contains nodes first = subst (λ o. Contains (option_to_list o) first) (sym is) (in_last [] first) in
        two_noted one other nodes nodes (alone_noted are one has) (known_noted nodes noted number first second there reads reads_too equal (field_of other) (member_below w are other has_too second is_too))

    -- both have one
    pub both_noted : (first second : ℕ) → one.below ≡ Some first → other.below ≡ Some second → AreSetsOf (fields_of (one ∷ other ∷ [])) (meant_sets w (first ∷ second ∷ []))
    both_noted first second is is_too =
        two_noted one other (first ∷ []) (first ∷ second ∷ []) (last_noted [] (first ∷ []) first refl (field_of one) (member_below w are one has first is))
        (last_noted (first ∷ []) (first ∷ second ∷ []) second refl (field_of other) (member_below w are other has_too second is_too))

-- a list of two
pub two_items : {X : Type 0} (xs : List X) (a b : X) → length xs ≡ 2 → a ≡ get_or xs 0 a → b ≡ get_or xs 1 b → a ∷ b ∷ [] ≡ xs
two_items [] a b h p q = absurd (omega (arith, h))
two_items (x ∷ []) a b h p q = absurd (omega (arith, h))
two_items (x ∷ y ∷ []) a b h p q = λ i. p i ∷ q i ∷ []
two_items (x ∷ y ∷ z ∷ rest) a b h p q = absurd (omega (arith, h))
