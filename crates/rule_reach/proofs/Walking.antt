-- How a walk over a set goes on.
use Rattle.std.proofs.Common.{◌≡◌, ◌∙◌, ◌++◌, ◌<◌, ◌+◌, ℕ, List, [], ◌∷◌, length, get_or, take, Contains, Option, Some, None, true, refl, sym, ap, subst, inl, inr, append_assoc, true≢false}
use Rattle.std.proofs.lemmas.List.Elements.{Contains-append_left, Contains-append_right, Contains-append_cases, Contains-push, Contains-push_cases}
use Rattle.std.specs.Prelude.{option_map}
use Rattle.std.specs.Borrow.{Bor}
use Rattle.std.specs.Map.{lookup}
use Rattle.std.specs.Str.{bytes_eq}
use Rattle.std.proofs.lemmas.List.{map-append}
use Rattle.indexmap.specs.IndexMap.{IndexMap}
use Rattle.graphql_names.specs.NameValue.{NameValue}
use Rattle.graphql_names.specs.Node.{content}
use Rattle.graphql_names.specs.declared.node.Node.{Node}
use Rattle.graphql_names.specs.Placed.{Place, name_tree}
use Rattle.document_typed_selections.specs.TypedTree.{TypedSet, typed_set, no_typed, typed_then, typed_selection_tree, typed_set_tree, holds_none}
use Rattle.document_typed_selections.specs.TypedParts.{typed_field_node, typed_inline_node}
use Rattle.document_typed_selections.proofs.TypedTrees.{tree_here, typed_selection_tree_out, typed_tree_inline}
use Rattle.document_typed_selections.specs.declared.selection.FragmentSpread.{FragmentSpread}
use Rattle.document_typed_selections.specs.declared.selection.InlineFragment.{InlineFragment}
use Rattle.document_typed_selections.specs.declared.selection.Selection.{Selection}
use Rattle.document_typed_selections.specs.declared.selection.Selection.TheOpen.{FragmentSpread as SpreadOf}
use Rattle.document_typed_selections.specs.declared.selection.Selection.TheViews.{out-Selection, InlineFragment as InlineFragment'}
use Rattle.document_typed_selections.specs.declared.selection.SelectionSet.{SelectionSet}
use Rattle.document_typed_operations.specs.declared.operation.Fragment.{Fragment}
use Rattle.spec_document.specs.MeantTree.{MeantFragment, meant_of_set}
use Rattle.document_typed_operations.specs.Left.{own_members}
use Rattle.document_typed_operations.specs.WalkView.{lent_member, members_on}
use Rattle.document_typed_operations.proofs.Finding.{none_is_some, some_is}
use Rattle.rule_definitions.proofs.Listing.{mapped_more}
use Rattle.rule_definitions.specs.in_schema_types.Addresses.{under}
use Rattle.rule_document_definitions.proofs.Unplaced.{under_same}
use Rattle.rule_reach.specs.Fields.{field_of, meant_fragments}
use Rattle.rule_reach.specs.declared.field_selection.FieldSelection.{FieldSelection}
use Rattle.rule_reach.proofs.Found.{meant_node, found_under}
use Rattle.rule_reach.proofs.Selecting.{one_selects}
use Rattle.document_typed_operations.specs.Reached.{Member}
use Rattle.rule_definitions.proofs.Lists.{not_in_nil}
use Rattle.rule_document_definitions.specs.in_spec_document.in_components.Names.{Entries}
use Rattle.rule_document_definitions.specs.ReadFields.{ReadField, ReadSet, nothing_read, head_of, set_of, set_read, field_read, SelectsRead}
use Rattle.rule_reach.specs.Passed.{read_of_set, sets_read, passed_fields, map_read, members_left, LacksKey, IsNext, AddsSet, LeavesFor, LeavesFragment, WalkState, with_left, Selects, OneSelects, IsWalked, GoesOn, PassesSet}

pub is_next : (old new : List ReadSet) (s : ReadSet) → ((t : ReadSet) → Contains old t → Contains new t) → IsNext old s → IsNext new s
is_next old new s kept (inl e) = inl e
is_next old new s kept (inr c) = inr (kept s c)

module _ (fragments : Entries ReadSet) where
  -- ---- a selection is passed

  -- where others are left that select what it selects
  pub left_instead : (w : WalkState) (e : Member Place) (left : List (Member Place)) → ((f : Member Place) → Contains w.left f → Contains left f)
      → ((x : ReadField) → Selects fragments e x → OneSelects fragments left x) → GoesOn fragments (with_left e w) (record w { left = left })
  left_instead w e left kept instead = λ s given walked. record {
    selected = λ x h. elim (walked.selected x h) [
      | inl c ↦ inl c
      | inr f ↦ elim (Contains-push_cases w.left e f.0 f.1.0) [
        | inl c ↦ inr (f.0, (kept f.0 c, f.1.1))
        | inr same ↦ inr (instead x (subst (λ g. Selects fragments g x) (sym same) f.1.1))
      ]
    ];
    keys = walked.keys;
    below = walked.below;
    kept = walked.kept;
  }

  -- where it is a field
  pub field_added : (w : WalkState) (e : Member Place) (x : ReadField) (next : List ReadSet) → ((y : ReadField) → Selects fragments e y → x ≡ y) → LacksKey w.fields (head_of x).key → AddsSet (set_of x) w.next next
      → GoesOn fragments (with_left e w) (record w { fields = w.fields ++ x ∷ []; next = next })
  field_added w e x next is lacks adds = λ s given walked. record {
    selected = λ y h. elim (walked.selected y h) [
      | inl c ↦ inl (Contains-append_left w.fields (x ∷ []) y c)
      | inr f ↦ elim (Contains-push_cases w.left e f.0 f.1.0) [
        | inl c ↦ inr (f.0, (c, f.1.1))
        | inr same ↦ inl (subst (Contains (w.fields ++ x ∷ [])) (is y (subst (λ g. Selects fragments g y) (sym same) f.1.1)) (Contains-push w.fields x))
      ]
    ];
    keys = λ y z c d k. elim (Contains-push_cases w.fields x y c) [
      | inl a ↦ elim (Contains-push_cases w.fields x z d) [
        | inl b ↦ walked.keys y z a b k
        | inr b ↦ absurd (lacks y a (k ∙ ap (λ v. (head_of v).key) (sym b)))
      ]
      | inr a ↦ elim (Contains-push_cases w.fields x z d) [
        | inl b ↦ absurd (lacks z b (sym k ∙ ap (λ v. (head_of v).key) (sym a)))
        | inr b ↦ sym a ∙ b
      ]
    ];
    below = λ y c. elim (Contains-push_cases w.fields x y c) [
      | inl a ↦ is_next w.next next (set_of y) adds.kept (walked.below y a)
      | inr a ↦ subst (λ v. IsNext next (set_of v)) a adds.added
    ];
    kept = λ t c. adds.kept t (walked.kept t c);
  }

  -- ---- a set

  pub walk_begun : (s : ReadSet) (left : List (Member Place)) (next : List ReadSet) → ((x : ReadField) → SelectsRead fragments s x → OneSelects fragments left x) → IsWalked fragments s next (record { fields = []; left = left; next = next })
  walk_begun s left next all = record {
    selected = λ x h. inr (all x h);
    keys = λ x y c d k. not_in_nil x c;
    below = λ x c. not_in_nil x c;
    kept = λ t c. c;
  }

  pub walk_ended : (s : ReadSet) (given : List ReadSet) (w : WalkState) → w.left ≡ [] → IsWalked fragments s given w → PassesSet fragments s given w.next
  walk_ended s given w none walked sets (fields, passed) =
      let all : (x : ReadField) → SelectsRead fragments s x → Contains w.fields x = λ x h. elim (walked.selected x h) [
        | inl c ↦ c
        | inr f ↦ not_in_nil f.0 (subst (λ l. Contains l f.0) none f.1.0)
      ] in (
        fields ++ w.fields,
        record {
          selected = λ t x c h. elim (Contains-push_cases sets s t c) [
            | inl a ↦ Contains-append_left fields w.fields x (passed.selected t x a h)
            | inr b ↦ Contains-append_right fields w.fields x (all x (subst (λ u. SelectsRead fragments u x) (sym b) h))
          ];
          keys = λ t c. elim (Contains-push_cases sets s t c) [
            | inl a ↦ passed.keys t a
            | inr b ↦ λ x y h k. walked.keys x y (all x (subst (λ u. SelectsRead fragments u x) (sym b) h)) (all y (subst (λ u. SelectsRead fragments u y) (sym b) k))
          ];
          below = λ x c. elim (Contains-append_cases fields w.fields x c) [
            | inl a ↦ is_next given w.next (set_of x) walked.kept (passed.below x a)
            | inr b ↦ walked.below x b
          ];
        },
      )

-- ---- lists that grow

-- one selection more is left
pub selection_pushed : (ty : NameValue) (items : List Selection) (i : ℕ) (x : Selection) (e : Bor NameValue × Bor Selection) (old now new : List (Bor NameValue × Bor Selection)) → i < length items → x ≡ get_or items i x
    → lent_member e ≡ (name_tree ty, typed_selection_tree x) → new ≡ now ++ e ∷ [] → members_left now ≡ members_left old ++ members_on ty (take i items) → members_left new ≡ members_left old ++ members_on ty (take (i + 1) items)
selection_pushed ty items i x e old now new within at is pushed so_far =
    ap members_left pushed
    ∙ map-append lent_member now (e ∷ [])
    ∙ ap (λ l. l ++ lent_member e ∷ []) so_far
    ∙ append_assoc (members_left old) (members_on ty (take i items)) (lent_member e ∷ [])
    ∙ ap (λ m. members_left old ++ (members_on ty (take i items) ++ m ∷ [])) is
    ∙ ap (λ l. members_left old ++ l) (sym (mapped_more (λ (s : Selection). (name_tree ty, typed_selection_tree s)) items i x within at))

-- one field more lacks the key
pub lacks_more : (xs : List FieldSelection) (i : ℕ) (x : FieldSelection) (key : List ℕ) → i < length xs → x ≡ get_or xs i x → LacksKey (passed_fields (take i xs)) key → ((head_of (field_read (field_of x))).key ≡ key → ⊥) → LacksKey (passed_fields (take (i + 1) xs)) key
lacks_more xs i x key within at lacks differs y c same =
    elim (Contains-push_cases (passed_fields (take i xs)) (field_read (field_of x)) y (subst (λ l. Contains l y) (mapped_more (λ (z : FieldSelection). field_read (field_of z)) xs i x within at) c)) [
      | inl a ↦ lacks y a same
      | inr b ↦ differs (ap (λ v. (head_of v).key) b ∙ same)
    ]

-- a set without selections is read as nothing
none_read : {P : Type 0} (s : TypedSet P) → holds_none s ≡ true → set_read (meant_of_set s) ≡ nothing_read
none_read (typed_set ty no_typed) e = refl
none_read (typed_set ty (typed_then s ss)) e = absurd (true≢false (sym e))

pub no_set_added : (s : SelectionSet) (sets : List ReadSet) → holds_none (typed_set_tree s) ≡ true → AddsSet (read_of_set s) sets sets
no_set_added s sets none = record { kept = λ t c. c; added = inl (none_read (typed_set_tree s) none) }

pub set_added : (s : Bor SelectionSet) (old new : List (Bor SelectionSet)) → new ≡ old ++ s ∷ [] → AddsSet (read_of_set s.now) (sets_read old) (sets_read new)
set_added s old new pushed =
    let more : sets_read new ≡ sets_read old ++ read_of_set s.now ∷ [] = ap sets_read pushed ∙ map-append (λ (t : Bor SelectionSet). read_of_set t.now) old (s ∷ []) in
    record {
      kept = λ t c. subst (λ l. Contains l t) (sym more) (Contains-append_left (sets_read old) (read_of_set s.now ∷ []) t c);
      added = inr (subst (λ l. Contains l (read_of_set s.now)) (sym more) (Contains-push (sets_read old) (read_of_set s.now)));
    }

-- ---- the fragment of a name

twice : (o : Option (Node Fragment)) → option_map (λ (f : MeantFragment Place). set_read f.set) (option_map meant_node o) ≡ option_map (λ n. read_of_set (content {A = Fragment} n).selection_set) o
twice None = refl
twice (Some n) = refl

module _ {S : Type 0} (m : IndexMap NameValue (Node Fragment) S) (k : NameValue) where
  found_read : under k.text (map_read m) ≡ option_map (λ n. read_of_set (content {A = Fragment} n).selection_set) (lookup (λ (a : NameValue). bytes_eq k.text a.text) m.entries)
  found_read =
      under_same (λ (f : MeantFragment Place). set_read f.set) k.text (meant_fragments m)
      ∙ ap (option_map (λ (f : MeantFragment Place). set_read f.set)) (sym (found_under m k))
      ∙ twice (lookup (λ (a : NameValue). bytes_eq k.text a.text) m.entries)

  pub no_fragment : (left : List (Member Place)) → None ≡ lookup (λ (a : NameValue). bytes_eq k.text a.text) m.entries → LeavesFragment (map_read m) k.text left left
  no_fragment left is =
      let none : under k.text (map_read m) ≡ None = found_read ∙ ap (option_map (λ n. read_of_set (content {A = Fragment} n).selection_set)) (sym is) in
      record { kept = λ e c. c; selected = λ x h. none_is_some h.0 (sym none ∙ h.1.0) }

  pub a_fragment : (n : Node Fragment) (f : Fragment) (old new : List (Member Place)) → Some n ≡ lookup (λ (a : NameValue). bytes_eq k.text a.text) m.entries → f ≡ content {A = Fragment} n
      → new ≡ old ++ own_members (typed_set_tree f.selection_set) → LeavesFragment (map_read m) k.text old new
  a_fragment n f old new is of pushed =
      let here : under k.text (map_read m) ≡ Some (read_of_set (content {A = Fragment} n).selection_set) = found_read ∙ ap (option_map (λ n. read_of_set (content {A = Fragment} n).selection_set)) (sym is) in
      record {
        kept = λ e c. subst (λ l. Contains l e) (sym pushed) (Contains-append_left old (own_members (typed_set_tree f.selection_set)) e c);
        selected = λ x h.
            let same : h.0 ≡ read_of_set f.selection_set = some_is h.0 (read_of_set (content {A = Fragment} n).selection_set) (sym h.1.0 ∙ here) ∙ ap (λ (g : Fragment). read_of_set g.selection_set) (sym of) in
            let one = one_selects (map_read m) (typed_set_tree f.selection_set) x (subst (λ t. SelectsRead (map_read m) t x) same h.1.1) in
            (one.0, (subst (λ l. Contains l one.0) (sym pushed) (Contains-append_right old (own_members (typed_set_tree f.selection_set)) one.0 one.1.0), one.1.1));
      }

-- ---- what functions of the walk do

module _ (fragments : Entries ReadSet) where
  pub field_pushed : (x : FieldSelection) (old new : List FieldSelection) (w : WalkState) (next : List ReadSet) → w.fields ≡ passed_fields old → new ≡ old ++ x ∷ [] → LacksKey (passed_fields old) (head_of (field_read (field_of x))).key
      → AddsSet (set_of (field_read (field_of x))) w.next next → GoesOn fragments (with_left (name_tree x.parent_type.now, typed_field_node x.field.now) w) (record w { fields = passed_fields new; next = next })
  field_pushed x old new w next was pushed lacks adds =
      let more : w.fields ++ field_read (field_of x) ∷ [] ≡ passed_fields new = ap (λ l. l ++ field_read (field_of x) ∷ []) was ∙ sym (ap passed_fields pushed ∙ map-append (λ (z : FieldSelection). field_read (field_of z)) old (x ∷ [])) in
      subst (λ fs. GoesOn fragments (with_left (name_tree x.parent_type.now, typed_field_node x.field.now) w) (record w { fields = fs; next = next })) more
      (field_added fragments w (name_tree x.parent_type.now, typed_field_node x.field.now) (field_read (field_of x)) next (λ y h. h) (subst (λ fs. LacksKey fs (head_of (field_read (field_of x))).key) (sym was) lacks) adds)

  pub left_for : (w : WalkState) (e : Member Place) (left : List (Member Place)) → LeavesFor fragments (Selects fragments e) w.left left → GoesOn fragments (with_left e w) (record w { left = left })
  left_for w e left leaves = left_instead fragments w e left leaves.kept leaves.selected

  pub set_left : (s : TypedSet Place) (old new : List (Member Place)) → new ≡ old ++ own_members s → LeavesFor fragments (SelectsRead fragments (set_read (meant_of_set s))) old new
  set_left s old new pushed = record {
    kept = λ e c. subst (λ l. Contains l e) (sym pushed) (Contains-append_left old (own_members s) e c);
    selected = λ x h. let one = one_selects fragments s x h in (one.0, (subst (λ l. Contains l one.0) (sym pushed) (Contains-append_right old (own_members s) one.0 one.1.0), one.1.1));
  }

  -- of a selection that is a spread or an inline fragment, what it selects is left
  pub spread_left : (ty : NameValue) (n : Node FragmentSpread) (f : FragmentSpread) (s : Selection) (w : WalkState) (left : List (Member Place)) → out-Selection s ≡ SpreadOf n → f ≡ content {A = FragmentSpread} n
      → LeavesFragment fragments f.fragment_name.text w.left left → GoesOn fragments (with_left (name_tree ty, typed_selection_tree s) w) (record w { left = left })
  spread_left ty n f s w left is of leaves =
      subst (λ t. GoesOn fragments (with_left (name_tree ty, t) w) (record w { left = left })) (sym (typed_selection_tree_out s ∙ ap tree_here is))
      (left_for w (name_tree ty, tree_here (SpreadOf n)) left (subst (λ (g : FragmentSpread). LeavesFragment fragments g.fragment_name.text w.left left) of leaves))

  pub inline_left : (ty : NameValue) (n : Node InlineFragment) (f : InlineFragment) (s : Selection) (w : WalkState) (left : List (Member Place)) → s ≡ InlineFragment' n → f ≡ content {A = InlineFragment} n
      → left ≡ w.left ++ own_members (typed_set_tree f.selection_set) → GoesOn fragments (with_left (name_tree ty, typed_selection_tree s) w) (record w { left = left })
  inline_left ty n f s w left is of pushed =
      let here : left ≡ w.left ++ own_members (typed_set_tree (content {A = InlineFragment} n).selection_set) = pushed ∙ ap (λ (g : InlineFragment). w.left ++ own_members (typed_set_tree g.selection_set)) of in
      subst (λ t. GoesOn fragments (with_left (name_tree ty, t) w) (record w { left = left })) (sym (ap typed_selection_tree is ∙ typed_tree_inline n))
      (left_for w (name_tree ty, typed_inline_node n) left (set_left (typed_set_tree (content {A = InlineFragment} n).selection_set) w.left left here))

  pub set_begun : (s : SelectionSet) (fields : List FieldSelection) (cleared left : List (Bor NameValue × Bor Selection)) (next : List ReadSet) → fields ≡ [] → cleared ≡ [] → members_left left ≡ members_left cleared ++ own_members (typed_set_tree s)
      → IsWalked fragments (read_of_set s) next (record { fields = passed_fields fields; left = members_left left; next = next })
  set_begun s fields cleared left next none nothing pushed =
      subst (λ l. IsWalked fragments (read_of_set s) next (record { fields = passed_fields l; left = members_left left; next = next })) (sym none)
      (walk_begun fragments (read_of_set s) (members_left left) next (λ x h. subst (λ l. OneSelects fragments l x) (sym (pushed ∙ ap (λ l. members_left l ++ own_members (typed_set_tree s)) nothing)) (one_selects fragments (typed_set_tree s) x h)))

  pub set_popped : (s : ReadSet) (given : List ReadSet) (fields : List ReadField) (next : List ReadSet) (waiting rest : List (Bor NameValue × Bor Selection)) (e : Bor NameValue × Bor Selection) → waiting ≡ rest ++ e ∷ []
      → IsWalked fragments s given (record { fields = fields; left = members_left waiting; next = next }) → IsWalked fragments s given (with_left (lent_member e) (record { fields = fields; left = members_left rest; next = next }))
  set_popped s given fields next waiting rest e was walked =
      subst (λ l. IsWalked fragments s given (record { fields = fields; left = l; next = next })) (ap members_left was ∙ map-append lent_member rest (e ∷ [])) walked
