-- A set that is opened: what is left of it, and what is found of it.
use Rattle.std.proofs.Common.{◌≡◌, ◌∙◌, ◌++◌, ◌<◌, ℕ, true, false, List, [], ◌∷◌, map, drop, suc, length, get_or, refl, ap, sym, subst, append-nil, append_assoc, length-append, arith, if◌then◌else◌}
use Rattle.std.specs.Prelude.{Some, None, flat_map}
use Rattle.std.specs.Borrow.{Bor}
use Rattle.std.proofs.Math.Seq.{drop-cons}
use Rattle.std.proofs.lemmas.List.{map-append}
use Rattle.std.proofs.lemmas.List.Sums.{fold-append}
use Rattle.graphql_names.specs.NameValue.{NameValue}
use Rattle.graphql_names.specs.Placed.{Place, name_tree}
use Rattle.graphql_names.specs.Node.{content}
use Rattle.graphql_names.specs.declared.node.Node.{Node}
use Rattle.document_typed_selections.specs.TypedTree.{TypedField, TypedSpread, TypedInline, TypedSet, typed_selection_tree, typed_set_tree, holds_none}
use Rattle.document_typed_selections.specs.declared.selection.Selection.{Selection}
use Rattle.document_typed_selections.specs.declared.selection.Selection.TheOpen.{FragmentSpread as SpreadOf}
use Rattle.document_typed_selections.specs.declared.selection.Selection.TheViews.{out-Selection, Field as Field', InlineFragment as InlineFragment'}
use Rattle.document_typed_selections.specs.declared.selection.Field.{Field}
use Rattle.document_typed_selections.specs.declared.selection.FragmentSpread.{FragmentSpread}
use Rattle.document_typed_selections.specs.declared.selection.InlineFragment.{InlineFragment}
use Rattle.document_typed_selections.specs.declared.selection.SelectionSet.{SelectionSet}
use Rattle.document_typed_selections.proofs.TypedTrees.{tree_here, typed_selection_tree_out, typed_tree_field, typed_tree_inline}
use Rattle.document_typed_operations.specs.Reached.{Member, members_in, spread_names}
use Rattle.document_typed_operations.specs.Left.{members_from, bare_selections}
use Rattle.document_typed_operations.specs.WalkView.{lent_member, members_on}
use Rattle.document_typed_operations.proofs.Passing.{members_in-list}
use Rattle.document_typed_operations.proofs.Standings.{set_members}
use Rattle.rule_reach.specs.Fields.{field_of}
use Rattle.rule_field_sets.specs.Fields.{fields_of}
use Rattle.rule_reach.specs.Lent.{field_lent, fields_lent}
use Rattle.rule_reach.specs.declared.field_selection.FieldSelection.{FieldSelection}
use Rattle.rule_field_sets.specs.declared.found.FoundField.{FoundField}
use Rattle.rule_field_sets.specs.Found.{set_of, texts_of}
use Rattle.rule_field_sets.specs.Opened.{OpenState, left_of, typed_sets, below_of, place_for, own_set, sets_below, placed, all_placed, inside, with_more, passed, with_field, at_end}

-- ---- what is left

from_is : (e : Member Place) → members_from false e ≡ e ∷ inside e
from_is (ty, TypedField p d h s) = refl
from_is (ty, TypedSpread p n ds) = refl
from_is (ty, TypedInline p c ds s) = refl

-- what waits last comes next
pub left_last : (waiting : List (Bor NameValue × Bor Selection)) (e : Bor NameValue × Bor Selection) → left_of (waiting ++ e ∷ []) ≡ members_from false (lent_member e) ++ left_of waiting
left_last waiting e = fold-append (λ left d. members_from false (lent_member d) ++ left) [] waiting (e ∷ [])

-- ---- the selections of a set, last to first

abbrev pub those_on : NameValue → List Selection → List (Member Place)
those_on ty ss = flat_map (members_from false) (members_on ty ss)

pub one_before : (ty : NameValue) (ss : List Selection) (k j : ℕ) (x : Selection) (now old : List (Member Place)) → k < length ss → x ≡ get_or ss k x → j ≡ suc k → now ≡ those_on ty (drop j ss) ++ old
    → members_from false (name_tree ty, typed_selection_tree x) ++ now ≡ those_on ty (drop k ss) ++ old
one_before ty ss k j x now old within at e is =
    let here : List (Member Place) = members_from false (name_tree ty, typed_selection_tree x) in
    ap (λ l. here ++ l) (is ∙ ap (λ i. those_on ty (drop i ss) ++ old) e)
    ∙ sym (append_assoc here (those_on ty (drop (suc k) ss)) old)
    ∙ ap (λ l. those_on ty l ++ old) (sym (drop-cons ss k x within ∙ ap (λ y. y ∷ drop (suc k) ss) (sym at)))

-- what is pushed last comes first
pub pushed : (waiting new : List (Bor NameValue × Bor Selection)) (e : Bor NameValue × Bor Selection) → new ≡ waiting ++ e ∷ [] → left_of new ≡ members_from false (lent_member e) ++ left_of waiting
pushed waiting new e is = ap left_of is ∙ left_last waiting e

pub whole_set : (s : SelectionSet) → those_on s.ty s.selections.items ≡ members_in false (typed_set_tree s)
whole_set s = ap (flat_map (members_from false)) (set_members s) ∙ sym (members_in-list false (typed_set_tree s))

-- ---- the set of a field

pub none_below : (n : ℕ) (s : TypedSet Place) → holds_none s ≡ true → None ≡ place_for n s
none_below n s is = ap (λ b. if b then None else Some n) (sym is)

pub nothing_below : (sets : List (TypedSet Place)) (s : TypedSet Place) → holds_none s ≡ true → sets ≡ sets ++ own_set s
nothing_below sets s is = sym (append-nil sets) ∙ ap (λ b. sets ++ (if b then [] else s ∷ [])) (sym is)

pub some_below : (n m : ℕ) (s : TypedSet Place) → holds_none s ≡ false → m ≡ n → Some m ≡ place_for n s
some_below n m s is at = ap (λ k. Some k) at ∙ ap (λ b. if b then None else Some n) (sym is)

pub set_below : (old new : List (Bor SelectionSet)) (s : Bor SelectionSet) → holds_none (typed_set_tree s.now) ≡ false → new ≡ old ++ s ∷ [] → typed_sets new ≡ typed_sets old ++ own_set (typed_set_tree s.now)
set_below old new s is pushed =
    ap typed_sets pushed
    ∙ map-append (λ (t : Bor SelectionSet). typed_set_tree t.now) old (s ∷ [])
    ∙ ap (λ b. typed_sets old ++ (if b then [] else typed_set_tree s.now ∷ [])) (sym is)

-- ---- a selection that is passed

abbrev pub selections_in_order : List FoundField → List FieldSelection
selections_in_order fields = map (λ (f : FoundField). f.selection) fields

pub field_added : (x : FoundField) (old new : List FoundField) (sets : List (TypedSet Place)) (w : OpenState) → new ≡ old ++ x ∷ []
    → w.fields ≡ fields_of (selections_in_order old) → w.below ≡ below_of old
    → x.below ≡ place_for (length w.sets) (set_of x) → sets ≡ w.sets ++ own_set (set_of x)
    → record w { sets = sets; fields = fields_of (selections_in_order new); below = below_of new } ≡ with_field (name_tree x.selection.parent_type.now) x.selection.field.now w
field_added x old new sets w pushed fields below at more =
    let each : fields_of (selections_in_order new) ≡ w.fields ++ field_of x.selection ∷ [] =
    ap (λ l. fields_of (selections_in_order l)) pushed
    ∙ ap fields_of (map-append (λ (f : FoundField). f.selection) old (x ∷ []))
    ∙ map-append field_of (selections_in_order old) (x.selection ∷ [])
    ∙ ap (λ l. l ++ field_of x.selection ∷ []) (sym fields) in
    let places : below_of new ≡ w.below ++ (set_of x, place_for (length w.sets) (set_of x)) ∷ [] =
    ap below_of pushed
    ∙ map-append (λ (f : FoundField). (set_of f, f.below)) old (x ∷ [])
    ∙ ap (λ l. l ++ (set_of x, x.below) ∷ []) (sym below)
    ∙ ap (λ b. w.below ++ (set_of x, b) ∷ []) at in
    λ i. record w { sets = more i; fields = each i; below = places i; spreads = sym (append-nil w.spreads) i }

pub field_passed : (ty : NameValue) (n : Node Field) (s : Selection) (w new : OpenState) → s ≡ Field' n → new ≡ with_field (name_tree ty) n w → new ≡ passed (name_tree ty, typed_selection_tree s) w
field_passed ty n s w new is went = went ∙ ap (λ t. passed (name_tree ty, t) w) (sym (ap typed_selection_tree is ∙ typed_tree_field n))

pub spread_passed : (ty : NameValue) (n : Node FragmentSpread) (k : Bor NameValue) (s : Selection) (old new : List (Bor NameValue)) (w : OpenState) → out-Selection s ≡ SpreadOf n → k.now ≡ (content {A = FragmentSpread} n).fragment_name
    → new ≡ old ++ k ∷ [] → w.spreads ≡ texts_of old
    → record w { spreads = texts_of new } ≡ passed (name_tree ty, typed_selection_tree s) w
spread_passed ty n k s old new w is named pushed here =
    let all : texts_of new ≡ w.spreads ++ (content {A = FragmentSpread} n).fragment_name.text ∷ [] =
    ap texts_of pushed
    ∙ map-append (λ (a : Bor NameValue). a.now.text) old (k ∷ [])
    ∙ ap (λ (m : NameValue). texts_of old ++ m.text ∷ []) named
    ∙ ap (λ l. l ++ (content {A = FragmentSpread} n).fragment_name.text ∷ []) (sym here) in
    (λ i. record w {
      sets = sym (append-nil w.sets) i;
      fields = sym (append-nil w.fields) i;
      below = sym (append-nil w.below) i;
      spreads = all i;
    })
    ∙ ap (λ t. passed (name_tree ty, t) w) (sym (typed_selection_tree_out s ∙ ap tree_here is))

pub inline_passed : (ty : NameValue) (n : Node InlineFragment) (f : InlineFragment) (s : Selection) (left : List (Member Place)) (w : OpenState) → s ≡ InlineFragment' n → f ≡ content {A = InlineFragment} n
    → left ≡ members_in false (typed_set_tree f.selection_set) ++ w.left → record w { left = left } ≡ passed (name_tree ty, typed_selection_tree s) w
inline_passed ty n f s left w is of went =
    let all : left ≡ members_in false (typed_set_tree (content {A = InlineFragment} n).selection_set) ++ w.left = went ∙ ap (λ (g : InlineFragment). members_in false (typed_set_tree g.selection_set) ++ w.left) of in
    (λ i. record w {
      sets = sym (append-nil w.sets) i;
      left = all i;
      fields = sym (append-nil w.fields) i;
      below = sym (append-nil w.below) i;
      spreads = sym (append-nil w.spreads) i;
    })
    ∙ ap (λ t. passed (name_tree ty, t) w) (sym (ap typed_selection_tree is ∙ typed_tree_inline n))

-- ---- all selections of a set

-- opening a set comes to the same end when it has passed a selection, and fewer are left
passed_to_end : (e : Member Place) (w : OpenState) → at_end (passed e w) ≡ at_end (with_more (members_from false e) w)
passed_to_end e w =
    (λ i. record w {
      sets = append_assoc w.sets (sets_below e) (flat_map sets_below (inside e ++ w.left)) i;
      left = [];
      fields = append_assoc w.fields (field_lent e) (fields_lent (inside e ++ w.left)) i;
      below = append_assoc w.below (placed (length w.sets) e) (all_placed (length-append w.sets (sets_below e) i) (inside e ++ w.left)) i;
      spreads = append_assoc w.spreads (spread_names e.1) (flat_map spread_names (bare_selections (inside e ++ w.left))) i;
    })
    ∙ ap (λ l. at_end (with_more l w)) (sym (from_is e))

fewer_left : (e : Member Place) (w : OpenState) → length (passed e w).left < length (members_from false e ++ w.left)
fewer_left e w = subst (λ l. length (inside e ++ w.left) < length (l ++ w.left)) (sym (from_is e)) (omega arith)

-- it comes to the same end, and fewer are left, where the one that waits last is passed
pub step_on : (waiting rest : List (Bor NameValue × Bor Selection)) (e : Bor NameValue × Bor Selection) (w new : OpenState) → waiting ≡ rest ++ e ∷ [] → w.left ≡ left_of rest → new ≡ passed (lent_member e) w
    → (at_end new ≡ at_end (record w { left = left_of waiting })) × (length new.left < length (left_of waiting))
step_on waiting rest e w new was here is =
    let all : left_of waiting ≡ members_from false (lent_member e) ++ w.left = ap left_of was ∙ left_last rest e ∙ ap (λ l. members_from false (lent_member e) ++ l) (sym here) in (
      ap at_end is ∙ passed_to_end (lent_member e) w ∙ ap (λ l. at_end (record w { left = l })) (sym all),
      subst (λ (v : OpenState). length v.left < length (left_of waiting)) (sym is) (subst (λ l. length (passed (lent_member e) w).left < length l) (sym all) (fewer_left (lent_member e) w)),
    )

-- it is at its end where nothing is left
pub ended : (w : OpenState) → w.left ≡ [] → at_end w ≡ w
ended w none =
    ap (λ l. at_end (record w { left = l })) none
    ∙ (λ i. record w {
      sets = append-nil w.sets i;
      left = sym none i;
      fields = append-nil w.fields i;
      below = append-nil w.below i;
      spreads = append-nil w.spreads i;
    })
