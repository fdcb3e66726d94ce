-- Selections that wait, and those in them.
use Rattle.std.proofs.Common.{◌≡◌, ◌∙◌, ◌++◌, ◌<◌, ℕ, List, [], ◌∷◌, map, drop, suc, length, get_or, flat_map, refl, sym, ap}
use Rattle.std.specs.Borrow.{Bor}
use Rattle.std.proofs.lemmas.Grind.{flat_map-append}
use Rattle.std.proofs.Math.Seq.{drop-cons}
use Rattle.std.proofs.lemmas.List.Sums.{fold-append}
use Rattle.graphql_names.specs.NameValue.{NameValue}
use Rattle.graphql_names.specs.Placed.{Place}
use Rattle.graphql_names.specs.Node.{content}
use Rattle.graphql_names.specs.declared.node.Node.{Node}
use Rattle.document_typed_selections.specs.TypedTree.{typed_selections, typed_selection_tree, typed_set_tree}
use Rattle.document_typed_selections.specs.declared.selection.Selection.{Selection}
use Rattle.document_typed_selections.specs.declared.selection.Selection.TheViews.{Field as Field', InlineFragment as InlineFragment'}
use Rattle.document_typed_selections.specs.declared.selection.Field.{Field}
use Rattle.document_typed_selections.specs.declared.selection.InlineFragment.{InlineFragment}
use Rattle.document_typed_selections.specs.declared.selection.SelectionSet.{SelectionSet}
use Rattle.document_typed_selections.proofs.TypedTrees.{typed_set_tree_out, typed_tree_field, typed_tree_inline}
use Rattle.spec_document.specs.MeantTree.{MeantSelection, MeantField, MeantSpread, MeantInline, MeantSet, meant_set, MeantSelections, no_meant, meant_then, meant, meant_of_set, meant_of_all}
use Rattle.rule_warnings.specs.Told.{Member, members_along, members_of, own_members, members_in, members_from, members_below, with_below}
use Rattle.rule_warnings.specs.Telling.{member_of, waiting_members}

-- the last one is the next one
pub pushed : (xs ys : List (Bor NameValue × Bor Selection)) (x : Bor NameValue × Bor Selection) → ys ≡ xs ++ x ∷ [] → waiting_members ys ≡ member_of x ∷ waiting_members xs
pushed xs ys x is = ap waiting_members is ∙ fold-append (λ es y. member_of y ∷ es) [] xs (x ∷ [])

-- the selections of a set as they are kept
abbrev pub kept_members : NameValue → List Selection → List (Member Place)
kept_members ty xs = map (λ x. (ty.text, meant (typed_selection_tree x))) xs

along_is : (ty : NameValue) (xs : List Selection) → members_along ty.text (meant_of_all (typed_selections typed_selection_tree xs)) ≡ kept_members ty xs
along_is ty [] = refl
along_is ty (x ∷ xs) = ap (λ l. (ty.text, meant (typed_selection_tree x)) ∷ l) (along_is ty xs)

pub members_are : (v : SelectionSet) → members_of (meant_of_set (typed_set_tree v)) ≡ kept_members v.ty v.selections.items
members_are v = ap (λ t. members_of (meant_of_set t)) (typed_set_tree_out v) ∙ along_is v.ty v.selections.items

-- one before those that are pushed
pub one_before : (ty : NameValue) (xs : List Selection) (k j : ℕ) (x : Selection) (waiting next : List (Bor NameValue × Bor Selection)) (e : Bor NameValue × Bor Selection) (old : List (Member Place))
    → k < length xs → x ≡ get_or xs k x → j ≡ suc k → member_of e ≡ (ty.text, meant (typed_selection_tree x)) → next ≡ waiting ++ e ∷ [] → waiting_members waiting ≡ kept_members ty (drop j xs) ++ old
    → waiting_members next ≡ kept_members ty (drop k xs) ++ old
one_before ty xs k j x waiting next e old h at is named push so_far =
    pushed waiting next e push
    ∙ (λ i. named i ∷ so_far i)
    ∙ ap (λ n. (ty.text, meant (typed_selection_tree x)) ∷ (kept_members ty (drop n xs) ++ old)) is
    ∙ ap (λ y. (ty.text, meant (typed_selection_tree y)) ∷ (kept_members ty (drop (suc k) xs) ++ old)) at
    ∙ sym (ap (λ l. kept_members ty l ++ old) (drop-cons xs k x h))

-- ---- all that wait, and those in them

mutual
  set_flat : {P : Type 0} (v : MeantSet P) → members_in v ≡ flat_map with_below (members_of v)
  set_flat (meant_set ty xs) = along_flat ty xs

  along_flat : {P : Type 0} (ty : List ℕ) (xs : MeantSelections P) → members_from ty xs ≡ flat_map with_below (members_along ty xs)
  along_flat ty no_meant = refl
  along_flat ty (meant_then x xs) = ap (λ l. (ty, x) ∷ (members_below x ++ l)) (along_flat ty xs)

below_flat : {P : Type 0} (x : MeantSelection P) → members_below x ≡ flat_map with_below (own_members x)
below_flat (MeantField p d h v) = set_flat v
below_flat (MeantSpread p n ds) = refl
below_flat (MeantInline p c ds v) = set_flat v

pub all_flat : {P : Type 0} (v : MeantSet P) → flat_map with_below (members_of v) ≡ members_in v
all_flat v = sym (set_flat v)

-- the next one goes, and those in it come
pub step_on : (waiting rest next : List (Bor NameValue × Bor Selection)) (x : Bor NameValue × Bor Selection) → waiting ≡ rest ++ x ∷ [] → waiting_members next ≡ own_members (meant (typed_selection_tree x.1.now)) ++ waiting_members rest
    → flat_map with_below (waiting_members waiting) ≡ member_of x ∷ flat_map with_below (waiting_members next)
step_on waiting rest next x was went =
    ap (flat_map with_below) (pushed rest waiting x was)
    ∙ ap (λ l. member_of x ∷ (l ++ flat_map with_below (waiting_members rest))) (below_flat (meant (typed_selection_tree x.1.now)))
    ∙ ap (λ l. member_of x ∷ l) (sym (flat_map-append with_below (own_members (meant (typed_selection_tree x.1.now))) (waiting_members rest)) ∙ ap (flat_map with_below) (sym went))

-- ---- what a selection pushes

pub field_pushed : (n : Node Field) (x : Selection) (v : SelectionSet) (now old : List (Member Place)) → x ≡ Field' n → v ≡ (content {A = Field} n).selection_set
    → now ≡ members_of (meant_of_set (typed_set_tree v)) ++ old → now ≡ own_members (meant (typed_selection_tree x)) ++ old
field_pushed n x v now old is set went =
    went ∙ ap (λ w. members_of (meant_of_set (typed_set_tree w)) ++ old) set ∙ sym (ap (λ t. own_members (meant t) ++ old) (ap typed_selection_tree is ∙ typed_tree_field n))

pub inline_pushed : (n : Node InlineFragment) (x : Selection) (v : SelectionSet) (now old : List (Member Place)) → x ≡ InlineFragment' n → v ≡ (content {A = InlineFragment} n).selection_set
    → now ≡ members_of (meant_of_set (typed_set_tree v)) ++ old → now ≡ own_members (meant (typed_selection_tree x)) ++ old
inline_pushed n x v now old is set went =
    went ∙ ap (λ w. members_of (meant_of_set (typed_set_tree w)) ++ old) set ∙ sym (ap (λ t. own_members (meant t) ++ old) (ap typed_selection_tree is ∙ typed_tree_inline n))
