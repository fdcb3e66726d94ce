-- What contracts see of a walk when it passes a selection, and when it enters a fragment.
use Rattle.std.proofs.Common.{◌≡◌, ◌++◌, ◌+◌, ◌<◌, ℕ, suc, List, [], ◌∷◌, map, length, refl, ap, sym, ◌∙◌, subst, append-nil, arith}
use Rattle.std.specs.Borrow.{Bor}
use Rattle.std.specs.Prelude.{fold, Option, Some, None, Result, Ok, Err, OnOk, slice_get, if◌then◌else◌, nat_eq, Bool}
use Rattle.std.specs.List.{position}
use Rattle.std.specs.Option.{option_map, option_map_or}
use Rattle.std.specs.Str.{bytes_eq}
use Rattle.std.proofs.lemmas.Option.{slice_get-map}
use Rattle.graphql_names.specs.Node.{content}
use Rattle.graphql_names.specs.NameValue.{NameValue}
use Rattle.graphql_names.specs.Placed.{Place, name_tree}
use Rattle.graphql_names.specs.declared.node.Node.{Node}
use Rattle.document_typed_selections.specs.TypedTree.{TypedSelection, typed_selections, typed_selection_tree, typed_set_tree, typed_selections_list}
use Rattle.document_typed_selections.specs.declared.selection.Selection.{Selection}
use Rattle.document_typed_selections.specs.declared.selection.Field.{Field}
use Rattle.document_typed_selections.specs.declared.selection.InlineFragment.{InlineFragment}
use Rattle.document_typed_selections.specs.declared.selection.SelectionSet.{SelectionSet}
use Rattle.document_typed_selections.specs.declared.selection.Selection.TheViews.{Field as Field', InlineFragment as InlineFragment'}
use Rattle.document_typed_selections.proofs.TypedTrees.{typed_tree_field, typed_tree_inline, typed_set_tree_out}
use Rattle.document_typed_operations.specs.declared.operation.Fragment.{Fragment}
use Rattle.indexmap.specs.IndexSet.{insert_key}
use Rattle.document_typed_operations.specs.Reached.{NamedSet, Member}
use Rattle.document_typed_operations.specs.Left.{WalkState, at_start, own_members, note, with_more}
use Rattle.document_typed_operations.specs.WalkView.{HasPassed, HasEntered, fragment_set, members_on, waiting_in}
use Rattle.document_typed_operations.proofs.Finding.{length-map, position-map}
use Rattle.document_typed_operations.proofs.Passing.{has_passed, has_entered, own_at}

-- what follows where a call went well
pub ok_so : {T E A B : Type 0} (r : Result T E) → (A → B) → OnOk r A → OnOk r B
ok_so (Ok t) f a = f a
ok_so (Err e) f a = tt

typed_selections-list : {A : Type 0} (f : A → TypedSelection Place) (xs : List A) → typed_selections_list (typed_selections f xs) ≡ map f xs
typed_selections-list f [] = refl
typed_selections-list f (x ∷ xs) = ap (λ l. f x ∷ l) (typed_selections-list f xs)

map-map : {A B C : Type 0} (f : B → C) (g : A → B) (xs : List A) → map f (map g xs) ≡ map (λ x. f (g x)) xs
map-map f g [] = refl
map-map f g (x ∷ xs) = ap (λ l. f (g x) ∷ l) (map-map f g xs)

-- the members of a set
pub set_members : (s : SelectionSet) → members_on s.ty s.selections.items ≡ own_members (typed_set_tree s)
set_members s = sym (ap own_members (typed_set_tree_out s) ∙ ap (map (λ x. (name_tree s.ty, x))) (typed_selections-list typed_selection_tree s.selections.items) ∙ map-map (λ x. (name_tree s.ty, x)) typed_selection_tree s.selections.items)

fold-last : {A B : Type 0} (f : B → A → B) (z : B) (xs : List A) (x : A) → fold f z (xs ++ x ∷ []) ≡ f (fold f z xs) x
fold-last f z [] x = refl
fold-last f z (y ∷ xs) x = fold-last f (f z y) xs x

-- a walk that goes on with the members of a set, before those that were at the front
pub descended : (s : SelectionSet) (members : List Selection) (below : List (Bor NameValue × Bor (List Selection))) (front : Bor NameValue × Bor (List Selection)) (w : WalkState Place)
    → members ≡ s.selections.items → w.pending ≡ waiting_in (fold waiting_in [] below) front
    → record w { pending = members_on s.ty members ++ fold waiting_in [] (below ++ front ∷ []) } ≡ with_more (own_members (typed_set_tree s)) w
descended s members below front w of pending = λ i. record w { pending = (ap (members_on s.ty) of ∙ set_members s) i ++ (fold-last waiting_in [] below front ∙ sym pending) i }

pub field_passed : (ty : NameValue) (n : Node Field) (s : Selection) (old new : WalkState Place) → s ≡ Field' n
    → new ≡ with_more (if old.nested then own_members (typed_set_tree (content n).selection_set) else []) old
    → HasPassed (name_tree ty, typed_selection_tree s) old new
field_passed ty n s old new is went =
    subst (λ t. HasPassed (name_tree ty, t) old new) (sym (ap typed_selection_tree is ∙ typed_tree_field n)) (has_passed _ old new went)

pub inline_passed : (ty : NameValue) (n : Node InlineFragment) (f : InlineFragment) (s : Selection) (old new : WalkState Place) → s ≡ InlineFragment' n → f ≡ content n
    → new ≡ with_more (own_members (typed_set_tree f.selection_set)) old
    → HasPassed (name_tree ty, typed_selection_tree s) old new
inline_passed ty n f s old new is of went =
    subst (λ t. HasPassed (name_tree ty, t) old new) (sym (ap typed_selection_tree is ∙ typed_tree_inline n)) (has_passed _ old new (went ∙ ap (λ (g : InlineFragment). with_more (own_members (typed_set_tree g.selection_set)) old) of))

-- a name, and the selections of what is under it
abbrev pub named_set : NameValue × Node Fragment → NamedSet Place
named_set e = (e.0.text, fragment_set e.1)

pub place_named : (es : List (NameValue × Node Fragment)) (n : List ℕ) → position (bytes_eq n) (map (λ (f : NamedSet Place). f.0) (map named_set es)) ≡ position (λ (k : NameValue). bytes_eq n k.text) (map (λ (e : NameValue × Node Fragment). e.0) es)
place_named es n =
    position-map (λ (f : NamedSet Place). f.0) (bytes_eq n) (map named_set es)
    ∙ position-map named_set (λ f. bytes_eq n f.0) es
    ∙ sym (position-map (λ (e : NameValue × Node Fragment). e.0) (λ k. bytes_eq n k.text) es)

pub noted_as : (w : WalkState Place) (ks ls : List ℕ) → ks ≡ ls → record w { noted = ks } ≡ record w { noted = ls }
noted_as w ks ls is = ap (λ ns. record w { noted = ns }) is

pub noted_some : (es : List (NameValue × Node Fragment)) (n : List ℕ) (old new : List ℕ) (place : ℕ) → Some place ≡ position (λ (k : NameValue). bytes_eq n k.text) (map (λ (e : NameValue × Node Fragment). e.0) es)
    → new ≡ insert_key nat_eq old place → new ≡ note (map named_set es) old n
noted_some es n old new place at is = is ∙ ap (λ o. option_map_or (insert_key nat_eq old) o old) (at ∙ sym (place_named es n))

pub noted_none : (es : List (NameValue × Node Fragment)) (n : List ℕ) (old : List ℕ) → None ≡ position (λ (k : NameValue). bytes_eq n k.text) (map (λ (e : NameValue × Node Fragment). e.0) es)
    → old ≡ note (map named_set es) old n
noted_none es n old at = ap (λ o. option_map_or (insert_key nat_eq old) o old) (at ∙ sym (place_named es n))

nil_right : {A : Type 0} (xs ys : List A) → xs ++ ys ≡ [] → ys ≡ []
nil_right [] ys is = is
nil_right (x ∷ xs) ys is = absurd (let none : suc (length (xs ++ ys)) ≡ 0 = ap length is in omega (none, arith))

within_all : (es : List (NameValue × Node Fragment)) (entered count : ℕ) → entered < count → count ≡ length es → entered < length (map named_set es)
within_all es entered count within is = subst (λ n. entered < n) (is ∙ sym (length-map named_set es)) within

abbrev members_if : Option (NamedSet Place) → List (Member Place)
members_if o = option_map_or (λ f. own_members f.1) o []

module _ (old : WalkState Place) (es : List (NameValue × Node Fragment)) (front below : List (Member Place)) (place count : ℕ)
    (is : old.fragments ≡ map named_set es) (pending : old.pending ≡ front ++ below) (none : old.pending ≡ [])
    (within : old.entered < count) (all : count ≡ length es) (noted : Some place ≡ slice_get old.noted old.entered) where
  in_reach : old.entered < length old.fragments
  in_reach = subst (λ (fs : List (NamedSet Place)). old.entered < length fs) (sym is) (within_all es old.entered count within all)

  at_place : (o : Option (NameValue × Node Fragment)) → o ≡ slice_get es place → own_at old.fragments place ≡ members_if (option_map named_set o)
  at_place o at = ap (λ (fs : List (NamedSet Place)). own_at fs place) is ∙ ap members_if (slice_get-map named_set es place ∙ ap (option_map named_set) (sym at))

  pub fragment_entered : (k : NameValue) (fragment : Node Fragment) (set : SelectionSet) (members : List Selection) → Some (k, fragment) ≡ slice_get es place → set ≡ (content {A = Fragment} fragment).selection_set → members ≡ set.selections.items
      → HasEntered old (record old { pending = members_on set.ty members ++ below; entered = old.entered + 1 })
  fragment_entered k fragment set members at is_set of =
      let nothing : below ≡ [] = nil_right front below (sym pending ∙ none) in
      let now : members_on set.ty members ++ below ≡ own_at old.fragments place =
      ap (λ l. members_on set.ty members ++ l) nothing ∙ append-nil (members_on set.ty members)
      ∙ ap (members_on set.ty) of ∙ set_members set ∙ ap (λ (t : SelectionSet). own_members (typed_set_tree t)) is_set
      ∙ sym (at_place (Some (k, fragment)) at) in
      has_entered old _ place none in_reach (sym noted) (ap (λ ps. record old { pending = ps; entered = old.entered + 1 }) now)

  pub no_fragment : None ≡ slice_get es place → HasEntered old (record old { entered = old.entered + 1 })
  no_fragment at =
      has_entered old _ place none in_reach (sym noted) (ap (λ ps. record old { pending = ps; entered = old.entered + 1 }) (none ∙ sym (at_place None at)))

-- a walk at the start of a set
pub starts : (nested : Bool) (fragments : List (NamedSet Place)) (s : SelectionSet) (members : List Selection) (below : List (Member Place)) (noted : List ℕ) → members ≡ s.selections.items → below ≡ [] → noted ≡ []
    → record { nested = nested; fragments = fragments; pending = members_on s.ty members ++ below; noted = noted; entered = 0 } ≡ at_start nested fragments (typed_set_tree s)
starts nested fragments s members below noted of nothing none =
    ap (λ ps. record { nested = nested; fragments = fragments; pending = ps; noted = noted; entered = 0 })
    (ap (λ l. members_on s.ty members ++ l) nothing ∙ append-nil (members_on s.ty members) ∙ ap (members_on s.ty) of ∙ set_members s)
    ∙ ap (λ ns. record { nested = nested; fragments = fragments; pending = own_members (typed_set_tree s); noted = ns; entered = 0 }) none
