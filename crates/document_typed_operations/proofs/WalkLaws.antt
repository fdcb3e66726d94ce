-- What follows for callers: whose fragments a walk goes over, that a walk that is over stays so, and what a loop over a walk has come to.
use Rattle.std.proofs.Common.{◌≡◌, ◌<◌, ◌↔◌, ◌⊎◌, inl, inr, arith, length, suc, if◌then◌else◌, List, [], ◌∷◌, ◌++◌, map, Bool, true, false, Option, None, Some, Result, Ok, Contains, refl, ap, sym, subst, append-nil, append_assoc, ◌∙◌, true≢false}
use Rattle.std.specs.List.{flat_map}
use Rattle.std.proofs.lemmas.List.Elements.{Contains-append_left, Contains-append_right, Contains-append_cases}
use Rattle.std.specs.Borrow.{Bor}
use Rattle.std.specs.declared.alloc.AllocError.{AllocError}
use Rattle.graphql_names.specs.Placed.{Place}
use Rattle.graphql_names.specs.declared.node.Node.{Node}
use Rattle.document_typed_selections.specs.TypedTree.{TypedSelection, TypedField, TypedSpread, TypedInline}
use Rattle.document_typed_selections.specs.declared.selection.Field.{Field}
use Rattle.document_typed_operations.specs.TypedDocument.{typed_document_tree}
use Rattle.document_typed_operations.specs.declared.document.ExecutableDocument.{ExecutableDocument}
use Rattle.document_typed_selections.specs.TypedTree.{TypedSet}
use Rattle.document_typed_selections.specs.TypedParts.{typed_field_node, as_typed_field}
use Rattle.document_typed_operations.specs.Reached.{NamedSet, Fragments, Member, document_fragments, fields_of_set, ReachedFragment, IsWalk}
use Rattle.document_typed_operations.specs.Left.{fields_among}
use Rattle.document_typed_operations.specs.WalkView.{fragments_tree}
use Rattle.document_typed_operations.specs.Lending.{Lends, LendsNext, items_at_most}
use Rattle.document_typed_operations.proofs.Finding.{none_is_some, some_is, not_in_nil, Contains-cons, Contains-first}

-- a field occurrence of the start or of a reached fragment
abbrev pub IsReachedField : {P : Type 0} → Bool → Fragments P → TypedSet P → TypedSelection P → Type 0
IsReachedField {P} nested fragments start x = Contains (fields_of_set nested start) x ⊎ ((f : NamedSet P) × (ReachedFragment nested fragments start f × Contains (fields_of_set nested f.1) x))

map-map : {A B C : Type 0} (f : B → C) (g : A → B) (xs : List A) → map f (map g xs) ≡ map (λ x. f (g x)) xs
map-map f g [] = refl
map-map f g (x ∷ xs) = ap (λ l. f (g x) ∷ l) (map-map f g xs)

-- a walk over the fragments of a document goes over those of its tree
pub fragments_tree-document : (d : ExecutableDocument) → document_fragments (typed_document_tree d) ≡ fragments_tree d.fragments
fragments_tree-document d = map-map _ _ d.fragments.entries

-- a walk that is over gives nothing, and stays over
pub gives_nothing : {W : Type 0} (is_over : W → Bool) (left : W → List (TypedSelection Place)) (old new : W) (given : Option (Result (Bor (Node Field)) AllocError))
    → LendsNext is_over left old given new → is_over old ≡ true → (given ≡ None) × (is_over new ≡ true)
gives_nothing is_over left old new None h over = (refl, h.1)
gives_nothing is_over left old new (Some item) h over = absurd (true≢false (sym over ∙ h.0))

-- ---- loops over a walk

module _ {W : Type 0} (is_over : W → Bool) (left : W → List (TypedSelection Place)) where
  -- what was given so far and what is left are together unchanged when the field that was lent is added to those given
  pub given_and_left : (before : List (TypedSelection Place)) (old new : W) (field : Bor (Node Field)) → left old ≡ typed_field_node field.now ∷ left new
      → before ++ left old ≡ (before ++ typed_field_node field.now ∷ []) ++ left new
  given_and_left before old new field lent = ap (λ l. before ++ l) lent ∙ sym (append_assoc before (typed_field_node field.now ∷ []) (left new))

  -- where nothing is left, all was given
  pub all_given : {nested : Bool} {fragments : Fragments Place} {start : TypedSet Place} (begun ended : W) (given : List (TypedSelection Place))
      → IsWalk nested fragments start (left begun) → left begun ≡ given ++ left ended → left ended ≡ [] → IsWalk nested fragments start given
  all_given {nested} {fragments} {start} begun ended given walk together none = subst (IsWalk nested fragments start) (together ∙ ap (λ l. given ++ l) none ∙ append-nil given) walk

-- after something was lent, fewer items are to come
pub fewer_left : {A X W : Type 0} (tree : A → X) (is_over : W → Bool) (left : W → List X) (old new : W) (lent : A) → Lends tree is_over left old (Some (Ok lent)) new
    → items_at_most (is_over new) (left new) < items_at_most (is_over old) (left old)
fewer_left tree is_over left old new lent h =
    subst (λ n. items_at_most (is_over new) (left new) < n)
    (sym (ap (λ b. items_at_most b (left old)) h.0 ∙ ap (λ l. suc (length l)) h.1))
    (by (is_over new))
  where
    by : (b : Bool) → items_at_most b (left new) < suc (suc (length (left new)))
    by true = omega arith
    by false = omega arith

-- a selection that is passed leaves the same fields, or is the first of them
pub no_field : {P : Type 0} (e : Member P) (left : List (Member P)) → None ≡ as_typed_field e.1 → fields_among (e ∷ left) ≡ fields_among left
no_field (ty, TypedField p d h s) left is = none_is_some (TypedField p d h s) is
no_field (ty, TypedSpread p n ds) left is = refl
no_field (ty, TypedInline p c ds s) left is = refl

pub one_field : {P : Type 0} (e : Member P) (left : List (Member P)) (x : TypedSelection P) → Some x ≡ as_typed_field e.1 → fields_among (e ∷ left) ≡ x ∷ fields_among left
one_field (ty, TypedField p d h s) left x is = ap (λ y. y ∷ fields_among left) (sym (some_is x (TypedField p d h s) is))
one_field (ty, TypedSpread p n ds) left x is = none_is_some x (sym is)
one_field (ty, TypedInline p c ds s) left x is = none_is_some x (sym is)

module _ {A B : Type 0} (f : A → List B) where
  pub from_one : (xs : List A) (y : B) → Contains (flat_map f xs) y → (x : A) × (Contains xs x × Contains (f x) y)
  from_one [] y c = absurd (not_in_nil y c)
  from_one (x ∷ xs) y c = elim (Contains-append_cases (f x) (flat_map f xs) y c) [
    | inl a ↦ (x, (Contains-first x xs x refl, a))
    | inr b ↦ let r = from_one xs y b in (r.0, (Contains-append_right (x ∷ []) xs r.0 r.1.0, r.1.1))
  ]

  pub to_all : (xs : List A) (x : A) (y : B) → Contains xs x → Contains (f x) y → Contains (flat_map f xs) y
  to_all [] x y c d = absurd (not_in_nil x c)
  to_all (z ∷ xs) x y c d = elim (Contains-cons z xs x c) [
    | inl e ↦ Contains-append_left (f z) (flat_map f xs) y (subst (λ w. Contains (f w) y) (sym e) d)
    | inr r ↦ Contains-append_right (f z) (flat_map f xs) y (to_all xs x y r d)
  ]

-- a walk lends exactly the fields of its start and of each reached fragment
pub lends_reached : {P : Type 0} (nested : Bool) (fragments : Fragments P) (start : TypedSet P) (given : List (TypedSelection P)) → IsWalk nested fragments start given
    → (x : TypedSelection P) → Contains given x ↔ IsReachedField nested fragments start x
lends_reached {P} nested fragments start given walk x = (there, back)
  where
    there : Contains given x → IsReachedField nested fragments start x
    there c = elim (Contains-append_cases (fields_of_set nested start) (flat_map (λ (f : NamedSet P). fields_of_set nested f.1) walk.order) x (subst (λ l. Contains l x) walk.fields c)) [
      | inl a ↦ inl a
      | inr b ↦ let y = from_one (λ (f : NamedSet P). fields_of_set nested f.1) walk.order x b in inr (y.0, ((walk.reached y.0).0 y.1.0, y.1.1))
    ]

    back : IsReachedField nested fragments start x → Contains given x
    back (inl a) = subst (λ l. Contains l x) (sym walk.fields) (Contains-append_left (fields_of_set nested start) (flat_map (λ (f : NamedSet P). fields_of_set nested f.1) walk.order) x a)
    back (inr (f, (r, c))) = subst (λ l. Contains l x) (sym walk.fields)
        (Contains-append_right (fields_of_set nested start) (flat_map (λ (f : NamedSet P). fields_of_set nested f.1) walk.order) x (to_all (λ (f : NamedSet P). fields_of_set nested f.1) walk.order f x ((walk.reached f).1 r) c))
