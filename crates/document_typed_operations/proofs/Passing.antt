-- What is left of a walk when it passes a selection, and when it enters a fragment.
use Rattle.std.proofs.Common.{◌≡◌, ◌++◌, ◌+◌, ◌-◌, ◌<◌, ◌≤◌, ℕ, zero, suc, Bool, true, false, List, [], ◌∷◌, map, length, refl, ap, sym, ◌∙◌, subst, arith}
use Rattle.std.specs.Prelude.{Option, Some, None, fold, slice_get, if◌then◌else◌}
use Rattle.std.specs.List.{flat_map}
use Rattle.std.specs.Option.{option_map_or}
use Rattle.std.proofs.lemmas.Grind.{flat_map-append}
use Rattle.graphql_names.specs.Placed.{Text}
use Rattle.document_typed_selections.specs.TypedTree.{TypedSelection, TypedField, TypedSpread, TypedInline, TypedSet, typed_set, TypedSelections, no_typed, typed_then, typed_selections_list}
use Rattle.document_typed_operations.specs.Reached.{Member, members_of, members_in, members_along, selections_of, selections_in, selections_along, spread_names}
use Rattle.document_typed_operations.specs.Left.{WalkState, note, note_all, selections_at, members_at, left_in_fragments, members_from, bare_selections, own_members, pending_members, left_members, with_next}
use Rattle.document_typed_operations.specs.WalkView.{HasPassed, HasEntered}

pub map-append : {A B : Type 0} (f : A → B) (xs ys : List A) → map f (xs ++ ys) ≡ map f xs ++ map f ys
map-append f [] ys = refl
map-append f (x ∷ xs) ys = ap (λ l. f x ∷ l) (map-append f xs ys)

module _ {P : Type 0} where
  -- the members that a selection itself contains, if the walk enters it
  abbrev pub inner_members : Bool → TypedSelection P → List (Member P)
  inner_members nested (TypedField p d h s) = if nested then own_members s else []
  inner_members nested (TypedSpread p n ds) = []
  inner_members nested (TypedInline p c ds s) = own_members s

  members_along-list : (nested : Bool) (ty : Text P) (ss : TypedSelections P) → members_along nested ty ss ≡ flat_map (members_from nested) (map (λ s. (ty, s)) (typed_selections_list ss))
  members_along-list nested ty no_typed = refl
  members_along-list nested ty (typed_then s ss) = ap (λ l. members_of nested ty s ++ l) (members_along-list nested ty ss)

  pub members_in-list : (nested : Bool) (s : TypedSet P) → members_in nested s ≡ flat_map (members_from nested) (own_members s)
  members_in-list nested (typed_set ty ss) = members_along-list nested ty ss

  -- a selection, then the members that it contains
  members_of-inner : (nested : Bool) (ty : Text P) (s : TypedSelection P) → members_of nested ty s ≡ (ty, s) ∷ flat_map (members_from nested) (inner_members nested s)
  members_of-inner true ty (TypedField p d h s) = ap (λ l. (ty, TypedField p d h s) ∷ l) (members_in-list true s)
  members_of-inner false ty (TypedField p d h s) = refl
  members_of-inner nested ty (TypedSpread p n ds) = refl
  members_of-inner nested ty (TypedInline p c ds s) = ap (λ l. (ty, TypedInline p c ds s) ∷ l) (members_in-list nested s)

  -- the selections without their types
  mutual
    bare_of : (nested : Bool) (ty : Text P) (s : TypedSelection P) → bare_selections (members_of nested ty s) ≡ selections_of nested s
    bare_of true ty (TypedField p d h s) = ap (λ l. TypedField p d h s ∷ l) (bare_in true s)
    bare_of false ty (TypedField p d h s) = refl
    bare_of nested ty (TypedSpread p n ds) = refl
    bare_of nested ty (TypedInline p c ds s) = ap (λ l. TypedInline p c ds s ∷ l) (bare_in nested s)

    pub bare_in : (nested : Bool) (s : TypedSet P) → bare_selections (members_in nested s) ≡ selections_in nested s
    bare_in nested (typed_set ty ss) = bare_along nested ty ss

    bare_along : (nested : Bool) (ty : Text P) (ss : TypedSelections P) → bare_selections (members_along nested ty ss) ≡ selections_along nested ss
    bare_along nested ty no_typed = refl
    bare_along nested ty (typed_then s ss) = map-append (λ (e : Member P). e.1) (members_of nested ty s) (members_along nested ty ss) ∙ (λ i. bare_of nested ty s i ++ bare_along nested ty ss i)

  -- the walk once it has passed the selection
  abbrev pub after : TypedSelection P → WalkState P → WalkState P
  after s w = record w {
    pending = inner_members w.nested s ++ w.pending;
    noted = fold (note w.fragments) w.noted (spread_names s);
  }

  -- what is left after some selections were passed
  abbrev left_after : WalkState P → List (TypedSelection P) → List (Member P)
  left_after w passed = left_in_fragments w.nested w.fragments (length w.fragments - w.entered) (note_all w.fragments w.noted passed) w.entered

  names_noted : (w : WalkState P) (s : TypedSelection P) (passed : List (TypedSelection P)) → note_all w.fragments w.noted (s ∷ passed) ≡ note_all w.fragments (fold (note w.fragments) w.noted (spread_names s)) passed
  names_noted w (TypedField p d h s) passed = refl
  names_noted w (TypedSpread p n ds) passed = refl
  names_noted w (TypedInline p c ds s) passed = refl

  pub passed : (e : Member P) (w : WalkState P) → left_members (with_next e w) ≡ e ∷ left_members (after e.1 w)
  passed (ty, s) w =
      let inside : pending_members (with_next (ty, s) w) ≡ (ty, s) ∷ pending_members (after s w) =
      ap (λ l. l ++ pending_members w) (members_of-inner w.nested ty s)
      ∙ ap (λ l. (ty, s) ∷ l) (sym (flat_map-append (members_from w.nested) (inner_members w.nested s) w.pending)) in
      ap (λ l. l ++ left_after w (bare_selections l)) inside
      ∙ ap (λ ns. (ty, s) ∷ (pending_members (after s w) ++ left_in_fragments w.nested w.fragments (length w.fragments - w.entered) ns w.entered)) (names_noted w s (bare_selections (pending_members (after s w))))

  -- a walk that has just passed the selection
  pub has_passed : (e : Member P) (old new : WalkState P) → new ≡ after e.1 old → HasPassed e old new
  has_passed e old new is = subst (λ w. HasPassed e old w) (sym is) (record {
    passed = passed e old;
    fragments = refl;
    entered = refl;
  })

  -- the members of the fragment at a place itself
  abbrev pub own_at : List (List ℕ × TypedSet P) → ℕ → List (Member P)
  own_at fragments place = option_map_or (λ f. own_members f.1) (slice_get fragments place) []

  in_members : (nested : Bool) (f : Option (List ℕ × TypedSet P)) → option_map_or (λ g. members_in nested g.1) f [] ≡ flat_map (members_from nested) (option_map_or (λ g. own_members g.1) f [])
  in_members nested None = refl
  in_members nested (Some f) = members_in-list nested f.1

  bare_at : (nested : Bool) (f : Option (List ℕ × TypedSet P)) → bare_selections (option_map_or (λ g. members_in nested g.1) f []) ≡ option_map_or (λ g. selections_in nested g.1) f []
  bare_at nested None = refl
  bare_at nested (Some f) = bare_in nested f.1

  -- the walk once it has entered the fragment at that place
  abbrev pub inside : ℕ → WalkState P → WalkState P
  inside place w = record w { pending = own_at w.fragments place; entered = w.entered + 1 }

  none_after : (nested : Bool) (fragments : List (List ℕ × TypedSet P)) (room : ℕ) (noted : List ℕ) (entered : ℕ) → slice_get noted entered ≡ None → left_in_fragments nested fragments room noted entered ≡ []
  none_after nested fragments zero noted entered is = refl
  none_after nested fragments (suc room) noted entered is = ap (λ o. option_map_or (λ place. members_at nested fragments place ++ left_in_fragments nested fragments room (note_all fragments noted (selections_at nested fragments place)) (entered + 1)) o []) is

  -- nothing is left where no fragment is noted that is not entered, or all are entered
  pub none_noted : (w : WalkState P) → w.pending ≡ [] → slice_get w.noted w.entered ≡ None → left_members w ≡ []
  none_noted w none is =
      ap (λ ps. flat_map (members_from w.nested) ps ++ left_after w (bare_selections (flat_map (members_from w.nested) ps))) none
      ∙ none_after w.nested w.fragments (length w.fragments - w.entered) w.noted w.entered is

  pub all_entered : (w : WalkState P) → w.pending ≡ [] → length w.fragments ≤ w.entered → left_members w ≡ []
  all_entered w none is =
      ap (λ ps. flat_map (members_from w.nested) ps ++ left_after w (bare_selections (flat_map (members_from w.nested) ps))) none
      ∙ (let full : length w.fragments - w.entered ≡ 0 = omega (is, arith) in ap (λ room. left_in_fragments w.nested w.fragments room w.noted w.entered) full)

  after_one : (w : WalkState P) (place room : ℕ) → slice_get w.noted w.entered ≡ Some place → length w.fragments - w.entered ≡ suc room
      → left_in_fragments w.nested w.fragments (length w.fragments - w.entered) w.noted w.entered
      ≡ members_at w.nested w.fragments place ++ left_in_fragments w.nested w.fragments room (note_all w.fragments w.noted (selections_at w.nested w.fragments place)) (w.entered + 1)
  after_one w place room noted left =
      ap (λ r. left_in_fragments w.nested w.fragments r w.noted w.entered) left
      ∙ ap (λ o. option_map_or (λ p. members_at w.nested w.fragments p ++ left_in_fragments w.nested w.fragments room (note_all w.fragments w.noted (selections_at w.nested w.fragments p)) (w.entered + 1)) o []) noted

  pub entered : (w : WalkState P) (place : ℕ) → w.pending ≡ [] → w.entered < length w.fragments → slice_get w.noted w.entered ≡ Some place → left_members (inside place w) ≡ left_members w
  entered w place none within noted =
      let room : ℕ = length w.fragments - (w.entered + 1) in
      sym (
      ap (λ ps. flat_map (members_from w.nested) ps ++ left_after w (bare_selections (flat_map (members_from w.nested) ps))) none
      ∙ after_one w place room noted (omega (within, arith))
      ∙ ap (λ l. members_at w.nested w.fragments place ++ left_in_fragments w.nested w.fragments room (note_all w.fragments w.noted l) (w.entered + 1)) (sym (bare_at w.nested (slice_get w.fragments place)))
      ∙ ap (λ l. l ++ left_in_fragments w.nested w.fragments room (note_all w.fragments w.noted (bare_selections l)) (w.entered + 1)) (in_members w.nested (slice_get w.fragments place)))

  pub has_entered : (old new : WalkState P) (place : ℕ) → old.pending ≡ [] → old.entered < length old.fragments → slice_get old.noted old.entered ≡ Some place → new ≡ inside place old → HasEntered old new
  has_entered old new place none within noted is = subst (λ w. HasEntered old w) (sym is) (record {
    left = entered old place none within noted;
    fewer = omega (within, arith);
  })
