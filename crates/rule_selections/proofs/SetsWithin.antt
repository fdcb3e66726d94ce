-- The sets within a set, and what is left of them, from the last to the first.
use Rattle.std.proofs.Common.{◌≡◌, ◌∙◌, ◌++◌, ◌<◌, ◌≤◌, ◌+◌, ℕ, true, false, List, [], ◌∷◌, map, take, drop, suc, length, get_or, refl, ap, sym, subst, append-nil, append_assoc, arith, true≢false, inl}
use Rattle.std.specs.Prelude.{Option, Some, None, MatchOption, Result, Ok, Err, MatchResult, IfOk, flat_map, is_some, option_to_list}
use Rattle.std.specs.Option.{option_map, option_copied}
use Rattle.std.specs.Borrow.{Bor}
use Rattle.std.proofs.Math.Seq.{drop-cons}
use Rattle.std.proofs.lemmas.Grind.{flat_map-append}
use Rattle.std.proofs.lemmas.List.{map-append, nil_from_length, take_all, drop_all, drop_more}
use Rattle.std.proofs.lemmas.List.Sums.{fold-append}
use Rattle.graphql_names.specs.NameValue.{NameValue}
use Rattle.graphql_names.specs.Placed.{Place, name_tree}
use Rattle.graphql_names.specs.Node.{content}
use Rattle.graphql_names.specs.declared.node.Node.{Node}
use Rattle.document_typed_selections.specs.TypedTree.{TypedSelection, TypedField, TypedSpread, TypedInline, TypedSet, typed_set, TypedSelections, no_typed, typed_then, typed_selections, typed_selection_tree, typed_set_tree}
use Rattle.document_typed_selections.specs.TypedParts.{as_typed_spread, typed_spread_node, set_and}
use Rattle.document_typed_selections.specs.declared.selection.Selection.{Selection}
use Rattle.document_typed_selections.specs.declared.selection.Selection.TheViews.{Field as Field', InlineFragment as InlineFragment'}
use Rattle.document_typed_selections.specs.declared.selection.Field.{Field}
use Rattle.document_typed_selections.specs.declared.selection.FragmentSpread.{FragmentSpread}
use Rattle.document_typed_selections.specs.declared.selection.InlineFragment.{InlineFragment}
use Rattle.document_typed_selections.specs.declared.selection.SelectionSet.{SelectionSet}
use Rattle.document_typed_selections.proofs.TypedTrees.{typed_set_tree_out, typed_tree_field, typed_tree_inline}
use Rattle.spec_document.specs.MeantTree.{meant, meant_of_set}
use Rattle.rule_definitions.proofs.Listing.{mapped_more}
use Rattle.rule_selections.specs.Settled.{Terms, UsesInSet, Thins, LeavesBelow, LeavesOf, LeavesOfTyped}
use Rattle.rule_selections.specs.Telling.{KeepsSelection, SettlesSet}
use Rattle.rule_selections.specs.Within.{own_sets, sets_along, sets_below, within, within_one, within_all, typed_sets, last_first, waiting_sets, thin_sets, AreLeft, Takes, TakesBelow, TakesKept, TakesThinned, AreThinned}
use Rattle.rule_selections.proofs.Leaving.{thins_same, leaves_same}
use Rattle.rule_selections.proofs.Thinning.{IsLeft, left_none, left_more, left_all}

-- ---- the last one first

pub pushed : {X : Type 0} (tree : X → TypedSet Place) (old new : List X) (x : X) → new ≡ old ++ x ∷ [] → last_first tree new ≡ tree x ∷ last_first tree old
pushed tree old new x is = ap (last_first tree) is ∙ fold-append (λ vs y. tree y ∷ vs) [] old (x ∷ [])

-- ---- the set of a selection

pub field_pushed : (n : Node Field) (s : Selection) (v : SelectionSet) (new old : List (TypedSet Place)) → s ≡ Field' n → v ≡ (content {A = Field} n).selection_set → new ≡ typed_set_tree v ∷ old → new ≡ own_sets (typed_selection_tree s) ++ old
field_pushed n s v new old is own push = push ∙ ap (λ u. typed_set_tree u ∷ old) own ∙ ap (λ l. l ++ old) (sym (ap own_sets (ap typed_selection_tree is ∙ typed_tree_field n)))

pub inline_pushed : (n : Node InlineFragment) (s : Selection) (v : SelectionSet) (new old : List (TypedSet Place)) → s ≡ InlineFragment' n → v ≡ (content {A = InlineFragment} n).selection_set → new ≡ typed_set_tree v ∷ old → new ≡ own_sets (typed_selection_tree s) ++ old
inline_pushed n s v new old is own push = push ∙ ap (λ u. typed_set_tree u ∷ old) own ∙ ap (λ l. l ++ old) (sym (ap own_sets (ap typed_selection_tree is ∙ typed_tree_inline n)))

-- ---- the sets of a set's selections

abbrev pub sets_of : List Selection → List (TypedSet Place)
sets_of ss = flat_map (λ s. own_sets (typed_selection_tree s)) ss

sets_are : (ss : List Selection) → sets_of ss ≡ sets_along (typed_selections typed_selection_tree ss)
sets_are [] = refl
sets_are (s ∷ ss) = ap (λ l. own_sets (typed_selection_tree s) ++ l) (sets_are ss)

pub below_is : (v : SelectionSet) → sets_of v.selections.items ≡ sets_below (typed_set_tree v)
below_is v = sets_are v.selections.items ∙ sym (ap sets_below (typed_set_tree_out v))

-- from the next one on
pub of_rest : (ss : List Selection) (k : ℕ) (x : Selection) → k < length ss → x ≡ get_or ss k x → sets_of (drop k ss) ≡ own_sets (typed_selection_tree x) ++ sets_of (drop (suc k) ss)
of_rest ss k x h at = ap sets_of (drop-cons ss k x h ∙ ap (λ y. y ∷ drop (suc k) ss) (sym at))

pub one_before : (ss : List Selection) (k j : ℕ) (x : Selection) (now old : List (TypedSet Place)) → k < length ss → x ≡ get_or ss k x → j ≡ suc k → now ≡ sets_of (drop j ss) ++ old
    → own_sets (typed_selection_tree x) ++ now ≡ sets_of (drop k ss) ++ old
one_before ss k j x now old h at e is =
    let here = own_sets (typed_selection_tree x) in
    ap (λ l. here ++ l) (is ∙ ap (λ i. sets_of (drop i ss) ++ old) e)
    ∙ sym (append_assoc here (sets_of (drop (suc k) ss)) old)
    ∙ ap (λ l. l ++ old) (sym (of_rest ss k x h at))

-- ---- all sets within a set

one_within : (x : TypedSelection Place) → within_one x ≡ flat_map within (own_sets x)
one_within (TypedField p d h v) = sym (append-nil (within v))
one_within (TypedSpread p n ds) = refl
one_within (TypedInline p c ds v) = sym (append-nil (within v))

all_within : (ss : TypedSelections Place) → within_all ss ≡ flat_map within (sets_along ss)
all_within no_typed = refl
all_within (typed_then x xs) = (λ i. one_within x i ++ all_within xs i) ∙ sym (flat_map-append within (own_sets x) (sets_along xs))

pub within_is : (v : TypedSet Place) → within v ≡ v ∷ flat_map within (sets_below v)
within_is (typed_set t ss) = ap (λ l. typed_set t ss ∷ l) (all_within ss)

-- the set that waits last is passed
rest_is : (v : TypedSet Place) (rest : List (TypedSet Place)) → flat_map within (v ∷ rest) ≡ v ∷ flat_map within (sets_below v ++ rest)
rest_is v rest = ap (λ l. l ++ flat_map within rest) (within_is v) ∙ ap (λ l. v ∷ l) (sym (flat_map-append within (sets_below v) rest))

pub step_on : (waiting rest next sets more : List (Bor SelectionSet)) (x : Bor SelectionSet) → waiting ≡ rest ++ x ∷ [] → waiting_sets next ≡ sets_below (typed_set_tree x.now) ++ waiting_sets rest → more ≡ sets ++ x ∷ []
    → (typed_sets more ++ flat_map within (waiting_sets next) ≡ typed_sets sets ++ flat_map within (waiting_sets waiting)) × (length (flat_map within (waiting_sets next)) < length (flat_map within (waiting_sets waiting)))
step_on waiting rest next sets more x was went push =
    let v = typed_set_tree x.now in
    let after : flat_map within (waiting_sets waiting) ≡ v ∷ flat_map within (waiting_sets next) =
    ap (flat_map within) (pushed (λ (v : Bor SelectionSet). typed_set_tree v.now) rest waiting x was)
    ∙ rest_is v (waiting_sets rest)
    ∙ ap (λ l. v ∷ flat_map within l) (sym went) in (
      ap (λ l. typed_sets l ++ flat_map within (waiting_sets next)) push
          ∙ ap (λ l. l ++ flat_map within (waiting_sets next)) (map-append (λ (v : Bor SelectionSet). typed_set_tree v.now) sets (x ∷ []))
          ∙ append_assoc (typed_sets sets) (v ∷ []) (flat_map within (waiting_sets next))
          ∙ ap (λ l. typed_sets sets ++ l) (sym after),
      omega (arith, ap length after),
    )

-- where one set waits, it and those within it are found
pub found_within : (v : TypedSet Place) (found none : List (Bor SelectionSet)) (waiting : List (TypedSet Place)) (sets : List (TypedSet Place)) → found ≡ [] → none ≡ [] → waiting ≡ v ∷ waiting_sets none → sets ≡ typed_sets found ++ flat_map within waiting
    → sets ≡ within v
found_within v found none waiting sets empty nothing wait is =
    is ∙ ap (λ l. typed_sets l ++ flat_map within waiting) empty ∙ ap (flat_map within) (wait ∙ ap (λ l. v ∷ waiting_sets l) nothing) ∙ append-nil (within v)

-- ---- what is left of the set of a selection

owns_none : (x : TypedSelection Place) → is_some (as_typed_spread x) ≡ true → own_sets x ≡ []
owns_none (TypedField p d h v) is = absurd (true≢false (sym is))
owns_none (TypedSpread p n ds) is = refl
owns_none (TypedInline p c ds v) is = absurd (true≢false (sym is))

-- a selection is a spread if it is known as one
pub is_spread : (x : TypedSelection Place) (r : Option (Bor (Node FragmentSpread))) → option_map typed_spread_node (option_copied r) ≡ as_typed_spread x → is_some (as_typed_spread x) ≡ is_some r
is_spread x None is = ap is_some (sym is)
is_spread x (Some n) is = ap is_some (sym is)

pub spread_takes : (x : Selection) (old new : List SelectionSet) → is_some (as_typed_spread (typed_selection_tree x)) ≡ true → new ≡ old → TakesBelow x None old new
spread_takes x old new is same s more left = (tt, subst (λ l. AreLeft s more (thin_sets l)) (sym same) (subst (λ l. AreLeft s (l ++ more) (thin_sets old)) (owns_none (typed_selection_tree x) is) left))

module _ (s : Terms) where
  some_taken : (v : TypedSet Place) (old new : List SelectionSet) (w : SelectionSet) → old ≡ new ++ w ∷ [] → Takes s (v ∷ []) old new (LeavesOf s (meant_of_set v) (meant_of_set (typed_set_tree w)))
  some_taken v old new w is more left = let both = subst (AreLeft s (v ∷ more)) (pushed typed_set_tree new old w is) left in (both.0.1, both.1)

  none_taken : (v : TypedSet Place) (old new : List SelectionSet) (Q : Type 0) → length old ≡ 0 → Takes s (v ∷ []) old new Q
  none_taken v old new Q none more left = absurd (subst (AreLeft s (v ∷ more)) (ap thin_sets (nil_from_length old none)) left)

  pub left_popped : (x : TypedSelection Place) (old new : List SelectionSet) (r : Option SelectionSet) (n m : ℕ) → is_some (as_typed_spread x) ≡ false → old ≡ new ++ option_to_list r → length old ≡ n
      → MatchOption r ((n ≡ 0) × (m ≡ 0)) (λ w. m + 1 ≡ n)
      → Takes s (own_sets x) old new (MatchOption r (Unit {0}) (λ left. LeavesBelow s (meant x) (meant_of_set (typed_set_tree left))))
  left_popped (TypedField p d h v) old new None n m is was long cases = none_taken v old new (Unit {0}) (long ∙ cases.0)
  left_popped (TypedField p d h v) old new (Some w) n m is was long cases = some_taken v old new w was
  left_popped (TypedSpread p k ds) old new r n m is was long cases = absurd (true≢false is)
  left_popped (TypedInline p c ds v) old new None n m is was long cases = none_taken v old new (Unit {0}) (long ∙ cases.0)
  left_popped (TypedInline p c ds v) old new (Some w) n m is was long cases = some_taken v old new w was

  -- ---- what stays of a selection

  -- all of it
  pub stays_whole : (ty : NameValue) (x copy : Selection) (below : Option SelectionSet) (old new : List SelectionSet) (kept after : SelectionSet) → TakesBelow x below old new → typed_selection_tree copy ≡ typed_selection_tree x
      → typed_set_tree after ≡ set_and (typed_then (typed_selection_tree copy) no_typed) (typed_set_tree kept) → TakesKept s ty x old new kept after
  stays_whole ty x copy below old new kept after takes same put more left = (
    inl (typed_selection_tree copy, (put, subst (λ (y : TypedSelection Place). Thins s (meant (typed_selection_tree x)) (meant y)) (sym same) (thins_same s (meant (typed_selection_tree x))))),
    (takes s more left).1,
  )

  -- what this comes to, where this is left of its set
  pub stays_by : (ty : NameValue) (x : Selection) (below : Option SelectionSet) (w : SelectionSet) (old new : List SelectionSet) (kept after : SelectionSet) → TakesBelow x below old new → below ≡ Some w
      → (LeavesBelow s (meant (typed_selection_tree x)) (meant_of_set (typed_set_tree w)) → KeepsSelection s ty x kept after) → TakesKept s ty x old new kept after
  stays_by ty x below w old new kept after takes is keeps more left = let both = subst (λ b. TakesBelow x b old new) is takes s more left in (keeps both.0, both.1)

  -- ---- what is left of a set

  -- of the selections so far this is left, and what is left of the sets of the others comes first
  abbrev pub IsTaken : NameValue → List Selection → ℕ → (start thin : List SelectionSet) → SelectionSet → Type 0
  IsTaken t all i start thin kept = (more : List (TypedSet Place)) → AreLeft s (sets_of all ++ more) (thin_sets start)
      → IsLeft s (name_tree t) (map (λ x. meant (typed_selection_tree x)) (take i all)) (typed_set_tree kept) × AreLeft s (sets_of (drop i all) ++ more) (thin_sets thin)

  pub none_yet : (t ty : NameValue) (all : List Selection) (start : List SelectionSet) (kept : SelectionSet) → typed_set_tree kept ≡ typed_set (name_tree ty) no_typed → ty ≡ t → IsTaken t all 0 start start kept
  none_yet t ty all start kept is same more left = (left_none s (name_tree t) (typed_set_tree kept) (is ∙ ap (λ n. typed_set (name_tree n) no_typed) same), left)

  pub next_taken : (t : NameValue) (all : List Selection) (i : ℕ) (x : Selection) (start old new : List SelectionSet) (kept after : SelectionSet) → i < length all → x ≡ get_or all i x
      → TakesKept s t x old new kept after → IsTaken t all i start old kept → IsTaken t all (i + 1) start new after
  next_taken t all i x start old new kept after h at takes so_far more left =
      let so = so_far more left in
      let rest = sets_of (drop (i + 1) all) in
      let here : sets_of (drop i all) ++ more ≡ own_sets (typed_selection_tree x) ++ (rest ++ more) =
      ap (λ l. sets_of l ++ more) (drop_more all i x h ∙ ap (λ y. y ∷ drop (i + 1) all) (sym at)) ∙ append_assoc (own_sets (typed_selection_tree x)) rest more in
      let both = takes (rest ++ more) (subst (λ l. AreLeft s l (thin_sets old)) here so.1) in (
        left_more s (name_tree t) (map (λ x. meant (typed_selection_tree x)) (take i all)) (map (λ x. meant (typed_selection_tree x)) (take (i + 1) all)) (typed_selection_tree x)
            (typed_set_tree kept) (typed_set_tree after) (mapped_more (λ x. meant (typed_selection_tree x)) all i x h at) both.0 so.0,
        both.1,
      )

  pub all_taken : (set : SelectionSet) (all : List Selection) (i : ℕ) (start thin : List SelectionSet) (kept : SelectionSet) → length all ≤ i → all ≡ set.selections.items → IsTaken set.ty all i start thin kept → TakesThinned s set kept start thin
  all_taken set all i start thin kept h is taken more left =
      let so = taken more (subst (λ l. AreLeft s (l ++ more) (thin_sets start)) (sym (below_is set) ∙ ap sets_of (sym is)) left) in (
        left_all s typed_selection_tree (name_tree set.ty) set.selections.items (typed_set_tree set) (typed_set_tree kept) (typed_set_tree_out set)
            (subst (λ l. IsLeft s (name_tree set.ty) (map (λ x. meant (typed_selection_tree x)) l) (typed_set_tree kept)) (take_all i all h ∙ is) so.0),
        subst (λ l. AreLeft s (sets_of l ++ more) (thin_sets thin)) (drop_all i all h) so.1,
      )

  -- ---- what is left of all sets within some

  -- no set is without itself
  none_within : (roots : List (TypedSet Place)) (thin : List (TypedSet Place)) → flat_map within roots ≡ [] → AreLeft s roots thin
  none_within [] thin is = tt
  none_within (typed_set t ss ∷ roots) thin is = absurd (omega (arith, ap length is))

  -- these were thinned, the last ones of all
  abbrev pub LastThinned : (all left : List (Bor SelectionSet)) → List SelectionSet → Type 0
  LastThinned all left thin = (last : List (Bor SelectionSet)) × ((all ≡ left ++ last) × AreThinned s last thin)

  pub none_thinned : (sets : List (Bor SelectionSet)) (thin : List SelectionSet) → LastThinned sets sets thin
  none_thinned sets thin = ([], (sym (append-nil sets), λ roots is. none_within roots (thin_sets thin) is))

  pub all_thinned : (all left : List (Bor SelectionSet)) (thin : List SelectionSet) → length left ≡ 0 → LastThinned all left thin → AreThinned s all thin
  all_thinned all left thin none (last, (is, thinned)) = subst (λ l. AreThinned s l thin) (sym (is ∙ ap (λ l. l ++ last) (nil_from_length left none))) thinned

  -- one more, before those within it
  thinned_before : (v : TypedSet Place) (rest : List (TypedSet Place)) (old new : List (TypedSet Place)) (w : TypedSet Place) → ((roots : List (TypedSet Place)) → flat_map within roots ≡ rest → AreLeft s roots old)
      → ((more : List (TypedSet Place)) → AreLeft s (sets_below v ++ more) old → LeavesOfTyped s v w × AreLeft s more new) → (roots : List (TypedSet Place)) → flat_map within roots ≡ v ∷ rest → AreLeft s roots (w ∷ new)
  thinned_before v rest old new w so_far takes [] is = tt
  thinned_before v rest old new w so_far takes (u ∷ roots) is =
      let both : u ∷ flat_map within (sets_below u ++ roots) ≡ v ∷ rest = sym (rest_is u roots) ∙ is in
      let first : u ≡ v = ap (λ l. get_or l 0 v) both in
      let others : flat_map within (sets_below v ++ roots) ≡ rest = ap (λ (x : TypedSet Place). flat_map within (sets_below x ++ roots)) (sym first) ∙ ap (drop 1) both in
      let taken = takes roots (so_far (sets_below v ++ roots) others) in
      (subst (λ (x : TypedSet Place). LeavesOfTyped s x w) (sym first) taken.0, taken.1)

  one_thinned : (sets : List (Bor SelectionSet)) (x : Bor SelectionSet) (old between new : List SelectionSet) (w : SelectionSet) → TakesThinned s x.now w old between → new ≡ between ++ w ∷ [] → AreThinned s sets old
      → AreThinned s (x ∷ sets) new
  one_thinned sets x old between new w takes push so_far roots is =
      subst (AreLeft s roots) (sym (pushed typed_set_tree between new w push)) (thinned_before (typed_set_tree x.now) (typed_sets sets) (thin_sets old) (thin_sets between) (typed_set_tree w) so_far takes roots is)

  pub next_thinned : (all left rest : List (Bor SelectionSet)) (x : Bor SelectionSet) (old between new : List SelectionSet) (w : SelectionSet) → left ≡ rest ++ x ∷ [] → TakesThinned s x.now w old between → new ≡ between ++ w ∷ []
      → LastThinned all left old → LastThinned all rest new
  next_thinned all left rest x old between new w was takes push (last, (is, thinned)) =
      (x ∷ last, (is ∙ ap (λ l. l ++ last) was ∙ append_assoc rest (x ∷ []) last, one_thinned last x old between new w takes push thinned))

  -- the whole
  pub whole_thinned : (v : TypedSet Place) (sets : List (Bor SelectionSet)) (thin rest : List SelectionSet) (w : SelectionSet) → typed_sets sets ≡ within v → AreThinned s sets thin → thin ≡ rest ++ w ∷ [] → LeavesOfTyped s v (typed_set_tree w)
  whole_thinned v sets thin rest w all thinned is =
      (subst (AreLeft s (v ∷ [])) (pushed typed_set_tree rest thin w is) (thinned (v ∷ []) (append-nil (within v) ∙ sym all))).0

  -- all of it
  same_left : (v w : TypedSet Place) → w ≡ v → LeavesOfTyped s v w
  same_left v w is = subst (λ (x : TypedSet Place). LeavesOfTyped s v x) (sym is) (refl, leaves_same s (meant_of_set v))

  -- of a copy
  pub copy_left : {E : Type 0} (v : TypedSet Place) (r : Result SelectionSet E) (Q : E → Type 0) → MatchResult r (λ copy. typed_set_tree copy ≡ v) Q → IfOk r (λ copy. LeavesOfTyped s v (typed_set_tree copy))
  copy_left v (Ok copy) Q same = same_left v (typed_set_tree copy) same
  copy_left v (Err e) Q same = tt

  pub copy_settles : {E : Type 0} (v : SelectionSet) (r : Result SelectionSet E) (Q : E → Type 0) → MatchResult r (λ copy. typed_set_tree copy ≡ typed_set_tree v) Q → IfOk r (λ copy. SettlesSet s v copy)
  copy_settles v (Ok copy) Q same = (same_left (typed_set_tree v) (typed_set_tree copy) same, λ n u. subst (λ (x : TypedSet Place). UsesInSet n (meant_of_set x)) (sym same) u)
  copy_settles v (Err e) Q same = tt
