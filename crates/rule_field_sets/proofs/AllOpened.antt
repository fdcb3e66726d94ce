-- The sets that are found from one set on: that they come to an end, and where they stand.
use Rattle.std.proofs.Common.{◌≡◌, ◌∙◌, ◌++◌, ◌+◌, ◌<◌, ◌≤◌, ℕ, true, false, List, [], ◌∷◌, map, take, drop, suc, length, get_or, refl, ap, sym, subst, append-nil, append_assoc, length-append, inl, inr, arith, Contains}
use Rattle.std.specs.Prelude.{Option, Some, None, flat_map, slice_get}
use Rattle.std.specs.List.{sum_by}
use Rattle.std.specs.Option.{option_map}
use Rattle.std.specs.Borrow.{Bor}
use Rattle.std.proofs.lemmas.Grind.{flat_map-append}
use Rattle.std.proofs.lemmas.List.{map-append, take-append-le, take_all, length_push, length-map, drop-append-le, drop_more}
use Rattle.std.proofs.lemmas.List.Elements.{Contains-append_cases}
use Rattle.std.proofs.lemmas.List.Sums.{sum_by-append, sum_by-cons}
use Rattle.std.proofs.lemmas.Option.{slice_get_within, slice_get-map, slice_get-get_or, get_or_from_slice_get}
use Rattle.graphql_names.specs.Placed.{Place, Text}
use Rattle.document_typed_selections.specs.TypedTree.{TypedSelection, TypedField, TypedSpread, TypedInline, TypedSet, typed_set, TypedSelections, no_typed, typed_then, typed_set_tree}
use Rattle.document_typed_selections.specs.declared.selection.SelectionSet.{SelectionSet}
use Rattle.document_typed_operations.specs.Reached.{Member, members_in, members_of, members_along, selections_in, spread_names}
use Rattle.document_typed_operations.proofs.Finding.{not_in_nil}
use Rattle.document_typed_operations.proofs.Passing.{bare_in}
use Rattle.rule_document_definitions.proofs.Unplaced.{contains_map}
use Rattle.rule_field_sets.specs.Fields.{fields_of}
use Rattle.rule_reach.specs.Lent.{fields_lent}
use Rattle.rule_field_sets.specs.declared.found.FoundField.{FoundField}
use Rattle.rule_field_sets.specs.declared.found.FoundSet.{FoundSet}
use Rattle.rule_field_sets.specs.declared.found.Finding.{Finding}
use Rattle.rule_field_sets.specs.Found.{set_of, selections_of, texts_of, set_at, sets_at, IsBelow, AreFound}
use Rattle.rule_field_sets.specs.Opened.{OpenState, left_of, typed_sets, below_of, state_of, own_set, place_for, sets_below, placed, all_placed, at_end, with_set, begun, AreOpened}
use Rattle.rule_field_sets.proofs.Members.{only, taken_more, stands_more, stands_mid, stands_push_cases}

-- ---- how many are to be opened

-- a set counts as much as all selections within it, and one
abbrev pub weight : TypedSet Place → ℕ
weight s = suc (length (members_in true s))

abbrev pub weights : List (TypedSet Place) → ℕ
weights sets = sum_by weight sets

own_weight : (s : TypedSet Place) → weights (own_set s) ≤ weight s
own_weight (typed_set ty no_typed) = omega arith
own_weight (typed_set ty (typed_then x xs)) = omega (arith, sum_by-cons weight (typed_set ty (typed_then x xs)) [])

weights_append : (xs ys : List (Member Place)) (n m : ℕ) → weights (flat_map sets_below xs) ≤ n → weights (flat_map sets_below ys) ≤ m → weights (flat_map sets_below (xs ++ ys)) ≤ n + m
weights_append xs ys n m one two = omega (arith, one, two, ap weights (flat_map-append sets_below xs ys), sum_by-append weight (flat_map sets_below xs) (flat_map sets_below ys))

-- the sets of a set's own fields count less than it does
mutual
  within_one : (ty : Text Place) (x : TypedSelection Place) → weights (flat_map sets_below (members_of false ty x)) ≤ length (members_of true ty x)
  within_one ty (TypedField p d h s) = subst (λ l. weights l ≤ weight s) (sym (append-nil (own_set s))) (own_weight s)
  within_one ty (TypedSpread p n ds) = omega arith
  within_one ty (TypedInline p c ds s) = omega (arith, within_set s)

  pub within_set : (s : TypedSet Place) → weights (flat_map sets_below (members_in false s)) ≤ length (members_in true s)
  within_set (typed_set ty ss) = within_all ty ss

  within_all : (ty : Text Place) (ss : TypedSelections Place) → weights (flat_map sets_below (members_along false ty ss)) ≤ length (members_along true ty ss)
  within_all ty no_typed = omega arith
  within_all ty (typed_then x xs) =
      subst (λ n. weights (flat_map sets_below (members_of false ty x ++ members_along false ty xs)) ≤ n)
      (sym (length-append (members_of true ty x) (members_along true ty xs)))
      (weights_append (members_of false ty x) (members_along false ty xs) _ _ (within_one ty x) (within_all ty xs))

-- fewer are left when the next one is opened
fewer_to_open : (sets : List (TypedSet Place)) (k : ℕ) (s : TypedSet Place) → k < length sets → s ≡ get_or sets k s
    → weights (drop (k + 1) (sets ++ flat_map sets_below (members_in false s))) < weights (drop k sets)
fewer_to_open sets k s within at =
    let added = flat_map sets_below (members_in false s) in
    let before : weights (drop k sets) ≡ weight s + weights (drop (k + 1) sets) =
    ap weights (drop_more sets k s within) ∙ sum_by-cons weight (get_or sets k s) (drop (k + 1) sets) ∙ ap (λ t. weight t + weights (drop (k + 1) sets)) (sym at) in
    let after : weights (drop (k + 1) (sets ++ added)) ≡ weights (drop (k + 1) sets) + weights added =
    ap weights (drop-append-le (k + 1) sets added (omega (arith, within))) ∙ sum_by-append weight (drop (k + 1) sets) added in
    omega (arith, before, after, within_set s)

-- ---- one that is opened

-- nothing of it is found at first
pub begins : (w : Finding) (v : FoundSet) → v.fields.items ≡ [] → v.spreads.items ≡ [] → state_of w v ≡ begun (set_at v) w
begins w v fields spreads = λ i. record (begun (set_at v) w) {
  fields = ap (λ l. fields_of (map (λ (f : FoundField). f.selection) l)) fields i;
  below = ap below_of fields i;
  spreads = ap texts_of spreads i;
}

-- what is found of a set alone
pub record IsOpened (s : TypedSet Place) (old : Finding) (new : Finding) (v : FoundSet) : Type 0 where
  pub none_left : left_of new.left.items ≡ []
  pub set : set_at v ≡ s
  pub sets : typed_sets new.sets.items ≡ typed_sets old.sets.items ++ flat_map sets_below (members_in false s)
  pub fields : fields_of (selections_of v) ≡ fields_lent (members_in false s)
  pub below : below_of v.fields.items ≡ all_placed (length (typed_sets old.sets.items)) (members_in false s)
  pub spreads : texts_of v.spreads.items ≡ flat_map spread_names (selections_in false s)

pub opened : (s : TypedSet Place) (old new : Finding) (v : FoundSet) → left_of old.left.items ≡ [] → state_of new v ≡ with_set s (begun s old) → IsOpened s old new v
opened s old new v none is =
    let alone : members_in false s ++ left_of old.left.items ≡ members_in false s = ap (λ l. members_in false s ++ l) none ∙ append-nil (members_in false s) in
    let all : state_of new v ≡ at_end (record (begun s old) { left = members_in false s }) = is ∙ ap (λ l. at_end (record (begun s old) { left = l })) alone in
    record {
      none_left = ap (λ (w : OpenState). w.left) all;
      set = ap (λ (w : OpenState). w.set) all;
      sets = ap (λ (w : OpenState). w.sets) all;
      fields = ap (λ (w : OpenState). w.fields) all;
      below = ap (λ (w : OpenState). w.below) all;
      spreads = ap (λ (w : OpenState). w.spreads) all ∙ ap (flat_map spread_names) (bare_in false s);
    }

-- ---- where the sets of its fields stand

-- they stand there too where more come
below_more : (i : ℕ) (sets more : List (TypedSet Place)) (s : TypedSet Place) (b : Option ℕ) → IsBelow i sets s b → IsBelow i (sets ++ more) s b
below_more i sets more s None is = is
below_more i sets more s (Some p) is = (is.0, (is.1.0, stands_more sets more p s is.1.1))

-- the next one to come
one_placed : (i : ℕ) (sets : List (TypedSet Place)) (s : TypedSet Place) (more : List (TypedSet Place)) → i < length sets → IsBelow i (sets ++ (own_set s ++ more)) s (place_for (length sets) s)
one_placed i sets (typed_set ty no_typed) more within = tt
one_placed i sets (typed_set ty (typed_then x xs)) more within = (λ none. none, (within, stands_mid sets (typed_set ty (typed_then x xs)) more))

first_placed : (i : ℕ) (sets more : List (TypedSet Place)) (e : Member Place) (x : TypedSet Place × Option ℕ) → i < length sets → Contains (placed (length sets) e) x → IsBelow i (sets ++ (sets_below e ++ more)) x.0 x.1
first_placed i sets more (ty, TypedField p d h s) x within c =
    subst (λ (y : TypedSet Place × Option ℕ). IsBelow i (sets ++ (own_set s ++ more)) y.0 y.1) (only (s, place_for (length sets) s) x c) (one_placed i sets s more within)
first_placed i sets more (ty, TypedSpread p n ds) x within c = absurd (not_in_nil x c)
first_placed i sets more (ty, TypedInline p n ds s) x within c = absurd (not_in_nil x c)

pub each_placed : (i : ℕ) (sets : List (TypedSet Place)) (es : List (Member Place)) (x : TypedSet Place × Option ℕ) → i < length sets → Contains (all_placed (length sets) es) x
    → IsBelow i (sets ++ flat_map sets_below es) x.0 x.1
each_placed i sets [] x within c = absurd (not_in_nil x c)
each_placed i sets (e ∷ es) x within c =
    let longer : length sets + length (sets_below e) ≡ length (sets ++ sets_below e) = sym (length-append sets (sets_below e)) in
    elim (Contains-append_cases (placed (length sets) e) (all_placed (length sets + length (sets_below e)) es) x c) [
      | inl a ↦ first_placed i sets (flat_map sets_below es) e x within a
      | inr b ↦ subst (λ l. IsBelow i l x.0 x.1) (append_assoc sets (sets_below e) (flat_map sets_below es))
          (each_placed i (sets ++ sets_below e) es x (omega (arith, within, longer)) (subst (λ n. Contains (all_placed n es) x) longer b))
    ]

-- ---- those that were opened, and one more

opened_more : (set s : TypedSet Place) (old new : Finding) (found : List FoundSet) (v : FoundSet) → length found < length (typed_sets old.sets.items)
    → s ≡ get_or (typed_sets old.sets.items) (length found) s → IsOpened s old new v → AreOpened set (typed_sets old.sets.items) found → AreOpened set (typed_sets new.sets.items) (found ++ v ∷ [])
opened_more set s old new found v within at one so_far =
    let S = typed_sets old.sets.items in
    let added = flat_map sets_below (members_in false s) in
    let n = length found in
    record {
      first = subst (λ l. slice_get l 0 ≡ Some set) (sym one.sets) (stands_more S added 0 set so_far.first);
      same =
          map-append set_at found (v ∷ [])
          ∙ (λ i. so_far.same i ++ one.set i ∷ [])
          ∙ sym (taken_more S n s within at)
          ∙ sym (take-append-le (n + 1) S added (omega (arith, within)))
          ∙ ap (λ l. take (n + 1) l) (sym one.sets)
          ∙ ap (λ k. take k (typed_sets new.sets.items)) (sym (length_push found v));
      fields = λ u c. elim (Contains-append_cases found (v ∷ []) u c) [
        | inl a ↦ so_far.fields u a
        | inr b ↦ subst (λ (w : FoundSet). fields_of (selections_of w) ≡ fields_lent (members_in false (set_at w))) (only v u b) (one.fields ∙ ap (λ t. fields_lent (members_in false t)) (sym one.set))
      ];
      spreads = λ u c. elim (Contains-append_cases found (v ∷ []) u c) [
        | inl a ↦ so_far.spreads u a
        | inr b ↦ subst (λ (w : FoundSet). texts_of w.spreads.items ≡ flat_map spread_names (selections_in false (set_at w))) (only v u b) (one.spreads ∙ ap (λ t. flat_map spread_names (selections_in false t)) (sym one.set))
      ];
      below = λ i u here f c. subst (λ l. IsBelow i l (set_of f) f.below) (sym one.sets) (elim (stands_push_cases found v i u here) [
        | inl a ↦ below_more i S added (set_of f) f.below (so_far.below i u a f c)
        | inr b ↦
            each_placed i S (members_in false s) (set_of f, f.below) (omega (arith, within, b.0))
            (subst (λ l. Contains l (set_of f, f.below)) one.below (contains_map (λ (g : FoundField). (set_of g, g.below)) v.fields.items f (subst (λ (w : FoundSet). Contains w.fields.items f) b.1 c)))
      ]);
    }

-- the next one is opened: fewer are left
pub record OneMore (old new : Finding) (found more : List FoundSet) : Type 0 where
  pub none_left : left_of new.left.items ≡ []
  pub opened : (set : TypedSet Place) → AreOpened set (typed_sets old.sets.items) found → AreOpened set (typed_sets new.sets.items) more
  pub fewer : weights (drop (length more) (typed_sets new.sets.items)) < weights (drop (length found) (typed_sets old.sets.items))

typed_at : (sets : List (Bor SelectionSet)) (k : ℕ) (x : Bor SelectionSet) → k < length sets → x ≡ get_or sets k x → typed_set_tree x.now ≡ get_or (typed_sets sets) k (typed_set_tree x.now)
typed_at sets k x within at =
    ap (λ (y : Bor SelectionSet). typed_set_tree y.now) at
    ∙ sym (get_or_from_slice_get (typed_sets sets) k (typed_set_tree (get_or sets k x).now) (typed_set_tree x.now)
    (slice_get-map (λ (y : Bor SelectionSet). typed_set_tree y.now) sets k ∙ ap (option_map (λ (y : Bor SelectionSet). typed_set_tree y.now)) (slice_get-get_or sets k x within)))

pub one_more : (old new : Finding) (found more : List FoundSet) (v : FoundSet) (x : Bor SelectionSet) (k : ℕ) → k ≡ length found → k < length old.sets.items → x ≡ get_or old.sets.items k x → left_of old.left.items ≡ []
    → state_of new v ≡ with_set (typed_set_tree x.now) (begun (typed_set_tree x.now) old) → more ≡ found ++ v ∷ [] → OneMore old new found more
one_more old new found more v x k last within at none went pushed =
    let s = typed_set_tree x.now in
    let S = typed_sets old.sets.items in
    let one = opened s old new v none went in
    let here : s ≡ get_or S k s = typed_at old.sets.items k x within at in
    let there : length found < length S = omega (arith, within, last, length-map old.sets.items (λ (y : Bor SelectionSet). typed_set_tree y.now)) in
    let here' : s ≡ get_or S (length found) s = here ∙ ap (λ j. get_or S j s) last in
    record {
      none_left = one.none_left;
      opened = λ set so_far. subst (AreOpened set (typed_sets new.sets.items)) (sym pushed) (opened_more set s old new found v there here' one so_far);
      fewer =
          subst (λ l. weights (drop (length more) l) < weights (drop (length found) S)) (sym one.sets)
          (subst (λ n. weights (drop n (S ++ flat_map sets_below (members_in false s))) < weights (drop (length found) S)) (sym (ap length pushed ∙ length_push found v)) (fewer_to_open S (length found) s there here'));
    }

none_opened : (set : TypedSet Place) (sets : List (TypedSet Place)) → slice_get sets 0 ≡ Some set → AreOpened set sets []
none_opened set sets first = record {
  first = first;
  same = refl;
  fields = λ v c. absurd (not_in_nil v c);
  spreads = λ v c. absurd (not_in_nil v c);
  below = λ i v here f c. absurd (omega (arith, slice_get_within [] i v here));
}

-- none are at first
pub opened_begun : (set : Bor SelectionSet) (none sets : List (Bor SelectionSet)) (found : List FoundSet) → none ≡ [] → sets ≡ none ++ set ∷ [] → found ≡ [] → AreOpened (typed_set_tree set.now) (typed_sets sets) found
opened_begun set none sets found empty pushed nothing =
    subst (AreOpened (typed_set_tree set.now) (typed_sets sets)) (sym nothing)
    (none_opened (typed_set_tree set.now) (typed_sets sets) (ap (λ l. slice_get (typed_sets l) 0) (pushed ∙ ap (λ l. l ++ set ∷ []) empty)))

-- all are opened
pub all_opened : (set : TypedSet Place) (sets : List (TypedSet Place)) (found : List FoundSet) → length sets ≤ length found → AreOpened set sets found → AreFound set found
all_opened set sets found enough are =
    let same : sets_at found ≡ sets = are.same ∙ take_all (length found) sets enough in
    record {
      first = ap (λ l. slice_get l 0) same ∙ are.first;
      fields = are.fields;
      spreads = are.spreads;
      below = λ i v here f c. subst (λ l. IsBelow i l (set_of f) f.below) (sym same) (are.below i v here f c);
    }
