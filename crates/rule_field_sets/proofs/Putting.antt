-- The nodes of sets that were found, one by one from the last.
use Rattle.std.proofs.Common.{◌≡◌, ◌⊎◌, ◌∙◌, ◌++◌, ◌∷◌, [], ℕ, ◌+◌, ◌-◌, ◌<◌, ◌≤◌, false, List, map, length, Contains, slice_get, Option, Some, None, refl, sym, ap, subst, inl, inr, append-nil, append_assoc, arith}
use Rattle.std.specs.Prelude.{MatchOption, flat_map}
use Rattle.std.specs.Option.{option_map}
use Rattle.std.proofs.lemmas.Bool.{cases_lt}
use Rattle.std.proofs.lemmas.List.{length_push, length-map}
use Rattle.std.proofs.lemmas.Option.{slice_get_within}
use Rattle.graphql_names.specs.Placed.{Place}
use Rattle.document_typed_selections.specs.TypedTree.{TypedSet, typed_set_tree}
use Rattle.spec_document.specs.MeantTree.{meant_of_set}
use Rattle.document_typed_operations.specs.Reached.{Fragments, members_in, selections_in, spread_names}
use Rattle.rule_definitions.proofs.Lists.{slice_get-map}
use Rattle.rule_document_definitions.specs.Selected.{HasNone}
use Rattle.rule_document_definitions.specs.Written.{spreads_written}
use Rattle.rule_field_sets.specs.Fields.{fields_of}
use Rattle.rule_reach.specs.Lent.{fields_lent}
use Rattle.rule_field_sets.specs.declared.found.FoundField.{FoundField}
use Rattle.rule_field_sets.specs.declared.found.FoundSet.{FoundSet}
use Rattle.rule_field_sets.specs.declared.member.Member.{Member}
use Rattle.rule_field_sets.specs.declared.member.SetNode.{SetNode}
use Rattle.rule_field_sets.specs.Tables.{Grows, Tables, MeansSet, TablesGrow, ReadsAs}
use Rattle.rule_field_sets.specs.Numbered.{meant_of, read_list}
use Rattle.rule_field_sets.specs.Found.{set_of, selections_of, texts_of, set_at, sets_at, IsBelow, AreFound, ArePlaces}
use Rattle.rule_field_sets.specs.Nodes.{own_set, typed_at, fields_at, names_at, IsNodeOf, AreMembers, IsNode}
use Rattle.rule_field_sets.specs.Added.{IsFoundBelow, AreReadyBelow, IsReady, AreAdded, selections_in_order}
use Rattle.rule_field_sets.proofs.Growing.{push_cases, stays, last_at, contains_at}
use Rattle.rule_field_sets.proofs.Adding.{set_means_on}
use Rattle.rule_field_sets.proofs.Comparing.{member_on}
use Rattle.rule_field_sets.proofs.Kept.{below_on, node_of_on}
use Rattle.rule_field_sets.proofs.Once.{inside}
use Rattle.rule_field_sets.proofs.Reading.{reads_as}

-- ---- a node of what was passed

module _ (t : Tables) (met : List ℕ) (begun : ℕ) (nodes : List SetNode) (last : ℕ) (v : FoundSet) (ready : IsReady nodes last v) (numbers : List ℕ) (members : List Member) (are : AreAdded t met begun nodes (selections_of v) numbers members) where
  -- what is put into the tables for it
  pub parts_read : ReadsAs t numbers (texts_of v.spreads.items) (meant_of v.set.now)
  parts_read = reads_as t v.set.now numbers (texts_of v.spreads.items) (selections_of v) ready.fields ready.spreads are.numbers

  pub is_node : (u : Tables) (fragments : Fragments Place) (n : SetNode) → TablesGrow t u → n.set.now ≡ v.set.now → n.members.items ≡ members → MeansSet u n.number (read_list v.set.now)
      → ArePlaces fragments (texts_of v.spreads.items) n.spreads.items → IsNode u fragments nodes (length nodes) n
  is_node u fragments n grow set its means places = record {
    number = subst (λ s. MeansSet u n.number (read_list s)) (sym set) means;
    members = subst (λ s. AreMembers (fields_at s) n.members.items) (sym set) (subst (AreMembers (fields_at v.set.now)) (sym its) (subst (λ l. AreMembers l members) ready.fields are.members));
    numbers = λ m c. member_on t u m.selection m.below m grow (are.each m (subst (λ l. Contains l m) its c));
    below = λ m c. are.below m (subst (λ l. Contains l m) its c);
    spreads = subst (λ s. ArePlaces fragments (names_at s) n.spreads.items) (sym set) (subst (λ l. ArePlaces fragments l n.spreads.items) ready.spreads places);
  }

-- ---- from the last set to the first

-- of the sets that were found these first ones are left, and those of the others have nodes
pub record AreLeft (nodes : List SetNode) (last : ℕ) (found left : List FoundSet) : Type 0 where
  pub front : Grows left found
  pub count : last + 1 ≡ length nodes + length left
  pub whole : length found ≤ last + 1
  pub done : (p : ℕ) (v : FoundSet) → length left ≤ p → slice_get found p ≡ Some v → IsNodeOf nodes (last - p) (set_at v)

-- all are left
pub all_left : (nodes : List SetNode) (last : ℕ) (found : List FoundSet) → last + 1 ≡ length nodes + length found → AreLeft nodes last found found
all_left nodes last found count = record {
  front = ([], sym (append-nil found));
  count = count;
  whole = omega (count, arith);
  done = λ p v following at. absurd (omega (slice_get_within found p v at, following, arith));
}

set_there : (found : List FoundSet) (p : ℕ) (s : TypedSet Place) → slice_get (sets_at found) p ≡ Some s → (v : FoundSet) × ((slice_get found p ≡ Some v) × (set_at v ≡ s))
set_there found p s h = by (slice_get found p) refl
  where
    by : (o : Option FoundSet) → slice_get found p ≡ o → (v : FoundSet) × ((slice_get found p ≡ Some v) × (set_at v ≡ s))
    by None e = let no : None ≡ Some s = sym (slice_get-map set_at found p ∙ ap (option_map set_at) e) ∙ h in cc
    by (Some v) e = let same : Some (set_at v) ≡ Some s = sym (slice_get-map set_at found p ∙ ap (option_map set_at) e) ∙ h in (v, (e, cc))

module _ (nodes : List SetNode) (last : ℕ) (found left rest : List FoundSet) (v : FoundSet) (popped : left ≡ rest ++ v ∷ []) (so_far : AreLeft nodes last found left) where
  one_fewer : length left ≡ length rest + 1
  one_fewer = ap length popped ∙ length_push rest v

  -- the one that is popped stands where the rest ends
  here : slice_get found (length rest) ≡ Some v
  here = stays left found (length rest) v so_far.front (subst (λ l. slice_get l (length rest) ≡ Some v) (sym popped) (last_at rest v))

  -- it is ready
  pub ready_now : (s : TypedSet Place) → AreFound s found → IsReady nodes last v
  ready_now s are =
      let c : Contains found v = contains_at found (length rest) v here in
      record {
        fields = are.fields v c;
        spreads = are.spreads v c;
        below = λ f d. ready_below f f.below (are.below (length rest) v here f d);
      }
    where
      ready_below : (f : FoundField) (below : Option ℕ) → IsBelow (length rest) (sets_at found) (set_of f) below → IsFoundBelow nodes last (set_of f) below
      ready_below f None none = none
      ready_below f (Some p) (some, (following, at)) =
          let u = set_there found p (set_of f) at in
          let node : IsNodeOf nodes (last - p) (set_at u.0) = so_far.done p u.0 (omega (one_fewer, following, arith)) u.1.0 in
          (some, (omega (slice_get_within found p u.0 u.1.0, so_far.whole, arith), (node.0, (node.1.0, node.1.1 ∙ u.1.1))))

  -- where its node is put, one fewer is left
  pub one_put : (more : List SetNode) (n : SetNode) → more ≡ nodes ++ n ∷ [] → typed_at n ≡ set_at v → AreLeft more last found rest
  one_put more n pushed is = record {
    front = (v ∷ so_far.front.0, so_far.front.1 ∙ (ap (λ l. l ++ so_far.front.0) popped ∙ append_assoc rest (v ∷ []) so_far.front.0));
    count = omega (so_far.count, one_fewer, ap length pushed ∙ length_push nodes n, arith);
    whole = so_far.whole;
    done = λ p u following at. elim (cases_lt p (length left)) [
      | inl low ↦
          let same : p ≡ length rest = omega (low, one_fewer, following, arith) in
          let one : v ≡ u = inside v u (sym here ∙ (ap (slice_get found) (sym same) ∙ at)) in
          let place : last - p ≡ length nodes = omega (so_far.count, one_fewer, same, arith) in
          (n, (subst (λ i. slice_get more i ≡ Some n) (sym place) (subst (λ l. slice_get l (length nodes) ≡ Some n) (sym pushed) (last_at nodes n)), is ∙ ap set_at one))
      | inr high ↦ node_of_on nodes more (last - p) (set_at u) (n ∷ [], pushed) (so_far.done p u high at)
    ];
  }

  pub fewer_left : length rest < length left
  fewer_left = omega (one_fewer, arith)

-- none is left: the first one has the last node
pub first_put : (nodes : List SetNode) (last : ℕ) (found left : List FoundSet) → left ≡ [] → AreLeft nodes last found left → MatchOption (slice_get found 0) (Unit {0}) (λ v. IsNodeOf nodes last (set_at v))
first_put nodes last found left none so_far = by (slice_get found 0) refl
  where
    by : (o : Option FoundSet) → slice_get found 0 ≡ o → MatchOption o (Unit {0}) (λ v. IsNodeOf nodes last (set_at v))
    by None e = tt
    by (Some v) e = subst (λ i. IsNodeOf nodes i (set_at v)) (omega arith) (so_far.done 0 v (omega (ap length none, arith)) e)

-- the first that was found is the set itself
pub first_is : (s : TypedSet Place) (found : List FoundSet) (nodes : List SetNode) (last : ℕ) → AreFound s found → MatchOption (slice_get found 0) (Unit {0}) (λ v. IsNodeOf nodes last (set_at v)) → IsNodeOf nodes last s
first_is s found nodes last are h =
    let v = set_there found 0 s are.first in
    let n : IsNodeOf nodes last (set_at v.0) = subst (λ o. MatchOption o (Unit {0}) (λ (u : FoundSet). IsNodeOf nodes last (set_at u))) v.1.0 h in
    (n.0, (n.1.0, n.1.1 ∙ v.1.1))

-- at least one was found
pub some_found : (s : TypedSet Place) (found : List FoundSet) → AreFound s found → 0 < length found
some_found s found are = let v = set_there found 0 s are.first in slice_get_within found 0 v.0 v.1.0
