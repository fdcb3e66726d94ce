-- What both passes over the lists of an operation come to, after its set came to those of the document.
use Rattle.std.proofs.Common.{◌≡◌, ◌⊎◌, ◌∙◌, ℕ, Bool, true, false, ◌||◌, Result, Ok, Err, List, [], ◌∷◌, ◌++◌, ◌+◌, ◌*◌, ◌≤◌, map, length, Contains, refl, sym, ap, subst, append_assoc, inl, inr, arith}
use Rattle.std.proofs.lemmas.List.{length-append, length-map}
use Rattle.std.proofs.lemmas.List.Elements.{Contains-append_cases}
use Rattle.std.specs.Result.{OnOk, IfOk}
use Rattle.graphql_names.specs.Placed.{Place}
use Rattle.graphql_names.specs.Node.{content}
use Rattle.graphql_names.specs.declared.node.Node.{Node}
use Rattle.rule_field_groups.specs.in_typed_selections.TypedTree.{TypedSet, typed_set_tree}
use Rattle.document_typed_operations.specs.declared.operation.Operation.{Operation}
use Rattle.rule_field_groups.specs.in_spec_document.MeantTree.{MeantSet, MeantOperation, MeantDocument, meant_of_set}
use Rattle.rule_field_groups.specs.in_sets.in_schema.SchemaOf.{schema_tree}
use Rattle.rule_field_groups.specs.in_sets.in_reach.in_typed_operations.DocumentView.{operation_meant}
use Rattle.rule_field_groups.specs.in_sets.in_reach.Fields.{meant_fragments}
use Rattle.rule_field_groups.specs.in_definitions.Judged.{Judged, judged}
use Rattle.rule_field_groups.specs.in_document_definitions.DocumentFaults.{Broken}
use Rattle.rule_field_groups.proofs.in_document_definitions.ReadFacts.{read_fields_merge}
use Rattle.rule_field_groups.specs.in_sets.Nodes.{AreSets, SetsGrow, HasAllStarts, IsNodeOf, set_nodes}
use Rattle.list_interner.specs.NumberPairs.{pairs_kept}
use Rattle.rule_field_groups.specs.in_sets.Read.{set_at, set_content_at}
use Rattle.rule_field_groups.specs.in_sets.declared.field_sets.FieldSets.{FieldSets}
use Rattle.rule_field_groups.proofs.in_sets.Kept.{sets_grow_same}
use Rattle.rule_field_groups.proofs.in_sets.Meaning.{set_of_node}
use Rattle.rule_field_groups.specs.declared.pass.Pass.{Pass}
use Rattle.rule_field_groups.specs.declared.pass.Pass.TheVariants.{Shapes, Selections}
use Rattle.rule_merging.specs.declared.examination.Examination.{Examination}
use Rattle.rule_merging.specs.declared.operation.Examined.{Examined}
use Rattle.rule_field_groups.specs.declared.merge_state.MergeState.{MergeState}
use Rattle.rule_field_groups.specs.Paid.{Account}
use Rattle.rule_merging.specs.Counted.{AreListed, Grows}
use Rattle.rule_field_groups.specs.MergeState.{Kept, both_in, remembered, looked_in, account_of, kept_of}
use Rattle.rule_merging.specs.Examined.{AreSettled, AllExamined, HasSets, schema_of, document_of, sets_of}
use Rattle.rule_merging.specs.Verdict.{AreSetsFor, Begins, OnlyGrow, OperationExamined, IsCounted, IsCountedIn, AreKnown, LooksAtFew, sets_numbered, account_in, without_pairs}
use Rattle.rule_merging.proofs.Counting.{only_grow, shapes_counted, few_pairs}
use Rattle.rule_merging.proofs.Examining.{left_empty, right_empty}
use Rattle.rule_merging.proofs.Known.{kept_stays, account_stays}

left_false : (a b : Bool) → (a || b) ≡ false → a ≡ false
left_false true b e = cc
left_false false b e = refl

right_false : (a b : Bool) → (a || b) ≡ false → b ≡ false
right_false true b e = cc
right_false false b e = e

one_true : (a b : Bool) → (a || b) ≡ true → (a ≡ true) ⊎ (b ≡ true)
one_true true b e = inl refl
one_true false b e = inr e

-- ---- the sets of a document

-- they are so when sets come to them
pub sets_for : (s : Judged) (d : MeantDocument Place) (old new : FieldSets) → AreSetsFor s d old → AreSets new → SetsGrow old new → AreSetsFor s d new
sets_for s d old new before are grown = record {
  are = are;
  schema = (λ i. judged (schema_tree (grown.schema i).now)) ∙ before.schema;
  fragments = (λ i. meant_fragments (grown.fragments i).now) ∙ before.fragments;
}

-- an examination has them
pub has_sets : (e : Examination) → AreSetsFor (schema_of e) (document_of e) (sets_of e) → HasAllStarts (sets_of e) → HasSets e
has_sets e are starts = record { are = are.are; starts = starts; schema = are.schema; fragments = are.fragments }

-- the set of a node that was given
pub node_has : (w : FieldSets) (n : ℕ) (t : TypedSet Place) → IsNodeOf (set_nodes w) n t → set_at w n ≡ meant_of_set t
node_has w n t (v, (at, is)) = set_of_node w n v at ∙ ap meant_of_set is

pub node_given : {E : Type 0} (r : Result ℕ E) (w : FieldSets) (t : TypedSet Place) → OnOk r (HasAllStarts w) → IfOk r (λ n. IsNodeOf (set_nodes w) n t)
    → IfOk r (λ n. (set_at w n ≡ meant_of_set t) × HasAllStarts w)
node_given (Ok n) w t starts is = (node_has w n t is, starts)
node_given (Err e) w t starts is = tt

-- what the operation starts with is its set, and that of its node
pub starts : (operation : Node Operation) (here : Operation) (set : MeantSet Place) → here ≡ content operation → set ≡ meant_of_set (typed_set_tree here.selection_set) → (operation_meant operation).set ≡ set
starts operation here set is node = sym (ap (λ (o : Operation). meant_of_set (typed_set_tree o.selection_set)) is) ∙ sym node

-- ---- what was examined means what it meant

-- nothing was added
pub begun_same : (old : Examined) → AreSets old.sets → Begins old old
begun_same old are = record { are = are; grown = sets_grow_same old.sets; shapes = refl; account = refl; selections = refl }

-- sets were added, and what was examined had numbers of the sets that were there
pub begun_known : (old : Examined) (w : FieldSets) → AreKnown old → AreSets w → SetsGrow old.sets w → Begins old (record old { sets = w })
begun_known old w known are grown = record {
  are = are;
  grown = grown;
  shapes = kept_stays old.sets w grown old.shapes known.0;
  account = account_stays old.sets w grown old.shapes known.0;
  selections = kept_stays old.sets w grown old.selections known.1;
}

-- what is settled is so, whatever pairs are left
settled_so : (pass : Pass) (s : Judged) (d : MeantDocument Place) (old new : Kept) → without_pairs new ≡ without_pairs old → AreSettled d pass s old → AreSettled d pass s new
settled_so pass s d old new e h =
    let before : AreSettled d pass s (without_pairs old) = record { fields = h.fields; sets = h.sets; pairs = h.pairs } in
    let after : AreSettled d pass s (without_pairs new) = subst (AreSettled d pass s) (sym e) before in
    record { fields = after.fields; sets = after.sets; pairs = after.pairs }

-- what is counted
pub begun_counted : (d : MeantDocument Place) (os : List (MeantOperation Place)) (old mid : Examined) → Begins old mid → IsCounted d os old → IsCounted d os mid
begun_counted d os old mid begun counted = subst (IsCountedIn d os) (sym begun.account) counted

pub begun_grows : (old mid : Examined) (new : Account) → Begins old mid → OnlyGrow (account_in mid).lists (account_in mid).comparisons new.lists new.comparisons
    → OnlyGrow (account_in old).lists (account_in old).comparisons new.lists new.comparisons
begun_grows old mid new begun grow = subst (λ (a : Account). OnlyGrow a.lists a.comparisons new.lists new.comparisons) begun.account grow

pub nothing_grows : (a : Account) → OnlyGrow a.lists a.comparisons a.lists a.comparisons
nothing_grows a = (λ list c. c, omega arith)

module _ (d : MeantDocument Place) (o : MeantOperation Place) (old mid : Examined) (begun : Begins old mid) (start : MeantSet Place) (is : o.set ≡ start) (new : MergeState)
    (grows : Grows d (λ os. AreListed d os ((start ∷ []) ∷ [])) Shapes (account_in mid) (account_of mid.sets new)) where
  -- then lists come to those that were examined for shapes
  pub then_counted : ((os : List (MeantOperation Place)) → Contains os o → AreListed d os ((start ∷ []) ∷ []))
      → (os : List (MeantOperation Place)) → Contains os o → IsCounted d os old → IsCountedIn d os (account_of mid.sets new)
  then_counted listed os there counted =
      shapes_counted d os (λ ps. AreListed d ps ((start ∷ []) ∷ [])) (listed os there) (account_in mid) (account_of mid.sets new) (begun_counted d os old mid begun counted) grows

  pub then_grown : OnlyGrow (account_in old).lists (account_in old).comparisons (account_of mid.sets new).lists (account_of mid.sets new).comparisons
  then_grown = begun_grows old mid (account_of mid.sets new) begun (only_grow d (λ ps. AreListed d ps ((start ∷ []) ∷ [])) Shapes (account_in mid) (account_of mid.sets new) grows)

-- ---- pairs of sets

-- where what was examined has numbers of these sets, at most so many pairs of them were looked at
pub looks_few : (e : Examined) → AreKnown e → LooksAtFew e
looks_few e known =
    let n = sets_numbered e in
    let shapes : 2 * length (pairs_kept e.shapes.looked) ≤ n * (n + 1) = few_pairs e.shapes.looked n known.0.looked in
    let selections : 2 * length (pairs_kept e.selections.looked) ≤ n * (n + 1) = few_pairs e.selections.looked n known.1.looked in
    let long : length (looked_in e.sets e.shapes) ≡ length (pairs_kept e.shapes.looked) = length-map (pairs_kept e.shapes.looked) (λ p. map (set_content_at e.sets) (both_in p)) in
    let long_too : length (looked_in e.sets e.selections) ≡ length (pairs_kept e.selections.looked) = length-map (pairs_kept e.selections.looked) (λ p. map (set_content_at e.sets) (both_in p)) in
    let whole = length-append (looked_in e.sets e.shapes) (looked_in e.sets e.selections) in
    omega (arith, shapes, selections, long, long_too, whole)

-- ---- both passes

-- what is left of either
pub either_left : {E : Type 0} (r : Result Bool E) (left too : Bool) (P : Bool → Type 0) → IfOk r (λ some. some ≡ (left || too)) → P (left || too) → IfOk r P
either_left (Ok b) left too P is p = subst P (sym is) p
either_left (Err e) left too P is p = tt

-- what was examined after them
abbrev pub after : Examined → MergeState → MergeState → Examined
after mid shapes selections = record mid { shapes = shapes; selections = selections }

module _ (s : Judged) (d : MeantDocument Place) (o : MeantOperation Place) (old mid : Examined) (begun : Begins old mid) (shapes selections : MergeState) where
  both_examined : (one two : List (Broken Place)) (left too : Bool) → AllExamined Shapes s d o (kept_of mid.sets mid.shapes) (kept_of mid.sets shapes) one left
      → AllExamined Selections s d o (kept_of mid.sets mid.selections) (kept_of mid.sets selections) two too → OperationExamined s d o old (after mid shapes selections) (one ++ two) (left || too)
  both_examined one two left too first later = record {
    right = λ fault c. elim (Contains-append_cases one two fault c) [ inl a ↦ first.right fault a | inr b ↦ later.right fault b ];
    settled = λ e none both.
        let a = first.settled (left_empty one two e) (left_false left too none) (settled_so Shapes s d (kept_of old.sets old.shapes) (kept_of mid.sets mid.shapes) begun.shapes both.0) in
        let b = later.settled (right_empty one two e) (right_false left too none) (settled_so Selections s d (kept_of old.sets old.selections) (kept_of mid.sets mid.selections) begun.selections both.1) in
        ((a.0, b.0), (inl (a.1, b.1), read_fields_merge s d o (remembered mid.sets shapes) (remembered mid.sets selections) a.0.fields a.1 b.0.fields b.1));
    bound = λ is. elim (one_true left too is) [ inl a ↦ first.bound a | inr b ↦ later.bound b ];
  }

  -- the same of breaches as they stand before and after
  pub operation_step : (told half last : List (Broken Place)) (left too : Bool)
      → ((added : List (Broken Place)) × ((half ≡ told ++ added) × AllExamined Shapes s d o (kept_of mid.sets mid.shapes) (kept_of mid.sets shapes) added left))
      → ((added : List (Broken Place)) × ((last ≡ half ++ added) × AllExamined Selections s d o (kept_of mid.sets mid.selections) (kept_of mid.sets selections) added too))
      → (added : List (Broken Place)) × ((last ≡ told ++ added) × OperationExamined s d o old (after mid shapes selections) added (left || too))
  operation_step told half last left too (a, (is, first)) (b, (is_too, later)) =
      (a ++ b, (is_too ∙ ap (λ l. l ++ b) is ∙ append_assoc told a b, both_examined a b left too first later))
