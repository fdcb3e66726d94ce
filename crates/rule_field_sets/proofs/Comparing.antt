-- Members are compared by their numbers: equal numbers are equal parts, and the other way.
use Rattle.std.proofs.Common.{◌≡◌, ◌↔◌, ◌∙◌, ℕ, List, IsTrue, Option, Some, slice_get, refl, sym, ap, subst, inl}
use Rattle.rule_cycle_search.specs.Paths.{HasNoRepeat}
use Rattle.rule_definitions.specs.Judged.{Judged}
use Rattle.rule_document_definitions.specs.SameValues.{SameArguments}
use Rattle.rule_document_definitions.specs.Merging.{IsAbstract, SameKey, SameType, SameShape, SameNameAndArguments}
use Rattle.rule_document_definitions.specs.Contents.{unplaced_content}
use Rattle.rule_document_definitions.specs.ReadFields.{head_of}
use Rattle.rule_document_definitions.proofs.ReadFacts.{selections_read}
use Rattle.rule_document_definitions.proofs.Reflexive.{selection_refl}
use Rattle.rule_reach.specs.Fields.{field_of}
use Rattle.rule_reach.specs.declared.field_selection.FieldSelection.{FieldSelection}
use Rattle.rule_field_sets.specs.declared.member.Member.{Member}
use Rattle.rule_field_sets.specs.Tables.{ReadCall, Tables, MeansField, AreRight, AreJudged, TablesGrow, keys_in}
use Rattle.rule_field_sets.specs.Numbered.{read_of, IsMember}
use Rattle.rule_field_sets.proofs.Growing.{stays, contains_at}
use Rattle.rule_field_sets.proofs.Once.{inside, key_at, one_content, one_number}
use Rattle.rule_field_sets.proofs.Adding.{means_on}

-- where nothing is there twice, equal places have equal things
at_one : {X : Type 0} (xs : List X) (i j : ℕ) (x y : X) → HasNoRepeat xs → slice_get xs i ≡ Some x → slice_get xs j ≡ Some y → (i ≡ j) ↔ (x ≡ y)
at_one xs i j x y apart p q = (λ e. inside x y (sym p ∙ (ap (slice_get xs) e ∙ q)), λ e. apart i j x p (q ∙ ap (λ z. Some z) (sym e)))

-- a member stays one in larger tables
pub member_on : (t u : Tables) (x : FieldSelection) (a : Option ℕ) (m : Member) → TablesGrow t u → IsMember t x a m → IsMember u x a m
member_on t u x a m grow is =
    let h = head_of (read_of m.selection) in
    record {
      selection = is.selection;
      number = means_on t u grow m.number (read_of m.selection) is.number;
      parts = record {
        key = stays t.parts.keys u.parts.keys m.key h.key grow.parts.keys.grown is.parts.key;
        parent = stays t.parts.parents u.parts.parents m.parent (h.parent, m.is_shared) grow.parts.parents.grown is.parts.parent;
        call = stays t.parts.calls u.parts.calls m.call (h.name, h.arguments) grow.parts.calls.grown is.parts.call;
        ty = stays t.parts.types u.parts.types m.ty h.ty grow.parts.types.grown is.parts.ty;
      };
      below = is.below;
    }

-- it is shared exactly if the type that it is selected on is abstract
pub shared_so : (s : Judged) (t : Tables) (x : FieldSelection) (a : Option ℕ) (m : Member) → AreJudged s t.parts.parents → IsMember t x a m → IsTrue m.is_shared ↔ IsAbstract s (field_of m.selection).parent
shared_so s t x a m judged is =
    let h = head_of (read_of m.selection) in
    judged (h.parent, m.is_shared) (contains_at t.parts.parents m.parent (h.parent, m.is_shared) is.parts.parent)

module _ (t : Tables) (right : AreRight t) (x y : FieldSelection) (a b : Option ℕ) (m n : Member) (is : IsMember t x a m) (so : IsMember t y b n) where
  pub key_same : (m.key ≡ n.key) ↔ SameKey (field_of m.selection) (field_of n.selection)
  key_same = at_one t.parts.keys m.key n.key (head_of (read_of m.selection)).key (head_of (read_of n.selection)).key right.parts.keys is.parts.key so.parts.key

  pub parent_same : (m.parent ≡ n.parent) ↔ ((field_of m.selection).parent ≡ (field_of n.selection).parent)
  parent_same =
      let h = head_of (read_of m.selection) in
      let g = head_of (read_of n.selection) in
      at_one (keys_in t.parts.parents) m.parent n.parent h.parent g.parent right.parts.parents
      (key_at t.parts.parents m.parent h.parent m.is_shared is.parts.parent) (key_at t.parts.parents n.parent g.parent n.is_shared so.parts.parent)

  -- fields of one call have one name and the same arguments
  pub call_same : m.call ≡ n.call → SameNameAndArguments (field_of m.selection) (field_of n.selection)
  call_same e =
      let h = head_of (read_of m.selection) in
      let g = head_of (read_of n.selection) in
      let same : (h.name, h.arguments) ≡ (g.name, g.arguments) = inside (h.name, h.arguments) (g.name, g.arguments) (sym is.parts.call ∙ (ap (slice_get t.parts.calls) e ∙ so.parts.call)) in
      let arguments : SameArguments h.arguments h.arguments = (selection_refl (unplaced_content (field_of m.selection))).1 in
      (selections_read (field_of m.selection) (field_of n.selection)).1
      (ap (λ (c : ReadCall). c.0) same, subst (SameArguments h.arguments) (ap (λ (c : ReadCall). c.1) same) arguments)

  -- fields of one type have one shape
  pub type_same : (s : Judged) → m.ty ≡ n.ty → SameShape s (field_of m.selection) (field_of n.selection)
  type_same s e =
      let h = head_of (read_of m.selection) in
      let g = head_of (read_of n.selection) in
      subst (SameType s h.ty) (inside h.ty g.ty (sym is.parts.ty ∙ (ap (slice_get t.parts.types) e ∙ so.parts.ty))) (refl, inl refl)

  -- fields of one number are those of which the same is read
  pub number_same : (m.number ≡ n.number) ↔ (read_of m.selection ≡ read_of n.selection)
  number_same = (
    λ e. one_content t m.number (read_of m.selection) (read_of n.selection) is.number (subst (λ k. MeansField t k (read_of n.selection)) (sym e) so.number),
    λ e. one_number t right (read_of m.selection) m.number n.number is.number (subst (MeansField t n.number) (sym e) so.number),
  )
