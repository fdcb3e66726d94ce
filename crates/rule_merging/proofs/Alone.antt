-- An operation of which no two fields have one key, in any of its sets: nothing is told of it, and lists of its fields alone are closed
-- beside those that were examined.
use Rattle.std.proofs.Common.{◌≡◌, ◌⊎◌, ◌∙◌, Bool, false, true≢false, List, [], ◌∷◌, map, Contains, append-nil, refl, sym, subst, inl, inr}
use Rattle.std.proofs.lemmas.List.Elements.{Contains-append_left, Contains-append_right, Contains-append_cases}
use Rattle.graphql_names.specs.Placed.{Place}
use Rattle.rule_field_groups.specs.in_spec_document.MeantTree.{MeantOperation, MeantDocument}
use Rattle.rule_field_groups.specs.in_definitions.Judged.{Judged}
use Rattle.rule_field_groups.proofs.in_definitions.Lists.{not_in_nil, only, is_only}
use Rattle.rule_field_groups.specs.in_document_definitions.ReadFields.{ReadField, ReadSameKey, ReadSameShape, ReadBelow, ReadStarts, AreReadShapesStanding, fragments_read, set_read}
use Rattle.rule_field_groups.specs.in_document_definitions.Settled.{AreInOne, StandWhere, StartsStand, IsSettledIn}
use Rattle.rule_field_groups.proofs.in_document_definitions.Unplaced.{contains_map, contains_unmap}
use Rattle.rule_field_groups.specs.in_sets.in_reach.Broken.{brokens_of}
use Rattle.rule_reach.specs.LoneKeys.{AreKeysLone}
use Rattle.rule_reach.proofs.Merging.{AreOne, StandAlone, lone_shapes, lone_start, lone_merge}
use Rattle.rule_merging.specs.Examined.{Breaches}
use Rattle.rule_merging.specs.Verdict.{lists_examined, StartsOrIsLone, ExaminesOperation}
use Rattle.rule_merging.specs.Merger.{AreClosed, with_alone}
use Rattle.rule_merging.specs.declared.operation.Examined.{Examined}

-- ---- fields alone, beside lists

module _ (lists : List (List ReadField)) (lone : List ReadField) where
  -- two fields that are in one of the lists still are; below, a field alone is in a list with itself
  stand_kept : (f g : ReadField) → AreInOne lists f g → AreInOne (with_alone lists lone) f g
  stand_kept f g (list, (c, both)) = (list, (Contains-append_left lists (map (λ x. x ∷ []) lone) list c, both))

  stand_one : (f g : ReadField) → AreOne lone f g → AreInOne (with_alone lists lone) f g
  stand_one f g (same, c) = (
    f ∷ [],
    (
      Contains-append_right lists (map (λ x. x ∷ []) lone) (f ∷ []) (contains_map (λ x. x ∷ []) lone f c),
      (is_only f f refl, is_only f g (sym same)),
    ),
  )

  -- and nothing else
  stand_cases : (f g : ReadField) → AreInOne (with_alone lists lone) f g → AreInOne lists f g ⊎ AreOne lone f g
  stand_cases f g (list, (c, (a, b))) = elim (Contains-append_cases lists (map (λ x. x ∷ []) lone) list c) [
    | inl h ↦ inl (list, (h, (a, b)))
    | inr h ↦
        let x = contains_unmap (λ x. x ∷ []) lone list h in
        let is : f ≡ x.0 = only x.0 f (subst (λ l. Contains l f) (sym x.1.1) a) in
        let is_too : g ≡ x.0 = only x.0 g (subst (λ l. Contains l g) (sym x.1.1) b) in
        inr (is ∙ sym is_too, subst (Contains lone) (sym is) x.1.0)
  ]

  module _ (Together : ReadField → ReadField → Type 0) where
    -- where both are settled, they are so beside each other
    settled_beside : (Below Agree : ReadField → ReadField → Type 0) → IsSettledIn Below Together Agree (StandWhere Together lists)
        → IsSettledIn Below Together Agree (StandAlone Together lone) → IsSettledIn Below Together Agree (StandWhere Together (with_alone lists lone))
    settled_beside Below Agree kept one = record {
      agree = λ f g stand t. elim (stand_cases f g (stand t)) [ inl h ↦ kept.agree f g (λ u. h) t | inr h ↦ one.agree f g (λ u. h) t ];
      below = λ f g x y stand t a b u. elim (stand_cases f g (stand t)) [
        | inl h ↦ stand_kept x y (kept.below f g x y (λ v. h) t a b u)
        | inr h ↦ stand_one x y (one.below f g x y (λ v. h) t a b u)
      ];
    }

    start_beside : (Starts : ReadField → Type 0) → StartsStand Starts (StandAlone Together lone) → StartsStand Starts (StandWhere Together (with_alone lists lone))
    start_beside Starts start f g a b t = stand_one f g (start f g a b t)

-- ---- of an operation

module _ (s : Judged) (d : MeantDocument Place) (o : MeantOperation Place) where
  -- the lists that were examined are closed with some fields alone: none, or those of the operation
  pub closed_with_alone : (new : Examined) → AreReadShapesStanding d s (StandWhere ReadSameKey (lists_examined new)) → StartsOrIsLone s d o new
      → (lone : List ReadField) × AreClosed s d o (with_alone (lists_examined new) lone)
  closed_with_alone new kept (inl start) =
      let both : AreClosed s d o (lists_examined new) = (kept, start.0) in
      ([], subst (AreClosed s d o) (sym (append-nil (lists_examined new))) both)
  closed_with_alone new kept (inr lone) = (
    lone.0,
    (
      settled_beside (lists_examined new) lone.0 ReadSameKey (ReadBelow d) (ReadSameShape s) kept (lone_shapes s d o lone),
      start_beside (lists_examined new) lone.0 ReadSameKey (ReadStarts d o) (lone_start s d o lone),
    ),
  )

  module _ (old : Examined) (asks : Bool) where
    -- where its keys are lone, nothing is told and nothing is left
    pub lone_examined : AreKeysLone (fragments_read d) (set_read o.set) → (told : Breaches) → ExaminesOperation s d o old (record old { may_be_lone = asks }) told told false
    lone_examined lone told = (
      [],
      (
        sym (append-nil (brokens_of told)),
        record {
          right = λ fault c. not_in_nil fault c;
          settled = λ none ended both. (both, (inr lone, lone_merge s d o lone));
          bound = λ is. absurd (true≢false (sym is));
        },
      ),
    )

    -- an examination does not depend on whether this was asked
    pub asked_examined : (new : Examined) (before told : Breaches) (left : Bool) → ExaminesOperation s d o (record old { may_be_lone = asks }) new before told left
        → ExaminesOperation s d o old new before told left
    asked_examined new before told left (added, (is, h)) = (added, (is, record { right = h.right; settled = h.settled; bound = h.bound }))
