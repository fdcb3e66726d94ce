-- Where contents settle, fields merge; and of lists that chains lead to only what is true is told.
use Rattle.std.proofs.Common.{◌≡◌, ℕ, ◌<◌, List, [], ◌∷◌, ◌++◌, length, Contains, refl, sym, ap, subst, ◌∙◌, inl, inr}
use Rattle.std.proofs.lemmas.List.{length-map}
use Rattle.graphql_names.specs.Placed.{Place}
use Rattle.fault_document_errors.specs.DocumentBreaches.{ConflictingFieldName, ConflictingFieldArgument, ConflictingFieldType}
use Rattle.spec_document.specs.MeantTree.{MeantOperation, MeantDocument}
use Rattle.rule_definitions.specs.Judged.{Judged}
use Rattle.rule_document_definitions.specs.DocumentFaults.{Broken, broken}
use Rattle.rule_document_definitions.specs.Selected.{StandingField, response_key}
use Rattle.rule_document_definitions.specs.Chains.{Meet}
use Rattle.rule_document_definitions.specs.Merging.{Below, Starts, SameKey, SameShape, MayShare, SameName, SameArgument, SameNameAndArguments, telling, telling_argument, AtMeeting, MergingBreaks}
use Rattle.rule_document_definitions.specs.Contents.{content, ContentBelow, ContentStarts}
use Rattle.rule_document_definitions.specs.Limits.{chain_bound}
use Rattle.rule_document_definitions.proofs.Along.{chain_up, meet_up}
use Rattle.rule_document_definitions.proofs.ContentFacts.{contents_merge}
use Rattle.rule_document_definitions.proofs.Same.{merges_by_contents}
use Rattle.rule_document_definitions.specs.PlainFields.{PlainBelow, PlainStarts, IsGoingByKeys, IsGoingByParents}
use Rattle.rule_document_definitions.specs.Settled.{StandWhere}
use Rattle.rule_document_definitions.specs.MergingLaws.{SettledFieldsMerge, StandingFieldsMerge, GoingFieldsAgree, GoingFieldsBreak, LongChainsPassTheBound}
use Rattle.rule_document_definitions.proofs.SettledFacts.{standing_merge, settled_merge}
use Rattle.rule_document_definitions.proofs.Elsewhere.{content_below, content_starts}

-- fields merge where lists of contents are settled that have all that starts
pub fields_merge : SettledFieldsMerge
fields_merge s d o shapes selections settled start settled_too start_too = (merges_by_contents s d o).1 (record {
  shapes = settled_merge (PlainBelow d) SameKey (SameShape s) shapes settled (PlainStarts d o) start;
  selections = settled_merge (PlainBelow d) (MayShare s) SameNameAndArguments selections settled_too (PlainStarts d o) start_too;
})

-- and where fields are settled that go together and are in lists
pub standing_fields_merge : StandingFieldsMerge
standing_fields_merge s d o shapes selections settled start settled_too start_too = (merges_by_contents s d o).1 (record {
  shapes = standing_merge (PlainBelow d) SameKey (SameShape s) (StandWhere SameKey shapes) settled (PlainStarts d o) start;
  selections = standing_merge (PlainBelow d) (MayShare s) SameNameAndArguments (StandWhere (MayShare s) selections) settled_too (PlainStarts d o) start_too;
})

-- ---- what is told is true

module _ (s : Judged) (d : MeantDocument Place) (o : MeantOperation Place) where
  -- where fields merge, those of lists that chains lead to agree
  pub going_agrees : GoingFieldsAgree s d o
  going_agrees merge list f g in_f in_g =
      let contents = (contents_merge d s o).0 merge in
      (λ going t. contents.shapes f g (going f g in_f in_g t), λ going t. contents.selections f g (going f g in_f in_g t))

  -- contents that meet are those of fields that meet
  pub at_meeting : (Together Agree Q : StandingField Place → StandingField Place → Type 0) → ((f g : StandingField Place) → Together (content f) (content g) → Together f g)
      → ((f g : StandingField Place) → Agree f g → Agree (content f) (content g)) → ((f g : StandingField Place) → Q (content f) (content g) → Q f g)
      → (fault : Broken Place) (f g : StandingField Place) → Meet (ContentBelow d) Together (ContentStarts d o) f g → (Agree f g → ⊥) → Q f g → AtMeeting s d o fault Together Agree Q
  at_meeting Together Agree Q together agree q fault f g meet differ is =
      let m = meet_up content (Below d) (ContentBelow d) Together Together (Starts d o) (ContentStarts d o) (content_below d) (content_starts d o) together f g meet in
      let there : (Agree (content m.0) (content m.1.0) → ⊥) × Q (content m.0) (content m.1.0) =
      subst (λ y. (Agree y (content m.1.0) → ⊥) × Q y (content m.1.0)) (sym m.1.1.1.0) (subst (λ z. (Agree f z → ⊥) × Q f z) (sym m.1.1.1.1) (differ, is)) in
      (m.0, (m.1.0, (m.1.1.0, (λ a. there.0 (agree m.0 m.1.0 a), q m.0 m.1.0 there.1))))

  module _ (list : List (StandingField Place)) (f g : StandingField Place) (in_f : Contains list f) (in_g : Contains list g) where
    -- fields of one key that differ in shape
    pub shapes_break : IsGoingByKeys d o list → SameKey f g → (SameShape s f g → ⊥)
        → MergingBreaks s d o (broken g.place (ConflictingFieldType (response_key g) (telling f f.definition.ty) (telling g g.definition.ty)))
    shapes_break going t differ =
        let fault : Broken Place = broken g.place (ConflictingFieldType (response_key g) (telling f f.definition.ty) (telling g g.definition.ty)) in
        inl (at_meeting SameKey (SameShape s) (λ x y. fault ≡ broken y.place (ConflictingFieldType (response_key y) (telling x x.definition.ty) (telling y y.definition.ty)))
        (λ x y t. t) (λ x y a. a) (λ x y e. e) fault f g (going f g in_f in_g t) differ refl)

    -- fields that one object may have that differ in name
    pub names_break : IsGoingByParents d o s list → MayShare s f g → (SameName f g → ⊥)
        → MergingBreaks s d o (broken g.place (ConflictingFieldName (response_key g) (telling f tt) (telling g tt)))
    names_break going t differ =
        let fault : Broken Place = broken g.place (ConflictingFieldName (response_key g) (telling f tt) (telling g tt)) in
        inr (inl (at_meeting (MayShare s) SameName (λ x y. fault ≡ broken y.place (ConflictingFieldName (response_key y) (telling x tt) (telling y tt)))
        (λ x y t. t) (λ x y a. a) (λ x y e. e) fault f g (going f g in_f in_g t) differ refl))

    -- in an argument
    pub arguments_break : IsGoingByParents d o s list → MayShare s f g → (n : List ℕ) → (SameArgument n f g → ⊥)
        → MergingBreaks s d o (broken g.place (ConflictingFieldArgument (response_key g) (telling_argument n f) (telling_argument n g)))
    arguments_break going t n differ =
        let fault : Broken Place = broken g.place (ConflictingFieldArgument (response_key g) (telling_argument n f) (telling_argument n g)) in
        inr (inr (
          n,
          at_meeting (MayShare s) (SameArgument n) (λ x y. fault ≡ broken y.place (ConflictingFieldArgument (response_key y) (telling_argument n x) (telling_argument n y)))
              (λ x y t. t) (λ x y a. a) (λ x y e. e) fault f g (going f g in_f in_g t) differ refl,
        ))

  -- what is told of fields that do not agree breaks a rule
  pub going_breaks : GoingFieldsBreak s d o
  going_breaks list f g in_f in_g = (shapes_break list f g in_f in_g, (names_break list f g in_f in_g, arguments_break list f g in_f in_g))

-- ---- the bound on chains

-- a field at the end of a chain of contents that is longer than the bound
pub bound_passed : LongChainsPassTheBound
bound_passed d o k list f ends in_f longer =
    let e = ends f in_f in
    let c = chain_up content (Below d) (ContentBelow d) (content_below d) (Starts d o) (ContentStarts d o) (content_starts d o) (e.0 ++ f ∷ []) e.1.0 in
    let same : k ≡ length c.0 = sym e.1.1 ∙ (ap length (sym c.1.1) ∙ length-map c.0 content) in
    (c.0, (c.1.0, subst (λ n. chain_bound < n) same longer))
