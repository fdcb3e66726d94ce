-- What rules on merging tell of a document without places.
use Rattle.std.proofs.Common.{◌≡◌, ◌↔◌, ℕ, List, sym, ap, subst}
use Rattle.fault_document_errors.specs.DocumentBreaches.{ConflictingFieldName, ConflictingFieldArgument, ConflictingFieldType}
use Rattle.spec_document.specs.MeantTree.{MeantOperation, MeantDocument}
use Rattle.spec_document.specs.Unplaced.{unplaced_operation, unplaced_document}
use Rattle.schema_coordinates.specs.Coordinate.{OfArgument}
use Rattle.rule_definitions.specs.Judged.{Judged}
use Rattle.rule_document_definitions.specs.DocumentFaults.{Broken, broken}
use Rattle.rule_document_definitions.specs.Selected.{StandingField, field_name, response_key}
use Rattle.rule_document_definitions.specs.Chains.{Meet}
use Rattle.rule_document_definitions.specs.SameValues.{plain_given, SameGiven}
use Rattle.rule_document_definitions.specs.Merging.{SameKey, MayShare, SameShape, SameName, SameArgument, Below, Starts, telling, telling_argument, ConflictingFieldTypeAt, ConflictingFieldNameAt, ConflictingFieldArgumentAt, MergingBreaks}
use Rattle.rule_document_definitions.proofs.Along.{meet_down, meet_up}
use Rattle.rule_document_definitions.proofs.Unplaced.{unplaced_field}
use Rattle.rule_document_definitions.proofs.MergingUnplaced.{given_same, key_same, key_down, key_up, starts_map, starts_unmap, below_map, below_unmap}
use Rattle.rule_document_definitions.proofs.Moves.{same, neither, Moves, moves_either, moves_some}
use Rattle.rule_document_definitions.proofs.UnplacedRoots.{Told, moves_broken}

module _ {P : Type 0} (d : MeantDocument P) (o : MeantOperation P) where
  -- of two fields that meet and do not agree
  moves_meeting : (Together Agree : StandingField P → StandingField P → Type 0) (With Match : StandingField (Unit {0}) → StandingField (Unit {0}) → Type 0)
      → ((f g : StandingField P) → Together f g ↔ With (unplaced_field f) (unplaced_field g)) → ((f g : StandingField P) → Agree f g ↔ Match (unplaced_field f) (unplaced_field g))
      → (R : StandingField P → StandingField P → Broken P → Type 0) (S : StandingField (Unit {0}) → StandingField (Unit {0}) → Broken (Unit {0}) → Type 0)
      → ((f g : StandingField P) → Moves Told (R f g) (S (unplaced_field f) (unplaced_field g)))
      → Moves Told (λ b. (f : StandingField P) × ((g : StandingField P) × (Meet (Below d) Together (Starts d o) f g × ((Agree f g → ⊥) × R f g b))))
      (λ c. (f : StandingField (Unit {0})) × ((g : StandingField (Unit {0})) × (Meet (Below (unplaced_document d)) With (Starts (unplaced_document d) (unplaced_operation o)) f g × ((Match f g → ⊥) × S f g c))))
  moves_meeting Together Agree With Match goes agree R S each c = (
    λ h.
        let m = meet_up unplaced_field (Below d) (Below (unplaced_document d)) Together With (Starts d o) (Starts (unplaced_document d) (unplaced_operation o))
        (below_unmap d) (starts_unmap d o) (λ f g t. (goes f g).1 t) h.0 h.1.0 h.1.1.0 in
        let there : (Match (unplaced_field m.0) (unplaced_field m.1.0) → ⊥) × S (unplaced_field m.0) (unplaced_field m.1.0) c =
        subst (λ y. (Match y (unplaced_field m.1.0) → ⊥) × S y (unplaced_field m.1.0) c) (sym m.1.1.1.0) (subst (λ z. (Match h.0 z → ⊥) × S h.0 z c) (sym m.1.1.1.1) h.1.1.1) in
        let r = (each m.0 m.1.0 c).0 there.1 in
        (r.0, ((m.0, (m.1.0, (m.1.1.0, ((neither (agree m.0 m.1.0)).1 there.0, r.1.0)))), r.1.1)),
    λ q.
        let f = q.1.0.0 in
        let g = q.1.0.1.0 in (
          unplaced_field f,
          (
            unplaced_field g,
            (
              meet_down unplaced_field (Below d) (Below (unplaced_document d)) Together With (Starts d o) (Starts (unplaced_document d) (unplaced_operation o))
                  (below_map d) (starts_map d o) (λ x y t. (goes x y).0 t) f g q.1.0.1.1.0,
              ((neither (agree f g)).0 q.1.0.1.1.1.0, (each f g c).1 (q.0, (q.1.0.1.1.1.1, q.1.1))),
            ),
          ),
        ),
  )

  keys_same : (f g : StandingField P) → SameKey f g ↔ SameKey (unplaced_field f) (unplaced_field g)
  keys_same f g = (key_down f g, key_up f g)

  module _ (s : Judged) where
    shares_same : (f g : StandingField P) → MayShare s f g ↔ MayShare s (unplaced_field f) (unplaced_field g)
    shares_same f g = (λ h. (key_down f g h.0, h.1), λ h. (key_up f g h.0, h.1))

    type_bared : Moves Told (ConflictingFieldTypeAt s d o) (ConflictingFieldTypeAt s (unplaced_document d) (unplaced_operation o))
    type_bared = moves_meeting SameKey (SameShape s) SameKey (SameShape s) keys_same (λ f g. same)
        (λ f g b. b ≡ broken g.place (ConflictingFieldType (response_key g) (telling f f.definition.ty) (telling g g.definition.ty)))
        (λ f g c. c ≡ broken g.place (ConflictingFieldType (response_key g) (telling f f.definition.ty) (telling g g.definition.ty)))
        (λ f g. moves_broken g.place (ConflictingFieldType (response_key g) (telling f f.definition.ty) (telling g g.definition.ty))
        (ConflictingFieldType (response_key (unplaced_field g)) (telling (unplaced_field f) f.definition.ty) (telling (unplaced_field g) g.definition.ty))
        (ap (λ k. ConflictingFieldType k (telling (unplaced_field f) f.definition.ty) (telling (unplaced_field g) g.definition.ty)) (sym (key_same g))))

    name_bared : Moves Told (ConflictingFieldNameAt s d o) (ConflictingFieldNameAt s (unplaced_document d) (unplaced_operation o))
    name_bared = moves_meeting (MayShare s) SameName (MayShare s) SameName shares_same (λ f g. same)
        (λ f g b. b ≡ broken g.place (ConflictingFieldName (response_key g) (telling f tt) (telling g tt)))
        (λ f g c. c ≡ broken g.place (ConflictingFieldName (response_key g) (telling f tt) (telling g tt)))
        (λ f g. moves_broken g.place (ConflictingFieldName (response_key g) (telling f tt) (telling g tt))
        (ConflictingFieldName (response_key (unplaced_field g)) (telling (unplaced_field f) tt) (telling (unplaced_field g) tt))
        (ap (λ k. ConflictingFieldName k (telling (unplaced_field f) tt) (telling (unplaced_field g) tt)) (sym (key_same g))))

    argument_same : (n : List ℕ) (f g : StandingField P) → SameArgument n f g ↔ SameArgument n (unplaced_field f) (unplaced_field g)
    argument_same n f g = (
      λ h. subst (λ x. SameGiven x (plain_given n (unplaced_field g).head.arguments)) (sym (given_same n f.head.arguments)) (subst (SameGiven (plain_given n f.head.arguments)) (sym (given_same n g.head.arguments)) h),
      λ h. subst (λ x. SameGiven x (plain_given n g.head.arguments)) (given_same n f.head.arguments) (subst (SameGiven (plain_given n (unplaced_field f).head.arguments)) (given_same n g.head.arguments) h),
    )

    argument_bared : Moves Told (ConflictingFieldArgumentAt s d o) (ConflictingFieldArgumentAt s (unplaced_document d) (unplaced_operation o))
    argument_bared = moves_some Told _ _ (λ n.
        moves_meeting (MayShare s) (SameArgument n) (MayShare s) (SameArgument n) shares_same (argument_same n)
        (λ f g b. b ≡ broken g.place (ConflictingFieldArgument (response_key g) (telling_argument n f) (telling_argument n g)))
        (λ f g c. c ≡ broken g.place (ConflictingFieldArgument (response_key g) (telling_argument n f) (telling_argument n g)))
        (λ f g. moves_broken g.place (ConflictingFieldArgument (response_key g) (telling_argument n f) (telling_argument n g))
        (ConflictingFieldArgument (response_key (unplaced_field g)) (telling_argument n (unplaced_field f)) (telling_argument n (unplaced_field g)))
        (λ i. ConflictingFieldArgument (sym (key_same g) i)
        (record { location = tt; coordinate = OfArgument f.parent (field_name f) n; what = sym (given_same n f.head.arguments) i })
        (record { location = tt; coordinate = OfArgument g.parent (field_name g) n; what = sym (given_same n g.head.arguments) i }))))

    pub merging_bared : Moves Told (MergingBreaks s d o) (MergingBreaks s (unplaced_document d) (unplaced_operation o))
    merging_bared = moves_either Told type_bared (moves_either Told name_bared argument_bared)
