-- Where any two fields of a set that have one key are one field, at any depth, fields merge: a field agrees with itself.
use Rattle.std.proofs.Common.{◌≡◌, List, [], None, Contains, refl, sym, subst, inl}
use Rattle.spec_document.specs.MeantTree.{meant_set, no_meant, MeantOperation, MeantDocument}
use Rattle.graphql_names.specs.Placed.{Place, Text}
use Rattle.rule_definitions.specs.Judged.{Judged}
use Rattle.rule_document_definitions.specs.Selected.{InOperation, StandingField}
use Rattle.rule_document_definitions.specs.Settled.{StartsStand, IsSettledIn}
use Rattle.rule_document_definitions.specs.Merging.{FieldsMerge}
use Rattle.rule_document_definitions.specs.ReadFields.{ReadField, head_of, set_read, fragments_read, ReadSameKey, ReadMayShare, ReadSameShape, ReadSameNameAndArguments, ReadBelow, ReadStarts, AreReadShapesStanding, AreReadSelectionsStanding}
use Rattle.rule_document_definitions.proofs.ReadFacts.{standing_reads_merge}
use Rattle.rule_document_definitions.proofs.Reflexive.{selection_refl}
use Rattle.rule_reach.specs.LoneKeys.{AreKeysLone}

-- both are one of these fields
abbrev pub AreOne : {F : Type 0} → List F → F → F → Type 0
AreOne fields f g = (f ≡ g) × Contains fields f

-- the same of two that go together
abbrev pub StandAlone : {F : Type 0} → (F → F → Type 0) → List F → F → F → Type 0
StandAlone Together fields f g = Together f g → AreOne fields f g

module _ {F : Type 0} (Together : F → F → Type 0) (fields : List F) where
  -- these fields are settled, if what lies below them is among them, and below one of them each is the only one of its kind
  pub alone_settled : (Below Agree : F → F → Type 0) → ((f : F) → Agree f f) → ((f x : F) → Contains fields f → Below f x → Contains fields x)
      → ((f x y : F) → Contains fields f → Below f x → Below f y → Together x y → x ≡ y) → IsSettledIn Below Together Agree (StandAlone Together fields)
  alone_settled Below Agree itself below only = record {
    agree = λ f g stand t. subst (Agree f) (stand t).0 (itself f);
    below = λ f g x y stand t a b u.
        let one = stand t in
        (only f x y one.1 a (subst (λ z. Below z y) (sym one.0) b) u, below f x one.1 a);
  }

  -- and so is what starts
  pub start_alone : (Starts : F → Type 0) → ((x : F) → Starts x → Contains fields x) → ((x y : F) → Starts x → Starts y → Together x y → x ≡ y)
      → StartsStand Starts (StandAlone Together fields)
  start_alone Starts starts only f g a b t = (only f g a b t, starts f a)

-- ---- a field agrees with itself

shape_itself : (s : Judged) (x : ReadField) → ReadSameShape s x x
shape_itself s x = (refl, inl refl)

-- a field of which this is read, without its definition and its set
abbrev standing : ReadField → StandingField (Unit {0})
standing x =
    let h = head_of x in
    let name : Text (Unit {0}) = record { it = h.name; place = tt } in
    record {
      position = InOperation None;
      parent = h.parent;
      place = tt;
      definition = record { description = None; name = name; arguments = []; ty = h.ty; directives = [] };
      head = record { alias = None; name = name; arguments = h.arguments; directives = [] };
      set = meant_set [] no_meant;
    }

selection_itself : (x : ReadField) → ReadSameNameAndArguments x x
selection_itself x = selection_refl (standing x)

-- ---- the fields of an operation whose keys are lone

module _ (s : Judged) (d : MeantDocument Place) (o : MeantOperation Place) (lone : AreKeysLone (fragments_read d) (set_read o.set)) where
  pub lone_shapes : AreReadShapesStanding d s (StandAlone ReadSameKey lone.0)
  lone_shapes = alone_settled ReadSameKey lone.0 (ReadBelow d) (ReadSameShape s) (shape_itself s) lone.1.below (λ f x y c a b k. lone.1.sets f c x y a b k)

  pub lone_start : StartsStand (ReadStarts d o) (StandAlone ReadSameKey lone.0)
  lone_start = start_alone ReadSameKey lone.0 (ReadStarts d o) lone.1.starts lone.1.start

  lone_selections : AreReadSelectionsStanding d s (StandAlone (ReadMayShare s) lone.0)
  lone_selections = alone_settled (ReadMayShare s) lone.0 (ReadBelow d) ReadSameNameAndArguments selection_itself lone.1.below (λ f x y c a b k. lone.1.sets f c x y a b k.0)

  lone_start_too : StartsStand (ReadStarts d o) (StandAlone (ReadMayShare s) lone.0)
  lone_start_too = start_alone (ReadMayShare s) lone.0 (ReadStarts d o) lone.1.starts (λ x y a b k. lone.1.start x y a b k.0)

  -- they merge
  pub lone_merge : FieldsMerge s d o
  lone_merge = standing_reads_merge d s o (StandAlone ReadSameKey lone.0) (StandAlone (ReadMayShare s) lone.0) lone_shapes lone_start lone_selections lone_start_too
