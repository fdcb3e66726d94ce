-- What is read of fields says all that merging asks, and what lies below a field is read of what is below it; so fields merge exactly
-- if what is read of them does.
use Rattle.std.proofs.Common.{◌≡◌, ◌↔◌, ◌∙◌, ℕ, List, [], ◌∷◌, ◌++◌, map, Contains, refl, sym, ap, ap₂, subst, append_assoc}
use Rattle.std.specs.Prelude.{Option, Some, None, flat_map, option_map}
use Rattle.std.proofs.lemmas.List.{map-append}
use Rattle.graphql_names.specs.Placed.{Text, unplaced_text}
use Rattle.tree_directives.specs.DirectiveTree.{Arguments, unplaced_arguments}
use Rattle.spec_document.specs.MeantTree.{Definition, MeantSelection, MeantField, MeantSpread, MeantInline, MeantSet, meant_set, MeantSelections, no_meant, meant_then, MeantOperation, MeantFragment, MeantDocument}
use Rattle.spec_document.specs.Unplaced.{unplaced_meant, unplaced_set, unplaced_members}
use Rattle.tree_operations.specs.SelectionTree.{FieldHead, unplaced_head}
use Rattle.rule_definitions.specs.Judged.{Judged}
use Rattle.rule_definitions.specs.in_schema_types.Addresses.{under}
use Rattle.rule_definitions.proofs.Lists.{mapped_some}
use Rattle.rule_document_definitions.specs.Selected.{HasNone, InOperation, StandingField, operation_name}
use Rattle.rule_document_definitions.specs.Chains.{Merge}
use Rattle.rule_document_definitions.specs.Reached.{IsFieldOf}
use Rattle.rule_document_definitions.specs.SameValues.{SameGiven, SameArguments, plain_given}
use Rattle.rule_document_definitions.specs.Merging.{FieldsMerge, Below, Starts, SameKey, MayShare, SameShape, SameName, SameNameAndArguments}
use Rattle.rule_document_definitions.specs.Contents.{content, unplaced_content}
use Rattle.rule_document_definitions.specs.Settled.{StandWhere, StartsStand}
use Rattle.rule_document_definitions.specs.Written.{written_at, written_along, spread_written, spreads_written}
use Rattle.rule_document_definitions.proofs.FieldsWritten.{field_written, fields_written, SpreadsSet, IsSetFrom}
use Rattle.rule_document_definitions.specs.ReadFields.{ReadField, read_field, ReadSet, nothing_read, read_set, ReadFields, no_reads, read_then, listed, joined, fields_in, spreads_in, head_read, whole_set, fields_read_at, fields_read, fields_read_along, set_read, list_read, field_read, fragments_read, ReadSameKey, ReadMayShare, ReadSameShape, ReadSameName, ReadSameNameAndArguments, SpreadsRead, IsReadFrom, SelectsRead, ReadBelow, ReadStarts, AreReadShapesStanding, AreReadSelectionsStanding, ReadFieldsMerge}
use Rattle.rule_document_definitions.proofs.Along.{merge_back, merge_on}
use Rattle.rule_document_definitions.proofs.Unplaced.{contains_map, contains_unmap, closed_map, closed_unmap, under_same}
use Rattle.rule_document_definitions.proofs.MergingUnplaced.{twice, given_same}
use Rattle.rule_document_definitions.proofs.SettledFacts.{standing_merge}
use Rattle.rule_document_definitions.proofs.WrittenFacts.{written_from}

-- the same as `FieldsMerge`, of chains of what is read
pub record ReadsMerge {P : Type 0} (s : Judged) (d : MeantDocument P) (o : MeantOperation P) : Type 0 where
  pub shapes : Merge (ReadBelow d) ReadSameKey (ReadStarts d o) (ReadSameShape s)
  pub selections : Merge (ReadBelow d) (ReadMayShare s) (ReadStarts d o) ReadSameNameAndArguments

-- ---- lists

pub flat_map-append : {X Y : Type 0} (f : X → List Y) (xs ys : List X) → flat_map f (xs ++ ys) ≡ flat_map f xs ++ flat_map f ys
flat_map-append f [] ys = refl
flat_map-append f (x ∷ xs) ys = ap (λ l. f x ++ l) (flat_map-append f xs ys) ∙ sym (append_assoc (f x) (flat_map f xs) (flat_map f ys))

listed-joined : (fs gs : ReadFields) → listed (joined fs gs) ≡ listed fs ++ listed gs
listed-joined no_reads gs = refl
listed-joined (read_then f fs) gs = ap (λ l. f ∷ l) (listed-joined fs gs)

module _ {P : Type 0} where
  -- ---- what is read of a set is read of what is written in it

  mutual
    read_written_at : (t : List ℕ) (m : MeantSelection P) → listed (fields_read_at t m) ≡ map field_read (flat_map field_written (written_at t m))
    read_written_at t (MeantField p d h s) = refl
    read_written_at t (MeantSpread p n ds) = refl
    read_written_at t (MeantInline p c ds s) = read_written s

    pub read_written : (s : MeantSet P) → listed (fields_read s) ≡ map field_read (fields_written s)
    read_written (meant_set t ss) = read_written_along t ss

    read_written_along : (t : List ℕ) (ss : MeantSelections P) → listed (fields_read_along t ss) ≡ map field_read (flat_map field_written (written_along t ss))
    read_written_along t no_meant = refl
    read_written_along t (meant_then s ss) =
        listed-joined (fields_read_at t s) (fields_read_along t ss)
        ∙ (ap₂ (λ k l. k ++ l) (read_written_at t s) (read_written_along t ss)
        ∙ (sym (map-append field_read (flat_map field_written (written_at t s)) (flat_map field_written (written_along t ss)))
        ∙ ap (map field_read) (sym (flat_map-append field_written (written_at t s) (written_along t ss)))))

  pub fields_of_read : (s : MeantSet P) → fields_in (set_read s) ≡ map field_read (fields_written s)
  fields_of_read (meant_set t no_meant) = refl
  fields_of_read (meant_set t (meant_then s ss)) = read_written (meant_set t (meant_then s ss))

  pub spreads_of_read : (s : MeantSet P) → spreads_in (set_read s) ≡ spreads_written s
  spreads_of_read (meant_set t no_meant) = refl
  spreads_of_read (meant_set t (meant_then s ss)) = refl

  -- a set with selections is read as any set is
  pub listed_read : (s : MeantSet P) → (HasNone s → ⊥) → set_read s ≡ list_read s
  listed_read (meant_set t no_meant) some = absurd (some tt)
  listed_read (meant_set t (meant_then s ss)) some = refl

  pub nothing_read_of : (s : MeantSet P) → HasNone s → set_read s ≡ nothing_read
  nothing_read_of (meant_set t no_meant) none = refl
  nothing_read_of (meant_set t (meant_then s ss)) none = absurd none

  -- ---- what is read says what merging asks

  pub key_read : (f g : StandingField P) → SameKey f g ↔ ReadSameKey (field_read f) (field_read g)
  key_read f g = (λ e. e, λ e. e)

  pub may_share_read : (s : Judged) (f g : StandingField P) → MayShare s f g ↔ ReadMayShare s (field_read f) (field_read g)
  may_share_read s f g = (λ e. e, λ e. e)

  pub shape_read : (s : Judged) (f g : StandingField P) → SameShape s f g ↔ ReadSameShape s (field_read f) (field_read g)
  shape_read s f g = (λ e. e, λ e. e)

  pub name_read : (f g : StandingField P) → SameName f g ↔ ReadSameName (field_read f) (field_read g)
  name_read f g = (λ e. e, λ e. e)

  pub arguments_read : (a b : Arguments P) → SameArguments a b ↔ SameArguments (unplaced_arguments a) (unplaced_arguments b)
  arguments_read a b = (
    λ h n. subst (λ x. SameGiven x (plain_given n (unplaced_arguments b))) (sym (given_same n a)) (subst (SameGiven (plain_given n a)) (sym (given_same n b)) (h n)),
    λ h n. subst (λ x. SameGiven x (plain_given n b)) (given_same n a) (subst (SameGiven (plain_given n (unplaced_arguments a))) (given_same n b) (h n)),
  )

  pub selections_read : (f g : StandingField P) → SameNameAndArguments f g ↔ ReadSameNameAndArguments (field_read f) (field_read g)
  selections_read f g =
      let same = arguments_read f.head.arguments g.head.arguments in
      (λ h. (h.0, same.0 h.1), λ h. (h.0, same.1 h.1))

-- ---- it does not depend on places

arguments_twice : {P : Type 0} (a : Arguments P) → unplaced_arguments (unplaced_arguments a) ≡ unplaced_arguments a
arguments_twice [] = refl
arguments_twice (a ∷ as') = ap₂
    (λ v l. record { it = record { name = unplaced_text a.it.name; value = record { it = v; place = tt } }; place = tt } ∷ l)
    (twice a.it.value.it) (arguments_twice as')

module _ {P : Type 0} where
  pub head_unplaced : (t : List ℕ) (d : Definition) (h : FieldHead P) → head_read t d (unplaced_head h) ≡ head_read t d h
  head_unplaced t d h = by h.alias
    where
      by : (a : Option (Text P)) → head_read t d (unplaced_head (record { alias = a; name = h.name; arguments = h.arguments; directives = h.directives })) ≡ head_read t d (record { alias = a; name = h.name; arguments = h.arguments; directives = h.directives })
      by None = ap (λ as'. record { parent = t; key = h.name.it; name = h.name.it; arguments = as'; ty = d.ty }) (arguments_twice h.arguments)
      by (Some n) = ap (λ as'. record { parent = t; key = n.it; name = h.name.it; arguments = as'; ty = d.ty }) (arguments_twice h.arguments)

  mutual
    spreads_unplaced_at : (t : List ℕ) (m : MeantSelection P) → flat_map spread_written (written_at t (unplaced_meant m)) ≡ flat_map spread_written (written_at t m)
    spreads_unplaced_at t (MeantField p d h s) = refl
    spreads_unplaced_at t (MeantSpread p n ds) = refl
    spreads_unplaced_at t (MeantInline p c ds s) = spreads_unplaced s

    pub spreads_unplaced : (s : MeantSet P) → spreads_written (unplaced_set s) ≡ spreads_written s
    spreads_unplaced (meant_set t ss) = spreads_unplaced_along t ss

    spreads_unplaced_along : (t : List ℕ) (ss : MeantSelections P) → flat_map spread_written (written_along t (unplaced_members ss)) ≡ flat_map spread_written (written_along t ss)
    spreads_unplaced_along t no_meant = refl
    spreads_unplaced_along t (meant_then s ss) =
        flat_map-append spread_written (written_at t (unplaced_meant s)) (written_along t (unplaced_members ss))
        ∙ (ap₂ (λ k l. k ++ l) (spreads_unplaced_at t s) (spreads_unplaced_along t ss)
        ∙ sym (flat_map-append spread_written (written_at t s) (written_along t ss)))

  whole_unplaced : (s : MeantSet P) (fs gs : ReadFields) → fs ≡ gs → whole_set (unplaced_set s) fs ≡ whole_set s gs
  whole_unplaced (meant_set t no_meant) fs gs e = refl
  whole_unplaced (meant_set t (meant_then s ss)) fs gs e = ap₂ (λ k l. read_set k l) e (spreads_unplaced (meant_set t (meant_then s ss)))

  mutual
    read_unplaced_at : (t : List ℕ) (m : MeantSelection P) → fields_read_at t (unplaced_meant m) ≡ fields_read_at t m
    read_unplaced_at t (MeantField p d h s) = ap₂ (λ k l. read_then (read_field k l) no_reads) (head_unplaced t d h) (whole_unplaced s (fields_read (unplaced_set s)) (fields_read s) (read_unplaced s))
    read_unplaced_at t (MeantSpread p n ds) = refl
    read_unplaced_at t (MeantInline p c ds s) = read_unplaced s

    read_unplaced : (s : MeantSet P) → fields_read (unplaced_set s) ≡ fields_read s
    read_unplaced (meant_set t ss) = read_unplaced_along t ss

    read_unplaced_along : (t : List ℕ) (ss : MeantSelections P) → fields_read_along t (unplaced_members ss) ≡ fields_read_along t ss
    read_unplaced_along t no_meant = refl
    read_unplaced_along t (meant_then s ss) = ap₂ joined (read_unplaced_at t s) (read_unplaced_along t ss)

  pub set_read_unplaced : (s : MeantSet P) → set_read (unplaced_set s) ≡ set_read s
  set_read_unplaced s = whole_unplaced s (fields_read (unplaced_set s)) (fields_read s) (read_unplaced s)

  pub field_read_unplaced : (f : StandingField P) → field_read (unplaced_content f) ≡ field_read f
  field_read_unplaced f = ap₂ (λ k l. read_field k l) (head_unplaced f.parent f.definition f.head) (set_read_unplaced f.set)

  pub field_read_content : (f : StandingField P) → field_read (content f) ≡ field_read f
  field_read_content f = refl

-- ---- below a field, and first of an operation

module _ {P : Type 0} (d : MeantDocument P) where
  under_read : (n : List ℕ) → under n (fragments_read d) ≡ option_map (λ f. set_read f.set) (under n d.fragments)
  under_read n = under_same (λ (f : MeantFragment P). set_read f.set) n d.fragments

  set_of_some : (o : Option (MeantFragment P)) (t : MeantSet P) → option_map (λ f. f.set) o ≡ Some t → option_map (λ f. set_read f.set) o ≡ Some (set_read t)
  set_of_some None t e = cc
  set_of_some (Some f) t e = let same : f.set ≡ t = cc in ap (λ v. Some (set_read v)) same

  -- spreads lead to sets of which is read what spreads lead to
  spreads_down : (s t : MeantSet P) → SpreadsSet d.fragments s t → SpreadsRead (fragments_read d) (set_read s) (set_read t)
  spreads_down s t (n, (c, e)) = (n, (subst (λ l. Contains l n) (sym (spreads_of_read s)) c, under_read n ∙ set_of_some (under n d.fragments) t e))

  spreads_up : (s : MeantSet P) (v : ReadSet) → SpreadsRead (fragments_read d) (set_read s) v → (t : MeantSet P) × (SpreadsSet d.fragments s t × (set_read t ≡ v))
  spreads_up s v (n, (c, e)) =
      let f = mapped_some (λ (g : MeantFragment P). set_read g.set) (under n d.fragments) v (sym (under_read n) ∙ e) in
      (f.0.set, ((n, (subst (λ l. Contains l n) (spreads_of_read s) c, ap (option_map (λ (g : MeantFragment P). g.set)) f.1.0)), sym f.1.1))

  from_down : (s t : MeantSet P) → IsSetFrom d.fragments s t → IsReadFrom (fragments_read d) (set_read s) (set_read t)
  from_down s t r = closed_map set_read (λ v e. ap set_read e) spreads_down t r

  from_up : (s : MeantSet P) (v : ReadSet) → IsReadFrom (fragments_read d) (set_read s) v → (t : MeantSet P) × (IsSetFrom d.fragments s t × (set_read t ≡ v))
  from_up s v r = closed_unmap set_read (λ w e. (s, (refl, sym e))) spreads_up v r

  -- a field that a set has through fragments is read of what is read of the set
  pub selects_read : (at : _) (s : MeantSet P) (f : StandingField P) → IsFieldOf d at s f → SelectsRead (fragments_read d) (set_read s) (field_read f)
  selects_read at s f is =
      let t = (written_from d at s (content f)).0 (f, (is, refl)) in
      (set_read t.0, (from_down s t.0 t.1.0, subst (λ l. Contains l (field_read f)) (sym (fields_of_read t.0)) (contains_map field_read (fields_written t.0) (content f) t.1.1)))

  -- and what is read so is read of some field that the set has through fragments
  pub read_selects : (at : _) (s : MeantSet P) (y : ReadField) → SelectsRead (fragments_read d) (set_read s) y → (f : StandingField P) × (IsFieldOf d at s f × (field_read f ≡ y))
  read_selects at s y (v, (r, c)) =
      let t = from_up s v r in
      let x = contains_unmap field_read (fields_written t.0) y (subst (λ l. Contains l y) (fields_of_read t.0) (subst (λ w. Contains (fields_in w) y) (sym t.1.1) c)) in
      let f = (written_from d at s x.0).1 (t.0, (t.1.0, x.1.0)) in
      (f.0, (f.1.0, ap field_read f.1.1 ∙ x.1.1))

  pub read_below : (f g : StandingField P) → Below d f g → ReadBelow d (field_read f) (field_read g)
  read_below f g b = selects_read f.position f.set g b

  pub below_read : (f : StandingField P) (y : ReadField) → ReadBelow d (field_read f) y → (g : StandingField P) × (Below d f g × (field_read g ≡ y))
  below_read f y b = read_selects f.position f.set y b

  pub read_starts : (o : MeantOperation P) (f : StandingField P) → Starts d o f → ReadStarts d o (field_read f)
  read_starts o f b = selects_read (InOperation (operation_name o)) o.set f b

  pub starts_read : (o : MeantOperation P) (y : ReadField) → ReadStarts d o y → (f : StandingField P) × (Starts d o f × (field_read f ≡ y))
  starts_read o y b = read_selects (InOperation (operation_name o)) o.set y b

  -- ---- fields merge exactly if what is read of them does

  module _ (s : Judged) (o : MeantOperation P) where
    pub reads_merge : FieldsMerge s d o ↔ ReadsMerge s d o
    reads_merge = (
      (λ m. record {
        shapes = merge_on field_read (Below d) (ReadBelow d) SameKey (SameShape s) ReadSameKey (ReadSameShape s) (Starts d o) (ReadStarts d o)
            below_read (starts_read o) (λ f g t. t) (λ f g a. a) m.shapes;
        selections = merge_on field_read (Below d) (ReadBelow d) (MayShare s) SameNameAndArguments (ReadMayShare s) ReadSameNameAndArguments (Starts d o) (ReadStarts d o)
            below_read (starts_read o) (λ f g t. t) (λ f g a. (selections_read f g).0 a) m.selections;
      }),
      (λ m. record {
        shapes = merge_back field_read (Below d) (ReadBelow d) SameKey (SameShape s) ReadSameKey (ReadSameShape s) (Starts d o) (ReadStarts d o)
            read_below (read_starts o) (λ f g t. t) (λ f g a. a) m.shapes;
        selections = merge_back field_read (Below d) (ReadBelow d) (MayShare s) SameNameAndArguments (ReadMayShare s) ReadSameNameAndArguments (Starts d o) (ReadStarts d o)
            read_below (read_starts o) (λ f g t. t) (λ f g a. (selections_read f g).1 a) m.selections;
      }),
    )

    -- where what is read of fields is settled, and all that starts stands with all that starts and goes together with it, the fields merge
    pub standing_reads_merge : (Shapes Selections : ReadField → ReadField → Type 0) → AreReadShapesStanding d s Shapes → StartsStand (ReadStarts d o) Shapes
        → AreReadSelectionsStanding d s Selections → StartsStand (ReadStarts d o) Selections → FieldsMerge s d o
    standing_reads_merge Shapes Selections settled start settled_too start_too = reads_merge.1 (record {
      shapes = standing_merge (ReadBelow d) ReadSameKey (ReadSameShape s) Shapes settled (ReadStarts d o) start;
      selections = standing_merge (ReadBelow d) (ReadMayShare s) ReadSameNameAndArguments Selections settled_too (ReadStarts d o) start_too;
    })

-- where lists of what is read are settled
pub read_fields_merge : ReadFieldsMerge
read_fields_merge s d o shapes selections = standing_reads_merge d s o (StandWhere ReadSameKey shapes) (StandWhere (ReadMayShare s) selections)
