-- Tables stay right while they grow: what is added has the numbers of its parts.
use Rattle.std.proofs.Common.{◌≡◌, ◌⊎◌, ◌∙◌, ◌↔◌, ℕ, Bool, List, [], ◌∷◌, slice_get, Option, Some, None, refl, sym, ap, subst, inl, inr, IsTrue}
use Rattle.std.specs.List.{AllZip}
use Rattle.rule_cycle_search.specs.Paths.{HasNoRepeat}
use Rattle.rule_definitions.specs.Judged.{Judged}
use Rattle.rule_definitions.proofs.Lists.{index_found}
use Rattle.rule_document_definitions.specs.Merging.{IsAbstract}
use Rattle.rule_document_definitions.specs.ReadFields.{ReadField, read_field, ReadSet, read_set, ReadFields, no_reads, read_then, listed, head_of, set_of}
use Rattle.rule_field_sets.specs.declared.numbers.FieldKey.{FieldKey}
use Rattle.rule_field_sets.specs.Tables.{Enters, keys_in, PartTables, Tables, SetParts, MeansField, MeansSet, IsSetNumber, IsFieldKey, IsSetKey, ArePartsApart, AreRight, AreJudged, PartsGrow, TablesGrow}
use Rattle.rule_field_sets.proofs.Growing.{grows_same, grows_on, extends_same, extends_on, entries_same, entries_on, entered_grows, entered_is, entered_from, stays, zip_map, contains_at}
use Rattle.rule_field_sets.proofs.Once.{one_content, one_set_content}

-- ---- what a number means it means in larger tables

module _ (t u : Tables) (grow : TablesGrow t u) where
  pub means_on : (n : ℕ) (c : ReadField) → MeansField t n c → MeansField u n c
  means_on n c (k, at) = (k, stays t.fields u.fields n (k, c) grow.fields at)

  pub set_means_on : (n : ℕ) (c : ReadSet) → MeansSet t n c → MeansSet u n c
  set_means_on n c (k, at) = (k, stays t.sets u.sets n (k, c) grow.sets at)

  pub set_number_on : (n : Option ℕ) (c : ReadSet) → IsSetNumber t n c → IsSetNumber u n c
  set_number_on None c h = h
  set_number_on (Some n) c h = set_means_on n c h

  pub field_key_on : (k : FieldKey) (c : ReadField) → IsFieldKey t k c → IsFieldKey u k c
  field_key_on k c is = record {
    key = stays t.parts.keys u.parts.keys k.key (head_of c).key grow.parts.keys.grown is.key;
    parent = (is.parent.0, stays t.parts.parents u.parts.parents k.parent ((head_of c).parent, is.parent.0) grow.parts.parents.grown is.parent.1);
    call = stays t.parts.calls u.parts.calls k.call ((head_of c).name, (head_of c).arguments) grow.parts.calls.grown is.call;
    ty = stays t.parts.types u.parts.types k.ty (head_of c).ty grow.parts.types.grown is.ty;
    set = set_number_on k.set (set_of c) is.set;
  }

  pub set_key_on : (k : SetParts) (c : ReadSet) → IsSetKey t k c → IsSetKey u k c
  set_key_on k c (fs, (is, zip)) = (fs, (is, zip_map (MeansField t) (MeansField u) means_on k.0 (listed fs) zip))

-- ---- equal parts, equal contents

some_same : {A : Type 0} (o : Option A) (x y : A) → o ≡ Some x → o ≡ Some y → x ≡ y
some_same o x y a b = let same : Some x ≡ Some y = sym a ∙ b in cc

module _ (t : Tables) where
  set_number_one : (n : Option ℕ) (c d : ReadSet) → IsSetNumber t n c → IsSetNumber t n d → c ≡ d
  set_number_one None c d a b = a ∙ sym b
  set_number_one (Some n) c d a b = one_set_content t n c d a b

  field_key_one : (k : FieldKey) (c d : ReadField) → IsFieldKey t k c → IsFieldKey t k d → c ≡ d
  field_key_one k (read_field h s) (read_field g r) a b =
      let key : h.key ≡ g.key = some_same (slice_get t.parts.keys k.key) h.key g.key a.key b.key in
      let parent : (h.parent, a.parent.0) ≡ (g.parent, b.parent.0) = some_same (slice_get t.parts.parents k.parent) (h.parent, a.parent.0) (g.parent, b.parent.0) a.parent.1 b.parent.1 in
      let call : (h.name, h.arguments) ≡ (g.name, g.arguments) = some_same (slice_get t.parts.calls k.call) (h.name, h.arguments) (g.name, g.arguments) a.call b.call in
      let ty : h.ty ≡ g.ty = some_same (slice_get t.parts.types k.ty) h.ty g.ty a.ty b.ty in
      let set : s ≡ r = set_number_one k.set s r a.set b.set in
      λ i. read_field (record { parent = (parent i).0; key = key i; name = (call i).0; arguments = (call i).1; ty = ty i }) (set i)

  lists_one : (ns : List ℕ) (fs gs : ReadFields) → AllZip (MeansField t) ns (listed fs) → AllZip (MeansField t) ns (listed gs) → fs ≡ gs
  lists_one [] no_reads no_reads a b = refl
  lists_one [] no_reads (read_then g gs) a b = absurd b
  lists_one [] (read_then f fs) gs a b = absurd a
  lists_one (n ∷ ns) no_reads gs a b = absurd a
  lists_one (n ∷ ns) (read_then f fs) no_reads a b = absurd b
  lists_one (n ∷ ns) (read_then f fs) (read_then g gs) a b = λ i. read_then (one_content t n f g a.0 b.0 i) (lists_one ns fs gs a.1 b.1 i)

  set_key_one : (k : SetParts) (c d : ReadSet) → IsSetKey t k c → IsSetKey t k d → c ≡ d
  set_key_one k c d (fs, (a, p)) (gs, (b, q)) = a ∙ (ap (λ l. read_set l k.1) (lists_one k.0 fs gs p q) ∙ sym b)

-- ---- tables that grow stay right

parts_apart : (old new : PartTables) → PartsGrow old new → ArePartsApart old → ArePartsApart new
parts_apart old new grow apart = record {
  keys = grow.keys.apart apart.keys;
  parents = grow.parents.apart apart.parents;
  calls = grow.calls.apart apart.calls;
  types = grow.types.apart apart.types;
}

pub parts_same : (old new : PartTables) → new ≡ old → PartsGrow old new
parts_same old new e = record {
  keys = extends_same old.keys new.keys (ap (λ (p : PartTables). p.keys) e);
  parents = entries_same old.parents new.parents (ap (λ (p : PartTables). p.parents) e);
  calls = extends_same old.calls new.calls (ap (λ (p : PartTables). p.calls) e);
  types = extends_same old.types new.types (ap (λ (p : PartTables). p.types) e);
}

pub parts_on : (a b c : PartTables) → PartsGrow a b → PartsGrow b c → PartsGrow a c
parts_on a b c g h = record {
  keys = extends_on a.keys b.keys c.keys g.keys h.keys;
  parents = entries_on a.parents b.parents c.parents g.parents h.parents;
  calls = extends_on a.calls b.calls c.calls g.calls h.calls;
  types = extends_on a.types b.types c.types g.types h.types;
}

pub tables_on : (a b c : Tables) → TablesGrow a b → TablesGrow b c → TablesGrow a c
tables_on a b c g h = record {
  parts = parts_on a.parts b.parts c.parts g.parts h.parts;
  fields = grows_on a.fields b.fields c.fields g.fields h.fields;
  sets = grows_on a.sets b.sets c.sets g.sets h.sets;
}

-- where each entry was there or is right
grown_right : (t u : Tables) → TablesGrow t u → HasNoRepeat (keys_in u.fields) → HasNoRepeat (keys_in u.sets)
    → ((n : ℕ) (k : FieldKey) (c : ReadField) → slice_get u.fields n ≡ Some (k, c) → (slice_get t.fields n ≡ Some (k, c)) ⊎ IsFieldKey u k c)
    → ((n : ℕ) (k : SetParts) (c : ReadSet) → slice_get u.sets n ≡ Some (k, c) → (slice_get t.sets n ≡ Some (k, c)) ⊎ IsSetKey u k c)
    → AreRight t → AreRight u
grown_right t u grow fields_apart sets_apart fields sets right = record {
  parts = parts_apart t.parts u.parts grow.parts right.parts;
  fields_apart = fields_apart;
  sets_apart = sets_apart;
  fields = λ n k c h. elim (fields n k c h) [ inl a ↦ field_key_on t u grow k c (right.fields n k c a) | inr b ↦ b ];
  sets = λ n k c h. elim (sets n k c h) [ inl a ↦ set_key_on t u grow k c (right.sets n k c a) | inr b ↦ b ];
}

-- tables with other parts, fields and sets
abbrev pub with_parts : Tables → PartTables → Tables
with_parts t p = record { parts = p; fields = t.fields; sets = t.sets }

pub parts_grow : (t : Tables) (p : PartTables) → PartsGrow t.parts p → TablesGrow t (with_parts t p)
parts_grow t p grow = record { parts = grow; fields = grows_same t.fields t.fields refl; sets = grows_same t.sets t.sets refl }

pub parts_right : (t : Tables) (p : PartTables) → PartsGrow t.parts p → AreRight t → AreRight (with_parts t p)
parts_right t p grow right = grown_right t (with_parts t p) (parts_grow t p grow) right.fields_apart right.sets_apart (λ n k c h. inl h) (λ n k c h. inl h) right

-- where fields, or sets, are what they were
pub fields_same : (t : Tables) (fields : List (FieldKey × ReadField)) → fields ≡ t.fields → AreRight t → (AreRight (record { parts = t.parts; fields = fields; sets = t.sets })) × (TablesGrow t (record { parts = t.parts; fields = fields; sets = t.sets }))
fields_same t fields e right = (
  subst (λ l. AreRight (record { parts = t.parts; fields = l; sets = t.sets })) (sym e) right,
  record { parts = parts_same t.parts t.parts refl; fields = grows_same t.fields fields e; sets = grows_same t.sets t.sets refl },
)

pub sets_same : (t : Tables) (sets : List (SetParts × ReadSet)) → sets ≡ t.sets → AreRight t → (AreRight (record { parts = t.parts; fields = t.fields; sets = sets })) × (TablesGrow t (record { parts = t.parts; fields = t.fields; sets = sets }))
sets_same t sets e right = (
  subst (λ l. AreRight (record { parts = t.parts; fields = t.fields; sets = l })) (sym e) right,
  record { parts = parts_same t.parts t.parts refl; fields = grows_same t.fields t.fields refl; sets = grows_same t.sets sets e },
)

-- a field with this key is entered
module _ (t : Tables) (k : FieldKey) (c : ReadField) (n : ℕ) (fields : List (FieldKey × ReadField)) (enters : Enters t.fields k c n fields) where
  abbrev with_fields : Tables
  with_fields = record { parts = t.parts; fields = fields; sets = t.sets }

  pub field_grows : TablesGrow t with_fields
  field_grows = record { parts = parts_same t.parts t.parts refl; fields = (entered_grows t.fields fields k c n enters).grown; sets = grows_same t.sets t.sets refl }

  pub field_right : IsFieldKey t k c → AreRight t → AreRight with_fields
  field_right is right = grown_right t with_fields field_grows ((entered_grows t.fields fields k c n enters).apart right.fields_apart) right.sets_apart
      (λ m j d h. elim (entered_from t.fields fields k c n enters m j d h) [
        | inl a ↦ inl a
        | inr b ↦ inr (subst (λ i. IsFieldKey with_fields i d) (sym b.0) (subst (IsFieldKey with_fields k) (sym b.1) (field_key_on t with_fields field_grows k c is)))
      ])
      (λ m j d h. inl h) right

  pub field_means : IsFieldKey t k c → AreRight t → MeansField with_fields n c
  field_means is right =
      let w = entered_is t.fields fields k c n enters in
      let same : w.0 ≡ c = elim w.1.1 [
        | inl a ↦ field_key_one t k w.0 c (right.fields n k w.0 a) is
        | inr b ↦ b
      ] in
      (k, subst (λ v. slice_get fields n ≡ Some (k, v)) same w.1.0)

-- a set with these parts is entered
module _ (t : Tables) (k : SetParts) (c : ReadSet) (n : ℕ) (sets : List (SetParts × ReadSet)) (enters : Enters t.sets k c n sets) where
  abbrev with_sets : Tables
  with_sets = record { parts = t.parts; fields = t.fields; sets = sets }

  pub set_grows : TablesGrow t with_sets
  set_grows = record { parts = parts_same t.parts t.parts refl; fields = grows_same t.fields t.fields refl; sets = (entered_grows t.sets sets k c n enters).grown }

  pub set_right : IsSetKey t k c → AreRight t → AreRight with_sets
  set_right is right = grown_right t with_sets set_grows right.fields_apart ((entered_grows t.sets sets k c n enters).apart right.sets_apart)
      (λ m j d h. inl h)
      (λ m j d h. elim (entered_from t.sets sets k c n enters m j d h) [
        | inl a ↦ inl a
        | inr b ↦ inr (subst (λ i. IsSetKey with_sets i d) (sym b.0) (subst (IsSetKey with_sets k) (sym b.1) (set_key_on t with_sets set_grows k c is)))
      ])
      right

  pub set_means : IsSetKey t k c → AreRight t → MeansSet with_sets n c
  set_means is right =
      let w = entered_is t.sets sets k c n enters in
      let same : w.0 ≡ c = elim w.1.1 [
        | inl a ↦ set_key_one t k w.0 c (right.sets n k w.0 a) is
        | inr b ↦ b
      ] in
      (k, subst (λ v. slice_get sets n ≡ Some (k, v)) same w.1.0)

-- ---- of each parent it is kept whether it is abstract

pub parent_judged : (s : Judged) (old new : List (List ℕ × Bool)) (p : List ℕ) (b : Bool) (n : ℕ) → Enters old p b n new → IsTrue b ↔ IsAbstract s p → AreJudged s old → AreJudged s new
parent_judged s old new p b n enters is so e c =
    let i = index_found new e c in
    elim (entered_from old new p b n enters i.0 e.0 e.1 i.1) [
      | inl a ↦ so e (contains_at old i.0 e a)
      | inr k ↦ subst (λ (q : List ℕ × Bool). IsTrue q.1 ↔ IsAbstract s q.0) (λ j. (sym k.0 j, sym k.1 j)) is
    ]
