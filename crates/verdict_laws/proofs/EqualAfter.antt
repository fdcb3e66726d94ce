-- Equal schemas with equal marks are so after validation too.
use Rattle.std.proofs.Common.{◌≡◌, ℕ, Bool, true, false, not, ◌&&◌, cond, List, [], ◌∷◌, ◌++◌, map, filter, find, bytes_eq, slice_get, refl, sym, ap, subst, ◌∙◌, Option, None, Some, option_map, is_none, true≢false, if◌then◌else◌}
use Rattle.std.specs.List.{IsDistinct, AllByRecursion}
use Rattle.std.specs.Bool.{Decides}
use Rattle.std.specs.Map.{keys_of}
use Rattle.std.specs.Option.{option_map_or}
use Rattle.std.specs.FinMap as fin
use Rattle.std.specs.Cmp.Lexicographic.{nat_list_cmp_total}
use Rattle.std.proofs.lemmas.Map.Keys.{IsDistinct-head, IsDistinct-tail}
use Rattle.std.proofs.lemmas.Option.{same_Some}
use Rattle.std.proofs.lemmas.Slice.Eq.{bytes_eq-Decides}
use Rattle.graphql_names.specs.Placed.{Place, Placed}
use Rattle.graphql_names.specs.Places.{is_built_in}
use Rattle.schema_fold.specs.in_components.Names.{Entries, named}
use Rattle.schema_fold.specs.in_components.Given.{Given}
use Rattle.schema_fold.proofs.in_components.NamedEquality.{by_bytes-IsAntisymmetric}
use Rattle.schema_fold.specs.in_type_members.TypeSystemTree.{FieldDefinitionTree}
use Rattle.rule_definitions.specs.in_schema_types.SchemaTree.{SchemaType, SchemaTree, same_kind}
use Rattle.rule_definitions.specs.in_schema_types.declared.type_kind.TypeKind.TheVariants as kind
use Rattle.rule_definitions.specs.in_schema_types.Plain.{PlainSchema, plain_type}
use Rattle.rule_definitions.specs.in_schema_types.Addresses.{Address, TypeAt, DirectiveDefinitionAt, FieldAt, ValueAt, InputAt, ArgumentAt, under, or_nothing, place_of, type_at, is_marked}
use Rattle.rule_definitions.specs.Laws.{AreEqual}
use Rattle.rule_definitions.specs.Kept.{AreDistinct, is_referenced, is_dropped, is_missing, built_in_scalar, kept, validated}
use Rattle.rule_definitions.specs.Names.{scalar_names}
use Rattle.rule_definitions.proofs.Same.{read_the_same}
use Rattle.rule_definitions.proofs.KeptFacts.{IsReferenced, referenced_decides}
use Rattle.verdict_laws.specs.Judging.{EqualAfterValidation}
use Rattle.schema_fold.proofs.in_schema_types.UnderNames.{get_under}

-- ---- lookups

module _ {V : Type 0} where
  under-append : (n : List ℕ) (xs ys : Entries V) → under n (xs ++ ys) ≡ option_map_or (λ v. Some v) (under n xs) (under n ys)
  under-append n [] ys = refl
  under-append n (x ∷ xs) ys = by (bytes_eq n x.0) (under-append n xs ys)
    where
      by : (b : Bool) → under n (xs ++ ys) ≡ option_map_or (λ v. Some v) (under n xs) (under n ys)
          → option_map (λ (e : List ℕ × V). e.1) (if b then Some x else find (λ (e : List ℕ × V). bytes_eq n e.0) (xs ++ ys)) ≡ option_map_or (λ v. Some v) (option_map (λ (e : List ℕ × V). e.1) (if b then Some x else find (λ (e : List ℕ × V). bytes_eq n e.0) xs)) (under n ys)
      by true h = refl
      by false h = h

  module _ (p : List ℕ × V → Bool) where
    absent : (k : List ℕ) (es : Entries V) → AllByRecursion (λ m. bytes_eq k m ≡ false) (keys_of es) → under k (filter p es) ≡ None
    absent k [] h = refl
    absent k (x ∷ es) h = by (p x) (absent k es h.1)
      where
        by : (b : Bool) → under k (filter p es) ≡ None → under k (cond b (x ∷ filter p es) (filter p es)) ≡ None
        by true rest = ap (λ (c : Bool). option_map (λ (e : List ℕ × V). e.1) (if c then Some x else find (λ (e : List ℕ × V). bytes_eq k e.0) (filter p es))) h.0 ∙ rest
        by false rest = rest

    abbrev passed : List ℕ → Option V → Option V
    passed n o = option_map_or (λ v. if p (n, v) then Some v else None) o None

    under-filter : (n : List ℕ) (es : Entries V) → IsDistinct bytes_eq (keys_of es) → under n (filter p es) ≡ passed n (under n es)
    under-filter n [] u = refl
    under-filter n (x ∷ es) u = by (bytes_eq n x.0) refl (p x) refl (under-filter n es (IsDistinct-tail bytes_eq x.0 (keys_of es) u))
      where
        by : (b : Bool) → bytes_eq n x.0 ≡ b → (c : Bool) → p x ≡ c → under n (filter p es) ≡ passed n (under n es)
            → under n (cond c (x ∷ filter p es) (filter p es)) ≡ passed n (option_map (λ (e : List ℕ × V). e.1) (if b then Some x else find (λ (e : List ℕ × V). bytes_eq n e.0) es))
        by true t true q rest =
            ap (λ (d : Bool). option_map (λ (e : List ℕ × V). e.1) (if d then Some x else find (λ (e : List ℕ × V). bytes_eq n e.0) (filter p es))) t
            ∙ sym (ap (λ (d : Bool). if d then Some x.1 else None) (ap (λ m. p (m, x.1)) ((bytes_eq-Decides n x.0).0 t) ∙ q))
        by true t false q rest =
            ap (λ m. under m (filter p es)) ((bytes_eq-Decides n x.0).0 t) ∙ absent x.0 es (IsDistinct-head bytes_eq x.0 (keys_of es) u)
            ∙ sym (ap (λ (d : Bool). if d then Some x.1 else None) (ap (λ m. p (m, x.1)) ((bytes_eq-Decides n x.0).0 t) ∙ q))
        by false t true q rest = ap (λ (d : Bool). option_map (λ (e : List ℕ × V). e.1) (if d then Some x else find (λ (e : List ℕ × V). bytes_eq n e.0) (filter p es))) t ∙ rest
        by false t false q rest = rest

same_test : {P Q : Type 0} (a b : Bool) → Decides a P → Decides b Q → (P → Q) → (Q → P) → a ≡ b
same_test true true d e f g = refl
same_test true false d e f g = sym (e.1 (f (d.0 refl)))
same_test false true d e f g = d.1 (g (e.0 refl))
same_test false false d e f g = refl

-- ---- types under one name

-- what stands under a name in a type
abbrev in_it : {V : Type 0} → (SchemaType Place → Entries (Given Place V)) → List ℕ → SchemaType Place → Option V
in_it of m v = option_map (λ g. g.it) (under m (of v))

abbrev mark_of : {A : Type 0} → Option (Placed Place A) → Bool
mark_of o = is_built_in (place_of o)

abbrev argument_mark : ℕ → Option (Placed Place (FieldDefinitionTree Place)) → Bool
argument_mark k o = mark_of (slice_get (option_map_or (λ f. f.it.arguments) o []) k)

record Agree (v w : SchemaType Place) : Type 0 where
  same : plain_type v ≡ plain_type w
  mark : is_built_in v.place ≡ is_built_in w.place
  fields : (m : List ℕ) → mark_of (in_it (λ t. t.fields) m v) ≡ mark_of (in_it (λ t. t.fields) m w)
  values : (m : List ℕ) → mark_of (in_it (λ t. t.values) m v) ≡ mark_of (in_it (λ t. t.values) m w)
  inputs : (m : List ℕ) → mark_of (in_it (λ t. t.inputs) m v) ≡ mark_of (in_it (λ t. t.inputs) m w)
  arguments : (m : List ℕ) (k : ℕ) → argument_mark k (in_it (λ t. t.fields) m v) ≡ argument_mark k (in_it (λ t. t.fields) m w)

-- both are missing, or both are there and agree
abbrev Alike : Option (SchemaType Place) → Option (SchemaType Place) → Type 0
Alike None None = Unit {0}
Alike (Some v) (Some w) = Agree v w
Alike _ _ = ⊥

alike_itself : (o : Option (SchemaType Place)) → Alike o o
alike_itself None = tt
alike_itself (Some v) = record { same = refl; mark = refl; fields = λ m. refl; values = λ m. refl; inputs = λ m. refl; arguments = λ m k. refl }

alike_same : {X : Type 0} (f : Option (SchemaType Place) → X) → ((v w : SchemaType Place) → Agree v w → f (Some v) ≡ f (Some w)) → (o q : Option (SchemaType Place)) → Alike o q → f o ≡ f q
alike_same f h None None a = refl
alike_same f h (Some v) (Some w) a = h v w a
alike_same f h None (Some w) a = absurd a
alike_same f h (Some v) None a = absurd a

module _ (a b : SchemaTree Place) (da : AreDistinct a) (db : AreDistinct b) (equal : AreEqual a b) where
  plain_at : (n : List ℕ) → option_map plain_type (type_at a n) ≡ option_map plain_type (type_at b n)
  plain_at n = sym (get_under plain_type n a.types) ∙ ap (λ (s : PlainSchema). fin.get s.types n) equal.same ∙ get_under plain_type n b.types

  alike : (n : List ℕ) → Alike (type_at a n) (type_at b n)
  alike n = by (type_at a n) refl (type_at b n) refl (plain_at n)
    where
      by : (o : Option (SchemaType Place)) → type_at a n ≡ o → (q : Option (SchemaType Place)) → type_at b n ≡ q → option_map plain_type o ≡ option_map plain_type q → Alike o q
      by None e None f h = tt
      by None e (Some w) f h = cc
      by (Some v) e None f h = cc
      by (Some v) e (Some w) f h = record {
        same = same_Some _ _ h;
        mark = sym (ap (λ o. is_built_in (or_nothing (option_map (λ (t : SchemaType Place). t.place) o))) e) ∙ equal.marks (TypeAt n) ∙ ap (λ o. is_built_in (or_nothing (option_map (λ (t : SchemaType Place). t.place) o))) f;
        fields = λ m. sym (ap (λ o. mark_of (or_nothing (option_map (in_it (λ t. t.fields) m) o))) e) ∙ equal.marks (FieldAt n m) ∙ ap (λ o. mark_of (or_nothing (option_map (in_it (λ t. t.fields) m) o))) f;
        values = λ m. sym (ap (λ o. mark_of (or_nothing (option_map (in_it (λ t. t.values) m) o))) e) ∙ equal.marks (ValueAt n m) ∙ ap (λ o. mark_of (or_nothing (option_map (in_it (λ t. t.values) m) o))) f;
        inputs = λ m. sym (ap (λ o. mark_of (or_nothing (option_map (in_it (λ t. t.inputs) m) o))) e) ∙ equal.marks (InputAt n m) ∙ ap (λ o. mark_of (or_nothing (option_map (in_it (λ t. t.inputs) m) o))) f;
        arguments = λ m k. sym (ap (λ o. argument_mark k (or_nothing (option_map (in_it (λ t. t.fields) m) o))) e) ∙ equal.marks (ArgumentAt (FieldAt n m) k) ∙ ap (λ o. argument_mark k (or_nothing (option_map (in_it (λ t. t.fields) m) o))) f;
      }

  referenced : (n : List ℕ) → is_referenced n a ≡ is_referenced n b
  referenced n = same_test (is_referenced n a) (is_referenced n b) (referenced_decides a da n) (referenced_decides b db n)
      (subst (λ s. IsReferenced s n) (read_the_same a b equal)) (subst (λ s. IsReferenced s n) (sym (read_the_same a b equal)))

  missing : (n : List ℕ) → is_missing a n ≡ is_missing b n
  missing n = λ i. alike_same is_none (λ v w h. refl) (type_at a n) (type_at b n) (alike n) i && referenced n i

  abbrev added : SchemaTree Place → Entries (SchemaType Place)
  added s = map built_in_scalar (filter (is_missing s) scalar_names)

  added_same : added a ≡ added b
  added_same = λ i. map built_in_scalar (filter (λ n. missing n i) scalar_names)

  abbrev keeps : SchemaTree Place → List ℕ × SchemaType Place → Bool
  keeps s e = not (is_dropped s e)

  validated_at : (s : SchemaTree Place) → AreDistinct s → (n : List ℕ) → type_at (validated s) n ≡ option_map_or (λ v. Some v) (passed (keeps s) n (type_at s n)) (under n (added s))
  validated_at s d n = under-append n (kept s).types (added s) ∙ ap (λ o. option_map_or (λ v. Some v) o (under n (added s))) (under-filter (keeps s) n s.types d.types)

  kept_alike : (n : List ℕ) (o q : Option (SchemaType Place)) → Alike o q → Alike (option_map_or (λ v. Some v) (passed (keeps a) n o) (under n (added a))) (option_map_or (λ v. Some v) (passed (keeps b) n q) (under n (added a)))
  kept_alike n None None h = alike_itself (under n (added a))
  kept_alike n None (Some w) h = absurd h
  kept_alike n (Some v) None h = absurd h
  kept_alike n (Some v) (Some w) h = by (keeps a (n, v)) refl (keeps b (n, w)) refl
    where
      same : keeps a (n, v) ≡ keeps b (n, w)
      same = λ i. not (same_kind (h.same i).kind kind.Scalar && h.mark i && not (referenced n i))

      by : (c : Bool) → keeps a (n, v) ≡ c → (d : Bool) → keeps b (n, w) ≡ d → Alike (option_map_or (λ x. Some x) (if c then Some v else None) (under n (added a))) (option_map_or (λ x. Some x) (if d then Some w else None) (under n (added a)))
      by true e true f = h
      by false e false f = alike_itself (under n (added a))
      by true e false f = absurd (true≢false (sym e ∙ same ∙ f))
      by false e true f = absurd (true≢false (sym f ∙ sym same ∙ e))

  alike_after : (n : List ℕ) → Alike (type_at (validated a) n) (type_at (validated b) n)
  alike_after n = subst (λ o. Alike o (type_at (validated b) n)) (sym (validated_at a da n)) (subst (Alike _) (sym (validated_at b db n ∙ ap (λ l. option_map_or (λ v. Some v) (passed (keeps b) n (type_at b n)) (under n l)) (sym added_same))) (kept_alike n (type_at a n) (type_at b n) (alike n)))

  after : {X : Type 0} (f : Option (SchemaType Place) → X) → ((v w : SchemaType Place) → Agree v w → f (Some v) ≡ f (Some w)) → (n : List ℕ) → f (type_at (validated a) n) ≡ f (type_at (validated b) n)
  after f h n = alike_same f h (type_at (validated a) n) (type_at (validated b) n) (alike_after n)

  types_after : named plain_type (validated a).types ≡ named plain_type (validated b).types
  types_after = fin.same_map nat_list_cmp_total by_bytes-IsAntisymmetric _ _ (λ n.
      get_under plain_type n (validated a).types ∙ after (option_map plain_type) (λ v w h. ap Some h.same) n ∙ sym (get_under plain_type n (validated b).types))

  marks_after : (at : Address) → is_marked (validated a) at ≡ is_marked (validated b) at
  marks_after (DirectiveDefinitionAt n) = equal.marks (DirectiveDefinitionAt n)
  marks_after (TypeAt n) = after (λ o. is_built_in (or_nothing (option_map (λ (t : SchemaType Place). t.place) o))) (λ v w h. h.mark) n
  marks_after (FieldAt n m) = after (λ o. mark_of (or_nothing (option_map (in_it (λ t. t.fields) m) o))) (λ v w h. h.fields m) n
  marks_after (ValueAt n m) = after (λ o. mark_of (or_nothing (option_map (in_it (λ t. t.values) m) o))) (λ v w h. h.values m) n
  marks_after (InputAt n m) = after (λ o. mark_of (or_nothing (option_map (in_it (λ t. t.inputs) m) o))) (λ v w h. h.inputs m) n
  marks_after (ArgumentAt (DirectiveDefinitionAt n) k) = equal.marks (ArgumentAt (DirectiveDefinitionAt n) k)
  marks_after (ArgumentAt (FieldAt n m) k) = after (λ o. argument_mark k (or_nothing (option_map (in_it (λ t. t.fields) m) o))) (λ v w h. h.arguments m k) n
  marks_after (ArgumentAt _ k) = refl
  marks_after _ = refl

pub equal_after : EqualAfterValidation
equal_after a b da db equal = record {
  same = λ i. record { definition = (equal.same i).definition; directives = (equal.same i).directives; types = types_after a b da db equal i };
  marks = marks_after a b da db equal;
}
