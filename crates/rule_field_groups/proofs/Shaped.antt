-- Types by their kinds, and two types of one shape, where the tests say so.
use Rattle.std.proofs.Common.{◌≡◌, ◌⊎◌, ◌∙◌, ℕ, Bool, true, false, ◌&&◌, ◌||◌, not, List, Option, None, Some, bytes_eq, refl, sym, ap, inl, inr, true≢false}
use Rattle.std.specs.Bool.{Decides}
use Rattle.std.specs.Option.{option_map, option_map_or}
use Rattle.std.proofs.lemmas.Slice.Eq.{bytes_eq-Decides}
use Rattle.graphql_names.specs.Placed.{Place}
use Rattle.tree_literals.specs.TypeTree.{TypeTree, NamedTree, NonNullNamedTree, ListTree, NonNullListTree, unplaced_type}
use Rattle.tree_literals.specs.TypeQueries.{inner_name}
use Rattle.schema_types.specs.SchemaTree.{SchemaType, SchemaTree, is_leaf_kind, is_output_kind}
use Rattle.schema_types.specs.Plain.{plain_type}
use Rattle.schema_types.specs.Addresses.{under, type_at}
use Rattle.schema_types.specs.Looks.{TypeLooks, type_looks}
use Rattle.schema_types.specs.declared.type_kind.TypeKind.{TypeKind}
use Rattle.schema_types.specs.declared.type_kind.TypeKind.TheVariants as kind
use Rattle.schema_types.proofs.UnderNames.{get_under}
use Rattle.rule_selection_queries.specs.in_definitions.Judged.{Judged, judged}
use Rattle.rule_selection_queries.specs.in_definitions.Names.{named_in}
use Rattle.rule_selection_queries.specs.in_document_definitions.PossibleTypes.{IsComposite}
use Rattle.rule_selection_queries.specs.in_document_definitions.Merging.{IsAbstract, lists_and_marks, SameInner, SameType}
use Rattle.rule_field_groups.specs.Kinds.{is_abstract_kind, is_abstract, is_composite}
use Rattle.rule_field_groups.specs.Shapes.{same_marks, same_inner, same_type}

-- ---- kinds

-- what a test says of the kind of the type of this name is what it says in the schema as rules read it
kind_look : (test : TypeKind → Bool) (s : SchemaTree Place) (n : List ℕ)
    → option_map_or (λ (t : TypeLooks). test t.kind) ((judged s).type_named n) false ≡ option_map_or (λ (t : SchemaType Place). test t.kind) (type_at s n) false
kind_look test s n = ap (λ o. option_map_or (λ (t : TypeLooks). test t.kind) (option_map type_looks o) false) (get_under plain_type n s.types) ∙ by (under n s.types)
  where
    by : (o : Option (SchemaType Place)) → option_map_or (λ (t : TypeLooks). test t.kind) (option_map type_looks (option_map plain_type o)) false ≡ option_map_or (λ (t : SchemaType Place). test t.kind) o false
    by None = refl
    by (Some t) = refl

pub kind_seen : (test : TypeKind → Bool) (s : SchemaTree Place) (n : List ℕ) (o : Option (SchemaType Place)) → o ≡ type_at s n
    → option_map_or (λ (t : SchemaType Place). test t.kind) o false ≡ option_map_or (λ (t : TypeLooks). test t.kind) ((judged s).type_named n) false
kind_seen test s n o e = ap (λ o. option_map_or (λ (t : SchemaType Place). test t.kind) o false) e ∙ sym (kind_look test s n)

abstract_kind : (k : TypeKind) → is_abstract_kind k ≡ true → (k ≡ kind.Interface) ⊎ (k ≡ kind.Union)
abstract_kind kind.Interface e = inl refl
abstract_kind kind.Union e = inr refl
abstract_kind kind.Scalar e = cc
abstract_kind kind.Object e = cc
abstract_kind kind.Enum e = cc
abstract_kind kind.InputObject e = cc

kind_abstract : (k : TypeKind) → (k ≡ kind.Interface) ⊎ (k ≡ kind.Union) → is_abstract_kind k ≡ true
kind_abstract k (inl e) = ap is_abstract_kind e
kind_abstract k (inr e) = ap is_abstract_kind e

module _ (s : Judged) where
  pub is_abstract_so : (n : List ℕ) → is_abstract s n ≡ true → IsAbstract s n
  is_abstract_so n e = by (s.type_named n) refl e
    where
      by : (o : Option TypeLooks) → s.type_named n ≡ o → option_map_or (λ (t : TypeLooks). is_abstract_kind t.kind) o false ≡ true → IsAbstract s n
      by None i h = cc
      by (Some t) i h = (t, (i, abstract_kind t.kind h))

  pub so_is_abstract : (n : List ℕ) → IsAbstract s n → is_abstract s n ≡ true
  so_is_abstract n (t, (i, h)) = ap (λ o. option_map_or (λ (t : TypeLooks). is_abstract_kind t.kind) o false) i ∙ kind_abstract t.kind h

-- ---- the name inside a reference

pub named_unplaced : (ty : TypeTree Place) → named_in (unplaced_type ty) ≡ (inner_name ty).it
named_unplaced (NamedTree n) = refl
named_unplaced (NonNullNamedTree n) = refl
named_unplaced (ListTree t) = named_unplaced t
named_unplaced (NonNullListTree t) = named_unplaced t

-- ---- lists and marks

abbrev inside : TypeTree (Unit {0}) → TypeTree (Unit {0})
inside (ListTree t) = t
inside (NonNullListTree t) = t
inside t = t

marks_decide : (a b : TypeTree (Unit {0})) → Decides (same_marks a b) (lists_and_marks a ≡ lists_and_marks b)
marks_decide (NamedTree n) (NamedTree m) = (λ e. refl, λ e. refl)
marks_decide (NamedTree n) (NonNullNamedTree m) = (λ e. cc, λ e. cc)
marks_decide (NamedTree n) (ListTree b) = (λ e. cc, λ e. cc)
marks_decide (NamedTree n) (NonNullListTree b) = (λ e. cc, λ e. cc)
marks_decide (NonNullNamedTree n) (NamedTree m) = (λ e. cc, λ e. cc)
marks_decide (NonNullNamedTree n) (NonNullNamedTree m) = (λ e. refl, λ e. refl)
marks_decide (NonNullNamedTree n) (ListTree b) = (λ e. cc, λ e. cc)
marks_decide (NonNullNamedTree n) (NonNullListTree b) = (λ e. cc, λ e. cc)
marks_decide (ListTree a) (NamedTree m) = (λ e. cc, λ e. cc)
marks_decide (ListTree a) (NonNullNamedTree m) = (λ e. cc, λ e. cc)
marks_decide (ListTree a) (ListTree b) = let h = marks_decide a b in (λ e. ap ListTree (h.0 e), λ e. h.1 (ap inside e))
marks_decide (ListTree a) (NonNullListTree b) = (λ e. cc, λ e. cc)
marks_decide (NonNullListTree a) (NamedTree m) = (λ e. cc, λ e. cc)
marks_decide (NonNullListTree a) (NonNullNamedTree m) = (λ e. cc, λ e. cc)
marks_decide (NonNullListTree a) (ListTree b) = (λ e. cc, λ e. cc)
marks_decide (NonNullListTree a) (NonNullListTree b) = let h = marks_decide a b in (λ e. ap NonNullListTree (h.0 e), λ e. h.1 (ap inside e))

-- ---- names

both : (a b : Bool) {P Q : Type 0} → Decides a P → Decides b Q → Decides (a && b) (P × Q)
both true b d e = (λ h. (d.0 refl, e.0 h), λ r. e.1 r.1)
both false b d e = (λ h. cc, λ r. d.1 r.0)

either : (a b : Bool) {P Q : Type 0} → Decides a P → Decides b Q → Decides (a || b) (P ⊎ Q)
either true b d e = (λ h. inl (d.0 refl), λ r. refl)
either false b {P} {Q} d e = (λ h. inr (e.0 h), by)
  where
    by : P ⊎ Q → b ≡ true
    by (inl p) = let no : false ≡ true = d.1 p in cc
    by (inr q) = e.1 q

module _ (s : Judged) where
  composite_decides : (n : List ℕ) → Decides (is_composite s n) (IsComposite s n)
  composite_decides n = (there, back)
    where
      there : is_composite s n ≡ true → IsComposite s n
      there e = by (s.type_named n) refl e
        where
          by : (o : Option TypeLooks) → s.type_named n ≡ o → option_map_or (λ (t : TypeLooks). is_output_kind t.kind && not (is_leaf_kind t.kind)) o false ≡ true → IsComposite s n
          by None i h = cc
          by (Some t) i h = (t, (i, h))

      back : IsComposite s n → is_composite s n ≡ true
      back (t, (i, h)) = ap (λ o. option_map_or (λ (t : TypeLooks). is_output_kind t.kind && not (is_leaf_kind t.kind)) o false) i ∙ h

  inner_decides : (n m : List ℕ) → Decides (same_inner s n m) (SameInner s n m)
  inner_decides n m = either (bytes_eq n m) (is_composite s n && is_composite s m) (bytes_eq-Decides n m) (both (is_composite s n) (is_composite s m) (composite_decides n) (composite_decides m))

  pub same_type-Decides : (a b : TypeTree (Unit {0})) → Decides (same_type s a b) (SameType s a b)
  same_type-Decides a b = both (same_marks a b) (same_inner s (named_in a) (named_in b)) (marks_decide a b) (inner_decides (named_in a) (named_in b))

  -- `same_type` says whether two types have one shape
  pub same_type_true : (a b : TypeTree (Unit {0})) → same_type s a b ≡ true → SameType s a b
  same_type_true a b e = (same_type-Decides a b).0 e

  pub same_type_false : (a b : TypeTree (Unit {0})) → same_type s a b ≡ false → SameType s a b → ⊥
  same_type_false a b e h = true≢false (sym ((same_type-Decides a b).1 h) ∙ e)
