-- Which types are abstract, where the test says so.
use Rattle.std.proofs.Common.{◌≡◌, ◌↔◌, ◌⊎◌, ◌∙◌, ℕ, Bool, true, false, List, Option, None, Some, IsTrue, refl, sym, ap, inl, inr}
use Rattle.std.specs.Option.{option_map, option_map_or}
use Rattle.graphql_names.specs.Placed.{Place}
use Rattle.schema_types.specs.SchemaTree.{SchemaType, SchemaTree}
use Rattle.schema_types.specs.Plain.{plain_type}
use Rattle.schema_types.specs.Addresses.{under, type_at}
use Rattle.schema_types.specs.Looks.{TypeLooks, type_looks}
use Rattle.schema_types.specs.declared.type_kind.TypeKind.{TypeKind}
use Rattle.schema_types.specs.declared.type_kind.TypeKind.TheVariants as kind
use Rattle.schema_types.proofs.UnderNames.{get_under}
use Rattle.rule_definitions.specs.Judged.{Judged, judged}
use Rattle.rule_document_definitions.specs.Merging.{IsAbstract}
use Rattle.rule_field_sets.specs.Kinds.{is_abstract_kind, is_abstract}

-- what a test says of the kind of the type of this name is what it says in the schema as rules read it
kind_look : (test : TypeKind → Bool) (s : SchemaTree Place) (n : List ℕ)
    → option_map_or (λ (t : TypeLooks). test t.kind) ((judged s).type_named n) false ≡ option_map_or (λ (t : SchemaType Place). test t.kind) (type_at s n) false
kind_look test s n = ap (λ o. option_map_or (λ (t : TypeLooks). test t.kind) (option_map type_looks o) false) (get_under plain_type n s.types) ∙ by (under n s.types)
  where
    by : (o : Option (SchemaType Place)) → option_map_or (λ (t : TypeLooks). test t.kind) (option_map type_looks (option_map plain_type o)) false ≡ option_map_or (λ (t : SchemaType Place). test t.kind) o false
    by None = refl
    by (Some t) = refl

pub kind_seen : (test : TypeKind → Bool) (s : SchemaTree Place) (n : List ℕ) (o : Option (SchemaType Place)) → o ≡ type_at s n
    → option_map_or (λ (t : SchemaType Place). test t.kind) o false ≡ option_map_or (λ (t : TypeLooks). test t.kind) ((judged s).type_named n) false
kind_seen test s n o e = ap (λ o. option_map_or (λ (t : SchemaType Place). test t.kind) o false) e ∙ sym (kind_look test s n)

abstract_kind : (k : TypeKind) → is_abstract_kind k ≡ true → (k ≡ kind.Interface) ⊎ (k ≡ kind.Union)
abstract_kind kind.Interface e = inl refl
abstract_kind kind.Union e = inr refl
abstract_kind kind.Scalar e = cc
abstract_kind kind.Object e = cc
abstract_kind kind.Enum e = cc
abstract_kind kind.InputObject e = cc

kind_abstract : (k : TypeKind) → (k ≡ kind.Interface) ⊎ (k ≡ kind.Union) → is_abstract_kind k ≡ true
kind_abstract k (inl e) = ap is_abstract_kind e
kind_abstract k (inr e) = ap is_abstract_kind e

module _ (s : Judged) where
  is_abstract_so : (n : List ℕ) → is_abstract s n ≡ true → IsAbstract s n
  is_abstract_so n e = by (s.type_named n) refl e
    where
      by : (o : Option TypeLooks) → s.type_named n ≡ o → option_map_or (λ (t : TypeLooks). is_abstract_kind t.kind) o false ≡ true → IsAbstract s n
      by None i h = cc
      by (Some t) i h = (t, (i, abstract_kind t.kind h))

  so_is_abstract : (n : List ℕ) → IsAbstract s n → is_abstract s n ≡ true
  so_is_abstract n (t, (i, h)) = ap (λ o. option_map_or (λ (t : TypeLooks). is_abstract_kind t.kind) o false) i ∙ kind_abstract t.kind h

  -- the test says whether it is
  pub abstract_decides : (n : List ℕ) (b : Bool) → b ≡ is_abstract s n → IsTrue b ↔ IsAbstract s n
  abstract_decides n true e = (λ h. is_abstract_so n (sym e), λ a. refl)
  abstract_decides n false e = (λ h. cc, λ a. e ∙ so_is_abstract n a)
