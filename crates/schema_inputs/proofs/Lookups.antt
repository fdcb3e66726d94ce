-- What lookups in maps with names as keys find, by index too, and what is known of it.
use Rattle.std.proofs.Common.{◌≡◌, ℕ, Bool, true, false, List, [], ◌∷◌, map, slice_get, Option, None, Some, IfSome, refl, sym, ap, subst, ◌∙◌, if◌then◌else◌, Bor}
use Rattle.std.specs.List.{find}
use Rattle.std.specs.Map.{lookup}
use Rattle.std.specs.Option.{option_map}
use Rattle.std.specs.Str.{bytes_eq}
use Rattle.std.proofs.lemmas.Option.{slice_get-map}
use Rattle.indexmap.specs.IndexMap.{IndexMap, get}
use Rattle.graphql_names.specs.NameValue.{NameValue}
use Rattle.graphql_names.specs.Placed.{Place}
use Rattle.tree_directives.specs.DirectiveTree.{InputValues}
use Rattle.schema_components.specs.Names.{same_text, entries_of}
use Rattle.schema_types.specs.TypeView.{name_text, extended_type}
use Rattle.schema_types.specs.declared.extended_type.ExtendedType.{ExtendedType}
use Rattle.schema_types.specs.Addresses.{under}
use Rattle.schema_types.specs.SchemaTree.{SchemaType}
use Rattle.schema_inputs.specs.Inputs.{AreEach, AreKnown, AreKnownIfMany, IsKnownType, HasAt}
use Rattle.schema_inputs.specs.declared.known.KnownArguments.{KnownArguments}
use Rattle.schema_inputs.specs.declared.known.KnownType.{KnownType}
use Rattle.schema_inputs.proofs.KnownInputs.{each_at}

module _ {X A : Type 0} (f : X → A) (k : NameValue) where
  under-lookup : (es : List (NameValue × X)) → under k.text (map (λ e. (name_text e.0, f e.1)) es) ≡ option_map f (lookup (same_text name_text k) es)
  under-lookup [] = refl
  under-lookup (e ∷ es) = by (bytes_eq k.text e.0.text) refl (under-lookup es)
    where
      by : (b : Bool) → bytes_eq k.text e.0.text ≡ b → under k.text (map (λ e. (name_text e.0, f e.1)) es) ≡ option_map f (lookup (same_text name_text k) es)
          → under k.text (map (λ e. (name_text e.0, f e.1)) (e ∷ es)) ≡ option_map f (lookup (same_text name_text k) (e ∷ es))
      by true t rest =
          ap (λ b. option_map (λ (p : List ℕ × A). p.1) (if b then Some (name_text e.0, f e.1) else find (λ (p : List ℕ × A). bytes_eq k.text p.0) (map (λ e. (name_text e.0, f e.1)) es))) t
          ∙ sym (ap (λ b. option_map f (if b then Some e.1 else lookup (same_text name_text k) es)) t)
      by false t rest =
          ap (λ b. option_map (λ (p : List ℕ × A). p.1) (if b then Some (name_text e.0, f e.1) else find (λ (p : List ℕ × A). bytes_eq k.text p.0) (map (λ e. (name_text e.0, f e.1)) es))) t
          ∙ rest
          ∙ sym (ap (λ b. option_map f (if b then Some e.1 else lookup (same_text name_text k) es)) t)

  module _ {S : Type 0} (m : IndexMap NameValue X S) where
    -- what is found stands under the name
    pub found_under : (x : X) → Some x ≡ get (same_text name_text) m k → under k.text (entries_of name_text f m) ≡ Some (f x)
    found_under x e = under-lookup m.entries ∙ sym (ap (option_map f) e)

    pub absent_under : None ≡ get (same_text name_text) m k → None ≡ under k.text (entries_of name_text f m)
    absent_under e = ap (option_map f) e ∙ sym (under-lookup m.entries)

    -- and at its index
    pub entry_at : (i : ℕ) (n : NameValue) (x : X) → slice_get m.entries i ≡ Some (n, x) → slice_get (entries_of name_text f m) i ≡ Some (name_text n, f x)
    entry_at i n x e = slice_get-map (λ (p : NameValue × X). (name_text p.0, f p.1)) m.entries i ∙ ap (option_map (λ (p : NameValue × X). (name_text p.0, f p.1))) e

    -- what is kept at that index is known of its arguments
    pub known_at : (arguments : A → InputValues Place) (known : List (Option KnownArguments)) (i : ℕ) (n : NameValue) (x : X)
        → AreEach (λ (e : List ℕ × A) kept. AreKnownIfMany (arguments e.1) kept) (entries_of name_text f m) known → Some x ≡ get (same_text name_text) m k → slice_get m.entries i ≡ Some (n, x)
        → (r : Option (Bor KnownArguments)) → IfSome r (λ r. slice_get known i ≡ Some (Some r.now)) → IfSome r (λ r. HasAt (under k.text (entries_of name_text f m)) (λ d. AreKnown (arguments d) r.now))
    known_at arguments known i n x each found at None h = tt
    known_at arguments known i n x each found at (Some r) h =
        (f x, (found_under x found, each_at (λ (e : List ℕ × A) kept. AreKnownIfMany (arguments e.1) kept) (entries_of name_text f m) known i (name_text n, f x) (Some r.now) each (entry_at i n x at) h))

-- what is kept at the index of a type is known of it
pub type_known : {S : Type 0} (k : NameValue) (m : IndexMap NameValue ExtendedType S) (known : List KnownType) (i : ℕ) (n : NameValue) (x : ExtendedType)
    → AreEach (λ (e : List ℕ × SchemaType Place) kept. IsKnownType e.1 kept) (entries_of name_text extended_type m) known → slice_get m.entries i ≡ Some (n, x)
    → (lent : List KnownType) → lent ≡ known → (r : Option (Bor KnownType)) → IfSome r (λ r. slice_get lent i ≡ Some r.now) → IfSome r (λ r. IsKnownType (extended_type x) r.now)
type_known k m known i n x each at lent is None h = tt
type_known k m known i n x each at lent is (Some r) h =
    each_at (λ (e : List ℕ × SchemaType Place) kept. IsKnownType e.1 kept) (entries_of name_text extended_type m) known i (name_text n, extended_type x) r.now each (entry_at extended_type k m i n x at)
    (ap (λ l. slice_get l i) (sym is) ∙ h)

-- what is known of a field of a type that is found
pub of_found_type : {S : Type 0} (k : NameValue) (m : IndexMap NameValue ExtendedType S) (x : ExtendedType) → Some x ≡ get (same_text name_text) m k → (f : List ℕ)
    → (r : Option (Bor KnownArguments)) → IfSome r (λ r. HasAt (under f (extended_type x).fields) (λ d. AreKnown d.it.it.arguments r.now))
    → IfSome r (λ r. HasAt (under k.text (entries_of name_text extended_type m)) (λ t. HasAt (under f t.fields) (λ d. AreKnown d.it.it.arguments r.now)))
of_found_type k m x e f None h = tt
of_found_type k m x e f (Some r) h = (extended_type x, (found_under extended_type k m x e, h))
