-- What is written depends on the definitions and extensions of the list in their order: of the numbers of extensions only that they ascend
-- counts, so that each may be the rank of its extension.
use Rattle.std.proofs.Common.{◌≡◌, ℕ, zero, suc, ◌+◌, ◌≤◌, Bool, true, false, ◌==◌, List, [], ◌∷◌, map, refl, sym, ap, ◌∙◌, arith, Option, None, Some, option_map, if◌then◌else◌}
use Rattle.std.specs.List.{flat_map}
use Rattle.std.proofs.lemmas.Bool.Decides.{nat_tests}
use Rattle.std.proofs.lemmas.Iterator.Adapters.{option_map_id}
use Rattle.std.proofs.lemmas.List.{map-id}
use Rattle.graphql_names.specs.Placed.{Place, Placed, Text}
use Rattle.graphql_names.specs.Places.{is_built_in}
use Rattle.schema_fold.specs.in_type_members.TypeSystemTree.{SchemaParts}
use Rattle.schema_fold.specs.in_definitions.DefinitionTree.{DefinitionTree, Schema, ExtendSchema}
use Rattle.schema_fold.specs.in_components.Given.{Given}
use Rattle.schema_fold.specs.in_schema_types.SchemaTree.{SchemaRoots}
use Rattle.schema_fold.specs.in_schema_types.TypeParts.{TypeParts, TypeDefinition, definition_by, extension_by}
use Rattle.schema_fold.specs.in_schema_types.Out.{written_type}
use Rattle.schema_fold.specs.NumberedDefinition.{Definitions, numbered, extension_number}
use Rattle.schema_fold.specs.SchemaFold.{schema_extension_here, schema_base, schema_is_defined, extends_schema, folded_schema}
use Rattle.schema_fold.specs.Fold.{folded_type}
use Rattle.verdict_laws.specs.Whole.{extensions_in}
use Rattle.verdict_laws.specs.WholeSchema.{schema_extensions_in}
use Rattle.verdict_laws.proofs.Whole.{NumberedOf, as_given, AscendFrom}
use Rattle.verdict_laws.proofs.Numbering.{unnumbered, ascend_by, pairs, extensions_given, numbers_ascend, without_numbers}
use Rattle.verdict_laws.proofs.SchemaWhole.{schema_extension_is, always, es, extends_are, unnumbered_are}
use Rattle.verdict_laws.proofs.Changes.{Change, Carries, made_type, made_schema, type_written, schema_written, left_out, changed_given, changed_parts, changed_schema, changed_roots, type_made, schema_made, left_out-change, type_carried, schema_carried}

-- ---- other numbers

module _ {P : Type 0} (f : ℕ → ℕ) (keeps : (a b : ℕ) → (f a == f b) ≡ (a == b)) where
  -- nothing changes but the numbers of extensions
  abbrev other : Change P P
  other = record {
    extension = λ e. record { number = f e.number; place = e.place };
    same = λ e g. keeps e.number g.number;
    place = λ p. p;
    placed = λ e. refl;
    text = λ t. t;
    text_named = λ t. refl;
    directive = λ x. x;
    field = λ x. x;
    field_named = λ x. refl;
    value = λ x. x;
    value_named = λ x. refl;
    input = λ x. x;
    input_named = λ x. refl;
  }

  same_parts : (p : TypeParts P) → changed_parts other p ≡ p
  same_parts p = λ i. record { kind = p.kind; name = p.name; directives = map-id p.directives i; interfaces = map-id p.interfaces i; fields = map-id p.fields i; members = map-id p.members i; values = map-id p.values i; inputs = map-id p.inputs i }

  same_schema : (s : SchemaParts P) → changed_schema other s ≡ s
  same_schema s = λ i. record { directives = map-id s.directives i; roots = map-id s.roots i }

  carries : Carries other (λ d. d)
  carries = record {
    defines = λ k p d t i. definition_by k p (sym (option_map_id d) i) (sym (same_parts t) i);
    extends = λ k p t i. extension_by k p (sym (same_parts t) i);
    schema = λ p d s i. Schema p (sym (option_map_id d) i) (sym (same_schema s) i);
    extends_schema = λ p s i. ExtendSchema p (sym (same_schema s) i);
  }

  abbrev renumbered : {A : Type 0} → Given P A → Given P A
  renumbered = changed_given other (λ x. x)

  type_renumbered : (b : Bool) (t : TypeDefinition P) (gs : List (Given P (TypeParts P))) → type_written b (made_type t (map renumbered gs)) ≡ type_written b (made_type t gs)
  type_renumbered b t gs =
      (λ i. type_written b (made_type (record { place = t.place; description = sym (option_map_id t.description) i; parts = sym (same_parts t.parts) i }) (map (changed_given other (λ p. sym (same_parts p) i)) gs)))
      ∙ ap (type_written b) (sym (type_made other t gs))
      ∙ sym (type_carried other (λ d. d) carries b (made_type t gs))
      ∙ map-id (type_written b (made_type t gs))

  roots_renumbered : (p : P) (d : Option (Text P)) (gs : List (Given P (SchemaParts P))) → made_schema p d (map renumbered gs) ≡ changed_roots other (made_schema p d gs)
  roots_renumbered p d gs = (λ i. made_schema p (sym (option_map_id d) i) (map (changed_given other (λ s. sym (same_schema s) i)) gs)) ∙ sym (schema_made other p d gs)

  -- with the names of these objects
  schema_renumbered : (nowhere : P) (is_object : List ℕ → Bool) (p : P) (d : Option (Text P)) (gs : List (Given P (SchemaParts P)))
      → schema_written nowhere (left_out is_object (made_schema p d (map renumbered gs))) (made_schema p d (map renumbered gs)) ≡ schema_written nowhere (left_out is_object (made_schema p d gs)) (made_schema p d gs)
  schema_renumbered nowhere is_object p d gs =
      ap (λ r. schema_written nowhere (left_out is_object r) r) (roots_renumbered p d gs)
      ∙ ap (λ b. schema_written nowhere b (changed_roots other (made_schema p d gs))) (left_out-change other is_object (made_schema p d gs))
      ∙ sym (schema_carried other (λ d. d) carries nowhere (left_out is_object (made_schema p d gs)) (made_schema p d gs))
      ∙ map-id (schema_written nowhere (left_out is_object (made_schema p d gs)) (made_schema p d gs))

-- ---- ranks

-- extensions, each with its rank for its number
abbrev pub ranked : {P A : Type 0} → ℕ → List (Placed P A) → List (Given P A)
ranked k [] = []
ranked k (x ∷ xs) = record { extension = Some (record { number = k; place = x.place }); it = x.it } ∷ ranked (suc k) xs

-- what the definition gives, and what extensions give
abbrev pub with_ranks : {P A : Type 0} → A → List (Placed P A) → List (Given P A)
with_ranks x xs = record { extension = None; it = x } ∷ ranked 0 xs

module _ {Q : Type 0} where
  -- the number at a rank
  abbrev number_at : ℕ → List (NumberedOf Q) → ℕ → ℕ
  number_at base [] k = base + k
  number_at base (x ∷ xs) zero = x.0.number
  number_at base (x ∷ xs) (suc k) = number_at (x.0.number + 1) xs k

  least : (base : ℕ) (xs : List (NumberedOf Q)) → AscendFrom base xs → (k : ℕ) → base ≤ number_at base xs k
  least base [] h k = omega arith
  least base (x ∷ xs) h zero = h.0
  least base (x ∷ xs) h (suc k) = let a = least (x.0.number + 1) xs h.1 k in let b = h.0 in omega arith

  apart : (base : ℕ) (xs : List (NumberedOf Q)) → AscendFrom base xs → (a b : ℕ) → (number_at base xs a == number_at base xs b) ≡ (a == b)
  apart base [] h a b = grind (arith, nat_tests)
  apart base (x ∷ xs) h zero zero = grind (arith, nat_tests)
  apart base (x ∷ xs) h zero (suc b) = let l = least (x.0.number + 1) xs h.1 b in grind (arith, nat_tests)
  apart base (x ∷ xs) h (suc a) zero = let l = least (x.0.number + 1) xs h.1 a in grind (arith, nat_tests)
  apart base (x ∷ xs) h (suc a) (suc b) = apart (x.0.number + 1) xs h.1 a b ∙ grind (arith, nat_tests)

  abbrev at : (ℕ → ℕ) → Given Place Q → Given Place Q
  at f g = record { extension = option_map (λ e. record { number = f e.number; place = e.place }) g.extension; it = g.it }

  following : (base : ℕ) (x : NumberedOf Q) (xs : List (NumberedOf Q)) (k : ℕ) (ps : List (Placed Place Q)) → map (at (number_at (x.0.number + 1) xs)) (ranked k ps) ≡ map (at (number_at base (x ∷ xs))) (ranked (suc k) ps)
  following base x xs k [] = refl
  following base x xs k (p ∷ ps) = ap (λ l. record { extension = Some (record { number = number_at (x.0.number + 1) xs k; place = p.place }); it = p.it } ∷ l) (following base x xs (suc k) ps)

  as_ranked : (base : ℕ) (xs : List (NumberedOf Q)) → map as_given xs ≡ map (at (number_at base xs)) (ranked 0 (map unnumbered xs))
  as_ranked base [] = refl
  as_ranked base (x ∷ xs) = ap (λ l. as_given x ∷ l) (as_ranked (x.0.number + 1) xs ∙ following base x xs 0 (map unnumbered xs))

-- ---- of a list of definitions

-- the schema definition
module _ (ds : Definitions) where
  -- its parts
  abbrev pub schema_ranks : List (Given Place (SchemaParts Place))
  schema_ranks = with_ranks (schema_base ds).parts (if schema_is_defined ds then schema_extensions_in ds else [])

  abbrev pub schema_of : List (Given Place (SchemaParts Place)) → SchemaRoots Place
  schema_of gs = made_schema (schema_base ds).place (schema_base ds).description gs

  abbrev pub schema_out_of : (List ℕ → Bool) → List (Given Place (SchemaParts Place)) → List (DefinitionTree Place)
  schema_out_of is_object gs = schema_written None (left_out is_object (schema_of gs)) (schema_of gs)

module _ (first : ℕ) (ds : Definitions) where
  pub type_ranked : (n : List ℕ) (t : TypeDefinition Place) → written_type (n, folded_type (numbered first ds) t) ≡ type_written (is_built_in t.place) (made_type t (with_ranks t.parts (extensions_in ds t.parts)))
  type_ranked n t =
      let numbers = pairs t.parts (numbered first ds) in
      let from = extension_number first [] in
      ap (λ l. type_written (is_built_in t.place) (made_type t (record { extension = None; it = t.parts } ∷ l)))
      (extensions_given t.parts first ds ∙ as_ranked from numbers ∙ ap (λ l. map (at (number_at from numbers)) (ranked 0 l)) (without_numbers t.parts first ds))
      ∙ type_renumbered (number_at from numbers) (apart from numbers (numbers_ascend t.parts first ds)) (is_built_in t.place) t (with_ranks t.parts (extensions_in ds t.parts))

  pub schema_ranked : (is_object : List ℕ → Bool) → schema_written None (left_out is_object (folded_schema first ds)) (folded_schema first ds) ≡ schema_out_of ds is_object (schema_ranks ds)
  schema_ranked is_object = by (schema_is_defined ds)
    where
      by : (b : Bool) → schema_out_of ds is_object (record { extension = None; it = (schema_base ds).parts } ∷ (if b then flat_map extends_schema (numbered first ds) else []))
          ≡ schema_out_of ds is_object (with_ranks (schema_base ds).parts (if b then schema_extensions_in ds else []))
      by true =
          let numbers = es first ds in
          let from = extension_number first [] in
          ap (λ l. schema_out_of ds is_object (record { extension = None; it = (schema_base ds).parts } ∷ l)) (extends_are first ds ∙ as_ranked from numbers ∙ ap (λ l. map (at (number_at from numbers)) (ranked 0 l)) (unnumbered_are first ds))
          ∙ schema_renumbered (number_at from numbers) (apart from numbers (ascend_by schema_extension_here always schema_extension_is first ds)) None is_object (schema_base ds).place (schema_base ds).description (with_ranks (schema_base ds).parts (schema_extensions_in ds))
      by false = refl
