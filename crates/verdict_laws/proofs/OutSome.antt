-- What is written of an accepted list has a definition.
use Rattle.std.proofs.Common.{◌≡◌, ℕ, Bool, true, false, cond, List, [], ◌∷◌, ◌++◌, ◌&&◌, map, flat_map, Some, None, refl, sym, ap, subst, ◌∙◌, not, is_none, true≢false}
use Rattle.std.specs.List.{find, list_all, AllByRecursion}
use Rattle.std.specs.Option.{option_map_or}
use Rattle.std.specs.Str.{bytes_eq}
use Rattle.std.proofs.lemmas.List.{append-nil}
use Rattle.graphql_names.specs.Places.{is_built_in}
use Rattle.graphql_names.specs.Placed.{Place, Text}
use Rattle.tree_definitions.specs.Writable.{has_some, definition_writable}
use Rattle.schema_components.specs.Lists.{firsts}
use Rattle.schema_components.specs.in_operations.OperationQueries.{default_root_name}
use Rattle.schema_components.specs.in_operations.in_directives.declared.operation_type.OperationType.TheVariants as operation
use Rattle.schema_types.specs.SchemaTree.{same_kind}
use Rattle.schema_types.specs.TypeParts.{TypeDefinition}
use Rattle.schema_types.specs.Out.{is_empty, is_object_named, written_schema, written_directive, written_type}
use Rattle.schema_types.specs.declared.type_kind.TypeKind.TheVariants.{Object}
use Rattle.schema_fold.specs.NumberedDefinition.{Definitions, numbered, type_name, types_in}
use Rattle.schema_fold.specs.SchemaFold.{schema_base}
use Rattle.schema_fold.specs.Fold.{fold, folded_type, folded_types}
use Rattle.schema_fold.specs.BuildErrors.{FoldingRules}
use Rattle.verdict_laws.specs.Arranged.{arranged}
use Rattle.verdict_laws.specs.Whole.{classes, extensions_in, whole_definition, whole_extension, whole_type}
use Rattle.verdict_laws.specs.WholeSchema.{roots_of, schema_classes, schema_extensions_in, implicit_of, left_out}
use Rattle.verdict_laws.specs.Table.{IsTable, AreOwn, HasNoQuery}
use Rattle.verdict_laws.specs.Twice.{WrittenOf, WrittenIsWritable}
use Rattle.verdict_laws.proofs.Accepted.{types_whole}
use Rattle.verdict_laws.proofs.TypesTwice.{all_types}
use Rattle.verdict_laws.proofs.SchemaTwice.{schema_written, accepted_applied, accepted_at_most, written_by}
use Rattle.verdict_laws.proofs.OutWritable.{some_first, some_second, out_writable}

module _ {X Y : Type 0} where
  some_in : (f : X → List Y) (xs : List X) (x : X) (ys : List X) → has_some (f x) ≡ true → has_some (flat_map f (xs ++ x ∷ ys)) ≡ true
  some_in f [] x ys h = some_first (f x) (flat_map f ys) h
  some_in f (z ∷ xs) x ys h = some_second (f z) (flat_map f (xs ++ x ∷ ys)) (some_in f xs x ys h)

  none_named : (name : X → List ℕ) (f : X → Y) (n : List ℕ) (xs : List X) → find (λ x. bytes_eq n (name x)) xs ≡ None → find (λ (e : List ℕ × Y). bytes_eq n e.0) (map (λ x. (name x, f x)) xs) ≡ None
  none_named name f n [] h = refl
  none_named name f n (x ∷ xs) h = by (bytes_eq n (name x)) refl (none_named name f n xs)
    where
      by : (b : Bool) → bytes_eq n (name x) ≡ b → (find (λ x. bytes_eq n (name x)) xs ≡ None → find (λ (e : List ℕ × Y). bytes_eq n e.0) (map (λ x. (name x, f x)) xs) ≡ None)
          → find (λ (e : List ℕ × Y). bytes_eq n e.0) ((name x, f x) ∷ map (λ x. (name x, f x)) xs) ≡ None
      by true e rest = absurd (let k : Some x ≡ None = sym (ap (λ b. cond b (Some x) (find (λ x. bytes_eq n (name x)) xs)) e) ∙ h in cc)
      by false e rest = ap (λ b. cond b (Some (name x, f x)) (find (λ (e : List ℕ × Y). bytes_eq n e.0) (map (λ x. (name x, f x)) xs))) e ∙ rest (sym (ap (λ b. cond b (Some x) (find (λ x. bytes_eq n (name x)) xs)) e) ∙ h)

both : (a b : Bool) → (a && b) ≡ true → (a ≡ true) × (b ≡ true)
both true true h = (refl, refl)
both true false h = absurd (true≢false (sym h))
both false b h = absurd (true≢false (sym h))

-- the fourth and the last of seven
fourth_and_last : (a b c d e f g : Bool) → (a && b && c && d && e && f && g) ≡ true → (d ≡ true) × (g ≡ true)
fourth_and_last a b c d e f g h =
    let last = both (a && b && c && d && e && f) g h in
    let sixth = both (a && b && c && d && e) f last.0 in
    let fifth = both (a && b && c && d) e sixth.0 in
    ((both (a && b && c) d fifth.0).1, last.1)

-- where the definition of a schema is left out, there is an object with the default name of a query root
module _ (is_object : List ℕ → Bool) where
  object_of : (rs : List (Text Place)) → implicit_of is_object operation.Query rs ≡ true → not (is_empty rs) ≡ true → is_object (default_root_name operation.Query) ≡ true
  object_of [] h k = absurd (true≢false (sym k))
  object_of (r ∷ rs) h k = (both (bytes_eq r.it (default_root_name operation.Query)) (is_object (default_root_name operation.Query)) h).1

module _ (built_in : Definitions) (first : ℕ) (texts : Definitions) (table : IsTable built_in) (none : HasNoQuery built_in) (own : AreOwn texts) (rules : FoldingRules built_in first texts) where
  abbrev ds : Definitions
  ds = built_in ++ texts

  abbrev is_object : List ℕ → Bool
  is_object = is_object_named (folded_types first ds)

  -- no text defines a type, so none is named as the query root
  no_object : types_in texts ≡ [] → is_object (default_root_name operation.Query) ≡ false
  no_object e =
      let only : firsts type_name (types_in ds) ≡ types_in built_in = all_types built_in first texts rules table own ∙ ap (λ ts. types_in built_in ++ ts) e ∙ append-nil (types_in built_in) in
      ap (λ o. option_map_or (λ e. same_kind e.1.kind Object) o false)
      (none_named type_name (folded_type (numbered first ds)) (default_root_name operation.Query) (firsts type_name (types_in ds))
      (subst (λ ts. find (λ t. bytes_eq (default_root_name operation.Query) (type_name t)) ts ≡ None) (sym only) none))

  some_type : (t : TypeDefinition Place) (ts : List (TypeDefinition Place)) → types_in texts ≡ t ∷ ts → has_some (flat_map written_type (folded_types first ds)) ≡ true
  some_type t ts e =
      subst (λ l. has_some l ≡ true) (sym (types_whole built_in first texts rules))
      (subst (λ l. has_some (flat_map (whole_type ds) l) ≡ true) (sym (all_types built_in first texts rules table own ∙ ap (λ l. types_in built_in ++ l) e))
      (some_in (whole_type ds) (types_in built_in) t ts (written (subst (AllByRecursion (λ t. is_built_in t.place ≡ false)) e own.types).0)))
    where
      written : is_built_in t.place ≡ false → has_some (whole_type ds t) ≡ true
      written f = ap (λ b. has_some (cond b [] (whole_definition t ∷ []) ++ map (whole_extension t) (arranged classes (extensions_in ds t.parts)))) f

  types_or_not : (ts : List (TypeDefinition Place)) → types_in texts ≡ ts → is_object (default_root_name operation.Query) ≡ true → has_some (flat_map written_type (folded_types first ds)) ≡ true
  types_or_not [] e k = absurd (true≢false (sym k ∙ no_object e))
  types_or_not (t ∷ ts) e k = some_type t ts e

  abbrev leaves_out : Bool
  leaves_out = left_out is_object (schema_base ds) (is_empty (arranged schema_classes (schema_extensions_in ds)))

  pub out_some : has_some (WrittenOf built_in first texts) ≡ true
  out_some = by leaves_out refl
    where
      given : leaves_out ≡ true → is_object (default_root_name operation.Query) ≡ true
      given h =
          let s = schema_base ds in
          let known = fourth_and_last (is_none s.description) (is_empty s.parts.directives) (is_empty (arranged schema_classes (schema_extensions_in ds)))
          (implicit_of is_object operation.Query (roots_of operation.Query s.parts)) (implicit_of is_object operation.Mutation (roots_of operation.Mutation s.parts))
          (implicit_of is_object operation.Subscription (roots_of operation.Subscription s.parts)) (not (is_empty (roots_of operation.Query s.parts))) h in
          object_of is_object (roots_of operation.Query s.parts) known.0 known.1

      written : (b : Bool) → leaves_out ≡ b → written_schema (fold built_in first texts) ≡ written_by b ds
      written b e = schema_written built_in first texts (accepted_applied built_in first texts rules table) (accepted_at_most built_in first texts rules table) ∙ ap (λ b. written_by b ds) e

      by : (b : Bool) → leaves_out ≡ b → has_some (WrittenOf built_in first texts) ≡ true
      by true e = some_second (written_schema (fold built_in first texts) ++ flat_map written_directive (fold built_in first texts).directives) (flat_map written_type (folded_types first ds)) (types_or_not (types_in texts) refl (given e))
      by false e = some_first (written_schema (fold built_in first texts) ++ flat_map written_directive (fold built_in first texts).directives) (flat_map written_type (folded_types first ds))
          (some_first (written_schema (fold built_in first texts)) (flat_map written_directive (fold built_in first texts).directives)
          (subst (λ l. has_some l ≡ true) (sym (written false e)) refl))

pub written_writable : WrittenIsWritable
written_writable built_in first texts can =
    ap (λ b. b && list_all definition_writable (WrittenOf built_in first texts)) (out_some built_in first texts can.table can.no_query can.own can.rules)
    ∙ out_writable built_in first texts can.table can.own can.rules can.defined can.writable
