-- What is written of accepted schema texts can be written.
use Rattle.std.proofs.Common.{◌≡◌, ℕ, Bool, true, false, ◌||◌, List, [], ◌∷◌, ◌++◌, flat_map, Option, None, Some, is_some, refl, ap, ◌∙◌, slice_get, inl, true≢false, if◌then◌else◌}
use Rattle.std.specs.Option.{option_map, option_map_or}
use Rattle.schema_components.specs.Given.{given_name}
use Rattle.schema_components.specs.in_operations.in_directives.declared.operation_type.OperationType.TheVariants as operation
use Rattle.schema_built_in.specs.Table.{built_in_definitions}
use Rattle.schema_fold.specs.NumberedDefinition.{Definitions, numbered}
use Rattle.schema_fold.specs.Components.{all_given}
use Rattle.schema_fold.specs.SchemaFold.{Root, SchemaGiver, schema_definition_in, schema_is_defined, schema_base, implicit_roots, extends_schema, root_in, folded_schema}
use Rattle.rule_definitions.specs.Faults.{told}
use Rattle.rule_definitions.specs.Diagnostics.{QueryRootOperationType}
use Rattle.schema_types.specs.Addresses.{SchemaAt}
use Rattle.verdict_definitions.specs.Meaning.{all_definitions}
use Rattle.verdict_laws.specs.Written.{AcceptedSchemasCanBeWritten}
use Rattle.verdict_laws.proofs.OutSome.{written_writable}
use Rattle.verdict_laws.proofs.RealTable.{real_table, real_table_has_no_query}
use Rattle.verdict_laws.proofs.Sound.{fine_all, are_own}

-- ---- a schema that is neither defined nor implied has no query root

no_base : (ds : Definitions) → schema_is_defined ds ≡ false → (schema_base ds).parts.roots ≡ []
no_base ds h = by (schema_definition_in ds) refl h
  where
    none : (rs : List Root) → is_some (slice_get rs 0) ≡ false → rs ≡ []
    none [] k = refl
    none (r ∷ rs) k = absurd (true≢false k)

    by : (o : Option SchemaGiver) → schema_definition_in ds ≡ o → (is_some o || is_some (slice_get (implicit_roots ds) 0)) ≡ false
        → (option_map_or (λ s. s) o (record { place = None; description = None; parts = record { directives = []; roots = implicit_roots ds } })).parts.roots ≡ []
    by None e k = none (implicit_roots ds) k
    by (Some s) e k = absurd (true≢false k)

no_query : (first : ℕ) (ds : Definitions) → schema_is_defined ds ≡ false → (folded_schema first ds).query ≡ None
no_query first ds h =
    ap (λ gs. root_in operation.Query gs)
    (ap (λ b. all_given None (schema_base ds).parts.roots ++ flat_map (λ g. all_given g.extension g.it.roots) (if b then flat_map extends_schema (numbered first ds) else [])) h
    ∙ ap (λ rs. all_given None rs ++ []) (no_base ds h))

defined_where_root : (first : ℕ) (ds : Definitions) → ((folded_schema first ds).query ≡ None → ⊥) → schema_is_defined ds ≡ true
defined_where_root first ds some = by (schema_is_defined ds) refl
  where
    by : (b : Bool) → schema_is_defined ds ≡ b → b ≡ true
    by true e = refl
    by false e = absurd (some (no_query first ds e))

pub schemas : AcceptedSchemasCanBeWritten
schemas terms texts some accepted =
    let trees = accepted.judged.trees in
    let ds = all_definitions trees in
    let fine = fine_all terms.first_text texts trees some accepted.judged.read in
    written_writable built_in_definitions terms.first_extension ds (record {
      table = real_table;
      no_query = real_table_has_no_query;
      own = are_own ds fine;
      rules = accepted.judged.folds;
      defined = defined_where_root terms.first_extension (built_in_definitions ++ ds) (λ e. accepted.judged.holds (told SchemaAt QueryRootOperationType) (inl (inl (ap (option_map given_name) e, refl))));
      writable = fine.can;
    })
