-- The first position that is filed under a name tells whether a definition of the name stands before a position.
use Rattle.std.proofs.Common.{◌≡◌, ◌≤◌, ℕ, ◌+◌, zero, suc, Bool, true, false, ◌||◌, List, [], ◌∷◌, ◌++◌, map, take, length, Option, None, Some, refl, ap, ◌∙◌, cond, option_to_list, slice_get, arith}
use Rattle.std.specs.Prelude.{nat_lt}
use Rattle.std.specs.List.{filter}
use Rattle.std.specs.Map.{lookup}
use Rattle.std.specs.Option.{option_map, option_map_or}
use Rattle.std.specs.Str.{bytes_eq}
use Rattle.std.proofs.lemmas.Bool.{lt-ltb, le-ltb}
use Rattle.std.proofs.lemmas.List.{length-append}
use Rattle.graphql_names.specs.Placed.{Place}
use Rattle.schema_fold_index.specs.in_definitions.DefinitionTree.{DefinitionTree}
use Rattle.schema_fold_index.specs.in_components.Lists.{has_name}
use Rattle.schema_fold_index.specs.in_schema_types.TypeParts.{TypeDefinition, type_here}
use Rattle.schema_fold_index.specs.in_fold.NumberedDefinition.{Definitions, type_name, types_in}
use Rattle.schema_fold_index.specs.declared.index.Positions.{Positions}
use Rattle.schema_fold_index.specs.Index.{StandingParts, standing_name, parts_here, standing_after, standing_in_list, positions_named, positions_of, FiledEntries, AreFiled, is_filed_before}

module _ (n : List ℕ) (i : ℕ) where
  -- the first of these positions is before i
  abbrev starts_before : List ℕ → Bool
  starts_before ps = option_map_or (λ p. nat_lt p i) (slice_get ps 0) false

  abbrev first_before : List StandingParts → Bool
  first_before ss = starts_before (positions_named n ss)

  abbrev standing_here : ℕ → Option (TypeDefinition Place) → List StandingParts
  standing_here place o = map (λ parts. record { position = place; parts = parts }) (option_to_list (option_map (λ t. t.parts) o))

  filed_starts : (o : Option Positions) → option_map_or (λ f. nat_lt f.first i) o false ≡ starts_before (option_map_or positions_of o [])
  filed_starts None = refl
  filed_starts (Some f) = refl

  more : (before : Definitions) (d : DefinitionTree Place) → length (before ++ d ∷ []) ≡ length before + 1
  more before d = length-append before (d ∷ [])

  -- a definition at place i or later adds none before i
  first_after : (place : ℕ) (o : Option (TypeDefinition Place)) (following : List StandingParts) → i ≤ place → first_before following ≡ false → first_before (standing_here place o ++ following) ≡ false
  first_after place None following h rest = rest
  first_after place (Some t) following h rest = by (bytes_eq n (type_name t))
    where
      by : (b : Bool) → starts_before (map (λ s. s.position) (cond b (record { position = place; parts = t.parts } ∷ filter (λ s. bytes_eq n (standing_name s)) following) (filter (λ s. bytes_eq n (standing_name s)) following))) ≡ false
      by true = le-ltb place i h
      by false = rest

  none_following : (before ds : Definitions) → i ≤ length before → first_before (standing_after parts_here before ds) ≡ false
  none_following before [] h = refl
  none_following before (d ∷ ds) h =
      let m = more before d in
      first_after (length before) (type_here d) (standing_after parts_here (before ++ d ∷ []) ds) h (none_following (before ++ d ∷ []) ds (omega (arith, m, h)))

  -- one that stands before it, if it is of the name
  first_here : (place : ℕ) (o : Option (TypeDefinition Place)) (following : List StandingParts) (ts : List (TypeDefinition Place)) → place + 1 ≤ i → first_before following ≡ has_name type_name n ts
      → first_before (standing_here place o ++ following) ≡ has_name type_name n (option_to_list o ++ ts)
  first_here place None following ts h rest = rest
  first_here place (Some t) following ts h rest = by (bytes_eq n (type_name t))
    where
      by : (b : Bool) → starts_before (map (λ s. s.position) (cond b (record { position = place; parts = t.parts } ∷ filter (λ s. bytes_eq n (standing_name s)) following) (filter (λ s. bytes_eq n (standing_name s)) following)))
          ≡ (b || has_name type_name n ts)
      by true = lt-ltb place i (omega (arith, h))
      by false = rest

  stands_after : (before ds : Definitions) (k : ℕ) → length before + k ≡ i → first_before (standing_after parts_here before ds) ≡ has_name type_name n (types_in (take k ds))
  stands_after before ds zero e = none_following before ds (omega (arith, e))
  stands_after before [] (suc k) e = refl
  stands_after before (d ∷ ds) (suc k) e =
      let m = more before d in
      first_here (length before) (type_here d) (standing_after parts_here (before ++ d ∷ []) ds) (types_in (take k ds)) (omega (arith, e)) (stands_after (before ++ d ∷ []) ds k (omega (arith, m, e)))

  pub stands_before : (ds : Definitions) (es : FiledEntries) → AreFiled (standing_in_list parts_here ds) es → is_filed_before i es n ≡ has_name type_name n (types_in (take i ds))
  stands_before ds es filed =
      filed_starts (lookup (λ k. bytes_eq n k.text) es) ∙ ap starts_before (filed.1 n) ∙ stands_after [] ds i (omega arith)
