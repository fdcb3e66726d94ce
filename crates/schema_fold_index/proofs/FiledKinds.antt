-- The names and kinds that are filed first are those of the first of each name.
use Rattle.std.proofs.Common.{◌≡◌, ℕ, Bool, true, false, List, [], ◌∷◌, ◌++◌, map, length, Option, None, Some, refl, sym, ap, ◌∙◌, cond, if◌then◌else◌, option_to_list}
use Rattle.std.specs.List.{flat_map}
use Rattle.std.specs.Map.{lookup}
use Rattle.std.specs.Option.{option_map}
use Rattle.std.specs.Str.{bytes_eq}
use Rattle.std.proofs.lemmas.List.{map-append}
use Rattle.graphql_names.specs.Placed.{Place}
use Rattle.schema_fold.specs.in_definitions.DefinitionTree.{DefinitionTree}
use Rattle.schema_fold.specs.in_components.Lists.{each_place_after, firsts, has_name, is_among}
use Rattle.schema_fold.specs.in_schema_types.TypeParts.{TypeParts, TypeDefinition, type_here}
use Rattle.schema_fold.specs.NumberedDefinition.{Definitions, type_name, types_in}
use Rattle.schema_fold.specs.in_schema_types.declared.type_kind.TypeKind.{TypeKind}
use Rattle.schema_fold_index.specs.Index.{StandingParts, standing_name, parts_here, standing_after, standing_in_list, first_of, first_filed, FiledEntries, AreFiled, NamedKind, filed_kind, text_kind}

-- the firsts of what is made of each
module _ {X Y : Type 0} (f : X → Y) (key : Y → List ℕ) where
  abbrev first_made : List Y → Y → List Y
  first_made before y = if has_name key (key y) before then [] else y ∷ []

  abbrev first_maker : List X → X → List X
  first_maker before x = if has_name (λ z. key (f z)) (key (f x)) before then [] else x ∷ []

  made_names : (xs : List X) → map key (map f xs) ≡ map (λ x. key (f x)) xs
  made_names [] = refl
  made_names (x ∷ xs) = ap (λ l. key (f x) ∷ l) (made_names xs)

  firsts_after : (before xs : List X) → each_place_after first_made (map f before) (map f xs) ≡ map f (each_place_after first_maker before xs)
  firsts_after before [] = refl
  firsts_after before (x ∷ xs) =
      ap (λ ns. cond (is_among (key (f x)) ns) [] (f x ∷ []) ++ each_place_after first_made (map f before ++ f x ∷ []) (map f xs)) (made_names before)
      ∙ ap (λ b. cond (has_name (λ z. key (f z)) (key (f x)) before) [] (f x ∷ []) ++ each_place_after first_made b (map f xs)) (sym (map-append f before (x ∷ [])))
      ∙ by (has_name (λ z. key (f z)) (key (f x)) before) (firsts_after (before ++ x ∷ []) xs)
    where
      by : (b : Bool) → each_place_after first_made (map f (before ++ x ∷ [])) (map f xs) ≡ map f (each_place_after first_maker (before ++ x ∷ []) xs)
          → cond b [] (f x ∷ []) ++ each_place_after first_made (map f (before ++ x ∷ [])) (map f xs) ≡ map f (cond b [] (x ∷ []) ++ each_place_after first_maker (before ++ x ∷ []) xs)
      by true rest = rest
      by false rest = ap (λ l. f x ∷ l) rest

  pub firsts-map : (xs : List X) → firsts key (map f xs) ≡ map f (firsts (λ x. key (f x)) xs)
  firsts-map xs = firsts_after [] xs

-- ---- the parts of what is in a list

abbrev parts_name : TypeParts Place → List ℕ
parts_name p = p.name.it

abbrev kind_of : TypeParts Place → NamedKind
kind_of p = (p.name, p.kind)

abbrev stand_here : ℕ → Option (TypeParts Place) → List StandingParts
stand_here place o = map (λ parts. record { position = place; parts = parts }) (option_to_list o)

module _ (here : DefinitionTree Place → Option (TypeParts Place)) where
  abbrev pub parts_in : Definitions → List (TypeParts Place)
  parts_in ds = flat_map (λ d. option_to_list (here d)) ds

  standing_parts : (before ds : Definitions) → map (λ s. s.parts) (standing_after here before ds) ≡ parts_in ds
  standing_parts before [] = refl
  standing_parts before (d ∷ ds) = by (here d) (standing_parts (before ++ d ∷ []) ds)
    where
      by : (o : Option (TypeParts Place)) → map (λ s. s.parts) (standing_after here (before ++ d ∷ []) ds) ≡ parts_in ds
          → map (λ s. s.parts) (stand_here (length before) o ++ standing_after here (before ++ d ∷ []) ds) ≡ option_to_list o ++ parts_in ds
      by None rest = rest
      by (Some p) rest = ap (λ l. p ∷ l) rest

  first_parts : (ds : Definitions) → map (λ s. s.parts) (firsts standing_name (standing_in_list here ds)) ≡ firsts parts_name (parts_in ds)
  first_parts ds = sym (firsts-map (λ s. s.parts) parts_name (standing_in_list here ds)) ∙ ap (firsts parts_name) (standing_parts [] ds)

  kinds_filed : (es : FiledEntries) → map filed_kind es ≡ map (λ f. (f.name, f.kind)) (map first_filed es)
  kinds_filed [] = refl
  kinds_filed (e ∷ es) = ap (λ l. filed_kind e ∷ l) (kinds_filed es)

  kinds_standing : (ss : List StandingParts) → map (λ f. (f.name, f.kind)) (map first_of ss) ≡ map kind_of (map (λ s. s.parts) ss)
  kinds_standing [] = refl
  kinds_standing (s ∷ ss) = ap (λ l. kind_of s.parts ∷ l) (kinds_standing ss)

  pub kinds_are : (ds : Definitions) (es : FiledEntries) → AreFiled (standing_in_list here ds) es → map filed_kind es ≡ map kind_of (firsts parts_name (parts_in ds))
  kinds_are ds es filed =
      kinds_filed es ∙ ap (map (λ f. (f.name, f.kind))) filed.0 ∙ kinds_standing (firsts standing_name (standing_in_list here ds)) ∙ ap (map kind_of) (first_parts ds)

-- ---- of definitions

pub defined_parts : (ds : Definitions) → parts_in parts_here ds ≡ map (λ t. t.parts) (types_in ds)
defined_parts [] = refl
defined_parts (d ∷ ds) = by (type_here d) (defined_parts ds)
  where
    by : (o : Option (TypeDefinition Place)) → parts_in parts_here ds ≡ map (λ t. t.parts) (types_in ds)
        → option_to_list (option_map (λ t. t.parts) o) ++ parts_in parts_here ds ≡ map (λ t. t.parts) (option_to_list o ++ types_in ds)
    by None rest = rest
    by (Some t) rest = ap (λ l. t.parts ∷ l) rest

abbrev kind_text : NamedKind → List ℕ × TypeKind
kind_text k = (k.0.it, k.1)

texts_kinds : (es : FiledEntries) → map text_kind es ≡ map kind_text (map filed_kind es)
texts_kinds [] = refl
texts_kinds (e ∷ es) = ap (λ l. text_kind e ∷ l) (texts_kinds es)

types_kinds : (ts : List (TypeDefinition Place)) → map kind_text (map kind_of (map (λ t. t.parts) ts)) ≡ map (λ t. (type_name t, t.parts.kind)) ts
types_kinds [] = refl
types_kinds (t ∷ ts) = ap (λ l. (type_name t, t.parts.kind) ∷ l) (types_kinds ts)

-- the names and kinds of the first definitions
pub defined_kinds : (ds : Definitions) (es : FiledEntries) → AreFiled (standing_in_list parts_here ds) es → map text_kind es ≡ map (λ t. (type_name t, t.parts.kind)) (firsts type_name (types_in ds))
defined_kinds ds es filed =
    texts_kinds es ∙ ap (map kind_text) (kinds_are parts_here ds es filed
    ∙ ap (λ ps. map kind_of (firsts parts_name ps)) (defined_parts ds)
    ∙ ap (map kind_of) (firsts-map (λ t. t.parts) parts_name (types_in ds)))
    ∙ types_kinds (firsts type_name (types_in ds))

-- the kind under a name
pub lookup_kind : (n : List ℕ) (es : FiledEntries) → lookup (bytes_eq n) (map text_kind es) ≡ option_map (λ f. f.kind) (lookup (λ k. bytes_eq n k.text) es)
lookup_kind n [] = refl
lookup_kind n (e ∷ es) = by (bytes_eq n e.0.text) (lookup_kind n es)
  where
    by : (b : Bool) → lookup (bytes_eq n) (map text_kind es) ≡ option_map (λ f. f.kind) (lookup (λ k. bytes_eq n k.text) es)
        → cond b (Some e.1.kind) (lookup (bytes_eq n) (map text_kind es)) ≡ option_map (λ f. f.kind) (cond b (Some e.1) (lookup (λ k. bytes_eq n k.text) es))
    by true rest = refl
    by false rest = rest
