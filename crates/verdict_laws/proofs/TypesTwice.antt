-- The types of an accepted list, written, folded and written again, are as they were written.
use Rattle.std.proofs.Common.{◌≡◌, ℕ, Bool, true, false, not, List, [], ◌∷◌, ◌++◌, map, flat_map, Option, Some, None, refl, sym, ap, ◌∙◌, if◌then◌else◌, append_assoc, option_to_list}
use Rattle.std.specs.List.{filter, AllByRecursion}
use Rattle.std.specs.Option.{option_map_or}
use Rattle.std.proofs.lemmas.List.{append-nil}
use Rattle.std.proofs.lemmas.List.Elements.{filter-append}
use Rattle.std.proofs.lemmas.Grind.{flat_map-append}
use Rattle.graphql_names.specs.Places.{is_built_in}
use Rattle.graphql_names.specs.Placed.{Place}
use Rattle.tree_definitions.specs.DefinitionTree.{DefinitionTree}
use Rattle.tree_definitions.specs.Queries.{definition_place}
use Rattle.schema_components.specs.Lists.{firsts, has_name}
use Rattle.schema_types.specs.TypeParts.{TypeParts, TypeDefinition, type_here, type_extension_here}
use Rattle.schema_types.specs.Out.{written_type}
use Rattle.schema_fold.specs.NumberedDefinition.{Definitions, numbered, type_name, types_in}
use Rattle.schema_fold.specs.Components.{go_together}
use Rattle.schema_fold.specs.Fold.{folded_type, folded_types}
use Rattle.schema_fold.specs.Made.{IsDefinition}
use Rattle.schema_fold.specs.BuildErrors.{FoldingRules, is_built_in_scalar, type_definition_collision, built_in_scalar_type_redefinition}
use Rattle.verdict_laws.specs.Arranged.{arranged}
use Rattle.verdict_laws.specs.Whole.{classes, extension_at, extensions_in, whole_type}
use Rattle.verdict_laws.specs.Table.{IsTable, AreOwn}
use Rattle.verdict_laws.proofs.Order.{Each, kept, kept-append, filter_all, filter_none}
use Rattle.verdict_laws.proofs.Types.{HasNoRepeats}
use Rattle.verdict_laws.proofs.Accepted.{Each-firsts, types_defined, written_each, all_no_repeats, types_whole}
use Rattle.verdict_laws.proofs.Again.{renamed, extensions_again, types_again, same_type, firsts_apart}
use Rattle.verdict_laws.proofs.Names.{no_repeats_again}
use Rattle.verdict_laws.proofs.PlainTwice.{plain_again}
use Rattle.std.specs.FinMap as fin
use Rattle.schema_components.specs.Names.{named}
use Rattle.schema_types.specs.Plain.{PlainType, plain_type}
use Rattle.schema_types.specs.SchemaTree.{SchemaType}

pub all_each : {X : Type 0} (P : X → Type 0) (xs : List X) → AllByRecursion P xs → Each P xs
all_each P [] h = tt
all_each P (x ∷ xs) h = (h.0, all_each P xs h.1)

pub types_append : (xs ys : Definitions) → types_in (xs ++ ys) ≡ types_in xs ++ types_in ys
types_append xs ys = flat_map-append (λ d. option_to_list (type_here d)) xs ys

pub none_in : {X Y : Type 0} (f : X → List Y) (xs : List X) → Each (λ x. f x ≡ []) xs → flat_map f xs ≡ []
none_in f [] h = refl
none_in f (x ∷ xs) h = λ i. h.0 i ++ none_in f xs h.1 i

no_extensions : (defined : TypeParts Place) (xs : Definitions) → Each (λ d. type_extension_here d ≡ None) xs → extensions_in xs defined ≡ []
no_extensions defined [] h = refl
no_extensions defined (d ∷ ds) h =
    λ i. ap (λ o. option_map_or (λ parts. if go_together defined parts then record { it = parts; place = definition_place d } ∷ [] else []) o []) h.0 i ++ no_extensions defined ds h.1 i

no_types_in : (xs : Definitions) → Each (λ d. type_here d ≡ None) xs → types_in xs ≡ []
no_types_in [] h = refl
no_types_in (d ∷ ds) h = λ i. option_to_list (h.0 i) ++ no_types_in ds h.1 i

module _ (built_in : Definitions) (first : ℕ) (texts : Definitions) (rules : FoldingRules built_in first texts) where
  abbrev type_itself : TypeDefinition Place → TypeDefinition Place
  type_itself t = t

  abbrev kept_of : List (TypeDefinition Place) → List (TypeDefinition Place) → List (TypeDefinition Place)
  kept_of = kept type_name type_itself

  -- no type of the texts is defined before
  unseen : (before rest : Definitions) (d : DefinitionTree Place) (t : TypeDefinition Place) → texts ≡ before ++ d ∷ rest → type_here d ≡ Some t → has_name type_name (type_name t) (types_in (built_in ++ before)) ≡ false
  unseen before rest d t e here = by (has_name type_name (type_name t) (types_in (built_in ++ before))) refl
    where
      by : (b : Bool) → has_name type_name (type_name t) (types_in (built_in ++ before)) ≡ b → b ≡ false
      by false h = refl
      by true h = scalar (is_built_in_scalar built_in texts (type_name t)) refl
        where
          scalar : (s : Bool) → is_built_in_scalar built_in texts (type_name t) ≡ s → true ≡ false
          scalar true k = absurd (rules _ (built_in_scalar_type_redefinition (before, (d, ((rest, e), (t, ((here, h), k, refl)))))))
          scalar false k = absurd (rules _ (type_definition_collision (before, (d, ((rest, e), (t, ((here, h), k, refl)))))))

  kept_types : (before rest : Definitions) → texts ≡ before ++ rest → kept_of (types_in (built_in ++ before)) (types_in rest) ≡ types_in rest
  kept_types before [] e = refl
  kept_types before (d ∷ rest) e = by (type_here d) refl (kept_types (before ++ d ∷ []) rest (e ∙ sym (append_assoc before (d ∷ []) rest)))
    where
      more : types_in (built_in ++ (before ++ d ∷ [])) ≡ types_in (built_in ++ before) ++ (option_to_list (type_here d) ++ [])
      more = ap types_in (sym (append_assoc built_in before (d ∷ []))) ∙ types_append (built_in ++ before) (d ∷ [])

      by : (o : Option (TypeDefinition Place)) → type_here d ≡ o → kept_of (types_in (built_in ++ (before ++ d ∷ []))) (types_in rest) ≡ types_in rest
          → kept_of (types_in (built_in ++ before)) (option_to_list o ++ types_in rest) ≡ option_to_list o ++ types_in rest
      by None here h = ap (λ l. kept_of l (types_in rest)) (sym (more ∙ ap (λ o. types_in (built_in ++ before) ++ (option_to_list o ++ [])) here ∙ append-nil (types_in (built_in ++ before)))) ∙ h
      by (Some t) here h =
          ap (λ b. (if b then [] else t ∷ []) ++ kept_of (types_in (built_in ++ before) ++ t ∷ []) (types_in rest)) (unseen before rest d t e here)
          ∙ ap (λ l. t ∷ l) (ap (λ l. kept_of l (types_in rest)) (sym (more ∙ ap (λ o. types_in (built_in ++ before) ++ (option_to_list o ++ [])) here)) ∙ h)

  module _ (table : IsTable built_in) (own : AreOwn texts) where
    abbrev ds : Definitions
    ds = built_in ++ texts

    abbrev defined : List (TypeDefinition Place)
    defined = firsts type_name (types_in ds)

    -- no two types of all have one name
    pub all_types : defined ≡ types_in built_in ++ types_in texts
    all_types =
        ap (kept_of []) (types_append built_in texts) ∙ kept-append type_name type_itself [] (types_in built_in) (types_in texts)
        ∙ (λ i. table.types_distinct i ++ (ap (λ l. kept_of (types_in l) (types_in texts)) (sym (append-nil built_in)) ∙ kept_types [] texts refl) i)

    own_types : filter (λ t. not (is_built_in t.place)) defined ≡ types_in texts
    own_types =
        ap (filter (λ t. not (is_built_in t.place))) all_types ∙ filter-append (λ t. not (is_built_in t.place)) (types_in built_in) (types_in texts)
        ∙ (λ i. filter_none (λ t. not (is_built_in t.place)) (types_in built_in) (negated true (types_in built_in) (all_each (λ t. is_built_in t.place ≡ true) (types_in built_in) table.types_marked)) i
        ++ filter_all (λ t. not (is_built_in t.place)) (types_in texts) (negated false (types_in texts) (all_each (λ t. is_built_in t.place ≡ false) (types_in texts) own.types)) i)
      where
        negated : (b : Bool) (ts : List (TypeDefinition Place)) → Each (λ t. is_built_in t.place ≡ b) ts → Each (λ t. not (is_built_in t.place) ≡ not b) ts
        negated b [] h = tt
        negated b (t ∷ ts) h = (ap not h.0, negated b ts h.1)

    abbrev out_types : Definitions
    out_types = flat_map (whole_type ds) defined

    module _ (others : Definitions) (no_types : Each (λ d. type_here d ≡ None) others) (no_extension : Each (λ d. type_extension_here d ≡ None) others) (again_first : ℕ) where
      abbrev again : Definitions
      again = built_in ++ (others ++ out_types)

      is_defined : Each IsDefinition defined
      is_defined = Each-firsts type_name IsDefinition [] (types_in ds) (types_defined ds)

      pub same_types : types_in again ≡ types_in ds
      same_types =
          types_append built_in (others ++ out_types)
          ∙ ap (λ l. types_in built_in ++ l) (types_append others out_types ∙ (λ i. no_types_in others no_types i ++ (types_again ds defined is_defined ∙ own_types) i))
          ∙ sym (types_append built_in texts)

      abbrev IsAgain : TypeDefinition Place → Type 0
      IsAgain t = extensions_in again t.parts ≡ map (renamed t) (arranged classes (extensions_in ds t.parts))

      extensions_all : (ts : List (TypeDefinition Place)) → Each (λ t. extensions_in out_types t.parts ≡ map (renamed t) (arranged classes (extensions_in ds t.parts))) ts → Each IsAgain ts
      extensions_all [] h = tt
      extensions_all (t ∷ ts) h = (
        flat_map-append (extension_at t.parts) built_in (others ++ out_types)
            ∙ (λ i. no_extensions t.parts built_in (all_each (λ d. type_extension_here d ≡ None) built_in table.no_extension) i
            ++ (flat_map-append (extension_at t.parts) others out_types ∙ (λ i. no_extensions t.parts others no_extension i ++ h.0 i)) i),
        extensions_all ts h.1,
      )

      are_again : Each IsAgain defined
      are_again = extensions_all defined (extensions_again ds defined (firsts_apart type_name (types_in ds)))

      not_repeated : (ts : List (TypeDefinition Place)) → Each IsAgain ts → Each (HasNoRepeats (numbered first ds)) ts → Each (HasNoRepeats (numbered again_first again)) ts
      not_repeated [] a h = tt
      not_repeated (t ∷ ts) a h = (no_repeats_again t first again_first ds again a.0 h.0, not_repeated ts a.1 h.1)

      pub again_no_repeats : Each (HasNoRepeats (numbered again_first again)) defined
      again_no_repeats = not_repeated defined are_again (all_no_repeats built_in first texts rules)

      all_same : (ts : List (TypeDefinition Place)) → Each IsAgain ts → flat_map (whole_type again) ts ≡ flat_map (whole_type ds) ts
      all_same [] a = refl
      all_same (t ∷ ts) a = λ i. same_type ds again t a.0 i ++ all_same ts a.1 i

      pub types_twice : flat_map written_type (folded_types again_first again) ≡ flat_map written_type (folded_types first ds)
      types_twice =
          ap (λ ts. flat_map written_type (map (λ t. (type_name t, folded_type (numbered again_first again) t)) (firsts type_name ts))) same_types
          ∙ written_each again_first again defined (not_repeated defined are_again (all_no_repeats built_in first texts rules))
          ∙ all_same defined are_again ∙ sym (types_whole built_in first texts rules)

      plain_all : (ts : List (TypeDefinition Place)) → Each IsAgain ts → Each (HasNoRepeats (numbered first ds)) ts
          → map {A = List ℕ × SchemaType Place} {B = List ℕ × PlainType} (λ e. (e.0, plain_type e.1)) (map (λ t. (type_name t, folded_type (numbered again_first again) t)) ts)
          ≡ map {A = List ℕ × SchemaType Place} {B = List ℕ × PlainType} (λ e. (e.0, plain_type e.1)) (map (λ t. (type_name t, folded_type (numbered first ds) t)) ts)
      plain_all [] a h = refl
      plain_all (t ∷ ts) a h = λ i. (type_name t, plain_again t first again_first ds again a.0 h.0 i) ∷ plain_all ts a.1 h.1 i

      -- the types are equal
      pub types_equal : named plain_type (folded_types again_first again) ≡ named plain_type (folded_types first ds)
      types_equal =
          ap (λ ts. named plain_type (map (λ t. (type_name t, folded_type (numbered again_first again) t)) (firsts type_name ts))) same_types
          ∙ ap fin.from_entries (plain_all defined are_again (all_no_repeats built_in first texts rules))
