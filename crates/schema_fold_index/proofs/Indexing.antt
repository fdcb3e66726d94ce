-- Lemmas on the index of a list.
use Rattle.std.proofs.Common.{◌≡◌, ℕ, Bool, true, false, List, [], ◌∷◌, ◌++◌, map, length, Option, None, Some, refl, sym, ap, subst, ◌∙◌, cond, if◌then◌else◌, is_some, option_to_list, slice_get}
use Rattle.std.specs.List.{filter, flat_map}
use Rattle.std.specs.Map.{lookup, set_value, values_of}
use Rattle.std.specs.Option.{option_map, option_map_or}
use Rattle.std.specs.Str.{bytes_eq}
use Rattle.std.proofs.lemmas.List.{append_assoc, append-nil, map-append}
use Rattle.std.proofs.lemmas.List.Elements.{filter-append}
use Rattle.graphql_names.specs.NameValue.{NameValue}
use Rattle.graphql_names.specs.Placed.{Place, name_tree}
use Rattle.schema_fold.specs.in_definitions.DefinitionTree.{DefinitionTree}
use Rattle.schema_fold.specs.in_components.Lists.{each_place_after, firsts, has_name, is_among}
use Rattle.schema_fold.proofs.in_components.Firsts.{kept_seen, kept_new}
use Rattle.schema_fold.proofs.in_components.Places.{each_place-push}
use Rattle.schema_fold.specs.in_schema_types.TypeParts.{TypeParts, TypeDefinition, type_here, type_extension_here}
use Rattle.schema_fold.specs.NumberedDefinition.{Definitions, NumberedDefinition, type_name, types_in, definitions_of}
use Rattle.schema_fold.specs.PartsView.{parts_view}
use Rattle.schema_fold.specs.declared.parts.Parts.{Parts}
use Rattle.schema_fold_index.specs.declared.index.Positions.{Positions}
use Rattle.schema_fold_index.specs.Index.{StandingParts, standing_name, parts_here, standing_after, standing_in_list, positions_named, first_of, first_filed, positions_of, FiledEntries, AreFiled, FilesUnder, listed_at, defined_at, extensions_under}
use Rattle.schema_fold_index.proofs.Under.{added_after, added_new}

-- ---- extensions by name

abbrev pub extends_name : List ℕ → NumberedDefinition → Bool
extends_name n l = option_map_or (λ parts. bytes_eq n parts.name.it) (type_extension_here l.definition) false

-- the extensions of the types of that name, of every kind, in order
abbrev pub extensions_named : List ℕ → List NumberedDefinition → List NumberedDefinition
extensions_named n list = filter (extends_name n) list

abbrev test : List ℕ → NameValue → Bool
test n k = bytes_eq n k.text

abbrev stands : ℕ → TypeParts Place → StandingParts
stands position parts = record { position = position; parts = parts }

-- ---- one definition more

module _ (here : DefinitionTree Place → Option (TypeParts Place)) where
  abbrev stand_here : ℕ → Option (TypeParts Place) → List StandingParts
  stand_here position o = map (λ parts. stands position parts) (option_to_list o)

  standing-push : (ds : Definitions) (d : DefinitionTree Place) → standing_in_list here (ds ++ d ∷ []) ≡ standing_in_list here ds ++ stand_here (length ds) (here d)
  standing-push ds d = each_place-push (λ before e. stand_here (length before) (here e)) ds d

  -- one that gives nothing, and one that does
  pub filed_none : (ds : Definitions) (d : DefinitionTree Place) (es : FiledEntries) → here d ≡ None → AreFiled (standing_in_list here ds) es → AreFiled (standing_in_list here (ds ++ d ∷ [])) es
  filed_none ds d es none filed =
      subst (λ ss. AreFiled ss es) (sym (standing-push ds d ∙ ap (λ o. standing_in_list here ds ++ stand_here (length ds) o) none ∙ append-nil (standing_in_list here ds))) filed

  pub filed_one : (ds : Definitions) (d : DefinitionTree Place) (position : ℕ) (parts : TypeParts Place) (es new : FiledEntries) → here d ≡ Some parts → length ds ≡ position
      → FilesUnder position parts es new → AreFiled (standing_in_list here ds) es → AreFiled (standing_in_list here (ds ++ d ∷ [])) new
  filed_one ds d position parts es new some at files filed =
      subst (λ ss. AreFiled ss new) (sym (standing-push ds d ∙ (λ i. standing_in_list here ds ++ stand_here (at i) (some i)))) (files (standing_in_list here ds) filed)

-- ---- a position more under a name

positions_named-push : (n : List ℕ) (ss : List StandingParts) (s : StandingParts) → positions_named n (ss ++ s ∷ []) ≡ positions_named n ss ++ (if bytes_eq n (standing_name s) then s.position ∷ [] else [])
positions_named-push n ss s =
    let named : StandingParts → Bool = λ x. bytes_eq n (standing_name x) in
    ap (map (λ x. x.position)) (filter-append named ss (s ∷ [])) ∙ map-append (λ x. x.position) (filter named ss) (filter named (s ∷ []))
    ∙ ap (λ l. positions_named n ss ++ l) (by (bytes_eq n (standing_name s)))
  where
    by : (b : Bool) → map (λ x. x.position) (cond b (s ∷ []) []) ≡ cond b (s.position ∷ []) []
    by true = refl
    by false = refl

-- a write that leaves kind and first position as they are
same_firsts : (name : List ℕ) (v w : Positions) → w.kind ≡ v.kind → w.first ≡ v.first → (es : FiledEntries) → lookup (test name) es ≡ Some v
    → map first_filed (set_value (test name) es w) ≡ map first_filed es
same_firsts name v w kind first [] found = refl
same_firsts name v w kind first (e ∷ es) found = by (bytes_eq name e.0.text) found (same_firsts name v w kind first es)
  where
    by : (b : Bool) → cond b (Some e.1) (lookup (test name) es) ≡ Some v → (lookup (test name) es ≡ Some v → map first_filed (set_value (test name) es w) ≡ map first_filed es)
        → map first_filed (cond b ((e.0, w) ∷ es) (e ∷ set_value (test name) es w)) ≡ first_filed e ∷ map first_filed es
    by true h rest =
        let same : v ≡ e.1 = sym (ap (λ o. option_map_or (λ f. f) o v) h) in
        λ i. record { name = name_tree e.0; kind = (kind ∙ ap (λ f. f.kind) same) i; position = (first ∙ ap (λ f. f.first) same) i } ∷ map first_filed es
    by false h rest = ap (λ l. first_filed e ∷ l) (rest h)

module _ (es new : FiledEntries) (position : ℕ) (p : Parts) where
  abbrev own : TypeParts Place
  own = parts_view p

  abbrev added : List ℕ → List ℕ
  added n = if bytes_eq n own.name.it then position ∷ [] else []

  -- where others stand under the name, and where none does
  pub files_after : (v w : Positions) → lookup (test own.name.it) es ≡ Some v → w.kind ≡ v.kind → w.first ≡ v.first → w.others.items ≡ v.others.items ++ position ∷ []
      → new ≡ set_value (test own.name.it) es w → FilesUnder position own es new
  files_after v w found kind first others is ss filed = (
    ap (map first_filed) is ∙ same_firsts own.name.it v w kind first es found
        ∙ kept_seen standing_name first_filed first_of (λ f. f.name.it) (λ e. refl) (λ s. refl) es ss (stands position own) filed.0 (ap is_some found),
    λ n. added_after positions_of es new position own.name.it v w found (λ i. first i ∷ others i) is n
        ∙ ap (λ l. l ++ added n) (filed.1 n) ∙ sym (positions_named-push n ss (stands position own)),
  )

  pub files_first : (w : Positions) → lookup (test own.name.it) es ≡ None → w.kind ≡ own.kind → w.first ≡ position → w.others.items ≡ []
      → new ≡ es ++ (p.name.now, w) ∷ [] → FilesUnder position own es new
  files_first w absent kind first others is ss filed = (
    kept_new standing_name first_filed first_of (λ f. f.name.it) (λ e. refl) (λ s. refl) es ss (stands position own) (map first_filed new) filed.0 (ap is_some absent)
        (ap (map first_filed) is ∙ map-append first_filed es ((p.name.now, w) ∷ []) ∙ (λ i. map first_filed es ++ record { name = own.name; kind = kind i; position = first i } ∷ [])),
    λ n. added_new positions_of es new position p.name.now w absent (λ i. first i ∷ others i) is n
        ∙ ap (λ l. l ++ added n) (filed.1 n) ∙ sym (positions_named-push n ss (stands position own)),
  )

-- ---- the extensions of a name

stands_at : (before : List NumberedDefinition) (l : NumberedDefinition) (after : List NumberedDefinition) → slice_get (before ++ l ∷ after) (length (definitions_of before)) ≡ Some l
stands_at [] l after = refl
stands_at (b ∷ before) l after = stands_at before l after

defined_here : (before : Definitions) (d : DefinitionTree Place) (after : Definitions) → slice_get (before ++ d ∷ after) (length before) ≡ Some d
defined_here [] d after = refl
defined_here (b ∷ before) d after = defined_here before d after

abbrev extending : Definitions → List NumberedDefinition → List StandingParts
extending before rest = standing_after type_extension_here before (definitions_of rest)

module _ (n : List ℕ) (all : List NumberedDefinition) (following : List StandingParts) (found : List NumberedDefinition) where
  -- what is found at the positions of these and of one in front of them
  abbrev Finds : Type 0
  Finds = flat_map (listed_at all) (positions_named n following) ≡ found

  found_too : (place : ℕ) (l : NumberedDefinition) → slice_get all place ≡ Some l → (parts : TypeParts Place) (b : Bool) → Finds
      → flat_map (listed_at all) (map (λ s. s.position) (cond b (stands place parts ∷ filter (λ s. bytes_eq n (standing_name s)) following) (filter (λ s. bytes_eq n (standing_name s)) following))) ≡ cond b (l ∷ found) found
  found_too place l at parts true rest = λ i. option_to_list (at i) ++ rest i
  found_too place l at parts false rest = rest

  found_more : (place : ℕ) (l : NumberedDefinition) → slice_get all place ≡ Some l → (o : Option (TypeParts Place)) → Finds
      → flat_map (listed_at all) (positions_named n (map (λ parts. stands place parts) (option_to_list o) ++ following)) ≡ cond (option_map_or (λ parts. bytes_eq n parts.name.it) o false) (l ∷ found) found
  found_more place l at None rest = rest
  found_more place l at (Some parts) rest = found_too place l at parts (bytes_eq n parts.name.it) rest

extensions_after : (n : List ℕ) (before rest : List NumberedDefinition) → flat_map (listed_at (before ++ rest)) (positions_named n (extending (definitions_of before) rest)) ≡ extensions_named n rest
extensions_after n before [] = refl
extensions_after n before (l ∷ ls) =
    let found = extensions_named n ls in
    let more : Finds n ((before ++ l ∷ []) ++ ls) (extending (definitions_of (before ++ l ∷ [])) ls) found = extensions_after n (before ++ l ∷ []) ls in
    let same : Finds n (before ++ l ∷ ls) (extending (definitions_of (before ++ l ∷ [])) ls) found = subst (λ all. Finds n all (extending (definitions_of (before ++ l ∷ [])) ls) found) (append_assoc before (l ∷ []) ls) more in
    found_more n (before ++ l ∷ ls) (extending (definitions_of before ++ l.definition ∷ []) ls) found (length (definitions_of before)) l (stands_at before l ls) (type_extension_here l.definition)
    (subst (λ ds. Finds n (before ++ l ∷ ls) (extending ds ls) found) (map-append (λ x. x.definition) before (l ∷ [])) same)

-- under each name are the extensions of the name
pub extensions_filed : (list : List NumberedDefinition) (es : FiledEntries) → AreFiled (standing_in_list type_extension_here (definitions_of list)) es → (n : List ℕ) → extensions_under list es n ≡ extensions_named n list
extensions_filed list es filed n = ap (flat_map (listed_at list)) (filed.1 n) ∙ extensions_after n [] list

-- ---- the first definitions

abbrev Type_ : Type 0
Type_ = TypeDefinition Place

abbrev first_standing : List StandingParts → StandingParts → List StandingParts
first_standing before s = if has_name standing_name (standing_name s) before then [] else s ∷ []

abbrev first_type : List Type_ → Type_ → List Type_
first_type before t = if has_name type_name (type_name t) before then [] else t ∷ []

abbrev places : List StandingParts → List ℕ
places ss = map (λ s. s.position) ss

module _ (all : Definitions) (following : List StandingParts) (left : List Type_) where
  -- what is defined at the positions of the first of these, where some stand before them
  abbrev Defines : List StandingParts → List Type_ → Type 0
  Defines ss ts = flat_map (defined_at all) (places (each_place_after first_standing ss following)) ≡ each_place_after first_type ts left

  module _ (place : ℕ) (d : DefinitionTree Place) (at : slice_get all place ≡ Some d) where
    new_or_not : (t : Type_) → type_here d ≡ Some t → (ss : List StandingParts) (ts : List Type_) → Defines ss ts → (b : Bool)
        → flat_map (defined_at all) (places (cond b [] (stands place t.parts ∷ []) ++ each_place_after first_standing ss following)) ≡ cond b [] (t ∷ []) ++ each_place_after first_type ts left
    new_or_not t is ss ts more true = more
    new_or_not t is ss ts more false = λ i. (ap (λ o. option_map_or (λ e. option_to_list (type_here e)) o []) at ∙ ap option_to_list is) i ++ more i

    defines_more : (o : Option Type_) → type_here d ≡ o → ((ss : List StandingParts) (ts : List Type_) → map standing_name ss ≡ map type_name ts → Defines ss ts)
        → (ss : List StandingParts) (ts : List Type_) → map standing_name ss ≡ map type_name ts
        → flat_map (defined_at all) (places (each_place_after first_standing ss (map (λ parts. stands place parts) (option_to_list (option_map (λ t. t.parts) o)) ++ following))) ≡ each_place_after first_type ts (option_to_list o ++ left)
    defines_more None is rest ss ts same = rest ss ts same
    defines_more (Some t) is rest ss ts same =
        let s = stands place t.parts in
        ap (λ ns. flat_map (defined_at all) (places (cond (is_among (type_name t) ns) [] (s ∷ []) ++ each_place_after first_standing (ss ++ s ∷ []) following))) same
        ∙ new_or_not t is (ss ++ s ∷ []) (ts ++ t ∷ [])
        (rest (ss ++ s ∷ []) (ts ++ t ∷ []) (map-append standing_name ss (s ∷ []) ∙ ap (λ ns. ns ++ type_name t ∷ []) same ∙ sym (map-append type_name ts (t ∷ []))))
        (has_name type_name (type_name t) ts)

types_after : (before ds : Definitions) (ss : List StandingParts) (ts : List Type_) → map standing_name ss ≡ map type_name ts
    → Defines (before ++ ds) (standing_after parts_here before ds) (types_in ds) ss ts
types_after before [] ss ts same = refl
types_after before (d ∷ ds) ss ts same =
    let following = standing_after parts_here (before ++ d ∷ []) ds in
    defines_more (before ++ d ∷ ds) following (types_in ds) (length before) d (defined_here before d ds) (type_here d) refl
    (λ ss' ts' same'. subst (λ all. Defines all following (types_in ds) ss' ts') (append_assoc before (d ∷ []) ds) (types_after (before ++ d ∷ []) ds ss' ts' same')) ss ts same

first_places : (es : FiledEntries) → map (λ f. f.first) (values_of es) ≡ map (λ f. f.position) (map first_filed es)
first_places [] = refl
first_places (e ∷ es) = ap (λ l. e.1.first ∷ l) (first_places es)

places_of : (ss : List StandingParts) → map (λ f. f.position) (map first_of ss) ≡ places ss
places_of [] = refl
places_of (s ∷ ss) = ap (λ l. s.position ∷ l) (places_of ss)

defined_of : (ds : Definitions) (fs : List Positions) → flat_map (λ f. defined_at ds f.first) fs ≡ flat_map (defined_at ds) (map (λ f. f.first) fs)
defined_of ds [] = refl
defined_of ds (f ∷ fs) = ap (λ l. defined_at ds f.first ++ l) (defined_of ds fs)

-- at the first positions are the first definitions of each name
pub types_filed : (ds : Definitions) (es : FiledEntries) → AreFiled (standing_in_list parts_here ds) es → flat_map (λ f. defined_at ds f.first) (values_of es) ≡ firsts type_name (types_in ds)
types_filed ds es filed =
    defined_of ds (values_of es)
    ∙ ap (flat_map (defined_at ds)) (first_places es ∙ ap (map (λ f. f.position)) filed.0 ∙ places_of (firsts standing_name (standing_in_list parts_here ds)))
    ∙ types_after [] ds [] [] refl
