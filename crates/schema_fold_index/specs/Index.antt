-- The index of a list: the positions in it of the definitions and the extensions of types, by the names of their types.
use Rattle.std.specs.Prelude.{◌≡◌, ℕ, Bool, false, List, [], ◌∷◌, ◌++◌, map, take, length, Option, nat_lt, option_to_list, slice_get}
use Rattle.std.specs.List.{filter, flat_map}
use Rattle.std.specs.Map.{lookup}
use Rattle.std.specs.Option.{option_map, option_map_or}
use Rattle.std.specs.Str.{bytes_eq}
use Rattle.graphql_names.specs.NameValue.{NameValue}
use Rattle.graphql_names.specs.Placed.{Place, Text, name_tree}
use Rattle.schema_fold.specs.in_definitions.DefinitionTree.{DefinitionTree}
use Rattle.schema_fold.specs.in_components.Lists.{each_place_after, firsts}
use Rattle.schema_fold.specs.in_schema_types.TypeParts.{TypeParts, TypeDefinition, type_here, type_extension_here}
use Rattle.schema_fold.specs.in_schema_types.declared.type_kind.TypeKind.{TypeKind}
use Rattle.schema_fold.specs.NumberedDefinition.{Definitions, NumberedDefinition}
use Rattle.schema_fold_index.specs.declared.index.Positions.{Positions}
use Rattle.schema_fold_index.specs.declared.index.Index.{Index}

-- ---- the types of a list

-- the definition or an extension of a type, at a position of the list
pub record StandingParts : Type 0 where
  pub position : ℕ
  pub parts : TypeParts Place

abbrev pub standing_name : StandingParts → List ℕ
standing_name s = s.parts.name.it

-- the parts of the type that is defined here, if one is
abbrev pub parts_here : DefinitionTree Place → Option (TypeParts Place)
parts_here d = option_map (λ t. t.parts) (type_here d)

module _ (here : DefinitionTree Place → Option (TypeParts Place)) where
  -- what each definition gives, with its position, counted from the definitions before the list
  abbrev pub standing_after : Definitions → Definitions → List StandingParts
  standing_after = each_place_after (λ before d. map (λ parts. record { position = length before; parts = parts }) (option_to_list (here d)))

  abbrev pub standing_in_list : Definitions → List StandingParts
  standing_in_list ds = standing_after [] ds

-- the positions of the parts of that name, in order
abbrev pub positions_named : List ℕ → List StandingParts → List ℕ
positions_named n ss = map (λ s. s.position) (filter (λ s. bytes_eq n (standing_name s)) ss)

-- ---- what an index has

-- the name, kind and position of the first type of a name
pub record FirstFiled : Type 0 where
  pub name : Text Place
  pub kind : TypeKind
  pub position : ℕ

abbrev pub first_of : StandingParts → FirstFiled
first_of s = record { name = s.parts.name; kind = s.parts.kind; position = s.position }

abbrev pub first_filed : NameValue × Positions → FirstFiled
first_filed e = record { name = name_tree e.0; kind = e.1.kind; position = e.1.first }

-- a type's name and kind
abbrev pub NamedKind : Type 0
NamedKind = Text Place × TypeKind

abbrev pub filed_kind : NameValue × Positions → NamedKind
filed_kind e = (name_tree e.0, e.1.kind)

-- the same without the place of the name
abbrev pub text_kind : NameValue × Positions → List ℕ × TypeKind
text_kind e = (e.0.text, e.1.kind)

-- the positions under a name, none if there is no entry
abbrev pub positions_of : Positions → List ℕ
positions_of f = f.first ∷ f.others.items

abbrev pub FiledEntries : Type 0
FiledEntries = List (NameValue × Positions)

abbrev pub positions_under : List ℕ → FiledEntries → List ℕ
positions_under n es = option_map_or positions_of (lookup (λ k. bytes_eq n k.text) es) []

-- whether the first position under a name is before this one; false if there is no entry
abbrev pub is_filed_before : ℕ → FiledEntries → List ℕ → Bool
is_filed_before position es n = option_map_or (λ f. nat_lt f.first position) (lookup (λ k. bytes_eq n k.text) es) false

-- under each name are the positions of these parts, in order; the entries are in the order of the first part of each name
abbrev pub AreFiled : List StandingParts → FiledEntries → Type 0
AreFiled ss es = (map first_filed es ≡ map first_of (firsts standing_name ss)) × ((n : List ℕ) → positions_under n es ≡ positions_named n ss)

-- the index has the positions of the definitions of types in the list, and those of the extensions of types
abbrev pub IsIndexOf : Definitions → Index → Type 0
IsIndexOf ds index = AreFiled (standing_in_list parts_here ds) index.defined.entries × AreFiled (standing_in_list type_extension_here ds) index.extended.entries

-- ---- filing

-- if the index was that of the definitions before that position, it is now that of these followed by d
abbrev pub Files : ℕ → DefinitionTree Place → Index → Index → Type 0
Files position d old new = (before : Definitions) → length before ≡ position → IsIndexOf before old → IsIndexOf (before ++ d ∷ []) new

-- if the index was that of the list before that position, it is now that of the whole list
abbrev pub FilesRest : Definitions → ℕ → Index → Index → Type 0
FilesRest ds from old new = IsIndexOf (take from ds) old → IsIndexOf ds new

-- if the entries had the positions of some parts, they now have those of these parts followed by one more
abbrev pub FilesUnder : ℕ → TypeParts Place → FiledEntries → FiledEntries → Type 0
FilesUnder position parts old new = (ss : List StandingParts) → AreFiled ss old → AreFiled (ss ++ record { position = position; parts = parts } ∷ []) new

-- ---- reading by positions

-- the element at a position of a list, if there is one
abbrev pub listed_at : List NumberedDefinition → ℕ → List NumberedDefinition
listed_at list i = option_to_list (slice_get list i)

-- the type that is defined at a position, if one is
abbrev pub defined_at : Definitions → ℕ → List (TypeDefinition Place)
defined_at ds i = option_map_or (λ d. option_to_list (type_here d)) (slice_get ds i) []

-- the extensions under a name
abbrev pub extensions_under : List NumberedDefinition → FiledEntries → List ℕ → List NumberedDefinition
extensions_under list es n = flat_map (listed_at list) (positions_under n es)
