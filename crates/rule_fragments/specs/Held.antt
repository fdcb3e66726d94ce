-- Private: leads to `ArePossible` and `MayApply`. Possible types as they are held, and what is remembered of pairs of types.
use Rattle.std.specs.Prelude.{◌≡◌, ◌↔◌, ◌⊎◌, ℕ, nat_eq, Bool, ◌||◌, ◌&&◌, List, [], map, slice_get, Option, IfSome, Contains, bytes_eq}
use Rattle.std.specs.List.{list_any}
use Rattle.std.specs.Map.{lookup}
use Rattle.std.specs.Option.{option_map_or}
use Rattle.indexmap.specs.IndexMap.{IndexMap, get}
use Rattle.indexmap.specs.IndexSet.{IndexSet}
use Rattle.graphql_names.specs.NameValue.{NameValue}
use Rattle.schema_components.specs.Lists.{is_among}
use Rattle.schema_types.specs.TypeView.{name_text}
use Rattle.rule_fragments.specs.Possible.{ObjectsOfTypes, objects_of}

-- the names of a set; no names if there is no set
abbrev pub texts_of : {S : Type 0} → Option (IndexSet NameValue S) → List (List ℕ)
texts_of o = option_map_or (λ names. map name_text names.keys) o []

-- the names that a map holds under a name
abbrev pub noted_in : {S : Type 0} → List (NameValue × IndexSet NameValue S) → List ℕ → List (List ℕ)
noted_in entries n = texts_of (lookup (λ a. bytes_eq n a.text) entries)

-- what contracts see of such a map
abbrev pub possible_in : {S : Type 0} → List (NameValue × IndexSet NameValue S) → ObjectsOfTypes
possible_in entries = map (λ e. (e.0.text, map name_text e.1.keys)) entries

-- the object types of the type at that index
abbrev pub objects_at : ObjectsOfTypes → ℕ → List (List ℕ)
objects_at p i = option_map_or (λ e. e.1) (slice_get p i) []

-- the lists have a name in common
abbrev pub share_one : List (List ℕ) → List (List ℕ) → Bool
share_one xs ys = list_any (λ x. is_among x ys) xs

-- a fragment on `condition` may apply in a set on `parent`: the types are the same, or have an object type in common
abbrev pub may_apply : ObjectsOfTypes → List ℕ → List ℕ → Bool
may_apply p parent condition = bytes_eq condition parent || share_one (objects_of p parent) (objects_of p condition)

-- the types at these indices have an object type in common; whatever the map has under two indices says whether their types have one
abbrev pub share_at : ObjectsOfTypes → ℕ → ℕ → Bool
share_at p i j = share_one (objects_at p i) (objects_at p j)

abbrev pub AreCommon : {S : Type 0} → ObjectsOfTypes → IndexMap (ℕ × ℕ) Bool S → Type 0
AreCommon p common = (k : ℕ × ℕ) → IfSome (get (λ x y. nat_eq x.0 y.0 && nat_eq x.1 y.1) common k) (λ b. b ≡ share_at p k.0 k.1)

-- exactly the old notes and these are in the new map: of each pair, the second name is noted under the first
abbrev pub AddsEntries : {S : Type 0} → List (NameValue × IndexSet NameValue S) → List (NameValue × IndexSet NameValue S) → List (List ℕ × List ℕ) → Type 0
AddsEntries old new notes = (n object : List ℕ) → Contains (noted_in new n) object ↔ (Contains (noted_in old n) object ⊎ Contains notes (n, object))

abbrev pub AddsNotes : {S T : Type 0} → IndexMap NameValue (IndexSet NameValue S) T → IndexMap NameValue (IndexSet NameValue S) T → List (List ℕ × List ℕ) → Type 0
AddsNotes old new notes = AddsEntries old.entries new.entries notes
