-- Private: leads to `FieldsMerge`. Groups of a list of field selections.
use Rattle.std.specs.Prelude.{◌≡◌, ◌≤◌, ℕ, Bool, List, [], map, filter, length, Vec, Contains, ◌⊎◌}
use Rattle.std.specs.List.{sum}
use Rattle.std.specs.Map.{lookup}
use Rattle.std.specs.Option.{option_map_or}
use Rattle.std.specs.Str.{bytes_eq}
use Rattle.std.specs.declared.alloc.Global.{Global}
use Rattle.indexmap.specs.IndexMap.{IndexMap, values}
use Rattle.graphql_names.specs.NameValue.{NameValue}
use Rattle.rule_selection_queries.specs.in_definitions.Judged.{Judged}
use Rattle.rule_selection_queries.specs.in_document_definitions.Selected.{response_key}
use Rattle.rule_selection_queries.specs.in_document_definitions.Merging.{IsAbstract}
use Rattle.rule_field_groups.specs.Members.{field_of}
use Rattle.rule_field_sets.specs.declared.member.Member.{Member}

-- the items under a name; none if there is no entry
abbrev pub items_under : {X S : Type 0} → List ℕ → IndexMap NameValue (Vec X Global) S → List X
items_under n m = option_map_or (λ v. v.items) (lookup (λ k. bytes_eq n k.text) m.entries) []

-- the lists in the map; how many items are in all of them
abbrev pub lists_in : {X S : Type 0} → IndexMap NameValue (Vec X Global) S → List (List X)
lists_in m = map (λ v. v.items) (values m)

abbrev pub count_in : {X S : Type 0} → IndexMap NameValue (Vec X Global) S → ℕ
count_in m = sum (map length (lists_in m))

abbrev pub lists_of : {X : Type 0} → Vec (Vec X Global) Global → List (List X)
lists_of lists = map (λ v. v.items) lists.items

-- the response key of a member; the type that it is selected on
abbrev pub key_of : Member → List ℕ
key_of x = response_key (field_of x)

abbrev pub parent_of : Member → List ℕ
parent_of x = (field_of x).parent

-- the item has this name
abbrev pub has : {X : Type 0} → (X → List ℕ) → List ℕ → X → Bool
has name n x = bytes_eq n (name x)

-- the list is not empty, and all its items have one name
abbrev pub HaveOneName : {X : Type 0} → (X → List ℕ) → List X → Type 0
HaveOneName {X} name list = (n : List ℕ) × ((1 ≤ length list) × ((x : X) → Contains list x → name x ≡ n))

-- those of the list that pass some test, in the list's order
abbrev pub IsPartOf : {X : Type 0} → List X → List X → Type 0
IsPartOf {X} list part = (test : X → Bool) × (part ≡ filter test list)

abbrev pub ArePartsOf : {X : Type 0} → List X → List (List X) → Type 0
ArePartsOf {X} list parts = (part : List X) → Contains parts part → IsPartOf list part

-- the items with the name of any item are a group, and each group is the items with some name
pub record AreFiled {X : Type 0} (name : X → List ℕ) (list : List X) (groups : List (List X)) : Type 0 where
  pub has_all : (x : X) → Contains list x → Contains groups (filter (has name (name x)) list)
  pub only : (group : List X) → Contains groups group → (n : List ℕ) × (group ≡ filter (has name n) list)

-- the member is on this type, or on an abstract one; the groups are such that each member is in one that has all on its type and on
-- abstract ones, and each group has only members on one type and on abstract ones
abbrev pub IsOnOne : Judged → List ℕ → Member → Type 0
IsOnOne s parent x = (parent_of x ≡ parent) ⊎ IsAbstract s (parent_of x)

pub record AreParentGroups (s : Judged) (list : List Member) (groups : List (List Member)) : Type 0 where
  pub has_all : (x : Member) → Contains list x
      → (group : List Member) × (Contains groups group × ((y : Member) → Contains list y → IsOnOne s (parent_of x) y → Contains group y))
  pub only : (group : List Member) → Contains groups group
      → (parent : List ℕ) × ((y : Member) → Contains group y → Contains list y × IsOnOne s parent y)
