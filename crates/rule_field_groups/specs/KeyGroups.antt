-- Private: leads to `FieldsMerge`. The fields of a list under one response key, by the types that they are selected on.
use Rattle.std.specs.Prelude.{◌≡◌, ◌+◌, ◌++◌, ℕ, Bool, not, List, [], ◌∷◌, map, filter, flat_map}
use Rattle.std.specs.List.{sum}
use Rattle.rule_selection_queries.specs.in_definitions.Judged.{Judged}
use Rattle.rule_field_sets.specs.declared.member.Member.{Member}
use Rattle.rule_field_groups.specs.declared.groups.Filing.{Filing}
use Rattle.rule_field_groups.specs.declared.groups.Filing.TheVariants.{Key, Parent}
use Rattle.rule_field_groups.specs.declared.groups.KeyGroup.{KeyGroup}
use Rattle.rule_field_groups.specs.declared.pass.Pass.{Pass}
use Rattle.rule_field_groups.specs.declared.pass.Pass.TheVariants.{Shapes, Selections}
use Rattle.rule_field_groups.specs.Compared.{compared}
use Rattle.rule_field_groups.specs.Kinds.{is_abstract}
use Rattle.rule_field_groups.specs.Grouped.{lists_of, key_of, parent_of, AreFiled, AreParentGroups}

abbrev pub filed_name : Filing → Member → List ℕ
filed_name Key = key_of
filed_name Parent = parent_of

-- the type that the member is selected on is abstract
abbrev pub is_shared : Judged → Member → Bool
is_shared s x = is_abstract s (parent_of x)

-- the shared items before each of the other lists; the shared items alone, if there are no other lists
abbrev pub with_own : {X : Type 0} → List X → List (List X) → List (List X)
with_own shared [] = shared ∷ []
with_own shared (own ∷ others) = map (λ l. shared ++ l) (own ∷ others)

-- the lists of those on object types
abbrev pub own_lists : KeyGroup → List (List Member)
own_lists g = lists_of g.own

-- the parts of a group: any two fields of a part go together
abbrev pub parts_of : KeyGroup → List (List Member)
parts_of g = with_own g.shared.items (own_lists g)

abbrev pub parts_in : List KeyGroup → List (List Member)
parts_in groups = flat_map parts_of groups

-- the lists of the group as they are stored
abbrev pub lists_in_group : KeyGroup → List (List Member)
lists_in_group g = g.shared.items ∷ own_lists g

-- how often shapes are compared for a group, at most
abbrev pub compared_in : Pass → KeyGroup → ℕ
compared_in pass g = compared pass g.shared.items + sum (map (compared pass) (own_lists g))

-- the group has the fields on abstract types, and for each other type the fields on it
pub record IsByParents (s : Judged) (list : List Member) (group : KeyGroup) : Type 0 where
  pub shared : group.shared.items ≡ filter (is_shared s) list
  pub own : AreFiled parent_of (filter (λ x. not (is_shared s x)) list) (own_lists group)

-- if shapes are compared, all fields are one part; otherwise the parts are by parent types
abbrev pub ArePartsFor : Pass → Judged → List Member → List (List Member) → Type 0
ArePartsFor Shapes s list parts = parts ≡ list ∷ []
ArePartsFor Selections s list parts = AreParentGroups s list parts
