-- Private: leads to `FieldsMerge`. The lists of the sets of the fields of one key.
use Rattle.std.specs.Prelude.{◌≡◌, ℕ, ◌⊎◌, ◌++◌, ◌∷◌, [], List, map, flat_map, Contains}
use Rattle.std.specs.List.{AllZip}
use Rattle.graphql_names.specs.Placed.{Place}
use Rattle.rule_selection_queries.specs.in_spec_document.MeantTree.{MeantSet}
use Rattle.rule_selection_queries.specs.in_document_definitions.ReadFields.{list_read}
use Rattle.rule_selection_queries.specs.in_document_definitions.Selected.{StandingField}
use Rattle.list_interner.specs.NumberRows.{rows_of}
use Rattle.list_interner.specs.declared.number_rows.NumberRows.{NumberRows}
use Rattle.rule_field_sets.specs.Read.{set_content_at, node_read}
use Rattle.rule_field_sets.specs.declared.member.Member.{Member}
use Rattle.rule_field_groups.specs.Members.{meant_sets, read_sets, AreMembersOf}
use Rattle.rule_field_groups.specs.KeyGroups.{lists_in_group}
use Rattle.rule_field_groups.specs.declared.below.SetsBelow.{SetsBelow}
use Rattle.rule_field_groups.specs.declared.groups.KeyGroup.{KeyGroup}
use Rattle.rule_field_groups.specs.Below.{IsBare, AreSetsOf}
use Rattle.rule_field_sets.specs.declared.field_sets.FieldSets.{FieldSets}

-- sets whose fields are examined together; lists of such sets, from lists of nodes
abbrev pub Sets : Type 0
Sets = List (MeantSet Place)

abbrev pub all_sets : FieldSets → List (List ℕ) → List Sets
all_sets w lists = map (meant_sets w) lists

abbrev pub sets_in : FieldSets → NumberRows → List Sets
sets_in w lists = all_sets w (rows_of lists)

-- one list: the first ones and then those; no list, if there are none of those
abbrev pub joined : {X : Type 0} → List X → List X → List (List X)
joined first [] = []
joined first (x ∷ xs) = (first ++ x ∷ xs) ∷ []

abbrev pub JoinsSets : {X : Type 0} → List X → List X → List (List X) → List (List X) → Type 0
JoinsSets first then' old new = new ≡ old ++ joined first then'

-- pairs of each of these sets with `v`
abbrev pub each_with : {X : Type 0} → List X → X → List (List X)
each_with sets v = map (λ w. w ∷ v ∷ []) sets

-- pairs of each of the first ones with each of those
abbrev pub twos_of : {X : Type 0} → List X → List X → List (List X)
twos_of first then' = flat_map (each_with first) then'

-- what is appended: those as a list, if there are some, and pairs of each of the first ones with each of those
abbrev pub JoinsTwos : {X : Type 0} → List X → List X → List (List X) → List (List X) → Type 0
JoinsTwos first then' old new = new ≡ (old ++ joined [] then') ++ twos_of first then'

-- for any two sets, the second one from `then'`, one of these lists has both
abbrev pub HaveAnyTwo : {X : Type 0} → List X → List X → List (List X) → Type 0
HaveAnyTwo {X} first then' lists = (v w : X) → Contains (first ++ then') v → Contains then' w → (sets : List X) × (Contains lists sets × (Contains sets v × Contains sets w))

-- lists that have only sets of both are appended, and for any two sets, the second one from `then'`, one of the lists has both
pub record PutsTogether {X : Type 0} (first then' : List X) (old new : List (List X)) : Type 0 where
  pub added : List (List X)
  pub is : new ≡ old ++ added
  pub within : (sets : List X) → Contains added sets → (v : X) → Contains sets v → Contains (first ++ then') v
  pub both : HaveAnyTwo first then' added

-- each of the sets is that of a field of the group
abbrev pub AreOf : List (StandingField Place) → Sets → Type 0
AreOf group sets = (v : MeantSet Place) → Contains sets v → (f : StandingField Place) × (Contains group f × (f.set ≡ v))

-- the set has the content of one of these
abbrev pub IsAmong : Sets → MeantSet Place → Type 0
IsAmong sets v = Contains (read_sets sets) (list_read v)

-- each of the sets is that of one of the fields, and the set of each field has no selections or is among these or the others
pub record AreFurther (fields : List (StandingField Place)) (others sets : Sets) : Type 0 where
  pub within : AreOf fields sets
  pub covers : (f : StandingField Place) → Contains fields f → IsBare f.set ⊎ (IsAmong others f.set ⊎ IsAmong sets f.set)

-- the same with one more field
abbrev pub AddsFurther : StandingField Place → Sets → Sets → Sets → Type 0
AddsFurther field others old new = (fields : List (StandingField Place)) → AreFurther fields others old → AreFurther (fields ++ field ∷ []) others new

-- if both fields select something, one of these lists has the sets of both
abbrev pub HaveBoth : List Sets → StandingField Place → StandingField Place → Type 0
HaveBoth lists f g = IsBare f.set ⊎ (IsBare g.set ⊎ ((sets : Sets) × (Contains lists sets × (IsAmong sets f.set × IsAmong sets g.set))))

-- the lists made so far: for the shared fields, whose sets are `first`, and for the fields on each of some types
pub record BelowSoFar (shared : List (StandingField Place)) (first : Sets) (owns : List (List (StandingField Place))) (lists : List Sets) : Type 0 where
  pub under : (sets : Sets) → Contains lists sets → AreOf shared sets ⊎ ((own : List (StandingField Place)) × (Contains owns own × AreOf (shared ++ own) sets))
  pub shared_there : (v : MeantSet Place) → IsAmong first v → Contains lists first
  pub own_there : (own : List (StandingField Place)) → Contains owns own → (further : Sets) × (((f : StandingField Place) → Contains own f → IsBare f.set ⊎ (IsAmong first f.set ⊎ IsAmong further f.set))
      × HaveAnyTwo first further lists)

-- the lists for the fields on each of these types are appended, after those for the shared fields
abbrev pub JoinsEach : Sets → List (List (StandingField Place)) → List Sets → List Sets → Type 0
JoinsEach first owns old new = (added : List Sets) × ((new ≡ old ++ added)
    × ((shared : List (StandingField Place)) → AreSetsOf shared first → (begun : List Sets) → BelowSoFar shared first [] begun → BelowSoFar shared first owns (begun ++ added)))

-- each list has sets of fields of one group only; and for any two fields of a group that select something one of the lists has both sets
pub record AreListsBelow (groups : List (List (StandingField Place))) (lists : List Sets) : Type 0 where
  pub under : (sets : Sets) → Contains lists sets → (group : List (StandingField Place)) × (Contains groups group × AreOf group sets)
  pub below : (group : List (StandingField Place)) → Contains groups group → (f g : StandingField Place) → Contains group f → Contains group g → HaveBoth lists f g

-- such lists are appended
abbrev pub AddsBelow : List (List (StandingField Place)) → List Sets → List Sets → Type 0
AddsBelow groups old new = (below : List Sets) × ((new ≡ old ++ below) × AreListsBelow groups below)

-- the set of each node has the content of the number at the same index
abbrev pub AreNumbered : FieldSets → SetsBelow → Type 0
AreNumbered w found = AllZip (λ n i. set_content_at w n ≡ node_read w i) found.numbers.keys found.nodes.items

-- the node is appended with its number, unless the number is there
abbrev pub AddsNode : ℕ → ℕ → SetsBelow → SetsBelow → Type 0
AddsNode number node old new =
    (Contains old.numbers.keys number × ((new.numbers.keys ≡ old.numbers.keys) × (new.nodes.items ≡ old.nodes.items)))
    ⊎ ((Contains old.numbers.keys number → ⊥) × ((new.numbers.keys ≡ old.numbers.keys ++ number ∷ []) × (new.nodes.items ≡ old.nodes.items ++ node ∷ [])))

-- all fields of the group are members of nodes
abbrev pub IsGroupOf : FieldSets → KeyGroup → Type 0
IsGroupOf w group = (list : List Member) → Contains (lists_in_group group) list → AreMembersOf w list
