-- What contracts see of the members of lists and of nodes: fields and selection sets, with what merging reads of them (GraphQL,
-- October 2021, section 5.3.2).
use Rattle.std.specs.Prelude.{ℕ, ◌==◌, cond, List, [], ◌∷◌, map, Contains}
use Rattle.graphql_names.specs.Placed.{Place}
use Rattle.rule_selection_queries.specs.in_spec_document.MeantTree.{MeantSet}
use Rattle.rule_selection_queries.specs.in_document_definitions.Selected.{StandingField}
use Rattle.rule_selection_queries.specs.in_document_definitions.ReadFields.{ReadField, ReadSet, field_read, list_read}
use Rattle.rule_field_sets.specs.in_reach.Fields.{field_of as selected_field}
use Rattle.rule_field_sets.specs.declared.member.Member.{Member}
use Rattle.rule_field_sets.specs.declared.field_sets.FieldSets.{FieldSets}
use Rattle.rule_field_sets.specs.Nodes.{HasMember}
use Rattle.rule_field_sets.specs.Read.{set_at}

-- a member as a field, without its position in the document
abbrev pub field_of : Member → StandingField Place
field_of m = selected_field m.selection

abbrev pub fields_of : List Member → List (StandingField Place)
fields_of ms = map field_of ms

-- what merging reads of a member
abbrev pub content_of : Member → ReadField
content_of m = field_read (field_of m)

abbrev pub contents_of : List Member → List ReadField
contents_of ms = map field_read (fields_of ms)

-- what is read of two members, once if their numbers are equal
abbrev pub contents_of_two : Member → Member → List ReadField
contents_of_two one other = cond (one.number == other.number) (content_of one ∷ []) (content_of one ∷ content_of other ∷ [])

-- each of these is a member of some node
abbrev pub AreMembersOf : FieldSets → List Member → Type 0
AreMembersOf w ms = (m : Member) → Contains ms m → HasMember w m

-- the sets of nodes
abbrev pub meant_sets : FieldSets → List ℕ → List (MeantSet Place)
meant_sets w nodes = map (set_at w) nodes

-- what merging reads of sets
abbrev pub read_sets : {P : Type 0} → List (MeantSet P) → List ReadSet
read_sets sets = map list_read sets
