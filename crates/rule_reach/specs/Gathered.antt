-- Private: leads to `Reached` of `rule_document_definitions`. What the two lists of `Reach.antt` are built from.
use Rattle.std.specs.Prelude.{◌≡◌, ◌↔◌, ℕ, true, List, map, option_to_list, Contains, Vec}
use Rattle.std.specs.Borrow.{Bor}
use Rattle.std.specs.List.{flat_map}
use Rattle.std.specs.declared.alloc.Global.{Global}
use Rattle.graphql_names.specs.NameValue.{NameValue}
use Rattle.graphql_names.specs.Placed.{Place}
use Rattle.graphql_names.specs.declared.node.Node.{Node}
use Rattle.schema_components.specs.Names.{Entries}
use Rattle.schema_types.specs.Addresses.{under}
use Rattle.document_typed_selections.specs.TypedTree.{TypedSet}
use Rattle.document_typed_selections.specs.declared.selection.Selection.{Selection}
use Rattle.document_typed_operations.specs.declared.operation.Fragment.{Fragment}
use Rattle.rule_document_definitions.specs.in_spec_document.MeantTree.{MeantFragment}
use Rattle.document_typed_operations.specs.Reached.{Member as TypedMember, Fragments, IsReachedFragment}
use Rattle.document_typed_operations.specs.WalkView.{lent_member}
use Rattle.rule_reach.specs.Reach.{fragment_of}

abbrev pub lent_members : Vec (Bor NameValue × Bor Selection) Global → List (TypedMember Place)
lent_members v = map lent_member v.items

abbrev pub lent_fragments : Vec (Bor (Node Fragment)) Global → List (MeantFragment Place)
lent_fragments v = map fragment_of v.items

-- the first fragment under each of these names, if there is one, in the order of the names
abbrev pub fragments_under : {P : Type 0} → Entries (MeantFragment P) → List (List ℕ) → List (MeantFragment P)
fragments_under fragments names = flat_map (λ n. option_to_list (under n fragments)) names

-- for some list of exactly the fragment names that the set reaches, `found` is the fragments under these names
abbrev pub AreSpreadFrom : Fragments Place → Entries (MeantFragment Place) → TypedSet Place → List (MeantFragment Place) → Type 0
AreSpreadFrom sets fragments start found =
    (names : List (List ℕ)) × (((n : List ℕ) → Contains names n ↔ IsReachedFragment true sets start n) × (found ≡ fragments_under fragments names))
