-- Which values a type accepts, by cases on the value (GraphQL, October 2021, sections 3.5 to 3.12 and 5.6). The value is of a schema or of
-- a document, with the variables of an operation, or none. That the keys of an object differ is a separate rule (section 5.6.3): here the
-- first entry of each key counts.
use Rattle.std.specs.Prelude.{◌≡◌, ℕ, true, false, List, [], ◌∷◌, codes, Contains, find, bytes_eq, is_some, Option, Some, FitsSigned, ◌⊎◌}
use Rattle.std.proofs.Common.{w32}
use Rattle.graphql_names.specs.Placed.{Placed}
use Rattle.tree_literals.specs.TypeTree.{TypeTree}
use Rattle.tree_literals.specs.TypeQueries.{has_mark, is_list_type, item_type_of, inner_name}
use Rattle.tree_literals.specs.NumberSyntax.{integer_value}
use Rattle.tree_literals.specs.ValueTree.{ValueTree, ItemTrees, EntryTrees, NullTree, EnumTree, VariableTree, StringTree, FloatTree, IntTree, BooleanTree, ListTree, ObjectTree, no_items, item_then, no_entries, entry_then}
use Rattle.tree_directives.specs.DirectiveTree.{InputValueTree}
use Rattle.tree_directives.specs.DirectiveQueries.{is_required_input}
use Rattle.schema_types.specs.in_operations.OperationTree.{VariableDefinitionTree}
use Rattle.schema_types.specs.Looks.{TypeLooks}
use Rattle.schema_types.specs.declared.type_kind.TypeKind.TheVariants as kind
use Rattle.rule_definitions.specs.Words.{Present, IfPresent}
use Rattle.rule_definitions.specs.Judged.{Judged, IsBuiltInScalar, IsCustomScalar}
use Rattle.rule_definitions.specs.Names.{named_in, defined_name}
use Rattle.rule_definitions.specs.GivenValues.{Variables, entry_named, is_absent_or_null, IsScalarAmong}

-- each required field of the input object is given, and not as null (section 5.6.4)
abbrev pub HasRequired : {P : Type 0} → TypeLooks → EntryTrees P → Type 0
HasRequired t es = (m : List ℕ) (f : InputValueTree (Unit {0})) → t.input m ≡ Some f → is_required_input f ≡ true → is_absent_or_null (entry_named m es) ≡ false

module _ {P : Type 0} (variables : Variables P) where
  -- the variable of that name: the first, if there are several
  abbrev pub variable_named : List ℕ → Option (Placed P (VariableDefinitionTree P))
  variable_named n = find (λ d. bytes_eq (defined_name d) n) variables

  -- each variable in the value is defined, at any depth (section 5.8.3)
  abbrev mutual
    pub IsDefined : ValueTree P → Type 0
    IsDefined (VariableTree n) = is_some (variable_named n.it) ≡ true
    IsDefined (ListTree ts) = AreItemsDefined ts
    IsDefined (ObjectTree es) = AreEntriesDefined es
    IsDefined v = Unit {0}

    pub AreItemsDefined : ItemTrees P → Type 0
    AreItemsDefined no_items = Unit {0}
    AreItemsDefined (item_then p v ts) = IsDefined v × AreItemsDefined ts

    pub AreEntriesDefined : EntryTrees P → Type 0
    AreEntriesDefined no_entries = Unit {0}
    AreEntriesDefined (entry_then n p v es) = IsDefined v × AreEntriesDefined es

module _ {P : Type 0} (s : Judged) (variables : Variables P) where
  -- the type `ty`, whose inner type is t, takes the value; a custom scalar takes every value that no case here refuses
  abbrev mutual
    pub Takes : TypeTree (Unit {0}) → TypeLooks → ValueTree P → Type 0
    -- null, if the type has no mark `!` (section 3.12)
    Takes ty t NullTree = has_mark ty ≡ false
    -- Laxer (section 5.8.5): inside a list or an object no rule judges marks and brackets of its type; of one that is a whole argument
    -- `IsVariableUsageAllowed` does
    -- a variable: if it is defined, its type has the same inner name
    Takes ty t (VariableTree v) = IfPresent (variable_named variables v.it) (λ x. (inner_name x.it.ty.it).it ≡ named_in ty)
    -- an integer, for Float or ID, and for Int if it fits 32 bits (sections 3.5.1, 3.5.2 and 3.5.5)
    Takes ty t (IntTree digits) = IsScalarAmong s (codes "Float" ∷ codes "ID" ∷ []) (named_in ty) t
        ⊎ (IsBuiltInScalar s (named_in ty) t × ((named_in ty ≡ codes "Int") × FitsSigned w32 (integer_value digits)))
    -- Laxer (section 3.5.2): also one that no finite 64-bit float holds, and such an integer above
    -- a float, for Float (section 3.5.2)
    Takes ty t (FloatTree digits) = IsScalarAmong s (codes "Float" ∷ []) (named_in ty) t
    -- a string, for String or ID (sections 3.5.3 and 3.5.5)
    Takes ty t (StringTree text) = IsScalarAmong s (codes "String" ∷ codes "ID" ∷ []) (named_in ty) t
    -- true or false, for Boolean (section 3.5.4)
    Takes ty t (BooleanTree b) = IsScalarAmong s (codes "Boolean" ∷ []) (named_in ty) t
    -- a name, for an enum that has that value (section 3.9)
    Takes ty t (EnumTree n) = ((t.kind ≡ kind.Enum) × (is_some (t.value n.it) ≡ true)) ⊎ IsCustomScalar s (named_in ty) t
    -- Laxer (section 3.11): where items are lists, an item that is none counts as a list of one
    -- Stricter (section 3.5): for a custom scalar each item is judged against that scalar as it is asked for, with its mark
    -- a list, for a list type, each item for the type of items (section 3.11)
    Takes ty t (ListTree items) = ((is_list_type ty ≡ true) ⊎ IsCustomScalar s (named_in ty) t) × TakesItems (item_type_of ty) t items
    -- an object, for an input object type that takes its entries and whose required fields it gives (section 3.10)
    Takes ty t (ObjectTree es) = ((t.kind ≡ kind.InputObject) × (TakesEntries t [] es × HasRequired t es)) ⊎ IsCustomScalar s (named_in ty) t

    pub TakesItems : TypeTree (Unit {0}) → TypeLooks → ItemTrees P → Type 0
    TakesItems ty t no_items = Unit {0}
    TakesItems ty t (item_then p v ts) = Takes ty t v × TakesItems ty t ts

    -- there is a field for each key (section 5.6.2); the type of the field, if it is defined, takes the value of the first entry with that key
    pub TakesEntries : TypeLooks → List (List ℕ) → EntryTrees P → Type 0
    TakesEntries t before no_entries = Unit {0}
    TakesEntries t before (entry_then k p v es) =
        Present (t.input k.it) (λ f. (Contains before k.it → ⊥) → IfPresent (s.type_named (named_in f.ty.it)) (λ u. Takes f.ty.it u v))
        × TakesEntries t (k.it ∷ before) es

  -- the type, if it is defined, takes the value, and each variable in the value is defined (section 5.6.1)
  abbrev pub Accepts : TypeTree (Unit {0}) → ValueTree P → Type 0
  Accepts ty v = IfPresent (s.type_named (named_in ty)) (λ t. Takes ty t v) × IsDefined variables v
