-- Values of correct type (section 5.6.1): which values are coercible to a type, by cases on the type in the order of sections 3.5 to 3.12.
-- That the keys of an object differ is a separate rule (5.6.3): here the first entry of each key counts.
use Rattle.std.specs.Prelude.{◌≡◌, ℕ, true, false, List, [], ◌∷◌, codes, Contains, Some, FitsSigned}
use Rattle.std.proofs.Common.{w32}
use Rattle.graphql_names.specs.Placed.{Text}
use Rattle.tree_literals.specs.NumberSyntax.{integer_value}
use Rattle.tree_literals.specs.TypeTree.{TypeTree}
use Rattle.tree_literals.specs.TypeQueries.{has_mark, is_list_type, item_type_of, inner_name}
use Rattle.tree_literals.specs.ValueTree.{ValueTree, ItemTrees, EntryTrees, NullTree, EnumTree, VariableTree, StringTree, FloatTree, IntTree, BooleanTree, ListTree, ObjectTree, no_items, item_then, no_entries, entry_then}
use Rattle.tree_directives.specs.DirectiveTree.{InputValueTree}
use Rattle.tree_directives.specs.DirectiveQueries.{is_required_input}
use Rattle.schema_types.specs.Looks.{TypeLooks}
use Rattle.schema_types.specs.declared.type_kind.TypeKind.TheVariants as kind
use Rattle.rule_definitions.specs.Words.{IfPresent}
use Rattle.rule_definitions.specs.Judged.{Judged, IsBuiltInScalar, IsCustomScalar}
use Rattle.rule_definitions.specs.Names.{named_in, defined_name}
use Rattle.rule_definitions.specs.GivenValues.{entry_named, is_absent_or_null}
use Rattle.rule_document_definitions.specs.UsedVariables.{IsInValue}
use Rattle.book_validity.specs.Words.{OperationVariables, Never, IsThere, named}

-- the type named inside is the built-in scalar of that name
abbrev pub IsBuiltIn : Judged → List ℕ → TypeTree (Unit {0}) → TypeLooks → Type 0
IsBuiltIn s name ty t = IsBuiltInScalar s (named_in ty) t × (named_in ty ≡ name)

-- neither null nor a variable nor a list
abbrev pub IsAnyOther : ValueTree (Unit {0}) → Type 0
IsAnyOther NullTree = ⊥
IsAnyOther (VariableTree n) = ⊥
IsAnyOther (ListTree items) = ⊥
IsAnyOther v = Unit {0}

-- 5.6.4 Input Object Required Fields: each required field is given, and not as null
abbrev pub HasRequiredFields : TypeLooks → EntryTrees (Unit {0}) → Type 0
HasRequiredFields t es = (m : List ℕ) (f : InputValueTree (Unit {0})) → t.input m ≡ Some f → is_required_input f ≡ true → is_absent_or_null (entry_named m es) ≡ false

mutual
  -- coercible to the type `ty`, where `t` is the type named inside its brackets
  pub data IsCoercible (s : Judged) (variables : OperationVariables) : TypeTree (Unit {0}) → TypeLooks → ValueTree (Unit {0}) → Type 0 where
    -- 3.5 Scalars: any value but null, a variable or a list is coercible to a custom scalar
    custom_scalar : {ty : _} {t : _} {v : _} → IsCustomScalar s (named_in ty) t → IsAnyOther v → IsCoercible s variables ty t v
    -- Stricter: each item is judged against that scalar as it is asked for, with its mark
    list_of_custom_scalar : {ty : _} {t : _} {items : _} → IsCustomScalar s (named_in ty) t → AreCoercible s variables (item_type_of ty) t items → IsCoercible s variables ty t (ListTree items)
    -- 3.5.1 Int: an integer of 32 bits
    int : {ty : _} {t : _} {digits : _} → IsBuiltIn s (codes "Int") ty t → FitsSigned w32 (integer_value digits) → IsCoercible s variables ty t (IntTree digits)
    -- Laxer: also one that no finite 64-bit float holds
    -- 3.5.2 Float: a float, or an integer
    float : {ty : _} {t : _} {digits : _} → IsBuiltIn s (codes "Float") ty t → IsCoercible s variables ty t (FloatTree digits)
    integer_as_float : {ty : _} {t : _} {digits : _} → IsBuiltIn s (codes "Float") ty t → IsCoercible s variables ty t (IntTree digits)
    -- 3.5.3 String
    string : {ty : _} {t : _} {text : _} → IsBuiltIn s (codes "String") ty t → IsCoercible s variables ty t (StringTree text)
    -- 3.5.4 Boolean
    boolean : {ty : _} {t : _} {b : _} → IsBuiltIn s (codes "Boolean") ty t → IsCoercible s variables ty t (BooleanTree b)
    -- 3.5.5 ID: a string, or an integer
    string_as_id : {ty : _} {t : _} {text : _} → IsBuiltIn s (codes "ID") ty t → IsCoercible s variables ty t (StringTree text)
    integer_as_id : {ty : _} {t : _} {digits : _} → IsBuiltIn s (codes "ID") ty t → IsCoercible s variables ty t (IntTree digits)
    -- 3.9 Enums: the name of one of its values
    enum_value : {ty : _} {t : TypeLooks} {n : Text (Unit {0})} → t.kind ≡ kind.Enum → IsThere (t.value n.it) → IsCoercible s variables ty t (EnumTree n)
    -- 3.10 Input Objects: each entry is for one of its fields, and each required field is given
    input_object : {ty : _} {t : TypeLooks} {es : _} → t.kind ≡ kind.InputObject → AreEntriesCoercible s variables t [] es → HasRequiredFields t es → IsCoercible s variables ty t (ObjectTree es)
    -- Laxer: where items are lists, an item that is none counts as a list of one, since the cases above ask nothing of brackets
    -- 3.11 List: each item is coercible to the item type; the cases above are for one value that is no list
    list : {ty : _} {t : _} {items : _} → is_list_type ty ≡ true → AreCoercible s variables (item_type_of ty) t items → IsCoercible s variables ty t (ListTree items)
    -- 3.12 Non-Null: null, if the type has no `!`
    null : {ty : _} {t : _} → has_mark ty ≡ false → IsCoercible s variables ty t NullTree
    -- Laxer: inside a list or an object its marks and brackets count for nothing; of a whole argument's `IsVariableUsageAllowed` says more
    -- 5.8.5: a variable whose type names the same type inside, if the variable is defined
    variable : {ty : _} {t : _} {n : Text (Unit {0})} → IfPresent (named defined_name variables n.it) (λ x. (inner_name x.it.ty.it).it ≡ named_in ty) → IsCoercible s variables ty t (VariableTree n)

  pub data AreCoercible (s : Judged) (variables : OperationVariables) : TypeTree (Unit {0}) → TypeLooks → ItemTrees (Unit {0}) → Type 0 where
    no_more_items : {ty : _} {t : _} → AreCoercible s variables ty t no_items
    and_item : {ty : _} {t : _} {p : _} {v : _} {items : _} → IsCoercible s variables ty t v → AreCoercible s variables ty t items → AreCoercible s variables ty t (item_then p v items)

  -- the entries are coercible, where these are the keys of the entries before them
  pub data AreEntriesCoercible (s : Judged) (variables : OperationVariables) : TypeLooks → List (List ℕ) → EntryTrees (Unit {0}) → Type 0 where
    no_more_entries : {t : _} {before : _} → AreEntriesCoercible s variables t before no_entries
    -- 5.6.2 Input Object Field Names: the key is that of a field; the value, if it is the first of its key, is coercible to the field's type, if that
    -- type exists
    and_entry : {t : TypeLooks} {before : _} {k : Text (Unit {0})} {p : _} {v : _} {es : _} (f : InputValueTree (Unit {0})) → t.input k.it ≡ Some f
        → (Never (Contains before k.it) → (u : TypeLooks) → s.type_named (named_in f.ty.it) ≡ Some u → IsCoercible s variables f.ty.it u v)
        → AreEntriesCoercible s variables t (k.it ∷ before) es → AreEntriesCoercible s variables t before (entry_then k p v es)

-- the value is coercible to the type, if that type exists
pub record IsOfCorrectType (s : Judged) (variables : OperationVariables) (ty : TypeTree (Unit {0})) (v : ValueTree (Unit {0})) : Type 0 where
  pub coercible : IfPresent (s.type_named (named_in ty)) (λ t. IsCoercible s variables ty t v)
  -- 5.8.3 All Variable Uses Defined
  pub defined : (n : List ℕ) → IsInValue n v → IsThere (named defined_name variables n)
