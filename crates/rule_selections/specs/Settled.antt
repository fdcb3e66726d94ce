-- Private: leads to `SelectionsBreak`. Fragments that may replace those of a document: they leave out only selections for which no fault is told, and use the same variables.
use Rattle.std.specs.Prelude.{◌≡◌, ℕ, List, [], Contains, find, is_some, None, Some, ◌⊎◌}
use Rattle.std.specs.Map.{lookup}
use Rattle.std.specs.Option.{option_map_or}
use Rattle.std.specs.Str.{bytes_eq}
use Rattle.indexmap.specs.IndexMap.{IndexMap}
use Rattle.indexmap.specs.IndexSet.{IndexSet}
use Rattle.graphql_names.specs.NameValue.{NameValue}
use Rattle.graphql_names.specs.Placed.{Placed, Place, node_tree}
use Rattle.graphql_names.specs.declared.node.Node.{Node}
use Rattle.tree_literals.specs.TypeTree.{unplaced_type}
use Rattle.tree_operations.specs.OperationTree.{VariableDefinitionTree}
use Rattle.schema_components.specs.Names.{Entries}
use Rattle.schema_types.specs.SchemaTree.{SchemaTree}
use Rattle.schema_types.specs.Addresses.{under}
use Rattle.schema_types.specs.Plain.{plain}
use Rattle.document_typed_selections.specs.TypedTree.{TypedSelection, TypedSet, no_typed, typed_then, set_type}
use Rattle.document_typed_selections.specs.TypedParts.{set_and}
use Rattle.document_typed_operations.specs.TypedDocument.{typed_fragment_tree}
use Rattle.document_typed_operations.specs.declared.operation.Fragment.{Fragment}
use Rattle.spec_document.specs.MeantTree.{MeantSelection, MeantField, MeantSpread, MeantInline, MeantSet, meant_set, MeantSelections, no_meant, meant_then, meant_of_set, MeantFragment, MeantDocument, MeantOperation, meant}
use Rattle.rule_reach.specs.in_typed_operations.DocumentView.{meant_by_fragment}
use Rattle.document_typing.specs.Meanings.{meanings}
use Rattle.document_typing.specs.TypedByPlace.{IsTyped}
use Rattle.rule_definitions.specs.Words.{Present}
use Rattle.rule_definitions.specs.GivenValues.{Variables}
use Rattle.rule_definitions.specs.Judged.{judged}
use Rattle.rule_definitions.specs.Names.{defined_name}
use Rattle.rule_definitions.specs.PlacedFaults.{PlacedFault}
use Rattle.rule_document_definitions.specs.PossibleTypes.{IsNotComposite, MayApply}
use Rattle.rule_document_definitions.specs.Selected.{operations}
use Rattle.rule_document_definitions.specs.UsedVariables.{IsInArguments, IsInDirectives}
use Rattle.rule_reach.specs.NotedNames.{noted_names}
use Rattle.rule_reach.specs.Reach.{Member}
use Rattle.rule_selections.specs.SelectionFaults.{SelectionBreaks}

-- the selection is no spread; and if it is an inline fragment with a condition, R holds of the name of its set's type and the condition
abbrev pub EntersOnly : (List ℕ → List ℕ → Type 0) → Member Place → Type 0
EntersOnly R (t, MeantField p d h s) = Unit {0}
EntersOnly R (t, MeantSpread p n ds) = ⊥
EntersOnly R (t, MeantInline p None ds s) = Unit {0}
EntersOnly R (t, MeantInline p (Some c) ds s) = R t c.it

-- the set that a map has under the name `t` contains `c`
abbrev pub IsNoted : {S T : Type 0} → IndexMap NameValue (IndexSet NameValue S) T → List ℕ → List ℕ → Type 0
IsNoted m t c = Contains (option_map_or (λ names. noted_names names) (lookup (λ a. bytes_eq t a.text) m.entries) []) c

-- what a fragment means
abbrev pub fragment_meant : Node Fragment → MeantFragment Place
fragment_meant n = meant_by_fragment (node_tree typed_fragment_tree n)

-- the fragment without its selections
abbrev pub emptied : MeantFragment Place → MeantFragment Place
emptied g = record g { set = meant_set g.type_condition.it no_meant }

-- a selection put into an otherwise empty set on the type of this name, for which no fault is told: an inline fragment without anything in it
abbrev pub filler : List ℕ → MeantSelection Place
filler t = MeantInline None None [] (meant_set t no_meant)

-- what is left of a set; but if the set has selections and none is left, a set with the filler alone
abbrev pub filled : MeantSet Place → MeantSet Place → MeantSet Place
filled (meant_set t no_meant) left = left
filled (meant_set t (meant_then x xs)) (meant_set u no_meant) = meant_set t (meant_then (filler t) no_meant)
filled (meant_set t (meant_then x xs)) (meant_set u (meant_then y ys)) = meant_set u (meant_then y ys)

-- the selection with what is left of its set; the set of a field is filled, so that it has selections if it had any
abbrev pub with_left : MeantSelection Place → MeantSet Place → MeantSelection Place
with_left (MeantField p d h v) left = MeantField p d h (filled v left)
with_left (MeantSpread p n ds) left = MeantSpread p n ds
with_left (MeantInline p c ds v) left = MeantInline p c ds left

-- ---- variables that operations define alike

-- two variables are alike: their types are the same, and both have a default, or none
abbrev pub AreAlike : VariableDefinitionTree Place → VariableDefinitionTree Place → Type 0
AreAlike x y = (unplaced_type x.ty.it ≡ unplaced_type y.ty.it) × (is_some x.default_value ≡ is_some y.default_value)

-- these variables contain one of its name, and the first such variable is like it (`AreAlike`)
abbrev pub IsDefinedIn : Variables Place → Placed Place (VariableDefinitionTree Place) → Type 0
IsDefinedIn variables x = Present (find (λ y. bytes_eq (defined_name y) (defined_name x)) variables) (λ y. AreAlike x.it y.it)

-- `variables` define each of the `common` ones alike
abbrev pub AreDefinedIn : Variables Place → Variables Place → Type 0
AreDefinedIn common variables = (x : Placed Place (VariableDefinitionTree Place)) → Contains common x → IsDefinedIn variables x

-- each operation of the document defines the `common` variables alike
abbrev pub AreCommon : MeantDocument Place → Variables Place → Type 0
AreCommon d common = (o : MeantOperation Place) → Contains (operations d) o → AreDefinedIn common o.variables

-- each of the `new` variables is one of the `old`, and `variables` define it alike
abbrev pub AreThoseDefined : Variables Place → Variables Place → Variables Place → Type 0
AreThoseDefined variables old new = (x : Placed Place (VariableDefinitionTree Place)) → Contains new x → Contains old x × IsDefinedIn variables x

-- each of the `new` variables is one of the `old`, or it is `x` and `variables` define it alike
abbrev pub KeepsIfDefined : Variables Place → Placed Place (VariableDefinitionTree Place) → Variables Place → Variables Place → Type 0
KeepsIfDefined variables x old new = (y : Placed Place (VariableDefinitionTree Place)) → Contains new y → Contains old y ⊎ ((x ≡ y) × IsDefinedIn variables y)

-- ---- variables that are used

-- the variable `n` is in a selection or in what it selects, at any depth; fragments that are spread are not entered
module _ (n : List ℕ) where
  abbrev mutual
    pub UsesWithin : MeantSelection Place → Type 0
    UsesWithin (MeantField p d h v) = (IsInDirectives n h.directives ⊎ IsInArguments n h.arguments) ⊎ UsesInSet v
    UsesWithin (MeantSpread p m ds) = IsInDirectives n ds
    UsesWithin (MeantInline p c ds v) = IsInDirectives n ds ⊎ UsesInSet v

    pub UsesInSet : MeantSet Place → Type 0
    UsesInSet (meant_set t ss) = UsesAlong ss

    pub UsesAlong : MeantSelections Place → Type 0
    UsesAlong no_meant = ⊥
    UsesAlong (meant_then x xs) = UsesWithin x ⊎ UsesAlong xs

-- each variable that is in `whole` is in `left`
abbrev pub UsesAll : MeantSet Place → MeantSet Place → Type 0
UsesAll left whole = (n : List ℕ) → UsesInSet n whole → UsesInSet n left

-- ---- what may be left out

module _ (s : SchemaTree Place) where
  -- an inline fragment on `c` applies in a set on `t`: `c` is no type without fields, and a fragment on it may apply there
  abbrev pub AppliesIn : List ℕ → List ℕ → Type 0
  AppliesIn t c = (IsNotComposite (judged s) c → ⊥) × MayApply (judged s) t c

  -- each `c` that the map has under a name `t` applies in sets on `t`
  abbrev pub ApplyWhereNoted : {S T : Type 0} → IndexMap NameValue (IndexSet NameValue S) T → Type 0
  ApplyWhereNoted m = (t c : List ℕ) → IsNoted m t c → AppliesIn t c

-- what the operations of a document have in common: the schema, and variables that each of them defines alike
pub record Terms : Type 0 where
  pub schema : SchemaTree Place
  pub variables : Variables Place

module _ (s : Terms) where
  -- the selection itself is no spread, and no inline fragment that does not apply; and if it is typed, it breaks no rule under these variables
  pub record IsQuiet (e : Member Place) : Type 0 where
    pub enters : EntersOnly (AppliesIn s.schema) e
    pub keeps : IsTyped (meanings (plain s.schema)) e.0 e.1 → (f : PlacedFault) → SelectionBreaks s.schema s.variables e f → ⊥

  -- the selection, in a set on the type of this name, is quiet, and so is all that it selects, at any depth
  abbrev mutual
    pub IsSettled : List ℕ → MeantSelection Place → Type 0
    IsSettled t (MeantField p d h v) = IsQuiet (t, MeantField p d h v) × IsSettledSet v
    IsSettled t (MeantSpread p n ds) = IsQuiet (t, MeantSpread p n ds)
    IsSettled t (MeantInline p c ds v) = IsQuiet (t, MeantInline p c ds v) × IsSettledSet v

    pub IsSettledSet : MeantSet Place → Type 0
    IsSettledSet (meant_set t ss) = AreSettled t ss

    pub AreSettled : List ℕ → MeantSelections Place → Type 0
    AreSettled t no_meant = Unit {0}
    AreSettled t (meant_then x xs) = IsSettled t x × AreSettled t xs

  -- the second selection is the first, from which settled selections may be left out, at any depth; the set of a field is filled then
  abbrev mutual
    pub Thins : MeantSelection Place → MeantSelection Place → Type 0
    Thins (MeantField p d h v) y = (w : MeantSet Place) × (LeavesOf v w × (y ≡ MeantField p d h (filled v w)))
    Thins (MeantSpread p n ds) y = y ≡ MeantSpread p n ds
    Thins (MeantInline p c ds v) y = (w : MeantSet Place) × (LeavesOf v w × (y ≡ MeantInline p c ds w))

    -- the second set is the first, from which settled selections may be left out, at any depth
    pub LeavesOf : MeantSet Place → MeantSet Place → Type 0
    LeavesOf (meant_set t ss) w = (ws : MeantSelections Place) × ((w ≡ meant_set t ws) × Leaves t ss ws)

    -- the same for the selections of a set on the type of this name, in order: each is settled and left out, or stays, with what is left of its set
    pub Leaves : List ℕ → MeantSelections Place → MeantSelections Place → Type 0
    Leaves t no_meant ws = ws ≡ no_meant
    Leaves t (meant_then x xs) ws =
        (IsSettled t x × Leaves t xs ws)
        ⊎ ((y : MeantSelection Place) × ((ys : MeantSelections Place) × ((ws ≡ meant_then y ys) × (Thins x y × Leaves t xs ys))))

  -- the set is what is left of the selection's own set; a spread has none, so any set will do
  abbrev pub LeavesBelow : MeantSelection Place → MeantSet Place → Type 0
  LeavesBelow (MeantField p d h v) w = LeavesOf v w
  LeavesBelow (MeantSpread p n ds) w = Unit {0}
  LeavesBelow (MeantInline p c ds v) w = LeavesOf v w

  -- the same for typed sets, on the same type
  abbrev pub LeavesOfTyped : TypedSet Place → TypedSet Place → Type 0
  LeavesOfTyped old new = (set_type new ≡ set_type old) × LeavesOf (meant_of_set old) (meant_of_set new)

  -- what stays of the selection of a set on this type is appended; or the selection is settled, and the set is unchanged
  abbrev pub KeepsUnlessSettled : List ℕ → TypedSelection Place → TypedSet Place → TypedSet Place → Type 0
  KeepsUnlessSettled ty x old new =
      ((y : TypedSelection Place) × ((new ≡ set_and (typed_then y no_typed) old) × Thins (meant x) (meant y)))
      ⊎ ((new ≡ old) × IsSettled ty (meant x))

  -- `h` is the fragment `g`, from which settled selections may be left out, at any depth; it uses all variables that `g` uses
  abbrev pub IsReplacementOf : MeantFragment Place → MeantFragment Place → Type 0
  IsReplacementOf h g = (emptied h ≡ emptied g) × (LeavesOf g.set h.set × UsesAll h.set g.set)

  -- `instead` has names where `fragments` has names, and under each a fragment that may replace the one of that name
  pub record MayReplace (fragments instead : Entries (MeantFragment Place)) : Type 0 where
    pub there : (n : List ℕ) (g : MeantFragment Place) → under n fragments ≡ Some g → (h : MeantFragment Place) × ((under n instead ≡ Some h) × IsReplacementOf h g)
    pub absent : (n : List ℕ) → under n fragments ≡ None → under n instead ≡ None

module _ (s : SchemaTree Place) where
  -- `instead` may replace `fragments` in an operation with these variables, for some `common` variables that these define alike
  abbrev pub MayReplaceWith : Variables Place → (fragments instead : Entries (MeantFragment Place)) → Type 0
  MayReplaceWith variables fragments instead = (common : Variables Place) × (AreDefinedIn common variables × MayReplace (record { schema = s; variables = common }) fragments instead)

  -- `instead` may replace the fragments of the document in each of its operations
  abbrev pub MayReplaceInEach : MeantDocument Place → Entries (MeantFragment Place) → Type 0
  MayReplaceInEach d instead = (o : MeantOperation Place) → Contains (operations d) o → MayReplaceWith o.variables d.fragments instead
