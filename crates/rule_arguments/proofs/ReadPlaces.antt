-- The rules on values read the places of types and of input fields alone.
use Rattle.std.proofs.Common.{◌≡◌, ℕ, ◌⊎◌, List, [], ◌∷◌, refl, sym, ◌∙◌, None, Contains}
use Rattle.graphql_names.specs.Placed.{Place}
use Rattle.tree_literals.specs.ValueTree.{ValueTree, ItemTrees, EntryTrees, NullTree, EnumTree, VariableTree, StringTree, FloatTree, IntTree, BooleanTree, ListTree, ObjectTree, no_items, item_then, no_entries, entry_then}
use Rattle.rule_values.specs.in_schema.in_schema_types.Addresses.{Address, TypeAt, InputAt, TypeReferenceAt}
use Rattle.schema_types.specs.Looks.{TypeLooks}
use Rattle.rule_values.specs.in_rule_definitions.Words.{Present}
use Rattle.rule_values.specs.in_rule_definitions.Judged.{Judged}
use Rattle.rule_values.specs.in_rule_definitions.GivenValues.{Wanted, Variables, wanted_name}
use Rattle.rule_values.specs.in_rule_definitions.Values.{wanted_item, FitsForm, FormBreaks, TypeBreaks, TypeBreaksItems, TypeBreaksEntries}
use Rattle.rule_values.specs.in_rule_definitions.PlacedFaults.{PlacedFault}
use Rattle.schema_types.specs.declared.type_kind.TypeKind.TheVariants as kind
use Rattle.rule_arguments.specs.Trees.{TellSamePlaces}

-- the places of types, of input fields and of what these refer to; nothing else has one
abbrev reference_read : (Address → Place) → Address → Place
reference_read at (InputAt n m) = at (TypeReferenceAt (InputAt n m))
reference_read at _ = None

abbrev read : (Address → Place) → Address → Place
read at (TypeAt n) = at (TypeAt n)
read at (InputAt n m) = at (InputAt n m)
read at (TypeReferenceAt holder) = reference_read at holder
read at _ = None

module _ (at : Address → Place) (s : Judged) (variables : Variables Place) (f : PlacedFault) where
  mutual
    only_read : (ty : Wanted Place) (p : Place) (v : ValueTree Place) → TypeBreaks at s variables ty p v f ≡ TypeBreaks (read at) s variables ty p v f
    only_read ty p NullTree = refl
    only_read ty p (EnumTree n) = refl
    only_read ty p (VariableTree n) = refl
    only_read ty p (StringTree x) = refl
    only_read ty p (FloatTree x) = refl
    only_read ty p (IntTree x) = refl
    only_read ty p (BooleanTree b) = refl
    only_read ty p (ListTree ts) = λ i. FormBreaks at s variables ty p (ListTree ts) f
        ⊎ (Present (s.type_named (wanted_name ty)) (λ t. FitsForm s variables ty t (ListTree ts)) × only_read_items (wanted_item ty) ts i)
    only_read ty p (ObjectTree es) = λ i. FormBreaks at s variables ty p (ObjectTree es) f
        ⊎ Present (s.type_named (wanted_name ty)) (λ t. (t.kind ≡ kind.InputObject) × only_read_entries (wanted_name ty) t [] es i)

    only_read_items : (ty : Wanted Place) (ts : ItemTrees Place) → TypeBreaksItems at s variables ty ts f ≡ TypeBreaksItems (read at) s variables ty ts f
    only_read_items ty no_items = refl
    only_read_items ty (item_then p v ts) = λ i. only_read ty p v i ⊎ only_read_items ty ts i

    only_read_entries : (n : List ℕ) (t : TypeLooks) (before : List (List ℕ)) (es : EntryTrees Place) → TypeBreaksEntries at s variables n t before es f ≡ TypeBreaksEntries (read at) s variables n t before es f
    only_read_entries n t before no_entries = refl
    only_read_entries n t before (entry_then k p v es) = λ i.
        ((Contains before k.it → ⊥) × Present (t.input k.it) (λ x. only_read (record { it = x.ty.it; place = at (TypeReferenceAt (InputAt n k.it)) }) p v i))
        ⊎ only_read_entries n t (k.it ∷ before) es i

module _ (at other : Address → Place) (alike : TellSamePlaces at other) where
  same_reference : (a : Address) → reference_read at a ≡ reference_read other a
  same_reference (InputAt n m) = alike.references n m
  same_reference _ = refl

  same_read : (a : Address) → read at a ≡ read other a
  same_read (TypeAt n) = alike.types n
  same_read (InputAt n m) = alike.inputs n m
  same_read (TypeReferenceAt holder) = same_reference holder
  same_read _ = refl

  pub same_type_breaks : (s : Judged) (variables : Variables Place) (ty : Wanted Place) (p : Place) (v : ValueTree Place) (f : PlacedFault)
      → TypeBreaks at s variables ty p v f ≡ TypeBreaks other s variables ty p v f
  same_type_breaks s variables ty p v f =
      only_read at s variables f ty p v
      ∙ (λ i. TypeBreaks (λ a. same_read a i) s variables ty p v f)
      ∙ sym (only_read other s variables f ty p v)
