-- The definitions are the schema's: of selections added after others, of sets, and of what is put under a name.
use Rattle.std.proofs.Common.{◌≡◌, ℕ, Bool, true, false, List, [], ◌∷◌, ◌++◌, map, Option, None, Some, Vec, sym, ap, subst, ◌∙◌, if◌then◌else◌}
use Rattle.std.specs.Str.{bytes_eq}
use Rattle.std.specs.declared.alloc.Global.{Global}
use Rattle.indexmap.specs.IndexMap.{IndexMap, insert_entry}
use Rattle.graphql_names.specs.NameValue.{NameValue}
use Rattle.graphql_names.specs.Node.{content}
use Rattle.graphql_names.specs.Placed.{Place, Placed, Text, name_tree, node_tree}
use Rattle.graphql_names.specs.declared.node.Node.{Node}
use Rattle.tree_type_members.specs.TypeSystemTree.{field_definition_tree}
use Rattle.tree_type_members.specs.declared.field_definition.FieldDefinition.{FieldDefinition}
use Rattle.schema_types.specs.in_components.Names.{Entries, same_text, entries_of}
use Rattle.schema_types.specs.SchemaTree.{SchemaTree}
use Rattle.schema_types.specs.TypeView.{name_text}
use Rattle.document_typed_selections.specs.TypedTree.{TypedSet, typed_selections, typed_selection_tree, typed_set_tree}
use Rattle.document_typed_selections.specs.declared.selection.Field.{Field}
use Rattle.document_typed_selections.specs.declared.selection.InlineFragment.{InlineFragment}
use Rattle.document_typed_selections.specs.declared.selection.FragmentSpread.{FragmentSpread}
use Rattle.document_typed_selections.specs.declared.selection.Selection.{Selection}
use Rattle.document_typed_selections.specs.declared.selection.Selection.TheVariants.{FragmentSpread as Spread}
use Rattle.document_typed_selections.specs.declared.selection.SelectionSet.{SelectionSet}
use Rattle.document_typed_selections.specs.declared.selection.Selection.TheViews.{Field as Field', InlineFragment as InlineFragment', outs-FragmentSpread}
use Rattle.document_typed_selections.proofs.TypedTrees.{tree_here, typed_selection_tree_out, typed_tree_field, typed_tree_inline, typed_set_tree_out}
use Rattle.document_typed_operations.specs.TypedDocument.{TypedOperation, TypedFragment, TypedOperations, TypedDocumentTree}
use Rattle.document_typed_operations.specs.OperationsByName.{put_under, put_at, with_operation}
use Rattle.document_typed_operations.proofs.OperationMaps.{put-insert}
use Rattle.document_typing.specs.DefinedByPlace.{IsDefinitionOf, IsDefined, IsDefinedSet, AreDefined, AreDefinedSets, IsDefinedDocument}
use Rattle.document_typing.specs.MeaningView.{AreKeptDefined}

module _ (s : Option (SchemaTree Place)) where
  module _ (t : List ℕ) where
    defined-push : (xs : List Selection) (x : Selection) → AreDefined s t (typed_selections typed_selection_tree xs) → IsDefined s t (typed_selection_tree x) → AreDefined s t (typed_selections typed_selection_tree (xs ++ x ∷ []))
    defined-push [] x h d = (d, tt)
    defined-push (y ∷ ys) x h d = (h.0, defined-push ys x h.1 d)

    -- a selection, added after others
    pub kept-push : (old new : Vec Selection Global) (x : Selection) → new.items ≡ old.items ++ x ∷ [] → IsDefined s t (typed_selection_tree x) → AreKeptDefined s t old → AreKeptDefined s t new
    kept-push old new x pushed d h = subst (λ l. AreDefined s t (typed_selections typed_selection_tree l)) (sym pushed) (defined-push old.items x h d)

    -- a spread
    pub spread-defined : (n : Node FragmentSpread) → IsDefined s t (typed_selection_tree (Spread n))
    spread-defined n = subst (IsDefined s t) (sym (typed_selection_tree_out (Spread n) ∙ ap tree_here (outs-FragmentSpread n))) tt

    -- no selection
    pub kept-none : (v : Vec Selection Global) → v.items ≡ [] → AreKeptDefined s t v
    kept-none v none = subst (λ l. AreDefined s t (typed_selections typed_selection_tree l)) (sym none) tt

    -- a field with these parts
    pub field-defined : (n : Node Field) (definition : Node FieldDefinition) (name : Text Place) (set : SelectionSet)
        → (content n).definition ≡ definition → name_tree (content n).name ≡ name → (content n).selection_set ≡ set
        → IsDefinitionOf s t name (node_tree field_definition_tree definition) → IsDefinedSet s (typed_set_tree set) → IsDefined s t (typed_selection_tree (Field' n))
    field-defined n definition name set ed en es d x =
        subst (IsDefined s t) (sym (typed_tree_field n)) (
          subst (λ o. IsDefinitionOf s t (name_tree (content n).name) (node_tree field_definition_tree o)) (sym ed) (subst (λ m. IsDefinitionOf s t m (node_tree field_definition_tree definition)) (sym en) d),
          subst (λ o. IsDefinedSet s (typed_set_tree o)) (sym es) x,
        )

    -- an inline fragment with this set
    pub inline-defined : (n : Node InlineFragment) (set : SelectionSet) → (content n).selection_set ≡ set → IsDefinedSet s (typed_set_tree set) → IsDefined s t (typed_selection_tree (InlineFragment' n))
    inline-defined n set es x = subst (IsDefined s t) (sym (typed_tree_inline n)) (subst (λ o. IsDefinedSet s (typed_set_tree o)) (sym es) x)

  -- a set of what is kept
  pub set-defined : (x : SelectionSet) (t : List ℕ) → x.ty.text ≡ t → AreKeptDefined s t x.selections → IsDefinedSet s (typed_set_tree x)
  set-defined x t e h =
      subst (IsDefinedSet s) (sym (typed_set_tree_out x)) (subst (λ u. AreDefined s u (typed_selections typed_selection_tree x.selections.items)) (sym e) h)

  -- what is put under a name
  module _ {A : Type 0} (set : A → TypedSet Place) (name : List ℕ) (a : Placed Place A) (d : IsDefinedSet s (set a.it)) where
    put-by : (e : List ℕ × Placed Place A) (es : Entries (Placed Place A)) (b : Bool) → AreDefinedSets s set (e ∷ es) → AreDefinedSets s set (put_under name a es)
        → AreDefinedSets s set (if b then (e.0, a) ∷ es else e ∷ put_under name a es)
    put-by e es true h rest = (d, h.1)
    put-by e es false h rest = (h.0, rest)

    pub put-defined : (es : Entries (Placed Place A)) → AreDefinedSets s set es → AreDefinedSets s set (put_under name a es)
    put-defined [] h = (d, tt)
    put-defined (e ∷ es) h = put-by e es (bytes_eq name e.0) h (put-defined es h.1)

  -- what is inserted under a name
  pub insert-defined : {X A S : Type 0} (set : A → TypedSet Place) (f : X → Placed Place A) (old new : IndexMap NameValue X S) (k : NameValue) (v : X)
      → new.entries ≡ insert_entry (same_text name_text) old.entries k v → IsDefinedSet s (set (f v).it) → AreDefinedSets s set (entries_of name_text f old) → AreDefinedSets s set (entries_of name_text f new)
  insert-defined set f old new k v put d h =
      subst (AreDefinedSets s set) (sym (ap (map (λ e. (name_text e.0, f e.1))) put ∙ put-insert f k v old.entries)) (put-defined set k.text (f v) d (entries_of name_text f old) h)

  -- a document of these operations and fragments
  abbrev pub document_of : Entries (Placed Place (TypedFragment Place)) → TypedOperations Place → TypedDocumentTree Place
  document_of fragments t = record { anonymous = t.anonymous; named = t.named; fragments = fragments }

  operation-by : (fragments : Entries (Placed Place (TypedFragment Place))) (name : Option (Text Place)) (o : Placed Place (TypedOperation Place)) (t : TypedOperations Place)
      → IsDefinedSet s o.it.set → IsDefinedDocument s (document_of fragments t) → IsDefinedDocument s (document_of fragments (put_at name o t))
  operation-by fragments None o t d h = (d, h.1, h.2)
  operation-by fragments (Some n) o t d h = (h.0, put-defined (λ x. x.set) n.it o d t.named h.1, h.2)

  -- an operation, put among others
  pub operation-defined : (fragments : Entries (Placed Place (TypedFragment Place))) (o : Placed Place (TypedOperation Place)) (old new : TypedOperations Place)
      → new ≡ with_operation o old → IsDefinedSet s o.it.set → IsDefinedDocument s (document_of fragments old) → IsDefinedDocument s (document_of fragments new)
  operation-defined fragments o old new put d h = subst (λ t. IsDefinedDocument s (document_of fragments t)) (sym put) (operation-by fragments o.it.name o old d h)
