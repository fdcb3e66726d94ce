-- Each extension of a type that is written has its type, of its kind, among what is built in and written.
use Rattle.std.proofs.Common.{◌≡◌, Bool, true, false, List, [], ◌∷◌, map, flat_map, Some, None, sym, subst, ◌∙◌, if◌then◌else◌}
use Rattle.std.specs.List.{find}
use Rattle.std.specs.Str.{bytes_eq}
use Rattle.std.proofs.lemmas.Option.{same_Some}
use Rattle.graphql_names.specs.Places.{is_built_in}
use Rattle.graphql_names.specs.Placed.{Place}
use Rattle.tree_definitions.specs.DefinitionTree.{DefinitionTree}
use Rattle.schema_components.specs.Lists.{firsts}
use Rattle.schema_types.specs.SchemaTree.{same_kind}
use Rattle.schema_types.specs.TypeParts.{TypeParts, TypeDefinition, type_extension_here}
use Rattle.schema_fold.specs.NumberedDefinition.{Definitions, type_name, types_in}
use Rattle.verdict_laws.specs.Arranged.{arranged}
use Rattle.verdict_laws.specs.Whole.{Extension, classes, extensions_in, whole_definition, whole_extension, whole_type}
use Rattle.verdict_laws.proofs.Order.{Each, Each-append, Each-arranged}
use Rattle.verdict_laws.proofs.Again.{kind_itself, extends_none, extensions_read, ReadsAs, firsts_apart}
use Rattle.verdict_laws.proofs.DirectivesTwice.{finds_itself}

module _ (all : List (TypeDefinition Place)) where
  -- what it extends is there, and of its kind
  abbrev pub HasType : DefinitionTree Place → Type 0
  HasType d = (e : TypeParts Place) → type_extension_here d ≡ Some e → (t : TypeDefinition Place) × ((find (λ t. bytes_eq e.name.it (type_name t)) all ≡ Some t) × (same_kind t.parts.kind e.kind ≡ true))

  extension_has : (t : TypeDefinition Place) → find (λ u. bytes_eq (type_name t) (type_name u)) all ≡ Some t → (x : Extension) → ReadsAs t x → HasType (whole_extension t x)
  extension_has t found x reads e is =
      subst (λ e. (t : TypeDefinition Place) × ((find (λ t. bytes_eq e.name.it (type_name t)) all ≡ Some t) × (same_kind t.parts.kind e.kind ≡ true)))
      (same_Some _ _ (sym reads ∙ is)) (t, (found, kind_itself t.parts.kind))

  extensions_have : (t : TypeDefinition Place) → find (λ u. bytes_eq (type_name t) (type_name u)) all ≡ Some t → (xs : List Extension) → Each (ReadsAs t) xs → Each HasType (map (whole_extension t) xs)
  extensions_have t found [] h = tt
  extensions_have t found (x ∷ xs) h = (extension_has t found x h.0, extensions_have t found xs h.1)

  pub types_have : (ds : Definitions) (ts : List (TypeDefinition Place)) → Each (λ t. find (λ u. bytes_eq (type_name t) (type_name u)) all ≡ Some t) ts → Each HasType (flat_map (whole_type ds) ts)
  types_have ds [] h = tt
  types_have ds (t ∷ ts) h =
      Each-append HasType (whole_type ds t) (flat_map (whole_type ds) ts)
      (Each-append HasType (if is_built_in t.place then [] else whole_definition t ∷ []) (map (whole_extension t) (arranged classes (extensions_in ds t.parts))) (by (is_built_in t.place))
      (extensions_have t h.0 (arranged classes (extensions_in ds t.parts)) (Each-arranged (ReadsAs t) classes (extensions_in ds t.parts) (extensions_read t ds))))
      (types_have ds ts h.1)
    where
      by : (b : Bool) → Each HasType (if b then [] else whole_definition t ∷ [])
      by true = tt
      by false = ((λ e is. absurd (none_some (sym (extends_none t.parts.kind t.place t.description t.parts) ∙ is))), tt)
        where
          none_some : {e : TypeParts Place} → None ≡ Some e → ⊥
          none_some h = cc

-- each type is found under its name
pub all_found : (ds : Definitions) → Each (λ t. find (λ u. bytes_eq (type_name t) (type_name u)) (firsts type_name (types_in ds)) ≡ Some t) (firsts type_name (types_in ds))
all_found ds = finds_itself type_name (firsts type_name (types_in ds)) (firsts_apart type_name (types_in ds))
