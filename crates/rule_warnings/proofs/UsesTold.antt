-- The uses that are told are those of the definition.
use Rattle.std.proofs.Common.{◌≡◌, ◌⊎◌, ℕ, suc, List, [], ◌∷◌, ◌++◌, find, map, flat_map, None, Some, refl, sym, ap, subst, ◌∙◌}
use Rattle.graphql_names.specs.Placed.{Placed, Place, Text}
use Rattle.tree_literals.specs.TypeQueries.{inner_name}
use Rattle.tree_literals.specs.ValueTree.{ValueTree, ItemTrees, EntryTrees, NullTree, EnumTree, VariableTree, StringTree, FloatTree, IntTree, BooleanTree, ListTree, ObjectTree, no_items, item_then, no_entries, entry_then}
use Rattle.tree_directives.specs.DirectiveTree.{Arguments, Directives, InputValues}
use Rattle.tree_directives.specs.DirectiveQueries.{input_value_has_name}
use Rattle.tree_operations.specs.SelectionTree.{FieldHead}
use Rattle.tree_operations.specs.OperationTree.{VariableDefinitionTree}
use Rattle.schema_types.specs.SchemaTree.{SchemaTree}
use Rattle.schema_coordinates.specs.Coordinate.{Coordinate, OfAttribute, OfArgument, OfDirectiveArgument}
use Rattle.spec_document.specs.MeantTree.{Definition, MeantSelection, MeantField, MeantSpread, MeantInline, MeantSet, meant_set, MeantSelections, no_meant, meant_then, MeantOperation, MeantFragment, MeantDocument}
use Rattle.rule_definitions.specs.Words.{Present, AtSomeIndex}
use Rattle.rule_definitions.specs.Judged.{Judged, judged}
use Rattle.rule_definitions.specs.Names.{argument_name, directive_name, named_in}
use Rattle.rule_definitions.proofs.Listing.{Lists, lists_same, lists_both, lists_nothing, lists_one, lists_present, lists_index}
use Rattle.rule_document_definitions.specs.Selected.{Position, InOperation, InFragment, SelectionAt, Standing, StandingField, all_in, all_from, all_below, as_field, selection_directives, operations, fragments, operation_name}
use Rattle.rule_warnings.specs.Deprecated.{DeprecatedUse, deprecation, enum_value, input_field, field_definition, IsUseOf, DeprecatedInValue, DeprecatedInItems, DeprecatedInEntries, DeprecatedInputFieldUsedAt, DeprecatedArgumentUsedAt, DeprecatedFieldUsedAt, DeprecatedInArguments, DeprecatedInDirectives, DeprecatedInField, DeprecatedInSet, DeprecatedInVariable, DeprecatedInOperation, DeprecatedInFragment, DeprecatedUsedIn}
use Rattle.rule_warnings.specs.Told.{Member, used_for, use_of, value_uses, item_uses, entry_uses, argument_uses, given_uses, directive_uses, directives_uses, defined_uses, field_uses, own_uses, selection_uses, members_in, members_from, members_below, set_uses, default_uses, variable_uses, variables_uses, operation_uses, fragment_uses, document_uses}
use Rattle.rule_warnings.specs.declared.deprecated_use.UseKind.{UseKind}
use Rattle.rule_warnings.specs.declared.deprecated_use.UseKind.TheVariants as kind

module _ {P : Type 0} (s : Judged) where
  use_told : (k : UseKind) (c : Coordinate) (ds : Directives (Unit {0})) (n : Text P) → Lists (use_of k c (deprecation ds) n) (λ (u : DeprecatedUse P). IsUseOf s u k c ds n)
  use_told k c ds n = lists_present (deprecation ds) (used_for k c n) (λ reason u. u ≡ record { place = n.place; kind = k; coordinate = c; reason = reason }) (λ reason is. lists_one _)

  -- ---- values

  mutual
    value_told : (ty : List ℕ) (v : ValueTree P) → Lists (value_uses s ty v) (λ u. DeprecatedInValue s u ty v)
    value_told ty (EnumTree n) = lists_present (enum_value s ty n.it) (λ v. use_of kind.EnumValue (OfAttribute ty n.it) (deprecation v.directives) n) (λ v u. IsUseOf s u kind.EnumValue (OfAttribute ty n.it) v.directives n)
        (λ v is. use_told kind.EnumValue (OfAttribute ty n.it) v.directives n)
    value_told ty (ListTree ts) = items_told ty ts
    value_told ty (ObjectTree es) = entries_told ty es
    value_told ty NullTree = lists_nothing _ (λ u h. h)
    value_told ty (VariableTree n) = lists_nothing _ (λ u h. h)
    value_told ty (StringTree t) = lists_nothing _ (λ u h. h)
    value_told ty (FloatTree t) = lists_nothing _ (λ u h. h)
    value_told ty (IntTree t) = lists_nothing _ (λ u h. h)
    value_told ty (BooleanTree b) = lists_nothing _ (λ u h. h)

    items_told : (ty : List ℕ) (ts : ItemTrees P) → Lists (item_uses s ty ts) (λ u. DeprecatedInItems s u ty ts)
    items_told ty no_items = lists_nothing _ (λ u h. h)
    items_told ty (item_then p v ts) = lists_both (value_uses s ty v) (item_uses s ty ts) (value_told ty v) (items_told ty ts)

    entries_told : (ty : List ℕ) (es : EntryTrees P) → Lists (entry_uses s ty es) (λ u. DeprecatedInEntries s u ty es)
    entries_told ty no_entries = lists_nothing _ (λ u h. h)
    entries_told ty (entry_then key p v es) = lists_both _ (entry_uses s ty es)
        (lists_present (input_field s ty key.it) (λ f. use_of kind.InputField (OfAttribute ty key.it) (deprecation f.directives) key ++ value_uses s (named_in f.ty.it) v)
        (λ f u. DeprecatedInputFieldUsedAt s u ty f key ⊎ DeprecatedInValue s u (named_in f.ty.it) v)
        (λ f is. lists_both _ _ (use_told kind.InputField (OfAttribute ty key.it) f.directives key) (value_told (named_in f.ty.it) v)))
        (entries_told ty es)

  -- ---- arguments

  given_told : (c : List ℕ → Coordinate) (definitions : InputValues (Unit {0})) (given : Arguments P) → Lists (given_uses s kind.Argument c definitions given) (λ u. DeprecatedInArguments s u c definitions given)
  given_told c definitions given = lists_index given (argument_uses s kind.Argument c definitions) _ (λ i a is.
      lists_present (find (input_value_has_name (argument_name a)) definitions) _ (λ v u. DeprecatedArgumentUsedAt s u (c (argument_name a)) v.it a.it.name ⊎ DeprecatedInValue s u (named_in v.it.ty.it) a.it.value.it) (λ v there.
      lists_both _ _ (use_told kind.Argument (c (argument_name a)) v.it.directives a.it.name) (value_told (named_in v.it.ty.it) a.it.value.it)))

  directives_told : (ds : Directives P) → Lists (directives_uses s ds) (λ u. DeprecatedInDirectives s u ds)
  directives_told ds = lists_index ds (directive_uses s) _ (λ i d is.
      lists_present (s.directive (directive_name d)) _ (λ defined u. DeprecatedInArguments s u (OfDirectiveArgument (directive_name d)) defined.arguments d.it.arguments)
      (λ defined there. given_told (OfDirectiveArgument (directive_name d)) defined.arguments d.it.arguments))

  -- ---- variables

  default_told : (v : VariableDefinitionTree P) → Lists (default_uses s v) (λ u. Present v.default_value (λ x. DeprecatedInValue s u (inner_name v.ty.it).it x.it))
  default_told v = lists_present v.default_value (λ x. value_uses s (inner_name v.ty.it).it x.it) (λ x u. DeprecatedInValue s u (inner_name v.ty.it).it x.it) (λ x is. value_told (inner_name v.ty.it).it x.it)

  variables_told : (vs : List (Placed P (VariableDefinitionTree P))) → Lists (variables_uses s vs) (λ u. AtSomeIndex vs (λ i v. DeprecatedInVariable s u v.it))
  variables_told vs = lists_index vs (λ v. variable_uses s v.it) (λ i v u. DeprecatedInVariable s u v.it) (λ i v is. lists_both _ _ (default_told v.it) (directives_told v.it.directives))

-- ---- selections

module _ {P : Type 0} (s : SchemaTree Place) where
  -- a selection, by itself
  abbrev InStanding : Standing P → DeprecatedUse P → Type 0
  InStanding x u = Present (as_field x) (λ f. DeprecatedInField s u f) ⊎ DeprecatedInDirectives (judged s) u (selection_directives x.it)

  abbrev member : Standing P → Member P
  member x = (x.parent, x.it)

  abbrev field_at : Position → List ℕ → P → Definition → FieldHead P → MeantSet P → StandingField P
  field_at at ty p d h v = record { position = at; parent = ty; place = p; definition = d; head = h; set = v }

  -- a field, by its definition
  field_told : (f : StandingField P) → Lists (field_uses s f.parent f.head) (λ u. DeprecatedInField s u f)
  field_told f = lists_present (field_definition s f.parent f.head.name.it) (defined_uses (judged s) f.parent f.head)
      (λ d u. DeprecatedFieldUsedAt (judged s) u d f ⊎ DeprecatedInArguments (judged s) u (OfArgument f.parent f.head.name.it) d.arguments f.head.arguments)
      (λ d is. lists_both _ _ (use_told (judged s) kind.Field (OfAttribute f.parent f.head.name.it) d.directives f.head.name)
      (given_told (judged s) (OfArgument f.parent f.head.name.it) d.arguments f.head.arguments))

  own_told : (at : Position) (ty : List ℕ) (x : MeantSelection P) → Lists (own_uses s ty x) (λ u. Present (as_field (record { position = at; parent = ty; it = x })) (λ f. DeprecatedInField s u f))
  own_told at ty (MeantField p d h v) = lists_same (field_uses s ty h) (λ u. (λ r. (_, (refl, r)), λ q. back u q.0 q.1.0 q.1.1)) (field_told (field_at at ty p d h v))
    where
      back : (u : DeprecatedUse P) (f : StandingField P) → Some (field_at at ty p d h v) ≡ Some f → DeprecatedInField s u f → DeprecatedInField s u (field_at at ty p d h v)
      back u f e r = let same : f ≡ field_at at ty p d h v = cc in subst (DeprecatedInField s u) same r
  own_told at ty (MeantSpread p n ds) = lists_nothing _ (λ u q. none u q.0 q.1.0)
    where
      none : (u : DeprecatedUse P) (f : StandingField P) → None ≡ Some f → ⊥
      none u f e = cc
  own_told at ty (MeantInline p c ds v) = lists_nothing _ (λ u q. none u q.0 q.1.0)
    where
      none : (u : DeprecatedUse P) (f : StandingField P) → None ≡ Some f → ⊥
      none u f e = cc

  standing_told : (x : Standing P) → Lists (selection_uses s (member x)) (InStanding x)
  standing_told x = lists_both (own_uses s x.parent x.it) (directives_uses (judged s) (selection_directives x.it)) (own_told x.position x.parent x.it) (directives_told (judged s) (selection_directives x.it))

  -- all that is told of these and those in them
  abbrev uses_along : List (Standing P) → List (DeprecatedUse P)
  uses_along xs = flat_map (λ x. selection_uses s (member x)) xs

  mapped_along : (xs : List (Standing P)) → flat_map (selection_uses s) (map member xs) ≡ uses_along xs
  mapped_along [] = refl
  mapped_along (x ∷ xs) = ap (λ l. selection_uses s (member x) ++ l) (mapped_along xs)

module _ {P : Type 0} where
  abbrev member_at : Standing P → Member P
  member_at x = (x.parent, x.it)

  map_both : (xs ys : List (Standing P)) → map member_at (xs ++ ys) ≡ map member_at xs ++ map member_at ys
  map_both [] ys = refl
  map_both (x ∷ xs) ys = ap (λ l. member_at x ∷ l) (map_both xs ys)

  mutual
    all_are : (at : Position) (v : MeantSet P) → map member_at (all_in at v) ≡ members_in v
    all_are at (meant_set ty xs) = from_are at ty 0 xs

    from_are : (at : Position) (ty : List ℕ) (i : ℕ) (xs : MeantSelections P) → map member_at (all_from at ty i xs) ≡ members_from ty xs
    from_are at ty i no_meant = refl
    from_are at ty i (meant_then x xs) = ap (λ l. (ty, x) ∷ l) (map_both (all_below (SelectionAt at i) x) (all_from at ty (suc i) xs) ∙ (λ j. below_are (SelectionAt at i) x j ++ from_are at ty (suc i) xs j))

    below_are : (at : Position) (x : MeantSelection P) → map member_at (all_below at x) ≡ members_below x
    below_are at (MeantField p d h v) = all_are at v
    below_are at (MeantSpread p n ds) = refl
    below_are at (MeantInline p c ds v) = all_are at v

module _ {P : Type 0} (s : SchemaTree Place) where
  set_told : (at : Position) (v : MeantSet P) → Lists (set_uses s v) (λ (u : DeprecatedUse P). DeprecatedInSet s u at v)
  set_told at v = subst (λ l. Lists l (λ u. DeprecatedInSet s u at v)) (sym (mapped_along s (all_in at v)) ∙ ap (flat_map (selection_uses s)) (all_are at v))
      (lists_index (all_in at v) (λ x. selection_uses s (member_at x)) _ (λ i x is. standing_told s x))

  -- ---- documents

  operation_told : (o : MeantOperation P) → Lists (operation_uses s o) (λ u. DeprecatedInOperation s u o)
  operation_told o = lists_both _ _ (variables_told (judged s) o.variables) (lists_both _ _ (directives_told (judged s) o.directives) (set_told (InOperation (operation_name o)) o.set))

  fragment_told : (f : MeantFragment P) → Lists (fragment_uses s f) (λ u. DeprecatedInFragment s u f)
  fragment_told f = lists_both _ _ (directives_told (judged s) f.directives) (set_told (InFragment f.name.it) f.set)

  pub document_told : (d : MeantDocument P) → Lists (document_uses s d) (λ (u : DeprecatedUse P). DeprecatedUsedIn s u d)
  document_told d = lists_both _ _ (lists_index (operations d) (operation_uses s) (λ i o u. DeprecatedInOperation s u o) (λ i o is. operation_told o))
      (lists_index (fragments d) (fragment_uses s) (λ i f u. DeprecatedInFragment s u f) (λ i f is. fragment_told f))
