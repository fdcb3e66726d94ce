-- A folding rule that is broken in a list is broken, in the same way, in each list that is rearranged.
use Rattle.std.proofs.Common.{◌≡◌, ℕ, Bool, true, false, ◌||◌, List, [], ◌∷◌, ◌++◌, map, filter, slice_get, bytes_eq, is_some, refl, sym, ap, ◌∙◌, Option, None, Some, option_map, true≢false}
use Rattle.std.specs.List.{flat_map, list_any}
use Rattle.std.specs.Option.{option_map_or}
use Rattle.std.proofs.lemmas.Option.{same_Some}
use Rattle.std.proofs.lemmas.List.Folds.{list_any-append}
use Rattle.std.proofs.lemmas.Slice.Eq.{bytes_eq-Decides}
use Rattle.std.proofs.lemmas.Simd.{map-map}
use Rattle.graphql_names.specs.Placed.{Place, Placed, Text, unplaced_text, unplaced_node}
use Rattle.schema_fold.specs.in_directives.DirectiveTree.{DirectiveDefinitionTree, InputValueTree, unplaced_input_value}
use Rattle.schema_fold.specs.in_type_members.TypeSystemTree.{FieldDefinitionTree, EnumValueTree, RootOperationTree, unplaced_root, unplaced_field_definition, unplaced_enum_value}
use Rattle.schema_fold.specs.in_schema_types.in_operations.OperationQueries.{operation_keyword}
use Rattle.schema_fold.specs.in_definitions.DefinitionTree.{DefinitionTree, unplaced_definition, unplaced_document}
use Rattle.schema_fold.specs.in_definitions.Queries.{is_executable}
use Rattle.schema_fold.specs.in_components.Lists.{StandsAfter, firsts, has_name}
use Rattle.schema_fold.specs.in_components.Given.{Given, given_name}
use Rattle.schema_fold.specs.in_schema_types.SchemaTree.{same_kind}
use Rattle.schema_fold.specs.in_schema_types.TypeParts.{TypeParts, TypeDefinition, type_here, type_extension_here}
use Rattle.schema_fold.specs.in_schema_types.declared.type_kind.TypeKind.{TypeKind}
use Rattle.schema_fold.specs.in_schema_types.declared.type_kind.TypeKind.TheVariants as kind
use Rattle.schema_fold.specs.in_schema_types.Plain.{plain_directive_definition}
use Rattle.schema_fold.specs.NumberedDefinition.{Definitions, numbered, type_name, types_in, type_named, directive_here, directive_name, directives_in}
use Rattle.schema_fold.specs.Components.{components, field_key, value_key, input_key}
use Rattle.schema_fold.specs.SchemaFold.{Root, schema_definition_in, schema_is_defined, roots_given, root_key}
use Rattle.schema_fold.specs.BuildErrors as rule
use Rattle.schema_fold.specs.BuildErrors.{Breach, BuildFault, Fails, RepeatedIn, At, is_built_in_scalar}
use Rattle.rule_definitions.proofs.Lookups.{find_given}
use Rattle.verdict_laws.specs.RearrangedLists.{defines_type, extends_type, defines_directive, defines_schema, is_schema_extension, AgreeOn, IsRearranged}
use Rattle.verdict_laws.specs.Folding.{RearrangedFailAlike, RearrangedKeepTheRules}
use Rattle.verdict_laws.proofs.Gathered.{find-firsts}
use Rattle.verdict_laws.proofs.Parts.{unplaced_type_definition, unplaced_parts, type_unplaced, type_extension_unplaced, types_of, extensions_of, named_unplaced, all_parts, components_seen}
use Rattle.verdict_laws.proofs.Roots.{directive_unplaced_here, directive_unplaced, schemas_in, told, roots, defined}
use Rattle.verdict_laws.proofs.RearrangedLists.{turned, agree_after, rearranged_after, types_agree, directives_agree, schemas_agree, types_same, extensions_same, schemas_same, schema_extensions_same}
use Rattle.verdict_laws.proofs.Moved.{Placed_so, moved, repeated, has_name-filter, first_named}

-- what is told there, as here
abbrev ToldToo : (BuildFault → Type 0) → BuildFault → Type 0
ToldToo Fails' fault = (other : BuildFault) × (Fails' other × (other.breach ≡ fault.breach))

told_of : {fault other : BuildFault} → fault ≡ other → other.breach ≡ fault.breach
told_of same = sym (ap (λ (f : BuildFault). f.breach) same)

some_of : {A B : Type 0} (f : A → B) (o : Option A) (b : B) → option_map f o ≡ Some b → (a : A) × ((o ≡ Some a) × (f a ≡ b))
some_of f None b e = cc
some_of f (Some a) b e = (a, (refl, same_Some (f a) b e))

none_of : {A B : Type 0} (f : A → B) (o : Option A) → option_map f o ≡ None → o ≡ None
none_of f None e = refl
none_of f (Some a) e = cc

-- what the same definition gives there, where it gives something here
given_too : {A B : Type 0} (here : DefinitionTree Place → Option A) (here' : DefinitionTree (Unit {0}) → Option B) (f : A → B) (same : (d : DefinitionTree Place) → here' (unplaced_definition d) ≡ option_map f (here d))
    → (d e : DefinitionTree Place) → unplaced_definition e ≡ unplaced_definition d → (a : A) → here d ≡ Some a → (a' : A) × ((here e ≡ Some a') × (f a' ≡ f a))
given_too here here' f same d e is a at = some_of f (here e) (f a) (sym (same e) ∙ ap here' is ∙ same d ∙ ap (option_map f) at)

or_true : (b : Bool) → (b || true) ≡ true
or_true true = refl
or_true false = refl

any_stands : {X : Type 0} (test : X → Bool) (xs : List X) → list_any test xs ≡ true → (before : List X) × ((x : X) × (StandsAfter xs before x × (test x ≡ true)))
any_stands test [] e = absurd (true≢false (sym e))
any_stands {X} test (x ∷ xs) e = by (test x) refl e (any_stands test xs)
  where
    by : (b : Bool) → test x ≡ b → (b || list_any test xs) ≡ true → (list_any test xs ≡ true → (before : List X) × ((y : X) × (StandsAfter xs before y × (test y ≡ true)))) → (before : List X) × ((y : X) × (StandsAfter (x ∷ xs) before y × (test y ≡ true)))
    by true t e rest = ([], (x, ((xs, refl), t)))
    by false t e rest = let (before, (y, ((after, is), t'))) = rest e in (x ∷ before, (y, ((after, ap (λ l. x ∷ l) is), t')))

some_first : {A B : Type 0} (f : A → B) (xs : List A) → is_some (slice_get xs 0) ≡ is_some (slice_get (map f xs) 0)
some_first f [] = refl
some_first f (x ∷ xs) = refl

first_too : (gs hs : Definitions) → AgreeOn defines_schema gs hs → is_some (schema_definition_in gs) ≡ is_some (schema_definition_in hs)
first_too gs hs agree = some_first told (schemas_in gs) ∙ ap (λ l. is_some (slice_get l 0)) (schemas_agree gs hs agree) ∙ sym (some_first told (schemas_in hs))

module _ (built_in : Definitions) (i j : ℕ) (ds es : Definitions) (r : IsRearranged ds es) where
  abbrev There : BuildFault → Type 0
  There = Fails built_in j es

  all : IsRearranged (built_in ++ ds) (built_in ++ es)
  all = rearranged_after built_in ds es r

  -- a definition of a sort, moved
  abbrev Moved : (DefinitionTree Place → Bool) → Definitions → DefinitionTree Place → Type 0
  Moved sort before d = Placed_so unplaced_definition sort es (unplaced_document (filter sort before)) (unplaced_definition d)

  to_there : (sort : DefinitionTree Place → Bool) → AgreeOn sort ds es → (before : Definitions) (d : DefinitionTree Place) → StandsAfter ds before d → sort d ≡ true → Moved sort before d
  to_there sort agree before d stands is = moved unplaced_definition sort ds es agree before d stands is

  executable_too : (fault : BuildFault) → rule.BreaksSomewhere built_in ds rule.ExecutableDefinitionAt fault → ToldToo There fault
  executable_too fault (before, (d, ((after, stands), (is, says)))) =
      let any : list_any is_executable ds ≡ true = ap (list_any is_executable) stands ∙ list_any-append is_executable before (d ∷ after) ∙ ap (λ b. list_any is_executable before || (b || list_any is_executable after)) is ∙ or_true (list_any is_executable before) in
      let (front, (e, (stands', is'))) = any_stands is_executable es (sym r.executables ∙ any) in
      (At e rule.ExecutableDefinition, (rule.executable_definition (front, (e, (stands', (is', refl)))), told_of says))

  schema_too : (fault : BuildFault) → rule.BreaksSomewhere built_in ds rule.SchemaDefinitionCollisionAt fault → ToldToo There fault
  schema_too fault (before, (d, (stands, (is, seen, says)))) =
      let p = to_there defines_schema r.schemas before d stands is in
      (At p.it rule.SchemaDefinitionCollision, (rule.schema_definition_collision (p.front, (p.it, (p.stands, (p.sorted, first_too p.front before p.front_same ∙ seen, refl)))), told_of says))

  directive_too : (fault : BuildFault) → rule.BreaksSomewhere built_in ds rule.DirectiveDefinitionCollisionAt fault → ToldToo There fault
  directive_too fault (before, (d, (stands, (own, (here, seen, told))))) =
      let n = directive_name own in
      let p = to_there (defines_directive n) (r.directives n) before d stands (ap (λ o. option_map_or (λ x. bytes_eq n (directive_name x)) o false) here ∙ (bytes_eq-Decides n n).1 refl) in
      let (own', (here', same)) = given_too directive_here directive_unplaced_here plain_directive_definition directive_unplaced d p.it p.same own here in
      let names : directive_name own' ≡ n = ap (λ (x : DirectiveDefinitionTree (Unit {0})). x.name.it) same in
      let seen' : has_name directive_name (directive_name own') (directives_in p.front) ≡ true =
      ap (λ m. has_name directive_name m (directives_in p.front)) names ∙ has_name-filter directive_name plain_directive_definition n (directives_in p.front)
      ∙ ap (λ l. is_some (slice_get l 0)) (directives_agree n p.front before p.front_same) ∙ sym (has_name-filter directive_name plain_directive_definition n (directives_in before)) ∙ seen in
      let fails : There (At p.it (rule.DirectiveDefinitionCollision (directive_name own'))) = rule.directive_definition_collision (p.front, (p.it, (p.stands, (own', (here', seen', refl))))) in
      (At p.it (rule.DirectiveDefinitionCollision (directive_name own')), (fails, ap rule.DirectiveDefinitionCollision names ∙ told_of told))

  -- a second definition of a type
  type_moved : (before : Definitions) (d : DefinitionTree Place) (t : TypeDefinition Place) → StandsAfter ds before d → rule.IsSecondDefinition built_in ds before d t
      → (front : Definitions) × ((e : DefinitionTree Place) × ((u : TypeDefinition Place) × (StandsAfter es front e × (rule.IsSecondDefinition built_in es front e u × (type_name u ≡ type_name t)))))
  type_moved before d t stands (here, seen) =
      let n = type_name t in
      let p = to_there (defines_type n) (r.types n) before d stands (ap (λ o. option_map_or (λ x. bytes_eq n (type_name x)) o false) here ∙ (bytes_eq-Decides n n).1 refl) in
      let (u, (here', same)) = given_too type_here type_here unplaced_type_definition type_unplaced d p.it p.same t here in
      let names : type_name u ≡ n = ap (λ (x : TypeDefinition (Unit {0})). x.parts.name.it) same in
      let seen' : has_name type_name (type_name u) (types_in (built_in ++ p.front)) ≡ true =
      ap (λ m. has_name type_name m (types_in (built_in ++ p.front))) names ∙ has_name-filter type_name unplaced_type_definition n (types_in (built_in ++ p.front))
      ∙ ap (λ l. is_some (slice_get l 0)) (types_agree n (built_in ++ p.front) (built_in ++ before) (agree_after (defines_type n) built_in p.front before p.front_same))
      ∙ sym (has_name-filter type_name unplaced_type_definition n (types_in (built_in ++ before))) ∙ seen in
      (p.front, (p.it, (u, (p.stands, ((here', seen'), names)))))

  type_too : (fault : BuildFault) → rule.BreaksSomewhere built_in ds (rule.TypeDefinitionCollisionAt built_in ds) fault → ToldToo There fault
  type_too fault (before, (d, (stands, (t, (second, scalar, told))))) =
      let (front, (e, (u, (stands', (second', names))))) = type_moved before d t stands second in
      let fails : There (At e (rule.TypeDefinitionCollision (type_name u))) = rule.type_definition_collision (front, (e, (stands', (u, (second', ap (is_built_in_scalar built_in ds) names ∙ scalar, refl))))) in
      (At e (rule.TypeDefinitionCollision (type_name u)), (fails, ap rule.TypeDefinitionCollision names ∙ told_of told))

  scalar_too : (fault : BuildFault) → rule.BreaksSomewhere built_in ds (rule.BuiltInScalarTypeRedefinitionAt built_in ds) fault → ToldToo There fault
  scalar_too fault (before, (d, (stands, (t, (second, scalar, told))))) =
      let (front, (e, (u, (stands', (second', names))))) = type_moved before d t stands second in
      let fails : There (At e (rule.BuiltInScalarTypeRedefinition (type_name u))) = rule.built_in_scalar_type_redefinition (front, (e, (stands', (u, (second', ap (is_built_in_scalar built_in ds) names ∙ scalar, refl))))) in
      (At e (rule.BuiltInScalarTypeRedefinition (type_name u)), (fails, ap rule.BuiltInScalarTypeRedefinition names ∙ told_of told))

  -- ---- extensions

  types : (n : List ℕ) → types_of (built_in ++ ds) n ≡ types_of (built_in ++ es) n
  types = types_same (built_in ++ ds) (built_in ++ es) all

  named_same : (n : List ℕ) → option_map unplaced_type_definition (type_named n (built_in ++ ds)) ≡ option_map unplaced_type_definition (type_named n (built_in ++ es))
  named_same n = named_unplaced n (built_in ++ ds) ∙ ap (λ l. slice_get l 0) (types n) ∙ sym (named_unplaced n (built_in ++ es))

  schema_defined : schema_is_defined (built_in ++ ds) ≡ schema_is_defined (built_in ++ es)
  schema_defined = defined i j (built_in ++ ds) (built_in ++ es) types (schemas_same (built_in ++ ds) (built_in ++ es) all) (schema_extensions_same (built_in ++ ds) (built_in ++ es) all)

  schema_extension_too : (fault : BuildFault) → rule.BreaksSomewhere built_in ds (rule.OrphanSchemaExtensionAt built_in ds) fault → ToldToo There fault
  schema_extension_too fault (before, (d, (stands, (is, none, told)))) =
      let p = to_there is_schema_extension r.schema_extensions before d stands is in
      (At p.it rule.OrphanSchemaExtension, (rule.orphan_schema_extension (p.front, (p.it, (p.stands, (p.sorted, sym schema_defined ∙ none, refl)))), told_of told))

  -- an extension of a type, moved
  extension_moved : (before : Definitions) (d : DefinitionTree Place) (e : TypeParts Place) → StandsAfter ds before d → type_extension_here d ≡ Some e
      → (front : Definitions) × ((d' : DefinitionTree Place) × ((e' : TypeParts Place) × (StandsAfter es front d' × ((type_extension_here d' ≡ Some e') × (unplaced_parts e' ≡ unplaced_parts e)))))
  extension_moved before d e stands here =
      let n = e.name.it in
      let p = to_there (extends_type n) (r.extensions n) before d stands (ap (λ o. option_map_or (λ (x : TypeParts Place). bytes_eq n x.name.it) o false) here ∙ (bytes_eq-Decides n n).1 refl) in
      let (e', (here', same)) = given_too type_extension_here type_extension_here unplaced_parts type_extension_unplaced d p.it p.same e here in
      (p.front, (p.it, (e', (p.stands, (here', same)))))

  orphan_too : (fault : BuildFault) → rule.BreaksSomewhere built_in ds (rule.OrphanTypeExtensionAt built_in ds) fault → ToldToo There fault
  orphan_too fault (before, (d, (stands, (e, (here, none, told))))) =
      let (front, (d', (e', (stands', (here', same))))) = extension_moved before d e stands here in
      let names : e'.name.it ≡ e.name.it = ap (λ (x : TypeParts (Unit {0})). x.name.it) same in
      let none' : type_named e'.name.it (built_in ++ es) ≡ None =
      none_of unplaced_type_definition (type_named e'.name.it (built_in ++ es)) (ap (λ n. option_map unplaced_type_definition (type_named n (built_in ++ es))) names ∙ sym (named_same e.name.it) ∙ ap (option_map unplaced_type_definition) none) in
      let fails : There (At d' (rule.OrphanTypeExtension e'.name.it)) = rule.orphan_type_extension (front, (d', (stands', (e', (here', none', refl))))) in
      (At d' (rule.OrphanTypeExtension e'.name.it), (fails, ap rule.OrphanTypeExtension names ∙ told_of told))

  mismatch_too : (fault : BuildFault) → rule.BreaksSomewhere built_in ds (rule.TypeExtensionKindMismatchAt built_in ds) fault → ToldToo There fault
  mismatch_too fault (before, (d, (stands, (e, (t, (here, is, differ, told)))))) =
      let (front, (d', (e', (stands', (here', same))))) = extension_moved before d e stands here in
      let names : e'.name.it ≡ e.name.it = ap (λ (x : TypeParts (Unit {0})). x.name.it) same in
      let (t', (is', same_type)) = some_of unplaced_type_definition (type_named e'.name.it (built_in ++ es)) (unplaced_type_definition t)
      (ap (λ n. option_map unplaced_type_definition (type_named n (built_in ++ es))) names ∙ sym (named_same e.name.it) ∙ ap (option_map unplaced_type_definition) is) in
      let differ' : same_kind t'.parts.kind e'.kind ≡ false = (λ k. same_kind (same_type k).parts.kind (same k).kind) ∙ differ in
      let fails : There (At d' (rule.TypeExtensionKindMismatch e'.name.it)) = rule.type_extension_kind_mismatch (front, (d', (stands', (e', (t', (here', is', differ', refl)))))) in
      (At d' (rule.TypeExtensionKindMismatch e'.name.it), (fails, ap rule.TypeExtensionKindMismatch names ∙ told_of told))

  -- ---- components

  root_too : (fault : BuildFault) → rule.DuplicateRootOperationIn built_in ds i fault → ToldToo There fault
  root_too fault (g, (again, told)) =
      let all_roots = roots i j (built_in ++ ds) (built_in ++ es) types (schemas_same (built_in ++ ds) (built_in ++ es) all) (schema_extensions_same (built_in ++ ds) (built_in ++ es) all) in
      let (h, (again', same)) = repeated (λ (x : Given Place Root). unplaced_root x.it.it) root_key (λ (x : RootOperationTree (Unit {0})). operation_keyword x.operation_type) (λ x. refl)
      (roots_given i (built_in ++ ds)) (roots_given j (built_in ++ es)) all_roots g again in
      let breaks = ap (λ (x : RootOperationTree (Unit {0})). rule.DuplicateRootOperation x.operation_type) same in
      (record { place = h.it.place; breach = rule.DuplicateRootOperation h.it.it.operation_type }, (rule.duplicate_root_operation (h, (again', refl)), breaks ∙ told_of told))

  -- in one class of components
  module _ {A B : Type 0} (of : TypeParts Place → List A) (key : Given Place A → List ℕ) (view : Given Place A → B) (view' : A → B) (seen : (g : Given Place A) → view g ≡ view' g.it)
      (of' : TypeParts (Unit {0}) → List B) (agree : (p : TypeParts Place) → map view' (of p) ≡ of' (unplaced_parts p)) (name : B → List ℕ) (names : (g : Given Place A) → key g ≡ name (view g)) where
    component_too : (k : TypeKind) (place : A → Place) (breach : List ℕ → List ℕ → Breach) (fault : BuildFault) → RepeatedIn built_in ds k of key place breach i fault → ToldToo (RepeatedIn built_in es k of key place breach j) fault
    component_too k place breach fault (t, (g, (there, same, again, told))) =
        let n = type_name t in
        let (u, (is, same_type)) = some_of unplaced_type_definition (type_named n (built_in ++ es)) (unplaced_type_definition t)
        (sym (named_same n) ∙ ap (option_map unplaced_type_definition) (first_named type_name (types_in (built_in ++ ds)) t there)) in
        let same_name : type_name u ≡ n = ap (λ (x : TypeDefinition (Unit {0})). x.parts.name.it) same_type in
        let components_same : map view (components of (numbered i (built_in ++ ds)) t) ≡ map view (components of (numbered j (built_in ++ es)) u) =
        components_seen of view view' seen of' agree i (built_in ++ ds) t
        ∙ (λ m. flat_map of' (all_parts (sym same_type m) (extensions_same (built_in ++ ds) (built_in ++ es) all n m)))
        ∙ ap (λ m. flat_map of' (all_parts (unplaced_type_definition u) (extensions_of (built_in ++ es) m))) (sym same_name)
        ∙ sym (components_seen of view view' seen of' agree j (built_in ++ es) u) in
        let (h, (again', same_view)) = repeated view key name names (components of (numbered i (built_in ++ ds)) t) (components of (numbered j (built_in ++ es)) u) components_same g again in
        let there' = (find_given (λ x. bytes_eq n (type_name x)) (firsts type_name (types_in (built_in ++ es))) u (find-firsts type_name n (types_in (built_in ++ es)) ∙ is)).0 in
        let kinds : same_kind u.parts.kind k ≡ true = ap (λ (x : TypeDefinition (Unit {0})). same_kind x.parts.kind k) same_type ∙ same in
        let breaks : breach (type_name u) (key h) ≡ breach n (key g) = λ m. breach (same_name m) ((names h ∙ ap name same_view ∙ sym (names g)) m) in
        let other : BuildFault = record { place = place h.it; breach = breach (type_name u) (key h) } in
        (other, ((u, (h, (there', kinds, again', refl {a = other}))), breaks ∙ told_of told))

  -- all rules
  interfaces_too : (k : TypeKind) (place : Text Place → Place) (breach : List ℕ → List ℕ → Breach) (fault : BuildFault)
      → RepeatedIn built_in ds k (λ p. p.interfaces) given_name place breach i fault → ToldToo (RepeatedIn built_in es k (λ p. p.interfaces) given_name place breach j) fault
  interfaces_too = component_too (λ p. p.interfaces) given_name given_name (λ x. x.it) (λ g. refl) (λ p. map (λ x. x.it) p.interfaces) (λ p. sym (map-map (λ x. x.it) unplaced_text p.interfaces)) (λ n. n) (λ g. refl)

  members_too : (k : TypeKind) (place : Text Place → Place) (breach : List ℕ → List ℕ → Breach) (fault : BuildFault)
      → RepeatedIn built_in ds k (λ p. p.members) given_name place breach i fault → ToldToo (RepeatedIn built_in es k (λ p. p.members) given_name place breach j) fault
  members_too = component_too (λ p. p.members) given_name given_name (λ x. x.it) (λ g. refl) (λ p. map (λ x. x.it) p.members) (λ p. sym (map-map (λ x. x.it) unplaced_text p.members)) (λ n. n) (λ g. refl)

  fields_too : (k : TypeKind) (place : Placed Place (FieldDefinitionTree Place) → Place) (breach : List ℕ → List ℕ → Breach) (fault : BuildFault)
      → RepeatedIn built_in ds k (λ p. p.fields) field_key place breach i fault → ToldToo (RepeatedIn built_in es k (λ p. p.fields) field_key place breach j) fault
  fields_too = component_too (λ p. p.fields) field_key field_key (λ x. x.it.name.it) (λ g. refl) (λ p. map (λ x. x.it.name.it) p.fields) (λ p. sym (map-map (λ x. x.it.name.it) (unplaced_node unplaced_field_definition) p.fields)) (λ n. n) (λ g. refl)

  values_too : (k : TypeKind) (place : Placed Place (EnumValueTree Place) → Place) (breach : List ℕ → List ℕ → Breach) (fault : BuildFault)
      → RepeatedIn built_in ds k (λ p. p.values) value_key place breach i fault → ToldToo (RepeatedIn built_in es k (λ p. p.values) value_key place breach j) fault
  values_too = component_too (λ p. p.values) value_key value_key (λ x. x.it.value.it) (λ g. refl) (λ p. map (λ x. x.it.value.it) p.values) (λ p. sym (map-map (λ x. x.it.value.it) (unplaced_node unplaced_enum_value) p.values)) (λ n. n) (λ g. refl)

  inputs_too : (k : TypeKind) (place : Placed Place (InputValueTree Place) → Place) (breach : List ℕ → List ℕ → Breach) (fault : BuildFault)
      → RepeatedIn built_in ds k (λ p. p.inputs) input_key place breach i fault → ToldToo (RepeatedIn built_in es k (λ p. p.inputs) input_key place breach j) fault
  inputs_too = component_too (λ p. p.inputs) input_key input_key (λ x. x.it.name.it) (λ g. refl) (λ p. map (λ x. x.it.name.it) p.inputs) (λ p. sym (map-map (λ x. x.it.name.it) (unplaced_node unplaced_input_value) p.inputs)) (λ n. n) (λ g. refl)

  abbrev in_class : {F : BuildFault → Type 0} → ((fault : BuildFault) → F fault → There fault) → (fault : BuildFault) → ToldToo F fault → ToldToo There fault
  in_class make fault (other, (fails, same)) = (other, (make other fails, same))

  pub told_too : (fault : BuildFault) → Fails built_in i ds fault → ToldToo There fault
  told_too fault (rule.executable_definition h) = executable_too fault h
  told_too fault (rule.schema_definition_collision h) = schema_too fault h
  told_too fault (rule.directive_definition_collision h) = directive_too fault h
  told_too fault (rule.type_definition_collision h) = type_too fault h
  told_too fault (rule.built_in_scalar_type_redefinition h) = scalar_too fault h
  told_too fault (rule.orphan_schema_extension h) = schema_extension_too fault h
  told_too fault (rule.orphan_type_extension h) = orphan_too fault h
  told_too fault (rule.type_extension_kind_mismatch h) = mismatch_too fault h
  told_too fault (rule.duplicate_root_operation h) = root_too fault h
  told_too fault (rule.duplicate_implements_interface_in_object h) = in_class (λ f g. rule.duplicate_implements_interface_in_object g) fault (interfaces_too kind.Object (λ x. x.place) rule.DuplicateImplementsInterfaceInObject fault h)
  told_too fault (rule.duplicate_implements_interface_in_interface h) = in_class (λ f g. rule.duplicate_implements_interface_in_interface g) fault (interfaces_too kind.Interface (λ x. x.place) rule.DuplicateImplementsInterfaceInInterface fault h)
  told_too fault (rule.object_field_name_collision h) = in_class (λ f g. rule.object_field_name_collision g) fault (fields_too kind.Object (λ x. x.place) rule.ObjectFieldNameCollision fault h)
  told_too fault (rule.interface_field_name_collision h) = in_class (λ f g. rule.interface_field_name_collision g) fault (fields_too kind.Interface (λ x. x.place) rule.InterfaceFieldNameCollision fault h)
  told_too fault (rule.enum_value_name_collision h) = in_class (λ f g. rule.enum_value_name_collision g) fault (values_too kind.Enum (λ x. x.place) rule.EnumValueNameCollision fault h)
  told_too fault (rule.union_member_name_collision h) = in_class (λ f g. rule.union_member_name_collision g) fault (members_too kind.Union (λ x. x.place) rule.UnionMemberNameCollision fault h)
  told_too fault (rule.input_field_name_collision h) = in_class (λ f g. rule.input_field_name_collision g) fault (inputs_too kind.InputObject (λ x. x.place) rule.InputFieldNameCollision fault h)

pub fail_alike : RearrangedFailAlike
fail_alike built_in i j ds es r fault h = told_too built_in i j ds es r fault h

pub keep_the_rules : RearrangedKeepTheRules
keep_the_rules built_in i j ds es r = (
  λ rules fault h. rules _ (told_too built_in j i es ds (turned ds es r) fault h).1.0,
  λ rules fault h. rules _ (told_too built_in i j ds es r fault h).1.0,
)
