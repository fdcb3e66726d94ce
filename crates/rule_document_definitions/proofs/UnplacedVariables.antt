-- What rules on variables tell of an operation without places.
use Rattle.std.proofs.Common.{◌≡◌, ◌↔◌, ℕ, true, false, List, [], map, refl, sym, subst, None}
use Rattle.std.specs.Option.{option_map}
use Rattle.tree_literals.specs.TypeTree.{TypeTree, unplaced_type}
use Rattle.tree_literals.specs.TypeQueries.{inner_name}
use Rattle.tree_literals.specs.ValueTree.{ValueTree, ItemTrees, EntryTrees, NullTree, EnumTree, VariableTree, StringTree, FloatTree, IntTree, BooleanTree, ListTree, ObjectTree, no_items, item_then, no_entries, entry_then, unplaced_value, unplaced_items, unplaced_entries}
use Rattle.tree_directives.specs.DirectiveTree.{Arguments, Directives}
use Rattle.tree_directives.specs.declared.directive_location.DirectiveLocation.TheVariants as location
use Rattle.rule_definitions.specs.in_schema_types.SchemaTree.{kind_words, is_input_kind}
use Rattle.spec_document.specs.MeantTree.{MeantSelection, MeantField, MeantSpread, MeantInline, MeantOperation, MeantDocument}
use Rattle.spec_document.specs.Unplaced.{unplaced_meant, unplaced_operation, unplaced_fragment, unplaced_document}
use Rattle.rule_definitions.specs.Diagnostics.{UndefinedDefinition, VariableInputType, UnusedVariable}
use Rattle.rule_definitions.specs.Words.{Present}
use Rattle.rule_definitions.specs.Faults.{wrong}
use Rattle.rule_definitions.specs.Judged.{Judged}
use Rattle.rule_definitions.specs.Names.{defined_name}
use Rattle.rule_definitions.specs.Values.{ValueBreaks}
use Rattle.rule_document_definitions.specs.Places.{Places}
use Rattle.rule_document_definitions.specs.Verdict.{no_places}
use Rattle.rule_document_definitions.specs.Selected.{Standing, as_field, selection_directives}
use Rattle.rule_document_definitions.specs.Reached.{Reached, ReachesFragment}
use Rattle.rule_document_definitions.specs.UsedVariables.{IsInValue, IsInItems, IsInEntries, IsInArguments, IsInDirectives, IsInSelection, IsUsedIn, wanted_by}
use Rattle.rule_document_definitions.specs.Variables.{UniqueVariableAt, UniqueDefaultKeyAt, UnusedVariableAt, UndefinedVariableTypeAt, VariableInputTypeAt, DefaultValueBreaks, VariableDirectivesBreak, VariablesBreak}
use Rattle.rule_document_definitions.proofs.Unplaced.{unplaced_standing, unplaced_field, field_same, reached_without_places, reached_with_places}
use Rattle.rule_document_definitions.proofs.Moves.{same, either_way, neither, same_present, same_among, same_index, Moves, moves_among, moves_either, moves_where, moves_same, moves_present, moves_index, moves_repeats}
use Rattle.rule_document_definitions.proofs.UnplacedValues.{bare_value, bare_variable, Bared, Moved, moves_wrong, type_twice, unique_input_value_bared, value_bared}
use Rattle.rule_document_definitions.proofs.UnplacedUses.{bare_argument, bare_directive, uses_bared}
use Rattle.rule_document_definitions.proofs.UnplacedReached.{reaches_without_places, reaches_with_places}

-- ---- heads

-- there is always a place from one place to another
abbrev pub HasSpans : {P : Type 0} → Places P → Type 0
HasSpans {P} places = (from to : P) → (whole : P) × places.Spans from to whole

-- of what reaches from one place to another
pub moves_span : {A B P : Type 0} (Is : A → B → Type 0) (places : Places P) → HasSpans places → (from to : P) (R : P → A → Type 0) (S : B → Type 0) → ((head : P) → Moves Is (R head) S)
    → Moves Is (λ g. (head : P) × (places.Spans from to head × R head g)) (λ f. (head : Unit {0}) × (Unit {0} × S f))
moves_span {P = P} Is places spans from to R S each =
    moves_among Is {X = P} {Y = Unit {0}} (λ p. tt) (places.Spans from to) (λ w. Unit {0}) (λ p h. tt) (λ w h. ((spans from to).0, ((spans from to).1, refl))) R (λ w. S) (λ p h. each p)

-- ---- where variables stand

module _ {P : Type 0} where
  pub directives_same : (s : MeantSelection P) → selection_directives (unplaced_meant s) ≡ map bare_directive (selection_directives s)
  directives_same (MeantField p d h s) = refl
  directives_same (MeantSpread p n ds) = refl
  directives_same (MeantInline p c ds s) = refl

module _ {P : Type 0} (n : List ℕ) where
  mutual
    in_value : (v : ValueTree P) → IsInValue n v ↔ IsInValue n (unplaced_value v)
    in_value NullTree = same
    in_value (EnumTree m) = same
    in_value (VariableTree v) = same
    in_value (StringTree s) = same
    in_value (FloatTree s) = same
    in_value (IntTree s) = same
    in_value (BooleanTree b) = same
    in_value (ListTree ts) = in_items ts
    in_value (ObjectTree es) = in_entries es

    in_items : (ts : ItemTrees P) → IsInItems n ts ↔ IsInItems n (unplaced_items ts)
    in_items no_items = same
    in_items (item_then p v ts) = either_way (in_value v) (in_items ts)

    in_entries : (es : EntryTrees P) → IsInEntries n es ↔ IsInEntries n (unplaced_entries es)
    in_entries no_entries = same
    in_entries (entry_then k p v es) = either_way (in_value v) (in_entries es)

  in_arguments : (given : Arguments P) → IsInArguments n given ↔ IsInArguments n (map bare_argument given)
  in_arguments given = same_index bare_argument given _ _ (λ i a. in_value a.it.value.it)

  in_directives : (ds : Directives P) → IsInDirectives n ds ↔ IsInDirectives n (map bare_directive ds)
  in_directives ds = same_index bare_directive ds _ _ (λ i e. in_arguments e.it.arguments)

  in_selection : (x : Standing P) → IsInSelection n x ↔ IsInSelection n (unplaced_standing x)
  in_selection x = either_way
      (subst (λ l. IsInDirectives n (selection_directives x.it) ↔ IsInDirectives n l) (sym (directives_same x.it)) (in_directives (selection_directives x.it)))
      (same_present unplaced_field (as_field x) (as_field (unplaced_standing x)) (field_same x.position x.parent x.it) _ _ (λ f. in_arguments f.head.arguments))

  -- a variable is used where it is without places
  used_same : (d : MeantDocument P) (o : MeantOperation P) → IsUsedIn n d o ↔ IsUsedIn n (unplaced_document d) (unplaced_operation o)
  used_same d o = either_way (in_directives o.directives) (either_way
      (same_among unplaced_standing (Reached d o) (Reached (unplaced_document d) (unplaced_operation o)) (reached_without_places d o) (reached_with_places d o) (IsInSelection n) (IsInSelection n) in_selection)
      (same_among unplaced_fragment (ReachesFragment d o) (ReachesFragment (unplaced_document d) (unplaced_operation o)) (reaches_without_places d o) (reaches_with_places d o)
      (λ f. IsInDirectives n f.directives) (λ f. IsInDirectives n f.directives) (λ f. in_directives f.directives)))

-- ---- rules

-- whether it is an input type does not change with its places
input_bared : (s : Judged) (t u : TypeTree (Unit {0})) → u ≡ t → Present (s.type_named (inner_name t).it) (λ l. is_input_kind l.kind ≡ true) ↔ Present (s.type_named (inner_name u).it) (λ l. is_input_kind l.kind ≡ true)
input_bared s t u e = subst (λ v. Present (s.type_named (inner_name t).it) (λ l. is_input_kind l.kind ≡ true) ↔ Present (s.type_named (inner_name v).it) (λ l. is_input_kind l.kind ≡ true)) (sym e) same

module _ {P E : Type 0} (places : Places P) (d : MeantDocument P) (o : MeantOperation P) where
  pub unique_variable_bared : Moved {E = E} (UniqueVariableAt o) (UniqueVariableAt (unplaced_operation o))
  unique_variable_bared = moves_repeats Bared bare_variable defined_name o.variables _ _ (λ i first j later. moves_wrong later.place _)

  pub default_key_bared : Moved {E = E} (UniqueDefaultKeyAt o) (UniqueDefaultKeyAt (unplaced_operation o))
  default_key_bared =
      moves_index Bared bare_variable o.variables (map bare_variable o.variables) refl _ _ (λ i x.
      moves_present Bared bare_value x.it.default_value (option_map bare_value x.it.default_value) refl _ _ (λ v. unique_input_value_bared v.it))

  pub unused_variable_bared : HasSpans places → Moved {E = E} (λ g. UnusedVariableAt o g places d) (λ f. UnusedVariableAt (unplaced_operation o) f no_places (unplaced_document d))
  unused_variable_bared spans =
      moves_index Bared bare_variable o.variables (map bare_variable o.variables) refl _ _ (λ i x.
      moves_where Bared (neither (used_same (defined_name x) d o))
      (moves_span Bared places spans x.place x.it.name.place (λ head g. g ≡ wrong head (UnusedVariable (defined_name x))) (λ f. f ≡ wrong tt (UnusedVariable (defined_name x))) (λ head. moves_wrong head (UnusedVariable (defined_name x)))))

  module _ (s : Judged) where
    type_bared : (n : List ℕ) (place : P) (t u : TypeTree (Unit {0})) → u ≡ t → Moved {E = E}
        (λ g. Present (s.type_named (inner_name t).it) (λ l. (is_input_kind l.kind ≡ false) × (g ≡ wrong place (VariableInputType n t (kind_words l.kind)))))
        (λ f. Present (s.type_named (inner_name u).it) (λ l. (is_input_kind l.kind ≡ false) × (f ≡ wrong tt (VariableInputType n u (kind_words l.kind)))))
    type_bared n place t u e = subst (λ v. Moved {E = E}
        (λ g. Present (s.type_named (inner_name t).it) (λ l. (is_input_kind l.kind ≡ false) × (g ≡ wrong place (VariableInputType n t (kind_words l.kind)))))
        (λ f. Present (s.type_named (inner_name v).it) (λ l. (is_input_kind l.kind ≡ false) × (f ≡ wrong tt (VariableInputType n v (kind_words l.kind)))))) (sym e)
        (moves_same Bared (s.type_named (inner_name t).it) _ _ (λ l. moves_where Bared same (moves_wrong place _)))

    name_bared : (place : P) (t u : TypeTree (Unit {0})) → u ≡ t → Moved {E = E}
        (λ g. (s.type_named (inner_name t).it ≡ None) × (g ≡ wrong place (UndefinedDefinition (inner_name t).it)))
        (λ f. (s.type_named (inner_name u).it ≡ None) × (f ≡ wrong tt (UndefinedDefinition (inner_name u).it)))
    name_bared place t u e = subst (λ v. Moved {E = E}
        (λ g. (s.type_named (inner_name t).it ≡ None) × (g ≡ wrong place (UndefinedDefinition (inner_name t).it)))
        (λ f. (s.type_named (inner_name v).it ≡ None) × (f ≡ wrong tt (UndefinedDefinition (inner_name v).it)))) (sym e)
        (moves_where Bared same (moves_wrong place _))

    undefined_type_bared : Moved {E = E} (UndefinedVariableTypeAt s o) (UndefinedVariableTypeAt s (unplaced_operation o))
    undefined_type_bared =
        moves_index Bared bare_variable o.variables (map bare_variable o.variables) refl _ _ (λ i x.
        name_bared x.place (unplaced_type x.it.ty.it) (unplaced_type (unplaced_type x.it.ty.it)) (type_twice x.it.ty.it))

    input_type_bared : Moved {E = E} (VariableInputTypeAt s o) (VariableInputTypeAt s (unplaced_operation o))
    input_type_bared =
        moves_index Bared bare_variable o.variables (map bare_variable o.variables) refl _ _ (λ i x.
        type_bared (defined_name x) x.place (unplaced_type x.it.ty.it) (unplaced_type (unplaced_type x.it.ty.it)) (type_twice x.it.ty.it))

    default_value_bared : Moved {E = E} (λ g. DefaultValueBreaks s o g places) (λ f. DefaultValueBreaks s (unplaced_operation o) f no_places)
    default_value_bared =
        moves_index Bared bare_variable o.variables (map bare_variable o.variables) refl _ _ (λ i x.
        moves_where Bared (input_bared s (unplaced_type x.it.ty.it) (unplaced_type (unplaced_type x.it.ty.it)) (type_twice x.it.ty.it))
        (moves_present Bared bare_value x.it.default_value (option_map bare_value x.it.default_value) refl _ _ (λ v.
        subst (λ t. Moved {E = E} (ValueBreaks places.at s [] (wanted_by x.it) v.place v.it) (ValueBreaks (λ a. tt) s [] (record { it = t; place = tt }) tt (unplaced_value v.it))) (sym (type_twice x.it.ty.it))
        (value_bared [] places.at s (wanted_by x.it) v.place v.it))))

    variable_directives_bared : Moved {E = E} (λ g. VariableDirectivesBreak s o g places) (λ f. VariableDirectivesBreak s (unplaced_operation o) f no_places)
    variable_directives_bared =
        moves_index Bared bare_variable o.variables (map bare_variable o.variables) refl _ _ (λ i x.
        uses_bared places.at s [] location.VariableDefinition x.it.directives)

    pub variables_bared : HasSpans places → Moved {E = E} (VariablesBreak places s d o) (VariablesBreak no_places s (unplaced_document d) (unplaced_operation o))
    variables_bared spans =
        moves_either Bared unique_variable_bared
        (moves_either Bared default_key_bared
        (moves_either Bared (unused_variable_bared spans)
        (moves_either Bared undefined_type_bared
        (moves_either Bared input_type_bared
        (moves_either Bared default_value_bared variable_directives_bared)))))
