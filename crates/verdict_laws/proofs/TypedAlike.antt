-- Typing reads nothing of places: of documents that are the same, apart from places, it keeps the same, and as many rules are broken.
use Rattle.std.proofs.Common.{◌≡◌, ℕ, Bool, true, false, not, ◌&&◌, List, [], ◌∷◌, ◌++◌, map, Option, None, Some, refl, sym, ap, subst, ◌∙◌, if◌then◌else◌, is_some, Contains, suc}
use Rattle.std.specs.Prelude.{fold, nat_lt, length}
use Rattle.std.specs.List.{filter}
use Rattle.std.specs.Option.{option_map, option_map_or}
use Rattle.std.proofs.lemmas.List.{map-append}
use Rattle.graphql_names.specs.Placed.{Text, unplaced_text}
use Rattle.tree_operations.specs.SelectionTree.{FieldHead, SelectionTree, FieldTree, SpreadTree, InlineTree, SelectionTrees, no_selections, selection_then, unplaced_head, unplaced_selection, unplaced_selections}
use Rattle.tree_operations.specs.OperationWritable.{has_selection}
use Rattle.tree_operations.specs.OperationTree as operations
use Rattle.tree_operations.specs.OperationTree.{OperationTree, FragmentTree}
use Rattle.tree_directives.specs.DirectiveTree.{Directives, unplaced_directives}
use Rattle.tree_definitions.specs.DefinitionTree as tree
use Rattle.tree_definitions.specs.DefinitionTree.{DefinitionTree, unplaced_definition}
use Rattle.rule_definitions.proofs.Lists.{Contains-first, not_in_nil}
use Rattle.rule_document_definitions.specs.FaultsUnplaced.{unplaced_breach}
use Rattle.spec_document.specs.MeantTree.{Definition, MeantSelection, MeantField, MeantInline, MeantOperation, MeantFragment, members, meant_then, meant_set, set_on}
use Rattle.spec_document.specs.Unplaced.{unplaced_meant, unplaced_set, unplaced_members, unplaced_operation, unplaced_fragment, unplaced_document}
use Rattle.document_typing.specs.Meanings.{Meanings, inner_type}
use Rattle.document_typing.specs.KeptSelections.{may_select, is_leaf, kept, kept_all}
use Rattle.document_typing.specs.KeptDocument.{meant_operation, meant_fragment, kept_document, is_operation}
use Rattle.document_typing.specs.TypingFaults as typing
use Rattle.document_typing.specs.TypingFaults.{TypingFault, typing_fault_at, TypingRules}
use Rattle.document_typing.specs.SetFaults.{leaf_faults, selection_faults, set_faults}
use Rattle.document_typing.specs.TypedDefinitions.{Typed, told, faults_if, based, is_under, on_root, with_anonymous, with_named, with_fragment, and_operation, and_fragment, and_definition, nothing, typed_in}
use Rattle.document_typing.proofs.KeptFirsts.{under-made, is_some-made}
use Rattle.document_typing.proofs.Turns.{typed-is}
use Rattle.document_typing.proofs.DocumentFailures.{document-fails}

abbrev unplaced_fault : {P : Type 0} → TypingFault P → TypingFault (Unit {0})
unplaced_fault f = typing_fault_at tt (unplaced_breach f.breach)

-- ---- selections

has_same : {P : Type 0} (ts : SelectionTrees P) → has_selection ts ≡ has_selection (unplaced_selections ts)
has_same no_selections = refl
has_same (selection_then s ss) = refl

members_same : {P : Type 0} (xs : List (MeantSelection P)) → unplaced_members (members xs) ≡ members (map unplaced_meant xs)
members_same [] = refl
members_same (x ∷ xs) = ap (meant_then (unplaced_meant x)) (members_same xs)

none_in : {A : Type 0} (xs : List A) → ((x : A) → Contains xs x → ⊥) → xs ≡ []
none_in [] h = refl
none_in (x ∷ xs) h = absurd (h x (Contains-first x xs x refl))

none_mapped : {A B : Type 0} (f : A → B) (xs : List A) → map f xs ≡ [] → xs ≡ []
none_mapped f [] e = refl
none_mapped f (x ∷ xs) e = absurd cc

module _ (m : Meanings) where
  -- what is kept of a field by its definition, and what is told of it
  abbrev field_if : {Q : Type 0} → Q → FieldHead Q → SelectionTrees Q → Definition → Bool → List (MeantSelection Q)
  field_if p h ts d b = if b then MeantField p d h (set_on (inner_type d) (kept_all m ts (inner_type d))) ∷ [] else []

  abbrev field_by : {Q : Type 0} → Q → FieldHead Q → SelectionTrees Q → Option Definition → List (MeantSelection Q)
  field_by p h ts o = option_map_or (λ d. field_if p h ts d (may_select m (inner_type d) ts)) o []

  abbrev told_if : {Q : Type 0} → Q → SelectionTrees Q → Definition → Bool → List (TypingFault Q)
  told_if p ts d b = if b then set_faults m ts (inner_type d) else leaf_faults m p (inner_type d)

  abbrev told_by : {Q : Type 0} → Q → FieldHead Q → SelectionTrees Q → List ℕ → Option Definition → List (TypingFault Q)
  told_by p h ts t o = option_map_or (λ d. told_if p ts d (may_select m (inner_type d) ts)) o (typing_fault_at p (typing.UndefinedField t h.name.it) ∷ [])

module _ {P : Type 0} (m : Meanings) where
  may_same : (t : List ℕ) (ts : SelectionTrees P) → may_select m t ts ≡ may_select m t (unplaced_selections ts)
  may_same t ts = λ i. not (has_same ts i && is_leaf m t)

  -- what is kept, what is told of these on any type is the same
  abbrev KeptSame : SelectionTrees P → Type 0
  KeptSame ts = (t : List ℕ) → map unplaced_meant (kept_all m ts t) ≡ kept_all m (unplaced_selections ts) t

  abbrev ToldSame : SelectionTrees P → Type 0
  ToldSame ts = (t : List ℕ) → map unplaced_fault (set_faults m ts t) ≡ set_faults m (unplaced_selections ts) t

  set_same : (ts : SelectionTrees P) → KeptSame ts → (t : List ℕ) → unplaced_set (set_on t (kept_all m ts t)) ≡ set_on t (kept_all m (unplaced_selections ts) t)
  set_same ts same t = ap (meant_set t) (members_same (kept_all m ts t) ∙ ap members (same t))

  field_same : (p : P) (h : FieldHead P) (ts : SelectionTrees P) → KeptSame ts → (o : Option Definition) → map unplaced_meant (field_by m p h ts o) ≡ field_by m tt (unplaced_head h) (unplaced_selections ts) o
  field_same p h ts same None = refl
  field_same p h ts same (Some d) = by (may_select m (inner_type d) ts) ∙ ap (field_if m tt (unplaced_head h) (unplaced_selections ts) d) (may_same (inner_type d) ts)
    where
      by : (b : Bool) → map unplaced_meant (field_if m p h ts d b) ≡ field_if m tt (unplaced_head h) (unplaced_selections ts) d b
      by true = λ i. MeantField tt d (unplaced_head h) (set_same ts same (inner_type d) i) ∷ []
      by false = refl

  inline_same : (p : P) (c : Text P) (ds : Directives P) (ts : SelectionTrees P) → KeptSame ts → (b : Bool)
      → map unplaced_meant (if b then MeantInline p (Some c) ds (set_on c.it (kept_all m ts c.it)) ∷ [] else [])
      ≡ (if b then MeantInline tt (Some (unplaced_text c)) (unplaced_directives ds) (set_on c.it (kept_all m (unplaced_selections ts) c.it)) ∷ [] else [])
  inline_same p c ds ts same true = λ i. MeantInline tt (Some (unplaced_text c)) (unplaced_directives ds) (set_same ts same c.it i) ∷ []
  inline_same p c ds ts same false = refl

  mutual
    kept_same : (s : SelectionTree P) (t : List ℕ) → map unplaced_meant (kept m s t) ≡ kept m (unplaced_selection s) t
    kept_same (FieldTree p h ts) t = field_same p h ts (kept_all_same ts) (m.field t h.name.it)
    kept_same (SpreadTree p n ds) t = refl
    kept_same (InlineTree p None ds ts) t = λ i. MeantInline tt None (unplaced_directives ds) (set_same ts (kept_all_same ts) t i) ∷ []
    kept_same (InlineTree p (Some c) ds ts) t = inline_same p c ds ts (kept_all_same ts) (m.has_type c.it)

    kept_all_same : (ts : SelectionTrees P) → KeptSame ts
    kept_all_same no_selections t = refl
    kept_all_same (selection_then s ss) t = map-append unplaced_meant (kept m s t) (kept_all m ss t) ∙ (λ i. kept_same s t i ++ kept_all_same ss t i)

  -- ---- what is told of them

  if_same : (b : Bool) (f : TypingFault P) → map unplaced_fault (if b then f ∷ [] else []) ≡ (if b then unplaced_fault f ∷ [] else [])
  if_same true f = refl
  if_same false f = refl

  leaf_same : (p : P) (t : List ℕ) → map unplaced_fault (leaf_faults m p t) ≡ leaf_faults m tt t
  leaf_same p t =
      map-append unplaced_fault (if m.is_scalar t then typing_fault_at p (typing.SubselectionOnScalarType t) ∷ [] else []) (if m.is_enum t then typing_fault_at p (typing.SubselectionOnEnumType t) ∷ [] else [])
      ∙ (λ i. if_same (m.is_scalar t) (typing_fault_at p (typing.SubselectionOnScalarType t)) i ++ if_same (m.is_enum t) (typing_fault_at p (typing.SubselectionOnEnumType t)) i)

  field_told : (p : P) (h : FieldHead P) (ts : SelectionTrees P) (t : List ℕ) → ToldSame ts → (o : Option Definition) → map unplaced_fault (told_by m p h ts t o) ≡ told_by m tt (unplaced_head h) (unplaced_selections ts) t o
  field_told p h ts t same None = refl
  field_told p h ts t same (Some d) = by (may_select m (inner_type d) ts) ∙ ap (told_if m tt (unplaced_selections ts) d) (may_same (inner_type d) ts)
    where
      by : (b : Bool) → map unplaced_fault (told_if m p ts d b) ≡ told_if m tt (unplaced_selections ts) d b
      by true = same (inner_type d)
      by false = leaf_same p (inner_type d)

  inline_told : (p : P) (n : List ℕ) (ts : SelectionTrees P) → ToldSame ts → (b : Bool)
      → map unplaced_fault (if b then set_faults m ts n else typing_fault_at p (typing.UndefinedTypeInInlineFragmentTypeCondition n) ∷ [])
      ≡ (if b then set_faults m (unplaced_selections ts) n else typing_fault_at tt (typing.UndefinedTypeInInlineFragmentTypeCondition n) ∷ [])
  inline_told p n ts same true = same n
  inline_told p n ts same false = refl

  mutual
    selection_told : (s : SelectionTree P) (t : List ℕ) → map unplaced_fault (selection_faults m s t) ≡ selection_faults m (unplaced_selection s) t
    selection_told (FieldTree p h ts) t = field_told p h ts t (set_told ts) (m.field t h.name.it)
    selection_told (SpreadTree p n ds) t = refl
    selection_told (InlineTree p None ds ts) t = set_told ts t
    selection_told (InlineTree p (Some c) ds ts) t = inline_told p c.it ts (set_told ts) (m.has_type c.it)

    set_told : (ts : SelectionTrees P) → ToldSame ts
    set_told no_selections t = refl
    set_told (selection_then s ss) t = map-append unplaced_fault (selection_faults m s t) (set_faults m ss t) ∙ (λ i. selection_told s t i ++ set_told ss t i)

  -- ---- definitions

  operation_same : (p : P) (t : List ℕ) (o : OperationTree P) → unplaced_operation (meant_operation m (based p t o)) ≡ meant_operation m (based tt t (operations.unplaced_operation o))
  operation_same p t o = λ i. record {
    place = tt;
    operation_type = o.operation_type;
    name = option_map unplaced_text o.name;
    variables = (operations.unplaced_operation o).variables;
    directives = unplaced_directives o.directives;
    set = set_same o.selections (kept_all_same o.selections) t i;
  }

  fragment_same : (p : P) (f : FragmentTree P) → unplaced_fragment (meant_fragment m (record { place = p; base = f.type_condition.it; it = f })) ≡ meant_fragment m (record { place = tt; base = f.type_condition.it; it = operations.unplaced_fragment f })
  fragment_same p f = λ i. record {
    place = tt;
    name = unplaced_text f.name;
    type_condition = unplaced_text f.type_condition;
    directives = unplaced_directives f.directives;
    set = set_same f.selections (kept_all_same f.selections) f.type_condition.it i;
  }

  -- what is kept and told, without places
  abbrev bare : Typed P → Typed (Unit {0})
  bare st = record { document = unplaced_document st.document; faults = map unplaced_fault st.faults }

  told_same : (fs : List (TypingFault P)) (st : Typed P) → bare (told fs st) ≡ told (map unplaced_fault fs) (bare st)
  told_same fs st = λ i. record { document = unplaced_document st.document; faults = map-append unplaced_fault st.faults fs i }

  told_if_same : (b : Bool) (f : TypingFault P) (st : Typed P) → bare (told (faults_if b f) st) ≡ told (faults_if b (unplaced_fault f)) (bare st)
  told_if_same b f st = told_same (faults_if b f) st ∙ ap (λ fs. told fs (bare st)) (if_same b f)

  either : (b : Bool) (st : Typed P) (other : Typed P) → bare (if b then st else other) ≡ (if b then bare st else bare other)
  either true st other = refl
  either false st other = refl

  anonymous_same : (p : P) (o : OperationTree P) (t : List ℕ) (st : Typed P) → bare (with_anonymous m p o t st) ≡ with_anonymous m tt (operations.unplaced_operation o) t (bare st)
  anonymous_same p o t st =
      either (is_some st.document.anonymous) st (record { document = record st.document { anonymous = Some (meant_operation m (based p t o)) }; faults = st.faults ++ set_faults m o.selections t })
      ∙ (λ i. if sym (is_some-made unplaced_operation st.document.anonymous) i then bare st else record {
        document = record {
          anonymous = Some (operation_same p t o i);
          named = map (λ e. (e.0, unplaced_operation e.1)) st.document.named;
          fragments = map (λ e. (e.0, unplaced_fragment e.1)) st.document.fragments;
        };
        faults = (map-append unplaced_fault st.faults (set_faults m o.selections t) ∙ ap (λ fs. map unplaced_fault st.faults ++ fs) (set_told o.selections t)) i;
      })

  named_same : (p : P) (o : OperationTree P) (n t : List ℕ) (st : Typed P) → bare (with_named m p o n t st) ≡ with_named m tt (operations.unplaced_operation o) n t (bare st)
  named_same p o n t st =
      either (is_under n st.document.named) st (record { document = record st.document { named = st.document.named ++ (n, meant_operation m (based p t o)) ∷ [] }; faults = st.faults ++ set_faults m o.selections t })
      ∙ (λ i. if sym (under-made (λ (e : List ℕ × MeantOperation P). e.0) (λ e. unplaced_operation e.1) n st.document.named) i then bare st else record {
        document = record {
          anonymous = option_map unplaced_operation st.document.anonymous;
          named = (map-append (λ (e : List ℕ × MeantOperation P). (e.0, unplaced_operation e.1)) st.document.named ((n, meant_operation m (based p t o)) ∷ [])
              ∙ ap (λ x. map (λ (e : List ℕ × MeantOperation P). (e.0, unplaced_operation e.1)) st.document.named ++ (n, x) ∷ []) (operation_same p t o)) i;
          fragments = map (λ e. (e.0, unplaced_fragment e.1)) st.document.fragments;
        };
        faults = (map-append unplaced_fault st.faults (set_faults m o.selections t) ∙ ap (λ fs. map unplaced_fault st.faults ++ fs) (set_told o.selections t)) i;
      })

  with_fragment_same : (p : P) (f : FragmentTree P) (st : Typed P) → bare (with_fragment m p f st) ≡ with_fragment m tt (operations.unplaced_fragment f) (bare st)
  with_fragment_same p f st =
      either (is_under f.name.it st.document.fragments) st (record {
        document = record st.document { fragments = st.document.fragments ++ (f.name.it, meant_fragment m (record { place = p; base = f.type_condition.it; it = f })) ∷ [] };
        faults = st.faults ++ set_faults m f.selections f.type_condition.it;
      })
      ∙ (λ i. if sym (under-made (λ (e : List ℕ × MeantFragment P). e.0) (λ e. unplaced_fragment e.1) f.name.it st.document.fragments) i then bare st else record {
        document = record {
          anonymous = option_map unplaced_operation st.document.anonymous;
          named = map (λ e. (e.0, unplaced_operation e.1)) st.document.named;
          fragments = (map-append (λ (e : List ℕ × MeantFragment P). (e.0, unplaced_fragment e.1)) st.document.fragments ((f.name.it, meant_fragment m (record { place = p; base = f.type_condition.it; it = f })) ∷ [])
              ∙ ap (λ x. map (λ (e : List ℕ × MeantFragment P). (e.0, unplaced_fragment e.1)) st.document.fragments ++ (f.name.it, x) ∷ []) (fragment_same p f)) i;
        };
        faults = (map-append unplaced_fault st.faults (set_faults m f.selections f.type_condition.it) ∙ ap (λ fs. map unplaced_fault st.faults ++ fs) (set_told f.selections f.type_condition.it)) i;
      })

  root_same : (p : P) (o : OperationTree P) (f : List ℕ → Typed P → Typed P) (g : List ℕ → Typed (Unit {0}) → Typed (Unit {0})) → ((t : List ℕ) (st : Typed P) → bare (f t st) ≡ g t (bare st))
      → (st : Typed P) → bare (on_root m p o f st) ≡ on_root m tt (operations.unplaced_operation o) g (bare st)
  root_same p o f g same st = by (m.root o.operation_type)
    where
      by : (r : Option (List ℕ)) → bare (option_map_or (λ t. f t st) r (told (typing_fault_at p (typing.UndefinedRootOperation o.operation_type) ∷ []) st)) ≡ option_map_or (λ t. g t (bare st)) r (told (typing_fault_at tt (typing.UndefinedRootOperation o.operation_type) ∷ []) (bare st))
      by None = told_same (typing_fault_at p (typing.UndefinedRootOperation o.operation_type) ∷ []) st
      by (Some t) = same t st

  and_operation_same : (beside : Bool) (p : P) (o : OperationTree P) (n : Option (Text P)) (st : Typed P) → bare (and_operation m beside p o n st) ≡ and_operation m beside tt (operations.unplaced_operation o) (option_map unplaced_text n) (bare st)
  and_operation_same beside p o None st =
      root_same p o (with_anonymous m p o) (with_anonymous m tt (operations.unplaced_operation o)) (anonymous_same p o) (told (faults_if beside (typing_fault_at p typing.AmbiguousAnonymousOperation)) st)
      ∙ ap (on_root m tt (operations.unplaced_operation o) (with_anonymous m tt (operations.unplaced_operation o))) (told_if_same beside (typing_fault_at p typing.AmbiguousAnonymousOperation) st)
  and_operation_same beside p o (Some n) st =
      root_same p o (with_named m p o n.it) (with_named m tt (operations.unplaced_operation o) n.it) (named_same p o n.it) (told (faults_if (is_under n.it st.document.named) (typing_fault_at p (typing.OperationNameCollision n.it))) st)
      ∙ ap (on_root m tt (operations.unplaced_operation o) (with_named m tt (operations.unplaced_operation o) n.it))
      (told_if_same (is_under n.it st.document.named) (typing_fault_at p (typing.OperationNameCollision n.it)) st
      ∙ ap (λ b. told (faults_if b (typing_fault_at tt (typing.OperationNameCollision n.it))) (bare st)) (sym (under-made (λ (e : List ℕ × MeantOperation P). e.0) (λ e. unplaced_operation e.1) n.it st.document.named)))

  and_fragment_same : (p : P) (f : FragmentTree P) (st : Typed P) → bare (and_fragment m p f st) ≡ and_fragment m tt (operations.unplaced_fragment f) (bare st)
  and_fragment_same p f st =
      by (m.has_type f.type_condition.it) (told (faults_if (is_under f.name.it st.document.fragments) (typing_fault_at p (typing.FragmentNameCollision f.name.it))) st)
      ∙ ap (after (m.has_type f.type_condition.it))
      (told_if_same (is_under f.name.it st.document.fragments) (typing_fault_at p (typing.FragmentNameCollision f.name.it)) st
      ∙ ap (λ b. told (faults_if b (typing_fault_at tt (typing.FragmentNameCollision f.name.it))) (bare st)) (sym (under-made (λ (e : List ℕ × MeantFragment P). e.0) (λ e. unplaced_fragment e.1) f.name.it st.document.fragments)))
    where
      after : Bool → Typed (Unit {0}) → Typed (Unit {0})
      after b st' = if b then with_fragment m tt (operations.unplaced_fragment f) st' else told (typing_fault_at tt (typing.UndefinedTypeInNamedFragmentTypeCondition f.type_condition.it) ∷ []) st'

      by : (b : Bool) (old : Typed P) → bare (if b then with_fragment m p f old else told (typing_fault_at p (typing.UndefinedTypeInNamedFragmentTypeCondition f.type_condition.it) ∷ []) old) ≡ after b (bare old)
      by true old = with_fragment_same p f old
      by false old = told_same (typing_fault_at p (typing.UndefinedTypeInNamedFragmentTypeCondition f.type_condition.it) ∷ []) old

  definition_same : (beside : Bool) (st : Typed P) (d : DefinitionTree P) → bare (and_definition m beside st d) ≡ and_definition m beside (bare st) (unplaced_definition d)
  definition_same beside st (tree.Operation p o) = and_operation_same beside p o o.name st
  definition_same beside st (tree.Fragment p f) = and_fragment_same p f st
  definition_same beside st (tree.DirectiveDefinition p x) = told_same (typing_fault_at p typing.TypeSystemDefinition ∷ []) st
  definition_same beside st (tree.Schema p d x) = told_same (typing_fault_at p typing.TypeSystemDefinition ∷ []) st
  definition_same beside st (tree.ScalarType p d x) = told_same (typing_fault_at p typing.TypeSystemDefinition ∷ []) st
  definition_same beside st (tree.ObjectType p d x) = told_same (typing_fault_at p typing.TypeSystemDefinition ∷ []) st
  definition_same beside st (tree.InterfaceType p d x) = told_same (typing_fault_at p typing.TypeSystemDefinition ∷ []) st
  definition_same beside st (tree.UnionType p d x) = told_same (typing_fault_at p typing.TypeSystemDefinition ∷ []) st
  definition_same beside st (tree.EnumType p d x) = told_same (typing_fault_at p typing.TypeSystemDefinition ∷ []) st
  definition_same beside st (tree.InputObjectType p d x) = told_same (typing_fault_at p typing.TypeSystemDefinition ∷ []) st
  definition_same beside st (tree.ExtendSchema p x) = told_same (typing_fault_at p typing.TypeSystemDefinition ∷ []) st
  definition_same beside st (tree.ExtendScalar p x) = told_same (typing_fault_at p typing.TypeSystemDefinition ∷ []) st
  definition_same beside st (tree.ExtendObject p x) = told_same (typing_fault_at p typing.TypeSystemDefinition ∷ []) st
  definition_same beside st (tree.ExtendInterface p x) = told_same (typing_fault_at p typing.TypeSystemDefinition ∷ []) st
  definition_same beside st (tree.ExtendUnion p x) = told_same (typing_fault_at p typing.TypeSystemDefinition ∷ []) st
  definition_same beside st (tree.ExtendEnum p x) = told_same (typing_fault_at p typing.TypeSystemDefinition ∷ []) st
  definition_same beside st (tree.ExtendInputObject p x) = told_same (typing_fault_at p typing.TypeSystemDefinition ∷ []) st

  -- ---- documents

  definitions_same : (beside : Bool) (ds : List (DefinitionTree P)) (st : Typed P) → bare (fold (and_definition m beside) st ds) ≡ fold (and_definition m beside) (bare st) (map unplaced_definition ds)
  definitions_same beside [] st = refl
  definitions_same beside (d ∷ ds) st =
      definitions_same beside ds (and_definition m beside st d) ∙ ap (λ z. fold (and_definition m beside) z (map unplaced_definition ds)) (definition_same beside st d)

  is_operation_same : (d : DefinitionTree P) → is_operation d ≡ is_operation (unplaced_definition d)
  is_operation_same (tree.Operation p o) = refl
  is_operation_same _ = refl

  count_same : (ds : List (DefinitionTree P)) → length (filter is_operation ds) ≡ length (filter is_operation (map unplaced_definition ds))
  count_same [] = refl
  count_same (d ∷ ds) = by (is_operation d) (count_same ds) ∙ ap (λ b. length (if b then unplaced_definition d ∷ filter is_operation (map unplaced_definition ds) else filter is_operation (map unplaced_definition ds))) (is_operation_same d)
    where
      by : (b : Bool) → length (filter is_operation ds) ≡ length (filter is_operation (map unplaced_definition ds))
          → length (if b then d ∷ filter is_operation ds else filter is_operation ds) ≡ length (if b then unplaced_definition d ∷ filter is_operation (map unplaced_definition ds) else filter is_operation (map unplaced_definition ds))
      by true e = ap (λ n. suc n) e
      by false e = e

  typed_same : (ds : List (DefinitionTree P)) → bare (typed_in m ds) ≡ typed_in m (map unplaced_definition ds)
  typed_same ds =
      definitions_same (nat_lt 1 (length (filter is_operation ds))) ds nothing
      ∙ ap (λ n. fold (and_definition m (nat_lt 1 n)) nothing (map unplaced_definition ds)) (count_same ds)

  -- what is kept of a document is the same, apart from places
  pub kept_document_same : (ds : List (DefinitionTree P)) → unplaced_document (kept_document m ds) ≡ kept_document m (map unplaced_definition ds)
  kept_document_same ds =
      ap (λ (t : Typed P). unplaced_document t.document) (sym (typed-is m ds))
      ∙ ap (λ (t : Typed (Unit {0})). t.document) (typed_same ds)
      ∙ ap (λ (t : Typed (Unit {0})). t.document) (typed-is m (map unplaced_definition ds))

  -- ---- the rules

  -- no rule of typing is broken in the one if none is in the other
  pub rules_same : (ds es : List (DefinitionTree P)) → map unplaced_definition ds ≡ map unplaced_definition es → TypingRules m ds → TypingRules m es
  rules_same ds es same rules f fails =
      let none : (typed_in m ds).faults ≡ [] = none_in (typed_in m ds).faults (λ g c. rules g ((document-fails m ds g).0 c)) in
      let faults : map unplaced_fault (typed_in m es).faults ≡ map unplaced_fault (typed_in m ds).faults
      = ap (λ (t : Typed (Unit {0})). t.faults) (typed_same es ∙ ap (typed_in m) (sym same) ∙ sym (typed_same ds)) in
      let other : (typed_in m es).faults ≡ [] = none_mapped unplaced_fault (typed_in m es).faults (faults ∙ ap (map unplaced_fault) none) in
      not_in_nil f (subst (λ l. Contains l f) other ((document-fails m es f).1 fails))
