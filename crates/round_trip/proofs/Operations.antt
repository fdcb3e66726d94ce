-- Operations and fragments are read as they are printed, under both kinds of layout.
use Rattle.std.proofs.Common.{◌≡◌, ◌≤◌, ◌+◌, ℕ, zero, suc, Bool, true, false, cond, ◌&&◌, List, [], ◌∷◌, ◌++◌, map, codes, Option, Some, None, option_map, refl, ap, arith}
use Rattle.std.proofs.lemmas.Bool.{and_parts}
use Rattle.graphql_names.specs.NameSyntax as names
use Rattle.round_trip.specs.in_literals.Joined.{joined}
use Rattle.round_trip.specs.in_literals.LineLayout.{Prefix, braced_text, set_text, texts_of}
use Rattle.read_operations.specs.in_literals.ValueLayout.{default_text}
use Rattle.read_operations.specs.in_directives.DirectiveLayout.{directives_text}
use Rattle.read_operations.specs.in_operations.OperationQueries.{operation_keyword}
use Rattle.read_operations.specs.in_operations.OperationLayout.{selection_texts, is_query, variable_text, variables_text, is_none, is_empty, is_bare_query, operation_name_text, full_operation_text, operation_text, fragment_text}
use Rattle.read_operations.specs.in_directives.declared.operation_type.OperationType.{OperationType}
use Rattle.read_operations.specs.in_directives.declared.operation_type.OperationType.TheVariants.{Query, Mutation, Subscription}
use Rattle.graphql_names.specs.Placed.{Placed, Text, unplaced_text, unplaced_node}
use Rattle.read_operations.specs.in_values.Writable.{directives_writable, has_selection, selections_writable, variable_writable, variables_writable, operation_writable, fragment_writable}
use Rattle.read_operations.specs.in_literals.TypeTree.{TypeTree}
use Rattle.read_operations.specs.in_literals.ValueTree.{ValueTree}
use Rattle.read_operations.specs.in_directives.DirectiveTree.{Directives, unplaced_directives}
use Rattle.read_operations.specs.in_operations.SelectionTree.{SelectionTrees}
use Rattle.read_operations.specs.in_operations.OperationTree.{VariableDefinitionTree, OperationTree, FragmentTree, unplaced_variable_definition, unplaced_operation, unplaced_fragment}
use Rattle.read_operations.specs.in_tokens.Terminals.{words}
use Rattle.read_operations.specs.in_grammar.Meaning.{Meaning}
use Rattle.read_operations.specs.in_grammar.Kinds as kind
use Rattle.read_operations.specs.in_grammar.Rules.{mark, ◌·◌, ◌<$>◌, ◌∣◌, optional}
use Rattle.read_operations.specs.in_grammar.ValueGrammar.{constant, with_variables, name, directives}
use Rattle.read_operations.specs.in_grammar.OperationGrammar.{variable_definition_of, short_of, operation_of, fragment_of, operation_type, type_condition, selection_set, variable_definition, variable_definitions, operation_definition, fragment_definition}
use Rattle.round_trip.specs.Printed.{any, ends_word, Printed}
use Rattle.round_trip.specs.Literals.{LiteralsRead}
use Rattle.round_trip.specs.WellFormed.{directives_well_formed, selections_well_formed, is_white_prefix, name_well_formed, variable_well_formed, variables_well_formed, operation_well_formed, fragment_well_formed, variable_depth, variables_depth, operation_depth, fragment_depth}
use Rattle.round_trip.proofs.Sequences.{ends_before, seq, seq_word, mapped, left, right, placed, ignored, given, left_out, nothing_more, saying, before_any}
use Rattle.round_trip.proofs.Tokens.{any_name, named, keyword}
use Rattle.round_trip.proofs.Punctuators.{colon}
use Rattle.round_trip.proofs.Literals.{variable_alone}
use Rattle.round_trip.proofs.Types.{type_read}
use Rattle.round_trip.proofs.Nodes.{each_read, parenthesized_ends, parenthesized, AreAny, none_there, some_there}
use Rattle.round_trip.proofs.Directives.{default_read, directives_read, directives_end}
use Rattle.round_trip.proofs.Lines.{set_ends}
use Rattle.round_trip.proofs.Selections.{IsAnyName, some_name, spelled_fragment, bare_set_read, full_set_read, selections_read}

-- ---- the same trees

abbrev variable_with : List ℕ → TypeTree (Unit {0}) → Option (Placed (Unit {0}) (ValueTree (Unit {0}))) → Directives (Unit {0}) → VariableDefinitionTree (Unit {0})
variable_with n t v ds = record { name = record { it = n; place = tt }; ty = record { it = t; place = tt }; default_value = v; directives = ds }

one_variable : (l n : List ℕ) (t u : TypeTree (Unit {0})) (v w : Option (Placed (Unit {0}) (ValueTree (Unit {0})))) (ds es : Directives (Unit {0})) → l ≡ n → t ≡ u → v ≡ w → ds ≡ es → variable_with l t v ds ≡ variable_with n u w es
one_variable l n t u v w ds es e1 e2 e3 e4 = rw e1 (rw e2 (rw e3 (rw e4 refl)))

abbrev Variables : Type 0
Variables = List (Placed (Unit {0}) (VariableDefinitionTree (Unit {0})))

abbrev operation_with : OperationType → Option (Text (Unit {0})) → Variables → Directives (Unit {0}) → SelectionTrees (Unit {0}) → OperationTree (Unit {0})
operation_with t n vs ds ts = record { operation_type = t; name = n; variables = vs; directives = ds; selections = ts }

one_operation : (t u : OperationType) (l n : Option (Text (Unit {0}))) (vs ws : Variables) (ds es : Directives (Unit {0})) (ts us : SelectionTrees (Unit {0})) → t ≡ u → l ≡ n → vs ≡ ws → ds ≡ es → ts ≡ us → operation_with t l vs ds ts ≡ operation_with u n ws es us
one_operation t u l n vs ws ds es ts us e1 e2 e3 e4 e5 = rw e1 (rw e2 (rw e3 (rw e4 (rw e5 refl))))

abbrev fragment_with : List ℕ → List ℕ → Directives (Unit {0}) → SelectionTrees (Unit {0}) → FragmentTree (Unit {0})
fragment_with n c ds ts = record { name = record { it = n; place = tt }; type_condition = record { it = c; place = tt }; directives = ds; selections = ts }

one_fragment : (l n c b : List ℕ) (ds es : Directives (Unit {0})) (ts us : SelectionTrees (Unit {0})) → l ≡ n → c ≡ b → ds ≡ es → ts ≡ us → fragment_with l c ds ts ≡ fragment_with n b es us
one_fragment l n c b ds es ts us e1 e2 e3 e4 = rw e1 (rw e2 (rw e3 (rw e4 refl)))

-- a query without name, variables and directives
bare_is : {Q : Type 0} (t : OperationType) (n : Option (Text Q)) (vs : List (Placed Q (VariableDefinitionTree Q))) (ds : Directives Q) (ts us : SelectionTrees (Unit {0})) → (is_query t && is_none n && is_empty vs && is_empty ds) ≡ true → ts ≡ us
    → operation_with Query None [] [] ts ≡ operation_with t (option_map unplaced_text n) (map (unplaced_node unplaced_variable_definition) vs) (unplaced_directives ds) us
bare_is Query None [] [] ts us h e = rw e refl
bare_is Query None [] (d ∷ ds) ts us h e = absurd cc
bare_is Query None (v ∷ vs) ds ts us h e = absurd cc
bare_is Query (Some n) vs ds ts us h e = absurd cc
bare_is Mutation n vs ds ts us h e = absurd cc
bare_is Subscription n vs ds ts us h e = absurd cc

pub default_ends : {Q : Type 0} (v : Option (Placed Q (ValueTree Q))) → ends_word (default_text v) ≡ true
unfolding joined
default_ends None = refl
default_ends (Some v) = refl

name_ends : {Q : Type 0} (n : Option (Text Q)) → ends_word (operation_name_text n) ≡ true
unfolding joined
name_ends None = refl
name_ends (Some n) = refl

-- query, mutation, subscription
pub operation_type_read : (t : OperationType) → Printed operation_type (λ x. x ≡ t) ends_word (operation_keyword t)
unfolding words operation_type
operation_type_read Query =
    left ((λ _. Mutation) <$> mark kind.is_mutation ∣ (λ _. Subscription) <$> mark kind.is_subscription) (mapped (λ _. Query) (λ x. x ≡ Query) (λ x said. refl) (keyword kind.is_query (codes "query") refl refl))
operation_type_read Mutation =
    right ((λ _. Query) <$> mark kind.is_query)
    (left ((λ _. Subscription) <$> mark kind.is_subscription) (mapped (λ _. Mutation) (λ x. x ≡ Mutation) (λ x said. refl) (keyword kind.is_mutation (codes "mutation") refl refl)))
operation_type_read Subscription =
    right ((λ _. Query) <$> mark kind.is_query)
    (right ((λ _. Mutation) <$> mark kind.is_mutation) (mapped (λ _. Subscription) (λ x. x ≡ Subscription) (λ x said. refl) (keyword kind.is_subscription (codes "subscription") refl refl)))

module _ {P : Type 0} (m : Meaning P) where
  -- on condition
  on_read : (c : List ℕ) → names.is_name c ≡ true → Printed (type_condition m) (λ x. x.it ≡ c) ends_word (32 ∷ 111 ∷ 110 ∷ 32 ∷ c)
  unfolding words
  on_read c h =
      ignored (32 ∷ []) refl
      (mapped (λ x. x.1) (λ x. x.it ≡ c) (λ x said. said.1) (seq_word refl (keyword kind.is_on (codes "on") refl refl) (ignored (32 ∷ []) refl (any_name m c h))))

module _ {P Q : Type 0} (m : Meaning P) (lits : LiteralsRead m.string) where
  pub variable_read : (n : ℕ) (v : Placed Q (VariableDefinitionTree Q)) → variable_well_formed v ≡ true → variable_writable v.it ≡ true → variable_depth v ≤ n → Printed (variable_definition m n) (λ x. unplaced_variable_definition x ≡ unplaced_variable_definition v.it) ends_word (variable_text v.it)
  unfolding joined variable_definition
  variable_read n v h w le =
      let (h123, h4) = and_parts _ _ h in
      let (h12, h3) = and_parts _ _ h123 in
      let (h1, h2) = and_parts _ _ h12 in
      let (w1, w2) = and_parts _ _ w in
      let end1 : ends_word (directives_text v.it.directives ++ []) ≡ true = ends_before (directives_text v.it.directives) [] (directives_end m lits v.it.directives) refl in
      let end2 : ends_word (default_text v.it.default_value ++ (directives_text v.it.directives ++ [])) ≡ true = ends_before (default_text v.it.default_value) (directives_text v.it.directives ++ []) (default_ends v.it.default_value) end1 in
      mapped variable_definition_of (λ x. unplaced_variable_definition x ≡ unplaced_variable_definition v.it) (λ x said. one_variable _ _ _ _ _ _ _ _ said.0 said.1.1.0 said.1.1.1.0 said.1.1.1.1)
      (seq {f = ends_word} (λ following fine. refl) (variable_alone m v.it.name.it h1)
      (seq {f = any} (λ following fine. refl) colon
      (ignored (32 ∷ []) refl
      (seq_word end2 (placed m (type_read m v.it.ty.it n h2 (omega arith)))
      (seq_word end1 (default_read m lits v.it.default_value n h3 w1 (omega arith))
      (nothing_more (directives_read m lits constant v.it.directives n h4 w2 (omega arith))))))))

  pub variables_read : (vs : List (Placed Q (VariableDefinitionTree Q))) (n : ℕ) → variables_well_formed vs ≡ true → variables_writable vs ≡ true → variables_depth vs ≤ n
      → Printed (optional (variable_definitions m n)) (AreAny unplaced_variable_definition (map (unplaced_node unplaced_variable_definition) vs)) ends_word (variables_text vs)
  unfolding joined variable_definitions
  variables_read [] n h w le = none_there unplaced_variable_definition (variable_definitions m n)
  variables_read (v ∷ vs) zero h w le = absurd (omega arith)
  variables_read (v ∷ vs) (suc n) h w le =
      before_any
      (some_there unplaced_variable_definition (map (unplaced_node unplaced_variable_definition) (v ∷ vs))
      (parenthesized m (variable_definition m n) unplaced_variable_definition unplaced_variable_definition variable_text v vs
      (each_read m (variable_definition m n) unplaced_variable_definition unplaced_variable_definition variable_text variable_well_formed (λ v. variable_writable v.it) variable_depth n (variable_read n) (v ∷ vs) h w (omega arith))))

  operation_name_read : (n : Option (Text Q)) → name_well_formed n ≡ true → Printed (optional (name m)) (IsAnyName (option_map unplaced_text n)) ends_word (operation_name_text n)
  unfolding joined
  operation_name_read None h = saying (IsAnyName None) (λ o e. ap (λ (l : Option (Text P)). option_map unplaced_text l) e) (left_out (name m) ends_word)
  operation_name_read (Some n) h =
      saying (IsAnyName (Some (unplaced_text n))) (λ o e. some_name o e.0 n.it e.1 e.2) (given (ignored (32 ∷ []) refl (nothing_more (any_name m n.it h))))

  -- the operation, ignoring places
  abbrev pub IsOperation : OperationTree Q → OperationTree P → Type 0
  IsOperation o x = unplaced_operation x ≡ unplaced_operation o

  module _ (prefix : Prefix) (white : is_white_prefix prefix ≡ true) where
    full_read : (o : OperationTree Q) (n level : ℕ) → operation_well_formed o ≡ true → operation_writable o ≡ true → operation_depth o ≤ suc n → Printed (operation_definition m (suc n)) (IsOperation o) ends_word (full_operation_text prefix o level)
    unfolding joined operation_definition
    full_read o n level h w le =
        let (h123, h4) = and_parts _ _ h in
        let (h12, h3) = and_parts _ _ h123 in
        let (h1, h2) = and_parts _ _ h12 in
        let (w123, w4) = and_parts _ _ w in
        let (w12, w3) = and_parts _ _ w123 in
        let (w1, w2) = and_parts _ _ w12 in
        let set : List ℕ = set_text prefix level (selection_texts prefix o.selections) in
        let end1 : ends_word (set ++ []) ≡ true = ends_before set [] (set_ends prefix level (selection_texts prefix o.selections)) refl in
        let end2 : ends_word (directives_text o.directives ++ (set ++ [])) ≡ true = ends_before (directives_text o.directives) (set ++ []) (directives_end m lits o.directives) end1 in
        let end3 : ends_word (variables_text o.variables ++ (directives_text o.directives ++ (set ++ []))) ≡ true = ends_before (variables_text o.variables) _ (parenthesized_ends (texts_of variable_text o.variables)) end2 in
        let end4 : ends_word (operation_name_text o.name ++ (variables_text o.variables ++ (directives_text o.directives ++ (set ++ [])))) ≡ true = ends_before (operation_name_text o.name) _ (name_ends o.name) end3 in
        right (short_of <$> selection_set m (suc n))
        (mapped operation_of (IsOperation o) (λ x said. one_operation _ _ _ _ _ _ _ _ _ _ said.0 said.1.0 said.1.1.0 said.1.1.1.0 said.1.1.1.1)
        (seq_word end4 (operation_type_read o.operation_type)
        (seq_word end3 (operation_name_read o.name h1)
        (seq_word end2 (variables_read o.variables (suc n) h2 w1 (omega arith))
        (seq_word end1 (directives_read m lits with_variables o.directives (suc n) h3 w2 (omega arith))
        (nothing_more (full_set_read m lits prefix n level o.selections white w3 (selections_read m lits prefix white o.selections n (level + 1) h4 w4 (omega arith)))))))))

    short_read : (o : OperationTree Q) (n level : ℕ) → is_bare_query o ≡ true → operation_well_formed o ≡ true → operation_writable o ≡ true → operation_depth o ≤ suc n → Printed (operation_definition m (suc n)) (IsOperation o) ends_word (braced_text prefix level (selection_texts prefix o.selections))
    unfolding operation_definition
    short_read o n level bare h w le =
        let (h123, h4) = and_parts (name_well_formed o.name && variables_well_formed o.variables && directives_well_formed o.directives) (selections_well_formed o.selections) h in
        let (w123, w4) = and_parts (variables_writable o.variables && directives_writable with_variables o.directives && has_selection o.selections) (selections_writable o.selections) w in
        let (w12, w3) = and_parts (variables_writable o.variables && directives_writable with_variables o.directives) (has_selection o.selections) w123 in
        left (operation_of <$> operation_type · optional (name m) · optional (variable_definitions m (suc n)) · optional (directives m with_variables (suc n)) · selection_set m (suc n))
        (mapped short_of (IsOperation o) (λ x said. bare_is o.operation_type o.name o.variables o.directives _ _ bare said)
        (before_any (bare_set_read m lits prefix n level o.selections white w3 (selections_read m lits prefix white o.selections n (level + 1) h4 w4 (omega arith)))))

    pub operation_read : (at_start : Bool) (o : OperationTree Q) (n level : ℕ) → operation_well_formed o ≡ true → operation_writable o ≡ true → operation_depth o ≤ n → Printed (operation_definition m n) (IsOperation o) ends_word (operation_text at_start prefix o level)
    operation_read at_start o zero level h w le = absurd (omega arith)
    operation_read at_start o (suc n) level h w le = go (at_start && is_bare_query o) refl
      where
        go : (b : Bool) → (at_start && is_bare_query o) ≡ b → Printed (operation_definition m (suc n)) (IsOperation o) ends_word (cond b (braced_text prefix level (selection_texts prefix o.selections)) (full_operation_text prefix o level))
        go true e = short_read o n level (and_parts at_start (is_bare_query o) e).1 h w le
        go false e = full_read o n level h w le

    -- the fragment, ignoring places
    abbrev pub IsFragment : FragmentTree Q → FragmentTree P → Type 0
    IsFragment f x = unplaced_fragment x ≡ unplaced_fragment f

    pub fragment_read : (f : FragmentTree Q) (n level : ℕ) → fragment_well_formed f ≡ true → fragment_writable f ≡ true → fragment_depth f ≤ n → Printed (fragment_definition m n) (IsFragment f) ends_word (fragment_text prefix f level)
    unfolding joined words fragment_definition
    fragment_read f zero level h w le = absurd (omega arith)
    fragment_read f (suc n) level h w le =
        let (h123, h4) = and_parts _ _ h in
        let (h12, h3) = and_parts _ _ h123 in
        let (h1, h2) = and_parts _ _ h12 in
        let (w123, w4) = and_parts _ _ w in
        let (w12, w3) = and_parts _ _ w123 in
        let (w1, w2) = and_parts _ _ w12 in
        let set : List ℕ = set_text prefix level (selection_texts prefix f.selections) in
        let end1 : ends_word (set ++ []) ≡ true = ends_before set [] (set_ends prefix level (selection_texts prefix f.selections)) refl in
        let end2 : ends_word (directives_text f.directives ++ (set ++ [])) ≡ true = ends_before (directives_text f.directives) (set ++ []) (directives_end m lits f.directives) end1 in
        mapped fragment_of (IsFragment f) (λ x said. one_fragment _ _ _ _ _ _ _ _ said.1.0 said.1.1.0 said.1.1.1.0 said.1.1.1.1)
        (seq_word refl (keyword kind.is_fragment (codes "fragment") refl refl)
        (ignored (32 ∷ []) refl
        (seq_word refl (named m kind.is_fragment_name f.name.it h1 (spelled_fragment f.name.it w1))
        (seq_word end2 (on_read m f.type_condition.it h2)
        (seq_word end1 (directives_read m lits with_variables f.directives (suc n) h3 w2 (omega arith))
        (nothing_more (full_set_read m lits prefix n level f.selections white w3 (selections_read m lits prefix white f.selections n (level + 1) h4 w4 (omega arith)))))))))
