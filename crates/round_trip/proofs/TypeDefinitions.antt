-- Definitions of types, after their descriptions, are read as they are printed, under both kinds of layout.
use Rattle.std.proofs.Common.{◌≡◌, ◌≤◌, ◌+◌, ℕ, zero, suc, Bool, true, List, [], ◌∷◌, ◌++◌, map, codes, refl, sym, ap, ◌∙◌, append_assoc, append-nil, arith}
use Rattle.std.specs.List.{list_all}
use Rattle.std.proofs.lemmas.Bool.{and_parts}
use Rattle.round_trip.specs.in_literals.Joined.{joined}
use Rattle.round_trip.specs.in_literals.LineLayout.{Prefix, set_text, texts_of}
use Rattle.read_operations.specs.in_directives.DirectiveLayout.{directives_text}
use Rattle.read_operations.specs.in_directives.InputLayout.{input_value_text}
use Rattle.read_operations.specs.in_type_members.TypeSystemLayout.{names_text, head_text, field_definition_text, enum_value_text}
use Rattle.read_operations.specs.in_type_members.PartsWritable.{field_definition_writable, field_definitions_writable, enum_value_writable, enum_values_writable, fields_writable, enum_writable, input_object_writable}
use Rattle.graphql_names.specs.Placed.{Placed, Text, unplaced_node}
use Rattle.read_operations.specs.in_values.Writable.{directives_writable, input_values_writable}
use Rattle.read_operations.specs.in_directives.DirectiveTree.{Directives, InputValues, unplaced_input_value}
use Rattle.read_operations.specs.in_type_members.TypeSystemTree.{FieldDefinitionTree, EnumValueTree, ScalarParts, FieldsParts, UnionParts, EnumParts, InputObjectParts, unplaced_input_object, unplaced_field_definition, unplaced_enum_value, unplaced_scalar, unplaced_fields, unplaced_union, unplaced_enum}
use Rattle.read_operations.specs.in_tokens.declared.terminal.Terminal.{Terminal}
use Rattle.read_operations.specs.in_tokens.Terminals.{words}
use Rattle.read_operations.specs.in_grammar.Meaning.{Meaning}
use Rattle.read_operations.specs.in_grammar.Kinds.{is_scalar, is_input, is_union, is_enum, is_type, is_interface, is_open_brace}
use Rattle.read_operations.specs.in_grammar.Rules.{Rule, mark, ◌·◌, ◌<$>◌, optional, optional_unless}
use Rattle.read_operations.specs.in_grammar.ValueGrammar.{constant, name, directives}
use Rattle.read_operations.specs.in_grammar.TypeSystemGrammar.{input_object_of, input_value_definition, input_fields_definition, input_object_type, scalar_of, fields_of, union_of, enum_of, scalar_type, implements_interfaces, field_definition, fields_definition, enum_value_definition, enum_values_definition, object_type, interface_type, union_type, enum_type}
use Rattle.round_trip.specs.Printed.{ends_word, begins_definition, ends_definition, Printed}
use Rattle.round_trip.specs.Literals.{LiteralsRead}
use Rattle.round_trip.specs.WellFormed.{is_white_prefix, bracketed, field_definition_well_formed, enum_value_well_formed, scalar_well_formed, fields_well_formed, union_well_formed, enum_well_formed, directives_depth, field_definition_depth, enum_value_depth, fields_depth, enum_depth, input_values_well_formed, input_object_well_formed, input_values_depth, input_object_depth}
use Rattle.round_trip.proofs.Sequences.{ends_before, seq, seq_word, mapped, ignored, as_text, nothing_more}
use Rattle.round_trip.proofs.Tokens.{any_name, keyword}
use Rattle.round_trip.proofs.Nodes.{each_read, AreAny}
use Rattle.round_trip.proofs.Directives.{directives_read, directives_end}
use Rattle.round_trip.proofs.Lines.{set_ends}
use Rattle.round_trip.proofs.InputValues.{each_input_value}
use Rattle.round_trip.proofs.TypeMembers.{field_definition_read, enum_value_read}
use Rattle.round_trip.proofs.Following.{braced_nodes, part_left_out, part_there}
use Rattle.round_trip.proofs.Names.{implements_read, union_members_read, names_text_ends}

-- a word, and a text that ends words, where a last part may be left out
module _ {A B : Type 0} {r : Rule A} {s : Rule B} {says : A → Type 0} {tells : B → Type 0} {a b : List ℕ} where
  pub before_part : ends_word b ≡ true → Printed r says ends_word a → Printed s tells ends_definition b → Printed (r · s) (λ x. says x.0 × tells x.1) ends_definition (a ++ b)
  before_part ends p q = seq {f = ends_word} (λ following fine. ends_before b following ends (and_parts (ends_word following) (begins_definition following) fine).0) p q

-- ---- the same trees

abbrev scalar_with : List ℕ → Directives (Unit {0}) → ScalarParts (Unit {0})
scalar_with n ds = record { name = record { it = n; place = tt }; directives = ds }

one_scalar : (l n : List ℕ) (ds es : Directives (Unit {0})) → l ≡ n → ds ≡ es → scalar_with l ds ≡ scalar_with n es
one_scalar l n ds es e f = rw e (rw f refl)

abbrev union_with : List ℕ → Directives (Unit {0}) → List (Text (Unit {0})) → UnionParts (Unit {0})
union_with n ds ns = record { name = record { it = n; place = tt }; directives = ds; members = ns }

one_union : (l n : List ℕ) (ds es : Directives (Unit {0})) (ms ns : List (Text (Unit {0}))) → l ≡ n → ds ≡ es → ms ≡ ns → union_with l ds ms ≡ union_with n es ns
one_union l n ds es ms ns e f g = rw e (rw f (rw g refl))

abbrev fields_with : List ℕ → List (Text (Unit {0})) → Directives (Unit {0}) → List (Placed (Unit {0}) (FieldDefinitionTree (Unit {0}))) → FieldsParts (Unit {0})
fields_with n ns ds fs = record { name = record { it = n; place = tt }; interfaces = ns; directives = ds; fields = fs }

one_fields : (l n : List ℕ) (ms ns : List (Text (Unit {0}))) (ds es : Directives (Unit {0})) (fs gs : List (Placed (Unit {0}) (FieldDefinitionTree (Unit {0})))) → l ≡ n → ms ≡ ns → ds ≡ es → fs ≡ gs → fields_with l ms ds fs ≡ fields_with n ns es gs
one_fields l n ms ns ds es fs gs e f g h = rw e (rw f (rw g (rw h refl)))

abbrev enum_with : List ℕ → Directives (Unit {0}) → List (Placed (Unit {0}) (EnumValueTree (Unit {0}))) → EnumParts (Unit {0})
enum_with n ds vs = record { name = record { it = n; place = tt }; directives = ds; values = vs }

one_enum : (l n : List ℕ) (ds es : Directives (Unit {0})) (vs ws : List (Placed (Unit {0}) (EnumValueTree (Unit {0})))) → l ≡ n → ds ≡ es → vs ≡ ws → enum_with l ds vs ≡ enum_with n es ws
one_enum l n ds es vs ws e f g = rw e (rw f (rw g refl))

abbrev input_object_with : List ℕ → Directives (Unit {0}) → InputValues (Unit {0}) → InputObjectParts (Unit {0})
input_object_with n ds vs = record { name = record { it = n; place = tt }; directives = ds; fields = vs }

one_input_object : (l n : List ℕ) (ds es : Directives (Unit {0})) (vs ws : InputValues (Unit {0})) → l ≡ n → ds ≡ es → vs ≡ ws → input_object_with l ds vs ≡ input_object_with n es ws
one_input_object l n ds es vs ws e f g = rw e (rw f (rw g refl))

-- ---- heads

-- a head and what follows it, as they are joined
joined_head : (front name names ds set : List ℕ) → front ++ (name ++ (names ++ (ds ++ set))) ≡ (front ++ (name ++ (names ++ (ds ++ [])))) ++ (set ++ [])
joined_head front name names ds set =
    sym
    (append_assoc front (name ++ (names ++ (ds ++ []))) (set ++ [])
    ∙ ap (λ (l : List ℕ). front ++ l)
    (append_assoc name (names ++ (ds ++ [])) (set ++ [])
    ∙ ap (λ (l : List ℕ). name ++ l) (append_assoc names (ds ++ []) (set ++ []) ∙ ap (λ (l : List ℕ). names ++ l) (ap (λ (l : List ℕ). l ++ (set ++ [])) (append-nil ds) ∙ ap (λ (l : List ℕ). ds ++ l) (append-nil set)))))

module _ {P Q : Type 0} (m : Meaning P) (lits : LiteralsRead m.string) where
  pub scalar_read : (t : ScalarParts Q) (n : ℕ) → scalar_well_formed t ≡ true → directives_writable constant t.directives ≡ true → directives_depth t.directives ≤ n
      → Printed (scalar_type m n) (λ x. unplaced_scalar x ≡ unplaced_scalar t) ends_word (head_text (codes "scalar ") t.name [] t.directives)
  unfolding joined words scalar_type
  scalar_read t n h w le =
      let (h1, h2) = and_parts _ _ h in
      let end1 : ends_word (directives_text t.directives ++ []) ≡ true = ends_before (directives_text t.directives) [] (directives_end m lits t.directives) refl in
      mapped scalar_of (λ x. unplaced_scalar x ≡ unplaced_scalar t) (λ x said. one_scalar _ _ _ _ said.1.0 said.1.1)
      (seq_word refl (keyword is_scalar (codes "scalar") refl refl)
      (ignored (32 ∷ []) refl (seq_word end1 (any_name m t.name.it h1) (nothing_more (directives_read m lits constant t.directives n h2 w le)))))

  pub union_read : (t : UnionParts Q) (n : ℕ) → union_well_formed t ≡ true → directives_writable constant t.directives ≡ true → directives_depth t.directives ≤ n
      → Printed (union_type m n) (λ x. unplaced_union x ≡ unplaced_union t) ends_word (head_text (codes "union ") t.name [] t.directives ++ (names_text (codes " = ") (codes " | ") t.members ++ []))
  unfolding joined words union_type
  union_read t n h w le =
      let (h12, h3) = and_parts _ _ h in
      let (h1, h2) = and_parts _ _ h12 in
      let set : List ℕ = names_text (codes " = ") (codes " | ") t.members in
      let end1 : ends_word set ≡ true = names_text_ends (61 ∷ 32 ∷ []) (codes " | ") t.members in
      let end2 : ends_word (directives_text t.directives ++ set) ≡ true = ends_before (directives_text t.directives) set (directives_end m lits t.directives) end1 in
      as_text _ (joined_head (codes "union ") t.name.it [] (directives_text t.directives) set)
      (mapped union_of (λ x. unplaced_union x ≡ unplaced_union t) (λ x said. one_union _ _ _ _ _ _ said.1.0 said.1.1.0 said.1.1.1)
      (seq_word refl (keyword is_union (codes "union") refl refl)
      (ignored (32 ∷ []) refl
      (seq_word end2 (any_name m t.name.it h1)
      (seq_word end1 (directives_read m lits constant t.directives n h2 w le) (union_members_read m t.members h3))))))

  module _ (prefix : Prefix) (white : is_white_prefix prefix ≡ true) where
    pub fields_part : (fs : List (Placed Q (FieldDefinitionTree Q))) (n level : ℕ) → list_all field_definition_well_formed fs ≡ true → field_definitions_writable fs ≡ true → bracketed field_definition_depth fs ≤ n
        → Printed (optional_unless is_open_brace (fields_definition m n)) (AreAny unplaced_field_definition (map (unplaced_node unplaced_field_definition) fs)) ends_definition (set_text prefix level (texts_of (field_definition_text prefix) fs))
    unfolding joined fields_definition
    fields_part [] n level h w le = part_left_out unplaced_field_definition (fields_definition m n)
    fields_part (f ∷ fs) zero level h w le = absurd (omega arith)
    fields_part (f ∷ fs) (suc n) level h w le =
        part_there unplaced_field_definition (map (unplaced_node unplaced_field_definition) (f ∷ fs))
        (braced_nodes m (field_definition m n) unplaced_field_definition unplaced_field_definition (field_definition_text prefix) prefix white level f fs
        (each_read m (field_definition m n) unplaced_field_definition unplaced_field_definition (λ y. field_definition_text prefix y (level + 1)) field_definition_well_formed (λ f. field_definition_writable f.it) field_definition_depth n (field_definition_read m lits prefix white n (level + 1)) (f ∷ fs) h w (omega arith)))

    -- type and interface, by their keywords
    fields_read : (is : Terminal → Bool) (word : List ℕ) → Printed (mark is) (λ x. x ≡ tt) ends_word word → (t : FieldsParts Q) (n level : ℕ) → fields_well_formed t ≡ true → fields_writable t ≡ true → fields_depth t ≤ n
        → Printed (fields_of <$> mark is · name m · optional (implements_interfaces m) · optional (directives m constant n) · optional_unless is_open_brace (fields_definition m n)) (λ x. unplaced_fields x ≡ unplaced_fields t) ends_definition
        (word ++ (32 ∷ (t.name.it ++ (names_text (codes " implements ") (codes " & ") t.interfaces ++ (directives_text t.directives ++ set_text prefix level (texts_of (field_definition_text prefix) t.fields))))))
    fields_read is word p t n level h w le =
        let (h123, h4) = and_parts _ _ h in
        let (h12, h3) = and_parts _ _ h123 in
        let (h1, h2) = and_parts _ _ h12 in
        let (w1, w2) = and_parts _ _ w in
        let set : List ℕ = set_text prefix level (texts_of (field_definition_text prefix) t.fields) in
        let end1 : ends_word set ≡ true = set_ends prefix level (texts_of (field_definition_text prefix) t.fields) in
        let end2 : ends_word (directives_text t.directives ++ set) ≡ true = ends_before (directives_text t.directives) set (directives_end m lits t.directives) end1 in
        let end3 : ends_word (names_text (codes " implements ") (codes " & ") t.interfaces ++ (directives_text t.directives ++ set)) ≡ true = ends_before (names_text (codes " implements ") (codes " & ") t.interfaces) (directives_text t.directives ++ set) (names_text_ends (codes "implements ") (codes " & ") t.interfaces) end2 in
        mapped fields_of (λ x. unplaced_fields x ≡ unplaced_fields t) (λ x said. one_fields _ _ _ _ _ _ _ _ said.1.0 said.1.1.0 said.1.1.1.0 said.1.1.1.1)
        (before_part refl p
        (ignored (32 ∷ []) refl
        (before_part end3 (any_name m t.name.it h1)
        (before_part end2 (implements_read m t.interfaces h2)
        (before_part end1 (directives_read m lits constant t.directives n h3 w1 (omega arith)) (fields_part t.fields n level h4 w2 (omega arith)))))))

    pub object_read : (t : FieldsParts Q) (n level : ℕ) → fields_well_formed t ≡ true → fields_writable t ≡ true → fields_depth t ≤ n
        → Printed (object_type m n) (λ x. unplaced_fields x ≡ unplaced_fields t) ends_definition (head_text (codes "type ") t.name t.interfaces t.directives ++ (set_text prefix level (texts_of (field_definition_text prefix) t.fields) ++ []))
    unfolding joined words object_type
    object_read t n level h w le =
        as_text _ (joined_head (codes "type ") t.name.it (names_text (codes " implements ") (codes " & ") t.interfaces) (directives_text t.directives) (set_text prefix level (texts_of (field_definition_text prefix) t.fields)))
        (fields_read is_type (codes "type") (keyword is_type (codes "type") refl refl) t n level h w le)

    pub interface_read : (t : FieldsParts Q) (n level : ℕ) → fields_well_formed t ≡ true → fields_writable t ≡ true → fields_depth t ≤ n
        → Printed (interface_type m n) (λ x. unplaced_fields x ≡ unplaced_fields t) ends_definition (head_text (codes "interface ") t.name t.interfaces t.directives ++ (set_text prefix level (texts_of (field_definition_text prefix) t.fields) ++ []))
    unfolding joined words interface_type
    interface_read t n level h w le =
        as_text _ (joined_head (codes "interface ") t.name.it (names_text (codes " implements ") (codes " & ") t.interfaces) (directives_text t.directives) (set_text prefix level (texts_of (field_definition_text prefix) t.fields)))
        (fields_read is_interface (codes "interface") (keyword is_interface (codes "interface") refl refl) t n level h w le)

    pub enum_part : (vs : List (Placed Q (EnumValueTree Q))) (n level : ℕ) → list_all enum_value_well_formed vs ≡ true → enum_values_writable vs ≡ true → bracketed enum_value_depth vs ≤ n
        → Printed (optional_unless is_open_brace (enum_values_definition m n)) (AreAny unplaced_enum_value (map (unplaced_node unplaced_enum_value) vs)) ends_definition (set_text prefix level (texts_of (enum_value_text prefix) vs))
    unfolding joined enum_values_definition
    enum_part [] n level h w le = part_left_out unplaced_enum_value (enum_values_definition m n)
    enum_part (v ∷ vs) zero level h w le = absurd (omega arith)
    enum_part (v ∷ vs) (suc n) level h w le =
        part_there unplaced_enum_value (map (unplaced_node unplaced_enum_value) (v ∷ vs))
        (braced_nodes m (enum_value_definition m n) unplaced_enum_value unplaced_enum_value (enum_value_text prefix) prefix white level v vs
        (each_read m (enum_value_definition m n) unplaced_enum_value unplaced_enum_value (λ y. enum_value_text prefix y (level + 1)) enum_value_well_formed (λ v. enum_value_writable v.it) enum_value_depth n (enum_value_read m lits prefix white n (level + 1)) (v ∷ vs) h w (omega arith)))

    pub enum_read : (t : EnumParts Q) (n level : ℕ) → enum_well_formed t ≡ true → enum_writable t ≡ true → enum_depth t ≤ n
        → Printed (enum_type m n) (λ x. unplaced_enum x ≡ unplaced_enum t) ends_definition (head_text (codes "enum ") t.name [] t.directives ++ (set_text prefix level (texts_of (enum_value_text prefix) t.values) ++ []))
    unfolding joined words enum_type
    enum_read t n level h w le =
        let (h12, h3) = and_parts _ _ h in
        let (h1, h2) = and_parts _ _ h12 in
        let (w1, w2) = and_parts _ _ w in
        let set : List ℕ = set_text prefix level (texts_of (enum_value_text prefix) t.values) in
        let end1 : ends_word set ≡ true = set_ends prefix level (texts_of (enum_value_text prefix) t.values) in
        let end2 : ends_word (directives_text t.directives ++ set) ≡ true = ends_before (directives_text t.directives) set (directives_end m lits t.directives) end1 in
        as_text _ (joined_head (codes "enum ") t.name.it [] (directives_text t.directives) set)
        (mapped enum_of (λ x. unplaced_enum x ≡ unplaced_enum t) (λ x said. one_enum _ _ _ _ _ _ said.1.0 said.1.1.0 said.1.1.1)
        (before_part refl (keyword is_enum (codes "enum") refl refl)
        (ignored (32 ∷ []) refl
        (before_part end2 (any_name m t.name.it h1)
        (before_part end1 (directives_read m lits constant t.directives n h2 w1 (omega arith)) (enum_part t.values n level h3 w2 (omega arith)))))))

    pub input_part : (vs : InputValues Q) (n level : ℕ) → input_values_well_formed vs ≡ true → input_values_writable vs ≡ true → input_values_depth vs ≤ n
        → Printed (optional_unless is_open_brace (input_fields_definition m n)) (AreAny unplaced_input_value (map (unplaced_node unplaced_input_value) vs)) ends_definition (set_text prefix level (texts_of (input_value_text prefix) vs))
    unfolding joined input_fields_definition
    input_part [] n level h w le = part_left_out unplaced_input_value (input_fields_definition m n)
    input_part (v ∷ vs) zero level h w le = absurd (omega arith)
    input_part (v ∷ vs) (suc n) level h w le =
        part_there unplaced_input_value (map (unplaced_node unplaced_input_value) (v ∷ vs))
        (braced_nodes m (input_value_definition m n) unplaced_input_value unplaced_input_value (input_value_text prefix) prefix white level v vs
        (each_input_value m lits prefix white n (level + 1) (v ∷ vs) h w (omega arith)))

    pub input_object_read : (t : InputObjectParts Q) (n level : ℕ) → input_object_well_formed t ≡ true → input_object_writable t ≡ true → input_object_depth t ≤ n
        → Printed (input_object_type m n) (λ x. unplaced_input_object x ≡ unplaced_input_object t) ends_definition (head_text (codes "input ") t.name [] t.directives ++ (set_text prefix level (texts_of (input_value_text prefix) t.fields) ++ []))
    unfolding joined words input_object_type
    input_object_read t n level h w le =
        let (h12, h3) = and_parts _ _ h in
        let (h1, h2) = and_parts _ _ h12 in
        let (w1, w2) = and_parts _ _ w in
        let set : List ℕ = set_text prefix level (texts_of (input_value_text prefix) t.fields) in
        let end1 : ends_word set ≡ true = set_ends prefix level (texts_of (input_value_text prefix) t.fields) in
        let end2 : ends_word (directives_text t.directives ++ set) ≡ true = ends_before (directives_text t.directives) set (directives_end m lits t.directives) end1 in
        as_text _ (joined_head (codes "input ") t.name.it [] (directives_text t.directives) set)
        (mapped input_object_of (λ x. unplaced_input_object x ≡ unplaced_input_object t) (λ x said. one_input_object _ _ _ _ _ _ said.1.0 said.1.1.0 said.1.1.1)
        (before_part refl (keyword is_input (codes "input") refl refl)
        (ignored (32 ∷ []) refl
        (before_part end2 (any_name m t.name.it h1)
        (before_part end1 (directives_read m lits constant t.directives n h2 w1 (omega arith)) (input_part t.fields n level h3 w2 (omega arith)))))))
