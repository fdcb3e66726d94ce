-- Definitions of all forms, and extensions, are read as they are printed, under both kinds of layout.
use Rattle.std.proofs.Common.{◌≡◌, ◌≤◌, ◌+◌, ◌⊎◌, inl, inr, ℕ, Bool, true, not, ◌&&◌, ◌||◌, List, [], ◌∷◌, ◌++◌, map, codes, Option, option_map, refl, sym, ap, ◌∙◌}
use Rattle.std.proofs.lemmas.Bool.{and_parts}
use Rattle.graphql_names.specs.NameSyntax as names
use Rattle.round_trip.specs.in_literals.Joined.{joined}
use Rattle.round_trip.specs.in_literals.LineLayout.{Prefix, set_text, texts_of}
use Rattle.round_trip.specs.in_literals.StringLayout.{description_text}
use Rattle.read_operations.specs.in_directives.DirectiveLayout.{directives_text}
use Rattle.read_operations.specs.in_directives.InputLayout.{input_value_text, argument_definitions_text, repeatable_text, locations_text, directive_definition_text}
use Rattle.read_operations.specs.in_directives.declared.directive_location.DirectiveLocation.{DirectiveLocation}
use Rattle.read_operations.specs.in_type_members.TypeSystemLayout.{names_text, head_text, field_definition_text, enum_value_text, schema_text, extend}
use Rattle.read_operations.specs.in_type_members.PartsWritable.{has_some, schema_writable, fields_writable, enum_writable, input_object_writable, schema_extension_writable}
use Rattle.graphql_names.specs.Placed.{Text, unplaced_text, unplaced_node}
use Rattle.read_operations.specs.in_values.Writable.{directives_writable, input_values_writable, is_none_of, directive_definition_writable}
use Rattle.read_operations.specs.in_directives.DirectiveTree.{Directives, InputValues, DirectiveDefinitionTree, unplaced_directives, unplaced_input_value, unplaced_directive_definition}
use Rattle.read_operations.specs.in_type_members.TypeSystemTree.{SchemaParts, ScalarParts, FieldsParts, UnionParts, EnumParts, InputObjectParts, unplaced_schema, unplaced_scalar, unplaced_fields, unplaced_union, unplaced_enum, unplaced_input_object}
use Rattle.read_operations.specs.in_definitions.DefinitionTree.{DefinitionTree, Operation, Fragment, DirectiveDefinition, Schema, ScalarType, ObjectType, InterfaceType, UnionType, EnumType, InputObjectType, ExtendSchema, ExtendScalar, ExtendObject, ExtendInterface, ExtendUnion, ExtendEnum, ExtendInputObject, unplaced_definition}
use Rattle.read_operations.specs.in_definitions.DocumentLayout.{definition_text}
use Rattle.read_operations.specs.in_definitions.Writable.{definition_writable}
use Rattle.read_operations.specs.in_tokens.Terminals.{words}
use Rattle.read_operations.specs.in_grammar.Meaning.{Meaning}
use Rattle.read_operations.specs.in_grammar.Kinds.{is_extend}
use Rattle.read_operations.specs.in_grammar.Rules as rule
use Rattle.read_operations.specs.in_grammar.Rules.{Rule, ◌<$>◌, ◌∣◌, such_that}
use Rattle.read_operations.specs.in_grammar.ValueGrammar.{constant}
use Rattle.read_operations.specs.in_grammar.OperationGrammar.{operation_definition, fragment_definition}
use Rattle.read_operations.specs.in_grammar.TypeSystemGrammar.{KindTree, SchemaKind, ScalarKind, ObjectKind, InterfaceKind, UnionKind, EnumKind, InputObjectKind, schema_definition, schema_extension, scalar_type, object_type, interface_type, union_type, enum_type, input_object_type, type_definition, directive_definition}
use Rattle.read_operations.specs.in_grammar.Grammar.{is_empty, has_part, described, type_system_of, extended, extension_of, type_system_definition, type_system_extension, definition}
use Rattle.round_trip.specs.Printed.{Follow, ends_word, begins_definition, ends_definition, Printed}
use Rattle.round_trip.specs.Literals.{LiteralsRead}
use Rattle.round_trip.specs.WellFormed.{is_white_prefix, directives_well_formed, input_values_well_formed, schema_well_formed, scalar_well_formed, fields_well_formed, union_well_formed, enum_well_formed, input_object_well_formed, input_values_depth, directives_depth, schema_depth, fields_depth, enum_depth, input_object_depth}
use Rattle.round_trip.specs.Definitions.{directive_definition_well_formed, definition_well_formed, definition_depth}
use Rattle.round_trip.proofs.Sequences.{before_less, seq, mapped, left, right, placed, ignored, nothing_more}
use Rattle.round_trip.proofs.Tokens.{keyword}
use Rattle.round_trip.proofs.Operations.{operation_read, fragment_read}
use Rattle.round_trip.proofs.InputValues.{described_read}
use Rattle.round_trip.proofs.TypeDefinitions.{scalar_read, union_read, object_read, interface_read, enum_read, input_object_read}
use Rattle.round_trip.proofs.Schemas.{schema_read, schema_extension_read}
use Rattle.round_trip.proofs.DirectiveDefinitions.{directive_with, directive_definition_read}

-- what may come before the end of a word may come before a definition
before_definition : {A : Type 0} {r : Rule A} {says : A → Type 0} {a : List ℕ} → Printed r says ends_word a → Printed r says ends_definition a
before_definition p = before_less ends_definition (λ following fine. (and_parts (ends_word following) (begins_definition following) fine).0) p

-- a tree that passes, where all do of which it is said
passing : {A : Type 0} {r : Rule A} {says : A → Type 0} {f : Follow} {a : List ℕ} (passes : A → Bool) → ((x : A) → says x → passes x ≡ true) → Printed r says f a → Printed (such_that passes r) says f a
passing passes so p = record {
  stands = λ following at others fine lexed.
      let b = p.stands following at others fine lexed in
      record {
        tokens = b.tokens;
        lexed = b.lexed;
        reads = λ ending last. let d = b.reads ending last in record { tree = d.tree; end = d.end; read = (d.read, so d.tree d.said); said = d.said };
      };
}

-- ---- an extension has a part

empty_map : {A B : Type 0} (u : A → B) (xs : List A) → is_empty (map u xs) ≡ is_empty xs
empty_map u [] = refl
empty_map u (x ∷ xs) = refl

-- of two lists that are the same, ignoring places, both are empty or neither is
empty_same : {A B C : Type 0} (u : A → C) (w : B → C) (xs : List A) (ys : List B) → map u xs ≡ map w ys → is_empty xs ≡ is_empty ys
empty_same {A} {B} {C} u w xs ys e = sym (empty_map u xs) ∙ ap (λ (l : List C). is_empty l) e ∙ empty_map w ys

full_one : {A : Type 0} (xs : List A) → has_some xs ≡ true → not (is_empty xs) ≡ true
full_one [] h = absurd cc
full_one (x ∷ xs) h = refl

full_two : {A B : Type 0} (xs : List A) (ys : List B) → (has_some xs || has_some ys) ≡ true → not (is_empty xs && is_empty ys) ≡ true
full_two [] [] h = absurd cc
full_two [] (y ∷ ys) h = refl
full_two (x ∷ xs) ys h = refl

full_three : {A B C : Type 0} (xs : List A) (ys : List B) (zs : List C) → (has_some xs || has_some ys || has_some zs) ≡ true → not (is_empty xs && is_empty ys && is_empty zs) ≡ true
full_three [] [] [] h = absurd cc
full_three [] [] (z ∷ zs) h = refl
full_three [] (y ∷ ys) zs h = refl
full_three (x ∷ xs) ys zs h = refl

module _ {P Q : Type 0} where
  schema_part : (x : SchemaParts P) (s : SchemaParts Q) → (has_some s.directives || has_some s.roots) ≡ true → unplaced_schema x ≡ unplaced_schema s → has_part (SchemaKind x) ≡ true
  schema_part x s h e =
      rw (empty_same _ _ x.directives s.directives (ap (λ z. z.directives) e)) (rw (empty_same _ _ x.roots s.roots (ap (λ z. z.roots) e)) (full_two s.directives s.roots h))

  scalar_part : (x : ScalarParts P) (t : ScalarParts Q) → has_some t.directives ≡ true → unplaced_scalar x ≡ unplaced_scalar t → has_part (ScalarKind x) ≡ true
  scalar_part x t h e = rw (empty_same _ _ x.directives t.directives (ap (λ z. z.directives) e)) (full_one t.directives h)

  fields_part : (x : FieldsParts P) (t : FieldsParts Q) → (has_some t.interfaces || has_some t.directives || has_some t.fields) ≡ true → unplaced_fields x ≡ unplaced_fields t
      → not (is_empty x.interfaces && is_empty x.directives && is_empty x.fields) ≡ true
  fields_part x t h e =
      rw (empty_same _ _ x.interfaces t.interfaces (ap (λ z. z.interfaces) e)) (rw (empty_same _ _ x.directives t.directives (ap (λ z. z.directives) e))
      (rw (empty_same _ _ x.fields t.fields (ap (λ z. z.fields) e)) (full_three t.interfaces t.directives t.fields h)))

  union_part : (x : UnionParts P) (t : UnionParts Q) → (has_some t.directives || has_some t.members) ≡ true → unplaced_union x ≡ unplaced_union t → has_part (UnionKind x) ≡ true
  union_part x t h e =
      rw (empty_same _ _ x.directives t.directives (ap (λ z. z.directives) e)) (rw (empty_same _ _ x.members t.members (ap (λ z. z.members) e)) (full_two t.directives t.members h))

  enum_part : (x : EnumParts P) (t : EnumParts Q) → (has_some t.directives || has_some t.values) ≡ true → unplaced_enum x ≡ unplaced_enum t → has_part (EnumKind x) ≡ true
  enum_part x t h e =
      rw (empty_same _ _ x.directives t.directives (ap (λ z. z.directives) e)) (rw (empty_same _ _ x.values t.values (ap (λ z. z.values) e)) (full_two t.directives t.values h))

  input_object_part : (x : InputObjectParts P) (t : InputObjectParts Q) → (has_some t.directives || has_some t.fields) ≡ true → unplaced_input_object x ≡ unplaced_input_object t → has_part (InputObjectKind x) ≡ true
  input_object_part x t h e =
      rw (empty_same _ _ x.directives t.directives (ap (λ z. z.directives) e)) (rw (empty_same _ _ x.fields t.fields (ap (λ z. z.fields) e)) (full_two t.directives t.fields h))

-- ---- what is read of a definition

module _ {P : Type 0} where
  -- after a description, this definition, ignoring places
  abbrev IsDescribed : Option (Text (Unit {0})) → DefinitionTree (Unit {0}) → KindTree P ⊎ DirectiveDefinitionTree P → Type 0
  IsDescribed d t z = (p : P) (o : Option (Text P)) → option_map unplaced_text o ≡ d → unplaced_definition (described p o z) ≡ t

  -- after `extend`, this extension, ignoring places, and it has a part
  abbrev IsExtended : DefinitionTree (Unit {0}) → KindTree P → Type 0
  IsExtended t k = ((p : P) → unplaced_definition (extended p k) ≡ t) × (has_part k ≡ true)

one_described : {D T : Type 0} (make : D → T → DefinitionTree (Unit {0})) (d e : D) (t u : T) → d ≡ e → t ≡ u → make d t ≡ make e u
one_described make d e t u f g = rw f (rw g refl)

module _ {P : Type 0} (m : Meaning P) (n : ℕ) where
  -- what follows a description
  abbrev described_rule : Rule (KindTree P ⊎ DirectiveDefinitionTree P)
  described_rule = inl <$> (SchemaKind <$> schema_definition m n ∣ type_definition m n) ∣ inr <$> directive_definition m n

  -- what follows `extend`
  abbrev extended_rule : Rule (KindTree P)
  extended_rule = SchemaKind <$> schema_extension m n ∣ type_definition m n

  abbrev from_enum : Rule (KindTree P)
  from_enum = EnumKind <$> enum_type m n ∣ InputObjectKind <$> input_object_type m n

  abbrev from_union : Rule (KindTree P)
  from_union = UnionKind <$> union_type m n ∣ from_enum

  abbrev from_interface : Rule (KindTree P)
  from_interface = InterfaceKind <$> interface_type m n ∣ from_union

  abbrev from_object : Rule (KindTree P)
  from_object = ObjectKind <$> object_type m n ∣ from_interface

  module _ {says : KindTree P → Type 0} {f : Follow} {a : List ℕ} where
    as_scalar : Printed (ScalarKind <$> scalar_type m n) says f a → Printed (type_definition m n) says f a
    unfolding type_definition
    as_scalar p = left from_object p

    as_object : Printed (ObjectKind <$> object_type m n) says f a → Printed (type_definition m n) says f a
    unfolding type_definition
    as_object p = right (ScalarKind <$> scalar_type m n) (left from_interface p)

    as_interface : Printed (InterfaceKind <$> interface_type m n) says f a → Printed (type_definition m n) says f a
    unfolding type_definition
    as_interface p = right (ScalarKind <$> scalar_type m n) (right (ObjectKind <$> object_type m n) (left from_union p))

    as_union : Printed (UnionKind <$> union_type m n) says f a → Printed (type_definition m n) says f a
    unfolding type_definition
    as_union p = right (ScalarKind <$> scalar_type m n) (right (ObjectKind <$> object_type m n) (right (InterfaceKind <$> interface_type m n) (left from_enum p)))

    as_enum : Printed (EnumKind <$> enum_type m n) says f a → Printed (type_definition m n) says f a
    unfolding type_definition
    as_enum p =
        right (ScalarKind <$> scalar_type m n) (right (ObjectKind <$> object_type m n) (right (InterfaceKind <$> interface_type m n) (right (UnionKind <$> union_type m n)
        (left (InputObjectKind <$> input_object_type m n) p))))

    as_input_object : Printed (InputObjectKind <$> input_object_type m n) says f a → Printed (type_definition m n) says f a
    unfolding type_definition
    as_input_object p =
        right (ScalarKind <$> scalar_type m n) (right (ObjectKind <$> object_type m n) (right (InterfaceKind <$> interface_type m n) (right (UnionKind <$> union_type m n)
        (right (EnumKind <$> enum_type m n) p))))

  -- after `extend`
  after_extend : {b : List ℕ} (t : DefinitionTree (Unit {0})) → Printed extended_rule (IsExtended t) ends_definition b → Printed (definition m n) (λ x. unplaced_definition x ≡ t) ends_definition (extend ++ b)
  unfolding definition type_system_extension words
  after_extend t p =
      right ((λ x. Operation x.place x.it) <$> rule.placed m (operation_definition m n))
      (right ((λ x. Fragment x.place x.it) <$> rule.placed m (fragment_definition m n))
      (right (type_system_definition m n)
      (mapped extension_of (λ x. unplaced_definition x ≡ t) (λ x said. said.1.0 x.place)
      (placed m (seq {f = ends_word} (λ following fine. refl) (keyword is_extend (codes "extend") refl refl) (ignored (32 ∷ []) refl (passing has_part (λ k said. said.1) p)))))))

  type_extended : {b : List ℕ} (t : DefinitionTree (Unit {0})) → Printed (type_definition m n) (IsExtended t) ends_definition b → Printed (definition m n) (λ x. unplaced_definition x ≡ t) ends_definition (extend ++ b)
  type_extended t p = after_extend t (right (SchemaKind <$> schema_extension m n) p)

module _ {P Q : Type 0} (m : Meaning P) (lits : LiteralsRead m.string) (prefix : Prefix) (white : is_white_prefix prefix ≡ true) (n level : ℕ) where
  -- ---- kinds of types

  module _ (says : KindTree P → Type 0) where
    scalar_kind : (t : ScalarParts Q) → ((x : ScalarParts P) → unplaced_scalar x ≡ unplaced_scalar t → says (ScalarKind x)) → scalar_well_formed t ≡ true → directives_writable constant t.directives ≡ true → directives_depth t.directives ≤ n
        → Printed (type_definition m n) says ends_definition (head_text (codes "scalar ") t.name [] t.directives ++ [])
    scalar_kind t so h w le = as_scalar m n (mapped ScalarKind says so (before_definition (nothing_more (scalar_read m lits t n h w le))))

    object_kind : (t : FieldsParts Q) → ((x : FieldsParts P) → unplaced_fields x ≡ unplaced_fields t → says (ObjectKind x)) → fields_well_formed t ≡ true → fields_writable t ≡ true → fields_depth t ≤ n
        → Printed (type_definition m n) says ends_definition (head_text (codes "type ") t.name t.interfaces t.directives ++ (set_text prefix level (texts_of (field_definition_text prefix) t.fields) ++ []))
    object_kind t so h w le = as_object m n (mapped ObjectKind says so (object_read m lits prefix white t n level h w le))

    interface_kind : (t : FieldsParts Q) → ((x : FieldsParts P) → unplaced_fields x ≡ unplaced_fields t → says (InterfaceKind x)) → fields_well_formed t ≡ true → fields_writable t ≡ true → fields_depth t ≤ n
        → Printed (type_definition m n) says ends_definition (head_text (codes "interface ") t.name t.interfaces t.directives ++ (set_text prefix level (texts_of (field_definition_text prefix) t.fields) ++ []))
    interface_kind t so h w le = as_interface m n (mapped InterfaceKind says so (interface_read m lits prefix white t n level h w le))

    union_kind : (t : UnionParts Q) → ((x : UnionParts P) → unplaced_union x ≡ unplaced_union t → says (UnionKind x)) → union_well_formed t ≡ true → directives_writable constant t.directives ≡ true → directives_depth t.directives ≤ n
        → Printed (type_definition m n) says ends_definition (head_text (codes "union ") t.name [] t.directives ++ (names_text (codes " = ") (codes " | ") t.members ++ []))
    union_kind t so h w le = as_union m n (mapped UnionKind says so (before_definition (union_read m lits t n h w le)))

    enum_kind : (t : EnumParts Q) → ((x : EnumParts P) → unplaced_enum x ≡ unplaced_enum t → says (EnumKind x)) → enum_well_formed t ≡ true → enum_writable t ≡ true → enum_depth t ≤ n
        → Printed (type_definition m n) says ends_definition (head_text (codes "enum ") t.name [] t.directives ++ (set_text prefix level (texts_of (enum_value_text prefix) t.values) ++ []))
    enum_kind t so h w le = as_enum m n (mapped EnumKind says so (enum_read m lits prefix white t n level h w le))

    input_object_kind : (t : InputObjectParts Q) → ((x : InputObjectParts P) → unplaced_input_object x ≡ unplaced_input_object t → says (InputObjectKind x)) → input_object_well_formed t ≡ true → input_object_writable t ≡ true → input_object_depth t ≤ n
        → Printed (type_definition m n) says ends_definition (head_text (codes "input ") t.name [] t.directives ++ (set_text prefix level (texts_of (input_value_text prefix) t.fields) ++ []))
    input_object_kind t so h w le = as_input_object m n (mapped InputObjectKind says so (input_object_read m lits prefix white t n level h w le))

  -- ---- definitions and extensions

  -- after a description
  after_description : {b : List ℕ} (d : Option (Text Q)) (t : DefinitionTree (Unit {0})) → Printed (described_rule m n) (IsDescribed (option_map unplaced_text d) t) ends_definition b
      → Printed (definition m n) (λ x. unplaced_definition x ≡ t) ends_definition (description_text prefix level d ++ b)
  unfolding definition type_system_definition
  after_description d t p =
      right ((λ x. Operation x.place x.it) <$> rule.placed m (operation_definition m n))
      (right ((λ x. Fragment x.place x.it) <$> rule.placed m (fragment_definition m n))
      (left (type_system_extension m n)
      (mapped type_system_of (λ x. unplaced_definition x ≡ t) (λ x said. said.1 x.place x.it.0 said.0) (placed m (described_read m lits prefix white level d p)))))

  type_described : {b : List ℕ} (d : Option (Text Q)) (t : DefinitionTree (Unit {0})) → Printed (type_definition m n) (λ k. IsDescribed (option_map unplaced_text d) t (inl k)) ends_definition b
      → Printed (definition m n) (λ x. unplaced_definition x ≡ t) ends_definition (description_text prefix level d ++ b)
  type_described d t p =
      after_description d t
      (left (inr <$> directive_definition m n)
      (mapped inl (IsDescribed (option_map unplaced_text d) t) (λ k said. said) (right (SchemaKind <$> schema_definition m n) p)))

  -- a definition of a directive has a location
  undescribed_read : (name : List ℕ) (vs : InputValues Q) (ds : Directives Q) (r : Bool) (ls : List DirectiveLocation) → names.is_name name ≡ true → input_values_well_formed vs ≡ true → directives_well_formed ds ≡ true → input_values_writable vs ≡ true → directives_writable constant ds ≡ true → not (is_none_of ls) ≡ true → input_values_depth vs + directives_depth ds ≤ n
      → Printed (directive_definition m n) (λ x. unplaced_directive_definition x ≡ directive_with name (map (unplaced_node unplaced_input_value) vs) (unplaced_directives ds) r ls) ends_definition
      (codes "directive @" ++ (name ++ (argument_definitions_text prefix vs level ++ (directives_text ds ++ (repeatable_text r ++ (locations_text ls ++ []))))))
  undescribed_read name vs ds r [] h1 h2 h3 w1 w2 w3 le = absurd cc
  undescribed_read name vs ds r (l ∷ ls) h1 h2 h3 w1 w2 w3 le = before_definition (directive_definition_read m lits prefix white name vs ds r l ls n level h1 h2 h3 w1 w2 le)

  directive_described : (d : DirectiveDefinitionTree Q) (p : Q) → directive_definition_well_formed d ≡ true → directive_definition_writable d ≡ true → input_values_depth d.arguments + directives_depth d.directives ≤ n
      → Printed (definition m n) (λ x. unplaced_definition x ≡ unplaced_definition (DirectiveDefinition p d)) ends_definition (directive_definition_text prefix d level)
  unfolding joined
  directive_described d p h w le =
      let (h1, formed) = and_parts (names.is_name d.name.it) (input_values_well_formed d.arguments && directives_well_formed d.directives) h in
      let (h2, h3) = and_parts (input_values_well_formed d.arguments) (directives_well_formed d.directives) formed in
      let (w1, following) = and_parts (input_values_writable d.arguments) (directives_writable constant d.directives && not (is_none_of d.locations)) w in
      let (w2, w3) = and_parts (directives_writable constant d.directives) (not (is_none_of d.locations)) following in
      let plain : DirectiveDefinitionTree (Unit {0}) = directive_with d.name.it (map (unplaced_node unplaced_input_value) d.arguments) (unplaced_directives d.directives) d.repeatable d.locations in
      after_description d.description (unplaced_definition (DirectiveDefinition p d))
      (right (inl <$> (SchemaKind <$> schema_definition m n ∣ type_definition m n))
      (mapped inr (IsDescribed (option_map unplaced_text d.description) (unplaced_definition (DirectiveDefinition p d)))
      (λ x said q o same. one_described (λ e y. DirectiveDefinition tt (record y { description = e })) (option_map unplaced_text o) (option_map unplaced_text d.description) (unplaced_directive_definition x) plain same said)
      (nothing_more (undescribed_read d.name.it d.arguments d.directives d.repeatable d.locations h1 h2 h3 w1 w2 w3 le))))

  schema_described : (d : Option (Text Q)) (s : SchemaParts Q) (p : Q) → schema_well_formed s ≡ true → schema_writable s ≡ true → schema_depth s ≤ n
      → Printed (definition m n) (λ x. unplaced_definition x ≡ unplaced_definition (Schema p d s)) ends_definition (schema_text (description_text prefix level d) prefix s level)
  unfolding joined
  schema_described d s p h w le =
      let (w1, w2) = and_parts (directives_writable constant s.directives) (has_some s.roots) w in
      after_description d (unplaced_definition (Schema p d s))
      (left (inr <$> directive_definition m n)
      (mapped inl (IsDescribed (option_map unplaced_text d) (unplaced_definition (Schema p d s))) (λ k said. said)
      (left (type_definition m n)
      (mapped SchemaKind (λ k. IsDescribed (option_map unplaced_text d) (unplaced_definition (Schema p d s)) (inl k)) (λ x said q o same. one_described (Schema tt) _ _ _ _ same said)
      (before_definition (schema_read m lits prefix white s n level h w1 w2 le))))))

  schema_extended : (s : SchemaParts Q) (p : Q) → schema_well_formed s ≡ true → schema_extension_writable s ≡ true → schema_depth s ≤ n
      → Printed (definition m n) (λ x. unplaced_definition x ≡ unplaced_definition (ExtendSchema p s)) ends_definition (schema_text extend prefix s level)
  unfolding joined
  schema_extended s p h w le =
      let (w1, w2) = and_parts (directives_writable constant s.directives) (has_some s.directives || has_some s.roots) w in
      after_extend m n (unplaced_definition (ExtendSchema p s))
      (left (type_definition m n)
      (mapped SchemaKind (IsExtended (unplaced_definition (ExtendSchema p s))) (λ x said. (λ q. ap (ExtendSchema tt) said, schema_part x s w2 said)) (schema_extension_read m lits prefix white s n level h w1 le)))

module _ {P Q : Type 0} (m : Meaning P) (lits : LiteralsRead m.string) (prefix : Prefix) (white : is_white_prefix prefix ≡ true) where
  -- each definition and extension, ignoring places
  pub definition_read : (at_start : Bool) (d : DefinitionTree Q) (n level : ℕ) → definition_well_formed d ≡ true → definition_writable d ≡ true → definition_depth d ≤ n
      → Printed (definition m n) (λ x. unplaced_definition x ≡ unplaced_definition d) ends_definition (definition_text at_start prefix d level)
  unfolding definition joined
  definition_read at_start (Operation p o) n level h w le =
      left ((λ x. Fragment x.place x.it) <$> rule.placed m (fragment_definition m n) ∣ type_system_definition m n ∣ type_system_extension m n)
      (mapped (λ x. Operation x.place x.it) (λ x. unplaced_definition x ≡ unplaced_definition (Operation p o)) (λ x said. ap (Operation tt) said) (placed m (before_definition (operation_read m lits prefix white at_start o n level h w le))))
  definition_read at_start (Fragment p f) n level h w le =
      right ((λ x. Operation x.place x.it) <$> rule.placed m (operation_definition m n))
      (left (type_system_definition m n ∣ type_system_extension m n)
      (mapped (λ x. Fragment x.place x.it) (λ x. unplaced_definition x ≡ unplaced_definition (Fragment p f)) (λ x said. ap (Fragment tt) said) (placed m (before_definition (fragment_read m lits prefix white f n level h w le)))))
  definition_read at_start (DirectiveDefinition p d) n level h w le = directive_described m lits prefix white n level d p h w le
  definition_read at_start (Schema p d s) n level h w le = schema_described m lits prefix white n level d s p h w le
  definition_read at_start (ScalarType p d t) n level h w le =
      let wanted : DefinitionTree (Unit {0}) = unplaced_definition (ScalarType p d t) in
      type_described m lits prefix white n level d wanted
      (scalar_kind m lits prefix white n level (λ k. IsDescribed (option_map unplaced_text d) wanted (inl k)) t (λ x said q o same. one_described (ScalarType tt) _ _ _ _ same said) h w le)
  definition_read at_start (ObjectType p d t) n level h w le =
      let wanted : DefinitionTree (Unit {0}) = unplaced_definition (ObjectType p d t) in
      type_described m lits prefix white n level d wanted
      (object_kind m lits prefix white n level (λ k. IsDescribed (option_map unplaced_text d) wanted (inl k)) t (λ x said q o same. one_described (ObjectType tt) _ _ _ _ same said) h w le)
  definition_read at_start (InterfaceType p d t) n level h w le =
      let wanted : DefinitionTree (Unit {0}) = unplaced_definition (InterfaceType p d t) in
      type_described m lits prefix white n level d wanted
      (interface_kind m lits prefix white n level (λ k. IsDescribed (option_map unplaced_text d) wanted (inl k)) t (λ x said q o same. one_described (InterfaceType tt) _ _ _ _ same said) h w le)
  definition_read at_start (UnionType p d t) n level h w le =
      let wanted : DefinitionTree (Unit {0}) = unplaced_definition (UnionType p d t) in
      type_described m lits prefix white n level d wanted
      (union_kind m lits prefix white n level (λ k. IsDescribed (option_map unplaced_text d) wanted (inl k)) t (λ x said q o same. one_described (UnionType tt) _ _ _ _ same said) h w le)
  definition_read at_start (EnumType p d t) n level h w le =
      let wanted : DefinitionTree (Unit {0}) = unplaced_definition (EnumType p d t) in
      type_described m lits prefix white n level d wanted
      (enum_kind m lits prefix white n level (λ k. IsDescribed (option_map unplaced_text d) wanted (inl k)) t (λ x said q o same. one_described (EnumType tt) _ _ _ _ same said) h w le)
  definition_read at_start (InputObjectType p d t) n level h w le =
      let wanted : DefinitionTree (Unit {0}) = unplaced_definition (InputObjectType p d t) in
      type_described m lits prefix white n level d wanted
      (input_object_kind m lits prefix white n level (λ k. IsDescribed (option_map unplaced_text d) wanted (inl k)) t (λ x said q o same. one_described (InputObjectType tt) _ _ _ _ same said) h w le)
  definition_read at_start (ExtendSchema p s) n level h w le = schema_extended m lits prefix white n level s p h w le
  definition_read at_start (ExtendScalar p t) n level h w le =
      let (w1, w2) = and_parts (directives_writable constant t.directives) (has_some t.directives) w in
      let wanted : DefinitionTree (Unit {0}) = unplaced_definition (ExtendScalar p t) in
      type_extended m n wanted (scalar_kind m lits prefix white n level (IsExtended wanted) t (λ x said. (λ q. ap (ExtendScalar tt) said, scalar_part x t w2 said)) h w1 le)
  definition_read at_start (ExtendObject p t) n level h w le =
      let (w1, w2) = and_parts (fields_writable t) (has_some t.interfaces || has_some t.directives || has_some t.fields) w in
      let wanted : DefinitionTree (Unit {0}) = unplaced_definition (ExtendObject p t) in
      type_extended m n wanted (object_kind m lits prefix white n level (IsExtended wanted) t (λ x said. (λ q. ap (ExtendObject tt) said, fields_part x t w2 said)) h w1 le)
  definition_read at_start (ExtendInterface p t) n level h w le =
      let (w1, w2) = and_parts (fields_writable t) (has_some t.interfaces || has_some t.directives || has_some t.fields) w in
      let wanted : DefinitionTree (Unit {0}) = unplaced_definition (ExtendInterface p t) in
      type_extended m n wanted (interface_kind m lits prefix white n level (IsExtended wanted) t (λ x said. (λ q. ap (ExtendInterface tt) said, fields_part x t w2 said)) h w1 le)
  definition_read at_start (ExtendUnion p t) n level h w le =
      let (w1, w2) = and_parts (directives_writable constant t.directives) (has_some t.directives || has_some t.members) w in
      let wanted : DefinitionTree (Unit {0}) = unplaced_definition (ExtendUnion p t) in
      type_extended m n wanted (union_kind m lits prefix white n level (IsExtended wanted) t (λ x said. (λ q. ap (ExtendUnion tt) said, union_part x t w2 said)) h w1 le)
  definition_read at_start (ExtendEnum p t) n level h w le =
      let (w1, w2) = and_parts (enum_writable t) (has_some t.directives || has_some t.values) w in
      let wanted : DefinitionTree (Unit {0}) = unplaced_definition (ExtendEnum p t) in
      type_extended m n wanted (enum_kind m lits prefix white n level (IsExtended wanted) t (λ x said. (λ q. ap (ExtendEnum tt) said, enum_part x t w2 said)) h w1 le)
  definition_read at_start (ExtendInputObject p t) n level h w le =
      let (w1, w2) = and_parts (input_object_writable t) (has_some t.directives || has_some t.fields) w in
      let wanted : DefinitionTree (Unit {0}) = unplaced_definition (ExtendInputObject p t) in
      type_extended m n wanted (input_object_kind m lits prefix white n level (IsExtended wanted) t (λ x said. (λ q. ap (ExtendInputObject tt) said, input_object_part x t w2 said)) h w1 le)
