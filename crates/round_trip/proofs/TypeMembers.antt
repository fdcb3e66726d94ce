-- Definitions of fields, enum values and root operations are read as they are printed, under both kinds of layout.
use Rattle.std.proofs.Common.{◌≡◌, ◌≤◌, ℕ, true, List, [], ◌∷◌, ◌++◌, Option, refl, arith}
use Rattle.std.proofs.lemmas.Bool.{and_parts}
use Rattle.round_trip.specs.in_literals.Joined.{joined}
use Rattle.round_trip.specs.in_literals.LineLayout.{Prefix}
use Rattle.read_operations.specs.in_literals.ValueLayout.{type_text}
use Rattle.read_operations.specs.in_directives.DirectiveLayout.{directives_text}
use Rattle.read_operations.specs.in_directives.InputLayout.{argument_definitions_text}
use Rattle.read_operations.specs.in_directives.declared.operation_type.OperationType.{OperationType}
use Rattle.read_operations.specs.in_type_members.TypeSystemLayout.{field_definition_text, enum_value_text, root_text}
use Rattle.read_operations.specs.in_type_members.PartsWritable.{field_definition_writable, enum_value_writable}
use Rattle.graphql_names.specs.Placed.{Placed, Text}
use Rattle.read_operations.specs.in_literals.TypeTree.{TypeTree}
use Rattle.read_operations.specs.in_directives.DirectiveTree.{Directives, InputValues}
use Rattle.read_operations.specs.in_type_members.TypeSystemTree.{FieldDefinitionTree, EnumValueTree, RootOperationTree, unplaced_field_definition, unplaced_enum_value, unplaced_root}
use Rattle.read_operations.specs.in_grammar.Meaning.{Meaning}
use Rattle.read_operations.specs.in_grammar.Kinds.{is_enum_value}
use Rattle.read_operations.specs.in_grammar.ValueGrammar.{constant}
use Rattle.read_operations.specs.in_grammar.TypeSystemGrammar.{field_definition_of, enum_value_definition_of, root_of, field_definition, enum_value_definition, root_operation_type_definition}
use Rattle.round_trip.specs.Printed.{any, ends_word, Printed}
use Rattle.round_trip.specs.Literals.{LiteralsRead}
use Rattle.round_trip.specs.WellFormed.{is_white_prefix, field_definition_well_formed, enum_value_well_formed, root_well_formed, field_definition_depth, enum_value_depth}
use Rattle.round_trip.proofs.Sequences.{ends_before, seq, seq_word, mapped, ignored, nothing_more}
use Rattle.round_trip.proofs.Tokens.{any_name, named}
use Rattle.round_trip.proofs.Punctuators.{colon}
use Rattle.round_trip.proofs.Literals.{spelled_enum}
use Rattle.round_trip.proofs.Types.{type_read}
use Rattle.round_trip.proofs.Directives.{directives_read, directives_end}
use Rattle.round_trip.proofs.Operations.{operation_type_read}
use Rattle.round_trip.proofs.InputValues.{described_read, argument_definitions_read, argument_definitions_end}

abbrev field_with : Option (Text (Unit {0})) → List ℕ → InputValues (Unit {0}) → TypeTree (Unit {0}) → Directives (Unit {0}) → FieldDefinitionTree (Unit {0})
field_with d n vs t ds = record { description = d; name = record { it = n; place = tt }; arguments = vs; ty = t; directives = ds }

one_field_definition : (d e : Option (Text (Unit {0}))) (l n : List ℕ) (vs ws : InputValues (Unit {0})) (t u : TypeTree (Unit {0})) (ds es : Directives (Unit {0})) → d ≡ e → l ≡ n → vs ≡ ws → t ≡ u → ds ≡ es → field_with d l vs t ds ≡ field_with e n ws u es
one_field_definition d e l n vs ws t u ds es e0 e1 e2 e3 e4 = rw e0 (rw e1 (rw e2 (rw e3 (rw e4 refl))))

abbrev enum_value_with : Option (Text (Unit {0})) → List ℕ → Directives (Unit {0}) → EnumValueTree (Unit {0})
enum_value_with d n ds = record { description = d; value = record { it = n; place = tt }; directives = ds }

one_enum_value : (d e : Option (Text (Unit {0}))) (l n : List ℕ) (ds es : Directives (Unit {0})) → d ≡ e → l ≡ n → ds ≡ es → enum_value_with d l ds ≡ enum_value_with e n es
one_enum_value d e l n ds es e0 e1 e2 = rw e0 (rw e1 (rw e2 refl))

abbrev root_with : OperationType → List ℕ → RootOperationTree (Unit {0})
root_with t n = record { operation_type = t; name = record { it = n; place = tt } }

one_root : (t u : OperationType) (l n : List ℕ) → t ≡ u → l ≡ n → root_with t l ≡ root_with u n
one_root t u l n e f = rw e (rw f refl)

module _ {P Q : Type 0} (m : Meaning P) (lits : LiteralsRead m.string) (prefix : Prefix) (white : is_white_prefix prefix ≡ true) where
  pub field_definition_read : (n level : ℕ) (f : Placed Q (FieldDefinitionTree Q)) → field_definition_well_formed f ≡ true → field_definition_writable f.it ≡ true → field_definition_depth f ≤ n
      → Printed (field_definition m n) (λ x. unplaced_field_definition x ≡ unplaced_field_definition f.it) ends_word (field_definition_text prefix f.it level)
  unfolding joined field_definition
  field_definition_read n level f h w le =
      let (h123, h4) = and_parts _ _ h in
      let (h12, h3) = and_parts _ _ h123 in
      let (h1, h2) = and_parts _ _ h12 in
      let (w1, w2) = and_parts _ _ w in
      let ds : List ℕ = directives_text f.it.directives ++ [] in
      let end1 : ends_word ds ≡ true = ends_before (directives_text f.it.directives) [] (directives_end m lits f.it.directives) refl in
      let end2 : ends_word (argument_definitions_text prefix f.it.arguments level ++ (58 ∷ 32 ∷ (type_text f.it.ty ++ ds))) ≡ true = ends_before (argument_definitions_text prefix f.it.arguments level) (58 ∷ 32 ∷ (type_text f.it.ty ++ ds)) (argument_definitions_end m lits prefix f.it.arguments level) refl in
      mapped field_definition_of (λ x. unplaced_field_definition x ≡ unplaced_field_definition f.it) (λ x said. one_field_definition _ _ _ _ _ _ _ _ _ _ said.0 said.1.0 said.1.1.0 said.1.1.1.1.0 said.1.1.1.1.1)
      (described_read m lits prefix white level f.it.description
      (nothing_more
      (seq_word end2 (any_name m f.it.name.it h1)
      (seq {f = ends_word} (λ following fine. refl) (argument_definitions_read m lits prefix white f.it.arguments n level h2 w1 (omega arith))
      (seq {f = any} (λ following fine. refl) colon
      (ignored (32 ∷ []) refl
      (seq_word end1 (type_read m f.it.ty n h3 (omega arith))
      (nothing_more (directives_read m lits constant f.it.directives n h4 w2 (omega arith))))))))))

  pub enum_value_read : (n level : ℕ) (v : Placed Q (EnumValueTree Q)) → enum_value_well_formed v ≡ true → enum_value_writable v.it ≡ true → enum_value_depth v ≤ n
      → Printed (enum_value_definition m n) (λ x. unplaced_enum_value x ≡ unplaced_enum_value v.it) ends_word (enum_value_text prefix v.it level)
  unfolding joined enum_value_definition
  enum_value_read n level v h w le =
      let (h1, h2) = and_parts _ _ h in
      let (w1, w2) = and_parts _ _ w in
      let end1 : ends_word (directives_text v.it.directives ++ []) ≡ true = ends_before (directives_text v.it.directives) [] (directives_end m lits v.it.directives) refl in
      mapped enum_value_definition_of (λ x. unplaced_enum_value x ≡ unplaced_enum_value v.it) (λ x said. one_enum_value _ _ _ _ _ _ said.0 said.1.0 said.1.1)
      (described_read m lits prefix white level v.it.description
      (seq_word end1 (named m is_enum_value v.it.value.it h1 (spelled_enum v.it.value.it w1))
      (nothing_more (directives_read m lits constant v.it.directives n h2 w2 le))))

module _ {P Q : Type 0} (m : Meaning P) where
  pub root_read : (level : ℕ) (r : Placed Q (RootOperationTree Q)) → root_well_formed r ≡ true → Printed (root_operation_type_definition m) (λ x. unplaced_root x ≡ unplaced_root r.it) ends_word (root_text r.it level)
  unfolding joined root_operation_type_definition
  root_read level r h =
      mapped root_of (λ x. unplaced_root x ≡ unplaced_root r.it) (λ x said. one_root _ _ _ _ said.0 said.1.1)
      (seq {f = ends_word} (λ following fine. refl) (operation_type_read r.it.operation_type)
      (seq {f = any} (λ following fine. refl) colon (ignored (32 ∷ []) refl (nothing_more (any_name m r.it.name.it h)))))
