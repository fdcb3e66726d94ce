-- Definitions of schemas, after their descriptions, are read as they are printed, under both kinds of layout.
use Rattle.std.proofs.Common.{◌≡◌, ◌≤◌, ◌+◌, ℕ, zero, suc, true, List, [], ◌∷◌, ◌++◌, map, codes, refl, arith}
use Rattle.std.specs.List.{list_all}
use Rattle.std.proofs.lemmas.Bool.{and_parts}
use Rattle.round_trip.specs.in_literals.Joined.{joined}
use Rattle.round_trip.specs.in_literals.LineLayout.{Prefix, set_text, texts_of}
use Rattle.read_operations.specs.in_directives.DirectiveLayout.{directives_text}
use Rattle.read_operations.specs.in_type_members.TypeSystemLayout.{root_text}
use Rattle.read_operations.specs.in_type_members.PartsWritable.{has_some}
use Rattle.graphql_names.specs.Placed.{Placed, unplaced_node}
use Rattle.read_operations.specs.in_values.Writable.{directives_writable}
use Rattle.read_operations.specs.in_directives.DirectiveTree.{Directives}
use Rattle.read_operations.specs.in_type_members.TypeSystemTree.{RootOperationTree, SchemaParts, unplaced_root, unplaced_schema}
use Rattle.read_operations.specs.in_tokens.Terminals.{words}
use Rattle.read_operations.specs.in_grammar.Meaning.{Meaning}
use Rattle.read_operations.specs.in_grammar.Kinds.{is_schema, is_open_brace}
use Rattle.read_operations.specs.in_grammar.Rules.{optional_unless}
use Rattle.read_operations.specs.in_grammar.ValueGrammar.{constant}
use Rattle.read_operations.specs.in_grammar.TypeSystemGrammar.{schema_of, schema_extension_of, root_operation_type_definition, roots, schema_definition, schema_extension}
use Rattle.round_trip.specs.Printed.{any, ends_word, ends_definition, Printed}
use Rattle.round_trip.specs.Literals.{LiteralsRead}
use Rattle.round_trip.specs.WellFormed.{is_white_prefix, root_well_formed, schema_well_formed, schema_depth}
use Rattle.round_trip.proofs.Sequences.{ends_before, seq_word, mapped, nothing_more, before_any}
use Rattle.round_trip.proofs.Tokens.{keyword}
use Rattle.round_trip.proofs.Nodes.{EachRead, AreAny}
use Rattle.round_trip.proofs.Directives.{directives_read, directives_end}
use Rattle.round_trip.proofs.Lines.{set_ends}
use Rattle.round_trip.proofs.TypeMembers.{root_read}
use Rattle.round_trip.proofs.Following.{braced_nodes, part_left_out, part_there}
use Rattle.round_trip.proofs.TypeDefinitions.{before_part}

abbrev schema_with : Directives (Unit {0}) → List (Placed (Unit {0}) (RootOperationTree (Unit {0}))) → SchemaParts (Unit {0})
schema_with ds rs = record { directives = ds; roots = rs }

one_schema : (ds es : Directives (Unit {0})) (rs qs : List (Placed (Unit {0}) (RootOperationTree (Unit {0})))) → ds ≡ es → rs ≡ qs → schema_with ds rs ≡ schema_with es qs
one_schema ds es rs qs e f = rw e (rw f refl)

module _ {P Q : Type 0} (m : Meaning P) where
  each_root : (level : ℕ) (rs : List (Placed Q (RootOperationTree Q))) → list_all root_well_formed rs ≡ true → EachRead m (root_operation_type_definition m) unplaced_root unplaced_root (λ r. root_text r level) rs
  each_root level [] h = tt
  each_root level (r ∷ rs) h = let (h1, h2) = and_parts (root_well_formed r) (list_all root_well_formed rs) h in (root_read m level r h1, each_root level rs h2)

  module _ (prefix : Prefix) (white : is_white_prefix prefix ≡ true) where
    roots_read : (r : Placed Q (RootOperationTree Q)) (rs : List (Placed Q (RootOperationTree Q))) (n level : ℕ) → list_all root_well_formed (r ∷ rs) ≡ true
        → Printed (roots m (suc n)) (λ xs. map (unplaced_node unplaced_root) xs ≡ map (unplaced_node unplaced_root) (r ∷ rs)) any (set_text prefix level (texts_of root_text (r ∷ rs)))
    unfolding roots
    roots_read r rs n level h = braced_nodes m (root_operation_type_definition m) unplaced_root unplaced_root root_text prefix white level r rs (each_root (level + 1) (r ∷ rs) h)

    full_roots_read : (rs : List (Placed Q (RootOperationTree Q))) (n level : ℕ) → list_all root_well_formed rs ≡ true → has_some rs ≡ true
        → Printed (roots m (suc n)) (λ xs. map (unplaced_node unplaced_root) xs ≡ map (unplaced_node unplaced_root) rs) ends_word (set_text prefix level (texts_of root_text rs))
    full_roots_read [] n level h some = absurd cc
    full_roots_read (r ∷ rs) n level h some = before_any (roots_read r rs n level h)

    pub roots_part : (rs : List (Placed Q (RootOperationTree Q))) (n level : ℕ) → list_all root_well_formed rs ≡ true
        → Printed (optional_unless is_open_brace (roots m (suc n))) (AreAny unplaced_root (map (unplaced_node unplaced_root) rs)) ends_definition (set_text prefix level (texts_of root_text rs))
    unfolding joined
    roots_part [] n level h = part_left_out unplaced_root (roots m (suc n))
    roots_part (r ∷ rs) n level h = part_there unplaced_root (map (unplaced_node unplaced_root) (r ∷ rs)) (roots_read r rs n level h)

module _ {P Q : Type 0} (m : Meaning P) (lits : LiteralsRead m.string) (prefix : Prefix) (white : is_white_prefix prefix ≡ true) where
  pub schema_read : (s : SchemaParts Q) (n level : ℕ) → schema_well_formed s ≡ true → directives_writable constant s.directives ≡ true → has_some s.roots ≡ true → schema_depth s ≤ n
      → Printed (schema_definition m n) (λ x. unplaced_schema x ≡ unplaced_schema s) ends_word (codes "schema" ++ (directives_text s.directives ++ (set_text prefix level (texts_of root_text s.roots) ++ [])))
  unfolding words schema_definition
  schema_read s zero level h w some le = absurd (omega arith)
  schema_read s (suc n) level h w some le =
      let (h1, h2) = and_parts _ _ h in
      let set : List ℕ = set_text prefix level (texts_of root_text s.roots) in
      let end1 : ends_word (set ++ []) ≡ true = ends_before set [] (set_ends prefix level (texts_of root_text s.roots)) refl in
      let end2 : ends_word (directives_text s.directives ++ (set ++ [])) ≡ true = ends_before (directives_text s.directives) (set ++ []) (directives_end m lits s.directives) end1 in
      mapped schema_of (λ x. unplaced_schema x ≡ unplaced_schema s) (λ x said. one_schema _ _ _ _ said.1.0 said.1.1)
      (seq_word end2 (keyword is_schema (codes "schema") refl refl)
      (seq_word end1 (directives_read m lits constant s.directives (suc n) h1 w (omega arith)) (nothing_more (full_roots_read m prefix white s.roots n level h2 some))))

  pub schema_extension_read : (s : SchemaParts Q) (n level : ℕ) → schema_well_formed s ≡ true → directives_writable constant s.directives ≡ true → schema_depth s ≤ n
      → Printed (schema_extension m n) (λ x. unplaced_schema x ≡ unplaced_schema s) ends_definition (codes "schema" ++ (directives_text s.directives ++ (set_text prefix level (texts_of root_text s.roots) ++ [])))
  unfolding words schema_extension
  schema_extension_read s zero level h w le = absurd (omega arith)
  schema_extension_read s (suc n) level h w le =
      let (h1, h2) = and_parts _ _ h in
      let set : List ℕ = set_text prefix level (texts_of root_text s.roots) in
      let end1 : ends_word (set ++ []) ≡ true = ends_before set [] (set_ends prefix level (texts_of root_text s.roots)) refl in
      let end2 : ends_word (directives_text s.directives ++ (set ++ [])) ≡ true = ends_before (directives_text s.directives) (set ++ []) (directives_end m lits s.directives) end1 in
      mapped schema_extension_of (λ x. unplaced_schema x ≡ unplaced_schema s) (λ x said. one_schema _ _ _ _ said.1.0 said.1.1)
      (before_part end2 (keyword is_schema (codes "schema") refl refl)
      (before_part end1 (directives_read m lits constant s.directives (suc n) h1 w (omega arith)) (nothing_more (roots_part m prefix white s.roots n level h2))))
