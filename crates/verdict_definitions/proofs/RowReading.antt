-- How the text of a row is read: its tree, or its fault, is what the reference parser answers by computation.
use Rattle.std.proofs.Common.{◌≡◌, ℕ, List, [], ◌∷◌, Ok, Err, Option, Some, None, refl, ap, subst, ◌∙◌}
use Rattle.graphql_faults.specs.in_tokens.Input.{Token, Input}
use Rattle.graphql_faults.specs.in_tokens.Bytes.{run_len}
use Rattle.graphql_faults.specs.in_tokens.Numbers.{whole_len, digits_after, fraction_len, exponent_len, number_at}
use Rattle.graphql_faults.specs.in_tokens.Strings.{unicode_at, escape_at, part_len, quoted_len}
use Rattle.graphql_faults.specs.in_tokens.Tokens.{ignored_at, string_at, token_at}
use Rattle.graphql_faults.specs.in_tokens.Terminals.{words}
use Rattle.graphql_faults.specs.in_tokens.Lex.{piece_at}
use Rattle.graphql_faults.specs.in_tokens.Cursor.{rest_from}
use Rattle.graphql_faults.proofs.in_tokens.Lexed.{ends_as, lex_unique}
use Rattle.graphql_faults.specs.in_grammar.Locations.{location_of}
use Rattle.graphql_faults.specs.in_grammar.Faults as read
use Rattle.graphql_faults.specs.in_grammar.Stops.{fault_of}
use Rattle.graphql_faults.specs.in_grammar.Reading.{Outcome, whole, take, many, many_within, some}
use Rattle.graphql_faults.specs.in_grammar.ValueReading as v
use Rattle.graphql_faults.specs.in_grammar.OperationReading as o
use Rattle.graphql_faults.specs.in_grammar.TypeSystemReading as y
use Rattle.graphql_faults.specs.in_grammar.DocumentReading as d
use Rattle.graphql_faults.proofs.in_grammar.Documents.{document_parses}
use Rattle.graphql_faults.proofs.in_grammar.ViableDocuments.{document_viable}
use Rattle.graphql_faults.proofs.in_grammar.Laws.{one_document}
use Rattle.graphql_faults.specs.in_read_operations.Meanings.{in_file}
use Rattle.graphql_faults.specs.in_read.Calls.{all_of}
use Rattle.graphql_faults.specs.in_read.Reads.{ReadsWithin, IsDue}
use Rattle.graphql_faults.proofs.in_read.Texts.{found, due}
use Rattle.graphql_faults.proofs.in_read.Bounds.{not_passed}
use Rattle.verdict_definitions.specs.Texts.{Tree, DerivesIn, ReadsText, ReadsAll, PassesNumbers, IsWithin}

-- what a row opens to compute its answer
unfoldable pub reader : Unit {0}
unfolding rest_from piece_at run_len ignored_at token_at number_at whole_len digits_after fraction_len exponent_len string_at quoted_len part_len escape_at unicode_at words whole take many many_within some location_of v.name v.variable v.int_value v.float_value v.string_value v.boolean_value v.null_value v.enum_value v.list_value v.object_field v.object_value v.any_value v.value v.default_value v.argument v.arguments v.directive v.directives v.any_type v.type o.operation_type o.alias_and_name o.field o.fragment_name o.type_condition o.dotted o.selection o.selection_list o.selection_set o.selections o.variable_definition o.variable_definitions o.operation_definition o.fragment_definition y.directive_location y.directive_locations y.description y.root_operation_type_definition y.roots y.schema_definition y.scalar_type y.implements_interfaces y.input_value_definition y.arguments_definition y.field_definition y.fields_definition y.object_type y.interface_type y.union_member_types y.union_type y.enum_value_definition y.enum_values_definition y.enum_type y.input_fields_definition y.input_object_type y.type_definition y.directive_definition y.schema_extension d.undescribed d.type_system_definition d.extension d.type_system_extension d.definition d.document
reader = tt

abbrev input_of : List ℕ → Input
input_of text = record { last = 0; ahead = (rest_from 0 0 text).tokens; ending = (rest_from 0 0 text).ending }

-- what the reference parser answers of the text with this number
abbrev pub answer : ℕ → ℕ → List ℕ → Outcome Tree
answer nesting number text = all_of (d.document (in_file (record { 0 = number })) nesting) (input_of text)

-- the tree that it finds
abbrev pub tree_in : Outcome Tree → Option Tree
tree_in (Ok p) = Some p.0
tree_in (Err f) = None

-- the fault that it finds
abbrev pub fault_in : Outcome Tree → Option read.Fault
fault_in (Ok p) = None
fault_in (Err f) = Some (fault_of f.0 f.1)

module _ (nesting number : ℕ) (text : List ℕ) where
  read_within : (tree : Tree) → tree_in (answer nesting number text) ≡ Some tree → ReadsWithin (DerivesIn number) nesting text tree
  read_within tree e = by (answer nesting number text) refl e
    where
      same : (x : Tree) → Some x ≡ Some tree → x ≡ tree
      same x h = cc

      by : (a : Outcome Tree) → answer nesting number text ≡ a → tree_in a ≡ Some tree → ReadsWithin (DerivesIn number) nesting text tree
      by (Ok p) is h =
          found (document_parses (in_file (record { 0 = number }))) refl nesting text (input_of text) refl (ends_as text) tree p.1
          (is ∙ ap (λ (x : Tree). Ok (x, p.1)) (same p.0 h))
      by (Err f) is h = absurd cc

  -- the text has this tree
  pub reads : (tree : Tree) → tree_in (answer nesting number text) ≡ Some tree → ReadsText number text tree
  reads tree e = (read_within tree e).reads

  -- it passes no bound
  pub is_within : (tree : Tree) → tree_in (answer nesting number text) ≡ Some tree → (PassesNumbers number → ⊥) → IsWithin nesting number text
  is_within tree e left = record { nests = not_passed (DerivesIn number) nesting text tree (read_within tree e); numbered = left }

  -- this fault is due of the text
  pub is_due : (fault : read.Fault) → fault_in (answer nesting number text) ≡ Some fault → IsDue (DerivesIn number) nesting text fault
  is_due fault e = by (answer nesting number text) refl e
    where
      same : (x : read.Fault) → Some x ≡ Some fault → x ≡ fault
      same x h = cc

      by : (a : Outcome Tree) → answer nesting number text ≡ a → fault_in a ≡ Some fault → IsDue (DerivesIn number) nesting text fault
      by (Ok p) is h = absurd cc
      by (Err f) is h =
          subst (IsDue (DerivesIn number) nesting text) (same (fault_of f.0 f.1) h)
          (due (document_parses (in_file (record { 0 = number }))) refl nesting text (input_of text) refl (ends_as text) (document_viable (in_file (record { 0 = number }))) refl f.0 f.1 (λ some. is))

-- ---- one tree

-- a text has one tree
pub one_tree : (number : ℕ) (text : List ℕ) (tree other : Tree) → ReadsText number text tree → ReadsText number text other → other ≡ tree
one_tree number text tree other r s =
    let same : s.tokens ≡ r.tokens = lex_unique text s.tokens r.tokens s.lexed r.lexed in
    one_document (in_file (record { 0 = number })) r.tokens other tree (subst (λ (ts : List Token). DerivesIn number ts other) same s.derived) r.derived

-- so has a list of one text
pub one_list : (first : ℕ) (text : List ℕ) (tree : Tree) (others : List Tree) → ReadsText first text tree → ReadsAll first (text ∷ []) others → others ≡ tree ∷ []
one_list first text tree [] r s = absurd s
one_list first text tree (other ∷ []) r s = ap (λ (t : Tree). t ∷ []) (one_tree first text tree other r s.0)
one_list first text tree (other ∷ (another ∷ others)) r s = absurd s.1
