-- A printed text that reads as one tree alone is read again as that tree, or a limit keeps it from being read.
use Rattle.std.proofs.Common.{◌≡◌, ℕ, ◌≤◌, true, List, [], ◌∷◌, Result, Ok, Err, refl, sym, ap, subst, ◌∙◌, append_assoc, append-nil, map}
use Rattle.std.proofs.lemmas.Bool.{and_parts}
use Rattle.std.specs.Prelude.{IfOk, IfErr, None}
use Rattle.std.specs.List.{list_all}
use Rattle.graphql_names.specs.declared.span.FileId.{FileId}
use Rattle.tree_literals.specs.Joined.{joined}
use Rattle.tree_literals.specs.LineLayout.{Prefix, standing}
use Rattle.tree_literals.specs.ValueLayout.{type_text}
use Rattle.tree_literals.specs.TypeTree.{type_tree, unplaced_type}
use Rattle.tree_literals.specs.declared.ty.«Type».{«Type»}
use Rattle.graphql_read.specs.in_tokens.Input.{Token, Ended, NoTokenAt}
use Rattle.tree_definitions.specs.DefinitionTree.{definition_tree, unplaced_document}
use Rattle.tree_definitions.specs.DocumentLayout.{document_text}
use Rattle.tree_definitions.specs.Writable.{has_some, definition_writable, document_writable}
use Rattle.tree_definitions.specs.declared.definition.Definition.{Definition}
use Rattle.graphql_read.specs.in_grammar.Depth.{depth}
use Rattle.graphql_read.specs.in_grammar.Faults as faults
use Rattle.graphql_read.specs.in_grammar.Faults.{Symbol, IsTooDeep}
use Rattle.graphql_read.specs.in_grammar.Grammar.{Derives, DerivesType}
use Rattle.graphql_read.specs.in_read_operations.Meanings.{in_file}
use Rattle.graphql_read.specs.declared.fault.SyntaxFaultKind.{SyntaxFaultKind}
use Rattle.graphql_read.specs.declared.fault.SyntaxFaultKind.TheVariants.{NoToken, Unexpected, End}
use Rattle.graphql_read.specs.declared.fault.ReadFault.{ReadFault}
use Rattle.graphql_read.specs.declared.fault.ReadFault.TheVariants.{Syntax, Nesting, Memory}
use Rattle.graphql_read.specs.ReadFaults.{fault_at, fault_view, IsTreeUnlessMemory}
use Rattle.graphql_read.specs.Reads.{ReadsWithin, IsDue}
use Rattle.graphql_read.proofs.Endings.{ends_whole}
use Rattle.round_trip.specs.WellFormed.{is_white_prefix}
use Rattle.round_trip.specs.ReadsAlone.{ReadsAlone}
use Rattle.round_trip.proofs.Alone.{literals_read, type_alone, document_alone}
use Rattle.round_trip.specs.ReadsAgain.{IsLimit, IsSameUnlessLimit}
use Rattle.round_trip.proofs.WellFormed.{type_formed}
use Rattle.round_trip.proofs.WellFormedDefinitions.{definitions_formed}

-- ---- any symbol

memory_alone : (kind : SyntaxFaultKind) (offset : ℕ) → fault_at kind offset ≡ faults.Memory → ⊥
memory_alone NoToken offset e = absurd cc
memory_alone Unexpected offset e = absurd cc
memory_alone End offset e = absurd cc

is_memory : (e : ReadFault) → fault_view e ≡ faults.Memory → e ≡ Memory
is_memory Memory same = refl
is_memory (Nesting offset) same = absurd cc
is_memory (Syntax f) same = absurd (memory_alone f.kind f.offset same)

module _ {X A B : Type 0} (symbol : Symbol A) (unplaced : A → B) (view : X → A) (nesting : ℕ) (text : List ℕ) (printed : B) (r : ReadsAlone symbol unplaced text printed) where
  no_syntax : (kind : SyntaxFaultKind) (offset : ℕ) → IsDue symbol nesting text (fault_at kind offset) → ⊥
  no_syntax NoToken offset due =
      let w = ends_whole text due.tokens due.ending r.tokens due.lexed r.lexed in
      let bad : Ended w.0 ≡ NoTokenAt offset = sym w.1 ∙ due.says.0 in
      absurd cc
  no_syntax Unexpected offset due =
      let w = ends_whole text due.tokens due.ending r.tokens due.lexed r.lexed in
      let s = due.says.stands in
      due.says.begins_none s.rest r.tree
      (subst (λ (ts : List Token). symbol ts r.tree) (w.2 ∙ s.parts ∙ sym (append_assoc due.says.front (due.says.token ∷ []) s.rest)) r.derived)
  no_syntax End offset due =
      let w = ends_whole text due.tokens due.ending r.tokens due.lexed r.lexed in
      due.says.1 r.tree (subst (λ (ts : List Token). symbol ts r.tree) w.2 r.derived)

  limit : (e : ReadFault) → IsDue symbol nesting text (fault_view e) → IsLimit nesting text e
  limit Memory due = tt
  limit (Nesting offset) due =
      let w = ends_whole text due.tokens due.ending r.tokens due.lexed r.lexed in
      (r.tokens, r.lexed, subst (λ (ts : List Token). IsTooDeep ts nesting offset) (sym w.2) due.says.0)
  limit (Syntax f) due = no_syntax f.kind f.offset due

  -- the same tree, or a limit
  pub same : (result : Result X ReadFault) → IfOk result (λ x. ReadsWithin symbol nesting text (view x)) → IfErr result (λ e. IsDue symbol nesting text (fault_view e))
      → IsSameUnlessLimit (λ x. unplaced (view x)) printed nesting text result
  same (Ok x) found fault = ap unplaced (r.alone found.reads.tokens (view x) found.reads.lexed found.reads.derived) ∙ r.same
  same (Err e) found fault = limit e fault

  -- within the limit only out of memory is an error
  pub within : (result : Result X ReadFault) → ((tree : A) → ReadsWithin symbol nesting text tree → IsTreeUnlessMemory view tree result) → depth r.tokens ≤ nesting
      → IfErr result (λ e. e ≡ Memory)
  within (Ok x) only w = tt
  within (Err e) only w = is_memory e (only r.tree (record { reads = record { tokens = r.tokens; lexed = r.lexed; derived = r.derived }; within = w }))

  -- the same of what is read, which is the text
  pub same_of : (read : List ℕ) → read ≡ text → (result : Result X ReadFault) → IfOk result (λ x. ReadsWithin symbol nesting read (view x)) → IfErr result (λ e. IsDue symbol nesting read (fault_view e))
      → IsSameUnlessLimit (λ x. unplaced (view x)) printed nesting text result
  same_of read is result found fault =
      same result
      (subst (λ (t : List ℕ). IfOk result (λ x. ReadsWithin symbol nesting t (view x))) is found)
      (subst (λ (t : List ℕ). IfErr result (λ e. IsDue symbol nesting t (fault_view e))) is fault)

  pub within_of : (read : List ℕ) → read ≡ text → (result : Result X ReadFault) → ((tree : A) → ReadsWithin symbol nesting read tree → IsTreeUnlessMemory view tree result) → depth r.tokens ≤ nesting
      → IfErr result (λ e. e ≡ Memory)
  within_of read is result only =
      within result (subst (λ (t : List ℕ). (tree : A) → ReadsWithin symbol nesting t tree → IsTreeUnlessMemory view tree result) is only)

-- ---- types and documents

pub standing_on_one_line : (level : ℕ) (text : List ℕ) → standing None level text ≡ text
unfolding joined
standing_on_one_line level text = append-nil text

-- the text of a type
pub type_reads : (file : FileId) (t : «Type») → ReadsAlone (DerivesType (in_file file)) unplaced_type (type_text (type_tree t)) (unplaced_type (type_tree t))
type_reads file t = type_alone (in_file file) (type_tree t) (type_formed t)

-- the text of a document that can be written
pub document_reads : (file : FileId) (prefix : Prefix) (level : ℕ) (ds : List Definition) → is_white_prefix prefix ≡ true → document_writable (map definition_tree ds) ≡ true
    → ReadsAlone (Derives (in_file file)) unplaced_document (document_text prefix level (map definition_tree ds)) (unplaced_document (map definition_tree ds))
document_reads file prefix level [] white writable = absurd cc
document_reads file prefix level (d ∷ ds) white writable =
    let w = and_parts (has_some (map definition_tree (d ∷ ds))) (list_all definition_writable (map definition_tree (d ∷ ds))) writable in
    document_alone (in_file file) literals_read prefix level (definition_tree d) (map definition_tree ds) white (definitions_formed (d ∷ ds)) w.1
