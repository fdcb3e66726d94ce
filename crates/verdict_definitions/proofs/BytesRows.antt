-- The bytes that are put out: of an accepted pair they can be no others, and of a refused one these may be.
use Rattle.std.proofs.Common.{◌≡◌, ◌≢◌, ℕ, ◌-◌, ◌^◌, ◌<◌, ◌++◌, List, [], ◌∷◌, codes, None, Some, refl, sym, ap, subst, ◌∙◌, inl, inr, arith}
use Rattle.std.specs.Fmt.{digits}
use Rattle.graphql_names.specs.declared.span.SourceSpan.{SourceSpan}
use Rattle.schema_built_in.specs.Table.{built_in_definitions}
use Rattle.tree_definitions.specs.in_operations.Joined.{joined}
use Rattle.graphql_faults.specs.in_grammar.Faults as read
use Rattle.graphql_faults.specs.in_grammar.Places.{place_in}
use Rattle.graphql_faults.specs.in_read.declared.fault.SyntaxFaultKind.TheVariants.{Unexpected, End}
use Rattle.graphql_faults.specs.in_read.Reads.{IsDue, NestingBound}
use Rattle.document_typing.specs.in_schema_building.Numbers.{HaveNumbers}
use Rattle.graphql_faults.proofs.in_read.Bounds.{memory_alone}
use Rattle.rule_definitions.proofs.Lists.{Contains-cons, only}
use Rattle.graphql_faults.specs.DetailsTree.{Syntax}
use Rattle.verdict_definitions.specs.Texts.{SourceText, Tree, Terms, DerivesIn, ReadsText, ReadsAll, AreWithin, IsRead}
use Rattle.verdict_definitions.specs.Meaning.{all_definitions}
use Rattle.verdict_definitions.specs.Says.{AnyFault, spent, UnreadFault, SaysSchema}
use Rattle.verdict_definitions.specs.Out.{Out, OutDoc, Layout, layout_text, as_lines}
use Rattle.verdict_definitions.specs.Answer.{AcceptedBytes, RefusesSchemas, AllSay, Answer}
use Rattle.verdict_definitions.proofs.RowReading.{reader, is_due, is_within, one_tree, one_list}
use Rattle.verdict_definitions.proofs.RowTrees.{terms}
use Rattle.verdict_definitions.proofs.TextRows.{query_field, query_field_tree, query_field_reads, just_field, just_field_tree, just_field_reads, noted_field, noted_field_tree, noted_field_reads, orphan, orphan_query, orphan_extension, orphan_reads}

-- ---- accepted

module _ (layout : Layout) (schema document : SourceText) (tree document_tree : Tree) (read_schema : ReadsText 1 schema tree) (read_document : ReadsText 2 document document_tree) where
  -- what is put out is written of these trees
  written_bytes : (bytes : List ℕ) → AcceptedBytes terms layout (schema ∷ []) document bytes
      → bytes ≡ codes "accepted\n" ++ as_lines layout (layout_text layout (Out terms (tree ∷ []))) ++ as_lines layout (layout_text layout (OutDoc document_tree))
  written_bytes bytes a =
      let trees_are : a.writes_schema.0 ≡ tree ∷ [] = one_list 1 schema tree a.writes_schema.0 read_schema a.writes_schema.1.0 in
      let tree_is : a.writes_document.0 ≡ document_tree = one_tree 2 document document_tree a.writes_document.0 read_document a.writes_document.1.0 in
      let first : a.written_schema ≡ layout_text layout (Out terms (tree ∷ [])) = a.writes_schema.1.1 ∙ ap (λ (ts : List Tree). layout_text layout (Out terms ts)) trees_are in
      let second : a.written_document ≡ layout_text layout (OutDoc document_tree) = a.writes_document.1.1 ∙ ap (λ (t : Tree). layout_text layout (OutDoc t)) tree_is in
      a.is
      ∙ ap (λ (text : List ℕ). codes "accepted\n" ++ as_lines layout text ++ as_lines layout a.written_document) first
      ∙ ap (λ (text : List ℕ). codes "accepted\n" ++ as_lines layout (layout_text layout (Out terms (tree ∷ []))) ++ as_lines layout text) second

-- S `type Query { field: Int }`, D `{ field }`
query_field_bytes : (bytes : List ℕ) → AcceptedBytes terms None (query_field ∷ []) just_field bytes → bytes ≡ codes "accepted\ntype Query { field: Int }\n{ field }\n"
unfolding built_in_definitions place_in joined
query_field_bytes bytes a = written_bytes None query_field just_field query_field_tree just_field_tree query_field_reads just_field_reads bytes a

-- the same S, D `,{ field, } # note`
noted_field_bytes : (bytes : List ℕ) → AcceptedBytes terms None (query_field ∷ []) noted_field bytes → bytes ≡ codes "accepted\ntype Query { field: Int }\n{ field }\n"
unfolding built_in_definitions place_in joined
noted_field_bytes bytes a = written_bytes None query_field noted_field query_field_tree noted_field_tree query_field_reads noted_field_reads bytes a

-- the same under two spaces: each text ends with one line feed
indented_bytes : (bytes : List ℕ) → AcceptedBytes terms (Some (codes "  ")) (query_field ∷ []) just_field bytes → bytes ≡ codes "accepted\ntype Query {\n  field: Int\n}\n{\n  field\n}\n"
unfolding built_in_definitions place_in joined
indented_bytes bytes a = written_bytes (Some (codes "  ")) query_field just_field query_field_tree just_field_tree query_field_reads just_field_reads bytes a

-- ---- refused: a schema text that is not read

-- a fault is due of a text, so it is not read
pub due_unread : (number : ℕ) (text : SourceText) (fault : read.Fault) (tree : Tree) → fault ≢ read.Memory → IsDue (DerivesIn number) 500 text fault → (NestingBound 500 text → ⊥) → ReadsText number text tree → ⊥
due_unread number text fault tree some due nests reads = some (memory_alone (DerivesIn number) 500 text fault due tree reads nests)

-- the only fault of a list is so
pub of_one : (says : AnyFault → Type 0) (fault : AnyFault) → says fault → AllSay says (fault ∷ [])
of_one says fault is other c = subst says (sym (only fault other c)) is

-- of two so is each
of_two : (says : AnyFault → Type 0) (first second : AnyFault) → says first → says second → AllSay says (first ∷ second ∷ [])
of_two says first second is_first is_second other c = elim (Contains-cons first (second ∷ []) other c) [
  | inl e ↦ subst says e is_first
  | inr r ↦ of_one says second is_second other r
]

pub not_empty : (fault : AnyFault) (faults : List AnyFault) → fault ∷ faults ≢ []
not_empty fault faults e = cc

-- S `{ a`, any D: `End` at 1:3
abbrev open_set : SourceText
open_set = codes "{ a"

abbrev open_set_span : SourceSpan
open_set_span = record { file_id = record { 0 = 1 }; offset = 3; length = 0; fits = omega arith }

abbrev open_set_fault : AnyFault
open_set_fault = record { place = Some open_set_span; details = Syntax End }

open_set_due : IsDue (DerivesIn 1) 500 open_set (read.End 3)
unfolding reader
open_set_due = is_due 500 1 open_set (read.End 3) refl

open_set_unread : UnreadFault 500 1 open_set open_set_fault
open_set_unread = inl (record { read = read.End 3; due = open_set_due; tells = (refl, record { span = open_set_span; is = refl; of_file = refl; at = refl; long = refl }) })

open_set_refuses : RefusesSchemas terms (open_set ∷ []) (open_set_fault ∷ [])
open_set_refuses = record {
  some = not_empty open_set_fault [];
  says = of_one (SaysSchema terms (open_set ∷ [])) open_set_fault (inl (inl open_set_unread));
  alone = inl (inr (open_set_fault, ([], (refl, open_set_unread, refl))));
  full = λ within trees reads. absurd (never within trees reads);
  rules = λ within trees reads numbers folds fault fails. absurd (never within trees reads);
  spent = λ within trees reads none. absurd (never within trees reads);
}
  where
    never : AreWithin 500 1 (open_set ∷ []) → (trees : List Tree) → ReadsAll 1 (open_set ∷ []) trees → ⊥
    never within [] reads = reads
    never within (tree ∷ trees) reads = due_unread 1 open_set (read.End 3) tree (λ e. cc) open_set_due within.0.nests reads.0

open_set_bytes : (document : SourceText) → Answer terms None (open_set ∷ []) document (codes "refused\n1:3: unexpected end of text\n")
unfolding digits
open_set_bytes document = inr (record { faults = open_set_fault ∷ []; refused = inl open_set_refuses; is = refl })

-- S `{ a` and `{ }`, any D: a line for each
abbrev empty_set : SourceText
empty_set = codes "{ }"

abbrev empty_set_span : SourceSpan
empty_set_span = record { file_id = record { 0 = 2 }; offset = 2; length = 0; fits = omega arith }

abbrev empty_set_fault : AnyFault
empty_set_fault = record { place = Some empty_set_span; details = Syntax Unexpected }

empty_set_due : IsDue (DerivesIn 2) 500 empty_set (read.Unexpected 2)
unfolding reader
empty_set_due = is_due 500 2 empty_set (read.Unexpected 2) refl

empty_set_unread : UnreadFault 500 2 empty_set empty_set_fault
empty_set_unread = inl (record { read = read.Unexpected 2; due = empty_set_due; tells = (refl, record { span = empty_set_span; is = refl; of_file = refl; at = refl; long = refl }) })

both_refuse : RefusesSchemas terms (open_set ∷ empty_set ∷ []) (open_set_fault ∷ empty_set_fault ∷ [])
both_refuse = record {
  some = not_empty open_set_fault (empty_set_fault ∷ []);
  says = of_two (SaysSchema terms (open_set ∷ empty_set ∷ [])) open_set_fault empty_set_fault (inl (inl open_set_unread)) (inl (inr (inl empty_set_unread)));
  alone = inl (inr (open_set_fault, (empty_set_fault ∷ [], (refl, open_set_unread, inr (empty_set_fault, ([], (refl, empty_set_unread, refl)))))));
  full = λ within trees reads. absurd (never within trees reads);
  rules = λ within trees reads numbers folds fault fails. absurd (never within trees reads);
  spent = λ within trees reads none. absurd (never within trees reads);
}
  where
    never : AreWithin 500 1 (open_set ∷ empty_set ∷ []) → (trees : List Tree) → ReadsAll 1 (open_set ∷ empty_set ∷ []) trees → ⊥
    never within [] reads = reads
    never within (tree ∷ trees) reads = due_unread 1 open_set (read.End 3) tree (λ e. cc) open_set_due within.0.nests reads.0

both_bytes : (document : SourceText) → Answer terms None (open_set ∷ empty_set ∷ []) document (codes "refused\n1:3: unexpected end of text\n2:2: unexpected token\n")
unfolding digits
both_bytes document = inr (record { faults = open_set_fault ∷ empty_set_fault ∷ []; refused = inl both_refuse; is = refl })

-- ---- refused: no number is left for an extension

-- S `type Query { a: Int } extend type T { a: Int }`, where extensions are counted from the last number: the orphan needs not be told
abbrev last_extension : Terms
last_extension = record { nesting = 500; first_text = 1; first_extension = 2 ^ 64 - 1 }

none_left : HaveNumbers (2 ^ 64 - 1) (orphan_query ∷ orphan_extension ∷ []) → ⊥
none_left have = let less : 18446744073709551616 < 18446744073709551616 = have (omega arith) in omega arith

-- the number before is left
one_left : HaveNumbers (2 ^ 64 - 2) (orphan_query ∷ orphan_extension ∷ [])
one_left some = omega arith

orphan_is_read : IsRead 500 1 orphan
unfolding reader
orphan_is_read = record { tree = orphan_query ∷ orphan_extension ∷ []; reads = orphan_reads; within = is_within 500 1 orphan (orphan_query ∷ orphan_extension ∷ []) refl (λ passed. omega (arith, passed)) }

spent_refuses : RefusesSchemas last_extension (orphan ∷ []) (spent ∷ [])
spent_refuses = record {
  some = not_empty spent [];
  says = of_one (SaysSchema last_extension (orphan ∷ [])) spent (inr ((orphan_query ∷ orphan_extension ∷ []) ∷ [], ((orphan_reads, tt), inl (refl, none_left))));
  alone = inr (orphan_is_read, tt);
  full = λ within trees reads. inl refl;
  rules = λ within trees reads numbers folds fault fails.
      absurd (none_left (subst (λ ts. HaveNumbers (2 ^ 64 - 1) (all_definitions ts)) (one_list 1 orphan (orphan_query ∷ orphan_extension ∷ []) trees orphan_reads reads) numbers));
  spent = λ within trees reads none. refl;
}

spent_bytes : (document : SourceText) → Answer last_extension None (orphan ∷ []) document (codes "refused\n-: numbers are spent\n")
spent_bytes document = inr (record { faults = spent ∷ []; refused = inl spent_refuses; is = refl })
