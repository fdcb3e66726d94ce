-- Lemmas on a printed text with a line feed after it: it reads as it does without.
use Rattle.std.proofs.Common.{◌≡◌, ℕ, ◌+◌, true, List, [], ◌∷◌, ◌++◌, codes, None, length, refl, subst, le_refl}
use Rattle.std.specs.List.{list_all}
use Rattle.graphql_names.specs.Placed.{Place}
use Rattle.tree_definitions.specs.DefinitionTree.{DefinitionTree, unplaced_document}
use Rattle.tree_definitions.specs.DocumentLayout.{document_text}
use Rattle.tree_definitions.specs.Writable.{definition_writable}
use Rattle.read_tokens.specs.Input.{Token, Ended}
use Rattle.read_tokens.specs.Lex.{Lex}
use Rattle.read_tokens.proofs.Lexed.{lex_unique}
use Rattle.read_grammar.specs.Meaning.{Meaning}
use Rattle.read_grammar.specs.Rules.{Rule}
use Rattle.read_grammar.specs.Grammar.{DerivesAs, Derives, document}
use Rattle.read_grammar.proofs.Laws.{one_document}
use Rattle.round_trip.specs.Literals.{LiteralsRead}
use Rattle.round_trip.specs.Printed.{Follow, ends_definition, LexesAt, before, Printed}
use Rattle.round_trip.specs.ReadsAlone.{ReadsAlone}
use Rattle.round_trip.specs.Definitions.{definition_well_formed, definition_depth}
use Rattle.round_trip.specs.WellFormed.{depths, is_white_prefix}
use Rattle.round_trip.proofs.Sequences.{ignored_piece}
use Rattle.round_trip.proofs.Whole.{OneTree}
use Rattle.round_trip.proofs.Documents.{document_read}
use Rattle.verdict_definitions.specs.Out.{Layout}

-- a line feed has no token
line_feed : (at : ℕ) → LexesAt at (codes "\n") []
line_feed at = record { pieces = record { kind = None; length = 1 } ∷ []; are = (ignored_piece 10 [] refl, refl); found = refl }

module _ {A B : Type 0} (symbol : ℕ → Rule A) (unplaced : A → B) (text : List ℕ) (printed : B) (n : ℕ) (f : Follow) (ends : f (codes "\n") ≡ true) (one : OneTree (DerivesAs symbol)) where
  reads_with_line_feed : Printed (symbol n) (λ x. unplaced x ≡ printed) f text → ReadsAlone (DerivesAs symbol) unplaced (text ++ codes "\n") printed
  reads_with_line_feed p =
      let b = p.stands (codes "\n") 0 [] ends (line_feed (0 + length text)) in
      let d = b.reads (Ended 0) 0 in
      let lexed : Lex (text ++ codes "\n") b.tokens = record { pieces = b.lexed.pieces; are = b.lexed.are; found = b.lexed.found } in
      let derived : DerivesAs symbol b.tokens d.tree = (n, before (Ended 0) d.end [], refl, d.read) in
      record {
        tokens = b.tokens;
        lexed = lexed;
        tree = d.tree;
        derived = derived;
        same = d.said;
        alone = λ others other lex derives. one b.tokens other d.tree (subst (λ (l : List Token). DerivesAs symbol l other) (lex_unique (text ++ codes "\n") others b.tokens lex lexed) derives) derived;
      }

pub document_line : (m : Meaning Place) → LiteralsRead m.string → (layout : Layout) (tree : DefinitionTree Place) (trees : List (DefinitionTree Place)) → is_white_prefix layout ≡ true
    → list_all definition_well_formed (tree ∷ trees) ≡ true → list_all definition_writable (tree ∷ trees) ≡ true
    → ReadsAlone (Derives m) unplaced_document (document_text layout 0 (tree ∷ trees) ++ codes "\n") (unplaced_document (tree ∷ trees))
document_line m lits layout tree trees white formed writable =
    let n : ℕ = depths definition_depth (tree ∷ trees) in
    reads_with_line_feed (document m) unplaced_document (document_text layout 0 (tree ∷ trees)) (unplaced_document (tree ∷ trees)) n ends_definition refl (one_document m)
    (document_read m lits layout white tree trees n 0 formed writable (le_refl n))
