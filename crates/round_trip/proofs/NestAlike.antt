-- Texts of trees that are equal, ignoring places, have the same depth, and a printed text is as deep as its tree.
use Rattle.std.proofs.Common.{◌≡◌, ℕ, List, [], ◌∷◌, true, sym, ap, ◌∙◌}
use Rattle.std.proofs.lemmas.Bool.{and_parts}
use Rattle.std.specs.Prelude.{None}
use Rattle.std.specs.List.{list_all}
use Rattle.graphql_names.specs.Placed.{Place}
use Rattle.tree_literals.specs.LineLayout.{Prefix}
use Rattle.read_operations.specs.in_literals.TypeTree.{TypeTree, unplaced_type}
use Rattle.read_operations.specs.in_literals.ValueLayout.{type_text}
use Rattle.read_operations.specs.in_operations.SelectionTree.{SelectionTrees, unplaced_selections}
use Rattle.read_operations.specs.in_values.Writable.{has_selection, selections_writable}
use Rattle.read_operations.specs.in_definitions.DefinitionTree.{DefinitionTree, unplaced_document}
use Rattle.read_operations.specs.in_definitions.DocumentLayout.{document_text}
use Rattle.read_operations.specs.in_definitions.Writable.{has_some, definition_writable, document_writable}
use Rattle.read_operations.specs.in_grammar.Meaning.{Meaning}
use Rattle.read_operations.specs.in_grammar.Depth.{depth}
use Rattle.read_operations.specs.in_grammar.Faults.{Symbol}
use Rattle.read_operations.specs.in_grammar.Grammar.{Derives, DerivesType, DerivesSelections}
use Rattle.read_operations.specs.Meanings.{string_of}
use Rattle.round_trip.specs.ReadsAlone.{ReadsAlone}
use Rattle.round_trip.specs.WellFormed.{is_white_prefix, type_well_formed, selections_well_formed}
use Rattle.round_trip.specs.Definitions.{definition_well_formed}
use Rattle.round_trip.specs.SelectionsLayout.{selections_text}
use Rattle.round_trip.proofs.Alone.{literals_read, type_alone, selections_alone, document_alone}
use Rattle.round_trip.specs.TreeDepth.{type_depth, selections_depth, document_depth}
use Rattle.round_trip.specs.NestsAlike.{NestAsTrees, NestAlike, HasDepth}
use Rattle.round_trip.proofs.DocumentsNest.{derived_depth, derived_type_depth, derived_selections_depth}
use Rattle.round_trip.proofs.UnplacedNests.{type_unplaced, selections_unplaced, document_unplaced}

-- ---- any symbol

module _ {A B : Type 0} (unplaced : A → B) (deep : A → ℕ) (bare : B → ℕ) (aside : (tree : A) → bare (unplaced tree) ≡ deep tree) where
  same_depth : (tree other : A) → unplaced tree ≡ unplaced other → deep tree ≡ deep other
  same_depth tree other same = sym (aside tree) ∙ ap bare same ∙ aside other

  alike : (symbol another : Symbol A) → NestAsTrees symbol deep → NestAsTrees another deep → NestAlike unplaced symbol another
  alike symbol another nests nests' tokens others tree other derived derived' same =
      nests tokens tree derived ∙ same_depth tree other same ∙ sym (nests' others other derived')

  read_depth : (symbol : Symbol A) → NestAsTrees symbol deep → (text : List ℕ) (tree : A) (r : ReadsAlone symbol unplaced text (unplaced tree)) → depth r.tokens ≡ deep tree
  read_depth symbol nests text tree r = nests r.tokens r.tree r.derived ∙ same_depth r.tree tree r.same

-- ---- the three

module _ (m k : Meaning Place) where
  pub documents_alike : NestAlike unplaced_document (Derives m) (Derives k)
  documents_alike = alike unplaced_document document_depth document_depth document_unplaced (Derives m) (Derives k) (derived_depth m) (derived_depth k)

  pub types_alike : NestAlike unplaced_type (DerivesType m) (DerivesType k)
  types_alike = alike unplaced_type type_depth type_depth type_unplaced (DerivesType m) (DerivesType k) (derived_type_depth m) (derived_type_depth k)

  pub selections_alike : NestAlike unplaced_selections (DerivesSelections m) (DerivesSelections k)
  selections_alike =
      alike unplaced_selections selections_depth selections_depth selections_unplaced (DerivesSelections m) (DerivesSelections k) (derived_selections_depth m) (derived_selections_depth k)

module _ (m : Meaning Place) (text : List ℕ) where
  pub document_read_depth : (trees : List (DefinitionTree Place)) (r : ReadsAlone (Derives m) unplaced_document text (unplaced_document trees)) → depth r.tokens ≡ document_depth trees
  document_read_depth = read_depth unplaced_document document_depth document_depth document_unplaced (Derives m) (derived_depth m) text

  pub type_read_depth : (tree : TypeTree Place) (r : ReadsAlone (DerivesType m) unplaced_type text (unplaced_type tree)) → depth r.tokens ≡ type_depth tree
  type_read_depth = read_depth unplaced_type type_depth type_depth type_unplaced (DerivesType m) (derived_type_depth m) text

  selections_read_depth : (trees : SelectionTrees Place) (r : ReadsAlone (DerivesSelections m) unplaced_selections text (unplaced_selections trees)) → depth r.tokens ≡ selections_depth trees
  selections_read_depth = read_depth unplaced_selections selections_depth selections_depth selections_unplaced (DerivesSelections m) (derived_selections_depth m) text

-- ---- what is printed

-- strings stand for what they say, and no tree has a place
abbrev meant : Meaning Place
meant = record { place = λ begin end. None; string = string_of }

pub printed_document : (prefix : Prefix) (level : ℕ) (trees : List (DefinitionTree Place)) → is_white_prefix prefix ≡ true → list_all definition_well_formed trees ≡ true → document_writable trees ≡ true
    → HasDepth (document_text prefix level trees) (document_depth trees)
printed_document prefix level [] white formed writable = absurd cc
printed_document prefix level (tree ∷ trees) white formed writable =
    let w = and_parts (has_some (tree ∷ trees)) (list_all definition_writable (tree ∷ trees)) writable in
    let r = document_alone meant literals_read prefix level tree trees white formed w.1 in
    (r.tokens, r.lexed, document_read_depth meant (document_text prefix level (tree ∷ trees)) (tree ∷ trees) r)

pub printed_type : (tree : TypeTree Place) → type_well_formed tree ≡ true → HasDepth (type_text tree) (type_depth tree)
printed_type tree formed =
    let r = type_alone meant tree formed in
    (r.tokens, r.lexed, type_read_depth meant (type_text tree) tree r)

pub printed_selections : (prefix : Prefix) (level : ℕ) (tree : SelectionTrees Place) → is_white_prefix prefix ≡ true → has_selection tree ≡ true → selections_well_formed tree ≡ true → selections_writable tree ≡ true
    → HasDepth (selections_text prefix tree level) (selections_depth tree)
printed_selections prefix level tree white has formed writable =
    let r = selections_alone meant literals_read prefix level tree white has formed writable in
    (r.tokens, r.lexed, selections_read_depth meant (selections_text prefix tree level) tree r)
