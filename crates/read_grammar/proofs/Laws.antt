-- The three symbols of calls: what the reading of all tokens says of each, and that tokens derive one tree.
use Rattle.std.proofs.Common.{◌≡◌, ◌≢◌, ℕ, ◌≤◌, List, Ok, Err, refl}
use Rattle.graphql_ast.specs.in_literals.TypeTree.{TypeTree}
use Rattle.graphql_ast.specs.in_operations.SelectionTree.{SelectionTrees}
use Rattle.graphql_ast.specs.in_definitions.DefinitionTree.{DefinitionTree}
use Rattle.read_tokens.specs.Input.{Token, Input}
use Rattle.read_grammar.specs.declared.parse_error.ParseError.{ParseError}
use Rattle.read_grammar.specs.declared.parse_error.ParseError.TheVariants.{Memory}
use Rattle.read_grammar.specs.Meaning.{Meaning}
use Rattle.read_grammar.specs.Grammar.{Derives, DerivesType, DerivesSelections}
use Rattle.read_grammar.specs.Depth.{depth}
use Rattle.read_grammar.specs.Faults as faults
use Rattle.read_grammar.specs.Faults.{Says}
use Rattle.read_grammar.specs.Stops.{fault_of}
use Rattle.read_grammar.specs.Reading.{whole}
use Rattle.read_grammar.specs.ValueGrammar as vg
use Rattle.read_grammar.specs.ValueReading as v
use Rattle.read_grammar.specs.OperationReading as o
use Rattle.read_grammar.specs.DocumentReading as d
use Rattle.read_grammar.proofs.Parses.{Parses, any_count}
use Rattle.read_grammar.specs.Kinds.{next_is, is_bang}
use Rattle.read_grammar.specs.Begins.{begins_type}
use Rattle.read_grammar.proofs.Values.{lacking, type_parses}
use Rattle.read_grammar.proofs.Operations.{selections_parses}
use Rattle.read_grammar.proofs.Documents.{document_parses}
use Rattle.read_grammar.proofs.ViableValues.{type_viable}
use Rattle.read_grammar.proofs.ViableOperations.{selections_viable}
use Rattle.read_grammar.proofs.ViableDocuments.{document_viable}
use Rattle.read_grammar.proofs.Theorems as t

module _ {P : Type 0} (m : Meaning P) where
  any_type_parses : (n h : ℕ) → n ≤ h → Parses 0 n (vg.type m n) (v.type m n) (v.type m h) (next_is begins_type) (lacking is_bang)
  any_type_parses n h le = any_count (type_parses m n h le)

  -- ---- at most one tree

  pub one_document : (tokens : List Token) (tree other : List (DefinitionTree P)) → Derives m tokens tree → Derives m tokens other → tree ≡ other
  one_document = t.one_tree (document_parses m) refl

  pub one_type : (tokens : List Token) (tree other : TypeTree P) → DerivesType m tokens tree → DerivesType m tokens other → tree ≡ other
  one_type = t.one_tree any_type_parses refl

  pub one_selections : (tokens : List Token) (tree other : SelectionTrees P) → DerivesSelections m tokens tree → DerivesSelections m tokens other → tree ≡ other
  one_selections = t.one_tree (selections_parses m) refl

  -- ---- what a call answers

  module _ (n : ℕ) (i : Input) (begins : i.last ≡ 0) where
    pub document_found : (tree : List (DefinitionTree P)) (z : Input) → whole (d.document m) n i ≡ Ok (tree, z) → Derives m i.ahead tree
    document_found = t.found (document_parses m) refl n i begins

    pub document_within : (tree : List (DefinitionTree P)) (z : Input) → whole (d.document m) n i ≡ Ok (tree, z) → depth i.ahead ≤ n
    document_within = t.within (document_parses m) refl n i begins

    pub document_only : (tree other : List (DefinitionTree P)) (z : Input) → whole (d.document m) n i ≡ Ok (tree, z) → Derives m i.ahead other → tree ≡ other
    document_only = t.same_tree (document_parses m) refl n i begins

    pub document_says : (stop : ParseError) (z : Input) → (stop ≢ Memory → whole (d.document m) n i ≡ Err (stop, z)) → Says (Derives m) i.ahead i.ending n (fault_of stop z)
    document_says = t.says (document_parses m) refl n i begins (document_viable m) refl

    pub document_memory : (stop : ParseError) (z : Input) (tree : List (DefinitionTree P)) → (stop ≢ Memory → whole (d.document m) n i ≡ Err (stop, z)) → Derives m i.ahead tree → depth i.ahead ≤ n → fault_of stop z ≡ faults.Memory
    document_memory = t.only_memory (document_parses m) refl n i begins

    pub type_found : (tree : TypeTree P) (z : Input) → whole (v.type m) n i ≡ Ok (tree, z) → DerivesType m i.ahead tree
    type_found = t.found any_type_parses refl n i begins

    pub type_within : (tree : TypeTree P) (z : Input) → whole (v.type m) n i ≡ Ok (tree, z) → depth i.ahead ≤ n
    type_within = t.within any_type_parses refl n i begins

    pub type_only : (tree other : TypeTree P) (z : Input) → whole (v.type m) n i ≡ Ok (tree, z) → DerivesType m i.ahead other → tree ≡ other
    type_only = t.same_tree any_type_parses refl n i begins

    pub type_says : (stop : ParseError) (z : Input) → (stop ≢ Memory → whole (v.type m) n i ≡ Err (stop, z)) → Says (DerivesType m) i.ahead i.ending n (fault_of stop z)
    type_says = t.says any_type_parses refl n i begins (type_viable m) refl

    pub type_memory : (stop : ParseError) (z : Input) (tree : TypeTree P) → (stop ≢ Memory → whole (v.type m) n i ≡ Err (stop, z)) → DerivesType m i.ahead tree → depth i.ahead ≤ n → fault_of stop z ≡ faults.Memory
    type_memory = t.only_memory any_type_parses refl n i begins

    pub selections_found : (tree : SelectionTrees P) (z : Input) → whole (o.selections m) n i ≡ Ok (tree, z) → DerivesSelections m i.ahead tree
    selections_found = t.found (selections_parses m) refl n i begins

    pub selections_within : (tree : SelectionTrees P) (z : Input) → whole (o.selections m) n i ≡ Ok (tree, z) → depth i.ahead ≤ n
    selections_within = t.within (selections_parses m) refl n i begins

    pub selections_only : (tree other : SelectionTrees P) (z : Input) → whole (o.selections m) n i ≡ Ok (tree, z) → DerivesSelections m i.ahead other → tree ≡ other
    selections_only = t.same_tree (selections_parses m) refl n i begins

    pub selections_says : (stop : ParseError) (z : Input) → (stop ≢ Memory → whole (o.selections m) n i ≡ Err (stop, z)) → Says (DerivesSelections m) i.ahead i.ending n (fault_of stop z)
    selections_says = t.says (selections_parses m) refl n i begins (selections_viable m) refl

    pub selections_memory : (stop : ParseError) (z : Input) (tree : SelectionTrees P) → (stop ≢ Memory → whole (o.selections m) n i ≡ Err (stop, z)) → DerivesSelections m i.ahead tree → depth i.ahead ≤ n → fault_of stop z ≡ faults.Memory
    selections_memory = t.only_memory (selections_parses m) refl n i begins
