-- Two trees have the same text exactly when they are equal, ignoring places.
use Rattle.std.specs.Prelude.{◌↔◌}
use Rattle.std.proofs.Common.{◌≡◌, ℕ, Bool, true, List, ◌∷◌, sym, ap, subst, ◌∙◌}
use Rattle.std.specs.List.{list_all}
use Rattle.round_trip.specs.in_literals.LineLayout.{Prefix}
use Rattle.read_operations.specs.in_literals.ValueLayout.{type_text, value_text}
use Rattle.read_operations.specs.in_operations.OperationLayout.{operation_text, fragment_text}
use Rattle.read_operations.specs.in_tokens.Lex.{Lex}
use Rattle.graphql_names.specs.Placed.{Place}
use Rattle.read_operations.specs.in_values.Writable.{value_writable, has_selection, selections_writable, operation_writable, fragment_writable}
use Rattle.read_operations.specs.in_literals.TypeTree.{TypeTree, unplaced_type}
use Rattle.read_operations.specs.in_literals.ValueTree.{ValueTree, unplaced_value}
use Rattle.read_operations.specs.in_operations.SelectionTree.{SelectionTrees, unplaced_selections}
use Rattle.read_operations.specs.in_operations.OperationTree.{OperationTree, FragmentTree, unplaced_operation, unplaced_fragment}
use Rattle.read_operations.specs.in_definitions.DefinitionTree.{DefinitionTree, unplaced_document}
use Rattle.read_operations.specs.in_definitions.DocumentLayout.{document_text}
use Rattle.read_operations.specs.in_definitions.Writable.{definition_writable}
use Rattle.read_operations.specs.in_grammar.Faults.{Symbol}
use Rattle.read_operations.specs.in_grammar.Meaning.{Meaning}
use Rattle.read_operations.specs.in_grammar.Places.{meaning_in}
use Rattle.read_operations.specs.in_grammar.ValueGrammar.{Const}
use Rattle.read_operations.specs.Meanings.{string_of}
use Rattle.round_trip.specs.ReadsAlone.{ReadsAlone}
use Rattle.round_trip.specs.SelectionsLayout.{selections_text}
use Rattle.round_trip.specs.WellFormed.{is_white_prefix, type_well_formed, value_well_formed, selections_well_formed, operation_well_formed, fragment_well_formed}
use Rattle.round_trip.specs.Definitions.{definition_well_formed}
use Rattle.round_trip.proofs.Alone.{literals_read, type_alone, value_alone, selections_alone, operation_alone, fragment_alone, document_alone}
use Rattle.round_trip.proofs.Unplaced.{type_same, value_same, selections_same, operation_same, fragment_same, document_same}

-- a text that reads alone as one tree and as another reads as one
pub one_text : {A B : Type 0} (symbol : Symbol A) (unplaced : A → B) (a b : List ℕ) (x y : B) → ReadsAlone symbol unplaced a x → ReadsAlone symbol unplaced b y → a ≡ b → x ≡ y
one_text symbol unplaced a b x y p q e =
    let same : q.tree ≡ p.tree = p.alone q.tokens q.tree (subst (λ (l : List ℕ). Lex l q.tokens) (sym e) q.lexed) q.derived in
    sym p.same ∙ ap unplaced (sym same) ∙ q.same

-- so it is with trees of one symbol whose texts read alone, and know no places
alike : {A B : Type 0} (symbol : Symbol A) (unplaced : A → B) (text : A → List ℕ) (plain : B → List ℕ) → ((t : A) → text t ≡ plain (unplaced t)) → (a b : A)
    → ReadsAlone symbol unplaced (text a) (unplaced a) → ReadsAlone symbol unplaced (text b) (unplaced b) → (text a ≡ text b) ↔ (unplaced a ≡ unplaced b)
alike symbol unplaced text plain same a b p q = (λ e. one_text symbol unplaced (text a) (text b) (unplaced a) (unplaced b) p q e, λ e. same a ∙ ap plain e ∙ sym (same b))

-- any meaning of tokens, in which strings stand for themselves
abbrev pub meaning : Meaning Place
meaning = meaning_in string_of 0

pub equal_types : (a b : TypeTree Place) → type_well_formed a ≡ true → type_well_formed b ≡ true → (type_text a ≡ type_text b) ↔ (unplaced_type a ≡ unplaced_type b)
equal_types a b h k = alike _ unplaced_type type_text type_text type_same a b (type_alone meaning a h) (type_alone meaning b k)

pub equal_values : (const : Const) (a b : ValueTree Place) → value_well_formed a ≡ true → value_well_formed b ≡ true → value_writable const a ≡ true → value_writable const b ≡ true → (value_text a ≡ value_text b) ↔ (unplaced_value a ≡ unplaced_value b)
equal_values const a b h k v w = alike _ unplaced_value value_text value_text value_same a b (value_alone meaning literals_read const a h v) (value_alone meaning literals_read const b k w)

module _ (prefix : Prefix) (level : ℕ) where
  pub equal_selections : (a b : SelectionTrees Place) → is_white_prefix prefix ≡ true → has_selection a ≡ true → has_selection b ≡ true → selections_well_formed a ≡ true → selections_well_formed b ≡ true
      → selections_writable a ≡ true → selections_writable b ≡ true → (selections_text prefix a level ≡ selections_text prefix b level) ↔ (unplaced_selections a ≡ unplaced_selections b)
  equal_selections a b white l m h k v w =
      alike _ unplaced_selections (λ t. selections_text prefix t level) (λ t. selections_text prefix t level) (selections_same prefix level) a b
      (selections_alone meaning literals_read prefix level a white l h v) (selections_alone meaning literals_read prefix level b white m k w)

  pub equal_operations : (at_start : Bool) (a b : OperationTree Place) → is_white_prefix prefix ≡ true → operation_well_formed a ≡ true → operation_well_formed b ≡ true → operation_writable a ≡ true → operation_writable b ≡ true
      → (operation_text at_start prefix a level ≡ operation_text at_start prefix b level) ↔ (unplaced_operation a ≡ unplaced_operation b)
  equal_operations at_start a b white h k v w =
      alike _ unplaced_operation (λ t. operation_text at_start prefix t level) (λ t. operation_text at_start prefix t level) (operation_same at_start prefix level) a b
      (operation_alone meaning literals_read at_start prefix level a white h v) (operation_alone meaning literals_read at_start prefix level b white k w)

  pub equal_fragments : (a b : FragmentTree Place) → is_white_prefix prefix ≡ true → fragment_well_formed a ≡ true → fragment_well_formed b ≡ true → fragment_writable a ≡ true → fragment_writable b ≡ true
      → (fragment_text prefix a level ≡ fragment_text prefix b level) ↔ (unplaced_fragment a ≡ unplaced_fragment b)
  equal_fragments a b white h k v w =
      alike _ unplaced_fragment (λ t. fragment_text prefix t level) (λ t. fragment_text prefix t level) (fragment_same prefix level) a b
      (fragment_alone meaning literals_read prefix level a white h v) (fragment_alone meaning literals_read prefix level b white k w)

  pub equal_documents : (a b : DefinitionTree Place) (as' bs : List (DefinitionTree Place)) → is_white_prefix prefix ≡ true → list_all definition_well_formed (a ∷ as') ≡ true → list_all definition_well_formed (b ∷ bs) ≡ true
      → list_all definition_writable (a ∷ as') ≡ true → list_all definition_writable (b ∷ bs) ≡ true
      → (document_text prefix level (a ∷ as') ≡ document_text prefix level (b ∷ bs)) ↔ (unplaced_document (a ∷ as') ≡ unplaced_document (b ∷ bs))
  equal_documents a b as' bs white h k v w =
      alike _ unplaced_document (document_text prefix level) (document_text prefix level) (document_same prefix level) (a ∷ as') (b ∷ bs)
      (document_alone meaning literals_read prefix level a as' white h v) (document_alone meaning literals_read prefix level b bs white k w)
