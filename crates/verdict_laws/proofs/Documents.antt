-- What is written of a document of which no rule of typing is broken can be written.
use Rattle.std.proofs.Common.{◌≡◌, Bool, true, false, not, ◌&&◌, List, [], ◌∷◌, ◌++◌, refl, sym, ap, subst, ◌∙◌, if◌then◌else◌, true≢false}
use Rattle.std.specs.List.{filter, list_all}
use Rattle.graphql_names.specs.Placed.{Place}
use Rattle.tree_operations.specs.OperationLayout.{is_none}
use Rattle.tree_definitions.specs.DefinitionTree as tree
use Rattle.tree_definitions.specs.DefinitionTree.{DefinitionTree}
use Rattle.tree_definitions.specs.Queries.{is_executable, definition_place}
use Rattle.tree_definitions.specs.Writable.{has_some, definition_writable, document_writable}
use Rattle.document_typing.specs.OutDoc.{is_anonymous, is_named_operation, is_fragment_definition, out_doc}
use Rattle.document_typing.specs.TypingFaults.{typing_fault_at, TypeSystemDefinition, in_definition, type_system_definition}
use Rattle.graphql_read.proofs.Soundness.{document_sound}
use Rattle.verdict_laws.specs.Written.{TypedDocumentsCanBeWritten}
use Rattle.verdict_laws.proofs.Sound.{both, all_append}

-- what passes a test can be written where all can
kept : (f : DefinitionTree Place → Bool) (ds : List (DefinitionTree Place)) → list_all definition_writable ds ≡ true → list_all definition_writable (filter f ds) ≡ true
kept f [] h = refl
kept f (d ∷ ds) h =
    let split = both (definition_writable d) (list_all definition_writable ds) h in
    by (f d) split.0 (kept f ds split.1)
  where
    by : (b : Bool) → definition_writable d ≡ true → list_all definition_writable (filter f ds) ≡ true → list_all definition_writable (if b then d ∷ filter f ds else filter f ds) ≡ true
    by true k rest = ap (λ b. b && list_all definition_writable (filter f ds)) k ∙ rest
    by false k rest = rest

some_first : {A : Type 0} (xs ys : List A) → has_some xs ≡ true → has_some (xs ++ ys) ≡ true
some_first [] ys h = absurd (true≢false (sym h))
some_first (x ∷ xs) ys h = refl

some_second : {A : Type 0} (xs ys : List A) → has_some ys ≡ true → has_some (xs ++ ys) ≡ true
some_second [] ys h = h
some_second (x ∷ xs) ys h = refl

-- an operation or a fragment stands among what is written
some_written : (d : DefinitionTree Place) (ds : List (DefinitionTree Place)) → is_executable d ≡ true → has_some (out_doc (d ∷ ds)) ≡ true
some_written (tree.Operation p o) ds h = by (is_none o.name)
  where
    by : (b : Bool) → has_some ((if b then tree.Operation p o ∷ filter is_anonymous ds else filter is_anonymous ds) ++ (if not b then tree.Operation p o ∷ filter is_named_operation ds else filter is_named_operation ds) ++ filter is_fragment_definition ds) ≡ true
    by true = refl
    by false = some_first (filter is_anonymous ds ++ tree.Operation p o ∷ filter is_named_operation ds) (filter is_fragment_definition ds) (some_second (filter is_anonymous ds) (tree.Operation p o ∷ filter is_named_operation ds) refl)
some_written (tree.Fragment p f) ds h = some_second (filter is_anonymous ds ++ filter is_named_operation ds) (tree.Fragment p f ∷ filter is_fragment_definition ds) refl
some_written _ ds h = cc

pub documents : TypedDocumentsCanBeWritten
documents schema number text ds read rules =
    let sound = document_sound (record { 0 = number }) text ds read in
    let split = both (has_some ds) (list_all definition_writable ds) sound.writable in
    by ds refl split.0 split.1
  where
    executable : (d : DefinitionTree Place) (rest : List (DefinitionTree Place)) → ds ≡ d ∷ rest → (b : Bool) → is_executable d ≡ b → b ≡ true
    executable d rest e true k = refl
    executable d rest e false k = absurd (rules (typing_fault_at (definition_place d) TypeSystemDefinition) (in_definition ([], (d, ((rest, e), type_system_definition (k, refl))))))

    by : (xs : List (DefinitionTree Place)) → ds ≡ xs → has_some ds ≡ true → list_all definition_writable ds ≡ true → document_writable (out_doc ds) ≡ true
    by [] e some all = absurd (true≢false (sym some ∙ ap has_some e))
    by (d ∷ rest) e some all =
        ap (λ b. b && list_all definition_writable (out_doc ds)) (subst (λ l. has_some (out_doc l) ≡ true) (sym e) (some_written d rest (executable d rest e (is_executable d) refl)))
        ∙ all_append definition_writable (filter is_anonymous ds ++ filter is_named_operation ds) (filter is_fragment_definition ds)
        (all_append definition_writable (filter is_anonymous ds) (filter is_named_operation ds) (kept is_anonymous ds all) (kept is_named_operation ds all))
        (kept is_fragment_definition ds all)
