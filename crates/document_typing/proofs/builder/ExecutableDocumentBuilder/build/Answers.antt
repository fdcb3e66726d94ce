use Rattle.std.proofs.Common.{◌≡◌, ◌↔◌, [], map, ap, sym, subst, ◌∙◌, Contains}
use Rattle.graphql_names.specs.Placed.{Place}
use Rattle.tree_definitions.specs.DefinitionTree.{definition_tree}
use Rattle.document_typed_operations.specs.declared.document.ExecutableDocument.{ExecutableDocument}
use Rattle.document_typing.specs.MeaningView.{meanings_under}
use Rattle.document_typing.specs.TypingFaults.{TypingFails}
use Rattle.document_typing.specs.FaultView.{faults_of}
use Rattle.document_typing.specs.TypedDefinitions.{Typed, typed_in}
use Rattle.document_typing.specs.StepsView.{typed_view}
use Rattle.schema_types.proofs.in_components.Places.{not_in_nil}
use Rattle.document_typing.specs.OutDoc.{written_document}
use Rattle.document_typing.specs.TypedByPlace.{IsTypedDocument}
use Rattle.document_typing.proofs.DocumentMeant.{document-meant}
use Rattle.document_typing.proofs.TypedPlaces.{document-typed}
use Rattle.document_typing.proofs.WholeDocuments.{document-whole}
use Rattle.document_typing.proofs.Turns.{typed-is}
use Rattle.document_typing.proofs.DocumentFailures.{document-fails}
use Rattle.document_typing.proofs.FullLists.{tells-all}
use Rattle.document_typing.proofs.builder.ExecutableDocumentBuilder.build.Goals as goal

pub returns-clause-document : goal.returns-clause-document
returns-clause-document c =
    let m = meanings_under c.args.self.schema in
    let ds = map definition_tree c.args.self.definitions.items in
    let typed = c.in_ok-typed.typed in
    let is : typed_view typed ≡ typed_in m ds = c.in_ok-typed.ensures.view ∙ ap (λ l. typed_in m (map definition_tree l)) c.deref.ensures.value in
    let d : ExecutableDocument = record { sources = c.args.self.sources; operations = typed.operations; fragments = typed.fragments } in
    document-meant d ∙ ap (λ (s : Typed Place). s.document) (is ∙ typed-is m ds)

pub returns-clause-faults : goal.returns-clause-faults
returns-clause-faults c f =
    let m = meanings_under c.args.self.schema in
    let ds = map definition_tree c.args.self.definitions.items in
    let typed = c.in_ok-typed.typed in
    let is : typed_view typed ≡ typed_in m ds = c.in_ok-typed.ensures.view ∙ ap (λ l. typed_in m (map definition_tree l)) c.deref.ensures.value in
    let told : faults_of typed.faults ≡ (typed_in m ds).faults = ap (λ (s : Typed Place). s.faults) is in
    subst (λ l. Contains l f ↔ TypingFails m ds f) (sym told) (document-fails m ds f)

pub returns-clause-full : goal.returns-clause-full
returns-clause-full c =
    let m = meanings_under c.args.self.schema in
    let ds = map definition_tree c.args.self.definitions.items in
    let typed = c.in_ok-typed.typed in
    let is : typed_view typed ≡ typed_in m ds = c.in_ok-typed.ensures.view ∙ ap (λ l. typed_in m (map definition_tree l)) c.deref.ensures.value in
    let told : faults_of typed.faults ≡ (typed_in m ds).faults = ap (λ (s : Typed Place). s.faults) is in
    tells-all m ds (faults_of typed.faults) (λ f x. subst (λ l. Contains l f) (sym told) ((document-fails m ds f).1 x))

pub returns-clause-typed : goal.returns-clause-typed
returns-clause-typed c =
    let m = meanings_under c.args.self.schema in
    let ds = map definition_tree c.args.self.definitions.items in
    let typed = c.in_ok-typed.typed in
    let is : typed_view typed ≡ typed_in m ds = c.in_ok-typed.ensures.view ∙ ap (λ l. typed_in m (map definition_tree l)) c.deref.ensures.value in
    let d : ExecutableDocument = record { sources = c.args.self.sources; operations = typed.operations; fragments = typed.fragments } in
    subst (IsTypedDocument m) (sym (document-meant d ∙ ap (λ (s : Typed Place). s.document) (is ∙ typed-is m ds))) (document-typed m ds)

pub returns-clause-whole : goal.returns-clause-whole
returns-clause-whole c none =
    let m = meanings_under c.args.self.schema in
    let ds = map definition_tree c.args.self.definitions.items in
    let typed = c.in_ok-typed.typed in
    let is : typed_view typed ≡ typed_in m ds = c.in_ok-typed.ensures.view ∙ ap (λ l. typed_in m (map definition_tree l)) c.deref.ensures.value in
    let d : ExecutableDocument = record { sources = c.args.self.sources; operations = typed.operations; fragments = typed.fragments } in
    let told : (typed_in m ds).faults ≡ [] = sym (ap (λ (s : Typed Place). s.faults) is) ∙ none in
    ap written_document (document-meant d ∙ ap (λ (s : Typed Place). s.document) (is ∙ typed-is m ds))
    ∙ document-whole m ds (λ f x. not_in_nil f (subst (λ l. Contains l f) told ((document-fails m ds f).1 x)))
