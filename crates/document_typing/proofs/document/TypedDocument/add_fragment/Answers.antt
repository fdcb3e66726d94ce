use Rattle.std.proofs.Common.{◌≡◌, true, false, [], ◌∷◌, ◌++◌, rules, ap, sym, ◌∙◌}
use Rattle.graphql_names.specs.Node.{content, place}
use Rattle.tree_operations.specs.OperationTree.{fragment_tree}
use Rattle.graphql_names.specs.Placed.{node_tree}
use Rattle.document_typed_operations.specs.TypedDocument.{typed_fragment_tree}
use Rattle.document_typing.specs.FaultView.{faults_of}
use Rattle.document_typing.specs.MeaningView.{schema_under, meanings_under}
use Rattle.document_typing.specs.SetFaults.{set_faults}
use Rattle.document_typing.specs.TypedDefinitions.{is_under}
use Rattle.document_typing.specs.StepsView.{fragment_meaning, typed_view}
use Rattle.document_typing.specs.TypingFaults.{typing_fault_at, UndefinedTypeInNamedFragmentTypeCondition}
use Rattle.document_typing.proofs.KnownNames.{known-under}
use Rattle.document_typing.proofs.AddedFragments.{named_fragment, absent_condition, without-condition, fragment-known, fragment-kept, fragment-put}
use Rattle.document_typing.proofs.DefinedPlaces.{insert-defined}
use Rattle.document_typing.proofs.Outcomes.{on-ok}
use Rattle.document_typing.proofs.document.TypedDocument.add_fragment.Goals as goal

pub returns-then-not-has_type-clause-view : goal.returns-then-not-has_type-clause-view
returns-then-not-has_type-clause-view c =
    let m = meanings_under c.args.typing.now.schema in
    let p = place c.args.fragment.now in
    let f = fragment_tree (content c.args.fragment.now) in
    let st = typed_view c.args.self.now in
    let known : c.contains_key-is_known.result ≡ is_under f.name.it st.document.fragments =
    c.contains_key-is_known.ensures ∙ known-under fragment_meaning c.content.result.now.name c.args.self.now.fragments.entries
    ∙ ap (λ x. is_under x.name.text st.document.fragments) c.content.ensures in
    let told : faults_of c.fragment_name_collision.new.faults ≡ (named_fragment m p f st).faults = search (rules, known) in
    let absent : m.has_type f.type_condition.it ≡ false = search rules in
    let ended : faults_of c.fragment_name_collision.new.faults ++ typing_fault_at c.location-location.result (UndefinedTypeInNamedFragmentTypeCondition c.content-2.result.now.type_condition.text) ∷ [] ≡ (absent_condition m p f st).faults =
    λ i. told i ++ typing_fault_at (c.location-location.ensures i) (UndefinedTypeInNamedFragmentTypeCondition (c.content-2.ensures i).type_condition.text) ∷ [] in
    on-ok c.undefined_type_in_named_fragment_type_condition.result
    (λ h. (λ i. record { document = st.document; faults = (h ∙ ended) i }) ∙ without-condition m p f st absent)
    c.undefined_type_in_named_fragment_type_condition.ensures

pub returns-then-is_known-clause-view : goal.returns-then-is_known-clause-view
returns-then-is_known-clause-view c =
    let m = meanings_under c.args.typing.now.schema in
    let p = place c.args.fragment.now in
    let f = fragment_tree (content c.args.fragment.now) in
    let st = typed_view c.args.self.now in
    let known : c.contains_key-is_known.result ≡ is_under f.name.it st.document.fragments =
    c.contains_key-is_known.ensures ∙ known-under fragment_meaning c.content.result.now.name c.args.self.now.fragments.entries
    ∙ ap (λ x. is_under x.name.text st.document.fragments) c.content.ensures in
    let told : faults_of c.fragment_name_collision.new.faults ≡ (named_fragment m p f st).faults = search (rules, known) in
    let there : m.has_type f.type_condition.it ≡ true = search rules in
    (λ i. record { document = st.document; faults = told i }) ∙ fragment-known m p f st there (sym known ∙ c.if-is_known.true)

pub returns-clause-view : goal.returns-clause-view
returns-clause-view c =
    let m = meanings_under c.args.typing.now.schema in
    let p = place c.args.fragment.now in
    let f = fragment_tree (content c.args.fragment.now) in
    let st = typed_view c.args.self.now in
    let named = ap (λ x. x.name) c.content.ensures in
    let known : c.contains_key-is_known.result ≡ is_under f.name.it st.document.fragments =
    c.contains_key-is_known.ensures ∙ known-under fragment_meaning c.content.result.now.name c.args.self.now.fragments.entries
    ∙ ap (λ x. is_under x.name.text st.document.fragments) c.content.ensures in
    let told : faults_of c.fragment_name_collision.new.faults ≡ (named_fragment m p f st).faults = search (rules, known) in
    let there : m.has_type f.type_condition.it ≡ true = search rules in
    let absent : is_under f.name.it st.document.fragments ≡ false = sym known ∙ c.if-is_known.false in
    let put = fragment-put c.args.self.now.fragments c.insert.new.self (content c.args.fragment.now).name c.in_ok-clone.field-0 c.in_ok-typed.typed _
    (c.in_ok-clone.ensures.same ∙ named) c.in_ok-typed.ensures.kept c.in_ok-insert.ensures.entries absent in
    let faults = c.in_ok-typed.ensures.faults ∙ ap (λ l. l ++ set_faults m f.selections f.type_condition.it) told in
    (λ i. record { document = record st.document { fragments = put i }; faults = faults i }) ∙ fragment-kept m p f st there absent

pub returns-clause-defined : goal.returns-clause-defined
returns-clause-defined c h =
    (h.0, h.1, insert-defined (schema_under c.args.typing.now.schema) (λ f. f.set) (node_tree typed_fragment_tree) c.args.self.now.fragments c.insert.new.self c.in_ok-clone.field-0 c.in_ok-typed.typed c.in_ok-insert.ensures.entries c.in_ok-typed.ensures.defined h.2)
