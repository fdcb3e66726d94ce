-- What a fragment adds to what is kept and told of the definitions before it.
use Rattle.std.proofs.Common.{◌≡◌, true, false, [], ◌∷◌, ◌++◌, map, None, sym, ap, ◌∙◌, if◌then◌else◌}
use Rattle.std.proofs.lemmas.List.{map-append}
use Rattle.indexmap.specs.IndexMap.{get, insert_entry, IndexMap}
use Rattle.indexmap.proofs.CallerLemmas.{insert_entry-new}
use Rattle.graphql_names.specs.NameValue.{NameValue}
use Rattle.graphql_names.specs.Placed.{Place}
use Rattle.graphql_names.specs.declared.node.Node.{Node}
use Rattle.tree_operations.specs.OperationTree.{FragmentTree}
use Rattle.schema_types.specs.in_components.Names.{same_text}
use Rattle.schema_types.specs.TypeView.{name_text}
use Rattle.document_typed_operations.specs.declared.operation.Fragment.{Fragment}
use Rattle.document_typing.specs.MeantTree.{MeantFragment}
use Rattle.document_typing.specs.Meanings.{Meanings}
use Rattle.document_typing.specs.KeptDocument.{meant_fragment}
use Rattle.document_typing.specs.TypingFaults.{typing_fault_at, FragmentNameCollision, UndefinedTypeInNamedFragmentTypeCondition}
use Rattle.document_typing.specs.SetFaults.{set_faults}
use Rattle.document_typing.specs.TypedDefinitions.{Typed, told, faults_if, is_under, with_fragment, and_fragment}
use Rattle.document_typing.specs.StepsView.{fragment_meaning, fragment_meanings}
use Rattle.document_typing.proofs.KnownNames.{known-under, none-of}

-- a fragment with a new name, added after the others
pub fragment-put : {S : Type 0} (old new : IndexMap NameValue (Node Fragment) S) (n k : NameValue) (f : Node Fragment) (x : MeantFragment Place)
    → k ≡ n → fragment_meaning f ≡ x → new.entries ≡ insert_entry (same_text name_text) old.entries k f → is_under n.text (fragment_meanings old) ≡ false
    → fragment_meanings new ≡ fragment_meanings old ++ (n.text, x) ∷ []
fragment-put old new n k f x same is put absent =
    let missing : get (same_text name_text) old n ≡ None = none-of (get (same_text name_text) old n) (known-under fragment_meaning n old.entries ∙ absent) in
    ap (map (λ e. (name_text e.0, fragment_meaning e.1))) (put ∙ ap (λ j. insert_entry (same_text name_text) old.entries j f) same ∙ insert_entry-new (same_text name_text) old n f missing)
    ∙ map-append (λ e. (name_text e.0, fragment_meaning e.1)) old.entries ((n, f) ∷ [])
    ∙ ap (λ y. fragment_meanings old ++ (n.text, y) ∷ []) is

module _ {P : Type 0} (m : Meanings) (p : P) (f : FragmentTree P) (st : Typed P) where
  -- with what is told of its name
  abbrev pub named_fragment : Typed P
  named_fragment = told (faults_if (is_under f.name.it st.document.fragments) (typing_fault_at p (FragmentNameCollision f.name.it))) st

  abbrev pub absent_condition : Typed P
  absent_condition = told (typing_fault_at p (UndefinedTypeInNamedFragmentTypeCondition f.type_condition.it) ∷ []) named_fragment

  abbrev pub kept_fragment : Typed P
  kept_fragment = record {
    document = record st.document { fragments = st.document.fragments ++ (f.name.it, meant_fragment m (record { place = p; base = f.type_condition.it; it = f })) ∷ [] };
    faults = named_fragment.faults ++ set_faults m f.selections f.type_condition.it;
  }

  -- the type of its condition is not there
  pub without-condition : m.has_type f.type_condition.it ≡ false → absent_condition ≡ and_fragment m p f st
  without-condition none = sym (ap (λ b. if b then with_fragment m p f named_fragment else absent_condition) none)

  -- it is there, and the name is known
  pub fragment-known : m.has_type f.type_condition.it ≡ true → is_under f.name.it st.document.fragments ≡ true → named_fragment ≡ and_fragment m p f st
  fragment-known there known =
      sym (ap (λ b. if b then with_fragment m p f named_fragment else absent_condition) there ∙ ap (λ b. if b then named_fragment else kept_fragment) known)

  -- it is there, and the name is not known
  pub fragment-kept : m.has_type f.type_condition.it ≡ true → is_under f.name.it st.document.fragments ≡ false → kept_fragment ≡ and_fragment m p f st
  fragment-kept there known =
      sym (ap (λ b. if b then with_fragment m p f named_fragment else absent_condition) there ∙ ap (λ b. if b then named_fragment else kept_fragment) known)
