-- What breaks a rule of the book.
use Rattle.std.proofs.Common.{◌≡◌, ◌∙◌, refl, sym, ap, subst, inl, is_some, true≢false}
use Rattle.std.proofs.lemmas.Option.{same_Some}
use Rattle.schema_types.specs.Looks.{TypeLooks}
use Rattle.rule_document_definitions.specs.Selected.{own, response_key}
use Rattle.book_validity.specs.Interfaces.{IsValidImplementation}
use Rattle.book_validity.specs.Refused.{UnusedVariableIsInvalid, ConflictingFieldsDoNotMerge, MissingFieldIsInvalid}

pub unused_variable : UnusedVariableIsInvalid
unused_variable s d o x among defined unused valid = unused ((valid.operations o among).variables.used x defined)

pub conflicting_fields : ConflictingFieldsDoNotMerge
conflicting_fields s d o f g among in_f in_g key parents differ merge =
    differ ((merge o among (own o) (inl refl) 1 (response_key f) f g (in_f, refl) (in_g, sym key)).1 (inl parents)).0

pub missing_field : MissingFieldIsInvalid
missing_field s n i m t over wanted there implements at has none valid =
    let (u, (is, (interface, implementation))) = (valid.types n t there).implements i implements in
    let (field, (found, serves)) = (subst (IsValidImplementation s t) (same_Some u over (sym is ∙ at)) implementation).fields m wanted has in
    true≢false (sym (ap is_some found) ∙ ap is_some none)
