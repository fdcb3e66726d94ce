-- Private: leads to `IsTypedUnder` and `IsTypedSet`. Each selection that an operation reaches is typed under its parent type, as in a typed document or set.
use Rattle.spec_document.specs.MeantTree.{MeantOperation, MeantDocument}
use Rattle.document_typing.specs.Meanings.{Meanings}
use Rattle.document_typing.specs.TypedByPlace.{IsTyped}
use Rattle.rule_document_definitions.specs.Selected.{Standing}
use Rattle.rule_document_definitions.specs.Reached.{Reached}

abbrev pub ReachesTyped : {P : Type 0} → Meanings → MeantDocument P → MeantOperation P → Type 0
ReachesTyped {P} m d o = (x : Standing P) → Reached d o x → IsTyped m x.parent x.it
