-- Subscriptions (section 5.2.3).
use Rattle.std.specs.Prelude.{◌≡◌, [], ◌∷◌, codes, Contains}
use Rattle.rule_definitions.specs.Names.{directive_name}
use Rattle.rule_document_definitions.specs.Selected.{field_name, selection_directives}
use Rattle.rule_document_definitions.specs.Reached.{AtRoot}
use Rattle.rule_document_definitions.specs.RootFields.{meta_field_names, IsRootField}
use Rattle.book_validity.specs.Words.{Document, Operation, Field, Selection, Never, Each}

pub record IsValidSubscription (d : Document) (o : Operation) : Type 0 where
  -- Stricter: fields are counted, not response keys, and each fragment at the root counts, whether or not it can apply there
  -- Laxer: so a field that can apply nowhere there serves as the "exactly one entry"
  -- 5.2.3.1 Single Root Field: any two fields at the root are the same one. That there is at least one needs no rule: no selection set is empty
  -- (2.4), and no fragment reaches itself (5.5.2.2)
  pub single : (f g : Field) → IsRootField d o f → IsRootField d o g → f ≡ g
  -- "which must not be an introspection field"
  pub no_introspection : (f : Field) → IsRootField d o f → Never (Contains meta_field_names (field_name f))
  -- Stricter: no selection at the root has @skip or @include
  pub unconditional : (x : Selection) → AtRoot d o x → Each (selection_directives x.it) (λ e. Never (Contains (codes "skip" ∷ codes "include" ∷ []) (directive_name e)))
