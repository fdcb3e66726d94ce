-- Fields (section 5.3) and their arguments (5.4). That they are defined (5.3.1) and that leaves select nothing (5.3.3) is typing.
use Rattle.rule_definitions.specs.Words.{IfPresent}
use Rattle.rule_definitions.specs.Judged.{Judged}
use Rattle.rule_definitions.specs.Names.{named_in}
use Rattle.rule_document_definitions.specs.PossibleTypes.{IsCompositeType}
use Rattle.rule_document_definitions.specs.Selected.{HasNone}
use Rattle.book_validity.specs.Words.{Operation, Field, Never}
use Rattle.book_validity.specs.Arguments.{AreArgumentsValid}

pub record IsValidField (s : Judged) (o : Operation) (f : Field) : Type 0 where
  -- 5.3.3 Leaf Field Selections: a field of composite type selects something
  pub selects : IfPresent (s.type_named (named_in f.definition.ty)) (λ t. IsCompositeType t → Never (HasNone f.set))
  -- 5.4 Arguments
  pub arguments : AreArgumentsValid s o.variables f.definition.arguments f.head.arguments
