use Rattle.std.proofs.Common.{refl, inl}
use Rattle.rule_document_definitions.specs.Selected.{own}
use Rattle.book_validity.proofs.EverySet.{every_set}
use Rattle.book_validity.proofs.laws.every_set_can_merge.Goals as goal

pub returns : goal.returns
returns c s d o = (λ can. every_set s d o can, λ all. all (own o) (inl refl))
