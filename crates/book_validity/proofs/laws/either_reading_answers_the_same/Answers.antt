use Rattle.std.proofs.Common.{refl, inl}
use Rattle.rule_document_definitions.specs.Selected.{own}
use Rattle.book_validity.proofs.Onward.{can_merge}
use Rattle.book_validity.proofs.EverySet.{every_set}
use Rattle.book_validity.proofs.Different.{any_set, merge_of_different}
use Rattle.book_validity.proofs.laws.either_reading_answers_the_same.Goals as goal

pub returns : goal.returns
returns c s d o typed named = (λ all. any_set s d o all, λ any. every_set s d o (can_merge s d o (merge_of_different s d o any typed named) typed))
