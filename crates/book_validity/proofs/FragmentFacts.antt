-- Whether an operation reaches a fragment of the document is decided by the fragment's name.
use Rattle.std.proofs.Common.{◌≡◌, ℕ, List, refl, sym, ap, ◌∙◌, Option, None, Some, Contains, inr, is_some, true≢false}
use Rattle.std.proofs.lemmas.Option.{same_Some}
use Rattle.rule_definitions.specs.Words.{Present}
use Rattle.rule_document_definitions.specs.Selected.{spread_name, operations, fragments, fragment_named}
use Rattle.rule_document_definitions.specs.Reached.{AtOperation, ReachesFragment}
use Rattle.rule_document_definitions.specs.Named.{FragmentsFoundByName}
use Rattle.rule_document_definitions.proofs.UnplacedFragments.{held_if_named}
use Rattle.book_validity.specs.Words.{Document, Operation, Fragment}
use Rattle.rule_document_definitions.proofs.Decided.{Decided, along, names, present, some_of}
use Rattle.rule_document_definitions.proofs.Spreading.{at_reached}

module _ (d : Document) (by_name : FragmentsFoundByName d) (f : Fragment) (known : Contains (fragments d) f) where
  found_or_not : (n : List ℕ) (g : Option Fragment) → fragment_named d n ≡ g → Decided (g ≡ Some f)
  found_or_not n None e = inr (λ h. true≢false (sym (ap is_some h)))
  found_or_not n (Some g) e = along
      (λ same. sym (by_name g (held_if_named d n g e)) ∙ ap (fragment_named d) same ∙ by_name f known)
      (λ same. ap (λ (x : Fragment). x.name.it) (same_Some g f same))
      (names g.name.it f.name.it)

  pub reaches_or_not : (o : Operation) → Decided (ReachesFragment d o f)
  reaches_or_not o = at_reached d o (λ x. Present (spread_name x.it) (λ n. fragment_named d n ≡ Some f))
      (λ x. present (λ n. fragment_named d n ≡ Some f) (spread_name x.it) (λ n e. found_or_not n (fragment_named d n) refl))

  pub used_or_not : Decided (AtOperation d (λ o. ReachesFragment d o f))
  used_or_not = some_of (λ o. ReachesFragment d o f) reaches_or_not (operations d)
