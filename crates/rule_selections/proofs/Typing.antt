-- Where what an operation reaches is typed: in its list, in documents that are typed, and in field sets.
use Rattle.std.proofs.Common.{ℕ, List, subst, Contains}
use Rattle.spec_document.specs.MeantTree.{MeantSet, MeantOperation, MeantFragment, MeantDocument}
use Rattle.document_typing.specs.Meanings.{Meanings}
use Rattle.document_typing.specs.TypedByPlace.{IsTyped, IsSetOn, IsTypedDocument}
use Rattle.rule_document_definitions.specs.Selected.{operations, own}
use Rattle.rule_document_definitions.specs.FieldSets.{document_of_set}
use Rattle.rule_reach.specs.Reach.{Member, IsReach}
use Rattle.rule_selections.proofs.TypedReached.{typed_reached, typed_in_field_set}
use Rattle.rule_selections.specs.Typed.{ReachesTyped}

module _ {P : Type 0} (m : Meanings) where
  -- a member of the list of what is reached
  pub member_typed : (d : MeantDocument P) (o : MeantOperation P) (reached : List (Member P)) (spread : List (MeantFragment P)) → IsReach d (own o) reached spread → ReachesTyped m d o → (e : Member P) → Contains reached e → IsTyped m e.0 e.1
  member_typed d o reached spread reach typed e k =
      let x = (reach.selections e).0 k in
      subst (λ (e : Member P). IsTyped m e.0 e.1) x.1.1 (typed x.0 x.1.0)

  -- in a document that is typed
  pub document_reaches_typed : (d : MeantDocument P) → IsTypedDocument m d → (o : MeantOperation P) → Contains (operations d) o → ReachesTyped m d o
  document_reaches_typed d typed o among = typed_reached m d typed o among

  -- in a field set
  pub field_set_reaches_typed : (place : P) (n : List ℕ) (set : MeantSet P) → IsSetOn m n set → (o : MeantOperation P) → Contains (operations (document_of_set place set)) o → ReachesTyped m (document_of_set place set) o
  field_set_reaches_typed place n set typed o among = typed_in_field_set m place n set typed o among
