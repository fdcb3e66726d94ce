-- What is told of an operation if other fragments take the place of those of its document.
use Rattle.std.proofs.Common.{◌≡◌, ◌↔◌, ◌⊎◌, ◌∙◌, ℕ, List, Option, None, Some, refl, sym, ap, subst, inl, inr}
use Rattle.std.specs.Borrow.{Bor}
use Rattle.std.specs.Prelude.{unwrap_or}
use Rattle.std.specs.Option.{option_copied}
use Rattle.graphql_names.specs.NameValue.{NameValue}
use Rattle.graphql_names.specs.Node.{content}
use Rattle.graphql_names.specs.Placed.{Place}
use Rattle.graphql_names.specs.declared.node.Node.{Node}
use Rattle.schema_components.specs.Names.{Entries}
use Rattle.schema_types.specs.SchemaTree.{SchemaTree}
use Rattle.schema_types.specs.Plain.{plain}
use Rattle.document_typed_selections.specs.TypedTree.{typed_set_tree}
use Rattle.document_typed_operations.specs.declared.operation.Fragment.{Fragment}
use Rattle.document_typed_operations.specs.declared.operation.Operation.{Operation}
use Rattle.spec_document.specs.MeantTree.{MeantOperation, MeantFragment, MeantDocument}
use Rattle.rule_fragments.specs.in_typed_operations.DocumentView.{operation_meant}
use Rattle.rule_selections.specs.in_typing.Meanings.{meanings}
use Rattle.rule_definitions.specs.Judged.{judged}
use Rattle.rule_definitions.specs.PlacedFaults.{PlacedFault}
use Rattle.rule_document_definitions.specs.Fragments.{UndefinedFragmentAt, InvalidFragmentTargetAt, InvalidFragmentSpreadAt}
use Rattle.rule_document_definitions.specs.Selected.{InOperation, operation_name}
use Rattle.rule_document_definitions.specs.Selections.{SelectionsBreak}
use Rattle.rule_document_definitions.specs.PlacedDocumentFaults.{place_or_built_in, places_in}
use Rattle.rule_fragments.specs.in_reach.Reach.{IsReachOf, meant_fragments}
use Rattle.rule_fragments.specs.in_reach.declared.lists.Reach.{Reach}
use Rattle.rule_fragments.proofs.in_reach.OfDocuments.{ReachesFrom}
use Rattle.rule_selections.specs.Typed.{ReachesTyped}
use Rattle.rule_selections.specs.Settled.{Terms, MayReplaceWith}
use Rattle.rule_selections.proofs.Instead.{reaches_typed}
use Rattle.rule_selections.proofs.SameFaults.{same_names, same_variables, same_selections, same_undefined, same_targets, same_spreads}
use Rattle.rule_variables.specs.Parts.{VariablesBreakAlone, VariablesBreakUnder}
use Rattle.indexmap.specs.IndexMap.{IndexMap}
use Rattle.graphql_validation.specs.Operations.{OperationFails, ReachesNamed}
use Rattle.graphql_validation.proofs.Ordered.{ordered_under}

-- what holds of those that are settled, or of these where there are none, holds of what is lent of them
lent_same : {X : Type 0} (o : Option (Bor X)) (b : Bor X) → (unwrap_or o b).now ≡ unwrap_or (option_copied o) b.now
lent_same None b = refl
lent_same (Some x) b = refl

pub lent_or : {X : Type 0} (Q : X → Type 0) (r : Bor X) (o : Option (Bor X)) (b : Bor X) (settled : Option X) → r ≡ unwrap_or o b → option_copied o ≡ settled → Q (unwrap_or settled b.now) → Q r.now
lent_or Q r o b settled is copied q = subst Q (sym (ap (λ y. y.now) is ∙ lent_same o b ∙ ap (λ z. unwrap_or z b.now) copied)) q

-- the document with these fragments
abbrev pub instead_of : MeantDocument Place → Entries (MeantFragment Place) → MeantDocument Place
instead_of d fragments = record { anonymous = d.anonymous; named = d.named; fragments = fragments }

-- what `reach` gives with them is what the operation reaches in it
pub reached_instead : {S : Type 0} (d : MeantDocument Place) (fragments : IndexMap NameValue (Node Fragment) S) (o : Node Operation) (r : Reach) (x : Operation) → x ≡ content o → ReachesFrom (typed_set_tree x.selection_set) fragments r
    → IsReachOf (instead_of d (meant_fragments fragments)) (operation_meant o) r
reached_instead d fragments o r x is h =
    subst (λ (x : Operation). ReachesFrom (typed_set_tree x.selection_set) fragments r) is h (instead_of d (meant_fragments fragments)) (InOperation (operation_name (operation_meant o))) refl

module _ (s : SchemaTree Place) (d : MeantDocument Place) (instead : Entries (MeantFragment Place)) (o : MeantOperation Place) (in' : MayReplaceWith s o.variables d.fragments instead) where
  abbrev terms : Terms
  terms = record { schema = s; variables = in'.0 }

  abbrev Other : MeantDocument Place
  Other = instead_of d instead

  pub named_instead : (n : List ℕ) → ReachesNamed Other o n ↔ ReachesNamed d o n
  named_instead n = same_names terms d instead in'.1.1 o n

  pub typed_instead : ReachesTyped (meanings (plain s)) d o → ReachesTyped (meanings (plain s)) Other o
  typed_instead typed = reaches_typed terms d instead in'.1.1 o typed

  module _ (typed : ReachesTyped (meanings (plain s)) d o) (f : PlacedFault) where
    same : OperationFails Other o s f ↔ OperationFails d o s f
    same = (there, here)
      where
        there : OperationFails Other o s f → OperationFails d o s f
        there (inl h) = inl ((same_variables terms d instead in'.1.1 o f).0 h)
        there (inr (inl h)) = inr (inl ((same_selections terms d instead in'.1.1 o in'.1.0 typed f).0 h))
        there (inr (inr (inl h))) = inr (inr (inl ((same_undefined terms d instead in'.1.1 o f).0 h)))
        there (inr (inr (inr (inl h)))) = inr (inr (inr (inl ((same_targets terms d instead in'.1.1 o f).0 h))))
        there (inr (inr (inr (inr h)))) = inr (inr (inr (inr ((same_spreads terms d instead in'.1.1 o f).0 h))))

        here : OperationFails d o s f → OperationFails Other o s f
        here (inl h) = inl ((same_variables terms d instead in'.1.1 o f).1 h)
        here (inr (inl h)) = inr (inl ((same_selections terms d instead in'.1.1 o in'.1.0 typed f).1 h))
        here (inr (inr (inl h))) = inr (inr (inl ((same_undefined terms d instead in'.1.1 o f).1 h)))
        here (inr (inr (inr (inl h)))) = inr (inr (inr (inl ((same_targets terms d instead in'.1.1 o f).1 h))))
        here (inr (inr (inr (inr h)))) = inr (inr (inr (inr ((same_spreads terms d instead in'.1.1 o f).1 h))))

    -- the checks of an operation in their order
    pub told_instead : (VariablesBreakAlone (place_or_built_in s) Other o f ⊎ (VariablesBreakUnder s o f ⊎ (SelectionsBreak (places_in s) (judged s) Other o f
        ⊎ (UndefinedFragmentAt Other f o ⊎ (InvalidFragmentTargetAt (judged s) Other o f ⊎ InvalidFragmentSpreadAt (judged s) Other o f (places_in s)))))) ↔ OperationFails d o s f
    told_instead = (λ h. same.0 ((ordered_under Other o f s).0 h), λ h. (ordered_under Other o f s).1 (same.1 h))
