-- What is kept of the faults of a document by their variants breaks rules that stay broken.
use Rattle.std.proofs.Common.{◌≡◌, ◌⊎◌, inl, inr, true, false, refl, ap, sym, ◌∙◌, true≢false}
use Rattle.graphql_names.specs.Placed.{Place}
use Rattle.schema_types.specs.SchemaTree.{SchemaTree}
use Rattle.spec_document.specs.MeantTree.{MeantDocument}
use Rattle.rule_definitions.specs.Judged.{judged}
use Rattle.rule_definitions.specs.PlacedFaults.{PlacedFault}
use Rattle.rule_document_definitions.specs.DocumentFaults.{Broken, OfData, OfDocument}
use Rattle.rule_document_definitions.specs.DocumentRules.{DataBreaks, DeferredBreaks}
use Rattle.rule_document_definitions.specs.Limits.{SpreadBoundFails}
use Rattle.rule_document_definitions.specs.Reached.{AtOperation}
use Rattle.rule_document_definitions.specs.Subscriptions.{SubscriptionBreaks}
use Rattle.rule_document_definitions.specs.PlacedDocumentFaults.{PlacedDocumentFault, places_in, places_alone}
use Rattle.graphql_validation.specs.LastingRules.{LastingOrCycleFails}
use Rattle.graphql_validation.specs.Lasts.{fault_lasts, broken_lasts, lasts}

-- a fault that lasts is none that does not
lasts_not : {R : Type 0} (f g : PlacedDocumentFault) → lasts f ≡ true → f ≡ g → lasts g ≡ false → R
lasts_not f g is told fails = absurd (true≢false (sym is ∙ (ap lasts told ∙ fails)))

module _ (s : SchemaTree Place) (d : MeantDocument Place) where
  -- ---- what lasts is of a rule that stays broken

  pub data_right : (g : PlacedFault) → fault_lasts g ≡ true → DataBreaks (places_in s) (judged s) d g ⊎ SpreadBoundFails places_alone d (OfData g) → LastingOrCycleFails s d (OfData g)
  data_right g is (inl (inl (o, (c, inl (inl h))))) = inl (o, (c, inl (inl h)))
  data_right g is (inl (inl (o, (c, inl (inr (inl h)))))) = inl (o, (c, inl (inr (inl h))))
  data_right g is (inl (inl (o, (c, inl (inr (inr (inl (i, (x, (at, (unused, (head, (spans, told))))))))))))) = lasts_not (OfData g) _ is (ap OfData told) refl
  data_right g is (inl (inl (o, (c, inl (inr (inr (inr h))))))) = inl (o, (c, inl (inr (inr h))))
  data_right g is (inl (inl (o, (c, inr (inl (inl (x, (r, (f, (at, (t, (named, (composite, (none, told)))))))))))))) = lasts_not (OfData g) _ is (ap OfData told) refl
  data_right g is (inl (inl (o, (c, inr (inl (inr h)))))) = inl (o, (c, inr (inl h)))
  data_right g is (inl (inl (o, (c, inr (inr (inl (x, (r, (n, (at, (none, told))))))))))) = lasts_not (OfData g) _ is (ap OfData told) refl
  data_right g is (inl (inl (o, (c, inr (inr (inr (inl h))))))) = inr (o, (c, h))
  data_right g is (inl (inl (o, (c, inr (inr (inr (inr h))))))) = inl (o, (c, inr (inr h)))
  data_right g is (inl (inr (f, (c, (unused, told))))) = lasts_not (OfData g) _ is (ap OfData told) refl
  data_right g is (inr (f, (c, (passes, (head, (spans, told)))))) = lasts_not (OfData g) _ is told refl

  pub broken_right : (b : Broken Place) → broken_lasts b ≡ true → AtOperation d (λ o. SubscriptionBreaks d o b) ⊎ DeferredBreaks d b → LastingOrCycleFails s d (OfDocument b)
  broken_right b is (inl (o, (c, (subscribes, inl (fs, (are, (many, told))))))) = lasts_not (OfDocument b) _ is (ap OfDocument told) refl
  broken_right b is (inl (o, (c, (subscribes, inr (inl h))))) = inl (o, (c, inr (subscribes, inl h)))
  broken_right b is (inl (o, (c, (subscribes, inr (inr h))))) = inl (o, (c, inr (subscribes, inr h)))
  broken_right b is (inr (inl (o, (c, h)))) = inl (o, (c, inl h))
  broken_right b is (inr (inr (inl (i, (v, (at, (n, (named, told)))))))) = lasts_not (OfDocument b) _ is (ap OfDocument told) refl
  broken_right b is (inr (inr (inr (j, (later, (at, (i, (first, (here, (name, (one, (before, told)))))))))))) = lasts_not (OfDocument b) _ is (ap OfDocument told) refl
