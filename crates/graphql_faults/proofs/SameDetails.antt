-- When two say the same of what is told of a document.
use Rattle.std.proofs.Common.{◌≡◌, ◌↔◌, ◌∙◌, Bool, List, Option, Some, ap, sym, IsTrue}
use Rattle.graphql_names.specs.Placed.{Place}
use Rattle.fault_data.specs.DiagnosticView.{diagnostic_of}
use Rattle.fault_data.specs.declared.diagnostic_data.DiagnosticData.{DiagnosticData}
use Rattle.fault_document_errors.specs.DocumentBreachView.{document_breach_of}
use Rattle.fault_document_errors.specs.declared.build_error.BuildError.{BuildError}
use Rattle.graphql_faults.specs.DetailsTree as tree
use Rattle.graphql_faults.specs.DetailsTree.{DetailsTree}
use Rattle.graphql_faults.specs.DetailsView.{details_of}
use Rattle.graphql_faults.specs.declared.details.Details.{Details}
use Rattle.graphql_faults.specs.declared.details.Details.TheVariants as rust
use Rattle.graphql_faults.specs.ToldOfDocument.{told_of_document, told_at}

-- this is seen of two at one place
module _ (d e : Place × Details) (place : d.0 ≡ e.0) where
  told_so : (same : Bool) (t u : DetailsTree Place (List Place)) → told_of_document (details_of d.1) ≡ Some t → told_of_document (details_of e.1) ≡ Some u → IsTrue same ↔ (t ≡ u)
      → IsTrue same ↔ (told_at d ≡ told_at e)
  told_so same t u one other means =
      let parted : told_at d ≡ told_at e → t ≡ u = λ r. (let whole : Some t ≡ Some u = sym one ∙ ap (λ (p : Place × Option (DetailsTree Place (List Place))). p.1) r ∙ other in cc) in
      ((λ h i. (place i, (one ∙ ap Some (means.0 h) ∙ sym other) i)), λ r. means.1 (parted r))

  pub both_data : (same : Bool) (x y : DiagnosticData) → d.1 ≡ rust.Data x → e.1 ≡ rust.Data y → IsTrue same ↔ (diagnostic_of x ≡ diagnostic_of y) → IsTrue same ↔ (told_at d ≡ told_at e)
  both_data same x y one other means =
      told_so same (tree.Data (diagnostic_of x)) (tree.Data (diagnostic_of y)) (ap (λ v. told_of_document (details_of v)) one) (ap (λ v. told_of_document (details_of v)) other)
      ((λ h. ap tree.Data (means.0 h)), λ r. means.1 cc)

  pub both_breaches : (same : Bool) (x y : BuildError) → d.1 ≡ rust.DocumentBuild x → e.1 ≡ rust.DocumentBuild y → IsTrue same ↔ (document_breach_of x ≡ document_breach_of y) → IsTrue same ↔ (told_at d ≡ told_at e)
  both_breaches same x y one other means =
      told_so same (tree.DocumentBuild (document_breach_of x)) (tree.DocumentBuild (document_breach_of y)) (ap (λ v. told_of_document (details_of v)) one) (ap (λ v. told_of_document (details_of v)) other)
      ((λ h. ap tree.DocumentBuild (means.0 h)), λ r. means.1 cc)

  pub both_bounds : d.1 ≡ rust.RecursionLimitError → e.1 ≡ rust.RecursionLimitError → told_at d ≡ told_at e
  both_bounds one other i = (place i, (ap (λ v. told_of_document (details_of v)) one ∙ sym (ap (λ v. told_of_document (details_of v)) other)) i)
