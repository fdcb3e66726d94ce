-- What comes after the faults that were told before.
use Rattle.std.proofs.Common.{◌≡◌, ◌++◌, List, [], ◌∷◌, length, arith, append-nil, map, Result, Ok, Err, refl, ap, sym, ◌∙◌, append_assoc}
use Rattle.std.proofs.lemmas.List.{length-append, length-map, nil_from_length}
use Rattle.std.specs.Result.{OnErr}
use Rattle.graphql_names.specs.Placed.{Place}
use Rattle.graphql_faults.specs.DetailsTree.{of_document, Telling}
use Rattle.graphql_faults.specs.DetailsView.{BeginsAs}
use Rattle.rule_field_groups.specs.in_document_definitions.DocumentFaults.{Broken, OfDocument}
use Rattle.rule_field_groups.specs.in_document_definitions.PlacedDocumentFaults.{PlacedDocumentFault}

pub breaches_told : (breaches : List (Broken Place)) → map of_document (map OfDocument breaches) ≡ map (λ b. of_document (OfDocument b)) breaches
breaches_told [] = refl
breaches_told (b ∷ bs) = ap (λ l. of_document (OfDocument b) ∷ l) (breaches_told bs)

-- where nothing is added, nothing is told; and back
pub nothing_told : (old new : Telling) (told : List PlacedDocumentFault) → new ≡ old ++ map of_document told → new ≡ old → told ≡ []
nothing_told old new told is same =
    let whole = ap length (sym is ∙ same) in
    let parts = length-append old (map of_document told) in
    let long = length-map told of_document in
    nil_from_length told (omega (arith, whole, parts, long))

pub told_nothing : (old new : Telling) (told : List PlacedDocumentFault) → new ≡ old ++ map of_document told → told ≡ [] → new ≡ old
told_nothing old new told is none = is ∙ ap (λ l. old ++ map of_document l) none ∙ append-nil old

-- ---- after a refusal

pub begins_same : {A : Type 0} (old : List A) → BeginsAs old old
begins_same old = ([], sym (append-nil old))

pub begins_after : {A : Type 0} (old one new more : List A) → one ≡ old ++ more → BeginsAs one new → BeginsAs old new
begins_after old one new more is (rest, e) = (more ++ rest, e ∙ ap (λ l. l ++ rest) is ∙ append_assoc old more rest)

pub begins_kept : {A T E : Type 0} (r : Result T E) (old one new : List A) → BeginsAs old one → OnErr r (new ≡ one) → OnErr r (BeginsAs old new)
begins_kept (Ok v) old one new begun kept = tt
begins_kept (Err e) old one new (rest, is) kept = (rest, kept ∙ is)

pub refused_so : {T E : Type 0} {X : Type 0} (r : Result T E) → X → OnErr r X
refused_so (Ok v) x = tt
refused_so (Err e) x = x
