-- A builder is given the definitions of documents, one after another.
use Rattle.std.proofs.Common.{◌≡◌, ◌≢◌, ℕ, ◌+◌, ◌<◌, true, false, List, [], ◌∷◌, ◌++◌, length, map, take, drop, get_or, refl, sym, ap, ◌∙◌, subst, arith, append-nil}
use Rattle.std.proofs.lemmas.List.{map_more, map-append, take-append-drop}
use Rattle.std.proofs.lemmas.List.Concat.{flat_map-append}
use Rattle.std.specs.Prelude.{flat_map}
use Rattle.tree_definitions.specs.DefinitionTree.{document_tree}
use Rattle.tree_definitions.specs.Sources.{sources_of}
use Rattle.tree_definitions.specs.declared.document.Document.{Document}
use Rattle.schema_building.specs.BuilderValue.{BuilderValue}
use Rattle.schema_building.specs.Building.{plain_settings, IsAddRefusal}
use Rattle.schema_building.specs.Numbers.{extension_count, HaveNumbers}
use Rattle.schema_building.specs.SourcesView.{with_sources}
use Rattle.schema_building.specs.declared.refusal.BuilderRefusal.{BuilderRefusal}
use Rattle.schema_building.specs.declared.refusal.BuilderRefusal.TheVariants as builder
use Rattle.schema_building.proofs.Numbering.{count_append}
use Rattle.checker_calls.specs.in_verdict_definitions.Texts.{Tree}
use Rattle.checker_calls.specs.in_verdict_definitions.Meaning.{all_definitions}
use Rattle.checker_calls.specs.in_verdict_definitions.Says.{spent}
use Rattle.checker_calls.specs.TellsOnly.{TellsOnly}
use Rattle.checker_calls.specs.TextsView.{all_sources}
use Rattle.checker_schemas.specs.Finishing.{IsFilled, RefusalOfNumbers, IsOfBuilder}
use Rattle.checker_schemas.proofs.Sourcing.{with_append}
use Rattle.checker_calls.specs.declared.refusal.Refusal.{Refusal}
use Rattle.checker_calls.specs.declared.refusal.Refusal.TheVariants.{Faults, Memory, Failed}

-- where there are numbers for a list, there are for its front
front_numbers : (number : ℕ) (front more : Tree) → HaveNumbers number (front ++ more) → HaveNumbers number front
front_numbers number front more have some =
    let count : extension_count (front ++ more) ≡ extension_count front + extension_count more = count_append front more in
    let within = have (omega (arith, count, some)) in
    omega (arith, count, within)

-- a builder of nothing
pub filled_first : (number : ℕ) (b : BuilderValue) → b ≡ record { first = number; texts = []; sources = []; settings = plain_settings; failed = false } → IsFilled number [] [] b
filled_first number b is = subst (IsFilled number [] []) (sym is) (record { first = refl; are = refl; sources = refl; plain = refl; running = refl; numbered = λ some. absurd (omega (arith, some)) })

module _ (number : ℕ) (documents : List Document) (i : ℕ) (d : Document) (inside : i < length documents) (is : d ≡ get_or documents i d) where
  -- the definitions up to and with this document
  definitions_more : all_definitions (map document_tree (take (i + 1) documents)) ≡ all_definitions (map document_tree (take i documents)) ++ document_tree d
  definitions_more =
      ap all_definitions (map_more document_tree documents i d inside)
      ∙ flat_map-append (λ t. t) (map document_tree (take i documents)) (document_tree (get_or documents i d) ∷ [])
      ∙ ap (λ l. all_definitions (map document_tree (take i documents)) ++ l) (append-nil (document_tree (get_or documents i d)) ∙ ap document_tree (sym is))

  -- they begin those of all
  definitions_split : all_definitions (map document_tree documents) ≡ (all_definitions (map document_tree (take i documents)) ++ document_tree d) ++ all_definitions (map document_tree (drop (i + 1) documents))
  definitions_split =
      ap (λ ds. all_definitions (map document_tree ds)) (sym (take-append-drop (i + 1) documents))
      ∙ ap all_definitions (map-append document_tree (take (i + 1) documents) (drop (i + 1) documents))
      ∙ flat_map-append (λ t. t) (map document_tree (take (i + 1) documents)) (map document_tree (drop (i + 1) documents))
      ∙ ap (λ l. l ++ all_definitions (map document_tree (drop (i + 1) documents))) definitions_more

  -- its sources come after those of the documents before it
  sources_more : all_sources (take (i + 1) documents) ≡ all_sources (take i documents) ++ sources_of d
  sources_more =
      ap (flat_map (λ ss. ss)) (map_more sources_of documents i d inside)
      ∙ flat_map-append (λ ss. ss) (map sources_of (take i documents)) (sources_of (get_or documents i d) ∷ [])
      ∙ ap (λ l. all_sources (take i documents) ++ l) (append-nil (sources_of (get_or documents i d)) ∙ ap sources_of (sym is))

  module _ (old : BuilderValue) (before : IsFilled number (map document_tree (take i documents)) (all_sources (take i documents)) old) where
    -- one more document
    pub filled_more : (new : BuilderValue) → new ≡ record old { texts = old.texts ++ document_tree d; sources = with_sources old.sources (sources_of d) } → HaveNumbers new.first new.texts
        → IsFilled number (map document_tree (take (i + 1) documents)) (all_sources (take (i + 1) documents)) new
    filled_more new added have =
        let first : new.first ≡ number = ap (λ (b : BuilderValue). b.first) added ∙ before.first in
        let are : new.texts ≡ all_definitions (map document_tree (take (i + 1) documents)) =
        ap (λ (b : BuilderValue). b.texts) added ∙ ap (λ l. l ++ document_tree d) before.are ∙ sym definitions_more in
        record {
          first = first;
          are = are;
          sources = ap (λ (b : BuilderValue). b.sources) added ∙ ap (λ ss. with_sources ss (sources_of d)) before.sources
              ∙ sym (with_append [] (all_sources (take i documents)) (sources_of d)) ∙ ap (with_sources []) (sym sources_more);
          plain = ap (λ (b : BuilderValue). b.settings) added ∙ before.plain;
          running = ap (λ (b : BuilderValue). b.failed) added ∙ before.running;
          numbered = subst (HaveNumbers number) are (subst (λ n. HaveNumbers n new.texts) first have);
        }

    -- no number is left for an extension of this document
    none_left : (HaveNumbers old.first (old.texts ++ document_tree d) → ⊥) → HaveNumbers number (all_definitions (map document_tree documents)) → ⊥
    none_left none have =
        let front : HaveNumbers number (all_definitions (map document_tree (take i documents)) ++ document_tree d) =
        front_numbers number (all_definitions (map document_tree (take i documents)) ++ document_tree d) (all_definitions (map document_tree (drop (i + 1) documents))) (subst (HaveNumbers number) definitions_split have) in
        none (subst (λ n. HaveNumbers n (old.texts ++ document_tree d)) (sym before.first) (subst (λ ds. HaveNumbers number (ds ++ document_tree d)) (sym before.are) front))

    told_spent : (HaveNumbers number (all_definitions (map document_tree documents)) → ⊥) → (refusal : Refusal) → TellsOnly spent refusal → RefusalOfNumbers number (map document_tree documents) refusal
    told_spent none (Faults list) told = (told, none)
    told_spent none Memory told = tt
    told_spent none Failed told = told

    -- the refusal of this document
    pub unfilled_refusal : (new : BuilderValue) (r : BuilderRefusal) (refusal : Refusal) → IsAddRefusal old (document_tree d) new r → IsOfBuilder r refusal
        → RefusalOfNumbers number (map document_tree documents) refusal
    unfilled_refusal new builder.Spent refusal h told = told_spent (none_left h.2) refusal told
    unfilled_refusal new builder.Memory refusal h told = subst (RefusalOfNumbers number (map document_tree documents)) (sym told) tt
    unfilled_refusal new builder.Failed refusal h told = absurd told

-- one that runs has not failed before
pub has_not_failed : (old new : BuilderValue) (more : Tree) (r : BuilderRefusal) → old.failed ≡ false → IsAddRefusal old more new r → r ≢ builder.Failed
has_not_failed old new more builder.Memory runs h e = absurd cc
has_not_failed old new more builder.Spent runs h e = absurd cc
has_not_failed old new more builder.Failed runs h e = let both : true ≡ false = sym h.0 ∙ runs in absurd cc
