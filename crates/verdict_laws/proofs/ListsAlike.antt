-- What is written of the schema definition is the same of lists that are rearranged; and what stands elsewhere is not built in.
use Rattle.std.proofs.Common.{◌≡◌, Bool, false, List, [], ◌∷◌, ◌++◌, map, refl, sym, ap, ◌∙◌, Option, option_to_list, if◌then◌else◌}
use Rattle.std.specs.List.{flat_map, AllByRecursion}
use Rattle.std.proofs.lemmas.List.{map-append}
use Rattle.std.proofs.lemmas.Grind.{flat_map-append}
use Rattle.graphql_names.specs.Placed.{Place}
use Rattle.schema_fold.specs.in_definitions.DefinitionTree.{DefinitionTree}
use Rattle.schema_fold.specs.NumberedDefinition.{Definitions}
use Rattle.verdict_laws.specs.RearrangedLists.{IsRearranged}
use Rattle.verdict_laws.proofs.RearrangedLists.{types_same, schemas_same, schema_extensions_same}
use Rattle.verdict_laws.proofs.Roots.{objects, defined, base}
use Rattle.verdict_laws.proofs.Written.{schema_out, schema_of_all}

pub schema_alike : (ds es : Definitions) → IsRearranged ds es → schema_of_all ds ≡ schema_of_all es
schema_alike ds es r =
    let types = types_same ds es r in
    let schemas = schemas_same ds es r in
    let extensions = schema_extensions_same ds es r in
    λ k. schema_out (λ n. objects 0 0 ds es types schemas extensions n k) (base 0 0 ds es types schemas extensions k) (if defined 0 0 ds es types schemas extensions k then extensions k else [])

-- ---- marks

pub own_marked : {A B : Type 0} (mark : A → Bool) (blind : A → B) (xs : List A) → AllByRecursion (λ x. mark x ≡ false) xs → map {B = Bool × B} (λ x. (mark x, blind x)) xs ≡ map (λ u. (false, u)) (map blind xs)
own_marked mark blind [] h = refl
own_marked mark blind (x ∷ xs) h = λ i. (h.0 i, blind x) ∷ own_marked mark blind xs h.1 i

-- after the same definitions
pub marked_after : {A M : Type 0} (marked : A → M) (here : DefinitionTree Place → Option A) (front ds es : Definitions)
    → map marked (flat_map (λ d. option_to_list (here d)) ds) ≡ map marked (flat_map (λ d. option_to_list (here d)) es)
    → map marked (flat_map (λ d. option_to_list (here d)) (front ++ ds)) ≡ map marked (flat_map (λ d. option_to_list (here d)) (front ++ es))
marked_after marked here front ds es same = split ds ∙ ap (λ l. map marked (flat_map (λ d. option_to_list (here d)) front) ++ l) same ∙ sym (split es)
  where
    split : (fs : Definitions) → map marked (flat_map (λ d. option_to_list (here d)) (front ++ fs)) ≡ map marked (flat_map (λ d. option_to_list (here d)) front) ++ map marked (flat_map (λ d. option_to_list (here d)) fs)
    split fs = ap (map marked) (flat_map-append (λ d. option_to_list (here d)) front fs) ∙ map-append marked (flat_map (λ d. option_to_list (here d)) front) (flat_map (λ d. option_to_list (here d)) fs)
