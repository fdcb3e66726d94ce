-- What directives and types refer to, piece by piece.
use Rattle.std.proofs.Common.{◌≡◌, ℕ, ◌<◌, ◌≤◌, ◌+◌, ◌-◌, ◌⊎◌, Bool, if◌then◌else◌, List, [], ◌∷◌, ◌++◌, length, map, take, get_or, Contains, Option, None, Some, refl, sym, ap, subst, ◌∙◌, arith, append_assoc}
use Rattle.std.specs.Prelude.{flat_map, option_to_list, option_and_then}
use Rattle.std.proofs.lemmas.Bool.{le-ltb}
use Rattle.std.proofs.lemmas.List.{append-nil, map-append}
use Rattle.std.proofs.lemmas.List.Elements.{Contains-push_cases}
use Rattle.graphql_names.specs.Placed.{Place}
use Rattle.schema_types.specs.SchemaTree.{SchemaTree}
use Rattle.fault_data.proofs.in_rule_definitions.Listing.{mapped_more}
use Rattle.rule_cycles.specs.Labels.{targets}
use Rattle.rule_cycles.specs.Numbers.{at_number}
use Rattle.rule_cycles.specs.UseNumbers.{Use, definition_uses, type_uses, uses_at}
use Rattle.rule_cycles.specs.DirectiveFaults.{directives_of}
use Rattle.rule_cycles.proofs.InputGraphs.{past_the_last}

-- the directive of the first reference of a path, before the others
pub directives_first : (o : Option Use) (rest : List Use) → directives_of (option_to_list o ++ rest) ≡ option_to_list (option_and_then (λ by. by) o) ++ directives_of rest
directives_first None rest = refl
directives_first (Some None) rest = refl
directives_first (Some (Some d)) rest = refl

pub flat_last : {X Y : Type 0} (f : X → List Y) (xs : List X) (x : X) → flat_map f (xs ++ x ∷ []) ≡ flat_map f xs ++ f x
flat_last f [] x = append-nil (f x)
flat_last f (y ∷ xs) x = ap (λ l. f y ++ l) (flat_last f xs x) ∙ sym (append_assoc (f y) (flat_map f xs) (f x))

-- nothing is at numbers beyond the last type
pub nothing_past : (s : SchemaTree Place) (i : ℕ) → length s.directives + length s.types ≤ i → uses_at s i ≡ []
nothing_past s i h =
    let past : length s.directives ≤ i = omega (arith, h) in
    let beyond : length s.types ≤ i - length s.directives = omega (arith, h) in
    ap (λ (b : Bool). if b then at_number (definition_uses s) s.directives i else at_number (type_uses s) s.types (i - length s.directives)) (le-ltb i (length s.directives) past)
    ∙ past_the_last (type_uses s) s.types (i - length s.directives) beyond

-- the target of one more reference
pub target_more : {X L : Type 0} (view : X → ℕ × L) (xs : List X) (i : ℕ) (x : X) → i < length xs → x ≡ get_or xs i x → (n : ℕ) → Contains (targets (map view (take (i + 1) xs))) n → Contains (targets (map view (take i xs))) n ⊎ ((view x).0 ≡ n)
target_more view xs i x h e n m =
    Contains-push_cases (targets (map view (take i xs))) (view x).0 n
    (subst (λ l. Contains l n) (ap targets (mapped_more view xs i x h e) ∙ map-append (λ r. r.0) (map view (take i xs)) (view x ∷ [])) m)
