-- Lemmas on the definitions of a list.
use Rattle.std.proofs.Common.{◌≡◌, ◌<◌, ◌+◌, ℕ, List, [], ◌∷◌, ◌++◌, map, take, get_or, length, refl, sym, ap, ◌∙◌}
use Rattle.std.specs.List.{flat_map}
use Rattle.std.proofs.lemmas.List.{append_assoc, append-nil, map-append, map_more, take-map}
use Rattle.schema_fold.specs.in_components.Lists.{each_place_after}
use Rattle.schema_fold.specs.in_definitions.DefinitionTree.{definition_tree}
use Rattle.schema_fold.specs.NumberedDefinition.{Definitions, listed_after, numbered, definitions_of}
use Rattle.schema_fold.specs.ListedView.{listed_view}
use Rattle.schema_fold.specs.declared.numbered_definition.NumberedDefinition.{NumberedDefinition as RustNumberedDefinition}

numbered_after : (first : ℕ) (before ds : Definitions) → definitions_of (each_place_after (λ b d. listed_after first b d ∷ []) before ds) ≡ ds
numbered_after first before [] = refl
numbered_after first before (d ∷ ds) = ap (λ l. d ∷ l) (numbered_after first (before ++ d ∷ []) ds)

-- numbers change no definition
pub definitions_numbered : (first : ℕ) (ds : Definitions) → definitions_of (numbered first ds) ≡ ds
definitions_numbered first ds = numbered_after first [] ds

-- the definitions of one more of a list
pub definitions_more : (xs : List RustNumberedDefinition) (i : ℕ) (d : RustNumberedDefinition) → i < length xs
    → definitions_of (map listed_view (take (i + 1) xs)) ≡ definitions_of (map listed_view (take i xs)) ++ definition_tree (get_or xs i d).definition ∷ []
definitions_more xs i d h = ap definitions_of (map_more listed_view xs i d h) ∙ map-append (λ l. l.definition) (map listed_view (take i xs)) (listed_view (get_or xs i d) ∷ [])

-- what one more of a list gives
pub flat_map-push : {A B : Type 0} (f : A → List B) (xs : List A) (x : A) → flat_map f (xs ++ x ∷ []) ≡ flat_map f xs ++ f x
flat_map-push f [] x = append-nil (f x)
flat_map-push f (y ∷ ys) x = ap (λ l. f y ++ l) (flat_map-push f ys x) ∙ sym (append_assoc (f y) (flat_map f ys) (f x))

-- the first definitions of a list are those of its first elements
pub taken : (xs : List RustNumberedDefinition) (i : ℕ) → take i (definitions_of (map listed_view xs)) ≡ definitions_of (map listed_view (take i xs))
taken xs i = take-map (λ l. l.definition) i (map listed_view xs) ∙ ap definitions_of (take-map listed_view i xs)

-- one more of them
pub taken_more : (xs : List RustNumberedDefinition) (i : ℕ) (d : RustNumberedDefinition) → i < length xs
    → take (i + 1) (definitions_of (map listed_view xs)) ≡ take i (definitions_of (map listed_view xs)) ++ definition_tree (get_or xs i d).definition ∷ []
taken_more xs i d h = taken xs (i + 1) ∙ definitions_more xs i d h ∙ ap (λ l. l ++ definition_tree (get_or xs i d).definition ∷ []) (sym (taken xs i))
