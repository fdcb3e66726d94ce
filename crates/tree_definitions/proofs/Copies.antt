-- Copies of definitions and of sources have the trees of the originals.
use Rattle.std.proofs.Common.{◌≡◌, List, [], ◌∷◌, map, refl}
use Rattle.std.specs.List.{AllZip}
use Rattle.graphql_names.specs.declared.span.FileId.{FileId}
use Rattle.tree_definitions.specs.Sources.{source_of, numbered_source}
use Rattle.tree_definitions.specs.declared.document.SourceFile.{SourceFile}

pub trees-copies : {A B : Type 0} (f : A → B) (xs ys : List A) → AllZip (λ x y. f y ≡ f x) xs ys → map f ys ≡ map f xs
trees-copies f [] [] h = refl
trees-copies f [] (y ∷ ys) h = absurd h
trees-copies f (x ∷ xs) [] h = absurd h
trees-copies f (x ∷ xs) (y ∷ ys) h = λ i. h.0 i ∷ trees-copies f xs ys h.1 i

pub sources-copies : (es cs : List (FileId × SourceFile)) → AllZip (λ e c. (c.0 ≡ e.0) × (source_of c.1 ≡ source_of e.1)) es cs → map numbered_source cs ≡ map numbered_source es
sources-copies [] [] h = refl
sources-copies [] (c ∷ cs) h = absurd h
sources-copies (e ∷ es) [] h = absurd h
sources-copies (e ∷ es) (c ∷ cs) h = λ i. ((h.0.0 i).0, h.0.1 i) ∷ sources-copies es cs h.1 i
