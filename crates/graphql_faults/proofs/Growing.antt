-- Lists that grow at their end by what is made of others.
use Rattle.std.proofs.Common.{◌≡◌, List, [], ◌∷◌, ◌++◌, map, length, Result, Ok, Err, sym, ap, ◌∙◌, append_assoc, append-nil}
use Rattle.std.specs.Result.{OnErr}
use Rattle.std.proofs.lemmas.List.{map_push, nil_from_length}
use Rattle.graphql_faults.specs.DetailsView.{BeginsAs}

-- one more
pub grown_more : {A B C : Type 0} (f : A → B) (g : B → C) (old mid new : List C) (xs : List A) (x : A) → mid ≡ old ++ map g (map f xs) → new ≡ mid ++ g (f x) ∷ [] → new ≡ old ++ map g (map f (xs ++ x ∷ []))
grown_more f g old mid new xs x begun more =
    more
    ∙ ap (λ m. m ++ g (f x) ∷ []) begun
    ∙ append_assoc old (map g (map f xs)) (g (f x) ∷ [])
    ∙ ap (λ l. old ++ l) (sym (ap (λ l. map g l) (map_push f xs x) ∙ map_push g (map f xs) (f x)))

-- none is left
pub grown_all : {A B C : Type 0} (f : A → B) (g : B → C) (old new : List C) (all xs rest : List A) → new ≡ old ++ map g (map f xs) → all ≡ xs ++ rest → length rest ≡ 0 → new ≡ old ++ map g (map f all)
grown_all f g old new all xs rest grown split none =
    grown ∙ ap (λ l. old ++ map g (map f l)) (sym (split ∙ ap (λ r. xs ++ r) (nil_from_length rest none) ∙ append-nil xs))

-- what is kept of a list that had grown
pub grown_kept : {A B C T E : Type 0} (f : A → B) (g : B → C) (r : Result T E) (old mid new : List C) (xs : List A) → mid ≡ old ++ map g (map f xs) → new ≡ mid → OnErr r (BeginsAs old new)
grown_kept f g (Ok v) old mid new xs begun kept = tt
grown_kept f g (Err e) old mid new xs begun kept = (map g (map f xs), kept ∙ begun)
