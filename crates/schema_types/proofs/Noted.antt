-- Extensions that are noted one after another are those of the origins, each once.
use Rattle.std.proofs.Common.{◌≡◌, ℕ, Bool, true, false, ◌&&◌, ◌||◌, ◌==◌, List, [], ◌∷◌, ◌++◌, refl, sym, ap, ◌∙◌, option_to_list, if◌then◌else◌}
use Rattle.std.proofs.lemmas.List.{append_assoc, append-nil}
use Rattle.std.specs.List.{list_any, flat_map}
use Rattle.schema_components.specs.Lists.{firsts, has_name}
use Rattle.schema_components.specs.Given.{number_of, extension_id}
use Rattle.schema_components.specs.declared.extension.ExtensionId.{ExtensionId}
use Rattle.schema_components.specs.declared.component.ComponentOrigin.{ComponentOrigin}
use Rattle.schema_components.specs.declared.component.ComponentOrigin.TheVariants.{Definition, Extension}
use Rattle.schema_components.proofs.Firsts.{firsts-push_new, firsts-push_seen, has_name-firsts}
use Rattle.schema_types.specs.Origins.{extensions_in}
use Rattle.schema_types.specs.OriginsLeft.{noted}

abbrev key : ExtensionId → List ℕ
key e = number_of e ∷ []

abbrev ids_of : List ComponentOrigin → List ExtensionId
ids_of os = flat_map (λ o. option_to_list (extension_id o)) os

and-true : (b : Bool) → (b && true) ≡ b
and-true true = refl
and-true false = refl

-- a number is among the notes exactly when its text is
same_test : (n : ℕ) (es : List ExtensionId) → list_any (λ e. n == number_of e) es ≡ has_name key (n ∷ []) es
same_test n [] = refl
same_test n (e ∷ es) = λ i. sym (and-true (n == number_of e)) i || same_test n es i

flat_map-push : {A B : Type 0} (f : A → List B) (xs : List A) (x : A) → flat_map f (xs ++ x ∷ []) ≡ flat_map f xs ++ f x
flat_map-push f [] x = append-nil (f x)
flat_map-push f (y ∷ ys) x = ap (λ l. f y ++ l) (flat_map-push f ys x) ∙ sym (append_assoc (f y) (flat_map f ys) (f x))

-- a turn of the loop
pub noted_push : (ids new : List ExtensionId) (os : List ComponentOrigin) (o : ComponentOrigin) → ids ≡ extensions_in os → new ≡ noted ids o → new ≡ extensions_in (os ++ o ∷ [])
noted_push ids new os Definition is step = step ∙ is ∙ ap (firsts key) (sym (flat_map-push (λ o. option_to_list (extension_id o)) os Definition ∙ append-nil (ids_of os)))
noted_push ids new os (Extension id) is step =
    step ∙ by (has_name key (key id) (ids_of os)) refl ∙ ap (firsts key) (sym (flat_map-push (λ o. option_to_list (extension_id o)) os (Extension id)))
  where
    test : list_any (λ e. number_of id == number_of e) ids ≡ has_name key (key id) (ids_of os)
    test = same_test (number_of id) ids ∙ ap (has_name key (key id)) is ∙ has_name-firsts key (key id) (ids_of os)

    by : (b : Bool) → has_name key (key id) (ids_of os) ≡ b → noted ids (Extension id) ≡ firsts key (ids_of os ++ id ∷ [])
    by true t = ap (λ b. if b then ids else ids ++ id ∷ []) (test ∙ t) ∙ is ∙ sym (firsts-push_seen key (ids_of os) id t)
    by false t = ap (λ b. if b then ids else ids ++ id ∷ []) (test ∙ t) ∙ ap (λ l. l ++ id ∷ []) is ∙ sym (firsts-push_new key (ids_of os) id t)
