-- Names in a set of names, and one name more.
use Rattle.std.proofs.Common.{◌≡◌, ◌++◌, ℕ, Bool, true, false, ◌||◌, List, [], ◌∷◌, map, refl, ap, sym, ◌∙◌, bytes_eq, if◌then◌else◌}
use Rattle.std.specs.List.{list_any}
use Rattle.indexmap.specs.IndexSet.{insert_key}
use Rattle.graphql_names.specs.NameValue.{NameValue}

abbrev text_of : NameValue → List ℕ
text_of k = k.text

map_append : (ks : List NameValue) (k : NameValue) → map text_of (ks ++ k ∷ []) ≡ map text_of ks ++ k.text ∷ []
map_append [] k = refl
map_append (a ∷ ks) k = ap (λ l. a.text ∷ l) (map_append ks k)

pub any_text : (n : List ℕ) (ks : List NameValue) → list_any (λ (a : NameValue). bytes_eq n a.text) ks ≡ list_any (bytes_eq n) (map text_of ks)
any_text n [] = refl
any_text n (a ∷ ks) = ap (λ b. bytes_eq n a.text || b) (any_text n ks)

pub inserted : (ks : List NameValue) (k : NameValue) → map text_of (insert_key (λ (a b : NameValue). bytes_eq a.text b.text) ks k) ≡ insert_key bytes_eq (map text_of ks) k.text
inserted ks k = by (list_any (λ (a : NameValue). bytes_eq k.text a.text) ks) refl
  where
    by : (b : Bool) → list_any (λ (a : NameValue). bytes_eq k.text a.text) ks ≡ b → map text_of (if b then ks else ks ++ k ∷ []) ≡ insert_key bytes_eq (map text_of ks) k.text
    by true is = ap (λ b. if b then map text_of ks else map text_of ks ++ k.text ∷ []) (sym is ∙ any_text k.text ks)
    by false is = map_append ks k ∙ ap (λ b. if b then map text_of ks else map text_of ks ++ k.text ∷ []) (sym is ∙ any_text k.text ks)
