-- Which names a map knows.
use Rattle.std.proofs.Common.{◌≡◌, ℕ, false, ◌||◌, List, [], ◌∷◌, map, Option, None, Some, refl, ap, ◌∙◌, is_some, true≢false}
use Rattle.std.specs.List.{list_any}
use Rattle.std.specs.Str.{bytes_eq}
use Rattle.std.specs.Map.{keys_of, lookup}
use Rattle.std.proofs.lemmas.Map.Made.{is_some-lookup}
use Rattle.graphql_names.specs.NameValue.{NameValue}
use Rattle.document_typing.specs.TypedDefinitions.{is_under}

module _ {V A : Type 0} (view : V → A) (n : NameValue) where
  abbrev seen_as : NameValue × V → List ℕ × A
  seen_as e = (e.0.text, view e.1)

  any-under : (es : List (NameValue × V)) → list_any (λ k. bytes_eq n.text k.text) (keys_of es) ≡ is_under n.text (map seen_as es)
  any-under [] = refl
  any-under (e ∷ es) = ap (λ b. bytes_eq n.text e.0.text || b) (any-under es)

  -- what a lookup finds
  pub known-under : (es : List (NameValue × V)) → is_some (lookup (λ k. bytes_eq n.text k.text) es) ≡ is_under n.text (map seen_as es)
  known-under es = is_some-lookup (λ k. bytes_eq n.text k.text) es ∙ any-under es

pub none-of : {X : Type 0} (o : Option X) → is_some o ≡ false → o ≡ None
none-of None h = refl
none-of (Some x) h = absurd (true≢false h)
