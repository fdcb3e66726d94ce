-- What maps with names as keys give by number.
use Rattle.std.proofs.Common.{◌≡◌, ℕ, ◌+◌, Bool, cond, not, List, [], ◌∷◌, map, slice_get, Option, None, Some, refl, sym, ap, ◌∙◌, Bor}
use Rattle.std.specs.Prelude.{position, nat_lt, bytes_eq}
use Rattle.std.specs.List.{position_or_len}
use Rattle.std.specs.Map.{keys_of}
use Rattle.std.specs.Option.{option_map, option_map_or}
use Rattle.std.proofs.lemmas.List.{length-map}
use Rattle.std.proofs.lemmas.List.Folds.{flat_map-map}
use Rattle.std.proofs.lemmas.Option.{slice_get-map}
use Rattle.indexmap.specs.IndexMap.{IndexMap, index_of_by}
use Rattle.graphql_names.specs.NameValue.{NameValue}
use Rattle.schema_components.specs.Names.{same_text, entries_of}
use Rattle.schema_types.specs.TypeView.{name_text}
use Rattle.rule_cycles.specs.Numbers.{number_of, each_value}

first_mapped : {X Y : Type 0} (p : Y → Bool) (f : X → Y) (xs : List X) → position_or_len p (map f xs) ≡ position_or_len (λ x. p (f x)) xs
first_mapped p f [] = refl
first_mapped p f (x ∷ xs) = ap {B = ℕ} (λ (n : ℕ). cond (not (p (f x))) (1 + n) 0) (first_mapped p f xs)

position_mapped : {X Y : Type 0} (p : Y → Bool) (f : X → Y) (xs : List X) → position p (map f xs) ≡ position (λ x. p (f x)) xs
position_mapped p f xs = λ i. cond (nat_lt (first_mapped p f xs i) (length-map xs f i)) (Some (first_mapped p f xs i)) None

keys_mapped : {X A : Type 0} (f : X → A) (es : List (NameValue × X)) → keys_of (map (λ (e : NameValue × X). (name_text e.0, f e.1)) es) ≡ map name_text (keys_of es)
keys_mapped f [] = refl
keys_mapped f (e ∷ es) = ap (λ l. name_text e.0 ∷ l) (keys_mapped f es)

-- the index that a map gives is the number of the name
pub numbered : {X A S : Type 0} (f : X → A) (k : NameValue) (m : IndexMap NameValue X S) → index_of_by (same_text name_text k) m ≡ number_of k.text (entries_of name_text f m)
numbered f k m = sym (ap (position (bytes_eq k.text)) (keys_mapped f m.entries) ∙ position_mapped (bytes_eq k.text) name_text (keys_of m.entries))

-- the entry at an index, as the rules see it
pub seen_entry : {X A S : Type 0} (f : X → A) (m : IndexMap NameValue X S) (i : ℕ) (r : Option (Bor NameValue × Bor X)) → option_map {U = NameValue × X} (λ p. (p.0.now, p.1.now)) r ≡ slice_get m.entries i
    → slice_get (entries_of name_text f m) i ≡ option_map {U = List ℕ × A} (λ p. (name_text p.0.now, f p.1.now)) r
seen_entry {X} {A} f m i r e = slice_get-map (λ (x : NameValue × X). (name_text x.0, f x.1)) m.entries i ∙ ap (option_map (λ (x : NameValue × X). (name_text x.0, f x.1))) (sym e) ∙ by r
  where
    by : (o : Option (Bor NameValue × Bor X)) → option_map (λ (x : NameValue × X). (name_text x.0, f x.1)) (option_map {U = NameValue × X} (λ p. (p.0.now, p.1.now)) o) ≡ option_map {U = List ℕ × A} (λ p. (name_text p.0.now, f p.1.now)) o
    by None = refl
    by (Some p) = refl

-- what is made of what stands there
pub found_entry : {X A S Y : Type 0} (f : X → A) (h : List ℕ × A → Y) (y : Y) (m : IndexMap NameValue X S) (i : ℕ) (r : Option (Bor NameValue × Bor X)) → option_map {U = NameValue × X} (λ p. (p.0.now, p.1.now)) r ≡ slice_get m.entries i
    → option_map_or h (slice_get (entries_of name_text f m) i) y ≡ option_map_or (λ p. h (name_text p.0.now, f p.1.now)) r y
found_entry {X} {A} f h y m i r e = ap (λ o. option_map_or h o y) (seen_entry f m i r e) ∙ by r
  where
    by : (o : Option (Bor NameValue × Bor X)) → option_map_or h (option_map {U = List ℕ × A} (λ p. (name_text p.0.now, f p.1.now)) o) y ≡ option_map_or (λ p. h (name_text p.0.now, f p.1.now)) o y
    by None = refl
    by (Some p) = refl

-- what is given of the things in a map
pub each_entry : {X A S Y : Type 0} (f : X → A) (g : A → List Y) (m : IndexMap NameValue X S) → each_value g (entries_of name_text f m) ≡ each_value (λ x. g (f x)) m.entries
each_entry {X} {A} f g m = flat_map-map (λ (e : List ℕ × A). g e.1) (λ (e : NameValue × X). (name_text e.0, f e.1)) m.entries
