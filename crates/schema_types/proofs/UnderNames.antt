-- What a finite map made of entries has under a name.
use Rattle.std.proofs.Common.{◌≡◌, ℕ, Bool, true, false, cond, if◌then◌else◌, List, [], ◌∷◌, map, Option, None, Some, refl, sym, ap, ◌∙◌}
use Rattle.std.specs.List.{find}
use Rattle.std.specs.Option.{option_map}
use Rattle.std.specs.Str.{bytes_eq}
use Rattle.std.specs.Cmp.Lexicographic.{nat_list_cmp_total, texts_ties}
use Rattle.std.specs.FinMap as fin
use Rattle.schema_components.specs.Names.{Entries, by_bytes, named}
use Rattle.schema_types.specs.Addresses.{under}

module _ {A B : Type 0} (f : A → B) (n : List ℕ) where
  abbrev mapped : Entries A → Entries B
  mapped es = map (λ e. (e.0, f e.1)) es

  found : (es : Entries A) → fin.find by_bytes n (mapped es) ≡ option_map f (under n es)
  found [] = refl
  found (e ∷ es) = by (bytes_eq n e.0) refl (found es)
    where
      by : (b : Bool) → bytes_eq n e.0 ≡ b → fin.find by_bytes n (mapped es) ≡ option_map f (under n es) → fin.find by_bytes n (mapped (e ∷ es)) ≡ option_map f (under n (e ∷ es))
      by true t rest =
          ap (λ b. cond b (Some (f e.1)) (fin.find by_bytes n (mapped es))) (sym (texts_ties n e.0) ∙ t)
          ∙ sym (ap (λ b. option_map f (option_map (λ (x : List ℕ × A). x.1) (if b then Some e else find (λ (x : List ℕ × A). bytes_eq n x.0) es))) t)
      by false t rest =
          ap (λ b. cond b (Some (f e.1)) (fin.find by_bytes n (mapped es))) (sym (texts_ties n e.0) ∙ t)
          ∙ rest
          ∙ sym (ap (λ b. option_map f (option_map (λ (x : List ℕ × A). x.1) (if b then Some e else find (λ (x : List ℕ × A). bytes_eq n x.0) es))) t)

  -- what stands first under a name is what the finite map has under it
  pub get_under : (es : Entries A) → fin.get (named f es) n ≡ option_map f (under n es)
  get_under es = fin.get-from_entries nat_list_cmp_total (mapped es) n ∙ found es
