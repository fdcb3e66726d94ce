-- Lemmas on keeping the first component of each name.
use Rattle.std.proofs.Common.{◌≡◌, ℕ, true, false, ◌||◌, List, [], ◌∷◌, ◌++◌, map, refl, sym, ap, ◌∙◌, cond, if◌then◌else◌, is_some}
use Rattle.std.specs.List.{list_any}
use Rattle.std.specs.Str.{bytes_eq}
use Rattle.std.specs.Map.{lookup}
use Rattle.std.proofs.lemmas.List.{append_assoc, append-nil, map-append}
use Rattle.graphql_names.specs.NameValue.{NameValue}
use Rattle.schema_types.specs.in_components.Lists.{firsts, repeats, has_name}
use Rattle.schema_types.specs.in_components.Names.{Entries}
use Rattle.schema_types.proofs.in_components.Places.{each_place-push}
use Rattle.schema_types.proofs.in_components.Firsts.{kept_seen, kept_new, is_some-firsts, has_name-firsts, firsts-push_new, firsts-push_seen}
use Rattle.schema_fold.specs.Components.{keyed_firsts}
use Rattle.schema_fold.specs.BuildErrors.{BuildFault}
use Rattle.schema_fold.specs.Keeping.{told_after, KeepsOn, KeepsNames}

module _ {X : Type 0} (key : X → List ℕ) (note : X → BuildFault) where
  abbrev made : X → List ℕ × X
  made x = (key x, x)

  abbrev entry_name : List ℕ × X → List ℕ
  entry_name w = w.0

  told_seen : (before : List X) (x : X) (faults faults' : List BuildFault) → has_name key (key x) before ≡ true → faults' ≡ faults ++ note x ∷ [] → faults' ≡ faults ++ told_after key note before x
  told_seen before x faults faults' seen told = told ∙ ap (λ b. faults ++ map note (cond b (x ∷ []) [])) (sym seen)

  told_new : (before : List X) (x : X) (faults : List BuildFault) → has_name key (key x) before ≡ false → faults ≡ faults ++ told_after key note before x
  told_new before x faults new = sym (append-nil faults) ∙ ap (λ b. faults ++ map note (cond b (x ∷ []) [])) (sym new)

  -- a component whose name is known, and one whose name is new
  module _ {V : Type 0} (view : V → X) (es : List (NameValue × V)) (x : X) where
    abbrev seen_as : NameValue × V → List ℕ × X
    seen_as e = (e.0.text, view e.1)

    pub keeps_seen : (faults faults' : List BuildFault) → is_some (lookup (λ k. bytes_eq (key x) k.text) es) ≡ true → faults' ≡ faults ++ note x ∷ [] → KeepsOn key note x (map seen_as es) faults (map seen_as es) faults'
    keeps_seen faults faults' there told before is =
        let seen = sym (is_some-firsts key seen_as made entry_name (λ e. refl) (λ y. refl) (key x) es before is) ∙ there in
        (kept_seen key seen_as made entry_name (λ e. refl) (λ y. refl) es before x is there, told_seen before x faults faults' seen told)

    pub keeps_new : (new : Entries X) (faults : List BuildFault) → is_some (lookup (λ k. bytes_eq (key x) k.text) es) ≡ false → new ≡ map seen_as es ++ (key x, x) ∷ [] → KeepsOn key note x (map seen_as es) faults new faults
    keeps_new new faults absent added before is =
        let unseen = sym (is_some-firsts key seen_as made entry_name (λ e. refl) (λ y. refl) (key x) es before is) ∙ absent in
        (kept_new key seen_as made entry_name (λ e. refl) (λ y. refl) es before x new is absent added, told_new before x faults unseen)

  -- the same of a set
  module _ {V : Type 0} (view : V → X) (ks : List V) (x : X) where
    any_view : (n : List ℕ) (vs : List V) → list_any (λ v. bytes_eq n (key (view v))) vs ≡ has_name key n (map view vs)
    any_view n [] = refl
    any_view n (v ∷ vs) = ap (λ b. bytes_eq n (key (view v)) || b) (any_view n vs)

    pub names_seen : (faults faults' : List BuildFault) → list_any (λ v. bytes_eq (key x) (key (view v))) ks ≡ true → faults' ≡ faults ++ note x ∷ [] → KeepsNames key note x (map view ks) faults (map view ks) faults'
    names_seen faults faults' there told before is =
        let seen = sym (any_view (key x) ks ∙ ap (has_name key (key x)) is ∙ has_name-firsts key (key x) before) ∙ there in
        (is ∙ sym (firsts-push_seen key before x seen), told_seen before x faults faults' seen told)

    pub names_new : (new : List X) (faults : List BuildFault) → list_any (λ v. bytes_eq (key x) (key (view v))) ks ≡ false → new ≡ map view ks ++ x ∷ [] → KeepsNames key note x (map view ks) faults new faults
    names_new new faults absent added before is =
        let unseen = sym (any_view (key x) ks ∙ ap (has_name key (key x)) is ∙ has_name-firsts key (key x) before) ∙ absent in
        (added ∙ ap (λ l. l ++ x ∷ []) is ∙ sym (firsts-push_new key before x unseen), told_new before x faults unseen)

  -- a turn of the loops
  pub told_more : (xs : List X) (x : X) (start faults faults' : List BuildFault) → faults ≡ start ++ map note (repeats key xs) → faults' ≡ faults ++ told_after key note xs x → faults' ≡ start ++ map note (repeats key (xs ++ x ∷ []))
  told_more xs x start faults faults' was step =
      step ∙ ap (λ l. l ++ told_after key note xs x) was
      ∙ append_assoc start (map note (repeats key xs)) (told_after key note xs x)
      ∙ ap (λ l. start ++ l) (sym (ap (map note) (each_place-push (λ before y. if has_name key (key y) before then y ∷ [] else []) xs x) ∙ map-append note (repeats key xs) (if has_name key (key x) xs then x ∷ [] else [])))

  module _ (xs : List X) (x : X) (xs' : List X) (front : xs' ≡ xs ++ x ∷ []) where
    pub kept_on : (kept kept' : Entries X) (faults faults' : List BuildFault) → kept ≡ keyed_firsts key xs → KeepsOn key note x kept faults kept' faults' → kept' ≡ keyed_firsts key xs'
    kept_on kept kept' faults faults' is step = (step xs is).0 ∙ ap (keyed_firsts key) (sym front)

    pub told_on : (kept kept' : Entries X) (start faults faults' : List BuildFault) → kept ≡ keyed_firsts key xs → faults ≡ start ++ map note (repeats key xs) → KeepsOn key note x kept faults kept' faults'
        → faults' ≡ start ++ map note (repeats key xs')
    told_on kept kept' start faults faults' is was step = told_more xs x start faults faults' was (step xs is).1 ∙ ap (λ l. start ++ map note (repeats key l)) (sym front)

    pub names_on : (kept kept' : List X) (faults faults' : List BuildFault) → kept ≡ firsts key xs → KeepsNames key note x kept faults kept' faults' → kept' ≡ firsts key xs'
    names_on kept kept' faults faults' is step = (step xs is).0 ∙ ap (firsts key) (sym front)

    pub names_told_on : (kept kept' : List X) (start faults faults' : List BuildFault) → kept ≡ firsts key xs → faults ≡ start ++ map note (repeats key xs) → KeepsNames key note x kept faults kept' faults'
        → faults' ≡ start ++ map note (repeats key xs')
    names_told_on kept kept' start faults faults' is was step = told_more xs x start faults faults' was (step xs is).1 ∙ ap (λ l. start ++ map note (repeats key l)) (sym front)

-- five lists after a first one
pub following : {F : Type 0} (a b c d e f p q r s t : List F) → b ≡ a ++ p → c ≡ b ++ q → d ≡ c ++ r → e ≡ d ++ s → f ≡ e ++ t → f ≡ a ++ (p ++ (q ++ (r ++ (s ++ t))))
following a b c d e f p q r s t hb hc hd he hf =
    hf ∙ ap (λ l. l ++ t) he ∙ append_assoc d s t
    ∙ ap (λ l. l ++ (s ++ t)) hd ∙ append_assoc c r (s ++ t)
    ∙ ap (λ l. l ++ (r ++ (s ++ t))) hc ∙ append_assoc b q (r ++ (s ++ t))
    ∙ ap (λ l. l ++ (q ++ (r ++ (s ++ t)))) hb ∙ append_assoc a p (q ++ (r ++ (s ++ t)))
