-- Lemmas on what stands under names.
use Rattle.std.proofs.Common.{◌≡◌, ℕ, Bool, true, false, List, [], ◌∷◌, ◌++◌, Option, None, Some, Vec, refl, sym, ap, subst, ◌∙◌, cond, if◌then◌else◌, is_some}
use Rattle.std.specs.Map.{lookup, set_value}
use Rattle.std.specs.Option.{option_map_or}
use Rattle.std.specs.Str.{bytes_eq}
use Rattle.std.specs.declared.alloc.Global.{Global}
use Rattle.std.proofs.lemmas.List.{append-nil}
use Rattle.std.proofs.lemmas.Slice.Eq.{bytes_eq-Decides}
use Rattle.graphql_names.specs.NameValue.{NameValue}

abbrev test : List ℕ → NameValue → Bool
test n k = bytes_eq n k.text

other_name : (n m o : List ℕ) → bytes_eq n m ≡ false → bytes_eq m o ≡ true → bytes_eq n o ≡ false
other_name n m o other same = ap (bytes_eq n) (sym ((bytes_eq-Decides m o).0 same)) ∙ other

module _ {V : Type 0} where
  -- after a write under another name
  written_other : (n name : List ℕ) (w : V) → bytes_eq n name ≡ false → (es : List (NameValue × V)) → lookup (test n) (set_value (test name) es w) ≡ lookup (test n) es
  written_other n name w other [] = refl
  written_other n name w other (e ∷ es) = by (bytes_eq name e.0.text) refl (written_other n name w other es)
    where
      by : (b : Bool) → bytes_eq name e.0.text ≡ b → lookup (test n) (set_value (test name) es w) ≡ lookup (test n) es
          → lookup (test n) (cond b ((e.0, w) ∷ es) (e ∷ set_value (test name) es w)) ≡ cond (bytes_eq n e.0.text) (Some e.1) (lookup (test n) es)
      by true t rest =
          let unlike = other_name n name e.0.text other t in
          ap (λ c. cond c (Some w) (lookup (test n) es)) unlike ∙ sym (ap (λ c. cond c (Some e.1) (lookup (test n) es)) unlike)
      by false t rest = ap (λ o. cond (bytes_eq n e.0.text) (Some e.1) o) rest

  -- after a write under the name itself
  written_same : (name : List ℕ) (w : V) (es : List (NameValue × V)) → is_some (lookup (test name) es) ≡ true → lookup (test name) (set_value (test name) es w) ≡ Some w
  written_same name w [] there = cc
  written_same name w (e ∷ es) there = by (bytes_eq name e.0.text) refl there (written_same name w es)
    where
      by : (b : Bool) → bytes_eq name e.0.text ≡ b → is_some (cond b (Some e.1) (lookup (test name) es)) ≡ true
          → (is_some (lookup (test name) es) ≡ true → lookup (test name) (set_value (test name) es w) ≡ Some w)
          → lookup (test name) (cond b ((e.0, w) ∷ es) (e ∷ set_value (test name) es w)) ≡ Some w
      by true t h rest = ap (λ c. cond c (Some w) (lookup (test name) es)) t
      by false t h rest = ap (λ c. cond c (Some e.1) (lookup (test name) (set_value (test name) es w))) t ∙ rest h

  -- an entry is added at the end: of another name, and of the name itself
  pushed_other : (n : List ℕ) (name : NameValue) (w : V) → bytes_eq n name.text ≡ false → (es : List (NameValue × V)) → lookup (test n) (es ++ (name, w) ∷ []) ≡ lookup (test n) es
  pushed_other n name w other [] = ap (λ c. cond c (Some w) None) other
  pushed_other n name w other (e ∷ es) = ap (λ o. cond (bytes_eq n e.0.text) (Some e.1) o) (pushed_other n name w other es)

  pushed_same : (n : List ℕ) (name : NameValue) (w : V) → bytes_eq n name.text ≡ true → (es : List (NameValue × V)) → lookup (test n) es ≡ None → lookup (test n) (es ++ (name, w) ∷ []) ≡ Some w
  pushed_same n name w same [] absent = ap (λ c. cond c (Some w) None) same
  pushed_same n name w same (e ∷ es) absent = by (bytes_eq n e.0.text) absent (pushed_same n name w same es)
    where
      by : (b : Bool) → cond b (Some e.1) (lookup (test n) es) ≡ None → (lookup (test n) es ≡ None → lookup (test n) (es ++ (name, w) ∷ []) ≡ Some w)
          → cond b (Some e.1) (lookup (test n) (es ++ (name, w) ∷ [])) ≡ Some w
      by true h rest = cc
      by false h rest = rest h

-- where a value under a name stands for a list
module _ {V X : Type 0} (of : V → List X) (es new : List (NameValue × V)) (item : X) where
  abbrev listed : Option V → List X
  listed o = option_map_or of o []

  -- to the list under the name the item is added, and nothing else changes
  abbrev AddsTo : List ℕ → Type 0
  AddsTo name = (n : List ℕ) → listed (lookup (test n) new) ≡ listed (lookup (test n) es) ++ (if bytes_eq n name then item ∷ [] else [])

  -- an item is added after those under the name
  pub added_after : (name : List ℕ) (v w : V) → lookup (test name) es ≡ Some v → of w ≡ of v ++ item ∷ [] → new ≡ set_value (test name) es w → AddsTo name
  added_after name v w found added is n = ap (λ l. listed (lookup (test n) l)) is ∙ by (bytes_eq n name) refl
    where
      here : listed (lookup (test name) (set_value (test name) es w)) ≡ listed (lookup (test name) es) ++ item ∷ []
      here = ap listed (written_same name w es (ap is_some found)) ∙ added ∙ ap (λ o. listed o ++ item ∷ []) (sym found)

      by : (b : Bool) → bytes_eq n name ≡ b → listed (lookup (test n) (set_value (test name) es w)) ≡ listed (lookup (test n) es) ++ cond b (item ∷ []) []
      by true t = subst (λ m. listed (lookup (test m) (set_value (test name) es w)) ≡ listed (lookup (test m) es) ++ item ∷ []) (sym ((bytes_eq-Decides n name).0 t)) here
      by false t = ap listed (written_other n name w t es) ∙ sym (append-nil (listed (lookup (test n) es)))

  -- where nothing stands under it
  pub added_new : (name : NameValue) (w : V) → lookup (test name.text) es ≡ None → of w ≡ item ∷ [] → new ≡ es ++ (name, w) ∷ [] → AddsTo name.text
  added_new name w absent added is n = ap (λ l. listed (lookup (test n) l)) is ∙ by (bytes_eq n name.text) refl
    where
      by : (b : Bool) → bytes_eq n name.text ≡ b → listed (lookup (test n) (es ++ (name, w) ∷ [])) ≡ listed (lookup (test n) es) ++ cond b (item ∷ []) []
      by true t =
          let none = subst (λ m. lookup (test m) es ≡ None) (sym ((bytes_eq-Decides n name.text).0 t)) absent in
          ap listed (pushed_same n name w t es none) ∙ added ∙ ap (λ o. listed o ++ item ∷ []) (sym none)
      by false t = ap listed (pushed_other n name w t es) ∙ sym (append-nil (listed (lookup (test n) es)))

-- the same of lists themselves
module _ {X : Type 0} (es new : List (NameValue × Vec X Global)) (item : X) where
  abbrev items : Vec X Global → List X
  items v = v.items

  pub under_pushed : (name : List ℕ) (v w : Vec X Global) → lookup (test name) es ≡ Some v → w.items ≡ v.items ++ item ∷ [] → new ≡ set_value (test name) es w → AddsTo items es new item name
  under_pushed = added_after items es new item

  pub under_new : (name : NameValue) (w : Vec X Global) → lookup (test name.text) es ≡ None → w.items ≡ item ∷ [] → new ≡ es ++ (name, w) ∷ [] → AddsTo items es new item name.text
  under_new = added_new items es new item
