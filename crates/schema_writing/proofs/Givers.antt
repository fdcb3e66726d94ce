-- Lemmas on what is filed under a giver.
use Rattle.std.proofs.Common.{◌≡◌, ℕ, Bool, true, false, cond, ◌==◌, List, [], ◌∷◌, ◌++◌, Option, None, Some, is_some, refl, sym, ap, ◌∙◌, true≢false, Vec, if◌then◌else◌}
use Rattle.std.specs.Option.{option_map_or}
use Rattle.std.specs.Map.{lookup, set_value}
use Rattle.std.specs.Global.{Global}
use Rattle.std.proofs.lemmas.List.{append-nil}
use Rattle.std.proofs.lemmas.Bool.Decides.{Decides-eqb}
use Rattle.graphql_names.specs.Placed.{Place}
use Rattle.schema_components.specs.Given.{ExtensionTree, origin_tree}
use Rattle.schema_components.specs.declared.component.ComponentOrigin.{ComponentOrigin}
use Rattle.schema_components.specs.declared.component.ComponentOrigin.TheVariants.{Definition, Extension}
use Rattle.schema_types.specs.Out.{same_giver}
use Rattle.schema_writing.specs.Filed.{filed_under}

abbrev Giver : Type 0
Giver = Option (ExtensionTree Place)

-- ---- givers that are the same

number_left : (a b c : ℕ) → (a == b) ≡ true → (a == c) ≡ (b == c)
number_left a b c h = ap (λ n. n == c) ((Decides-eqb a b).0 h)

number_right : (a b c : ℕ) → (a == b) ≡ true → (c == a) ≡ (c == b)
number_right a b c h = ap (λ n. c == n) ((Decides-eqb a b).0 h)

none_is_some : {A B : Type 0} (a : A) → None ≡ Some a → B
none_is_some a h = absurd (true≢false (sym (ap is_some h)))

-- givers that are the same are the same as any third
pub same_third : (g a b : Giver) → same_giver a b ≡ true → same_giver g b ≡ same_giver g a
same_third None None None h = refl
same_third (Some e) None None h = refl
same_third None (Some a) (Some b) h = refl
same_third (Some e) (Some a) (Some b) h = sym (number_right a.number b.number e.number h)
same_third g None (Some b) h = absurd (true≢false (sym h))
same_third g (Some a) None h = absurd (true≢false (sym h))

-- a giver that is the same as b is no other's
pub same_other : (g a b : Giver) → same_giver a b ≡ false → same_giver g b ≡ true → same_giver g a ≡ false
same_other None None None h t = absurd (true≢false h)
same_other None (Some a) None h t = refl
same_other (Some e) None (Some b) h t = refl
same_other (Some e) (Some a) (Some b) h t = by (e.number == a.number) refl
  where
    by : (c : Bool) → (e.number == a.number) ≡ c → c ≡ false
    by false s = refl
    by true s = sym t ∙ number_left e.number a.number b.number s ∙ h
same_other (Some e) a None h t = absurd (true≢false (sym t))
same_other None a (Some b) h t = absurd (true≢false (sym t))

-- ---- what is filed

module _ {X : Type 0} (eq : ComponentOrigin → ComponentOrigin → Bool) (says : (a b : ComponentOrigin) → eq a b ≡ same_giver (origin_tree a) (origin_tree b)) (giver : Giver) (k : ComponentOrigin) where
  abbrev more : List X → List X
  more xs = if same_giver giver (origin_tree k) then xs else []

  abbrev here : ComponentOrigin × Vec X Global → Bool
  here e = same_giver giver (origin_tree e.0)

  under-cons : (e : ComponentOrigin × Vec X Global) (es : List (ComponentOrigin × Vec X Global)) (b : Bool) → here e ≡ b → filed_under giver (e ∷ es) ≡ cond b e.1.items (filed_under giver es)
  under-cons e es true h = ap (λ b. option_map_or (λ (v : Vec X Global). v.items) (cond b (Some e.1) (lookup (λ o. same_giver giver (origin_tree o)) es)) []) h
  under-cons e es false h = ap (λ b. option_map_or (λ (v : Vec X Global). v.items) (cond b (Some e.1) (lookup (λ o. same_giver giver (origin_tree o)) es)) []) h

  none_more : (xs ys : List X) → same_giver giver (origin_tree k) ≡ false → xs ≡ xs ++ more ys
  none_more xs ys h = sym (append-nil xs) ∙ ap (λ b. xs ++ (if b then ys else [])) (sym h)

  -- entries of which none has the key, and one more
  pub filed_new : (es : List (ComponentOrigin × Vec X Global)) (v : Vec X Global) → lookup (eq k) es ≡ None → filed_under giver (es ++ (k, v) ∷ []) ≡ filed_under giver es ++ more v.items
  filed_new [] v none = by (same_giver giver (origin_tree k)) refl
    where
      by : (b : Bool) → same_giver giver (origin_tree k) ≡ b → filed_under giver ((k, v) ∷ []) ≡ more v.items
      by true h = under-cons (k, v) [] true h ∙ ap (λ b. if b then v.items else []) (sym h)
      by false h = under-cons (k, v) [] false h ∙ ap (λ b. if b then v.items else []) (sym h)
  filed_new (e ∷ es) v none = at_key (eq k e.0) refl (λ h. filed_new es v h)
    where
      at_key : (b : Bool) → eq k e.0 ≡ b → (lookup (eq k) es ≡ None → filed_under giver (es ++ (k, v) ∷ []) ≡ filed_under giver es ++ more v.items) → filed_under giver (e ∷ es ++ (k, v) ∷ []) ≡ filed_under giver (e ∷ es) ++ more v.items
      at_key true same rest = none_is_some e.1 (sym none ∙ ap (λ b. cond b (Some e.1) (lookup (eq k) es)) same)
      at_key false same rest = by (here e) refl
        where
          by : (b : Bool) → here e ≡ b → filed_under giver (e ∷ es ++ (k, v) ∷ []) ≡ filed_under giver (e ∷ es) ++ more v.items
          by true h =
              under-cons e (es ++ (k, v) ∷ []) true h ∙ none_more e.1.items v.items (same_other giver (origin_tree k) (origin_tree e.0) (sym (says k e.0) ∙ same) h)
              ∙ ap (λ l. l ++ more v.items) (sym (under-cons e es true h))
          by false h =
              under-cons e (es ++ (k, v) ∷ []) false h ∙ rest (sym (ap (λ b. cond b (Some e.1) (lookup (eq k) es)) same) ∙ none)
              ∙ ap (λ l. l ++ more v.items) (sym (under-cons e es false h))

  -- entries of which one has the key, and one more item there
  pub filed_more : (es : List (ComponentOrigin × Vec X Global)) (v w : Vec X Global) (x : X) → lookup (eq k) es ≡ Some v → w.items ≡ v.items ++ x ∷ [] → filed_under giver (set_value (eq k) es w) ≡ filed_under giver es ++ more (x ∷ [])
  filed_more [] v w x some grown = none_is_some v some
  filed_more (e ∷ es) v w x some grown = at_key (eq k e.0) refl (λ h. filed_more es v w x h grown)
    where
      at_key : (b : Bool) → eq k e.0 ≡ b → (lookup (eq k) es ≡ Some v → filed_under giver (set_value (eq k) es w) ≡ filed_under giver es ++ more (x ∷ []))
          → filed_under giver (set_value (eq k) (e ∷ es) w) ≡ filed_under giver (e ∷ es) ++ more (x ∷ [])
      at_key true same rest = ap (λ b. filed_under giver (cond b ((e.0, w) ∷ es) (e ∷ set_value (eq k) es w))) same ∙ by (here e) refl
        where
          third : here e ≡ same_giver giver (origin_tree k)
          third = same_third giver (origin_tree k) (origin_tree e.0) (sym (says k e.0) ∙ same)

          found : Some e.1 ≡ Some v
          found = sym (ap (λ b. cond b (Some e.1) (lookup (eq k) es)) same) ∙ some

          items : w.items ≡ e.1.items ++ x ∷ []
          items = grown ∙ ap (λ o. option_map_or (λ (y : Vec X Global). y.items) o [] ++ x ∷ []) (sym found)

          by : (b : Bool) → here e ≡ b → filed_under giver ((e.0, w) ∷ es) ≡ filed_under giver (e ∷ es) ++ more (x ∷ [])
          by true h =
              under-cons (e.0, w) es true h ∙ items ∙ ap (λ b. e.1.items ++ (if b then x ∷ [] else [])) (sym (sym third ∙ h))
              ∙ ap (λ l. l ++ more (x ∷ [])) (sym (under-cons e es true h))
          by false h =
              under-cons (e.0, w) es false h ∙ none_more (filed_under giver es) (x ∷ []) (sym third ∙ h)
              ∙ ap (λ l. l ++ more (x ∷ [])) (sym (under-cons e es false h))
      at_key false same rest = ap (λ b. filed_under giver (cond b ((e.0, w) ∷ es) (e ∷ set_value (eq k) es w))) same ∙ by (here e) refl
        where
          by : (b : Bool) → here e ≡ b → filed_under giver (e ∷ set_value (eq k) es w) ≡ filed_under giver (e ∷ es) ++ more (x ∷ [])
          by true h =
              under-cons e (set_value (eq k) es w) true h ∙ none_more e.1.items (x ∷ []) (same_other giver (origin_tree k) (origin_tree e.0) (sym (says k e.0) ∙ same) h)
              ∙ ap (λ l. l ++ more (x ∷ [])) (sym (under-cons e es true h))
          by false h =
              under-cons e (set_value (eq k) es w) false h ∙ rest (sym (ap (λ b. cond b (Some e.1) (lookup (eq k) es)) same) ∙ some)
              ∙ ap (λ l. l ++ more (x ∷ [])) (sym (under-cons e es false h))

-- whether two origins are equal
pub origins_say : (eq : ComponentOrigin → ComponentOrigin → Bool) → eq Definition Definition ≡ true → ((e : _) → eq Definition (Extension e) ≡ false) → ((e : _) → eq (Extension e) Definition ≡ false)
    → ((e f : _) → eq (Extension e) (Extension f) ≡ same_giver (origin_tree (Extension e)) (origin_tree (Extension f))) → (a b : ComponentOrigin) → eq a b ≡ same_giver (origin_tree a) (origin_tree b)
origins_say eq dd de ed ee Definition Definition = dd
origins_say eq dd de ed ee Definition (Extension e) = de e
origins_say eq dd de ed ee (Extension e) Definition = ed e
origins_say eq dd de ed ee (Extension e) (Extension f) = ee e f
