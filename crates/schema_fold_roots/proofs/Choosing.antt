-- Lemmas on the definitions of directives.
use Rattle.std.proofs.Common.{◌≡◌, ◌<◌, ◌+◌, ℕ, Bool, true, false, ◌||◌, List, [], ◌∷◌, ◌++◌, map, take, get_or, length, Option, Some, refl, sym, ap, ◌∙◌, cond, if◌then◌else◌, is_some, option_to_list}
use Rattle.std.specs.List.{find}
use Rattle.std.specs.Map.{lookup}
use Rattle.std.specs.Option.{option_map, option_map_or}
use Rattle.std.specs.Str.{bytes_eq}
use Rattle.std.proofs.lemmas.List.{append_assoc, append-nil, map-append, map_more}
use Rattle.std.proofs.lemmas.Grind.{flat_map-append}
use Rattle.std.proofs.lemmas.Slice.Eq.{bytes_eq-Decides}
use Rattle.graphql_names.specs.NameValue.{NameValue}
use Rattle.graphql_names.specs.declared.node.Node.{Node}
use Rattle.tree_directives.specs.declared.directive.DirectiveDefinition.{DirectiveDefinition}
use Rattle.schema_fold.specs.in_definitions.DefinitionTree.{definition_tree}
use Rattle.schema_components.specs.Lists.{each_place_after, firsts, has_name}
use Rattle.schema_components.specs.Names.{Entries}
use Rattle.schema_components.proofs.Firsts.{has_name-push, kept_seen, kept_new}
use Rattle.schema_fold.specs.Components.{keyed_firsts}
use Rattle.schema_fold.specs.Fold.{chosen_directive, folded_directives}
use Rattle.schema_fold.specs.NumberedDefinition.{Definitions, directive_here, directive_name, directives_in, definitions_of}
use Rattle.schema_fold.specs.ListedView.{listed_view}
use Rattle.schema_fold.specs.declared.numbered_definition.NumberedDefinition.{NumberedDefinition as RustNumberedDefinition}
use Rattle.schema_fold_roots.specs.DirectiveFold.{Directive, chosen_of, chosen_firsts, Chooses}
use Rattle.schema_fold_roots.specs.DirectivesView.{directive_view}
use Rattle.schema_fold_roots.proofs.Named.{named}

-- the definitions of one more of a list
pub definitions_more : (xs : List RustNumberedDefinition) (i : ℕ) (d : RustNumberedDefinition) → i < length xs
    → definitions_of (map listed_view (take (i + 1) xs)) ≡ definitions_of (map listed_view (take i xs)) ++ definition_tree (get_or xs i d).definition ∷ []
definitions_more xs i d h = ap definitions_of (map_more listed_view xs i d h) ∙ map-append (λ l. l.definition) (map listed_view (take i xs)) (listed_view (get_or xs i d) ∷ [])

pub directives_append : (xs ys : Definitions) → directives_in (xs ++ ys) ≡ directives_in xs ++ directives_in ys
directives_append xs ys = flat_map-append (λ d. option_to_list (directive_here d)) xs ys

-- the directives of one more of a list
pub directives_more : (xs : List RustNumberedDefinition) (i : ℕ) (x : RustNumberedDefinition) (o : Option Directive) → i < length xs → x ≡ get_or xs i x → o ≡ directive_here (definition_tree x.definition)
    → directives_in (definitions_of (map listed_view (take (i + 1) xs))) ≡ directives_in (definitions_of (map listed_view (take i xs))) ++ (option_to_list o ++ [])
directives_more xs i x o h is here =
    let before = definitions_of (map listed_view (take i xs)) in
    ap directives_in (definitions_more xs i x h ∙ ap (λ y. before ++ definition_tree y.definition ∷ []) (sym is))
    ∙ directives_append before (definition_tree x.definition ∷ [])
    ∙ ap (λ p. directives_in before ++ (option_to_list p ++ [])) (sym here)

-- the first of a name is the first of it among the firsts
module _ {X : Type 0} (key : X → List ℕ) where
  abbrev first_here : List X → X → List X
  first_here before x = if has_name key (key x) before then [] else x ∷ []

  skip : (n : List ℕ) (x : X) (ys : List X) (c : Bool) → named key n x ≡ false → find (named key n) (cond c [] (x ∷ []) ++ ys) ≡ find (named key n) ys
  skip n x ys true other = refl
  skip n x ys false other = ap (λ b. cond b (Some x) (find (named key n) ys)) other

  find_after : (n : List ℕ) (before xs : List X) → has_name key n before ≡ false → find (named key n) (each_place_after first_here before xs) ≡ find (named key n) xs
  find_after n before [] new = refl
  find_after n before (x ∷ xs) new = by (named key n x) refl (find_after n (before ++ x ∷ []) xs)
    where
      by : (b : Bool) → named key n x ≡ b
          → (has_name key n (before ++ x ∷ []) ≡ false → find (named key n) (each_place_after first_here (before ++ x ∷ []) xs) ≡ find (named key n) xs)
          → find (named key n) (first_here before x ++ each_place_after first_here (before ++ x ∷ []) xs) ≡ cond b (Some x) (find (named key n) xs)
      by true e rest =
          let unseen : has_name key (key x) before ≡ false = ap (λ m. has_name key m before) (sym ((bytes_eq-Decides n (key x)).0 e)) ∙ new in
          ap (λ c. find (named key n) (cond c [] (x ∷ []) ++ each_place_after first_here (before ++ x ∷ []) xs)) unseen
          ∙ ap (λ b. cond b (Some x) (find (named key n) (each_place_after first_here (before ++ x ∷ []) xs))) e
      by false e rest =
          skip n x (each_place_after first_here (before ++ x ∷ []) xs) (has_name key (key x) before) e
          ∙ rest (has_name-push key n before x ∙ (λ i. new i || e i))

  pub find_firsts : (n : List ℕ) (xs : List X) → find (named key n) (firsts key xs) ≡ find (named key n) xs
  find_firsts n xs = find_after n [] xs refl

  lookup_keyed : (n : List ℕ) (ys : List X) → lookup (bytes_eq n) (map (λ x. (key x, x)) ys) ≡ find (named key n) ys
  lookup_keyed n [] = refl
  lookup_keyed n (y ∷ ys) = ap (λ o. cond (named key n y) (Some y) o) (lookup_keyed n ys)

  pub lookup_keyed_firsts : (n : List ℕ) (xs : List X) → lookup (bytes_eq n) (keyed_firsts key xs) ≡ find (named key n) xs
  lookup_keyed_firsts n xs = lookup_keyed n (firsts key xs) ∙ find_firsts n xs

-- ---- choosing

pub chooses_none : (own : Entries Directive) (kept : Entries Directive) → Chooses own [] kept kept
chooses_none own kept before is = is ∙ ap (chosen_firsts own) (sym (append-nil before))

pub chooses_then : (own a b c : Entries Directive) (xs ys : List Directive) → Chooses own xs a b → Chooses own ys b c → Chooses own (xs ++ ys) a c
chooses_then own a b c xs ys first second before is = second (before ++ xs) (first before is) ∙ ap (chosen_firsts own) (append_assoc before xs ys)

abbrev pub entry_view : NameValue × Node DirectiveDefinition → List ℕ × Directive
entry_view e = (e.0.text, directive_view e.1)

abbrev entry_key : List ℕ × Directive → List ℕ
entry_key w = w.0

module _ (own : Entries Directive) (es : List (NameValue × Node DirectiveDefinition)) (x : Directive) where
  abbrev made : Directive → List ℕ × Directive
  made d = (directive_name d, chosen_of own d)

  pub chooses_seen : is_some (lookup (λ k. bytes_eq (directive_name x) k.text) es) ≡ true → Chooses own (x ∷ []) (map entry_view es) (map entry_view es)
  chooses_seen there before is = kept_seen directive_name entry_view made entry_key (λ e. refl) (λ y. refl) es before x is there

  pub chooses_new : (new : Entries Directive) → is_some (lookup (λ k. bytes_eq (directive_name x) k.text) es) ≡ false → new ≡ map entry_view es ++ made x ∷ [] → Chooses own (x ∷ []) (map entry_view es) new
  chooses_new new absent added before is = kept_new directive_name entry_view made entry_key (λ e. refl) (λ y. refl) es before x new is absent added

-- what a lookup in a map answers
pub lookup_viewed : (n : List ℕ) (es : List (NameValue × Node DirectiveDefinition)) → lookup (bytes_eq n) (map entry_view es) ≡ option_map directive_view (lookup (λ k. bytes_eq n k.text) es)
lookup_viewed n [] = refl
lookup_viewed n (e ∷ es) = by (bytes_eq n e.0.text) (lookup_viewed n es)
  where
    by : (b : Bool) → lookup (bytes_eq n) (map entry_view es) ≡ option_map directive_view (lookup (λ k. bytes_eq n k.text) es)
        → cond b (Some (directive_view e.1)) (lookup (bytes_eq n) (map entry_view es)) ≡ option_map directive_view (cond b (Some e.1) (lookup (λ k. bytes_eq n k.text) es))
    by true rest = refl
    by false rest = rest

-- what is chosen of the firsts of the texts is what the fold says
chosen_is : (texts : Definitions) (d : Directive) → chosen_of (keyed_firsts directive_name (directives_in texts)) d ≡ chosen_directive texts d
chosen_is texts d = ap (λ o. option_map_or (λ z. z) o d) (lookup_keyed_firsts directive_name (directive_name d) (directives_in texts))

pub folded_is : (built_in texts : Definitions) → chosen_firsts (keyed_firsts directive_name (directives_in texts)) (directives_in built_in ++ directives_in texts) ≡ folded_directives built_in texts
folded_is built_in texts =
    (λ i. map (λ d. (directive_name d, chosen_is texts d i)) (firsts directive_name (directives_in built_in ++ directives_in texts)))
    ∙ ap (λ l. map (λ d. (directive_name d, chosen_directive texts d)) (firsts directive_name l)) (sym (directives_append built_in texts))

-- what a lookup among the texts' definitions chooses
pub own_found : (es : List (NameValue × Node DirectiveDefinition)) (d : Directive) (o : Option (Node DirectiveDefinition)) → o ≡ lookup (λ k. bytes_eq (directive_name d) k.text) es
    → option_map_or (λ z. z) (option_map directive_view o) d ≡ chosen_of (map entry_view es) d
own_found es d o is = ap (λ p. option_map_or (λ z. z) p d) (ap (option_map directive_view) is ∙ sym (lookup_viewed (directive_name d) es))
