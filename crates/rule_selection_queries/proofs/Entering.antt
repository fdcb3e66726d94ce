-- The fragment that a selection spreads, by a lookup among those of a document.
use Rattle.std.proofs.Common.{◌≡◌, ◌++◌, Bool, true, false, ℕ, List, [], ◌∷◌, Option, None, Some, map, bytes_eq, option_to_list, refl, sym, ap, ◌∙◌, append-nil}
use Rattle.std.specs.Prelude.{if◌then◌else◌, not}
use Rattle.std.specs.List.{list_any}
use Rattle.std.specs.Map.{lookup}
use Rattle.std.specs.Option.{option_map}
use Rattle.rule_cycle_search.proofs.Lists.{mapped_some, mapped_none}
use Rattle.graphql_names.specs.NameValue.{NameValue}
use Rattle.graphql_names.specs.Node.{content}
use Rattle.graphql_names.specs.Placed.{Place}
use Rattle.graphql_names.specs.declared.node.Node.{Node}
use Rattle.document_typed_selections.specs.TypedTree.{TypedSelection, TypedField, TypedSpread, TypedInline, TypedSet, typed_set_tree}
use Rattle.document_typed_selections.specs.TypedParts.{as_typed_spread}
use Rattle.document_typed_operations.specs.declared.operation.Fragment.{Fragment}
use Rattle.spec_document.specs.MeantTree.{MeantSelection, meant}
use Rattle.document_typed_operations.specs.Reached.{NamedSet, Fragments, fragment_named}
use Rattle.document_typed_operations.specs.WalkView.{fragment_set as set_of}
use Rattle.document_typed_operations.proofs.Standings.{named_set}
use Rattle.document_typed_operations.proofs.Finding.{none_is_some}
use Rattle.indexmap.specs.IndexSet.{insert_key}
use Rattle.rule_document_definitions.specs.Selected.{spread_name}
use Rattle.rule_selection_queries.specs.Always.{to_enter}
use Rattle.rule_selection_queries.proofs.Found.{enter_known, enter_new, enter_missing, enter_none}

-- no spread, and one
pub no_spread : {P : Type 0} (s : TypedSelection P) → None ≡ as_typed_spread s → spread_name (meant s) ≡ None
no_spread (TypedField p d h s) e = refl
no_spread (TypedSpread p n ds) e = none_is_some (TypedSpread p n ds) e
no_spread (TypedInline p c ds s) e = refl

abbrev name_if : {P : Type 0} → Option (TypedSelection P) → Option (List ℕ)
name_if None = None
name_if (Some x) = spread_name (meant x)

pub a_spread : {P : Type 0} (s y : TypedSelection P) → Some y ≡ as_typed_spread s → spread_name (meant s) ≡ spread_name (meant y)
a_spread (TypedField p d h s) y e = none_is_some y (sym e)
a_spread (TypedSpread p n ds) y e = sym (ap name_if e)
a_spread (TypedInline p c ds s) y e = none_is_some y (sym e)

-- what a map has under a name
pub looked_up : (n : List ℕ) (es : List (NameValue × Node Fragment)) → option_map set_of (lookup (λ (a : NameValue). bytes_eq n a.text) es) ≡ option_map (λ (f : NamedSet Place). f.1) (fragment_named (map named_set es) n)
looked_up n [] = refl
looked_up n (e ∷ es) = by (bytes_eq n e.0.text) (looked_up n es)
  where
    by : (b : Bool) → option_map set_of (lookup (λ (a : NameValue). bytes_eq n a.text) es) ≡ option_map (λ (f : NamedSet Place). f.1) (fragment_named (map named_set es) n)
        → option_map set_of (if b then Some e.1 else lookup (λ (a : NameValue). bytes_eq n a.text) es) ≡ option_map (λ (f : NamedSet Place). f.1) (if b then Some (named_set e) else fragment_named (map named_set es) n)
    by true rest = refl
    by false rest = rest

-- ---- what is entered, then

module _ (fs : Fragments Place) (names : List (List ℕ)) (s : MeantSelection Place) where
  abbrev pub entered_set : Option (TypedSet Place)
  entered_set = option_map (λ f. f.1) (to_enter fs names s)

  abbrev pub entered_name : List (List ℕ)
  entered_name = option_to_list (option_map (λ f. f.0) (to_enter fs names s))

  pub nothing_set : to_enter fs names s ≡ None → None ≡ entered_set
  nothing_set e = sym (ap (option_map (λ (f : NamedSet Place). f.1)) e)

  pub nothing_name : to_enter fs names s ≡ None → names ≡ names ++ entered_name
  nothing_name e = sym (ap (λ o. names ++ option_to_list (option_map (λ (f : NamedSet Place). f.0) o)) e ∙ append-nil names)

  pub new_set : (n : List ℕ) (u : TypedSet Place) → spread_name s ≡ Some n → list_any (bytes_eq n) names ≡ false → Some u ≡ option_map (λ (f : NamedSet Place). f.1) (fragment_named fs n) → Some u ≡ entered_set
  new_set n u is k e =
      let f = mapped_some (λ (f : NamedSet Place). f.1) (fragment_named fs n) u (sym e) in
      sym (ap (option_map (λ (f : NamedSet Place). f.1)) (enter_new fs names s n is f.0 k f.1.0) ∙ sym (ap Some f.1.1))

  pub new_name : (n : List ℕ) (u : TypedSet Place) (new : List (List ℕ)) → spread_name s ≡ Some n → list_any (bytes_eq n) names ≡ false → Some u ≡ option_map (λ (f : NamedSet Place). f.1) (fragment_named fs n)
      → new ≡ insert_key bytes_eq names n → new ≡ names ++ entered_name
  new_name n u new is k e put =
      let f = mapped_some (λ (f : NamedSet Place). f.1) (fragment_named fs n) u (sym e) in
      put ∙ ap (λ b. if b then names else names ++ n ∷ []) k
      ∙ sym (ap (λ o. names ++ option_to_list (option_map (λ (f : NamedSet Place). f.0) o)) (enter_new fs names s n is f.0 k f.1.0))

pub is_missing : (n : List ℕ) (es : List (NameValue × Node Fragment)) → None ≡ lookup (λ (a : NameValue). bytes_eq n a.text) es → fragment_named (map named_set es) n ≡ None
is_missing n es e = mapped_none (λ (f : NamedSet Place). f.1) (fragment_named (map named_set es) n) (sym (looked_up n es) ∙ sym (ap (option_map set_of) e))

pub is_found : (n : List ℕ) (es : List (NameValue × Node Fragment)) (x : Node Fragment) (f : Fragment) → Some x ≡ lookup (λ (a : NameValue). bytes_eq n a.text) es → f ≡ content x
    → Some (typed_set_tree f.selection_set) ≡ option_map (λ (g : NamedSet Place). g.1) (fragment_named (map named_set es) n)
is_found n es x f e of = ap (λ (g : Fragment). Some (typed_set_tree g.selection_set)) of ∙ ap (option_map set_of) e ∙ looked_up n es

pub is_there : (b : Bool) → not b ≡ false → b ≡ true
is_there true e = refl
is_there false e = sym e

pub put_again : (names : List (List ℕ)) (n : List ℕ) → list_any (bytes_eq n) names ≡ true → insert_key bytes_eq names n ≡ names
put_again names n e = ap (λ b. if b then names else names ++ n ∷ []) e
