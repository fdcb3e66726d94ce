-- What is lent by a walk, one by one.
use Rattle.std.proofs.Common.{◌≡◌, ◌++◌, List, [], ◌∷◌, map, Option, None, Some, refl, sym, ap, subst, ◌∙◌, append_assoc, append-nil}
use Rattle.std.specs.Borrow.{Bor}
use Rattle.std.specs.Prelude.{unwrap_or}
use Rattle.std.specs.Option.{option_copied}
use Rattle.std.proofs.lemmas.List.{map-append}
use Rattle.graphql_names.specs.Placed.{Place}
use Rattle.graphql_names.specs.NameValue.{NameValue}
use Rattle.document_typed_selections.specs.TypedTree.{typed_selection_tree}
use Rattle.document_typed_selections.specs.declared.selection.Selection.{Selection}
use Rattle.spec_document.specs.MeantTree.{MeantSelection, meant}
use Rattle.document_typed_operations.specs.Reached.{Member}
use Rattle.document_typed_operations.specs.WalkView.{lent_member}
use Rattle.rule_selection_queries.specs.Lent.{lent, lent_all}

abbrev pub members_lent : List (Member Place) → List (MeantSelection Place)
members_lent es = map (λ e. meant e.1) es

-- one more is pushed, a copy of what is lent
pub lent_push : (xs : List Selection) (x : Selection) → lent_all (xs ++ x ∷ []) ≡ lent_all xs ++ lent x ∷ []
lent_push xs x = map-append lent xs (x ∷ [])

pub taken : (xs ys : List Selection) (e : Bor NameValue × Bor Selection) (copy : Selection) (left rest : List (Member Place)) (all : List (MeantSelection Place)) → left ≡ lent_member e ∷ rest → typed_selection_tree copy ≡ typed_selection_tree e.1.now
    → ys ≡ xs ++ copy ∷ [] → lent_all xs ++ members_lent left ≡ all → lent_all ys ++ members_lent rest ≡ all
taken xs ys e copy left rest all first same more h =
    ap (λ l. l ++ members_lent rest) (ap lent_all more ∙ lent_push xs copy ∙ ap (λ t. lent_all xs ++ meant t ∷ []) same)
    ∙ append_assoc (lent_all xs) (lent e.1.now ∷ []) (members_lent rest)
    ∙ ap (λ l. lent_all xs ++ members_lent l) (sym first) ∙ h

pub all_taken : (xs : List Selection) (left : List (Member Place)) (all : List (MeantSelection Place)) → left ≡ [] → lent_all xs ++ members_lent left ≡ all → lent_all xs ≡ all
all_taken xs left all none h = sym (append-nil (lent_all xs)) ∙ ap (λ l. lent_all xs ++ members_lent l) (sym none) ∙ h

-- what holds of one that was made, or of another where none was, holds of what is lent of them
lent_same : {X : Type 0} (o : Option (Bor X)) (b : Bor X) → (unwrap_or o b).now ≡ unwrap_or (option_copied o) b.now
lent_same None b = refl
lent_same (Some x) b = refl

pub lent_or : {X : Type 0} (Q : X → Type 0) (r : Bor X) (o : Option (Bor X)) (b : Bor X) (made : Option X) → r ≡ unwrap_or o b → option_copied o ≡ made → Q (unwrap_or made b.now) → Q r.now
lent_or Q r o b made is copied q = subst Q (sym (ap (λ y. y.now) is ∙ lent_same o b ∙ ap (λ z. unwrap_or z b.now) copied)) q
