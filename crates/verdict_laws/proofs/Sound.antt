-- What schema texts have in common: each definition can be written, and none is in the file of what is built in.
use Rattle.std.proofs.Common.{◌≡◌, ◌≢◌, ℕ, ◌+◌, Bool, true, false, not, ◌&&◌, List, [], ◌∷◌, ◌++◌, Option, None, Some, option_to_list, refl, sym, ap, ◌∙◌, suc, arith, true≢false}
use Rattle.std.specs.List.{list_all, AllByRecursion}
use Rattle.std.proofs.lemmas.Option.{same_Some}
use Rattle.graphql_names.specs.Places.{is_built_in}
use Rattle.graphql_names.specs.Placed.{Place, Placed}
use Rattle.tree_directives.specs.DirectiveTree.{DirectiveDefinitionTree}
use Rattle.tree_definitions.specs.DefinitionTree as tree
use Rattle.tree_definitions.specs.DefinitionTree.{DefinitionTree}
use Rattle.tree_definitions.specs.Writable.{has_some, definition_writable}
use Rattle.schema_types.specs.TypeParts.{TypeDefinition, type_here}
use Rattle.schema_fold.specs.NumberedDefinition.{types_in, directive_here, directives_in}
use Rattle.graphql_read.specs.EachPlace.{all_in_definition, all_in_document}
use Rattle.graphql_read.specs.Sound.{is_own}
use Rattle.graphql_read.proofs.Soundness.{document_sound}
use Rattle.verdict_definitions.specs.Texts.{SourceText, Tree, ReadsText, ReadsAll}
use Rattle.verdict_definitions.specs.Meaning.{all_definitions}
use Rattle.verdict_laws.specs.Table.{AreOwn}

pub both : (a b : Bool) → (a && b) ≡ true → (a ≡ true) × (b ≡ true)
both true true h = (refl, refl)
both true false h = absurd (true≢false (sym h))
both false b h = absurd (true≢false (sym h))

pub all_append : {X : Type 0} (f : X → Bool) (xs ys : List X) → list_all f xs ≡ true → list_all f ys ≡ true → list_all f (xs ++ ys) ≡ true
all_append f [] ys h k = k
all_append f (x ∷ xs) ys h k =
    let split = both (f x) (list_all f xs) h in
    ap (λ b. b && list_all f (xs ++ ys)) split.0 ∙ all_append f xs ys split.1 k

-- a text's definitions
pub record Fine (ds : Tree) : Type 0 where
  pub can : list_all definition_writable ds ≡ true
  pub own : all_in_document is_own ds ≡ true

fine_text : (number : ℕ) (text : SourceText) (tree : Tree) → number ≢ 0 → ReadsText number text tree → Fine tree
fine_text number text tree some read =
    let sound = document_sound (record { 0 = number }) text tree read in
    record { can = (both (has_some tree) (list_all definition_writable tree) sound.writable).1; own = sound.own some }

pub fine_all : (first : ℕ) (texts : List SourceText) (trees : List Tree) → first ≢ 0 → ReadsAll first texts trees → Fine (all_definitions trees)
fine_all first [] [] some read = record { can = refl; own = refl }
fine_all first [] (tree ∷ trees) some read = absurd read
fine_all first (text ∷ texts) [] some read = absurd read
fine_all first (text ∷ texts) (tree ∷ trees) some read =
    let here = fine_text first text tree some read.0 in
    let rest = fine_all (first + 1) texts trees (λ e. let bad : suc first ≡ 0 = omega (arith, e) in cc) read.1 in
    record {
      can = all_append definition_writable tree (all_definitions trees) here.can rest.can;
      own = all_append (all_in_definition is_own) tree (all_definitions trees) here.own rest.own;
    }

-- ---- none is in the file of what is built in

not_true : (b : Bool) → not b ≡ true → b ≡ false
not_true true h = absurd (true≢false (sym h))
not_true false h = refl

of_three : (a b c : Bool) → (a && b && c) ≡ true → a ≡ true
of_three true b c h = refl
of_three false b c h = h

of_two : (a b : Bool) → (a && b) ≡ true → a ≡ true
of_two true b h = refl
of_two false b h = h

place_of : {d t : TypeDefinition Place} → Some d ≡ Some t → d.place ≡ t.place
place_of {d} {t} e = ap (λ (x : TypeDefinition Place). x.place) (same_Some d t e)

type_own : (d : DefinitionTree Place) (t : TypeDefinition Place) → type_here d ≡ Some t → all_in_definition is_own d ≡ true → is_built_in t.place ≡ false
type_own (tree.ScalarType p x s) t e own = ap is_built_in (sym (place_of e)) ∙ not_true (is_built_in p) (of_three (is_own p) _ _ own)
type_own (tree.ObjectType p x s) t e own = ap is_built_in (sym (place_of e)) ∙ not_true (is_built_in p) (of_three (is_own p) _ _ own)
type_own (tree.InterfaceType p x s) t e own = ap is_built_in (sym (place_of e)) ∙ not_true (is_built_in p) (of_three (is_own p) _ _ own)
type_own (tree.UnionType p x s) t e own = ap is_built_in (sym (place_of e)) ∙ not_true (is_built_in p) (of_three (is_own p) _ _ own)
type_own (tree.EnumType p x s) t e own = ap is_built_in (sym (place_of e)) ∙ not_true (is_built_in p) (of_three (is_own p) _ _ own)
type_own (tree.InputObjectType p x s) t e own = ap is_built_in (sym (place_of e)) ∙ not_true (is_built_in p) (of_three (is_own p) _ _ own)
type_own _ t e own = cc

abbrev Directive : Type 0
Directive = Placed Place (DirectiveDefinitionTree Place)

directive_own : (d : DefinitionTree Place) (x : Directive) → directive_here d ≡ Some x → all_in_definition is_own d ≡ true → is_built_in x.place ≡ false
directive_own (tree.DirectiveDefinition p y) x e own = ap is_built_in (sym (ap (λ (z : Directive). z.place) (same_Some _ x e))) ∙ not_true (is_built_in p) (of_two (is_own p) _ own)
directive_own _ x e own = cc

types_own : (ds : Tree) → list_all (all_in_definition is_own) ds ≡ true → AllByRecursion (λ t. is_built_in t.place ≡ false) (types_in ds)
types_own [] h = tt
types_own (d ∷ ds) h =
    let split = both (all_in_definition is_own d) (list_all (all_in_definition is_own) ds) h in
    here (type_here d) refl split.0 (types_own ds split.1)
  where
    here : (o : Option (TypeDefinition Place)) → type_here d ≡ o → all_in_definition is_own d ≡ true → AllByRecursion (λ t. is_built_in t.place ≡ false) (types_in ds) → AllByRecursion (λ t. is_built_in t.place ≡ false) (option_to_list o ++ types_in ds)
    here None e own rest = rest
    here (Some t) e own rest = (type_own d t e own, rest)

directives_own : (ds : Tree) → list_all (all_in_definition is_own) ds ≡ true → AllByRecursion (λ x. is_built_in x.place ≡ false) (directives_in ds)
directives_own [] h = tt
directives_own (d ∷ ds) h =
    let split = both (all_in_definition is_own d) (list_all (all_in_definition is_own) ds) h in
    here (directive_here d) refl split.0 (directives_own ds split.1)
  where
    here : (o : Option Directive) → directive_here d ≡ o → all_in_definition is_own d ≡ true → AllByRecursion (λ x. is_built_in x.place ≡ false) (directives_in ds) → AllByRecursion (λ x. is_built_in x.place ≡ false) (option_to_list o ++ directives_in ds)
    here None e own rest = rest
    here (Some x) e own rest = (directive_own d x e own, rest)

pub are_own : (ds : Tree) → Fine ds → AreOwn ds
are_own ds fine = record { types = types_own ds fine.own; directives = directives_own ds fine.own }
