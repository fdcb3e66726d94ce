-- What a differing key says of arguments that stand as entries.
use Rattle.std.proofs.Common.{◌≡◌, ℕ, Bool, true, false, List, [], ◌∷◌, map, find, Option, None, Some, refl, ap, sym, subst, ◌∙◌, bytes_eq, if◌then◌else◌}
use Rattle.std.specs.Option.{option_map, IfNone, IfSome}
use Rattle.graphql_names.specs.NameValue.{NameValue}
use Rattle.graphql_names.specs.declared.node.Node.{Node}
use Rattle.graphql_names.specs.Placed.{Placed, Place, node_tree}
use Rattle.tree_literals.specs.ValueTree.{ValueTree, unplaced_value}
use Rattle.tree_literals.specs.declared.value.Value.{Value}
use Rattle.tree_directives.specs.DirectiveTree.{ArgumentTree, argument_tree}
use Rattle.tree_directives.specs.DirectiveQueries.{argument_has_name}
use Rattle.tree_directives.specs.declared.directive.Argument.{Argument}
use Rattle.rule_document_definitions.specs.SameValues.{SameGiven, SameArguments, plain_given}
use Rattle.rule_selection_queries.specs.Tests.{Plain, plain_entries, first_under, differing_key, entry_pair, argument_pair, arguments_of}
use Rattle.rule_selection_queries.proofs.Deciding.{Told, key_told, not_seen}

abbrev Pair : Type 0
Pair = List ℕ × Plain

-- the first of a name
abbrev first_pair : List ℕ → List Pair → Option Plain
first_pair n [] = None
first_pair n (p ∷ ps) = if bytes_eq p.0 n then Some p.1 else first_pair n ps

of_entries : (n : List ℕ) (es : List (NameValue × Node Value)) → first_under n (plain_entries es) ≡ first_pair n (map entry_pair es)
of_entries n [] = refl
of_entries n (e ∷ es) = ap (λ o. if bytes_eq e.0.text n then Some (entry_pair e).1 else o) (of_entries n es)

abbrev Given : Type 0
Given = Placed Place (ArgumentTree Place)

abbrev value_of : Option Given → Option Plain
value_of o = option_map (λ (v : Placed Place (ValueTree Place)). unplaced_value v.it) (option_map (λ (a : Given). a.it.value) o)

of_arguments : (n : List ℕ) (given : List (Node Argument)) → plain_given n (arguments_of given) ≡ first_pair n (map argument_pair given)
of_arguments n [] = refl
of_arguments n (a ∷ given) = by (bytes_eq (argument_pair a).0 n) (of_arguments n given)
  where
    by : (b : Bool) → plain_given n (arguments_of given) ≡ first_pair n (map argument_pair given)
        → value_of (if b then Some (node_tree argument_tree a) else find (argument_has_name n) (arguments_of given)) ≡ (if b then Some (argument_pair a).1 else first_pair n (map argument_pair given))
    by true rest = refl
    by false rest = rest

same_first : (es : List (NameValue × Node Value)) (given : List (Node Argument)) → map entry_pair es ≡ map argument_pair given → (n : List ℕ) → first_under n (plain_entries es) ≡ plain_given n (arguments_of given)
same_first es given e n = of_entries n es ∙ ap (first_pair n) e ∙ sym (of_arguments n given)

-- a name, if there is one, that is not given the same on both sides
abbrev pub Differing : Option NameValue → List (Node Argument) → List (Node Argument) → Type 0
Differing r a b =
    IfNone r (SameArguments (arguments_of a) (arguments_of b))
    × IfSome r (λ n. SameGiven (plain_given n.text (arguments_of a)) (plain_given n.text (arguments_of b)) → ⊥)

pub arguments_told : (es fs : List (NameValue × Node Value)) (a b : List (Node Argument)) → map entry_pair es ≡ map argument_pair a → map entry_pair fs ≡ map argument_pair b
    → (r : Option NameValue) → option_map (λ (n : NameValue). n.text) r ≡ differing_key [] (plain_entries es) (plain_entries fs) → Differing r a b
arguments_told es fs a b given given' r e = by r (subst (Told [] (plain_entries es) (plain_entries fs)) (sym e) (key_told [] (plain_entries es) (plain_entries fs)))
  where
    over : (n : List ℕ) → SameGiven (first_under n (plain_entries es)) (first_under n (plain_entries fs)) → SameGiven (plain_given n (arguments_of a)) (plain_given n (arguments_of b))
    over n s = subst (λ o. SameGiven o (plain_given n (arguments_of b))) (same_first es a given n) (subst (λ o. SameGiven (first_under n (plain_entries es)) o) (same_first fs b given' n) s)

    back : (n : List ℕ) → SameGiven (plain_given n (arguments_of a)) (plain_given n (arguments_of b)) → SameGiven (first_under n (plain_entries es)) (first_under n (plain_entries fs))
    back n s = subst (λ o. SameGiven o (first_under n (plain_entries fs))) (sym (same_first es a given n)) (subst (λ o. SameGiven (plain_given n (arguments_of a)) o) (sym (same_first fs b given' n)) s)

    by : (r : Option NameValue) → Told [] (plain_entries es) (plain_entries fs) (option_map (λ (n : NameValue). n.text) r) → Differing r a b
    by None t = (λ n. over n (not_seen (t n)), tt)
    by (Some n) t = (tt, λ s. t.1 (back n.text s))
