-- What a map of the first arguments of each name has after one more.
use Rattle.std.proofs.Common.{◌≡◌, ℕ, Bool, true, false, cond, List, [], ◌∷◌, ◌++◌, Option, None, Some, Bor, is_some, refl, sym, ap, subst, ◌∙◌, if◌then◌else◌, true≢false}
use Rattle.std.specs.List.{find}
use Rattle.std.specs.Option.{option_map, option_or, option_copied}
use Rattle.std.specs.Str.{bytes_eq}
use Rattle.std.proofs.lemmas.Slice.Eq.{bytes_eq-Decides}
use Rattle.indexmap.specs.IndexMap.{IndexMap, get}
use Rattle.graphql_names.specs.NameValue.{NameValue}
use Rattle.graphql_names.specs.Placed.{Place, node_tree}
use Rattle.graphql_names.specs.declared.node.Node.{Node}
use Rattle.tree_directives.specs.DirectiveTree.{InputValues, input_value_tree}
use Rattle.tree_directives.specs.declared.input_value.InputValueDefinition.{InputValueDefinition}
use Rattle.schema_components.specs.Names.{same_text}
use Rattle.schema_types.specs.TypeView.{name_text}
use Rattle.schema_inputs.specs.Inputs.{input_name}
use Rattle.rule_types.specs.FaultLists.{first_named}
use Rattle.rule_types.specs.InterfaceFaults.{Input}
use Rattle.rule_types.specs.Firsts.{AreFirsts}
use Rattle.rule_types.proofs.FirstNamed.{first_push, or_none}

found : {X : Type 0} (o : Option X) → is_some o ≡ true → (x : Option X) → option_or o x ≡ o
found None h x = absurd (true≢false (sym h))
found (Some w) h x = refl

none : {X : Type 0} (o : Option X) → is_some o ≡ false → o ≡ None
none None h = refl
none (Some w) h = absurd (true≢false h)

module _ {S : Type 0} (before : InputValues Place) (v : Input) where
  -- a name that was noted already
  pub first_again : (firsts : IndexMap NameValue (Node InputValueDefinition) S) → AreFirsts firsts before → is_some (first_named before v.it.name.it) ≡ true → AreFirsts firsts (before ++ v ∷ [])
  first_again firsts are there n = are n ∙ sym (first_push before v n.text ∙ by (bytes_eq n.text v.it.name.it) refl)
    where
      by : (b : Bool) → bytes_eq n.text v.it.name.it ≡ b → option_or (first_named before n.text) (if b then Some v else None) ≡ first_named before n.text
      by false e = or_none (first_named before n.text)
      by true e = found (first_named before n.text) (subst (λ m. is_some (first_named before m) ≡ true) (sym ((bytes_eq-Decides n.text v.it.name.it).0 e)) there) (Some v)

  -- a new name, noted with its argument
  pub first_noted : (old new : IndexMap NameValue (Node InputValueDefinition) S) (k : NameValue) (w : Node InputValueDefinition) → k.text ≡ v.it.name.it → node_tree input_value_tree w ≡ v → AreFirsts old before
      → is_some (first_named before v.it.name.it) ≡ false
      → ((q : NameValue) → get (same_text name_text) new q ≡ cond (same_text name_text k q) (Some w) (get (same_text name_text) old q)) → AreFirsts new (before ++ v ∷ [])
  first_noted old new k w named is are absent puts n =
      ap (option_map (node_tree input_value_tree)) (puts n) ∙ by (bytes_eq n.text v.it.name.it) refl (bytes_eq k.text n.text) refl ∙ sym (first_push before v n.text)
    where
      by : (b : Bool) → bytes_eq n.text v.it.name.it ≡ b → (c : Bool) → bytes_eq k.text n.text ≡ c
          → option_map (node_tree input_value_tree) (cond (bytes_eq k.text n.text) (Some w) (get (same_text name_text) old n)) ≡ option_or (first_named before n.text) (if bytes_eq n.text v.it.name.it then Some v else None)
      by true e true d =
          let nothing : first_named before n.text ≡ None = none (first_named before n.text) (subst (λ m. is_some (first_named before m) ≡ false) (sym ((bytes_eq-Decides n.text v.it.name.it).0 e)) absent) in
          ap (λ c. option_map (node_tree input_value_tree) (cond c (Some w) (get (same_text name_text) old n))) d ∙ ap Some is
          ∙ sym (ap (λ o. option_or o (if bytes_eq n.text v.it.name.it then Some v else None)) nothing ∙ ap (λ c. if c then Some v else None) e)
      by false e false d =
          ap (λ c. option_map (node_tree input_value_tree) (cond c (Some w) (get (same_text name_text) old n))) d ∙ are n
          ∙ sym (ap (λ c. option_or (first_named before n.text) (if c then Some v else None)) e ∙ or_none (first_named before n.text))
      by true e false d = absurd (true≢false (sym ((bytes_eq-Decides k.text n.text).1 (named ∙ sym ((bytes_eq-Decides n.text v.it.name.it).0 e))) ∙ d))
      by false e true d = absurd (true≢false (sym ((bytes_eq-Decides n.text v.it.name.it).1 (sym ((bytes_eq-Decides k.text n.text).0 d) ∙ named)) ∙ e))

-- what was lent, as a tree
pub lent : {X A : Type 0} (f : X → A) (r : Option (Bor X)) → option_map (λ x. f x.now) r ≡ option_map f (option_copied r)
lent f None = refl
lent f (Some x) = refl

pub some_lent : {X A : Type 0} (f : X → A) (r : Option (Bor X)) → is_some (option_map (λ x. f x.now) r) ≡ is_some r
some_lent f None = refl
some_lent f (Some x) = refl

pub none_lent : {X A : Type 0} (f : X → A) (r : Option (Bor X)) → r ≡ None → None ≡ option_map (λ x. f x.now) r
none_lent f r e = sym (ap (option_map (λ x. f x.now)) e)

-- the first that has the name, whichever side of the test is the name
pub named_first : (vs : InputValues Place) (n : List ℕ) → find (λ v. bytes_eq (input_name v) n) vs ≡ first_named vs n
named_first [] n = refl
named_first (v ∷ vs) n = by (bytes_eq (input_name v) n) refl (bytes_eq n (input_name v)) refl (named_first vs n)
  where
    by : (b : Bool) → bytes_eq (input_name v) n ≡ b → (c : Bool) → bytes_eq n (input_name v) ≡ c → find (λ w. bytes_eq (input_name w) n) vs ≡ first_named vs n
        → (if b then Some v else find (λ w. bytes_eq (input_name w) n) vs) ≡ (if c then Some v else first_named vs n)
    by true e true d rest = refl
    by false e false d rest = rest
    by true e false d rest = absurd (true≢false (sym ((bytes_eq-Decides n (input_name v)).1 (sym ((bytes_eq-Decides (input_name v) n).0 e))) ∙ d))
    by false e true d rest = absurd (true≢false (sym ((bytes_eq-Decides (input_name v) n).1 (sym ((bytes_eq-Decides n (input_name v)).0 d))) ∙ e))
