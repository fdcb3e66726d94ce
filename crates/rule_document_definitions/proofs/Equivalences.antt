-- Having one shape, and having the same arguments, are equivalences: what agrees with one head agrees.
use Rattle.std.proofs.Common.{ℕ, List, Option, sym, subst, ◌∙◌, inl, inr}
use Rattle.tree_literals.specs.ValueTree.{ItemTrees}
use Rattle.rule_definitions.specs.Judged.{Judged}
use Rattle.rule_document_definitions.specs.Selected.{StandingField}
use Rattle.rule_document_definitions.specs.PossibleTypes.{IsComposite}
use Rattle.rule_document_definitions.specs.SameValues.{Plain, SameValue, same_null, same_enum, same_variable, same_string, same_float, same_int, same_boolean, same_list, same_object, SameItems, no_more, both_then, SameGiven, neither, both}
use Rattle.rule_document_definitions.specs.Merging.{SameInner, SameShape, SameNameAndArguments}

-- ---- shapes

inner_sym : (s : Judged) (a b : List ℕ) → SameInner s a b → SameInner s b a
inner_sym s a b (inl e) = inl (sym e)
inner_sym s a b (inr p) = inr (p.1, p.0)

inner_trans : (s : Judged) (a b c : List ℕ) → SameInner s a b → SameInner s b c → SameInner s a c
inner_trans s a b c (inl e) q = subst (λ n. SameInner s n c) (sym e) q
inner_trans s a b c (inr p) (inl e) = inr (p.0, subst (IsComposite s) e p.1)
inner_trans s a b c (inr p) (inr q) = inr (p.0, q.1)

pub shape_sym : {P : Type 0} (s : Judged) (f g : StandingField P) → SameShape s f g → SameShape s g f
shape_sym s f g h = (sym h.0, inner_sym s _ _ h.1)

pub shape_trans : {P : Type 0} (s : Judged) (f g k : StandingField P) → SameShape s f g → SameShape s g k → SameShape s f k
shape_trans s f g k h i = (h.0 ∙ i.0, inner_trans s _ _ _ h.1 i.1)

-- ---- values and arguments

mutual
  value_sym : {a b : Plain} → SameValue a b → SameValue b a
  value_sym same_null = same_null
  value_sym (same_enum a) = same_enum a
  value_sym (same_variable a) = same_variable a
  value_sym (same_string a) = same_string a
  value_sym (same_float a) = same_float a
  value_sym (same_int a) = same_int a
  value_sym (same_boolean a) = same_boolean a
  value_sym (same_list a b h) = same_list b a (items_sym h)
  value_sym (same_object a b h) = same_object b a (λ key. given_sym (h key))

  items_sym : {a b : ItemTrees (Unit {0})} → SameItems a b → SameItems b a
  items_sym no_more = no_more
  items_sym (both_then v w vs ws h i) = both_then w v ws vs (value_sym h) (items_sym i)

  given_sym : {a b : Option Plain} → SameGiven a b → SameGiven b a
  given_sym neither = neither
  given_sym (both v w h) = both w v (value_sym h)

mutual
  value_trans : {a b c : Plain} → SameValue a b → SameValue b c → SameValue a c
  value_trans same_null same_null = same_null
  value_trans (same_enum a) (same_enum a') = same_enum a
  value_trans (same_variable a) (same_variable a') = same_variable a
  value_trans (same_string a) (same_string a') = same_string a
  value_trans (same_float a) (same_float a') = same_float a
  value_trans (same_int a) (same_int a') = same_int a
  value_trans (same_boolean a) (same_boolean a') = same_boolean a
  value_trans (same_list a b h) (same_list b' c i) = same_list a c (items_trans h i)
  value_trans (same_object a b h) (same_object b' c i) = same_object a c (λ key. given_trans (h key) (i key))

  items_trans : {a b c : ItemTrees (Unit {0})} → SameItems a b → SameItems b c → SameItems a c
  items_trans no_more no_more = no_more
  items_trans (both_then v w vs ws h i) (both_then w' x ws' xs k l) = both_then v x vs xs (value_trans h k) (items_trans i l)

  given_trans : {a b c : Option Plain} → SameGiven a b → SameGiven b c → SameGiven a c
  given_trans neither neither = neither
  given_trans (both v w h) (both w' x i) = both v x (value_trans h i)

module _ {P : Type 0} where
  pub selection_sym : (f g : StandingField P) → SameNameAndArguments f g → SameNameAndArguments g f
  selection_sym f g h = (sym h.0, λ n. given_sym (h.1 n))

  pub selection_trans : (f g k : StandingField P) → SameNameAndArguments f g → SameNameAndArguments g k → SameNameAndArguments f k
  selection_trans f g k h i = (h.0 ∙ i.0, λ n. given_trans (h.1 n) (i.1 n))
