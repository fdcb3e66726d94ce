-- The tests decide the sameness of values, of items, and of what stands first under each key.
use Rattle.std.proofs.Common.{◌≡◌, ◌⊎◌, inl, inr, ℕ, Bool, true, false, ◌&&◌, ◌||◌, is_none, List, [], ◌∷◌, ◌++◌, Option, None, Some, refl, ap, sym, subst, ◌∙◌, true≢false, bytes_eq, find, if◌then◌else◌}
use mathlib.Core.Bool.{beq}
use Rattle.std.specs.Bool.{Decides}
use Rattle.std.specs.Cmp.{booleans_Decides}
use Rattle.std.specs.List.{list_any}
use Rattle.std.specs.Option.{option_map, option_map_or}
use Rattle.std.proofs.lemmas.List.Folds.{list_any-append}
use Rattle.std.proofs.lemmas.Slice.Eq.{bytes_eq-Decides}
use Rattle.indexmap.specs.IndexSet.{insert_key}
use Rattle.graphql_names.specs.Placed.{Placed, Text}
use Rattle.tree_literals.specs.ValueTree.{NullTree, EnumTree, VariableTree, StringTree, FloatTree, IntTree, BooleanTree, ListTree, ObjectTree, no_items, item_then, no_entries, entry_then}
use Rattle.rule_definitions.specs.GivenValues.{entry_list}
use Rattle.rule_document_definitions.specs.SameValues.{SameValue, same_null, same_enum, same_variable, same_string, same_float, same_int, same_boolean, same_list, same_object, SameItems, no_more, both_then, SameGiven, neither, both, under_key}
use Rattle.rule_selection_queries.specs.Tests.{Plain, PlainItems, PlainEntries, first_under, unseen_key, same, same_items, differing_key}

-- ---- names

itself : (n : List ℕ) → bytes_eq n n ≡ true
itself n = (bytes_eq-Decides n n).1 refl

-- a name among names, and one more
or_false : (a : Bool) → (a || false) ≡ a
or_false true = refl
or_false false = refl

or_true : (a : Bool) → (a || true) ≡ true
or_true true = refl
or_true false = refl

among_more : (k n : List ℕ) (seen : List (List ℕ)) → list_any (bytes_eq k) (insert_key bytes_eq seen n) ≡ (list_any (bytes_eq k) seen || bytes_eq k n)
among_more k n seen = by (list_any (bytes_eq n) seen) refl
  where
    there : list_any (bytes_eq n) seen ≡ true → (b : Bool) → bytes_eq k n ≡ b → list_any (bytes_eq k) seen ≡ (list_any (bytes_eq k) seen || b)
    there e true is = let all : list_any (bytes_eq k) seen ≡ true = ap (λ t. list_any (bytes_eq t) seen) ((bytes_eq-Decides k n).0 is) ∙ e in all ∙ sym (or_true (list_any (bytes_eq k) seen))
    there e false is = sym (or_false (list_any (bytes_eq k) seen))

    by : (b : Bool) → list_any (bytes_eq n) seen ≡ b → list_any (bytes_eq k) (if b then seen else seen ++ n ∷ []) ≡ (list_any (bytes_eq k) seen || bytes_eq k n)
    by true e = there e (bytes_eq k n) refl
    by false e = list_any-append (bytes_eq k) seen (n ∷ []) ∙ ap (λ b. list_any (bytes_eq k) seen || b) (or_false (bytes_eq k n))

-- ---- what stands first under a key

module _ (n : Text (Unit {0})) (v : Plain) (es : PlainEntries) where
  abbrev longer : PlainEntries
  longer = entry_then n tt v es

  under_own : (k : List ℕ) → n.it ≡ k → first_under k longer ≡ Some v
  under_own k e = ap (λ b. if b then Some v else first_under k es) ((bytes_eq-Decides n.it k).1 e)

  under_other : (k : List ℕ) → bytes_eq k n.it ≡ false → first_under k longer ≡ first_under k es
  under_other k h = by (bytes_eq n.it k) refl
    where
      by : (b : Bool) → bytes_eq n.it k ≡ b → (if b then Some v else first_under k es) ≡ first_under k es
      by true e = absurd (true≢false (sym ((bytes_eq-Decides k n.it).1 (sym ((bytes_eq-Decides n.it k).0 e))) ∙ h))
      by false e = refl

abbrev Entry : Type 0
Entry = Text (Unit {0}) × Placed (Unit {0}) Plain

abbrev value_of : Option Entry → Option Plain
value_of o = option_map (λ (v : Placed (Unit {0}) Plain). v.it) (option_map (λ (e : Entry). e.1) o)

abbrev entry_of : List ℕ → PlainEntries → Option Entry
entry_of k es = find (λ (e : Entry). bytes_eq e.0.it k) (entry_list es)

pub under_is : (k : List ℕ) (es : PlainEntries) → under_key k es ≡ first_under k es
under_is k no_entries = refl
under_is k (entry_then n p v es) = by (n, record { it = v; place = p }) (bytes_eq n.it k) (under_is k es)
  where
    by : (e : Entry) (b : Bool) → value_of (entry_of k es) ≡ first_under k es → value_of (if b then Some e else entry_of k es) ≡ (if b then Some e.1.it else first_under k es)
    by e true rest = refl
    by e false rest = rest

-- ---- what a differing key says

-- with no differing key each other key has the same in both, or was seen; a differing one was not seen, and has not the same
abbrev pub Told : List (List ℕ) → PlainEntries → PlainEntries → Option (List ℕ) → Type 0
Told seen es fs None = (k : List ℕ) → (list_any (bytes_eq k) seen ≡ true) ⊎ SameGiven (first_under k es) (first_under k fs)
Told seen es fs (Some n) = (list_any (bytes_eq n) seen ≡ false) × (SameGiven (first_under n es) (first_under n fs) → ⊥)

no_none : {v : Plain} → SameGiven None (Some v) → ⊥
no_none s = elim s [ ]

no_some : {v : Plain} → SameGiven (Some v) None → ⊥
no_some s = elim s [ ]

of_both : {v w : Plain} → SameGiven (Some v) (Some w) → SameValue v w
of_both (both v w h) = h

unseen : (seen : List (List ℕ)) (fs : PlainEntries) → Told seen no_entries fs (unseen_key seen fs)
unseen seen no_entries = λ k. inr neither
unseen seen (entry_then n p v fs) = by (list_any (bytes_eq n.it) seen) refl (unseen_key seen fs) (unseen seen fs)
  where
    by : (b : Bool) → list_any (bytes_eq n.it) seen ≡ b → (rest : Option (List ℕ)) → Told seen no_entries fs rest → Told seen no_entries (entry_then n p v fs) (if b then rest else Some n.it)
    by true e None t = λ k. one k (bytes_eq k n.it) refl
      where
        one : (k : List ℕ) (b : Bool) → bytes_eq k n.it ≡ b → (list_any (bytes_eq k) seen ≡ true) ⊎ SameGiven None (first_under k (entry_then n p v fs))
        one k true is = inl (ap (λ x. list_any (bytes_eq x) seen) ((bytes_eq-Decides k n.it).0 is) ∙ e)
        one k false is = elim (t k) [ inl a ↦ inl a | inr s ↦ inr (subst (SameGiven None) (sym (under_other n v fs k is)) s) ]
    by true e (Some m) t = (t.0, λ s. one (bytes_eq m n.it) refl s)
      where
        one : (b : Bool) → bytes_eq m n.it ≡ b → SameGiven None (first_under m (entry_then n p v fs)) → ⊥
        one true is s = true≢false (sym (ap (λ x. list_any (bytes_eq x) seen) ((bytes_eq-Decides m n.it).0 is) ∙ e) ∙ t.0)
        one false is s = t.1 (subst (SameGiven None) (under_other n v fs m is) s)
    by false e rest t = (e, λ s. no_none (subst (SameGiven None) (under_own n v fs n.it refl) s))

-- one entry more, where the test decides whether its value is what the other object has first under its key
module _ (seen : List (List ℕ)) (n : Text (Unit {0})) (v : Plain) (es fs : PlainEntries) (test : Bool) (d : Decides test (SameGiven (Some v) (first_under n.it fs))) where
  abbrev Rest : Option (List ℕ) → Type 0
  Rest rest = Told (insert_key bytes_eq seen n.it) es fs rest

  abbrev all : PlainEntries
  all = entry_then n tt v es

  own : (k : List ℕ) → n.it ≡ k → test ≡ true → SameGiven (first_under k all) (first_under k fs)
  own k e t = subst (λ o. SameGiven o (first_under k fs)) (sym (under_own n v es k e)) (subst (λ x. SameGiven (Some v) (first_under x fs)) e (d.0 t))

  other : (k : List ℕ) → bytes_eq k n.it ≡ false → SameGiven (first_under k es) (first_under k fs) → SameGiven (first_under k all) (first_under k fs)
  other k e s = subst (λ o. SameGiven o (first_under k fs)) (sym (under_other n v es k e)) s

  none_differs : (list_any (bytes_eq n.it) seen || test) ≡ true → Rest None → Told seen all fs None
  none_differs h rest k = by (bytes_eq k n.it) refl
    where
      mine : (b : Bool) → list_any (bytes_eq n.it) seen ≡ b → (b || test) ≡ true → n.it ≡ k → (list_any (bytes_eq k) seen ≡ true) ⊎ SameGiven (first_under k all) (first_under k fs)
      mine true e g is = inl (ap (λ x. list_any (bytes_eq x) seen) (sym is) ∙ e)
      mine false e g is = inr (own k is g)

      by : (b : Bool) → bytes_eq k n.it ≡ b → (list_any (bytes_eq k) seen ≡ true) ⊎ SameGiven (first_under k all) (first_under k fs)
      by true e = mine (list_any (bytes_eq n.it) seen) refl h (sym ((bytes_eq-Decides k n.it).0 e))
      by false e = elim (rest k) [
        | inl a ↦ inl (sym (or_false (list_any (bytes_eq k) seen)) ∙ ap (λ b. list_any (bytes_eq k) seen || b) (sym e) ∙ sym (among_more k n.it seen) ∙ a)
        | inr s ↦ inr (other k e s)
      ]

  one_differs : (m : List ℕ) → Rest (Some m) → Told seen all fs (Some m)
  one_differs m rest = by (list_any (bytes_eq m) seen) refl (bytes_eq m n.it) refl (sym (among_more m n.it seen) ∙ rest.0)
    where
      by : (a : Bool) → list_any (bytes_eq m) seen ≡ a → (b : Bool) → bytes_eq m n.it ≡ b → (a || b) ≡ false → Told seen all fs (Some m)
      by true e b is h = absurd (true≢false h)
      by false e true is h = absurd (true≢false h)
      by false e false is h = (e, λ s. rest.1 (subst (λ o. SameGiven o (first_under m fs)) (under_other n v es m is) s))

  pub told_more : (rest : Option (List ℕ)) → Rest rest → Told seen all fs (if list_any (bytes_eq n.it) seen || test then rest else Some n.it)
  told_more rest t = by (list_any (bytes_eq n.it) seen || test) refl rest t
    where
      neither_so : (a b : Bool) → (a || b) ≡ false → (a ≡ false) × (b ≡ false)
      neither_so true b h = absurd (true≢false h)
      neither_so false b h = (refl, h)

      by : (b : Bool) → (list_any (bytes_eq n.it) seen || test) ≡ b → (o : Option (List ℕ)) → Rest o → Told seen all fs (if b then o else Some n.it)
      by true e None r = none_differs e r
      by true e (Some m) r = one_differs m r
      by false e o r =
          let no = neither_so (list_any (bytes_eq n.it) seen) test e in
          (no.0, λ s. true≢false (sym (d.1 (subst (λ x. SameGiven x (first_under n.it fs)) (under_own n v es n.it refl) s)) ∙ no.1))

-- ---- values

-- a test of one value serves where there may be none
given_decides : (v : Plain) → ((w : Plain) → Decides (same v w) (SameValue v w)) → (o : Option Plain) → Decides (option_map_or (same v) o false) (SameGiven (Some v) o)
given_decides v d None = (λ h. absurd (true≢false (sym h)), λ s. absurd (no_some s))
given_decides v d (Some w) = (λ h. both v w ((d w).0 h), λ s. (d w).1 (of_both s))

text_decides : (n m : Text (Unit {0})) → Decides (bytes_eq n.it m.it) (n ≡ m)
text_decides n m = let d = bytes_eq-Decides n.it m.it in (λ h i. record { it = d.0 h i; place = tt }, λ e. d.1 (ap (λ (t : Text (Unit {0})). t.it) e))

-- the same by a text or a number: the test decides whether these are equal
by_equal : {A : Type 0} (make : A → Plain) (test : Bool) (a b : A) → Decides test (a ≡ b) → ((x : A) → SameValue (make x) (make x)) → (SameValue (make a) (make b) → a ≡ b) → Decides test (SameValue (make a) (make b))
by_equal make test a b d itself back = (λ h. subst (λ x. SameValue (make a) (make x)) (d.0 h) (itself a), λ s. d.1 (back s))

enum_of : {a b : Text (Unit {0})} → SameValue (EnumTree a) (EnumTree b) → a ≡ b
enum_of (same_enum a) = refl

variable_of : {a b : Text (Unit {0})} → SameValue (VariableTree a) (VariableTree b) → a ≡ b
variable_of (same_variable a) = refl

string_of : {a b : List ℕ} → SameValue (StringTree a) (StringTree b) → a ≡ b
string_of (same_string a) = refl

float_of : {a b : List ℕ} → SameValue (FloatTree a) (FloatTree b) → a ≡ b
float_of (same_float a) = refl

int_of : {a b : List ℕ} → SameValue (IntTree a) (IntTree b) → a ≡ b
int_of (same_int a) = refl

boolean_of : {a b : Bool} → SameValue (BooleanTree a) (BooleanTree b) → a ≡ b
boolean_of (same_boolean a) = refl

list_of : {a b : PlainItems} → SameValue (ListTree a) (ListTree b) → SameItems a b
list_of (same_list a b h) = h

object_of : {a b : PlainEntries} → SameValue (ObjectTree a) (ObjectTree b) → (k : List ℕ) → SameGiven (under_key k a) (under_key k b)
object_of (same_object a b h) = h

first_of : {v w : Plain} {ts us : PlainItems} → SameItems (item_then tt v ts) (item_then tt w us) → SameValue v w
first_of (both_then v w ts us h i) = h

rest_of : {v w : Plain} {ts us : PlainItems} → SameItems (item_then tt v ts) (item_then tt w us) → SameItems ts us
rest_of (both_then v w ts us h i) = i

both_so : (a b : Bool) → (a && b) ≡ true → (a ≡ true) × (b ≡ true)
both_so true b h = (refl, h)
both_so false b h = absurd (true≢false (sym h))

so_both : (a b : Bool) → a ≡ true → b ≡ true → (a && b) ≡ true
so_both true b e h = h
so_both false b e h = absurd (true≢false (sym e))

-- by first values, and by those under keys
pub by_firsts : (k : List ℕ) (es fs : PlainEntries) → SameGiven (first_under k es) (first_under k fs) → SameGiven (under_key k es) (under_key k fs)
by_firsts k es fs s = subst (λ o. SameGiven (under_key k es) o) (sym (under_is k fs)) (subst (λ o. SameGiven o (first_under k fs)) (sym (under_is k es)) s)

pub of_firsts : (k : List ℕ) (es fs : PlainEntries) → SameGiven (under_key k es) (under_key k fs) → SameGiven (first_under k es) (first_under k fs)
of_firsts k es fs s = subst (λ o. SameGiven (first_under k es) o) (under_is k fs) (subst (λ o. SameGiven o (under_key k fs)) (under_is k es) s)

pub not_seen : {A : Type 0} → (false ≡ true) ⊎ A → A
not_seen (inl e) = absurd (true≢false (sym e))
not_seen (inr a) = a

object_decides : (es fs : PlainEntries) (o : Option (List ℕ)) → Told [] es fs o → Decides (is_none o) (SameValue (ObjectTree es) (ObjectTree fs))
object_decides es fs None t = (λ h. same_object es fs (λ k. by_firsts k es fs (not_seen (t k))), λ s. refl)
object_decides es fs (Some n) t = (λ h. absurd (true≢false (sym h)), λ s. absurd (t.1 (of_firsts n es fs (object_of s n))))

mutual
  pub same_decides : (v w : Plain) → Decides (same v w) (SameValue v w)
  same_decides (ListTree ts) (ListTree us) = let d = items_decide ts us in (λ h. same_list ts us (d.0 h), λ s. d.1 (list_of s))
  same_decides (ObjectTree es) (ObjectTree fs) = object_decides es fs (differing_key [] es fs) (key_told [] es fs)
  same_decides NullTree NullTree = (λ h. same_null, λ s. refl)
  same_decides (EnumTree n) (EnumTree m) = by_equal EnumTree (bytes_eq n.it m.it) n m (text_decides n m) same_enum enum_of
  same_decides (VariableTree n) (VariableTree m) = by_equal VariableTree (bytes_eq n.it m.it) n m (text_decides n m) same_variable variable_of
  same_decides (StringTree s) (StringTree t) = by_equal StringTree (bytes_eq s t) s t (bytes_eq-Decides s t) same_string string_of
  same_decides (FloatTree s) (FloatTree t) = by_equal FloatTree (bytes_eq s t) s t (bytes_eq-Decides s t) same_float float_of
  same_decides (IntTree s) (IntTree t) = by_equal IntTree (bytes_eq s t) s t (bytes_eq-Decides s t) same_int int_of
  same_decides (BooleanTree b) (BooleanTree c) = by_equal BooleanTree (beq b c) b c (booleans_Decides b c) same_boolean boolean_of
  same_decides _ _ = (λ h. absurd (true≢false (sym h)), λ s. elim s [ ])

  items_decide : (ts us : PlainItems) → Decides (same_items ts us) (SameItems ts us)
  items_decide no_items no_items = (λ h. no_more, λ s. refl)
  items_decide (item_then p v ts) (item_then q w us) =
      let d = same_decides v w in
      let e = items_decide ts us in (
        λ h. let r = both_so (same v w) (same_items ts us) h in both_then v w ts us (d.0 r.0) (e.0 r.1),
        λ s. so_both (same v w) (same_items ts us) (d.1 (first_of s)) (e.1 (rest_of s)),
      )
  items_decide _ _ = (λ h. absurd (true≢false (sym h)), λ s. elim s [ ])

  pub key_told : (seen : List (List ℕ)) (es fs : PlainEntries) → Told seen es fs (differing_key seen es fs)
  key_told seen no_entries fs = unseen seen fs
  key_told seen (entry_then n p v es) fs =
      told_more seen n v es fs (option_map_or (same v) (first_under n.it fs) false) (given_decides v (same_decides v) (first_under n.it fs))
      (differing_key (insert_key bytes_eq seen n.it) es fs) (key_told (insert_key bytes_eq seen n.it) es fs)
