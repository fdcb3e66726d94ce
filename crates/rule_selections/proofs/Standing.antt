-- Fragments that replace those of a document, in maps.
use Rattle.std.proofs.Common.{◌≡◌, ◌⊎◌, ◌∙◌, ℕ, Bool, true, false, List, [], ◌∷◌, map, refl, sym, ap, subst, inl, inr, Option, None, Some, true≢false, is_some, bytes_eq, if◌then◌else◌}
use Rattle.std.specs.Prelude.{option_map, cond, find}
use Rattle.std.specs.List.{AllZip}
use Rattle.std.proofs.lemmas.Slice.Eq.{bytes_eq-Decides}
use Rattle.indexmap.specs.IndexMap.{insert_entry}
use Rattle.graphql_names.specs.Node.{content, place}
use Rattle.graphql_names.specs.NameValue.{NameValue}
use Rattle.graphql_names.specs.Placed.{Place, Placed, node_tree}
use Rattle.graphql_names.specs.declared.node.Node.{Node}
use Rattle.schema_components.specs.Names.{Entries, same_text}
use Rattle.schema_types.specs.TypeView.{name_text}
use Rattle.schema_types.specs.Addresses.{under}
use Rattle.rule_selections.proofs.FieldPlaces.{some_is}
use Rattle.document_typed_operations.specs.TypedDocument.{TypedFragment, typed_fragment_tree}
use Rattle.document_typed_operations.specs.declared.operation.Fragment.{Fragment}
use Rattle.spec_document.specs.MeantTree.{MeantFragment}
use Rattle.rule_reach.specs.in_typed_operations.DocumentView.{meant_by_fragment}
use Rattle.rule_selections.specs.Settled.{Terms, fragment_meant, IsReplacementOf, MayReplace}
use Rattle.rule_selections.proofs.Leaving.{leaves_same}

-- what entries mean
abbrev pub meant_entries : List (NameValue × Node Fragment) → Entries (MeantFragment Place)
meant_entries es = map (λ (e : List ℕ × Placed Place (TypedFragment Place)). (e.0, meant_by_fragment e.1)) (map (λ (e : NameValue × Node Fragment). (e.0.text, node_tree typed_fragment_tree e.1)) es)

-- the fragments of a document may replace themselves
pub replaces_itself : (s : Terms) (fragments : Entries (MeantFragment Place)) → MayReplace s fragments fragments
replaces_itself s fragments = record { there = λ n g is. (g, (is, (refl, (leaves_same s g.set, λ m u. u)))); absent = λ n is. is }

-- ---- a copy

abbrev IsEntryCopy : NameValue × Node Fragment → NameValue × Node Fragment → Type 0
IsEntryCopy p q = (q.0 ≡ p.0) × ((content q.1 ≡ content p.1) × (place q.1 ≡ place p.1))

pub copied : (es cs : List (NameValue × Node Fragment)) → AllZip IsEntryCopy es cs → meant_entries cs ≡ meant_entries es
copied [] [] all = refl
copied (e ∷ es) (c ∷ cs) all =
    λ i. ((all.0.0 i).text, meant_by_fragment (record { it = typed_fragment_tree (all.0.1.0 i); place = all.0.1.1 i })) ∷ copied es cs all.1 i
copied [] (c ∷ cs) all = absurd all
copied (e ∷ es) [] all = absurd all

-- ---- one that is replaced

abbrev looked : Bool → List ℕ × MeantFragment Place → Option (MeantFragment Place) → Option (MeantFragment Place)
looked b e rest = if b then Some e.1 else rest

under_first : (n : List ℕ) (e : List ℕ × MeantFragment Place) (es : Entries (MeantFragment Place)) → under n (e ∷ es) ≡ looked (bytes_eq n e.0) e (under n es)
under_first n e es = by (bytes_eq n e.0)
  where
    by : (b : Bool) → option_map (λ g. g.1) (cond b (Some e) (find (λ g. bytes_eq n g.0) es)) ≡ looked b e (under n es)
    by true = refl
    by false = refl

module _ (k : NameValue) (v : Node Fragment) (n : List ℕ) where
  -- what stands there then stood there before, or is the new one
  abbrev pub Replaced : Option (MeantFragment Place) → Option (MeantFragment Place) → Type 0
  Replaced new old = (new ≡ old) ⊎ ((n ≡ k.text) × (new ≡ Some (fragment_meant v)))

  first_is : (b : Bool) (e : NameValue × Node Fragment) (rest : Option (MeantFragment Place)) → bytes_eq n e.0.text ≡ b → bytes_eq k.text e.0.text ≡ true
      → Replaced (looked b (e.0.text, fragment_meant v) rest) (looked b (e.0.text, fragment_meant e.1) rest)
  first_is true e rest is same = inr ((bytes_eq-Decides n e.0.text).0 is ∙ sym ((bytes_eq-Decides k.text e.0.text).0 same), refl)
  first_is false e rest is same = inl refl

  later_is : (b : Bool) (e : NameValue × Node Fragment) (new old : Option (MeantFragment Place)) → Replaced new old → Replaced (looked b (e.0.text, fragment_meant e.1) new) (looked b (e.0.text, fragment_meant e.1) old)
  later_is true e new old h = inl refl
  later_is false e new old h = h

  pub replaced : (es : List (NameValue × Node Fragment)) → Replaced (under n (meant_entries (insert_entry (same_text name_text) es k v))) (under n (meant_entries es))
  replaced [] = subst (λ x. Replaced x None) (sym (under_first n (k.text, fragment_meant v) [])) (by (bytes_eq n k.text) refl)
    where
      by : (b : Bool) → bytes_eq n k.text ≡ b → Replaced (looked b (k.text, fragment_meant v) None) None
      by true is = inr ((bytes_eq-Decides n k.text).0 is, refl)
      by false is = inl refl
  replaced (e ∷ es) = by (bytes_eq k.text e.0.text) refl (replaced es)
    where
      old_is : under n (meant_entries (e ∷ es)) ≡ looked (bytes_eq n e.0.text) (e.0.text, fragment_meant e.1) (under n (meant_entries es))
      old_is = under_first n (e.0.text, fragment_meant e.1) (meant_entries es)

      by : (b : Bool) → bytes_eq k.text e.0.text ≡ b → Replaced (under n (meant_entries (insert_entry (same_text name_text) es k v))) (under n (meant_entries es))
          → Replaced (under n (meant_entries (if b then (e.0, v) ∷ es else e ∷ insert_entry (same_text name_text) es k v))) (under n (meant_entries (e ∷ es)))
      by true same rest = subst (λ (p : Option (MeantFragment Place) × Option (MeantFragment Place)). Replaced p.0 p.1) (λ i. (sym (under_first n (e.0.text, fragment_meant v) (meant_entries es)) i, sym old_is i)) (first_is (bytes_eq n e.0.text) e (under n (meant_entries es)) refl same)
      by false same rest = subst (λ (p : Option (MeantFragment Place) × Option (MeantFragment Place)). Replaced p.0 p.1) (λ i. (sym (under_first n (e.0.text, fragment_meant e.1) (meant_entries (insert_entry (same_text name_text) es k v))) i, sym old_is i))
          (later_is (bytes_eq n e.0.text) e (under n (meant_entries (insert_entry (same_text name_text) es k v))) (under n (meant_entries es)) rest)

-- another stands there for a fragment
pub replaces_more : (s : Terms) (fragments old new : Entries (MeantFragment Place)) (k : NameValue) (g : MeantFragment Place) (v : Node Fragment) → under k.text fragments ≡ Some g → IsReplacementOf s (fragment_meant v) g
    → ((n : List ℕ) → Replaced k v n (under n new) (under n old)) → MayReplace s fragments old → MayReplace s fragments new
replaces_more s fragments old new k g v is stands write in' = record { there = there; absent = absent }
  where
    there : (n : List ℕ) (x : MeantFragment Place) → under n fragments ≡ Some x → (h : MeantFragment Place) × ((under n new ≡ Some h) × IsReplacementOf s h x)
    there n x at = elim (write n) [
      | inl e ↦ let h = in'.there n x at in (h.0, (e ∙ h.1.0, h.1.1))
      | inr e ↦ let same : g ≡ x = some_is g x (sym is ∙ ap (λ m. under m fragments) (sym e.0) ∙ at) in (fragment_meant v, (e.1, subst (IsReplacementOf s (fragment_meant v)) same stands))
    ]

    absent : (n : List ℕ) → under n fragments ≡ None → under n new ≡ None
    absent n at = elim (write n) [
      | inl e ↦ e ∙ in'.absent n at
      | inr e ↦ absurd (true≢false (ap is_some (sym is ∙ ap (λ m. under m fragments) (sym e.0) ∙ at)))
    ]
