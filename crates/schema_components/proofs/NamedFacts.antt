-- Finite maps of lists: in any order of distinct names they are the same, and closed ones compute.
use Rattle.std.proofs.Common.{◌≡◌, ℕ, Bool, true, false, cond, filter, List, [], ◌∷◌, length, arith, Some, refl, sym, ap, ◌∙◌}
use Rattle.std.specs.Ordering.{eq_by_cmp}
use Rattle.std.specs.Cmp.Lexicographic.{nat_list_cmp_total}
use Rattle.std.specs.FinMap as fin
use Rattle.std.specs.FinMap.Entries.{put}
use Rattle.schema_components.specs.Names.{Entries, by_bytes}
use Rattle.schema_components.proofs.NamedEquality.{by_bytes-IsAntisymmetric}

module _ {V : Type 0} where
  -- the entries of one name
  abbrev pub under : List ℕ → Entries V → Entries V
  under q es = filter (λ e. eq_by_cmp by_bytes q e.0) es

  find-under : (q : List ℕ) (es : Entries V) → fin.find by_bytes q es ≡ fin.find by_bytes q (under q es)
  find-under q [] = refl
  find-under q (e ∷ es) = by (eq_by_cmp by_bytes q e.0) refl (find-under q es)
    where
      by : (b : Bool) → eq_by_cmp by_bytes q e.0 ≡ b → fin.find by_bytes q es ≡ fin.find by_bytes q (under q es)
          → cond (eq_by_cmp by_bytes q e.0) (Some e.1) (fin.find by_bytes q es) ≡ fin.find by_bytes q (cond (eq_by_cmp by_bytes q e.0) (e ∷ under q es) (under q es))
      by true t rest = ap (λ b. cond b (Some e.1) (fin.find by_bytes q es)) t ∙ sym (ap (λ b. cond b (Some e.1) (fin.find by_bytes q (under q es))) t) ∙ sym (ap (λ b. fin.find by_bytes q (cond b (e ∷ under q es) (under q es))) t)
      by false t rest = ap (λ b. cond b (Some e.1) (fin.find by_bytes q es)) t ∙ rest ∙ sym (ap (λ b. fin.find by_bytes q (cond b (e ∷ under q es) (under q es))) t)

  -- two lists with the same entries of each name, in order, make one finite map
  pub same_under : (es fs : Entries V) → ((q : List ℕ) → under q es ≡ under q fs) → fin.from_entries {R = by_bytes} es ≡ fin.from_entries fs
  same_under es fs same = fin.same_map nat_list_cmp_total by_bytes-IsAntisymmetric _ _ (λ q.
      fin.get-from_entries nat_list_cmp_total es q
      ∙ find-under q es
      ∙ ap (fin.find by_bytes q) (same q)
      ∙ sym (find-under q fs)
      ∙ sym (fin.get-from_entries nat_list_cmp_total fs q))

  -- the entries in the order of their names; of a closed list it computes
  abbrev pub sorted : Entries V → Entries V
  sorted [] = []
  sorted (e ∷ es) = put by_bytes e.0 e.1 (sorted es)

  nothing : (es : Entries V) → length es ≡ 0 → es ≡ []
  nothing [] h = refl
  nothing (e ∷ es) h = absurd (omega arith)

  entries-sorted : (es : Entries V) → fin.entries (fin.from_entries {R = by_bytes} es) ≡ sorted es
  entries-sorted [] = nothing (fin.entries (fin.empty {X = V} {R = by_bytes})) (sym (fin.len-entries fin.empty) ∙ fin.len-empty by_bytes V)
  entries-sorted (e ∷ es) = fin.entries-insert nat_list_cmp_total (fin.from_entries es) e.0 e.1 ∙ ap (put by_bytes e.0 e.1) (entries-sorted es)

  pub same_sorted : (es fs : Entries V) → sorted es ≡ sorted fs → fin.from_entries {R = by_bytes} es ≡ fin.from_entries fs
  same_sorted es fs same = fin.same_entries_map _ _ (entries-sorted es ∙ same ∙ sym (entries-sorted fs))

abbrev one_order : Entries ℕ
one_order = (97 ∷ [], 1) ∷ (98 ∷ [], 2) ∷ []

abbrev other_order : Entries ℕ
other_order = (98 ∷ [], 2) ∷ (97 ∷ [], 1) ∷ []

-- two orders of two names, by computation
two_orders : fin.from_entries {R = by_bytes} one_order ≡ fin.from_entries other_order
two_orders = same_sorted one_order other_order refl

-- a lookup, by computation
one_look_up : fin.get (fin.from_entries {R = by_bytes} one_order) (98 ∷ []) ≡ Some 2
one_look_up = fin.get-from_entries nat_list_cmp_total one_order (98 ∷ [])
