-- Each fault is told once, in order.
use Rattle.std.proofs.Common.{◌≡◌, ℕ, suc, ◌+◌, ◌<◌, ◌≤◌, List, [], ◌∷◌, ◌++◌, length, map, get_or, take, All, refl, sym, ◌∙◌, ap, subst, arith}
use Rattle.std.specs.Prelude.{IsSomeAnd, slice_get, None, Some}
use Rattle.std.specs.Option.{option_map}
use Rattle.std.proofs.lemmas.List.{take_more, length-map}
use Rattle.std.proofs.lemmas.List.Sorted.{All-permutation}
use Rattle.std.proofs.lemmas.List.Elements.{All-cons, All-nil}
use Rattle.std.proofs.lemmas.Option.{slice_get-map, slice_get_read}
use Rattle.graphql_names.specs.Placed.{Place}
use Rattle.graphql_faults.specs.declared.details.Details.{Details}
use Rattle.graphql_faults.specs.DetailsTree.{DetailsAt}
use Rattle.graphql_faults.specs.DetailsView.{details_at}
use Rattle.report_forms.specs.Order.{rank_of, ranks_from, IsOrder}
use Rattle.report_forms.specs.declared.entry.Entry.{Entry}
use Rattle.report_forms.specs.declared.order.Rank.{Rank}
use Rattle.report_forms.specs.declared.source.Source.{Source}
use Rattle.graphql_report.specs.Reports.{Tells, AreRanked, IsReport}

told_of : (place : Place) (n : ℕ) → (rank_of place n).told ≡ n
told_of None n = refl
told_of (Some span) n = refl

all_below : (n top : ℕ) (places : List Place) → n + length places ≤ top → All (λ (r : Rank). r.told < top) (ranks_from n places)
all_below n top [] le = All-nil (λ (r : Rank). r.told < top)
all_below n top (p ∷ ps) le =
    All-cons (λ (r : Rank). r.told < top) (rank_of p n) (ranks_from (suc n) ps) (omega (arith, le, told_of p n)) (all_below (suc n) top ps (omega (arith, le)))

-- a rank is that of something that is told
pub rank_inside : {T : Type 0} (told : List (Place × T)) (ranks : List Rank) (k : ℕ) (d : Rank) → IsOrder (map (λ (t : Place × T). t.0) told) ranks → k < length ranks
    → (get_or ranks k d).told < length told
rank_inside {T} told ranks k d order less =
    let places : List Place = map (λ (t : Place × T). t.0) told in
    let all = All-permutation (λ (r : Rank). r.told < length places) (ranks_from 0 places) ranks order.all (all_below 0 (length places) places (omega arith)) in
    omega (arith, all k d less, length-map told (λ (t : Place × T). t.0))

module _ {A : Type 0} (Says : A → Entry → Type 0) where
  ranked_more : (all : List A) (rs : List Rank) (es : List Entry) (r : Rank) (e : Entry)
      → AreRanked Says all rs es → IsSomeAnd (slice_get all r.told) (λ a. Says a e) → AreRanked Says all (rs ++ r ∷ []) (es ++ e ∷ [])
  ranked_more all [] [] r e h t = (t, tt)
  ranked_more all [] (x ∷ es) r e h t = absurd h
  ranked_more all (s ∷ rs) [] r e h t = absurd h
  ranked_more all (s ∷ rs) (x ∷ es) r e h t = (h.0, ranked_more all rs es r e h.1 t)

  says_at : {T : Type 0} (view : T → A) (told : List T) (i : ℕ) (one : T) (e : Entry) → i < length told → one ≡ get_or told i one → Says (view one) e
      → IsSomeAnd (slice_get (map view told) i) (λ a. Says a e)
  says_at view told i one e less is t =
      subst (λ o. IsSomeAnd o (λ a. Says a e)) (sym (slice_get-map view told i ∙ ap (option_map view) (slice_get_read told (length told) i one refl less is))) t

  -- one more entry
  pub ranked_entries : {T : Type 0} (view : T → A) (told : List T) (ranks : List Rank) (k : ℕ) (d : Rank) (one : T) (old new : List Entry) (e : Entry)
      → k < length ranks → (get_or ranks k d).told < length told → one ≡ get_or told (get_or ranks k d).told one → Says (view one) e → new ≡ old ++ e ∷ []
      → AreRanked Says (map view told) (take k ranks) old → AreRanked Says (map view told) (take (k + 1) ranks) new
  ranked_entries view told ranks k d one old new e less within at t grown h =
      let r = get_or ranks k d in
      subst (λ (l : List Entry). AreRanked Says (map view told) (take (k + 1) ranks) l) (sym grown)
      (subst (λ (l : List Rank). AreRanked Says (map view told) l (old ++ e ∷ [])) (sym (take_more ranks k d less))
      (ranked_more (map view told) (take k ranks) old r e h (says_at view told r.told one e within at t)))

pub rank_within : (told : List (Place × Details)) (ranks : List Rank) (k : ℕ) (d : Rank) → IsOrder (map (λ (t : Place × Details). t.0) told) ranks → k < length ranks
    → (get_or ranks k d).told < length told
rank_within told ranks k d order less = rank_inside told ranks k d order less

module _ (sources : List Source) (name : List ℕ) where
  -- one more fault
  pub entries_more : (told : List (Place × Details)) (ranks : List Rank) (k : ℕ) (d : Rank) (fault : Place × Details) (old new : List Entry) (e : Entry)
      → k < length ranks → (get_or ranks k d).told < length told → fault ≡ get_or told (get_or ranks k d).told fault → Tells sources name (details_at fault) e → new ≡ old ++ e ∷ []
      → AreRanked (Tells sources name) (map details_at told) (take k ranks) old → AreRanked (Tells sources name) (map details_at told) (take (k + 1) ranks) new
  entries_more told ranks k d fault old new e less within at t grown h = ranked_entries (Tells sources name) details_at told ranks k d fault old new e less within at t grown h

  places_are : (told : List (Place × Details)) → map (λ t. t.0) told ≡ map (λ (f : DetailsAt Place (List Place)). f.place) (map details_at told)
  places_are [] = refl
  places_are (t ∷ told) = ap (λ l. t.0 ∷ l) (places_are told)

  -- the whole
  pub all_reported : (faults : List (DetailsAt Place (List Place))) (told : List (Place × Details)) (ranks : List Rank) (k : ℕ) (entries : List Entry)
      → map details_at told ≡ faults → IsOrder (map (λ t. t.0) told) ranks → take k ranks ≡ ranks
      → AreRanked (Tells sources name) (map details_at told) (take k ranks) entries → IsReport sources name faults entries
  all_reported faults told ranks k entries is order whole h = record {
    ranks = ranks;
    order = subst (λ (l : List Place). IsOrder l ranks) (places_are told ∙ ap (map (λ (f : DetailsAt Place (List Place)). f.place)) is) order;
    told = subst (λ (l : List (DetailsAt Place (List Place))). AreRanked (Tells sources name) l ranks entries) is
        (subst (λ (l : List Rank). AreRanked (Tells sources name) (map details_at told) l entries) whole h);
  }
