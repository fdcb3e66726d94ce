-- Tokens that mean the same text in two ways of giving places are read alike: where a rule reads a tree in the one, it reads one in
-- the other, up to the same token, that is the same but for places. Here for each way to put rules together.
use Rattle.std.proofs.Common.{◌≡◌, Bool, true, false, List, [], ◌∷◌, map, Option, Some, None, unwrap_or, inl, inr, refl, sym, ap, ◌∙◌}
use Rattle.std.specs.Option.{option_map}
use Rattle.graphql_names.specs.Placed.{unplaced_node}
use Rattle.read_tokens.specs.declared.terminal.Terminal.{Terminal}
use Rattle.read_tokens.specs.Input.{Input}
use Rattle.read_grammar.specs.Meaning.{Meaning, place_between}
use Rattle.read_grammar.specs.Rules as g
use Rattle.read_grammar.specs.Rules.{Rule, mark, ◌·◌, ◌<$>◌, ◌∣◌, nothing, optional, optional_unless, many, some, between, placed}

-- where the one rule reads a tree the other reads one of which the same is left, up to the same token
pub record Alike {A C : Type 0} (r s : Rule A) (u : A → C) : Type 0 where
  pub at : (i : Input) (x : A) (o : Input) → r i x o → (y : A) × s i y o × (u x ≡ u y)

-- a rule that gives no places
pub fixed : {A C : Type 0} (r : Rule A) (u : A → C) → Alike r r u
fixed r u = record { at = λ i x o h. (x, h, refl) }

pub skipped : (is : Terminal → Bool) → Alike (mark is) (mark is) (λ x. x)
skipped is = fixed (mark is) (λ x. x)

pub mapped : {A B C D : Type 0} {r s : Rule A} {u : A → C} {v : B → D} (f f' : A → B) → Alike r s u → (h : C → D) → ((x : A) → v (f x) ≡ h (u x)) → ((x : A) → v (f' x) ≡ h (u x)) → Alike (f <$> r) (f' <$> s) v
mapped {A} {B} {C} {D} {r} {s} {u} {v} f f' rr h same same' = record {
  at = λ i y o k.
      let l = rr.at i k.0 o k.1 in
      (f' l.0, (l.0, l.1, refl), ap v k.2 ∙ same k.0 ∙ ap h l.2 ∙ sym (same' l.0));
}

pub made : {A B C D : Type 0} {r s : Rule A} {u : A → C} {v : B → D} (f : A → B) → Alike r s u → (h : C → D) → ((x : A) → v (f x) ≡ h (u x)) → Alike (f <$> r) (f <$> s) v
made f rr h same = mapped f f rr h same same

pub seq : {A B C D : Type 0} {r s : Rule A} {r' s' : Rule B} {u : A → C} {v : B → D} → Alike r s u → Alike r' s' v → Alike {C = C × D} (r · r') (s · s') (λ x. (u x.0, v x.1))
seq rr ss = record {
  at = λ i x o h.
      let k = rr.at i x.0 h.0 h.1 in
      let l = ss.at h.0 x.1 o h.2 in
      ((k.0, l.0), (h.0, k.1, l.1), λ j. (k.2 j, l.2 j));
}

pub choice : {A C : Type 0} {r s r' s' : Rule A} {u : A → C} → Alike r s u → Alike r' s' u → Alike (r ∣ r') (s ∣ s') u
choice {A} {C} {r} {s} {r'} {s'} {u} rr ss = record { at = λ i x o h. by i x o h }
  where
    by : (i : Input) (x : A) (o : Input) → (r ∣ r') i x o → (y : A) × (s ∣ s') i y o × (u x ≡ u y)
    by i x o (inl h) = let k = rr.at i x o h in (k.0, inl k.1, k.2)
    by i x o (inr h) = let k = ss.at i x o h in (k.0, inr k.1, k.2)

pub never : {A C : Type 0} {u : A → C} → Alike nothing nothing u
never = record { at = λ i x o h. absurd h }

pub unless : {A C : Type 0} {r s : Rule A} {u : A → C} (forbidden : Bool) → Alike r s u → Alike (g.unless forbidden r) (g.unless forbidden s) u
unless true rr = never
unless false rr = rr

-- where the test needs no places
pub such_that : {A C : Type 0} {r s : Rule A} {u : A → C} (passes : A → Bool) (p : C → Bool) → ((x : A) → passes x ≡ p (u x)) → Alike r s u → Alike (g.such_that passes r) (g.such_that passes s) u
such_that passes p same rr = record {
  at = λ i x o h.
      let k = rr.at i x o h.0 in
      (k.0, (k.1, same k.0 ∙ sym (ap p k.2) ∙ sym (same x) ∙ h.1), k.2);
}

pub maybe : {A C : Type 0} {r s : Rule A} {u : A → C} → Alike r s u → Alike (optional r) (optional s) (option_map u)
maybe {A} {C} {r} {s} {u} rr = record { at = λ i x o h. by i x o h }
  where
    by : (i : Input) (x : Option A) (o : Input) → optional r i x o → (y : Option A) × optional s i y o × (option_map u x ≡ option_map u y)
    by i None o h = (None, h, refl)
    by i (Some x) o h = let k = rr.at i x o h in (Some k.0, k.1, ap Some k.2)

-- where it is left out it stands for another tree
pub maybe_or : {A C : Type 0} {r s : Rule A} {u : A → C} (z : A) → Alike r s u → Alike (optional r) (optional s) (λ x. Some (u (unwrap_or x z)))
maybe_or {A} {C} {r} {s} {u} z rr = record { at = λ i x o h. by i x o h }
  where
    by : (i : Input) (x : Option A) (o : Input) → optional r i x o → (y : Option A) × optional s i y o × (Some (u (unwrap_or x z)) ≡ Some (u (unwrap_or y z)))
    by i None o h = (None, h, refl)
    by i (Some x) o h = let k = rr.at i x o h in (Some k.0, k.1, ap Some k.2)

pub maybe_or_unless : {A C : Type 0} {r s : Rule A} {u : A → C} (is : Terminal → Bool) (z : A) → Alike r s u → Alike (optional_unless is r) (optional_unless is s) (λ x. Some (u (unwrap_or x z)))
maybe_or_unless {A} {C} {r} {s} {u} is z rr = record { at = λ i x o h. by i x o h }
  where
    by : (i : Input) (x : Option A) (o : Input) → optional_unless is r i x o → (y : Option A) × optional_unless is s i y o × (Some (u (unwrap_or x z)) ≡ Some (u (unwrap_or y z)))
    by i None o h = (None, h, refl)
    by i (Some x) o h = let k = rr.at i x o h in (Some k.0, k.1, ap Some k.2)

module _ {A C : Type 0} {r s : Rule A} {u : A → C} (rr : Alike r s u) where
  many_alike : (i : Input) (xs : List A) (o : Input) → many r i xs o → (ys : List A) × many s i ys o × (map u xs ≡ map u ys)
  many_alike i [] o h = ([], h, refl)
  many_alike i (x ∷ xs) o h =
      let k = rr.at i x h.0 h.1 in
      let l = many_alike h.0 xs o h.2 in
      (k.0 ∷ l.0, (h.0, k.1, l.1), λ j. k.2 j ∷ l.2 j)

  some_alike : (i : Input) (xs : List A) (o : Input) → some r i xs o → (ys : List A) × some s i ys o × (map u xs ≡ map u ys)
  some_alike i [] o h = absurd h
  some_alike i (x ∷ xs) o h =
      let k = rr.at i x h.0 h.1 in
      let l = many_alike h.0 xs o h.2 in
      (k.0 ∷ l.0, (h.0, k.1, l.1), λ j. k.2 j ∷ l.2 j)

  pub several : Alike (many r) (many s) (map u)
  several = record { at = many_alike }

  pub one_or_more : Alike (some r) (some s) (map u)
  one_or_more = record { at = some_alike }

  pub enclosed : (opening closing : Terminal → Bool) → Alike (between opening r closing) (between opening s closing) u
  enclosed opening closing = made (λ x. x.1.0) (seq (skipped opening) (seq rr (skipped closing))) (λ x. x.1.0) (λ x. refl)

  pub following : (is : Terminal → Bool) → Alike ((λ x. x.1) <$> mark is · r) ((λ x. x.1) <$> mark is · s) u
  following is = made (λ x. x.1) (seq (skipped is) rr) (λ x. x.1) (λ x. refl)

  -- each with its place, in two ways
  pub located : {P : Type 0} (m k : Meaning P) → Alike (placed m r) (placed k s) (unplaced_node u)
  located m k = record {
    at = λ i x o h.
        let l = rr.at i x.it o h.0 in
        (record { it = l.0; place = place_between k i o }, (l.1, refl), λ j. record { it = l.2 j; place = tt });
  }

pub separated : {A C : Type 0} {r s : Rule A} {u : A → C} (is : Terminal → Bool) → Alike r s u → Alike (g.separated is r) (g.separated is s) (map u)
separated is rr = made (λ x. x.1.0 ∷ x.1.1) (seq (maybe (skipped is)) (seq rr (several (following rr is)))) (λ x. x.1.0 ∷ x.1.1) (λ x. refl)
