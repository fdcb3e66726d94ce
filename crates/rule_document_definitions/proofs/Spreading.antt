-- What an operation reaches is in it, or in a fragment to whose name spreads lead from it. So it can be decided whether a property
-- that can be decided holds of some selection that is reached.
use Rattle.std.proofs.Common.{◌≡◌, ◌⊎◌, ℕ, List, map, Some, Contains, inl, inr}
use Rattle.spec_document.specs.MeantTree.{MeantOperation, MeantFragment, MeantDocument}
use Rattle.rule_definitions.specs.Words.{Present}
use Rattle.rule_definitions.proofs.Lookups.{under_given}
use Rattle.rule_document_definitions.specs.Selected.{InOperation, InFragment, Standing, all_in, spread_name, fragment_named, operation_name, held}
use Rattle.rule_document_definitions.specs.Reached.{first, next, LeadsInto, Reached, AtReached, AtReachedFragment}
use Rattle.rule_document_definitions.proofs.Unplaced.{contains_map}
use Rattle.rule_document_definitions.proofs.Decided.{Decided, along, both, either, option_names, present, some_of}
use Rattle.rule_document_definitions.proofs.Ways.{Via, direct, through, decided, kept}
use Rattle.rule_document_definitions.proofs.Inside.{IsInside, own_in, inside_in, all_so}

module _ {P : Type 0} (d : MeantDocument P) where
  abbrev pub whole : MeantOperation P → List (Standing P)
  whole o = all_in (InOperation (operation_name o)) o.set

  abbrev pub body : MeantFragment P → List (Standing P)
  body f = all_in (InFragment f.name.it) f.set

  -- the names under which fragments stand
  abbrev keys : List (List ℕ)
  keys = map (λ e. e.0) d.fragments

  -- one of these spreads the fragment of that name
  abbrev pub Spread : List (Standing P) → List ℕ → Type 0
  Spread xs n = (x : Standing P) × (Contains xs x × (spread_name x.it ≡ Some n))

  abbrev pub Step : List ℕ → List ℕ → Type 0
  Step n m = Present (fragment_named d n) (λ f. Spread (body f) m)

  -- spreads lead from the operation to the name
  abbrev pub Named : MeantOperation P → List ℕ → Type 0
  Named o n = Spread (whole o) n ⊎ ((m : List ℕ) × (Contains keys m × (Spread (whole o) m × Via Step keys m n)))

  abbrev pub StandsThere : MeantOperation P → Standing P → Type 0
  StandsThere o x = Contains (whole o) x ⊎ ((n : List ℕ) × (Named o n × Present (fragment_named d n) (λ f. Contains (body f) x)))

  key_of : (n : List ℕ) (f : MeantFragment P) → fragment_named d n ≡ Some f → Contains keys n
  key_of n f e = contains_map (λ (e : List ℕ × MeantFragment P). e.0) d.fragments (n, f) (under_given n d.fragments f e)

  module _ (o : MeantOperation P) where
    named_on : (n m : List ℕ) → Named o n → Step n m → Named o m
    named_on n m (inl s) (f, (e, c)) = inr (n, (key_of n f e, (s, direct Step keys n m (f, (e, c)))))
    named_on n m (inr (l, (k, (s, v)))) (f, (e, c)) = inr (l, (k, (s, through Step keys l n m (key_of n f e) v (direct Step keys n m (f, (e, c))))))

    -- ---- what is reached stands there

    spreads_to : (x y : Standing P) (n : List ℕ) → StandsThere o x → spread_name x.it ≡ Some n → Present (fragment_named d n) (λ f. Contains (held f) y) → StandsThere o y
    spreads_to x y n (inl c) e (f, (is, h)) = inr (n, (inl (x, (c, e)), (f, (is, own_in (InFragment f.name.it) f.set y h))))
    spreads_to x y n (inr (m, (led, (g, (at, c))))) e (f, (is, h)) =
        inr (n, (named_on m n led (g, (at, (x, (c, e)))), (f, (is, own_in (InFragment f.name.it) f.set y h))))

    inside : (x y : Standing P) → StandsThere o x → IsInside x y → StandsThere o y
    inside x y (inl c) i = inl (inside_in (InOperation (operation_name o)) o.set x y c i)
    inside x y (inr (n, (led, (f, (is, c))))) i = inr (n, (led, (f, (is, inside_in (InFragment f.name.it) f.set x y c i))))

    pub stands : (x : Standing P) → Reached d o x → StandsThere o x
    stands x (first c) = inl (own_in (InOperation (operation_name o)) o.set x c)
    stands y (next {x = x} r l) = by (stands x r) l
      where
        by : StandsThere o x → LeadsInto d x y → StandsThere o y
        by s (inl f) = inside x y s (inl f)
        by s (inr (inl c)) = inside x y s (inr c)
        by s (inr (inr (n, (e, p)))) = spreads_to x y n s e p

    -- ---- and what stands there is reached

    on : (x y : Standing P) → Reached d o x → IsInside x y → Reached d o y
    on x y r (inl f) = next r (inl f)
    on x y r (inr c) = next r (inr (inl c))

    in_whole : (x : Standing P) → Contains (whole o) x → Reached d o x
    in_whole x c = all_so (Reached d o) on (InOperation (operation_name o)) o.set (λ y k. first k) x c

    -- a spread of the name is reached
    abbrev SpreadReached : List ℕ → Type 0
    SpreadReached n = (x : Standing P) × (Reached d o x × (spread_name x.it ≡ Some n))

    in_body : (n : List ℕ) → SpreadReached n → (x : Standing P) → Present (fragment_named d n) (λ f. Contains (body f) x) → Reached d o x
    in_body n (z, (r, e)) x (f, (is, c)) = all_so (Reached d o) on (InFragment f.name.it) f.set (λ y k. next r (inr (inr (n, (e, (f, (is, k))))))) x c

    spread_on : (n m : List ℕ) → SpreadReached n → Step n m → SpreadReached m
    spread_on n m s (f, (is, (x, (c, e)))) = (x, (in_body n s x (f, (is, c)), e))

    spread_whole : (n : List ℕ) → Spread (whole o) n → SpreadReached n
    spread_whole n (x, (c, e)) = (x, (in_whole x c, e))

    pub named_reached : (n : List ℕ) → Named o n → SpreadReached n
    named_reached n (inl s) = spread_whole n s
    named_reached n (inr (m, (k, (s, v)))) = kept Step SpreadReached spread_on keys m n (spread_whole m s) v

    pub reached : (x : Standing P) → StandsThere o x → Reached d o x
    reached x (inl c) = in_whole x c
    reached x (inr (n, (led, p))) = in_body n (named_reached n led) x p

    -- ---- so it is decided

    spread_or_not : (xs : List (Standing P)) (n : List ℕ) → Decided (Spread xs n)
    spread_or_not xs n = some_of (λ x. spread_name x.it ≡ Some n) (λ x. option_names (spread_name x.it) (Some n)) xs

    step_or_not : (n m : List ℕ) → Decided (Step n m)
    step_or_not n m = present (λ f. Spread (body f) m) (fragment_named d n) (λ f e. spread_or_not (body f) m)

    named_or_not : (n : List ℕ) → Decided (Named o n)
    named_or_not n = either (spread_or_not (whole o) n)
        (some_of (λ m. Spread (whole o) m × Via Step keys m n) (λ m. both (spread_or_not (whole o) m) (decided Step step_or_not keys m n)) keys)

    module _ (Q : Standing P → Type 0) (each : (x : Standing P) → Decided (Q x)) where
      -- of one that stands there
      abbrev Found : Type 0
      Found = ((x : Standing P) × (Contains (whole o) x × Q x))
          ⊎ ((n : List ℕ) × (Contains keys n × (Named o n × Present (fragment_named d n) (λ f. (x : Standing P) × (Contains (body f) x × Q x)))))

      found : AtReached d o Q → Found
      found (x, (r, q)) = by (stands x r)
        where
          by : StandsThere o x → Found
          by (inl c) = inl (x, (c, q))
          by (inr (n, (led, (f, (e, c))))) = inr (n, (key_of n f e, (led, (f, (e, (x, (c, q)))))))

      is_found : Found → AtReached d o Q
      is_found (inl (x, (c, q))) = (x, (reached x (inl c), q))
      is_found (inr (n, (k, (led, (f, (e, (x, (c, q)))))))) = (x, (reached x (inr (n, (led, (f, (e, c))))), q))

      pub at_reached : Decided (AtReached d o Q)
      at_reached = along is_found found (either (some_of Q each (whole o))
          (some_of (λ n. Named o n × Present (fragment_named d n) (λ f. (x : Standing P) × (Contains (body f) x × Q x)))
          (λ n. both (named_or_not n) (present _ (fragment_named d n) (λ f e. some_of Q each (body f)))) keys))

    -- of a fragment that is reached
    pub at_reached_fragment : (Q : MeantFragment P → Type 0) → ((f : MeantFragment P) → Decided (Q f)) → Decided (AtReachedFragment d o Q)
    at_reached_fragment Q each = along
        (λ h. (h.1.1.1.1.0, ((h.0, (h.1.0, (h.1.1.0, (h.1.1.1.0, h.1.1.1.1.1.0)))), h.1.1.1.1.1.1)))
        (λ h. (h.1.0.0, (h.1.0.1.0, (h.1.0.1.1.0, (h.1.0.1.1.1.0, (h.0, (h.1.0.1.1.1.1, h.1.1)))))))
        (at_reached (λ x. Present (spread_name x.it) (λ n. Present (fragment_named d n) Q))
        (λ x. present (λ n. Present (fragment_named d n) Q) (spread_name x.it) (λ n e. present Q (fragment_named d n) (λ f e. each f))))
