-- A builder that is given documents one after another has their sources in order, since each has a number of its own.
use Rattle.std.proofs.Common.{◌≡◌, ℕ, ◌+◌, ◌<◌, false, List, [], ◌∷◌, ◌++◌, refl, sym, ap, ◌∙◌, cond, nat_eq, ne_eqb, arith, append-nil}
use Rattle.std.proofs.Math.Nat.{lt_irrefl}
use Rattle.indexmap.specs.IndexMap.{insert_entry}
use Rattle.tree_definitions.specs.Sources.{Source}
use Rattle.graphql_read.specs.ReadFaults.{unnamed_source}
use Rattle.schema_building.specs.SourcesView.{with_sources}
use Rattle.checker_calls.specs.in_verdict_definitions.Texts.{SourceText}
use Rattle.checker_calls.specs.TextSources.{Sources, text_sources}

-- adding two lists joined is adding the first, then the second
pub with_append : (old front more : Sources) → with_sources old (front ++ more) ≡ with_sources (with_sources old front) more
with_append old [] more = refl
with_append old (s ∷ front) more = with_append (insert_entry nat_eq old s.0 s.1) front more

-- each of these has a lower number
abbrev AreBelow : ℕ → Sources → Type 0
AreBelow number [] = Unit {0}
AreBelow number (s ∷ ss) = (s.0 < number) × AreBelow number ss

below_more : (number : ℕ) (ss : Sources) (source : Source) → AreBelow number ss → AreBelow (number + 1) (ss ++ (number, source) ∷ [])
below_more number [] source below = (omega arith, tt)
below_more number (s ∷ ss) source below = let less = below.0 in (omega (arith, less), below_more number ss source below.1)

-- one with a greater number goes after them
insert_after : (number : ℕ) (source : Source) (ss : Sources) → AreBelow number ss → insert_entry nat_eq ss number source ≡ ss ++ (number, source) ∷ []
insert_after number source [] below = refl
insert_after number source (s ∷ ss) below =
    let less = below.0 in
    let apart : nat_eq number s.0 ≡ false = ne_eqb number s.0 (λ e. lt_irrefl number (omega (arith, e, less))) in
    ap (λ b. cond b ((s.0, source) ∷ ss) (s ∷ insert_entry nat_eq ss number source)) apart ∙ ap (λ l. s ∷ l) (insert_after number source ss below.1)

append_one : {X : Type 0} (xs ys : List X) (x : X) → (xs ++ x ∷ []) ++ ys ≡ xs ++ x ∷ ys
append_one [] ys x = refl
append_one (z ∷ xs) ys x = ap (λ l. z ∷ l) (append_one xs ys x)

sources_after : (first : ℕ) (texts : List SourceText) (old : Sources) → AreBelow first old → with_sources old (text_sources first texts) ≡ old ++ text_sources first texts
sources_after first [] old below = sym (append-nil old)
sources_after first (text ∷ texts) old below =
    ap (λ ss. with_sources ss (text_sources (first + 1) texts)) (insert_after first (unnamed_source text) old below)
    ∙ sources_after (first + 1) texts (old ++ (first, unnamed_source text) ∷ []) (below_more first old (unnamed_source text) below)
    ∙ append_one old (text_sources (first + 1) texts) (first, unnamed_source text)

-- the sources of texts are those of a builder that has them
pub all_sources_stay : (first : ℕ) (texts : List SourceText) → with_sources [] (text_sources first texts) ≡ text_sources first texts
all_sources_stay first texts = sources_after first texts [] tt
