-- Texts that are cut one by one.
--     Going      so many texts are cut, and these bytes and ends are left: what is left is cut exactly when the whole is
use Rattle.std.proofs.Common.{◌≡◌, ◌≢◌, ℕ, suc, ◌+◌, ◌==◌, true, false, ◌-◌, ◌<◌, ◌≤◌, List, [], ◌∷◌, ◌++◌, length, drop, map, take, get_or, Bor, refl, sym, ap, ◌∙◌, subst, arith}
use Rattle.std.specs.List.{concat}
use Rattle.std.proofs.Math.Seq.{drop-append_seam, take-append_seam, drop-cons}
use Rattle.std.proofs.lemmas.List.{append-nil, append_assoc, nil_from_length, length-append, length-drop, length-map, map-append, map_more, get_or-map}
use Rattle.std.proofs.lemmas.List.Elements.{All-push}
use Rattle.std.proofs.lemmas.Bool.{eqb-true}
use Rattle.std.specs.Prelude.{Result, Ok, Err, IfErr, IsUtf8}
use Rattle.std.specs.List.{All}
use Rattle.ffi_memory.specs.Cut.{ends_of, IsCutFrom, IsCut, IsTextsFault}
use Rattle.ffi_memory.specs.declared.texts.TextsFault.{TextsFault}
use Rattle.ffi_memory.specs.declared.texts.TextsFault.TheVariants.{Memory, Ends, NotUtf8}

module _ (bytes ends : List ℕ) where
  pub record Going (start : ℕ) (rest left : List ℕ) (done : List (List ℕ)) : Type 0 where
    pub whole : (texts : List (List ℕ)) → IsCutFrom start rest left texts → IsCut bytes ends (done ++ texts)
    pub there : (texts : List (List ℕ)) → IsCut bytes ends texts → (others : List (List ℕ)) × IsCutFrom start rest left others

  pub going_begins : Going 0 bytes ends []
  going_begins = record { whole = λ texts is. is; there = λ texts is. (texts, is) }

  module _ (start : ℕ) (rest left : List ℕ) (done : List (List ℕ)) (going : Going start rest left done) where
    -- the first end that is left is that of a text
    first_text : (end : ℕ) (later : List ℕ) → left ≡ end ∷ later → (others : List (List ℕ)) → IsCutFrom start rest left others
        → (text : List ℕ) × ((texts : List (List ℕ)) × ((end ≡ start + length text) × ((rest ≡ text ++ concat texts) × (later ≡ ends_of (start + length text) texts))))
    first_text end later first [] is = let e : end ∷ later ≡ [] = sym first ∙ is.1 in absurd cc
    first_text end later first (text ∷ texts) is =
        let e : end ∷ later ≡ (start + length text) ∷ ends_of (start + length text) texts = sym first ∙ is.1 in
        let heads : end ≡ start + length text = cc in
        let tails : later ≡ ends_of (start + length text) texts = cc in
        (text, (texts, (heads, (is.0, tails))))

    -- one more text is cut
    pub going_on : (text following : List ℕ) (end : ℕ) (later : List ℕ) → rest ≡ text ++ following → left ≡ end ∷ later → end ≡ start + length text
        → Going end following later (done ++ text ∷ [])
    going_on text following end later parts first at = record {
      whole = λ texts is. subst (IsCut bytes ends) (sym (append_assoc done (text ∷ []) texts)) (going.whole (text ∷ texts) (
        parts ∙ ap (λ b. text ++ b) is.0,
        first ∙ ap (λ l. end ∷ l) is.1 ∙ ap (λ e. e ∷ ends_of e texts) at,
      ));
      there = λ texts is.
          let others = going.there texts is in
          let (t, (ts, (ends_there, (cut, ends_later)))) = first_text end later first others.0 others.1 in
          let same : length text ≡ length t = omega (arith, at, ends_there) in
          let whole : text ++ following ≡ t ++ concat ts = sym parts ∙ cut in
          let apart : following ≡ concat ts = sym (drop-append_seam text following) ∙ ap (drop (length text)) whole ∙ ap (λ n. drop n (t ++ concat ts)) same ∙ drop-append_seam t (concat ts) in
          (ts, (apart, subst (λ e. later ≡ ends_of e ts) (sym ends_there) ends_later));
    }

    -- an end that is before the one before
    pub none_before : (end : ℕ) (later : List ℕ) → left ≡ end ∷ later → end < start → (texts : List (List ℕ)) → IsCut bytes ends texts → ⊥
    none_before end later first before texts is =
        let others = going.there texts is in
        let (t, (ts, (ends_there, (cut, ends_later)))) = first_text end later first others.0 others.1 in
        omega (arith, before, ends_there)

    -- an end past the bytes
    pub none_following : (end : ℕ) (later : List ℕ) → left ≡ end ∷ later → length rest < end - start → (texts : List (List ℕ)) → IsCut bytes ends texts → ⊥
    none_following end later first following texts is =
        let others = going.there texts is in
        let (t, (ts, (ends_there, (cut, ends_later)))) = first_text end later first others.0 others.1 in
        let long : length rest ≡ length t + length (concat ts) = ap length cut ∙ length-append t (concat ts) in
        omega (arith, following, ends_there, long)

    -- bytes after the last end
    pub none_over : left ≡ [] → rest ≢ [] → (texts : List (List ℕ)) → IsCut bytes ends texts → ⊥
    none_over last over texts is = let others = going.there texts is in no_text others.0 others.1
      where
        no_text : (others : List (List ℕ)) → IsCutFrom start rest left others → ⊥
        no_text [] none = over none.0
        no_text (text ∷ others) some = let e : (start + length text) ∷ ends_of (start + length text) others ≡ [] = sym some.1 ∙ last in absurd cc

    -- nothing is left
    pub cut_whole : left ≡ [] → rest ≡ [] → IsCut bytes ends done
    cut_whole last none = subst (IsCut bytes ends) (append-nil done) (going.whole [] (none, last))

-- the end that is next
pub next_end : (ends : List ℕ) (i : ℕ) → i < length ends → drop i ends ≡ get_or ends i 0 ∷ drop (i + 1) ends
next_end ends i inside = let e : suc i ≡ i + 1 = omega arith in subst (λ n. drop i ends ≡ get_or ends i 0 ∷ drop n ends) e (drop-cons ends i 0 inside)

-- a text is pushed
pub going_pushed : (bytes ends : List ℕ) (start : ℕ) (rest : List ℕ) (i : ℕ) (done new : List (Bor (List ℕ))) (text following : Bor (List ℕ)) → i < length ends
    → Going bytes ends start rest (drop i ends) (map (λ t. t.now) done) → rest ≡ text.now ++ following.now → length text.now ≡ get_or ends i 0 - start → start ≤ get_or ends i 0
    → new ≡ done ++ text ∷ [] → Going bytes ends (get_or ends i 0) following.now (drop (i + 1) ends) (map (λ t. t.now) new)
going_pushed bytes ends start rest i done new text following inside going parts long after pushed =
    let on : Going bytes ends (get_or ends i 0) following.now (drop (i + 1) ends) (map (λ t. t.now) done ++ text.now ∷ []) =
    going_on bytes ends start rest (drop i ends) (map (λ t. t.now) done) going text.now following.now (get_or ends i 0) (drop (i + 1) ends) parts (next_end ends i inside) (omega (arith, long, after)) in
    let same : map (λ (t : Bor (List ℕ)). t.now) new ≡ map (λ t. t.now) done ++ text.now ∷ [] = ap (map (λ (t : Bor (List ℕ)). t.now)) pushed ∙ map-append (λ (t : Bor (List ℕ)). t.now) done (text ∷ []) in
    subst (Going bytes ends (get_or ends i 0) following.now (drop (i + 1) ends)) (sym same) on

-- no end is next
pub none_after : (ends : List ℕ) (i : ℕ) → length ends ≤ i → drop i ends ≡ []
none_after ends i outside = let long : length (drop i ends) ≡ length ends - i = length-drop i ends in nil_from_length (drop i ends) (omega (arith, long, outside))

-- nothing, and something, by the length
pub none_long : (rest : List ℕ) → (length rest == 0) ≡ true → rest ≡ []
none_long rest is = nil_from_length rest (eqb-true (length rest) 0 is)

pub some_long : (rest : List ℕ) → (length rest == 0) ≡ false → rest ≢ []
some_long rest is e = let h : true ≡ false = ap (λ (l : List ℕ). length l == 0) (sym e) ∙ is in absurd cc

-- the fault of texts that are cut, and are then decoded
pub decoding_fault : {X : Type 0} (bytes ends : List ℕ) (texts : List (List ℕ)) (result : Result X TextsFault) → IsCut bytes ends texts
    → (result ≡ Err NotUtf8 → All IsUtf8 texts → ⊥) → (result ≡ Err Ends → ⊥) → IfErr result (IsTextsFault bytes ends)
decoding_fault bytes ends texts (Ok decoded) is encoding order = tt
decoding_fault bytes ends texts (Err Memory) is encoding order = tt
decoding_fault bytes ends texts (Err Ends) is encoding order = absurd (order refl)
decoding_fault bytes ends texts (Err NotUtf8) is encoding order = (texts, (is, encoding refl))

-- ---- texts that are decoded one by one

-- one that is not UTF-8
pub not_all_utf8 : (pieces : List (Bor (List ℕ))) (i : ℕ) (d : Bor (List ℕ)) → i < length pieces → (IsUtf8 (get_or pieces i d).now → ⊥) → All IsUtf8 (map (λ t. t.now) pieces) → ⊥
not_all_utf8 pieces i d inside none all =
    none (subst IsUtf8 (get_or-map (λ (t : Bor (List ℕ)). t.now) pieces i d [] inside) (all i [] (omega (arith, inside, length-map pieces (λ (t : Bor (List ℕ)). t.now)))))

-- one more is decoded
pub more_decoded : (pieces texts : List (Bor (List ℕ))) (i : ℕ) (d text : Bor (List ℕ)) → i < length pieces → text.now ≡ (get_or pieces i d).now
    → map (λ t. t.now) texts ≡ map (λ t. t.now) (take i pieces) → map (λ t. t.now) (texts ++ text ∷ []) ≡ map (λ t. t.now) (take (i + 1) pieces)
more_decoded pieces texts i d text inside same before =
    map-append (λ (t : Bor (List ℕ)). t.now) texts (text ∷ []) ∙ ap (λ l. l ++ text.now ∷ []) before ∙ ap (λ t. map (λ (t : Bor (List ℕ)). t.now) (take i pieces) ++ t ∷ []) same
    ∙ sym (map_more (λ (t : Bor (List ℕ)). t.now) pieces i d inside)

-- and is UTF-8 as those before
pub more_utf8 : (texts : List (Bor (List ℕ))) (text : Bor (List ℕ)) → IsUtf8 text.now → All IsUtf8 (map (λ t. t.now) texts) → All IsUtf8 (map (λ t. t.now) (texts ++ text ∷ []))
more_utf8 texts text is before =
    subst (All IsUtf8) (sym (map-append (λ (t : Bor (List ℕ)). t.now) texts (text ∷ []))) (All-push IsUtf8 (map (λ t. t.now) texts) text.now before is)

-- ---- texts are cut in one way

texts_from : (start : ℕ) (texts others : List (List ℕ)) → concat texts ≡ concat others → ends_of start texts ≡ ends_of start others → texts ≡ others
texts_from start [] [] bytes ends = refl
texts_from start [] (other ∷ others) bytes ends = absurd cc
texts_from start (text ∷ texts) [] bytes ends = absurd cc
texts_from start (text ∷ texts) (other ∷ others) bytes ends =
    let heads : start + length text ≡ start + length other = cc in
    let tails : ends_of (start + length text) texts ≡ ends_of (start + length other) others = cc in
    let same : length text ≡ length other = omega (arith, heads) in
    let first : text ≡ other = sym (take-append_seam text (concat texts)) ∙ ap (take (length text)) bytes ∙ ap (λ n. take n (other ++ concat others)) same ∙ take-append_seam other (concat others) in
    let rest : concat texts ≡ concat others = sym (drop-append_seam text (concat texts)) ∙ ap (drop (length text)) bytes ∙ ap (λ n. drop n (other ++ concat others)) same ∙ drop-append_seam other (concat others) in
    let later : ends_of (start + length other) texts ≡ ends_of (start + length other) others = ap (λ (n : ℕ). ends_of (start + n) texts) (sym same) ∙ tails in
    λ i. first i ∷ texts_from (start + length other) texts others rest later i

pub one_cut : (bytes ends : List ℕ) (texts others : List (List ℕ)) → IsCut bytes ends texts → IsCut bytes ends others → texts ≡ others
one_cut bytes ends texts others cut also = texts_from 0 texts others (sym cut.0 ∙ also.0) (sym cut.1 ∙ also.1)
