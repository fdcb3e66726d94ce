-- Bytes in parts: what becomes of them where a text is added, and where they are written.
use Rattle.std.proofs.Common.{◌≡◌, ℕ, ◌+◌, ◌-◌, ◌<◌, ◌≤◌, ◌^◌, List, [], ◌∷◌, ◌++◌, length, take, drop, get_or, Option, refl, sym, ap, subst, ◌∙◌, arith}
use Rattle.std.specs.Prelude.{Result, Ok, Err, OnOk, is_ok, if◌then◌else◌, slice_range}
use Rattle.std.specs.List.{All, FoldsTo, concat, flat_map}
use Rattle.std.specs.Fmt.{WritesInCalls}
use Rattle.std.specs.Io.KnownBytes.{Appends}
use Rattle.std.proofs.KnownBytes.{Appends-trans}
use Rattle.std.proofs.lemmas.List.{append-nil, append_assoc, length-append, length-drop, take-append-drop, take-append-le, drop-append-le, take_all, drop_all, take_rest, take_more, flat_map_more}
use Rattle.std.proofs.lemmas.List.Concat.{flat_map-append}
use Rattle.std.proofs.lemmas.List.Elements.{All-head, All-tail, All-weaker, All-append, All-cons, All-nil}
use Rattle.std.proofs.Math.Seq.{take-append-add, take-append_seam}
use Rattle.graphql_names.specs.declared.device.Device.{Device}
use Rattle.graphql_names.specs.Device.{device_inner}
use Rattle.checker_calls.specs.Parts.{part_of, IsWithin, parts_bytes, AreSound, LiesAt, AddsBytes}
use Rattle.checker_calls.specs.ReadFaults.{IsPutFault, IsPutFaultAfter}
use Rattle.checker_calls.specs.declared.parts.Parts.{Parts}
use Rattle.checker_calls.specs.declared.run_fault.RunFault.{RunFault}

-- ---- found

-- a text at the front of what begins there lies there
pub found : (kept text rest : List ℕ) (start : ℕ) → start ≤ length kept → rest ≡ slice_range kept start (length kept) → length rest + start ≡ length kept
    → length text ≤ length rest → rest ≡ text ++ drop (length text) rest → LiesAt kept text start
found kept text rest start in' is long short begins = let less : start + length text - start ≡ length text = omega arith in (
  omega (arith, in', long, short),
  ap (λ n. take n (drop start kept)) less
      ∙ ap (take (length text)) (sym (take_rest kept start) ∙ sym is ∙ begins)
      ∙ take-append_seam text (drop (length text) rest),
)

-- ---- added

-- a part stays where more is kept
part_on : (kept more : List ℕ) (range : ℕ × ℕ) → IsWithin (length kept) range → part_of (kept ++ more) range ≡ part_of kept range
part_on kept more (start, end) in' =
    ap (take (end - start)) (drop-append-le start kept more (omega (arith, in'.0, in'.1)))
    ∙ take-append-le (end - start) (drop start kept) more (long_enough kept start end in')
  where
    long_enough : (kept : List ℕ) (start end : ℕ) → IsWithin (length kept) (start, end) → end - start ≤ length (drop start kept)
    long_enough kept start end in' = omega (arith, length-drop start kept, in'.1)

parts_on : (kept more : List ℕ) (ranges : List (ℕ × ℕ)) → All (IsWithin (length kept)) ranges → flat_map (part_of (kept ++ more)) ranges ≡ flat_map (part_of kept) ranges
parts_on kept more [] in' = refl
parts_on kept more (range ∷ ranges) in' = λ i. part_on kept more range (All-head (IsWithin (length kept)) range ranges in') i ++ parts_on kept more ranges (All-tail (IsWithin (length kept)) range ranges in') i

pub fits : (len : ℕ) (text : List ℕ) (new : ℕ) → len + length text < 2 ^ 64 → new ≡ len + length text → new < 2 ^ 64
fits len text new small is = omega (arith, small, is)

-- a text is kept after the others
pub kept_after : (old new : Parts) (text : List ℕ) → new.kept.items ≡ old.kept.items ++ text → new.ranges.items ≡ old.ranges.items → new.last ≡ old.last → new.len ≡ old.len + length text → new.len < 2 ^ 64 → AddsBytes old text new
kept_after old new text kept ranges last len fits sound =
    let bytes : parts_bytes new ≡ parts_bytes old ++ text =
    (λ i. flat_map (part_of (kept i)) (ranges i) ++ drop (last i) (kept i))
    ∙ (λ i. parts_on old.kept.items text old.ranges.items sound.ranges i ++ drop-append-le old.last old.kept.items text sound.last i)
    ∙ sym (append_assoc (flat_map (part_of old.kept.items) old.ranges.items) (drop old.last old.kept.items) text) in
    let more : length new.kept.items ≡ length old.kept.items + length text = ap length kept ∙ length-append old.kept.items text in (
      record {
        ranges = subst (All (IsWithin (length new.kept.items))) (sym ranges) (All-weaker (IsWithin (length old.kept.items)) (IsWithin (length new.kept.items)) (λ r h. (h.0, omega (arith, h.1, more))) old.ranges.items sound.ranges);
        last = omega (arith, last, more, sound.last);
        len = len ∙ ap (λ n. n + length text) sound.len ∙ sym (ap length bytes ∙ length-append (parts_bytes old) text);
        fits = fits;
      },
      bytes,
    )

-- a part of what is kept comes once more
pub once_more : (old new : Parts) (text : List ℕ) (start end : ℕ) → new.kept.items ≡ old.kept.items → new.ranges.items ≡ old.ranges.items ++ (old.last, length old.kept.items) ∷ (start, end) ∷ []
    → new.last ≡ length old.kept.items → new.len ≡ old.len + length text → new.len < 2 ^ 64 → end ≡ start + length text → LiesAt old.kept.items text start → AddsBytes old text new
once_more old new text start end kept ranges last len fits ends lies sound =
    let part = part_of old.kept.items in
    let front = flat_map part old.ranges.items in
    let rest = drop old.last old.kept.items in
    let same : slice_range old.kept.items start end ≡ text = ap (slice_range old.kept.items start) ends ∙ lies.1 in
    let two : List (ℕ × ℕ) = (old.last, length old.kept.items) ∷ (start, end) ∷ [] in
    let within = IsWithin (length old.kept.items) in
    let one_in : within (old.last, length old.kept.items) = (sound.last, omega arith) in
    let two_in : within (start, end) = (omega (arith, ends), omega (arith, ends, lies.0)) in
    let bytes : parts_bytes new ≡ parts_bytes old ++ text =
    (λ i. flat_map (part_of (kept i)) (ranges i) ++ drop (last i) (kept i))
    ∙ (λ i. flat_map-append part old.ranges.items two i ++ drop_all (length old.kept.items) old.kept.items (omega arith) i)
    ∙ append-nil (front ++ (slice_range old.kept.items old.last (length old.kept.items) ++ (slice_range old.kept.items start end ++ [])))
    ∙ (λ i. front ++ (take_rest old.kept.items old.last i ++ (append-nil (same i) i)))
    ∙ sym (append_assoc front rest text) in (
      record {
        ranges = subst (All (IsWithin (length new.kept.items))) (sym ranges) (subst (λ n. All (IsWithin n) (old.ranges.items ++ two)) (sym (ap length kept))
            (All-append within old.ranges.items two sound.ranges (All-cons within (old.last, length old.kept.items) ((start, end) ∷ []) one_in (All-cons within (start, end) [] two_in (All-nil within)))));
        last = omega (arith, last, ap length kept);
        len = len ∙ ap (λ n. n + length text) sound.len ∙ sym (ap length bytes ∙ length-append (parts_bytes old) text);
        fits = fits;
      },
      bytes,
    )

-- the same, unless memory ran out
pub extended : {E : Type 0} (result : Result (Unit {0}) E) (old new : Parts) (text : List ℕ) → new.kept.items ≡ (if is_ok result then old.kept.items ++ text else old.kept.items) → new.ranges.items ≡ old.ranges.items → new.last ≡ old.last
    → new.len ≡ old.len + length text → new.len < 2 ^ 64 → OnOk result (AddsBytes old text new)
extended (Ok done) old new text kept ranges last len fits = kept_after old new text kept ranges last len fits
extended (Err refused) old new text kept ranges last len fits = tt

pub repeated : {E : Type 0} (result : Result (Unit {0}) E) (old new : Parts) (text : List ℕ) (start : ℕ) → new.kept.items ≡ old.kept.items → OnOk result (new.ranges.items ≡ old.ranges.items ++ (old.last, length old.kept.items) ∷ (start, start + length text) ∷ [])
    → OnOk result (new.last ≡ length old.kept.items) → new.len ≡ old.len + length text → new.len < 2 ^ 64 → LiesAt old.kept.items text start → OnOk result (AddsBytes old text new)
repeated (Ok done) old new text start kept ranges last len fits lies = once_more old new text start (start + length text) kept ranges last len fits refl lies
repeated (Err refused) old new text start kept ranges last len fits lies = tt

-- ---- written

-- the bytes of the first parts
abbrev pub first_bytes : Parts → ℕ → List ℕ
first_bytes parts i = flat_map (part_of parts.kept.items) (take i parts.ranges.items)

-- with one more
first_more : (parts : Parts) (i : ℕ) → i < length parts.ranges.items → first_bytes parts i ++ part_of parts.kept.items (get_or parts.ranges.items i (0, 0)) ≡ first_bytes parts (i + 1)
first_more parts i in' =
    flat_map_more (part_of parts.kept.items) [] (take i parts.ranges.items) (get_or parts.ranges.items i (0, 0))
    ∙ ap (flat_map (part_of parts.kept.items)) (sym (take_more parts.ranges.items i (0, 0) in'))

-- what comes after the first `i` parts
abbrev after_first : (parts : Parts) → ℕ → List ℕ
after_first parts i = flat_map (part_of parts.kept.items) (drop i parts.ranges.items) ++ drop parts.last parts.kept.items

first_after : (parts : Parts) (i : ℕ) → parts_bytes parts ≡ first_bytes parts i ++ after_first parts i
first_after parts i =
    let part = part_of parts.kept.items in
    let last = drop parts.last parts.kept.items in
    ap (λ ranges. flat_map part ranges ++ last) (sym (take-append-drop i parts.ranges.items))
    ∙ ap (λ bytes. bytes ++ last) (flat_map-append part (take i parts.ranges.items) (drop i parts.ranges.items))
    ∙ append_assoc (first_bytes parts i) (flat_map part (drop i parts.ranges.items)) last

-- what a text between others leaves room for
pub room_after : (front text rest all : List ℕ) (before bound : ℕ) → before ≡ length front → all ≡ front ++ (text ++ rest) → length all < bound → before + length text < bound
room_after front text rest all before bound count is below =
    let long : length all ≡ length front + (length text + length rest) = ap length is ∙ length-append front (text ++ rest) ∙ ap (λ n. length front + n) (length-append text rest) in
    omega (arith, count, long, below)

module _ {W : Type 0} (contents : W → Option (List ℕ)) (old mid new : Device W) where
  -- a text is written after others, but not all of it
  pub fault_after : (front text rest all : List ℕ) (before : ℕ) (fault : RunFault) → before ≡ length front → all ≡ front ++ (text ++ rest) → Appends (contents (device_inner old)) (contents (device_inner mid)) front
      → IsPutFaultAfter contents before mid new text fault → IsPutFault contents old new all fault
  fault_after front text rest all before fault count is out (taken, told, (short, failed, put)) =
      let long : length all ≡ length front + (length text + length rest) = ap length is ∙ length-append front (text ++ rest) ∙ ap (λ n. length front + n) (length-append text rest) in
      let cut : take (before + taken) all ≡ front ++ take taken text =
      (λ i. take (count i + taken) (is i)) ∙ take-append-add front (text ++ rest) taken ∙ ap (λ bytes. front ++ bytes) (take-append-le taken text rest (omega (arith, short))) in
      let more : before + taken < length all = omega (arith, count, long, short) in
      subst (IsPutFault contents old new all) (sym told)
      (more, failed, subst (Appends (contents (device_inner old)) (contents (device_inner new))) (sym cut) (Appends-trans _ _ _ front (take taken text) out put))

-- The loop over the parts: `ranges` and `kept` are those of `parts`.
module _ (parts : Parts) (sound : AreSound parts) (ranges : List (ℕ × ℕ)) (kept : List ℕ) (ranges_are : ranges ≡ parts.ranges.items) (kept_is : kept ≡ parts.kept.items) (i : ℕ) (before : ℕ) (count : before ≡ length (first_bytes parts i)) where
  below : length (parts_bytes parts) < 2 ^ 64
  below = omega (arith, sound.len, sound.fits)

  -- one more part
  pub next_more : i < length ranges → first_bytes parts i ++ part_of kept (get_or ranges i (0, 0)) ≡ first_bytes parts (i + 1)
  next_more in' = (λ k. first_bytes parts i ++ part_of (kept_is k) (get_or (ranges_are k) i (0, 0))) ∙ first_more parts i (omega (arith, in', ap length ranges_are))

  next_is : i < length ranges → parts_bytes parts ≡ first_bytes parts i ++ (part_of kept (get_or ranges i (0, 0)) ++ after_first parts (i + 1))
  next_is in' =
      first_after parts (i + 1) ∙ ap (λ bytes. bytes ++ after_first parts (i + 1)) (sym (next_more in'))
      ∙ append_assoc (first_bytes parts i) (part_of kept (get_or ranges i (0, 0))) (after_first parts (i + 1))

  pub next_room : i < length ranges → before + length (part_of kept (get_or ranges i (0, 0))) < 2 ^ 64
  next_room in' = room_after (first_bytes parts i) (part_of kept (get_or ranges i (0, 0))) (after_first parts (i + 1)) (parts_bytes parts) before (2 ^ 64) count (next_is in') below

  -- the last part
  pub last_is : length ranges ≤ i → parts_bytes parts ≡ first_bytes parts i ++ slice_range kept parts.last (length kept)
  last_is past =
      ap (λ ranges. flat_map (part_of parts.kept.items) ranges ++ drop parts.last parts.kept.items) (sym (take_all i parts.ranges.items (omega (arith, past, ap length ranges_are))))
      ∙ ap (λ bytes. first_bytes parts i ++ bytes) (sym (take_rest parts.kept.items parts.last) ∙ (λ k. slice_range (sym kept_is k) parts.last (length (sym kept_is k))))

  last_and_none : length ranges ≤ i → parts_bytes parts ≡ first_bytes parts i ++ (slice_range kept parts.last (length kept) ++ [])
  last_and_none past = last_is past ∙ ap (λ bytes. first_bytes parts i ++ bytes) (sym (append-nil (slice_range kept parts.last (length kept))))

  pub last_room : length ranges ≤ i → before + length (slice_range kept parts.last (length kept)) < 2 ^ 64
  last_room past = room_after (first_bytes parts i) (slice_range kept parts.last (length kept)) [] (parts_bytes parts) before (2 ^ 64) count (last_and_none past) below

  module _ {W : Type 0} (contents : W → Option (List ℕ)) (old mid new : Device W) (fault : RunFault) (out : Appends (contents (device_inner old)) (contents (device_inner mid)) (first_bytes parts i)) where
    -- one of them is not written whole
    pub next_fault : i < length ranges → IsPutFaultAfter contents before mid new (part_of kept (get_or ranges i (0, 0))) fault → IsPutFault contents old new (parts_bytes parts) fault
    next_fault in' h = fault_after contents old mid new (first_bytes parts i) (part_of kept (get_or ranges i (0, 0))) (after_first parts (i + 1)) (parts_bytes parts) before fault count (next_is in') out h

    -- nor the last
    pub last_fault : length ranges ≤ i → IsPutFaultAfter contents before mid new (slice_range kept parts.last (length kept)) fault → IsPutFault contents old new (parts_bytes parts) fault
    last_fault past h = fault_after contents old mid new (first_bytes parts i) (slice_range kept parts.last (length kept)) [] (parts_bytes parts) before fault count (last_and_none past) out h

-- so many bytes are out with one more text
pub counted_on : (new old : ℕ) (front text all : List ℕ) → new ≡ old + length text → old ≡ length front → front ++ text ≡ all → new ≡ length all
counted_on new old front text all more count is = omega (arith, more, count, ap length (sym is), length-append front text)

-- ---- several texts are added in turn

adds_both : (old mid new : Parts) (a b : List ℕ) → AddsBytes old a mid → AddsBytes mid b new → AddsBytes old (a ++ b) new
adds_both old mid new a b first second sound =
    let one = first sound in
    let two = second one.0 in
    (two.0, two.1 ∙ ap (λ bytes. bytes ++ b) one.1 ∙ append_assoc (parts_bytes old) a b)

adds_all : (old : Parts) (texts : List (List ℕ)) (new : Parts) → FoldsTo AddsBytes old texts new → AddsBytes old (concat texts) new
adds_all old [] new same = subst (AddsBytes old []) same (λ sound. (sound, sym (append-nil (parts_bytes old))))
adds_all old (text ∷ texts) new calls = adds_both old calls.0 new text (concat texts) calls.1 (adds_all calls.0 texts new calls.2)

-- what is written in calls is added
pub adds_written : (old : Parts) (text : List ℕ) (new : Parts) → WritesInCalls AddsBytes old text new → AddsBytes old text new
adds_written old text new written = subst (λ t. AddsBytes old t new) written.whole (adds_all old written.parts new written.calls)
