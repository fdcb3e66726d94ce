-- Private: leads to `Serialized`. What a `Printer` does with a text.
use Rattle.std.specs.Prelude.{◌≡◌, ℕ, ◌+◌, ◌<◌, ◌≤◌, ◌^◌, true, List, [], ◌∷◌, ◌++◌, length, take, Option, None, Some, refl}
use Rattle.std.proofs.Common.{sym, subst, ap, ◌∙◌, arith, length-append}
use Rattle.std.proofs.Math.Seq.{take-append-add}
use Rattle.std.proofs.lemmas.List.{take-append-le, take_all}
use Rattle.std.proofs.KnownBytes.{Appends-trans, Appends-nil}
use Rattle.std.specs.Io.KnownBytes.{Appends}
use Rattle.tree_literals.specs.Joined.{joined, joined-push}
use Rattle.graphql_names.specs.declared.device.Device.{Device}
use Rattle.graphql_names.specs.Device.{device_inner, device_failed}
use Rattle.tree_literals.specs.declared.sink.Cause.{Cause}
use Rattle.tree_literals.specs.declared.sink.Cause.TheVariants.{Writer, Level}
use Rattle.tree_literals.specs.declared.sink.Printer.{Printer}

-- the writer in the printer
abbrev pub printer_writer : {W : Type 0} → Printer W → W
printer_writer p = device_inner p.device.now

-- what the cause says if `front` bytes of the text are out: all are out; or fewer, because the writer failed; or the whole text would
-- bring the count of bytes to `2 ^ 64` or more
abbrev pub StopsFor : {W : Type 0} → ℕ → ℕ → List ℕ → Device W → Option Cause → Type 0
StopsFor before front text device None = front ≡ length text
StopsFor before front text device (Some Writer) = (front < length text) × (device_failed device ≡ true)
StopsFor before front text device (Some Level) = 2 ^ 64 ≤ before + length text

-- a prefix of the text is out, and its bytes are counted
pub record PutsFront {W : Type 0} (contents : W → Option (List ℕ)) (s : Printer W) (text : List ℕ) (t : Printer W) : Type 0 where
  pub front : ℕ
  pub within : front ≤ length text
  pub written : Appends (contents (printer_writer s)) (contents (printer_writer t)) (take front text)
  pub counted : t.out ≡ s.out + front
  pub stops : StopsFor s.out front text t.device.now t.cause

-- a printer with a cause is unchanged, and one without a cause puts a prefix of the text
abbrev pub PutsFrom : {W : Type 0} → (W → Option (List ℕ)) → Option Cause → Printer W → List ℕ → Printer W → Type 0
PutsFrom contents None s text t = PutsFront contents s text t
PutsFrom contents (Some cause) s text t = t ≡ s

-- the text was put through the same reference
abbrev pub PutsOut : {W : Type 0} → (W → Option (List ℕ)) → Printer W → List ℕ → Printer W → Type 0
PutsOut contents s text t = (t.device.ghost_name ≡ s.device.ghost_name) × PutsFrom contents s.cause s text t

module _ {W : Type 0} (contents : W → Option (List ℕ)) where
  stops_later : (before front : ℕ) (a b : List ℕ) (device : Device W) (cause : Cause) → StopsFor before front a device (Some cause) → StopsFor before front (a ++ b) device (Some cause)
  stops_later before front a b device Writer h = (omega (arith, length-append a b, h.0), h.1)
  stops_later before front a b device Level h = omega (arith, length-append a b, h)

  stops_whole : (before front middle : ℕ) (a b : List ℕ) (device : Device W) (cause : Option Cause) → middle ≡ before + length a → StopsFor middle front b device cause → StopsFor before (length a + front) (a ++ b) device cause
  stops_whole before front middle a b device None e h = omega (arith, length-append a b, h)
  stops_whole before front middle a b device (Some Writer) e h = (omega (arith, length-append a b, h.0), h.1)
  stops_whole before front middle a b device (Some Level) e h = omega (arith, length-append a b, h)

  -- a printer that took all of a, and then b
  puts_on : (s t u : Printer W) (a b : List ℕ) (p : PutsFront contents s a t) → p.front ≡ length a → PutsFront contents t b u → PutsFront contents s (a ++ b) u
  puts_on s t u a b p whole q = record {
    front = length a + q.front;
    within = omega (arith, length-append a b, q.within);
    written =
        let first : Appends (contents (printer_writer s)) (contents (printer_writer t)) a = subst (Appends _ _) (take_all _ a (omega arith)) p.written in
        rw take-append-add (Appends-trans _ _ _ a (take q.front b) first q.written);
    counted = omega (arith, p.counted, q.counted);
    stops = stops_whole s.out q.front t.out a b u.device.now u.cause (omega (arith, p.counted)) q.stops;
  }

  -- a printer that stopped in a
  puts_no_more : (s t : Printer W) (a b : List ℕ) (cause : Cause) → t.cause ≡ Some cause → PutsFront contents s a t → PutsFront contents s (a ++ b) t
  puts_no_more s t a b cause e p = record {
    front = p.front;
    within = omega (arith, length-append a b, p.within);
    written = let h = p.within in rw take-append-le p.written;
    counted = p.counted;
    stops = subst (StopsFor s.out p.front (a ++ b) t.device.now) (sym e) (stops_later s.out p.front a b t.device.now cause (subst (StopsFor s.out p.front a t.device.now) e p.stops));
  }

  puts_then : (s t u : Printer W) (a b : List ℕ) (cs ct : Option Cause) → s.cause ≡ cs → t.cause ≡ ct → PutsFrom contents cs s a t → PutsFrom contents ct t b u → PutsFrom contents cs s (a ++ b) u
  puts_then s t u a b (Some c) ct es et p q = let same : ct ≡ Some c = sym et ∙ ap (λ x. x.cause) p ∙ es in (subst (λ x. PutsFrom contents x t b u) same q) ∙ p
  puts_then s t u a b None None es et p q = puts_on s t u a b p (subst (StopsFor s.out p.front a t.device.now) et p.stops) q
  puts_then s t u a b None (Some c) es et p q = subst (PutsFront contents s (a ++ b)) (sym q) (puts_no_more s t a b c et p)

  puts_nothing : (s : Printer W) (cs : Option Cause) → s.cause ≡ cs → PutsFrom contents cs s [] s
  puts_nothing s None e = record {
    front = 0;
    within = omega arith;
    written = Appends-nil _;
    counted = omega arith;
    stops = rw e refl;
  }
  puts_nothing s (Some c) e = refl

  pub PutsOut-none : (s : Printer W) → PutsOut contents s (joined []) s
  unfolding joined
  PutsOut-none s = (refl, puts_nothing s s.cause refl)

  -- to put a text and then further ones joined is to put all of them joined
  pub PutsOut-part : (s t u : Printer W) (text : List ℕ) (texts : List (List ℕ)) → PutsOut contents s text t → PutsOut contents t (joined texts) u → PutsOut contents s (joined (text ∷ texts)) u
  unfolding joined
  PutsOut-part s t u text texts p q = (q.0 ∙ p.0, puts_then s t u text (joined texts) s.cause t.cause refl refl p.1 q.1)

  -- to put texts joined and then one more is to put all of them joined
  pub PutsOut-more : (s t u : Printer W) (texts : List (List ℕ)) (text : List ℕ) → PutsOut contents s (joined texts) t → PutsOut contents t text u → PutsOut contents s (joined (texts ++ text ∷ [])) u
  PutsOut-more s t u texts text p q = rw joined-push (q.0 ∙ p.0, puts_then s t u (joined texts) text s.cause t.cause refl refl p.1 q.1)
