-- What is read is exactly the coordinate in whose form the text is written.
use Rattle.std.proofs.Common.{◌≡◌, ◌≢◌, ℕ, Bool, true, false, not, ◌==◌, ◌||◌, List, [], ◌∷◌, ◌++◌, Option, None, Some, refl, sym, ap, ◌∙◌, subst, if◌then◌else◌, arith, true≢false}
use Rattle.std.specs.Prelude.{codes, bytes_eq, option_and_then}
use Rattle.std.specs.Option.{option_map, MatchOption}
use denote.Ref.{Bor}
use Rattle.std.specs.Cmp.{first_so, second_so}
use Rattle.std.proofs.lemmas.Option.{same_Some}
use Rattle.std.proofs.lemmas.Slice.Eq.{bytes_eq-Decides}
use Rattle.std.proofs.lemmas.Bool.{ne_eqb}
use Rattle.schema_coordinates.specs.Coordinate.{Coordinate, OfType, OfAttribute, OfArgument, OfDirective, OfDirectiveArgument, printed, parts, is_sign, has_no_sign, is_signless, HasForm}
use Rattle.schema_coordinates.specs.CoordinateView.{type_form, attribute_form, argument_form, directive_form, directive_argument_form}
use Rattle.schema_coordinates.specs.declared.parts.Parts.{Parts}
use Rattle.schema_coordinates.specs.declared.parts.Parts.TheVariants as rust
use Rattle.schema_coordinates.specs.Reading.{parts_view, cut_at, argument_cut, type_cut, directive_cut, all_cut, read}
use Rattle.schema_coordinates.specs.ParseErrors.{ParseErrorIsDue, PartsErrorIsDue}
use Rattle.schema_coordinates.specs.declared.parse_error.SchemaCoordinateParseError.{SchemaCoordinateParseError}
use Rattle.schema_coordinates.specs.declared.parse_error.SchemaCoordinateParseError.TheVariants.{InvalidFormat, InvalidName, Memory}
use Rattle.schema_coordinates.proofs.Cuts.{lacks, and_true, not-true, cut-none, cut-some, cut-joins}

or_first : (a b : Bool) → (a || b) ≡ false → a ≡ false
or_first true b h = h
or_first false b h = refl

or_second : (a b : Bool) → (a || b) ≡ false → b ≡ false
or_second true b h = absurd (true≢false h)
or_second false b h = h

abbrev Tells : ℕ → Type 0
Tells s = (c : ℕ) → is_sign c ≡ false → (c == s) ≡ false

is_at : Tells 64
is_at c h = or_first (c == 64) _ h

is_dot : Tells 46
is_dot c h = or_first (c == 46) _ (or_second (c == 64) _ h)

is_open : Tells 40
is_open c h = or_first (c == 40) _ (or_second (c == 46) _ (or_second (c == 64) _ h))

is_colon : Tells 58
is_colon c h = or_first (c == 58) _ (or_second (c == 40) _ (or_second (c == 46) _ (or_second (c == 64) _ h)))

lacks-sign : (s : ℕ) → Tells s → (t : List ℕ) → has_no_sign t ≡ true → lacks s t ≡ true
lacks-sign s tells [] h = refl
lacks-sign s tells (c ∷ cs) h = and_true (not (c == s)) (lacks s cs) (ap not (tells c (not-true (is_sign c) (first_so (not (is_sign c)) _ h)))) (lacks-sign s tells cs (second_so (not (is_sign c)) _ h))

argument_complete : (a : List ℕ) → has_no_sign a ≡ true → argument_cut (a ++ codes ":)") ≡ Some a
argument_complete a h = ap (option_and_then (λ (p : List ℕ × List ℕ). if bytes_eq p.1 (codes ")") then Some p.0 else None)) (cut-some 58 a (codes ")") (lacks-sign 58 is_colon a h))

undirected : (t : List ℕ) → has_no_sign t ≡ true → all_cut t ≡ type_cut t
undirected [] h = refl
undirected (c ∷ cs) h = ap (λ b. if b then directive_cut cs else type_cut (c ∷ cs)) (is_at c (not-true (is_sign c) (first_so (not (is_sign c)) _ h)))

undirected_dot : (t u : List ℕ) → has_no_sign t ≡ true → all_cut (t ++ 46 ∷ u) ≡ type_cut (t ++ 46 ∷ u)
undirected_dot [] u h = refl
undirected_dot (c ∷ cs) u h = ap (λ b. if b then directive_cut (cs ++ 46 ∷ u) else type_cut (c ∷ (cs ++ 46 ∷ u))) (is_at c (not-true (is_sign c) (first_so (not (is_sign c)) _ h)))

abbrev cut_attribute : List ℕ × List ℕ → Option (List ℕ × List ℕ) → Option Coordinate
cut_attribute p None = Some (OfAttribute p.0 p.1)
cut_attribute p (Some q) = option_map (λ a. OfArgument p.0 q.0 a) (argument_cut q.1)

abbrev cut_type : List ℕ → Option (List ℕ × List ℕ) → Option Coordinate
cut_type text None = Some (OfType text)
cut_type text (Some p) = cut_attribute p (cut_at 40 p.1)

abbrev cut_directive : List ℕ → Option (List ℕ × List ℕ) → Option Coordinate
cut_directive text None = Some (OfDirective text)
cut_directive text (Some p) = option_map (λ a. OfDirectiveArgument p.0 a) (argument_cut p.1)

type_cut-by : (t : List ℕ) (o : Option (List ℕ × List ℕ)) → cut_at 46 t ≡ o → type_cut t ≡ cut_type t o
type_cut-by t o e = same (cut_at 46 t) ∙ ap (cut_type t) e
  where
    inner : (p : List ℕ × List ℕ) (q : Option (List ℕ × List ℕ)) → (elim q [
      | None ↦ Some (OfAttribute p.0 p.1)
      | Some q ↦ option_map (λ a. OfArgument p.0 q.0 a) (argument_cut q.1)
    ]) ≡ cut_attribute p q
    inner p None = refl
    inner p (Some q) = refl

    same : (o : Option (List ℕ × List ℕ)) → (elim o [
      | None ↦ Some (OfType t)
      | Some p ↦ elim (cut_at 40 p.1) [
        | None ↦ Some (OfAttribute p.0 p.1)
        | Some q ↦ option_map (λ a. OfArgument p.0 q.0 a) (argument_cut q.1)
      ]
    ]) ≡ cut_type t o
    same None = refl
    same (Some p) = inner p (cut_at 40 p.1)

directive_cut-by : (t : List ℕ) (o : Option (List ℕ × List ℕ)) → cut_at 40 t ≡ o → directive_cut t ≡ cut_directive t o
directive_cut-by t o e = same (cut_at 40 t) ∙ ap (cut_directive t) e
  where
    same : (o : Option (List ℕ × List ℕ)) → (elim o [
      | None ↦ Some (OfDirective t)
      | Some p ↦ option_map (λ a. OfDirectiveArgument p.0 a) (argument_cut p.1)
    ]) ≡ cut_directive t o
    same None = refl
    same (Some p) = refl

cut_complete : (c : Coordinate) → is_signless c ≡ true → all_cut (printed c) ≡ Some c
cut_complete (OfType t) h =
    let clean = first_so (has_no_sign t) _ h in
    undirected t clean ∙ type_cut-by t None (cut-none 46 t (lacks-sign 46 is_dot t clean))
cut_complete (OfAttribute t a) h =
    let clean = first_so (has_no_sign t) _ h in
    let clean_a = first_so (has_no_sign a) _ (second_so (has_no_sign t) _ h) in
    undirected_dot t a clean ∙ type_cut-by (t ++ 46 ∷ a) (Some (t, a)) (cut-some 46 t a (lacks-sign 46 is_dot t clean))
    ∙ ap (cut_attribute (t, a)) (cut-none 40 a (lacks-sign 40 is_open a clean_a))
cut_complete (OfArgument t f a) h =
    let clean = first_so (has_no_sign t) _ h in
    let rest = second_so (has_no_sign t) _ h in
    let clean_f = first_so (has_no_sign f) _ rest in
    let clean_a = first_so (has_no_sign a) _ (second_so (has_no_sign f) _ rest) in
    let u : List ℕ = f ++ 40 ∷ (a ++ codes ":)") in
    undirected_dot t u clean ∙ type_cut-by (t ++ 46 ∷ u) (Some (t, u)) (cut-some 46 t u (lacks-sign 46 is_dot t clean))
    ∙ ap (cut_attribute (t, u)) (cut-some 40 f (a ++ codes ":)") (lacks-sign 40 is_open f clean_f))
    ∙ ap (option_map (λ a. OfArgument t f a)) (argument_complete a clean_a)
cut_complete (OfDirective d) h =
    let clean = first_so (has_no_sign d) _ h in
    directive_cut-by d None (cut-none 40 d (lacks-sign 40 is_open d clean))
cut_complete (OfDirectiveArgument d a) h =
    let clean = first_so (has_no_sign d) _ h in
    let clean_a = first_so (has_no_sign a) _ (second_so (has_no_sign d) _ h) in
    directive_cut-by (d ++ 40 ∷ (a ++ codes ":)")) (Some (d, a ++ codes ":)")) (cut-some 40 d (a ++ codes ":)") (lacks-sign 40 is_open d clean))
    ∙ ap (option_map (λ a. OfDirectiveArgument d a)) (argument_complete a clean_a)

none_is_none : {A : Type 0} (x : A) → None ≡ Some x → ⊥
none_is_none x h = true≢false (ap (λ o. elim o [ None ↦ true | Some y ↦ false ]) h)

argument_joins : (t a : List ℕ) → argument_cut t ≡ Some a → t ≡ a ++ codes ":)"
argument_joins t a h = by (cut_at 58 t) refl h
  where
    tested : (p : List ℕ × List ℕ) (b : Bool) → cut_at 58 t ≡ Some p → bytes_eq p.1 (codes ")") ≡ b → (if b then Some p.0 else None) ≡ Some a → t ≡ a ++ codes ":)"
    tested p true e q k = cut-joins 58 t p.0 p.1 e ∙ ap (λ r. p.0 ++ 58 ∷ r) ((bytes_eq-Decides p.1 (codes ")")).0 q) ∙ ap (λ x. x ++ codes ":)") (same_Some _ _ k)
    tested p false e q k = absurd (none_is_none a k)

    by : (o : Option (List ℕ × List ℕ)) → cut_at 58 t ≡ o → option_and_then (λ (p : List ℕ × List ℕ). if bytes_eq p.1 (codes ")") then Some p.0 else None) o ≡ Some a → t ≡ a ++ codes ":)"
    by None e k = absurd (none_is_none a k)
    by (Some p) e k = tested p (bytes_eq p.1 (codes ")")) e refl k

type_joins : (t : List ℕ) (c : Coordinate) → type_cut t ≡ Some c → printed c ≡ t
type_joins t c h = by (cut_at 46 t) refl (sym (type_cut-by t (cut_at 46 t) refl) ∙ h)
  where
    with_argument : (p q : List ℕ × List ℕ) (o : Option (List ℕ)) → t ≡ p.0 ++ 46 ∷ p.1 → p.1 ≡ q.0 ++ 40 ∷ q.1 → argument_cut q.1 ≡ o → option_map (λ a. OfArgument p.0 q.0 a) o ≡ Some c → printed c ≡ t
    with_argument p q None e f g k = absurd (none_is_none c k)
    with_argument p q (Some a) e f g k = sym (ap printed (same_Some _ _ k)) ∙ sym (e ∙ ap (λ r. p.0 ++ 46 ∷ r) (f ∙ ap (λ r. q.0 ++ 40 ∷ r) (argument_joins q.1 a g)))

    attribute : (p : List ℕ × List ℕ) (o : Option (List ℕ × List ℕ)) → t ≡ p.0 ++ 46 ∷ p.1 → cut_at 40 p.1 ≡ o → cut_attribute p o ≡ Some c → printed c ≡ t
    attribute p None e f k = sym (ap printed (same_Some _ _ k)) ∙ sym e
    attribute p (Some q) e f k = with_argument p q (argument_cut q.1) e (cut-joins 40 p.1 q.0 q.1 f) refl k

    by : (o : Option (List ℕ × List ℕ)) → cut_at 46 t ≡ o → cut_type t o ≡ Some c → printed c ≡ t
    by None e k = sym (ap printed (same_Some _ _ k))
    by (Some p) e k = attribute p (cut_at 40 p.1) (cut-joins 46 t p.0 p.1 e) refl k

directive_joins : (t : List ℕ) (c : Coordinate) → directive_cut t ≡ Some c → printed c ≡ 64 ∷ t
directive_joins t c h = by (cut_at 40 t) refl (sym (directive_cut-by t (cut_at 40 t) refl) ∙ h)
  where
    with_argument : (p : List ℕ × List ℕ) (o : Option (List ℕ)) → t ≡ p.0 ++ 40 ∷ p.1 → argument_cut p.1 ≡ o → option_map (λ a. OfDirectiveArgument p.0 a) o ≡ Some c → printed c ≡ 64 ∷ t
    with_argument p None e g k = absurd (none_is_none c k)
    with_argument p (Some a) e g k = sym (ap printed (same_Some _ _ k)) ∙ sym (ap (λ r. 64 ∷ r) (e ∙ ap (λ r. p.0 ++ 40 ∷ r) (argument_joins p.1 a g)))

    by : (o : Option (List ℕ × List ℕ)) → cut_at 40 t ≡ o → cut_directive t o ≡ Some c → printed c ≡ 64 ∷ t
    by None e k = sym (ap printed (same_Some _ _ k))
    by (Some p) e k = with_argument p (argument_cut p.1) (cut-joins 40 t p.0 p.1 e) refl k

cut_sound : (t : List ℕ) (c : Coordinate) → all_cut t ≡ Some c → printed c ≡ t
cut_sound [] c h = type_joins [] c h
cut_sound (x ∷ xs) c h = by (x == 64) refl h
  where
    by : (b : Bool) → (x == 64) ≡ b → (if b then directive_cut xs else type_cut (x ∷ xs)) ≡ Some c → printed c ≡ x ∷ xs
    by true e k = let is : 64 ≡ x = grind (arith, e) in directive_joins xs c k ∙ ap (λ y. y ∷ xs) is
    by false e k = type_joins (x ∷ xs) c k

abbrev signless : Coordinate → Option Coordinate
signless c = if is_signless c then Some c else None

pub read_complete : (text : List ℕ) (c : Coordinate) → HasForm text c → read text ≡ Some c
read_complete text c h = ap (λ t. read t) (sym h.0) ∙ ap (option_and_then signless) (cut_complete c h.1) ∙ ap (λ b. if b then Some c else None) h.1

pub read_sound : (text : List ℕ) (c : Coordinate) → read text ≡ Some c → HasForm text c
read_sound text c h = by (all_cut text) refl h
  where
    tested : (d : Coordinate) (b : Bool) → all_cut text ≡ Some d → is_signless d ≡ b → (if b then Some d else None) ≡ Some c → HasForm text c
    tested d true e s k = subst (HasForm text) (same_Some _ _ k) (cut_sound text d e, s)
    tested d false e s k = absurd (none_is_none c k)

    by : (o : Option Coordinate) → all_cut text ≡ o → option_and_then signless o ≡ Some c → HasForm text c
    by None e k = absurd (none_is_none c k)
    by (Some d) e k = tested d (is_signless d) e refl k

-- the error of the parts is that of the text
pub parts_error : (form : Coordinate → Bool) (text : List ℕ) (c : Coordinate) (e : SchemaCoordinateParseError) → form c ≡ true → HasForm text c → PartsErrorIsDue (parts c) e → ParseErrorIsDue form text e
parts_error form text c InvalidFormat f h due = absurd due
parts_error form text c (InvalidName e) f h due = (c, (f, (h, due)))
parts_error form text c Memory f h due = (c, (f, (h, due)))

-- parts of another form
pub not_type_form : (p : Parts) → ((t : Bor (List ℕ)) → p ≡ rust.Type t → ⊥) → type_form (parts_view p) ≡ false
not_type_form (rust.Type t) n = absurd (n t refl)
not_type_form (rust.TypeAttribute t a) n = refl
not_type_form (rust.FieldArgument t f a) n = refl
not_type_form (rust.Directive d) n = refl
not_type_form (rust.DirectiveArgument d a) n = refl

pub not_attribute_form : (p : Parts) → ((t a : Bor (List ℕ)) → p ≡ rust.TypeAttribute t a → ⊥) → attribute_form (parts_view p) ≡ false
not_attribute_form (rust.Type t) n = refl
not_attribute_form (rust.TypeAttribute t a) n = absurd (n t a refl)
not_attribute_form (rust.FieldArgument t f a) n = refl
not_attribute_form (rust.Directive d) n = refl
not_attribute_form (rust.DirectiveArgument d a) n = refl

pub not_argument_form : (p : Parts) → ((t f a : Bor (List ℕ)) → p ≡ rust.FieldArgument t f a → ⊥) → argument_form (parts_view p) ≡ false
not_argument_form (rust.Type t) n = refl
not_argument_form (rust.TypeAttribute t a) n = refl
not_argument_form (rust.FieldArgument t f a) n = absurd (n t f a refl)
not_argument_form (rust.Directive d) n = refl
not_argument_form (rust.DirectiveArgument d a) n = refl

pub not_directive_form : (p : Parts) → ((d : Bor (List ℕ)) → p ≡ rust.Directive d → ⊥) → directive_form (parts_view p) ≡ false
not_directive_form (rust.Type t) n = refl
not_directive_form (rust.TypeAttribute t a) n = refl
not_directive_form (rust.FieldArgument t f a) n = refl
not_directive_form (rust.Directive d) n = absurd (n d refl)
not_directive_form (rust.DirectiveArgument d a) n = refl

pub not_directive_argument_form : (p : Parts) → ((d a : Bor (List ℕ)) → p ≡ rust.DirectiveArgument d a → ⊥) → directive_argument_form (parts_view p) ≡ false
not_directive_argument_form (rust.Type t) n = refl
not_directive_argument_form (rust.TypeAttribute t a) n = refl
not_directive_argument_form (rust.FieldArgument t f a) n = refl
not_directive_argument_form (rust.Directive d) n = refl
not_directive_argument_form (rust.DirectiveArgument d a) n = absurd (n d a refl)

-- where a coordinate of another form is written, none of the form is
pub missing : (form : Coordinate → Bool) (text : List ℕ) (c : Coordinate) → read text ≡ Some c → form c ≡ false → ParseErrorIsDue form text InvalidFormat
missing form text c h f d g has = true≢false (sym g ∙ ap form (same_Some _ _ (sym (read_complete text d has) ∙ h)) ∙ f)

-- where none is written, none of the form is
pub unread : (form : Coordinate → Bool) (text : List ℕ) → read text ≡ None → ParseErrorIsDue form text InvalidFormat
unread form text h c f has = none_is_none c (sym h ∙ read_complete text c has)

-- a text that does not begin with `@`
pub all_cut-type : (t : List ℕ) → ((rest : List ℕ) → t ≢ 64 ∷ rest) → all_cut t ≡ type_cut t
all_cut-type [] h = refl
all_cut-type (c ∷ cs) h = ap (λ b. if b then directive_cut cs else type_cut (c ∷ cs)) (ne_eqb c 64 (λ e. h cs (ap (λ x. x ∷ cs) e)))

abbrev pub stripped_cut : List ℕ → Option (Bor (List ℕ)) → Option Coordinate
stripped_cut t None = type_cut t
stripped_cut t (Some rest) = directive_cut rest.now

-- what is read, by whether `strip_prefix` finds `@`
pub stripped : (t : List ℕ) (r : Option (Bor (List ℕ))) → MatchOption r ((rest : List ℕ) → t ≢ 64 ∷ rest) (λ x. t ≡ 64 ∷ x.now) → all_cut t ≡ stripped_cut t r
stripped t None h = all_cut-type t h
stripped t (Some rest) h = ap all_cut h
