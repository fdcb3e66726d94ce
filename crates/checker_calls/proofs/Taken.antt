-- From what was taken under each name to settings as the matches give them.
use Rattle.std.proofs.Common.{ℕ, ◌≡◌, ◌∙◌, ◌<◌, ◌≤◌, true, refl, sym, ap, subst, List, [], ◌∷◌, map, length, Option, Some, None, is_some, Result, Ok, Err, IfOk, inl, codes, arith}
use Rattle.std.specs.Prelude.{IsErrAnd, option_map, slice_get, string_bytes, unwrap_or, MatchOption}
use Rattle.std.specs.Borrow.{Bor}
use Rattle.std.specs.Str.Parse.{digits_value, without_leading_plus}
use Rattle.std.proofs.lemmas.List.{length-map}
use Rattle.clap.specs.Matches.{first_value, matched_of, one_text, raw_values}
use Rattle.clap.specs.Values.{IsUnsignedIn, kind_of}
use Rattle.clap.specs.Kinds.{FailsBy, Kinds}
use Rattle.clap.specs.declared.error.Error.{Error}
use Rattle.clap.specs.declared.error.kind.ErrorKind.TheVariants.{OutOfMemory}
use Rattle.clap.specs.Walk.{Row, all_of, first_of, one_of, rows_of}
use Rattle.clap.specs.declared.parser.matches.Found.{Found}
use Rattle.clap.specs.declared.parser.matches.MatchedArg.{MatchedArg}
use Rattle.clap.specs.declared.builder.value_parser.ValueParser.{ValueParser}
use Rattle.clap.specs.declared.builder.value_parser.ValueParser.TheVariants.{Names}
use Rattle.clap.proofs.WalkLemmas.{first_value-rows, one_text-rows, raw_values-rows}
use Rattle.checker_calls.specs.Program.{AreLayoutNames}
use Rattle.checker_calls.specs.ReadSettings.{IsReadOf, IsTakenFrom, prefix_named}
use Rattle.checker_calls.specs.declared.settings.Settings.{Settings}

-- a reference to a text or to texts
refer : {X : Type 0} → X → Bor X
refer x = record { ref_ptr = (0, 0); now = x }

-- some names of layouts, for when memory runs out before the program's own are there
pub some_names : (names : ValueParser) × AreLayoutNames names
unfolding refer
some_names = (
  Names (refer (refer (codes "line") ∷ refer (codes "two") ∷ refer (codes "four") ∷ refer (codes "tab") ∷ [])),
  (refer (refer (codes "line") ∷ refer (codes "two") ∷ refer (codes "four") ∷ refer (codes "tab") ∷ []), refl, refl),
)

-- out of memory may be the error whatever the words are
pub memory_out : (r : Result Settings Error) (kinds : Kinds) (P : Settings → Type 0) → IsErrAnd r (λ e. kind_of e ≡ OutOfMemory) → FailsBy kinds r × IfOk r P
memory_out (Ok s) kinds P h = absurd h
memory_out (Err e) kinds P h = (inl h, tt)

unwrapped : {X : Type 0} (o : Option X) (x : X) → is_some o ≡ true → o ≡ Some (unwrap_or o x)
unwrapped None x e = cc
unwrapped (Some y) x e = refl

first_of_some : (o : Option MatchedArg) → (vs : List (Bor (List ℕ))) → is_some (option_map (λ v. v.now) (slice_get vs 0)) ≡ true → 0 < length (map (λ v. v.now) vs)
first_of_some o [] e = cc
first_of_some o (v ∷ vs) e = omega arith

-- where a name has a first value, it has values
all_there : (f : Found) (id : List ℕ) → is_some (first_value f id) ≡ true
    → (is_some (option_map raw_values (matched_of f id)) ≡ true) × (0 < length (unwrap_or (option_map raw_values (matched_of f id)) []))
all_there f id some = go (matched_of f id) refl some
  where
    go : (o : Option MatchedArg) → matched_of f id ≡ o → is_some (first_value f id) ≡ true
        → (is_some (option_map raw_values (matched_of f id)) ≡ true) × (0 < length (unwrap_or (option_map raw_values (matched_of f id)) []))
    go None e h = cc
    go (Some x) e h = rw e (refl, first_of_some (Some x) x.vals.items (rw e at h))

pub some_schemas : (f : Found) (s : Settings) → IsTakenFrom f s → is_some (first_value f (codes "SCHEMA")) ≡ true → 0 < length s.schemas.items
some_schemas f s taken some =
    let there = (all_there f (codes "SCHEMA") some).1 in
    let as_many : length (map string_bytes s.schemas.items) ≡ length (unwrap_or (option_map raw_values (matched_of f (codes "SCHEMA"))) []) = ap length taken.schemas in
    omega (arith, length-map s.schemas.items string_bytes)

pub nesting_in_range : (f : Found) (s : Settings) → IsTakenFrom f s
    → ((t : List ℕ) → one_text f (codes "nesting") ≡ Some t → IsUnsignedIn 1 1000 t) → (1 ≤ s.nesting) × (s.nesting ≤ 1000)
nesting_in_range f s taken accepted = go (one_text f (codes "nesting")) refl
  where
    go : (o : Option (List ℕ)) → one_text f (codes "nesting") ≡ o → (1 ≤ s.nesting) × (s.nesting ≤ 1000)
    go None e = let n = taken.no_nesting e in (omega arith, omega arith)
    go (Some t) e =
        let number = accepted t e in
        let n = taken.nesting t e number in
        (omega (arith, number.2), omega (arith, number.3))

pub read_of : (f : Found) (s : Settings) (rows : List Row) → rows_of f ≡ rows → IsTakenFrom f s → is_some (first_value f (codes "DOCUMENT")) ≡ true
    → is_some (first_value f (codes "SCHEMA")) ≡ true → ((t : List ℕ) → one_text f (codes "nesting") ≡ Some t → IsUnsignedIn 1 1000 t) → IsReadOf rows s
read_of f s rows are taken document schemas accepted = record {
  document = sym (ap (first_of (codes "DOCUMENT")) are) ∙ (sym (first_value-rows f (codes "DOCUMENT"))
      ∙ (unwrapped (first_value f (codes "DOCUMENT")) [] document ∙ ap Some (sym taken.document)));
  schemas = sym (ap (all_of (codes "SCHEMA")) are) ∙ (sym (raw_values-rows f (codes "SCHEMA"))
      ∙ (unwrapped (option_map raw_values (matched_of f (codes "SCHEMA"))) [] (all_there f (codes "SCHEMA") schemas).0 ∙ ap Some (sym taken.schemas)));
  layout = taken.layout ∙ ap prefix_named (first_value-rows f (codes "indent") ∙ ap (first_of (codes "indent")) are);
  nesting = subst (λ (o : Option (List ℕ)). MatchOption o (s.nesting ≡ 500) (λ t. s.nesting ≡ digits_value 10 (without_leading_plus t)))
      (one_text-rows f (codes "nesting") ∙ ap (one_of (codes "nesting")) are) (go (one_text f (codes "nesting")) refl);
}
  where
    go : (o : Option (List ℕ)) → one_text f (codes "nesting") ≡ o → MatchOption o (s.nesting ≡ 500) (λ t. s.nesting ≡ digits_value 10 (without_leading_plus t))
    go None e = taken.no_nesting e
    go (Some t) e = taken.nesting t e (accepted t e)
