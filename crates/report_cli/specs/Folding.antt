-- What is printed of many faults: of those with one message the first five, the last of them with the number of the others.
use Rattle.std.specs.Prelude.{◌≡◌, ℕ, zero, suc, ◌+◌, ◌-◌, Bool, false, ◌&&◌, ◌==◌, nat_lt, List, [], ◌∷◌, ◌++◌, codes, length, min, take, count_by, sum_by, Option, None, Some, option_map, slice_get, string_bytes, if◌then◌else◌}
use Rattle.std.specs.Borrow.{Bor}
use Rattle.std.specs.Option.{unwrap_or}
use Rattle.std.specs.Str.{bytes_eq}
use Rattle.std.specs.HashMap.{HashMap, get_by}
use Rattle.report_forms.specs.declared.position.Position.{Position}
use Rattle.report_forms.specs.declared.entry.Place.{Place}
use Rattle.report_forms.specs.declared.entry.Entry.{Entry}
use Rattle.report_cli.specs.declared.folding.Printed.{Printed}

-- a fault of a value that ends where the last told usage of a variable ends: it is left out
abbrev pub repeats_at : Option Position → Option Place → List ℕ → Bool
repeats_at None place rule = false
repeats_at (Some end) None rule = false
repeats_at (Some end) (Some place) rule = bytes_eq rule (codes "UnsupportedValueType") && (place.end.line == end.line && place.end.column == end.column)

abbrev pub repeats : Option Position → Entry → Bool
repeats usage e = repeats_at usage e.place e.rule.now

-- where the last usage ends, after one more entry
abbrev pub usage_at : Option Position → Option Place → List ℕ → Option Position
usage_at usage None rule = usage
usage_at usage (Some place) rule = if bytes_eq rule (codes "DisallowedVariableUsage") then Some place.end else usage

abbrev pub usage_after : Option Position → Entry → Option Position
usage_after usage e = usage_at usage e.place e.rule.now

-- the message of each entry, and none for what is left out
abbrev pub causes_after : Option Position → List Entry → List (Option (List ℕ))
causes_after usage [] = []
causes_after usage (e ∷ es) = (if repeats usage e then None else Some (string_bytes e.message)) ∷ causes_after (usage_after usage e) es

abbrev pub cause_text : Option (Bor (List ℕ)) → Option (List ℕ)
cause_text = option_map (λ t. t.now)

abbrev pub is_cause : List ℕ → Option (List ℕ) → Bool
is_cause message None = false
is_cause message (Some cause) = bytes_eq message cause

-- how often the message occurs
abbrev pub count_of : List ℕ → List (Option (List ℕ)) → ℕ
count_of message causes = count_by (is_cause message) causes

-- the message of the entry with this index
abbrev pub cause_at : List (Option (List ℕ)) → ℕ → Option (List ℕ)
cause_at causes index = unwrap_or (slice_get causes index) None

-- the count of the message, or 0 if there is none
abbrev pub before_of : (List ℕ → ℕ) → Option (List ℕ) → ℕ
before_of counts None = 0
before_of counts (Some message) = counts message

-- the number of the others, with the last of the first five
abbrev pub more_after : ℕ → ℕ → ℕ
more_after before total = if before == 4 then total - 5 else 0

-- what is printed of an entry, if `before` entries before it have its message
abbrev pub printed_when : (List ℕ → ℕ) → ℕ → ℕ → Option (List ℕ) → List Printed
printed_when totals index before None = []
printed_when totals index before (Some message) = if nat_lt before 5 then record { index = index; more = more_after before (totals message) } ∷ [] else []

-- what is printed of the entry with this index, which has this message; and of the entries before `n`
abbrev pub printed_at : List (Option (List ℕ)) → ℕ → Option (List ℕ) → List Printed
printed_at causes index cause = printed_when (λ m. count_of m causes) index (before_of (λ m. count_of m (take index causes)) cause) cause

abbrev pub printed_up_to : List (Option (List ℕ)) → ℕ → List Printed
printed_up_to causes zero = []
printed_up_to causes (suc n) = printed_up_to causes n ++ printed_at causes n (cause_at causes n)

-- how many entries with the message are printed, and how many are counted as left out
abbrev pub has_cause : List (Option (List ℕ)) → List ℕ → Printed → Bool
has_cause causes message p = is_cause message (cause_at causes p.index)

abbrev pub printed_of : List (Option (List ℕ)) → List ℕ → List Printed → ℕ
printed_of causes message printed = count_by (has_cause causes message) printed

abbrev pub more_of : List (Option (List ℕ)) → List ℕ → List Printed → ℕ
more_of causes message printed = sum_by (λ (p : Printed). if has_cause causes message p then p.more else 0) printed

-- of each message the first five are printed, and the others are counted
pub record IsFolded (causes : List (Option (List ℕ))) (printed : List Printed) : Type 0 where
  pub first : printed ≡ printed_up_to causes (length causes)
  pub five : (message : List ℕ) → printed_of causes message printed ≡ min 5 (count_of message causes)
  pub others : (message : List ℕ) → printed_of causes message printed + more_of causes message printed ≡ count_of message causes

-- how often a map has counted a text
abbrev pub noted : {S : Type 0} → HashMap (Bor (List ℕ)) ℕ S → List ℕ → ℕ
noted counts text = unwrap_or (get_by (λ key. bytes_eq text key.now) counts) 0
