-- The kinds of texts that names have.
use Rattle.std.specs.Prelude.{ℕ, ◌≡◌, List, Bool, true, false, Option, Some, None}
use Rattle.std.specs.Borrow.{Bor}
use Rattle.std.specs.Rc.{rc_str_bytes}
use Rattle.std.specs.declared.rc.RcStr.{RcStr}
use Rattle.graphql_names.specs.declared.name_text.NameText.{NameText}
use Rattle.graphql_names.specs.declared.name_text.NameText.TheVariants.{Shared, Part, Static}
use Rattle.graphql_names.specs.TextPart.{part_bytes}

-- the bytes of a text of each kind
abbrev pub text_bytes : NameText → List ℕ
text_bytes (Shared s) = rc_str_bytes s
text_bytes (Part p) = part_bytes p
text_bytes (Static s) = s.now

-- whether a text is static
abbrev pub text_is_static : NameText → Bool
text_is_static (Shared s) = false
text_is_static (Part p) = false
text_is_static (Static s) = true

-- what `as_static_str` answers: the text if the name is static, else `None`
abbrev pub static_answer : Bool → List ℕ → Option (Bor (List ℕ)) → Type 0
static_answer true text None = ⊥
static_answer true text (Some s) = s.now ≡ text
static_answer false text answer = answer ≡ None

-- what `to_cloned_arc` answers: `None` if the name is static, else the text
abbrev pub shared_answer : {A : Type 0} → Bool → List ℕ → Option (RcStr A) → Type 0
shared_answer true text answer = answer ≡ None
shared_answer false text None = ⊥
shared_answer false text (Some s) = rc_str_bytes s ≡ text
