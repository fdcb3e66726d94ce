-- A part of a shared text.
use Rattle.std.specs.Prelude.{ℕ, List, slice_range}
use Rattle.std.specs.Rc.{rc_str_bytes}
use Rattle.std.specs.Str.{IsUtf8}
use Rattle.std.proofs.Math.Logic.{∥∥₁_map}
use Rattle.std.proofs.lemmas.Str.{IsUtf8-between}
use Rattle.graphql_names.specs.declared.text_part.TextPart.{TextPart}

-- the bytes of the whole text from where the part begins up to where it ends
abbrev pub part_bytes : TextPart → List ℕ
part_bytes p = slice_range (rc_str_bytes p.whole) p.start p.end

-- they are UTF-8, as the whole is, which is cut between characters alone
pub part_utf8 : (p : TextPart) → ∥ IsUtf8 (part_bytes p) ∥₁
part_utf8 p = ∥∥₁_map p.whole.text.value.ok (λ utf8. IsUtf8-between (rc_str_bytes p.whole) p.start p.end utf8 p.ordered p.begins p.ends)
