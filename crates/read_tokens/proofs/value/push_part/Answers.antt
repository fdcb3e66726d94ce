use Rattle.std.proofs.Common.{List, ℕ, sym, ap, ◌∙◌, subst, IsCharBoundary}
use Rattle.read_tokens.specs.Strings.{part_at}
use Rattle.read_tokens.proofs.Values.{part_boundary}
use Rattle.read_tokens.proofs.value.push_part.Goals as goal

pub split_at-requires : goal.split_at-requires
split_at-requires c =
    subst (λ (n : ℕ). IsCharBoundary c.args.text.now n) (sym (c.part_at-character.ensures.length ∙ ap (λ (bytes : List ℕ). (part_at bytes).1) c.as_bytes.ensures.value))
    (part_boundary c.args.text.now c.requires c.utf8.text)
