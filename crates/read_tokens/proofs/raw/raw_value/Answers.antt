use Rattle.std.proofs.Common.{ℕ, List, [], ◌++◌, take, sym, ap, ◌∙◌, arith}
use Rattle.std.specs.String.{string_bytes}
use Rattle.read_tokens.specs.Blocks.{block_character_at}
use Rattle.read_tokens.proofs.Values.{block_keeps, character_ends}
use Rattle.read_tokens.proofs.Pieces.{Begins, plain_of, plain_utf8, plain_begins, plain_within, plain_so_far, piece_utf8, piece_shorter, piece_so_far, begins_now, so_far_end}
use Rattle.read_tokens.proofs.raw.raw_value.Goals as goal

pub characters-init : goal.characters-init
characters-init c = record {
  text = plain_utf8 c.args.text.now c.in_ok-rest.rest.now c.in_ok-rest.ensures.rest c.utf8.text;
  so_far = plain_so_far block_character_at block_keeps [] (string_bytes c.push_plain.new.out) c.args.text.now c.in_ok-rest.rest.now (c.in_ok-rest.ensures.pushed ∙ ap (λ (bytes : List ℕ). bytes ++ take (plain_of c.args.text.now) c.args.text.now) c.in_ok-out.ensures.bytes) c.in_ok-rest.ensures.rest;
  begins = plain_begins c.args.text.now c.in_ok-rest.rest.now c.in_ok-rest.ensures.rest;
}

pub characters-smaller : goal.characters-smaller
characters-smaller c =
    let begins : Begins c.characters.rest.now = begins_now c.characters.rest.now c.characters.invariant.begins (sym c.is_empty.ensures ∙ c.characters-test.true) in
    let less = piece_shorter block_character_at character_ends c.characters.rest.now c.in_ok-following.following.now begins c.in_ok-following.ensures.rest in
    let within = plain_within c.in_ok-following.following.now c.in_ok-next.next.now c.in_ok-next.ensures.rest in
    omega arith

pub characters-preserved : goal.characters-preserved
characters-preserved c =
    let begins : Begins c.characters.rest.now = begins_now c.characters.rest.now c.characters.invariant.begins (sym c.is_empty.ensures ∙ c.characters-test.true) in
    let utf8 = piece_utf8 block_character_at character_ends c.characters.rest.now c.in_ok-following.following.now begins c.in_ok-following.ensures.rest c.characters.invariant.text in
    let one = piece_so_far block_character_at character_ends (string_bytes c.characters.out) (string_bytes c.push_character.new.out) c.characters.rest.now c.in_ok-following.following.now begins c.in_ok-following.ensures.pushed c.in_ok-following.ensures.rest in
    let two = plain_so_far block_character_at block_keeps (string_bytes c.push_character.new.out) (string_bytes c.push_plain-in-characters.new.out) c.in_ok-following.following.now c.in_ok-next.next.now c.in_ok-next.ensures.pushed c.in_ok-next.ensures.rest in
    record {
      text = plain_utf8 c.in_ok-following.following.now c.in_ok-next.next.now c.in_ok-next.ensures.rest utf8;
      so_far = two ∙ one ∙ c.characters.invariant.so_far;
      begins = plain_begins c.in_ok-following.following.now c.in_ok-next.next.now c.in_ok-next.ensures.rest;
    }

pub returns : goal.returns
returns c = so_far_end block_character_at (string_bytes c.characters.out) _ c.characters.rest.now (sym c.is_empty.ensures ∙ c.characters-test.false) c.characters.invariant.so_far
