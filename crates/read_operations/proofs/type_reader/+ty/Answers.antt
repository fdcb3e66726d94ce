use Rattle.std.proofs.Common.{◌≡◌, true, false, rules, ap, ◌∙◌}
use Rattle.std.proofs.lemmas.Result.{err_from_is_err_and}
use Rattle.tree_literals.specs.TypeTree.{type_tree}
use Rattle.read_tokens.specs.Input.{next}
use Rattle.read_grammar.specs.Kinds.{next_is, is_bang}
use Rattle.read_operations.specs.Meanings.{in_file}
use Rattle.read_operations.proofs.Types.{type_is, type_plain, type_marked}
use Rattle.read_operations.proofs.type_reader.+ty.Goals as goal

pub ty-returns-in_err-found : goal.ty-returns-in_err-found
ty-returns-in_err-found t c = rw (type_is (in_file c.args.file) c.args.depth c.args.tokens.now) (search rules)

pub ty-returns-then-not-next_is : goal.ty-returns-then-not-next_is
ty-returns-then-not-next_is t c =
    let plain : next_is is_bang (next c.unmarked.new.tokens) ≡ false = cc in
    type_plain (in_file c.args.file) c.args.depth c.args.tokens.now c.unmarked.new.tokens (type_tree c.in_ok-found.found) c.in_ok-found.ensures plain

pub ty-returns : goal.ty-returns
ty-returns t c =
    let marked : next_is is_bang (next c.unmarked.new.tokens) ≡ true = cc in
    rw c.skip.ensures.following
    (type_marked (in_file c.args.file) c.args.depth c.args.tokens.now c.unmarked.new.tokens (type_tree c.in_ok-found.found) (type_tree c.non_null.result) c.in_ok-found.ensures marked c.non_null.ensures)
