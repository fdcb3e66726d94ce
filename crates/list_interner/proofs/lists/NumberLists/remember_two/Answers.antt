use Rattle.std.proofs.Common.{map}
use Rattle.list_interner.specs.NumberPairs.{pairs_kept}
use Rattle.list_interner.proofs.Rising.{items_of}
use Rattle.list_interner.proofs.Rows.{kept_ordered}
use Rattle.list_interner.proofs.Kept.{all_long, two_kept, two_refused}
use Rattle.list_interner.proofs.lists.NumberLists.remember_two.Goals as goal

pub returns-clause-keeps : goal.returns-clause-keeps
returns-clause-keeps c =
    let old = c.args.self.now in
    two_kept c.remember.result (pairs_kept old.pairs) (pairs_kept c.remember.new.self) (map items_of old.longer.keys) c.args.one c.args.other (kept_ordered old.pairs) (all_long old.longer.keys old.long) c.remember.ensures.keeps

pub returns-clause-refused : goal.returns-clause-refused
returns-clause-refused c =
    let old = c.args.self.now in two_refused c.remember.result (pairs_kept old.pairs) (pairs_kept c.remember.new.self) (map items_of old.longer.keys) c.remember.ensures.refused
