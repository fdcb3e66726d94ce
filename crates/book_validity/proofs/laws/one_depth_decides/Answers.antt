use Rattle.std.proofs.Common.{suc}
use Rattle.book_validity.proofs.Depths.{depth_decides}
use Rattle.book_validity.proofs.laws.one_depth_decides.Goals as goal

pub returns : goal.returns
returns c s d set depth ends = (λ can. can (suc depth), λ can. depth_decides s d set depth ends can)
