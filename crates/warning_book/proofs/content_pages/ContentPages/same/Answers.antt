use Rattle.std.specs.Cmp.Lexicographic.{pointwise_decides}
use Rattle.std.proofs.lemmas.Slice.Eq.{bytes_eq-Decides}
use Rattle.common.specs.Equality.{answered}
use Rattle.warning_book.proofs.content_pages.ContentPages.same.Goals as goal

pub returns : goal.returns
returns c = answered c.eq.ensures (pointwise_decides bytes_eq-Decides c.args.self.now c.args.other.now)
