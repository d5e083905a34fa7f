use Rattle.std.proofs.Common.{rules}
use Rattle.office.proofs.WishLemmas.{unwished_if, wished_if}
use Rattle.office.proofs.office.Office.wish.Goals as goal

pub returns-clause-wished : goal.returns-clause-wished
returns-clause-wished g c = wished_if c.wish-result.result c.deref_mut.result.now c.wish-result.new.self c.args.b c.args.warning c.args.after (search rules) (search rules) c.wish-result.ensures.wished c.wish-result.ensures.kept

pub returns-clause-refused : goal.returns-clause-refused
returns-clause-refused g c = unwished_if c.wish-result.result c.deref_mut.result.now.centre c.deref_mut.result.now.wishes c.args.b c.args.warning (search rules) (search rules) c.wish-result.ensures.refused
