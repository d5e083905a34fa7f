use Rattle.std.proofs.Common.{rules}
use Rattle.office.proofs.OwnWishLemmas.{busy_if, own_wish_if}
use Rattle.office.proofs.WishLemmas.{unwished_if}
use Rattle.office.proofs.office.Office.wish_if_idle.Goals as goal

pub returns-clause-wished : goal.returns-clause-wished
returns-clause-wished g c = own_wish_if c.wish_if_idle-result.result c.deref_mut.result.now c.wish_if_idle-result.new.self c.args.b c.args.warning c.args.after (search rules) (search rules) c.wish_if_idle-result.ensures.can c.wish_if_idle-result.ensures.idle c.wish_if_idle-result.ensures.kept

pub returns-clause-busy : goal.returns-clause-busy
returns-clause-busy g c = busy_if c.wish_if_idle-result.result c.deref_mut.result.now c.args.b (search rules) (search rules) c.wish_if_idle-result.ensures.idle

pub returns-clause-refused : goal.returns-clause-refused
returns-clause-refused g c = unwished_if c.wish_if_idle-result.result c.deref_mut.result.now.centre c.deref_mut.result.now.wishes c.args.b c.args.warning (search rules) (search rules) c.wish_if_idle-result.ensures.refused
