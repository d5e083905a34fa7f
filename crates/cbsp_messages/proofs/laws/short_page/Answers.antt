use Rattle.std.proofs.Common.{refl}
use Rattle.std.proofs.lemmas.List.{take_all}
use Rattle.cbsp_messages.proofs.laws.short_page.Goals as goal

pub returns : goal.returns
returns c content few = rw (take_all 82 content few) refl
