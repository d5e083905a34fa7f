use Rattle.centre_past.proofs.CopyLemmas.{copy_metered, original_kept}
use Rattle.centre_core.proofs.base.Base.copied.Goals as goal

pub returns-clause-copy : goal.returns-clause-copy
returns-clause-copy c = rw (← c.self.view_is) c.copied.ensures.kept

pub returns-clause-base : goal.returns-clause-base
returns-clause-base c = rw (← c.self.view_is) (λ past. original_kept past c.self.inside.kept c.copied.new.self c.copied.result c.copied.ensures.reads c.copied.ensures.unchanged)

pub returns-clause-meter : goal.returns-clause-meter
returns-clause-meter c = copy_metered c.copied.new.self c.copied.result c.copied.ensures.copy
