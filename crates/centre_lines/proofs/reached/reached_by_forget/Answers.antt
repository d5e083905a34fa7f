use Rattle.std.proofs.Common.{refl, ◌∙◌, ap, subst}
use Rattle.std.specs.List.{flat_map}
use Rattle.coverage_plan.specs.Plan.{State}
use Rattle.coverage_plan.specs.declared.edit.Edit.TheVariants as edit
use Rattle.centre_lines.specs.Following.{before_unless}
use Rattle.centre_past.specs.Idle.{AsBefore}
use Rattle.centre_past.specs.Reaching.{TellsLines}
use Rattle.centre_lines.proofs.ForgottenLemmas.{forgotten_few, forgotten_read, forgotten_was_reached}
use Rattle.centre_lines.proofs.BeforeLemmas.{reads_as}
use Rattle.centre_lines.proofs.reached.reached_by_forget.Goals as goal

pub returns-in_err-earlier-clause-reads : goal.returns-in_err-earlier-clause-reads
returns-in_err-earlier-clause-reads c =
    let told : AsBefore c.args.kept.now.tables c.places_of.new.self = record { lines = c.places_of.ensures.lines; downs = c.places_of.ensures.downs; same = c.places_of.ensures.same; meter = c.places_of.ensures.least } in
    record { plan = refl; links = refl; tables = reads_as c.args.kept.now.tables c.read_keys.new.tables (c.read_keys.ensures.kept c.args.kept.now.tables told) }

pub returns-clause-reads : goal.returns-clause-reads
returns-clause-reads c =
    let told : AsBefore c.args.kept.now.tables c.places_of.new.self = record { lines = c.places_of.ensures.lines; downs = c.places_of.ensures.downs; same = c.places_of.ensures.same; meter = c.places_of.ensures.least } in
    record { plan = refl; links = refl; tables = reads_as c.args.kept.now.tables c.read_keys.new.tables (c.read_keys.ensures.kept c.args.kept.now.tables told) }

pub returns-in_err-earlier-clause-meter : goal.returns-in_err-earlier-clause-meter
returns-in_err-earlier-clause-meter c = λ settings past a legal kept accepted.
    rw (c.requires)
    (forgotten_read settings past c.args.kept.now c.args.n c.places_of.new.self.lines.meter c.read_keys.new.tables.lines.meter legal kept (subst TellsLines c.lines.ensures c.tell_lines.ensures) c.in_ok-keys.keys.items c.as_slice.result.now c.as_slice.ensures.value c.in_ok-keys.ensures.few c.in_ok-keys.ensures.most c.read_keys.ensures.meter)

pub returns-clause-meter : goal.returns-clause-meter
returns-clause-meter c = λ settings past a legal kept accepted.
    rw (c.requires)
    (forgotten_read settings past c.args.kept.now c.args.n c.places_of.new.self.lines.meter c.read_keys.new.tables.lines.meter legal kept (subst TellsLines c.lines.ensures c.tell_lines.ensures) c.in_ok-keys.keys.items c.as_slice.result.now c.as_slice.ensures.value c.in_ok-keys.ensures.few c.in_ok-keys.ensures.most c.read_keys.ensures.meter)

pub returns-clause-reached : goal.returns-clause-reached
returns-clause-reached c = λ settings past a legal kept accepted.
    let told : AsBefore c.args.kept.now.tables c.places_of.new.self = record { lines = c.places_of.ensures.lines; downs = c.places_of.ensures.downs; same = c.places_of.ensures.same; meter = c.places_of.ensures.least } in
    rw (c.requires, c.new.ensures.items)
    (forgotten_was_reached past c.args.kept.now c.args.n a c.in_ok-keys.keys.items c.in_ok-earlier.earlier.items kept c.in_ok-keys.ensures.which c.in_ok-keys.ensures.order
    (forgotten_few settings past c.args.kept.now c.args.n legal kept (subst TellsLines c.lines.ensures c.tell_lines.ensures) c.in_ok-keys.keys.items c.in_ok-keys.ensures.few)
    (rw (c.requires) at (c.in_ok-earlier.ensures.earlier c.args.kept.now.tables told)
    ∙ ap (λ (p : State). flat_map (before_unless (edit.Forget c.args.n) p c.args.kept.now.tables) c.as_slice.result.now) c.new-plan.ensures
    ∙ ap (flat_map (before_unless (edit.Forget c.args.n) c.args.kept.now.plan c.args.kept.now.tables)) c.as_slice.ensures.value))
