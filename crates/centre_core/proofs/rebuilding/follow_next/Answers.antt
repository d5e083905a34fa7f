use Rattle.std.proofs.Common.{◌∙◌, ◌++◌}
use Rattle.centre_core.proofs.MeterLemmas.{metered_more}
use Rattle.centre_core.proofs.RebuildLemmas.{first_of, follows_here, kept_more, last_of, numbered, something_read}
use Rattle.centre_core.proofs.rebuilding.follow_next.Goals as goal

pub follow-requires : goal.follow-requires
follow-requires c =
    follows_here (c.args.journal.now.folded ++ c.args.journal.now.entries) c.requires.legal c.args.place c.in-Some.entry.now c.args.kept.now (first_of c.args.journal.now.folded c.args.place c.requires.first) (last_of c.args.journal.now.folded c.args.journal.now.entries c.args.place c.requires.last) (c.in-Some.ensures.value ∙ numbered c.args.journal.now.folded c.args.journal.now.entries c.args.place c.requires.first) c.requires.kept

pub returns-in-Some-clause-kept : goal.returns-in-Some-clause-kept
returns-in-Some-clause-kept c =
    kept_more (c.args.journal.now.folded ++ c.args.journal.now.entries) c.requires.legal c.args.place c.in-Some.entry.now c.args.kept.now c.follow.new.kept c.follow.result (first_of c.args.journal.now.folded c.args.place c.requires.first) (last_of c.args.journal.now.folded c.args.journal.now.entries c.args.place c.requires.last) (c.in-Some.ensures.value ∙ numbered c.args.journal.now.folded c.args.journal.now.entries c.args.place c.requires.first) c.requires.kept c.follow.ensures.kept

pub returns-in-None-clause-kept : goal.returns-in-None-clause-kept
returns-in-None-clause-kept c = something_read c.args.journal.now.folded c.args.journal.now.entries c.args.place c.requires.first c.requires.last c.in-None.ensures.value

pub returns-in-Some-clause-meter : goal.returns-in-Some-clause-meter
returns-in-Some-clause-meter c =
    metered_more (c.args.journal.now.folded ++ c.args.journal.now.entries) c.requires.legal c.args.place c.in-Some.entry.now c.args.kept.now c.follow.new.kept c.follow.result (first_of c.args.journal.now.folded c.args.place c.requires.first) (last_of c.args.journal.now.folded c.args.journal.now.entries c.args.place c.requires.last) (c.in-Some.ensures.value ∙ numbered c.args.journal.now.folded c.args.journal.now.entries c.args.place c.requires.first) c.requires.kept c.follow.ensures.meter

pub returns-in-None-clause-meter : goal.returns-in-None-clause-meter
returns-in-None-clause-meter c = something_read c.args.journal.now.folded c.args.journal.now.entries c.args.place c.requires.first c.requires.last c.in-None.ensures.value
