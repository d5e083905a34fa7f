use Rattle.std.proofs.Common.{◌≡◌, ◌<◌, ◌≤◌, ◌+◌, ◌-◌, ◌∙◌, ap, sym, refl, length, arith, rules}
use Rattle.centre_core.specs.Journal.{JournalState, counted_by}
use Rattle.centre_events.specs.Past.{past_of}
use Rattle.centre_core.proofs.JournalLemmas.{read_at_most, read_more, unread_at_most}
use Rattle.centre_core.proofs.RebuildLemmas.{kept_before, kept_first, kept_further, metered_first, metered_last, metered_more}
use Rattle.centre_core.proofs.rebuilding.kept_of.Goals as goal

pub follow_next-requires-clause-kept : goal.follow_next-requires-clause-kept
follow_next-requires-clause-kept c =
    kept_before c.args.journal.now.folded c.args.journal.now.entries c.loop-done.journal.folded c.loop-done.journal.entries c.loop-done.done c.loop-done.kept c.loop-done.invariant.folded c.loop-done.invariant.same c.loop-done.invariant.kept

pub returns-in_err-kept-clause-most : goal.returns-in_err-kept-clause-most
returns-in_err-kept-clause-most c =
    unread_at_most c.from_residual.result (length c.args.journal.now.entries) c.args.journal.now.reads

pub loop-done-init : goal.loop-done-init
loop-done-init c = record {
  folded = refl;
  same = refl;
  counted =
      let none : c.folded-done.result - length c.args.journal.now.folded ≡ 0 = omega (arith, c.folded-done.ensures) in
      ap (λ k. counted_by k c.args.journal.now.reads) (sym none);
  kept = kept_first c.args.journal.now.folded c.args.journal.now.entries c.folded-done.result c.in_ok-kept.kept c.folded-done.ensures (c.in_ok-kept.ensures.copy (past_of c.args.journal.now.folded) c.requires.base);
  metered = metered_first c.args.journal.now.folded c.args.journal.now.entries c.folded-done.result c.copied.new.self.kept.tables.lines.meter c.in_ok-kept.kept.tables.lines.meter c.folded-done.ensures c.in_ok-kept.ensures.meter;
}

pub returns-in_err-follow_next-clause-most : goal.returns-in_err-follow_next-clause-most
returns-in_err-follow_next-clause-most c =
    let within : c.loop-done.done - length c.args.journal.now.folded < length c.args.journal.now.entries = search rules in
    read_at_most c.from_residual-in_err-follow_next.result (c.loop-done.done - length c.args.journal.now.folded) (length c.args.journal.now.entries) c.args.journal.now.reads c.loop-done.journal.reads c.follow_next.new.journal.reads within c.loop-done.invariant.counted (ap (λ (j : JournalState). j.reads) c.follow_next.ensures.read)

pub loop-done-preserved : goal.loop-done-preserved
loop-done-preserved c =
    let from : length c.args.journal.now.folded ≤ c.loop-done.done = search rules in
    record {
      folded = ap (λ (j : JournalState). j.folded) c.follow_next.ensures.read ∙ c.loop-done.invariant.folded;
      same = ap (λ (j : JournalState). j.entries) c.follow_next.ensures.read ∙ c.loop-done.invariant.same;
      counted = read_more (length c.args.journal.now.folded) c.loop-done.done c.args.journal.now.reads c.loop-done.journal.reads c.follow_next.new.journal.reads from c.loop-done.invariant.counted (ap (λ (j : JournalState). j.reads) c.follow_next.ensures.read);
      kept = kept_further c.args.journal.now.folded c.args.journal.now.entries c.loop-done.journal.folded c.loop-done.journal.entries c.loop-done.done c.follow_next.new.kept c.loop-done.invariant.folded c.loop-done.invariant.same c.in_ok-follow_next.ensures.kept;
      metered = metered_more c.args.journal.now.folded c.args.journal.now.entries c.loop-done.journal.folded c.loop-done.journal.entries c.loop-done.done c.copied.new.self.kept.tables.lines.meter c.loop-done.kept.tables.lines.meter c.follow_next.new.kept.tables.lines.meter c.loop-done.invariant.folded c.loop-done.invariant.same c.loop-done.invariant.metered c.in_ok-follow_next.ensures.meter;
    }

pub returns-clause-meter : goal.returns-clause-meter
returns-clause-meter c =
    let last : c.loop-done.done ≡ length c.args.journal.now.folded + length c.args.journal.now.entries = search rules in
    metered_last c.args.journal.now.folded c.args.journal.now.entries c.loop-done.done c.copied.new.self.kept.tables.lines.meter c.loop-done.kept.tables.lines.meter last c.loop-done.invariant.metered
