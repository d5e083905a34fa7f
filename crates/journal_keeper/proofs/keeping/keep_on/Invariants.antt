use Rattle.journal_keeper.specs.Following.{KeepsOn}
use Rattle.journal_keeper.proofs.keeping.keep_on.Given as goal

-- what was done since the beginning
abbrev pub invariant-loop : goal.invariant-loop
invariant-loop g l = record {
  can : (goal.iterator-loop g).can_next l.iterator';
  finite : (goal.iterator-loop g).is_finite l.iterator';
  keeps : KeepsOn (g.J.Followed.gives l.journal) l.initial.keeper.writing (g.F.JournalFile.state l.initial.keeper.file) l.keeper.writing (g.F.JournalFile.state l.keeper.file);
}
