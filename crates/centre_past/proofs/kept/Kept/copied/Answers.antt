use Rattle.std.proofs.Common.{◌∙◌, length}
use Rattle.mirror.specs.Table.{counted_all}
use Rattle.centre_past.specs.Copying.{IsCopy}
use Rattle.centre_past.specs.IsKept.{OnlyReadsIn}
use Rattle.centre_past.specs.declared.kept.Kept.{Kept}
use Rattle.centre_past.proofs.CopyLemmas.{copy_kept, copy_reads}
use Rattle.centre_past.proofs.ReadLemmas.{reads_kept}
use Rattle.centre_past.proofs.kept.Kept.copied.Goals as goal

pub returns-clause-reads : goal.returns-clause-reads
returns-clause-reads c =
    copy_reads c.args.self.now c.copied-3.new.self (counted_all (length c.args.self.now.tables.lines.lines) c.args.self.now.tables.lines.meter) c.in_ok-copied-3.ensures.counted c.copied-3.ensures.least

pub returns-clause-kept : goal.returns-clause-kept
returns-clause-kept c =
    let s : Kept = record c.args.self.now { tables = c.copied-3.new.self } in
    let t : Kept = record { plan = c.in_ok-copied.field-0; links = c.in_ok-copied-2.field-0; tables = c.in_ok-copied-3.field-0 } in
    let reads : OnlyReadsIn c.args.self.now s = copy_reads c.args.self.now c.copied-3.new.self (counted_all (length c.args.self.now.tables.lines.lines) c.args.self.now.tables.lines.meter) c.in_ok-copied-3.ensures.counted c.copied-3.ensures.least in
    let copy : IsCopy s t = record {
      plan = c.in_ok-copied.ensures;
      links = c.in_ok-copied-2.ensures;
      tables = c.in_ok-copied-3.ensures.copy;
    } in
    λ past kept. copy_kept past s t copy (reads_kept past c.args.self.now s kept reads)
