-- Lines on which an accepted event does not bear have the same part after it.
use Rattle.std.proofs.Common.{◌≡◌, ℕ, false, Ok}
use Rattle.kept_tables.specs.Same.{SamePart}
use Rattle.mirror.specs.declared.line_key.LineKey.{LineKey}
use Rattle.centre_past.specs.Facts.{facts}
use Rattle.centre_past.specs.Legal.{Legal}
use Rattle.centre_events.specs.Past.{Past, After}
use Rattle.centre_past.specs.Reach.{bears, reach_of}
use Rattle.centre_events.specs.Verdict.{verdict}
use Rattle.centre_events.specs.declared.answer.Answer.{Answer}
use Rattle.coverage_plan.specs.declared.edit.Edit.{Edit}
use Rattle.coverage_plan.specs.declared.edit.Edit.TheVariants as edit
use Rattle.centre_events.specs.declared.entry.Entry.{Entry}
use Rattle.centre_events.specs.declared.event.Event.{Event}
use Rattle.centre_events.specs.declared.event.Event.TheVariants as event
use Rattle.centre_events.specs.declared.settings.Settings.{Settings}
use Rattle.centre_past.proofs.LineLemmas.{Outside}
use Rattle.centre_lines.proofs.OutsideAreaLemmas.{outside_add_area, outside_drop_area, outside_put, outside_cut}
use Rattle.centre_lines.proofs.OutsideCellLemmas.{outside_add_bsc, outside_remove_bsc, outside_add_cell, outside_move_cell, outside_remove_cell}
use Rattle.centre_lines.proofs.OutsideLinkLemmas.{outside_retry, outside_link_up, outside_link_down, outside_send, outside_ask, outside_report}
use Rattle.centre_lines.proofs.OutsideWarningLemmas.{outside_issue, outside_update, outside_widen, outside_narrow, outside_stop, outside_forget}
use Rattle.centre_past.proofs.UniqueLemmas.{verdict_answered}

outside_edit : (settings : Settings) (past : Past) → Legal settings past → (desk : ℕ) (e : Edit) (a : Answer) → verdict settings past (event.Edit e) ≡ Ok a → Outside past desk (event.Edit e) a
outside_edit settings past legal desk (edit.AddBsc b) a v = outside_add_bsc past desk b a
outside_edit settings past legal desk (edit.RemoveBsc b) a v = outside_remove_bsc settings past legal desk b a
outside_edit settings past legal desk (edit.AddCell c b) a v = outside_add_cell past desk c b a (verdict_answered settings past (event.Edit (edit.AddCell c b)) a v)
outside_edit settings past legal desk (edit.MoveCell c b) a v = outside_move_cell past desk c b a
outside_edit settings past legal desk (edit.RemoveCell c) a v = outside_remove_cell past desk c a
outside_edit settings past legal desk (edit.AddArea x) a v = outside_add_area settings past legal desk x a (verdict_answered settings past (event.Edit (edit.AddArea x)) a v)
outside_edit settings past legal desk (edit.DropArea x) a v = outside_drop_area past desk x a (verdict_answered settings past (event.Edit (edit.DropArea x)) a v)
outside_edit settings past legal desk (edit.Put x s) a v = outside_put settings past legal desk x s a
outside_edit settings past legal desk (edit.Cut x s) a v = outside_cut settings past legal desk x s a
outside_edit settings past legal desk (edit.Issue notice areas) a v = outside_issue settings past legal desk notice areas a v
outside_edit settings past legal desk (edit.Update n content) a v = outside_update settings past legal desk n content a v
outside_edit settings past legal desk (edit.Widen n x) a v = outside_widen settings past legal desk n x a
outside_edit settings past legal desk (edit.Narrow n x) a v = outside_narrow settings past legal desk n x a
outside_edit settings past legal desk (edit.Stop n) a v = outside_stop settings past legal desk n a
outside_edit settings past legal desk (edit.Forget n) a v = outside_forget settings past legal desk n a

outside_event : (settings : Settings) (past : Past) → Legal settings past → (desk : ℕ) (e : Event) (a : Answer) → verdict settings past e ≡ Ok a → Outside past desk e a
outside_event settings past legal desk (event.Edit e) a v = outside_edit settings past legal desk e a v
outside_event settings past legal desk (event.Retry b) a v = outside_retry settings past legal desk b a
outside_event settings past legal desk (event.LinkUp b) a v = outside_link_up past desk b a
outside_event settings past legal desk (event.LinkDown b generation) a v = outside_link_down past desk b generation a
outside_event settings past legal desk (event.Send b generation) a v = outside_send past desk b generation a
outside_event settings past legal desk (event.Ask b generation n after) a v = outside_ask past desk b generation n after a
outside_event settings past legal desk (event.Report b generation message) a v = outside_report past desk b generation message a

pub outside : (settings : Settings) (past : Past) → Legal settings past → (e : Entry) → verdict settings past e.event ≡ Ok e.answer → (k : LineKey) → bears (reach_of past e.event e.answer) k ≡ false → SamePart (facts past k) (facts (After e past) k)
outside settings past legal e v = outside_event settings past legal e.desk e.event e.answer v
