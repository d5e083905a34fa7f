-- Two pasts that say the same of everything but how many entries stand after their bases. So do a past before a checkpoint
-- and the past after it.
use Rattle.std.specs.Prelude.{◌≡◌, ℕ, List, Result}
use Rattle.common.specs.declared.cell.Cell.{Cell}
use Rattle.mirror.specs.declared.line_key.LineKey.{LineKey}
use Rattle.warning_book.specs.declared.warning.Warning.{Warning}
use Rattle.centre_events.specs.Cover.{covers}
use Rattle.centre_events.specs.Folding.{HasSameParts}
use Rattle.centre_events.specs.Known.{is_known}
use Rattle.centre_events.specs.Lines.{stand}
use Rattle.centre_events.specs.Past.{Past}
use Rattle.centre_events.specs.Pending.{actions, pending}
use Rattle.centre_events.specs.Plan.{planned, wanted}
use Rattle.centre_events.specs.Verdict.{answered}
use Rattle.centre_events.specs.declared.answer.Answer.{Answer}
use Rattle.centre_events.specs.declared.event.Event.{Event}
use Rattle.centre_events.specs.declared.network.Network.{Network}
use Rattle.centre_events.specs.declared.refusal.Refusal.{Refusal}
use Rattle.centre_past.specs.Facts.{facts}
use Rattle.centre_past.specs.LinkStates.{link_state}
use Rattle.centre_past.specs.Lists.{area_rows, area_selectors, bsc_rows, cell_rows, failed_of, plan_counts, sheet_of, warning_rows}
use Rattle.centre_past.specs.Numbers.{area_board, board}
use Rattle.centre_past.specs.Reach.{reach}
use Rattle.centre_past.specs.Table.{table}

-- registers, areas, warnings, links, what is in flight and what was reported, as parts; and what follows from them: what is
-- covered, wanted and planned, what is on air or may be, which cells are known, what is to be ordered, how each line stands
-- and counts, what each event is answered where the journal has room, on how many lines it bears, and what lists show
pub record SaysTheSame (p q : Past) : Type 0 where
  pub parts : HasSameParts p q
  pub covered : (a : List ℕ) (c : Cell) → covers p a c ≡ covers q a c
  pub wanted : (b : ℕ) (w : Warning) (c : Cell) → wanted p b w c ≡ wanted q b w c
  pub planned : (b : ℕ) (c : Cell) (m s : ℕ) → planned p b c m s ≡ planned q b c m s
  pub links : (b : ℕ) → link_state p b ≡ link_state q b
  pub table : (b : ℕ) → table p b ≡ table q b
  pub known : (b : ℕ) (c : Cell) → is_known p b c ≡ is_known q b c
  pub actions : (b : ℕ) (w : Warning) (c : Cell) → actions p b w c ≡ actions q b w c
  pub pending : (b : ℕ) → pending p b ≡ pending q b
  pub lines : (k : LineKey) → facts p k ≡ facts q k
  pub standing : (b : ℕ) (w : Warning) (c : Cell) → stand p b w c ≡ stand q b w c
  pub numbers : (n : ℕ) → board p n ≡ board q n
  pub area_numbers : (n : ℕ) (a : List ℕ) → area_board p n a ≡ area_board q n a
  pub answers : (network : Network) (e : Event) → answered network p e ≡ answered network q e
  pub reach : (e : Event) (r : Result Answer Refusal) → reach p e r ≡ reach q e r
  pub listed_bscs : bsc_rows p ≡ bsc_rows q
  pub listed_cells : (b : ℕ) → cell_rows p b ≡ cell_rows q b
  pub listed_areas : area_rows p ≡ area_rows q
  pub listed_selectors : (a : List ℕ) → area_selectors p a ≡ area_selectors q a
  pub listed_warnings : warning_rows p ≡ warning_rows q
  pub sheets : (n : ℕ) → sheet_of p n ≡ sheet_of q n
  pub listed_failed : (n : ℕ) → failed_of p n ≡ failed_of q n
  pub counts : plan_counts p ≡ plan_counts q
