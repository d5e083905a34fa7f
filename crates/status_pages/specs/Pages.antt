-- The page: the state of the centre in a line, its figures, and then its warnings and its BSCs.
use Rattle.std.specs.Prelude.{ℕ, Bool, true, false, ◌-◌, ◌/◌, ◌==◌, ◌||◌, not, List, [], ◌∷◌, ◌++◌, Option, Some, None, codes, count_by, decimal, length}
use Rattle.std.specs.List.{flat_map}
use Rattle.centre_past.specs.declared.lists.plan_counts.PlanCounts.{PlanCounts}
use Rattle.status_figures.specs.Health.{health_of}
use Rattle.status_figures.specs.declared.health.Health.{Health}
use Rattle.status_figures.specs.declared.health.Health.TheVariants as health
use Rattle.status_figures.specs.declared.picture.Picture.{Picture}
use Rattle.status_figures.specs.declared.warning_figures.WarningFigures.{WarningFigures}
use Rattle.status_pages.specs.BscParts.{bscs_html}
use Rattle.status_pages.specs.Causes.{causes_html}
use Rattle.status_pages.specs.Fixed.{after_html, before_html, layout_html, looks_html}
use Rattle.status_pages.specs.Ranks.{ranked}
use Rattle.status_pages.specs.Standings.{bsc_stands, needs_look, warning_is_urgent, warning_stands}
use Rattle.status_pages.specs.WarningParts.{warnings_html}
use Rattle.status_pages.specs.declared.standing.Standing.{Standing}
use Rattle.status_pages.specs.declared.standing.Standing.TheVariants.{UnderWay}
use Rattle.status_pages.specs.declared.verdict.Verdict.{Verdict}
use Rattle.status_pages.specs.declared.verdict.Verdict.TheVariants as verdict
use Rattle.status_pages.specs.Pieces.{piece_html}
use Rattle.status_pages.specs.Times.{time_of_day}
use Rattle.status_pages.specs.declared.items.CentreItem.{CentreItem}
use Rattle.status_pages.specs.declared.items.CentreItem.TheVariants as of_centre
use Rattle.status_pages.specs.declared.items.CountItem.{CountItem}
use Rattle.status_pages.specs.declared.items.CountItem.TheVariants as of_count
use Rattle.status_pages.specs.declared.piece.Piece.TheVariants as piece

-- some warning or some BSC stands so
abbrev pub has_some : Picture → Standing → Bool
has_some p s = not (count_by (warning_stands p s) p.warnings == 0) || not (count_by (bsc_stands p.taken s) p.bscs == 0)

-- how a centre that is whole stands: whether somebody has to look, whether no BSC is registered, and whether something is still to come
abbrev pub counted : Bool → Bool → Bool → Verdict
counted true empty busy = verdict.SomeWrong
counted false true busy = verdict.IsEmpty
counted false false true = verdict.SomeUnderWay
counted false false false = verdict.AllInOrder

-- somebody has to look at some warning or at some BSC
abbrev pub has_wrong : Picture → Bool
has_wrong p = not (count_by (warning_is_urgent p) p.warnings == 0) || not (count_by (needs_look p.taken) p.bscs == 0)

-- no BSC is registered in the picture
abbrev pub has_no_bsc : Picture → Bool
has_no_bsc p = length p.bscs == 0

-- how a centre stands
abbrev pub verdict_with : Health → Verdict → Verdict
verdict_with health.Whole otherwise = otherwise
verdict_with health.Stale otherwise = verdict.IsStale
verdict_with health.JournalFull otherwise = verdict.IsFull
verdict_with health.StaleAndFull otherwise = verdict.IsStale

-- how the centre of a picture stands
abbrev pub verdict_of : Picture → Verdict
verdict_of p = verdict_with (health_of p.status) (counted (has_wrong p) (has_no_bsc p) (has_some p UnderWay))

-- its class
abbrev pub verdict_class : Verdict → List ℕ
verdict_class verdict.IsStale = codes "bad"
verdict_class verdict.IsFull = codes "bad"
verdict_class verdict.SomeWrong = codes "bad"
verdict_class verdict.IsEmpty = codes "busy"
verdict_class verdict.SomeUnderWay = codes "busy"
verdict_class verdict.AllInOrder = codes "good"

-- in a word
abbrev pub verdict_word : Verdict → List ℕ
verdict_word verdict.IsStale = codes "STALE"
verdict_word verdict.IsFull = codes "JOURNAL FULL"
verdict_word verdict.SomeWrong = codes "ATTENTION"
verdict_word verdict.IsEmpty = codes "NO BSCS"
verdict_word verdict.SomeUnderWay = codes "UNDER WAY"
verdict_word verdict.AllInOrder = codes "ALL IN ORDER"

-- what there is to do
abbrev pub verdict_text : Verdict → List ℕ
verdict_text verdict.IsStale = codes "The centre is stale. It does not know what is on air. Type rebuild at a console."
verdict_text verdict.IsFull = codes "The journal is full. No event is taken. Type checkpoint at a console."
verdict_text verdict.SomeWrong = codes "Somebody has to look:"
verdict_text verdict.IsEmpty = codes "No BSC is registered. The centre knows nothing of what is on air."
verdict_text verdict.SomeUnderWay = codes "No link and no cell is down, and no warning failed in any cell. If this stays, look at what is awaited or left."
verdict_text verdict.AllInOrder = codes "Every link is up, no cell is down, no warning failed in any cell, and no order is to come."

-- the state of the centre
unfoldable pub verdict_html : Verdict → List ℕ
verdict_html v =
    codes "<header class=\"" ++ (verdict_class v ++ (codes "\"><h1>" ++ (verdict_word v
    ++ (codes "</h1><p>" ++ (verdict_text v ++ codes "</p>")))))

-- when the picture was taken
unfoldable pub moment_html : ℕ → List ℕ
moment_html taken = piece_html piece.MomentFront ++ (time_of_day taken ++ piece_html piece.MomentEnd)

-- a figure with its word
unfoldable pub item : List ℕ → ℕ → List ℕ
item word n = codes "<li>" ++ (word ++ (codes " <b>" ++ (decimal n ++ codes "</b></li>")))

-- one that may not be known
abbrev pub item_if : List ℕ → Option ℕ → List ℕ
item_if word None = []
item_if word (Some n) = item word n

-- the word of a figure that counts things of the centre
abbrev pub count_word : CountItem → List ℕ
count_word of_count.Active = codes "active warnings"
count_word of_count.LinksUp = codes "links up"
count_word of_count.Bscs = codes "BSCs"
count_word of_count.Cells = codes "cells"

-- its number
abbrev pub count_value : PlanCounts → CountItem → ℕ
count_value c of_count.Active = c.active
count_value c of_count.LinksUp = c.links_up
count_value c of_count.Bscs = c.bscs
count_value c of_count.Cells = c.cells

-- the figure
unfoldable pub count_html : PlanCounts → CountItem → List ℕ
count_html c i = item (count_word i) (count_value c i)

-- what the centre has, where it isn't stale
abbrev pub counts_html : Option PlanCounts → List ℕ
counts_html None = []
counts_html (Some c) = flat_map (count_html c) (of_count.Active ∷ of_count.LinksUp ∷ of_count.Bscs ∷ of_count.Cells ∷ [])

-- a number of octets in megaoctets
abbrev pub megaoctets : Option ℕ → Option ℕ
megaoctets None = None
megaoctets (Some n) = Some (n / 1000000)

-- the word of a figure of the journal or of the program
abbrev pub centre_word : CentreItem → List ℕ
centre_word of_centre.Entries = codes "entries"
centre_word of_centre.Kept = codes "kept up to"
centre_word of_centre.Unfolded = codes "since the last fold"
centre_word of_centre.Limit = codes "journal limit"
centre_word of_centre.Receipts = codes "receipts"
centre_word of_centre.Memory = codes "memory in MB"

-- its number, where it is known
abbrev pub centre_value : Picture → CentreItem → Option ℕ
centre_value p of_centre.Entries = Some p.status.entries
centre_value p of_centre.Kept = p.kept
centre_value p of_centre.Unfolded = Some (p.status.entries - p.status.folded)
centre_value p of_centre.Limit = Some p.status.limit
centre_value p of_centre.Receipts = Some p.receipts
centre_value p of_centre.Memory = megaoctets p.memory

-- the figure
unfoldable pub centre_html : Picture → CentreItem → List ℕ
centre_html p i = item_if (centre_word i) (centre_value p i)

-- the figures of the journal and of the program
abbrev pub centre_items : List CentreItem
centre_items =
    of_centre.Entries ∷ of_centre.Kept ∷ of_centre.Unfolded ∷ of_centre.Limit ∷ of_centre.Receipts ∷ of_centre.Memory ∷ []

-- the figures of the centre
unfoldable pub figures_html : Picture → List ℕ
figures_html p =
    piece_html piece.SumsFront
    ++ (counts_html p.status.counts ++ (flat_map (centre_html p) centre_items ++ piece_html piece.SumsEnd))

-- the warnings, in that order, and the BSCs
unfoldable pub lists_html : Picture → List WarningFigures → List ℕ
lists_html p warnings =
    piece_html piece.ColumnsFront
    ++ (warnings_html p warnings ++ (bscs_html p.taken p.bscs ++ piece_html piece.ColumnsEnd))

-- where begins what is exchanged when the page is renewed
unfoldable pub taken_html : ℕ → List ℕ
taken_html taken = codes "<main id=\"now\" data-taken=\"" ++ (decimal taken ++ codes "\">")

-- how the centre stands, and why
unfoldable pub state_html : Picture → Verdict → List WarningFigures → List ℕ
state_html p v warnings = taken_html p.taken ++ (verdict_html v ++ causes_html p warnings)

-- what is exchanged
unfoldable pub main_html : Picture → Verdict → List ℕ
main_html p v =
    state_html p v (ranked p.warnings)
    ++ (moment_html p.taken ++ (figures_html p ++ lists_html p (ranked p.warnings)))

-- what stands in front of it: the title and the looks
unfoldable pub front_html : Verdict → List ℕ
front_html v = before_html ++ (verdict_word v ++ (looks_html ++ layout_html))

-- the page
unfoldable pub page_html : Picture → List ℕ
page_html p = front_html (verdict_of p) ++ (main_html p (verdict_of p) ++ after_html)
