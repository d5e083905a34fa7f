-- The metrics of a picture, in the text format of Prometheus: for each metric two lines that say what it is, and a line for each of
-- its samples.
use Rattle.std.specs.Prelude.{ℕ, ◌+◌, Bool, true, false, List, [], ◌∷◌, ◌++◌, Option, Some, None, codes, decimal}
use Rattle.std.specs.List.{flat_map}
use Rattle.centre_past.specs.declared.lists.plan_counts.PlanCounts.{PlanCounts}
use Rattle.centre_past.specs.declared.lists.warning_row.WarningRow.{WarningRow}
use Rattle.coverage_board.specs.declared.numbers.Numbers.{Numbers}
use Rattle.status_figures.specs.Labels.{label_text}
use Rattle.status_figures.specs.Words.{is_in_service, newline}
use Rattle.status_figures.specs.declared.bsc_figures.BscFigures.{BscFigures}
use Rattle.status_figures.specs.declared.bsc_metrics.BscMetric.{BscMetric}
use Rattle.status_figures.specs.declared.bsc_metrics.BscMetric.TheVariants as of_bsc
use Rattle.status_figures.specs.declared.centre_metrics.CentreMetric.{CentreMetric}
use Rattle.status_figures.specs.declared.centre_metrics.CentreMetric.TheVariants as of_centre
use Rattle.status_figures.specs.declared.centre_metrics.PlanMetric.{PlanMetric}
use Rattle.status_figures.specs.declared.centre_metrics.PlanMetric.TheVariants as of_plan
use Rattle.status_figures.specs.declared.picture.Picture.{Picture}
use Rattle.status_figures.specs.declared.tally.Tally.{Tally}
use Rattle.status_figures.specs.declared.warning_figures.WarningFigures.{WarningFigures}
use Rattle.status_figures.specs.declared.warning_metrics.WarningMetric.{WarningMetric}
use Rattle.status_figures.specs.declared.warning_metrics.WarningMetric.TheVariants as of_warning

-- what a metric is
unfoldable pub head_text : List ℕ → List ℕ → List ℕ → List ℕ
head_text name help type =
    codes "# HELP " ++ (name ++ (codes " " ++ (help ++ (codes "\n# TYPE " ++ (name ++ (codes " " ++ (type ++ newline)))))))

-- a metric of one sample
unfoldable pub single_text : List ℕ → List ℕ → List ℕ → ℕ → List ℕ
single_text name help type value = head_text name help type ++ (name ++ (codes " " ++ (decimal value ++ newline)))

-- a metric of one sample, or nothing
abbrev pub single_if : List ℕ → List ℕ → List ℕ → Option ℕ → List ℕ
single_if name help type None = []
single_if name help type (Some value) = single_text name help type value

-- 1 for yes, 0 for no
abbrev pub flag : Bool → ℕ
flag true = 1
flag false = 0

abbrev pub gauge : List ℕ
gauge = codes "gauge"

abbrev pub counter : List ℕ
counter = codes "counter"

-- The centre.

-- the name of a metric of the centre
abbrev pub centre_metric_name : CentreMetric → List ℕ
centre_metric_name of_centre.Begun = codes "process_start_time_seconds"
centre_metric_name of_centre.Taken = codes "cbc_picture_timestamp_seconds"
centre_metric_name of_centre.IsStale = codes "cbc_stale"
centre_metric_name of_centre.Entries = codes "cbc_journal_entries_total"
centre_metric_name of_centre.Folded = codes "cbc_journal_folded_entries_total"
centre_metric_name of_centre.Limit = codes "cbc_journal_limit_entries"
centre_metric_name of_centre.Kept = codes "cbc_journal_kept_entries"
centre_metric_name of_centre.Receipts = codes "cbc_receipts"
centre_metric_name of_centre.Memory = codes "process_resident_memory_bytes"

-- what it is
abbrev pub centre_metric_help : CentreMetric → List ℕ
centre_metric_help of_centre.Begun = codes "When the program began."
centre_metric_help of_centre.Taken = codes "When the picture was taken."
centre_metric_help of_centre.IsStale = codes "Whether the centre is stale and has to be rebuilt."
centre_metric_help of_centre.Entries = codes "Entries of the journal since the beginning."
centre_metric_help of_centre.Folded = codes "Entries that were folded."
centre_metric_help of_centre.Limit = codes "Entries that the journal may have since it was folded."
centre_metric_help of_centre.Kept = codes "Entries that stand in the kept file."
centre_metric_help of_centre.Receipts = codes "Receipts that are kept for the desks."
centre_metric_help of_centre.Memory = codes "Memory that the program takes."

-- what never falls is a counter
abbrev pub centre_metric_type : CentreMetric → List ℕ
centre_metric_type of_centre.Begun = gauge
centre_metric_type of_centre.Taken = gauge
centre_metric_type of_centre.IsStale = gauge
centre_metric_type of_centre.Entries = counter
centre_metric_type of_centre.Folded = counter
centre_metric_type of_centre.Limit = gauge
centre_metric_type of_centre.Kept = gauge
centre_metric_type of_centre.Receipts = gauge
centre_metric_type of_centre.Memory = gauge

-- its number, where it is known
abbrev pub centre_metric_value : Picture → CentreMetric → Option ℕ
centre_metric_value p of_centre.Begun = Some p.begun
centre_metric_value p of_centre.Taken = Some p.taken
centre_metric_value p of_centre.IsStale = Some (flag p.status.is_stale)
centre_metric_value p of_centre.Entries = Some p.status.entries
centre_metric_value p of_centre.Folded = Some p.status.folded
centre_metric_value p of_centre.Limit = Some p.status.limit
centre_metric_value p of_centre.Kept = p.kept
centre_metric_value p of_centre.Receipts = Some p.receipts
centre_metric_value p of_centre.Memory = p.memory

-- the metric
unfoldable pub centre_metric_text : Picture → CentreMetric → List ℕ
centre_metric_text p m = single_if (centre_metric_name m) (centre_metric_help m) (centre_metric_type m) (centre_metric_value p m)

-- all metrics of the centre
abbrev pub centre_metrics : List CentreMetric
centre_metrics =
    of_centre.Begun ∷ of_centre.Taken ∷ of_centre.IsStale ∷ of_centre.Entries ∷ of_centre.Folded ∷ of_centre.Limit ∷ of_centre.Kept
    ∷ of_centre.Receipts ∷ of_centre.Memory ∷ []

-- the name of a metric that counts things of the centre
abbrev pub plan_metric_name : PlanMetric → List ℕ
plan_metric_name of_plan.Bscs = codes "cbc_bscs"
plan_metric_name of_plan.LinksUp = codes "cbc_links_up"
plan_metric_name of_plan.Cells = codes "cbc_registered_cells"
plan_metric_name of_plan.Areas = codes "cbc_areas"
plan_metric_name of_plan.Warnings = codes "cbc_warnings"
plan_metric_name of_plan.Active = codes "cbc_active_warnings"

-- what it is
abbrev pub plan_metric_help : PlanMetric → List ℕ
plan_metric_help of_plan.Bscs = codes "Registered BSCs."
plan_metric_help of_plan.LinksUp = codes "Registered BSCs whose link is up."
plan_metric_help of_plan.Cells = codes "Registered cells."
plan_metric_help of_plan.Areas = codes "Areas."
plan_metric_help of_plan.Warnings = codes "Warnings in the book, stopped ones too."
plan_metric_help of_plan.Active = codes "Warnings in the book that were not stopped."

-- its number
abbrev pub plan_metric_value : PlanCounts → PlanMetric → ℕ
plan_metric_value c of_plan.Bscs = c.bscs
plan_metric_value c of_plan.LinksUp = c.links_up
plan_metric_value c of_plan.Cells = c.cells
plan_metric_value c of_plan.Areas = c.areas
plan_metric_value c of_plan.Warnings = c.warnings
plan_metric_value c of_plan.Active = c.active

-- the metric
unfoldable pub plan_metric_text : PlanCounts → PlanMetric → List ℕ
plan_metric_text c m = single_text (plan_metric_name m) (plan_metric_help m) gauge (plan_metric_value c m)

-- all metrics that count things
abbrev pub plan_metrics : List PlanMetric
plan_metrics = of_plan.Bscs ∷ of_plan.LinksUp ∷ of_plan.Cells ∷ of_plan.Areas ∷ of_plan.Warnings ∷ of_plan.Active ∷ []

-- how many things it has, where it isn't stale
abbrev pub counts_text : Option PlanCounts → List ℕ
counts_text None = []
counts_text (Some c) = flat_map (plan_metric_text c) plan_metrics

-- Counts by name.

-- what follows the value of a label: the count
abbrev pub count_end : ℕ → List ℕ
count_end count = codes "\"} " ++ (decimal count ++ newline)

-- a sample of a count
abbrev pub tally_line : List ℕ → List ℕ → Tally → List ℕ
tally_line name label t = (name ++ (codes "{" ++ (label ++ codes "=\""))) ++ (label_text t.name ++ count_end t.count)

-- a metric with a sample for each name
unfoldable pub tallies_text : List ℕ → List ℕ → List ℕ → List Tally → List ℕ
tallies_text name help label tallies = head_text name help counter ++ flat_map (tally_line name label) tallies

-- the entries by kind
unfoldable pub entries_text : List Tally → List ℕ
entries_text entries = tallies_text (codes "cbc_events_total") (codes "Events that were entered since the start, by kind.") (codes "kind") entries

-- the refusals by name
unfoldable pub refusals_text : List Tally → List ℕ
refusals_text refusals =
    tallies_text (codes "cbc_refusals_total") (codes "Refusals since the start, of the server's own questions too.") (codes "refusal") refusals

-- Warnings.

-- a sample of the cells of a warning of that number and message identifier
unfoldable pub cells_line : ℕ → ℕ → List ℕ → ℕ → List ℕ
cells_line warning id state count =
    codes "cbc_cells{warning=\"" ++ (decimal warning ++ (codes "\",message_id=\"" ++ (decimal id
    ++ (codes "\",state=\"" ++ (state ++ (codes "\"} " ++ (decimal count ++ newline)))))))

-- the cells of a warning
unfoldable pub cells_lines : WarningRow → List ℕ
cells_lines w =
    cells_line w.number w.message_id (codes "awaited") w.numbers.awaited
    ++ (cells_line w.number w.message_id (codes "on_air") w.numbers.on_air
    ++ cells_line w.number w.message_id (codes "failed") w.numbers.failed)

-- those of a warning in a picture
abbrev pub cells_of : WarningFigures → List ℕ
cells_of w = cells_lines w.sheet.row

-- what stands above the cells of all warnings
unfoldable pub cells_head : List ℕ
cells_head = head_text (codes "cbc_cells") (codes "Registered cells that an active warning covers, by how it stands there.") gauge

-- the cells of all warnings
unfoldable pub cells_text : List WarningFigures → List ℕ
cells_text warnings = cells_head ++ flat_map cells_of warnings

-- in how many registered cells an active warning is planned: in each it is awaited or on air, or it failed there
abbrev pub planned : Numbers → ℕ
planned n = n.awaited + n.on_air + n.failed

-- the name of a metric that has one sample for each warning
abbrev pub warning_metric_name : WarningMetric → List ℕ
warning_metric_name of_warning.Cells = codes "cbc_warning_cells"
warning_metric_name of_warning.Active = codes "cbc_warning_active"
warning_metric_name of_warning.Left = codes "cbc_left_places"
warning_metric_name of_warning.Broadcasts = codes "cbc_broadcasts"
warning_metric_name of_warning.Silent = codes "cbc_silent_cells"

-- what it is
abbrev pub warning_metric_help : WarningMetric → List ℕ
warning_metric_help of_warning.Cells = codes "Registered cells in which a warning is planned: 0 of an active one that reaches nobody."
warning_metric_help of_warning.Active = codes "Whether a warning was not stopped."
warning_metric_help of_warning.Left = codes "Places where an old or unwanted version of a warning is on air or may be."
warning_metric_help of_warning.Broadcasts = codes "How often a warning was broadcast in the cells that its areas cover, as reported."
warning_metric_help of_warning.Silent = codes "Cells in which a warning is on air, and its number of broadcasts does not rise."

-- its number
abbrev pub warning_metric_value : WarningMetric → WarningFigures → ℕ
warning_metric_value of_warning.Cells w = planned w.sheet.row.numbers
warning_metric_value of_warning.Active w = flag w.sheet.row.is_active
warning_metric_value of_warning.Left w = w.sheet.row.numbers.left
warning_metric_value of_warning.Broadcasts w = w.sheet.row.numbers.broadcasts
warning_metric_value of_warning.Silent w = w.silent

-- a sample of it
unfoldable pub warning_line : WarningMetric → WarningFigures → List ℕ
warning_line m w =
    warning_metric_name m ++ (codes "{warning=\"" ++ (decimal w.sheet.row.number ++ (codes "\",message_id=\"" ++ (decimal w.sheet.row.message_id
    ++ (codes "\"} " ++ (decimal (warning_metric_value m w) ++ newline))))))

-- the metric, of all warnings
unfoldable pub warning_metric_text : WarningMetric → List WarningFigures → List ℕ
warning_metric_text m warnings = head_text (warning_metric_name m) (warning_metric_help m) gauge ++ flat_map (warning_line m) warnings

-- all metrics of the warnings
unfoldable pub warnings_text : List WarningFigures → List ℕ
warnings_text warnings =
    cells_text warnings
    ++ (warning_metric_text of_warning.Cells warnings
    ++ (warning_metric_text of_warning.Active warnings
    ++ (warning_metric_text of_warning.Left warnings
    ++ (warning_metric_text of_warning.Broadcasts warnings ++ warning_metric_text of_warning.Silent warnings))))

-- BSCs.

-- the name of a metric that has one sample for each BSC
abbrev pub bsc_metric_name : BscMetric → List ℕ
bsc_metric_name of_bsc.LinkUp = codes "cbc_bsc_link_up"
bsc_metric_name of_bsc.Cells = codes "cbc_bsc_cells"
bsc_metric_name of_bsc.Pending = codes "cbc_bsc_pending_orders"
bsc_metric_name of_bsc.InFlight = codes "cbc_bsc_in_flight"
bsc_metric_name of_bsc.Since = codes "cbc_bsc_in_flight_since_timestamp_seconds"
bsc_metric_name of_bsc.Reset = codes "cbc_bsc_reset_since_timestamp_seconds"
bsc_metric_name of_bsc.Down = codes "cbc_bsc_down_cells"
bsc_metric_name of_bsc.Ended = codes "cbc_bsc_link_down_since_timestamp_seconds"

-- what it is
abbrev pub bsc_metric_help : BscMetric → List ℕ
bsc_metric_help of_bsc.LinkUp = codes "Whether the link of a BSC is up, and no RESET is out over it."
bsc_metric_help of_bsc.Cells = codes "Cells that are registered at a BSC."
bsc_metric_help of_bsc.Pending = codes "Messages that a BSC is still to write, replace or kill, one in flight too."
bsc_metric_help of_bsc.InFlight = codes "Orders and queries that are in flight to a BSC, one at most."
bsc_metric_help of_bsc.Since = codes "When what is in flight to a BSC went out."
bsc_metric_help of_bsc.Reset = codes "When the RESET went out that a BSC has not answered."
bsc_metric_help of_bsc.Down = codes "Cells of a BSC that are down for some kind of warning."
bsc_metric_help of_bsc.Ended = codes "When the link of a BSC ended that is down."

-- how many things are in flight
abbrev pub one_if : {A : Type 0} → Option A → ℕ
one_if None = 0
one_if (Some a) = 1

-- its number, where there is one
abbrev pub bsc_metric_value : BscMetric → BscFigures → Option ℕ
bsc_metric_value of_bsc.LinkUp b = Some (flag (is_in_service b))
bsc_metric_value of_bsc.Cells b = Some b.row.cells
bsc_metric_value of_bsc.Pending b = Some b.row.pending
bsc_metric_value of_bsc.InFlight b = Some (one_if b.row.flight)
bsc_metric_value of_bsc.Since b = b.since
bsc_metric_value of_bsc.Reset b = b.reset
bsc_metric_value of_bsc.Down b = b.down
bsc_metric_value of_bsc.Ended b = b.ended

-- a sample of a metric of a BSC
abbrev pub bsc_sample : List ℕ → ℕ → ℕ → List ℕ
bsc_sample name bsc value = name ++ (codes "{bsc=\"" ++ (decimal bsc ++ (codes "\"} " ++ (decimal value ++ newline))))

-- that sample, or nothing
abbrev pub bsc_sample_if : List ℕ → ℕ → Option ℕ → List ℕ
bsc_sample_if name bsc None = []
bsc_sample_if name bsc (Some value) = bsc_sample name bsc value

-- the sample of a BSC
abbrev pub bsc_line : BscMetric → BscFigures → List ℕ
bsc_line m b = bsc_sample_if (bsc_metric_name m) b.row.bsc (bsc_metric_value m b)

-- the metric, of all BSCs
unfoldable pub bsc_metric_text : BscMetric → List BscFigures → List ℕ
bsc_metric_text m bscs = head_text (bsc_metric_name m) (bsc_metric_help m) gauge ++ flat_map (bsc_line m) bscs

-- the metrics of their links, cells and orders
unfoldable pub bsc_states_text : List BscFigures → List ℕ
bsc_states_text bscs =
    bsc_metric_text of_bsc.LinkUp bscs
    ++ (bsc_metric_text of_bsc.Ended bscs
    ++ (bsc_metric_text of_bsc.Cells bscs
    ++ (bsc_metric_text of_bsc.Down bscs ++ bsc_metric_text of_bsc.Pending bscs)))

-- the metrics of what is out to them
unfoldable pub bsc_flights_text : List BscFigures → List ℕ
bsc_flights_text bscs =
    bsc_metric_text of_bsc.InFlight bscs
    ++ (bsc_metric_text of_bsc.Since bscs ++ bsc_metric_text of_bsc.Reset bscs)

-- all metrics of the BSCs
unfoldable pub bscs_text : List BscFigures → List ℕ
bscs_text bscs = bsc_states_text bscs ++ bsc_flights_text bscs

-- The program.

-- the sample of a version
unfoldable pub version_line : List ℕ → List ℕ
version_line version = codes "cbc_build_info{version=\"" ++ (version ++ codes "\"} 1\n")

-- the version of the program
abbrev pub program_version : List ℕ
program_version = codes "1.0.0"

-- what stands above it
unfoldable pub build_head : List ℕ
build_head = head_text (codes "cbc_build_info") (codes "The version of the program.") gauge

-- which version of the program this is
unfoldable pub build_text : List ℕ
build_text = build_head ++ version_line program_version

-- The whole text.

-- the centre's own metrics
unfoldable pub centre_text : Picture → List ℕ
centre_text p = flat_map (centre_metric_text p) centre_metrics ++ counts_text p.status.counts

-- all metrics of a picture
unfoldable pub metrics_text : Picture → List ℕ
metrics_text p =
    build_text
    ++ (centre_text p ++ (warnings_text p.warnings ++ (bscs_text p.bscs ++ (entries_text p.entries ++ refusals_text p.refusals))))
