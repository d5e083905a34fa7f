-- Lists of a reply in which the entry of a cell can be found by halves, since each identification is that of a single cell, and
-- they stand in ascending order of these cells; and the places of the entries of other lists.
use Rattle.std.specs.Prelude.{◌≡◌, ℕ, Bool, true, false, List, Option, Some, None, reverse}
use Rattle.cbsp_ie.specs.CellId.{names}
use Rattle.cbsp_ie.specs.Counts as counts
use Rattle.cbsp_ie.specs.Identifications.{Identifications}
use Rattle.cbsp_ie.specs.declared.cell_id.CellId.{CellId}
use Rattle.cbsp_ie.specs.declared.cell_id.CellId.TheVariants as id
use Rattle.cbsp_ie.specs.declared.count_entry.CountEntry.{CountEntry}
use Rattle.cbsp_ie.specs.declared.fail_entry.FailEntry.{FailEntry}
use Rattle.cbsp_messages.specs.declared.message.Message.{Message}
use Rattle.cbsp_messages.specs.declared.message.Message.TheVariants as message
use Rattle.common.specs.Cell.{cell_lt}
use Rattle.common.specs.Order.{is_ascending}
use Rattle.common.specs.declared.cell.Cell.{Cell}
use Rattle.centre_events.specs.Counts.{gives_number, numbers_of}
use Rattle.centre_events.specs.LastPlaces.{IsPlaced}
use Rattle.centre_events.specs.declared.count_places.CountPlaces.{CountPlaces}
use Rattle.centre_events.specs.declared.last_places.LastPlaces.{LastPlaces}
use Rattle.centre_events.specs.declared.reply_places.ReplyPlaces.{ReplyPlaces}

-- the identification is that of a single cell, which comes before the given one
abbrev pub is_before : CellId → Cell → Bool
is_before (id.Global plmn lac ci) c = cell_lt (record { lac = lac; ci = ci }) c
is_before (id.LacCi lac ci) c = cell_lt (record { lac = lac; ci = ci }) c
is_before (id.Ci ci) c = false
is_before (id.Lai plmn lac) c = false
is_before (id.Lac lac) c = false
is_before id.All c = false

-- both are those of single cells, and the first's comes before the second's
abbrev pub id_lt : CellId → CellId → Bool
id_lt i (id.Global plmn lac ci) = is_before i (record { lac = lac; ci = ci })
id_lt i (id.LacCi lac ci) = is_before i (record { lac = lac; ci = ci })
id_lt i (id.Ci ci) = false
id_lt i (id.Lai plmn lac) = false
id_lt i (id.Lac lac) = false
id_lt i id.All = false

-- entries with identifications, in that order
abbrev pub are_ordered : {E : Type 0} → (E → CellId) → List E → Bool
are_ordered id_of es = is_ascending (λ x y. id_lt (id_of x) (id_of y)) es

-- the lists of the failures and of the cells in which it was carried out, where the reply has them
abbrev pub failures_of : Message → Option (List FailEntry)
failures_of (message.WriteFailure m) = Some m.failures
failures_of (message.KillFailure m) = Some m.failures
failures_of (message.StatusFailure m) = Some m.failures
failures_of other = None

abbrev pub ids_of : Message → Option Identifications
ids_of (message.WriteFailure m) = m.cells
ids_of (message.KillFailure m) = m.cells
ids_of other = None

-- a list of each kind has these places of its entries: the greatest is that of the first failure that names the cell, and of the last
-- identification or number. Without places it is ordered
abbrev pub AreFailuresPlaced : List ℕ → List FailEntry → Option LastPlaces → Type 0
AreFailuresPlaced network failures None = are_ordered (λ (e : FailEntry). e.id) failures ≡ true
AreFailuresPlaced network failures (Some places) = IsPlaced (λ c (e : FailEntry). names network e.id c) failures places

abbrev pub AreIdsPlaced : List ℕ → List CellId → Option LastPlaces → Type 0
AreIdsPlaced network ids None = are_ordered (λ (i : CellId). i) ids ≡ true
AreIdsPlaced network ids (Some places) = IsPlaced (λ c (i : CellId). names network i c) (reverse ids) places

abbrev pub AreCountsPlaced : List ℕ → List CountEntry → Option CountPlaces → Type 0
AreCountsPlaced network entries None = are_ordered (λ (e : CountEntry). e.id) entries ≡ true
AreCountsPlaced network entries (Some places) = IsPlaced (λ c (e : CountEntry). names network e.id c) (reverse entries) places.entries × IsPlaced (gives_number network) (reverse entries) places.numbers

-- the same, where there is such a list
abbrev pub AreFailuresPlacedIn : List ℕ → Option (List FailEntry) → Option LastPlaces → Type 0
AreFailuresPlacedIn network None places = Unit {0}
AreFailuresPlacedIn network (Some failures) places = AreFailuresPlaced network failures places

abbrev pub AreIdsPlacedIn : List ℕ → Option Identifications → Option LastPlaces → Type 0
AreIdsPlacedIn network None places = Unit {0}
AreIdsPlacedIn network (Some list) places = AreIdsPlaced network list.ids places

abbrev pub AreCountsPlacedIn : List ℕ → Option counts.Numbers → Option CountPlaces → Type 0
AreCountsPlacedIn network None places = Unit {0}
AreCountsPlacedIn network (Some list) places = AreCountsPlaced network list.entries places

-- the places are those of the reply's lists
abbrev pub ArePlacesOf : List ℕ → Message → ReplyPlaces → Type 0
ArePlacesOf network m places = AreFailuresPlacedIn network (failures_of m) places.failures × AreIdsPlacedIn network (ids_of m) places.cells × AreCountsPlacedIn network (numbers_of m) places.counts
