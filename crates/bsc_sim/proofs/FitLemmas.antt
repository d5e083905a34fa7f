-- How many octets the lists of a reply have.
use Rattle.std.proofs.Common.{◌≡◌, ℕ, ◌+◌, ◌*◌, ◌<◌, ◌≤◌, Bool, true, false, cond, nat_le, List, [], ◌∷◌, ◌++◌, Option, Some, None, length, map, take, refl, sym, ap, ◌∙◌, subst, arith, length-append}
use Rattle.std.specs.Prelude.{IfSome}
use Rattle.std.specs.List.{AllByRecursion, flat_map}
use Rattle.std.proofs.lemmas.Grind.{flat_map-append}
use Rattle.std.proofs.lemmas.List.{length-take}
use Rattle.std.proofs.lemmas.Bool.{and_parts}
use Rattle.std.proofs.lemmas.Bool.Decides.{nat_tests}
use Rattle.common.specs.declared.cell.Cell.{Cell}
use Rattle.cbsp_ie.specs.declared.cause.Cause.{Cause}
use Rattle.cbsp_ie.specs.declared.cell_id.CellId.{CellId}
use Rattle.cbsp_ie.specs.declared.cell_id.CellId.TheVariants as id
use Rattle.cbsp_ie.specs.declared.count_entry.CountEntry.{CountEntry}
use Rattle.cbsp_ie.specs.declared.fail_entry.FailEntry.{FailEntry}
use Rattle.cbsp_ie.specs.declared.form.Form.TheVariants as form
use Rattle.cbsp_ie.specs.CellId.{form_eq, id_octets}
use Rattle.cbsp_ie.specs.Counts.{Numbers}
use Rattle.cbsp_ie.specs.Identifications.{Identifications, id_of_cell}
use Rattle.cbsp_ie.specs.Written.{cells_octets, count_octets, counts_octets, failure_octets, failures_octets}
use Rattle.cbsp_messages.specs.declared.message.Message.TheVariants as message
use Rattle.cbsp_messages.specs.Written.{Fits}
use Rattle.bsc_sim.specs.declared.request.Request.{Request}
use Rattle.bsc_sim.specs.declared.request.Task.{Task}
use Rattle.bsc_sim.specs.declared.request.Task.TheVariants.{Write, Kill, Query}
use Rattle.bsc_sim.specs.Answering.{Answered, TallyState, carried, cause_in, cell_named, cells_named, count_in, counts_of, done_part, is_taken, channel_of, not_understood, part_of, reply_of, stepped, tally_from, tally_of, task_complete, task_failure}
use Rattle.bsc_sim.specs.Bsc.{BscState}
use Rattle.bsc_sim.specs.Choices.{Chosen, count_of}
use Rattle.bsc_sim.specs.Indications.{failure_in}

-- an entry of a cell by LAC and CI
abbrev pub IsShort : FailEntry → Type 0
IsShort e = length (failure_octets e) ≡ 6

-- cells by LAC and CI
ids_length : (cells : List Cell) → length (flat_map id_octets (map id_of_cell cells)) ≡ 4 * length cells
ids_length [] = refl
ids_length (c ∷ cells) =
    let more = ids_length cells in
    let here = length-append (id_octets (id_of_cell c)) (flat_map id_octets (map id_of_cell cells)) in
    let four : length (id_octets (id_of_cell c)) ≡ 4 = refl in
    omega (arith, here, four, more)

-- such entries
failures_length : (failed : List FailEntry) → AllByRecursion IsShort failed → length (failures_octets failed) ≡ 6 * length failed
failures_length [] short = refl
failures_length (e ∷ failed) short =
    let more = failures_length failed short.1 in
    let here = length-append (failure_octets e) (failures_octets failed) in
    let six : length (failure_octets e) ≡ 6 = short.0 in
    omega (arith, here, six, more)

-- numbers of broadcasts in cells
counted_length : (c : Cell) (n : Option ℕ) → length (flat_map count_octets (count_in c n)) ≤ 7
counted_length c None = omega arith
counted_length c (Some n) = let seven : length (flat_map count_octets (count_in c (Some n))) ≡ 7 = refl in omega (arith, seven)

entries_length : (chosen : Chosen) (cells : List Cell) → length (flat_map count_octets (flat_map (λ c. count_in c (count_of chosen c)) cells)) ≤ 7 * length cells
entries_length chosen [] = omega arith
entries_length chosen (c ∷ cells) =
    let more = entries_length chosen cells in
    let one = count_in c (count_of chosen c) in
    let rest = flat_map (λ d. count_in d (count_of chosen d)) cells in
    let here = ap length (flat_map-append count_octets one rest) ∙ length-append (flat_map count_octets one) (flat_map count_octets rest) in
    let seven = counted_length c (count_of chosen c) in
    omega (arith, here, seven, more)

-- the lists of a reply that names so few cells
done_fits : (done : List Cell) → length done ≤ 9000 → IfSome (done_part done) (λ cells. length (cells_octets cells) < 65536)
done_fits [] few = tt
done_fits (c ∷ done) few = let n = ids_length (c ∷ done) in omega (arith, n, few)

part_fits : (counts : Numbers) (entries : List CountEntry) → length (counts_octets counts) < 65536 → IfSome (part_of counts entries) (λ counts. length (counts_octets counts) < 65536)
part_fits counts [] few = tt
part_fits counts (e ∷ entries) few = few

counts_fit : (chosen : Chosen) (done : List Cell) → length done ≤ 9000 → length (counts_octets (counts_of chosen done)) < 65536
counts_fit chosen done few = let n = entries_length chosen done in omega (arith, n, few)

failures_fit : (failed : List FailEntry) → AllByRecursion IsShort failed → length failed ≤ 10922 → length (failures_octets failed) < 65536
failures_fit failed short few = let n = failures_length failed short in omega (arith, n, few)

-- a COMPLETE
complete_fits : (t : Task) (r : Request) (chosen : Chosen) (done : List Cell) → length done ≤ 9000 → Fits (task_complete t r done (counts_of chosen done))
complete_fits (Write old) r chosen done few = record { cells = done_fits done few; counts = part_fits (counts_of chosen done) (counts_of chosen done).entries (counts_fit chosen done few); failures = tt; pages = tt }
complete_fits Kill r chosen done few = record { cells = done_fits done few; counts = part_fits (counts_of chosen done) (counts_of chosen done).entries (counts_fit chosen done few); failures = tt; pages = tt }
complete_fits Query r chosen done few = record { cells = tt; counts = counts_fit chosen done few; failures = tt; pages = tt }

-- a FAILURE
failure_fits : (t : Task) (r : Request) (chosen : Chosen) (done : List Cell) (failed : List FailEntry) → length done ≤ 9000 → AllByRecursion IsShort failed → length failed ≤ 9000
    → Fits (task_failure t r done (counts_of chosen done) failed)
failure_fits (Write old) r chosen done failed few short less = record { cells = done_fits done few; counts = part_fits (counts_of chosen done) (counts_of chosen done).entries (counts_fit chosen done few); failures = failures_fit failed short (omega (arith, less)); pages = tt }
failure_fits Kill r chosen done failed few short less = record { cells = done_fits done few; counts = part_fits (counts_of chosen done) (counts_of chosen done).entries (counts_fit chosen done few); failures = failures_fit failed short (omega (arith, less)); pages = tt }
failure_fits Query r chosen done failed few short less = record { cells = tt; counts = part_fits (counts_of chosen done) (counts_of chosen done).entries (counts_fit chosen done few); failures = failures_fit failed short (omega (arith, less)); pages = tt }

-- either
reply_fits : (chosen : Chosen) (r : Request) (done : List Cell) (failed : List FailEntry) → length done ≤ 9000 → AllByRecursion IsShort failed → length failed ≤ 9000 → Fits (reply_of chosen r done failed)
reply_fits chosen r done [] few short less = complete_fits r.task r chosen done few
reply_fits chosen r done (e ∷ failed) few short less = failure_fits r.task r chosen done (e ∷ failed) few short less

-- a tally of so many cells, whose failures are short
record IsTallied (t : TallyState) (n : ℕ) : Type 0 where
  few : length t.done + length t.failed ≤ n
  short : AllByRecursion IsShort t.failed

short_last : (failed : List FailEntry) (e : FailEntry) → AllByRecursion IsShort failed → IsShort e → AllByRecursion IsShort (failed ++ e ∷ [])
short_last [] e short here = (here, tt)
short_last (f ∷ failed) e short here = (short.0, short_last failed e short.1 here)

step_tallied : (r : Request) (t : TallyState) (c : Cell) (cause : Option Cause) (n : ℕ) → IsTallied t n → IsTallied (stepped r t c cause) (n + 1)
step_tallied r t c None n h = record { few = omega (arith, h.few, length-append t.done (c ∷ [])); short = h.short }
step_tallied r t c (Some x) n h = record { few = omega (arith, h.few, length-append t.failed (failure_in c x ∷ [])); short = short_last t.failed (failure_in c x) h.short refl }

all_tallied : (own : Option (List Cell)) (chosen : Chosen) (r : Request) (t : TallyState) (cells : List Cell) (n : ℕ) → IsTallied t n → IsTallied (tally_from own chosen r t cells) (n + length cells)
all_tallied own chosen r t [] n h = record { few = omega (arith, h.few); short = h.short }
all_tallied own chosen r t (c ∷ cells) n h =
    let more = all_tallied own chosen r (stepped r t c (cause_in own chosen r t.keys c)) cells (n + 1) (step_tallied r t c (cause_in own chosen r t.keys c) n h) in
    record { few = omega (arith, more.few); short = more.short }

-- no identification names two cells by LAC and CI
cell_length : (i : CellId) → length (cell_named i) ≤ 1
cell_length (id.LacCi lac ci) = omega arith
cell_length other = omega arith

named_length : (ids : List CellId) → length (cells_named ids) ≤ length ids
named_length [] = omega arith
named_length (i ∷ ids) = omega (arith, cell_length i, named_length ids, length-append (cell_named i) (cells_named ids))

-- the answer to a request
pub carried_fits : (b : BscState) (chosen : Chosen) (r : Request) (cells : Identifications) → Fits (carried b chosen r cells).reply
carried_fits b chosen r cells = at (is_taken cells) refl
  where
    nothing : TallyState
    nothing = record { keys = b.keys; done = []; failed = [] }

    tally : TallyState
    tally = tally_of b.own chosen r b.keys (cells_named cells.ids)

    at : (t : Bool) → is_taken cells ≡ t → Fits (cond {A = Answered} t (record { reply = reply_of chosen r tally.done tally.failed; after = record b { keys = tally.keys } }) (record { reply = not_understood (channel_of r); after = b })).reply
    at true e =
        let parts = and_parts (form_eq cells.form form.LacCi) (nat_le (length cells.ids) 9000) e in
        let few : length cells.ids ≤ 9000 = grind (arith, nat_tests, parts.1) in
        let h = all_tallied b.own chosen r nothing (cells_named cells.ids) 0 (record { few = omega arith; short = tt }) in
        reply_fits chosen r tally.done tally.failed (omega (arith, h.few, few, named_length cells.ids)) h.short (omega (arith, h.few, few, named_length cells.ids))
    at false e = record { cells = tt; counts = tt; failures = tt; pages = tt }

-- a FAILURE of so few cells
failed_short : (cells : List Cell) (cause : Cause) → AllByRecursion IsShort (map (λ c. failure_in c cause) cells)
failed_short [] cause = tt
failed_short (c ∷ cells) cause = (refl, failed_short cells cause)

failed_length : (cells : List Cell) (cause : Cause) → length (map (λ c. failure_in c cause) cells) ≡ length cells
failed_length [] cause = refl
failed_length (c ∷ cells) cause = let more = failed_length cells cause in omega (arith, more)

pub fail_fits : (failures : List FailEntry) (cells : List Cell) (cause : Cause) (n : ℕ) → failures ≡ map (λ c. failure_in c cause) (take n cells) → length cells ≤ 10922
    → Fits (message.Failure (record { failures = failures; kind = 0 }))
fail_fits failures cells cause n same few =
    let short = subst (AllByRecursion IsShort) (sym same) (failed_short (take n cells) cause) in
    record { cells = tt; counts = tt; failures = failures_fit failures short (omega (arith, ap length same, failed_length (take n cells) cause, length-take n cells, few)); pages = tt }
