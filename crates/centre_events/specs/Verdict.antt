-- What an event is answered: the first refusal whose cause holds, in the order of the refusals, or else its answer.
use Rattle.std.specs.Prelude.{ℕ, ◌+◌, Bool, true, false, ◌&&◌, ◌||◌, not, List, [], ◌∷◌, ◌++◌, Option, Some, None, Result, Ok, Err, nat_eq, nat_le, if◌then◌else◌}
use Rattle.std.specs.Option.{is_some, option_map, option_to_list}
use Rattle.std.specs.List.{list_any}
use Rattle.areas.specs.Name.{is_name}
use Rattle.areas.specs.declared.selector.Selector.{Selector}
use Rattle.cbsp_messages.specs.declared.message.Message.{Message}
use Rattle.cbsp_messages.specs.declared.message.Message.TheVariants as message
use Rattle.cell_register.specs.Register.{is_place}
use Rattle.common.specs.declared.cell.Cell.{Cell}
use Rattle.serials.specs.Serials.{next_of}
use Rattle.warning_book.specs.Book.{names, current_of, is_reused, is_so, warning_is, new_serial, next_serial, content_of, warning_of}
use Rattle.warning_book.specs.Checks as book
use Rattle.warning_book.specs.declared.content.Content.{Content}
use Rattle.warning_book.specs.declared.notice.Notice.{Notice}
use Rattle.warning_book.specs.declared.refusal.Refusal as book_refusal
use Rattle.warning_book.specs.declared.warning.Warning.{Warning}
use Rattle.centre_events.specs.Asking.{warning_query}
use Rattle.centre_events.specs.Cover.{is_area, area_count, has_selector, selector_count}
use Rattle.order_maker.specs.Grouping.{first}
use Rattle.centre_events.specs.InFlight.{in_flight, matches_flight}
use Rattle.centre_events.specs.Links.{is_bsc, bsc_count, is_up, last_link}
use Rattle.centre_events.specs.OrderMessage.{order_message}
use Rattle.centre_events.specs.Outcomes.{replies_to, failed_ids, listed_cells}
use Rattle.centre_events.specs.Past.{Past, entry_count, position}
use Rattle.centre_events.specs.Pending.{pending}
use Rattle.centre_events.specs.Places.{cells, place, is_registered, cell_count}
use Rattle.centre_events.specs.Refusals.{of_book}
use Rattle.centre_events.specs.Reported.{is_reported, is_in_flight, is_key_reported, is_key_in_flight}
use Rattle.centre_events.specs.Warnings.{book_of, warnings_of}
use Rattle.centre_events.specs.declared.answer.Answer.{Answer}
use Rattle.centre_events.specs.declared.answer.Answer.TheVariants as answer
use Rattle.coverage_plan.specs.Checks.{translated}
use Rattle.coverage_plan.specs.declared.edit.Edit.{Edit}
use Rattle.coverage_plan.specs.declared.edit.Edit.TheVariants as edit
use Rattle.centre_events.specs.declared.event.Event.{Event}
use Rattle.centre_events.specs.declared.event.Event.TheVariants as event
use Rattle.centre_events.specs.declared.in_flight.InFlight.{InFlight}
use Rattle.centre_events.specs.declared.network.Network.{Network}
use Rattle.order_maker.specs.declared.order.Order.{Order}
use Rattle.centre_events.specs.declared.refusal.Limit.TheVariants as limit
use Rattle.centre_events.specs.declared.refusal.Refusal.{Refusal}
use Rattle.centre_events.specs.declared.refusal.Refusal.TheVariants as refusal
use Rattle.centre_events.specs.declared.settings.Settings.{Settings}

-- the refusal of the first check that holds, or else the answer
abbrev pub unless : List (Bool × Refusal) → Result Answer Refusal → Result Answer Refusal
unless [] a = a
unless (check ∷ checks) a = if check.0 then Err check.1 else unless checks a

-- why an AddBsc is refused
abbrev pub add_bsc_checks : Past → ℕ → List (Bool × Refusal)
add_bsc_checks past b = (is_bsc past b, refusal.BscExists) ∷ (nat_le 256 (bsc_count past), refusal.Limit limit.Bscs) ∷ []

-- what an AddBsc is answered
abbrev pub add_bsc : Past → ℕ → Result Answer Refusal
add_bsc past b = unless (add_bsc_checks past b) (Ok answer.Done)

-- a cell is registered at the BSC
abbrev pub has_cells : Past → ℕ → Bool
has_cells past b = list_any (λ c. is_place (place past c) b) (cells past)

-- why a RemoveBsc is refused
abbrev pub remove_bsc_checks : Past → ℕ → List (Bool × Refusal)
remove_bsc_checks past b = (not (is_bsc past b), refusal.NoSuchBsc) ∷ (has_cells past b, refusal.BscHasCells) ∷ (is_up past b, refusal.LinkIsUp) ∷ []

-- what a RemoveBsc is answered
abbrev pub remove_bsc : Past → ℕ → Result Answer Refusal
remove_bsc past b = unless (remove_bsc_checks past b) (Ok answer.Done)

-- why an AddCell is refused
abbrev pub add_cell_checks : Past → Cell → ℕ → List (Bool × Refusal)
add_cell_checks past c b = (not (is_bsc past b), refusal.NoSuchBsc) ∷ (is_registered past c, refusal.CellExists) ∷ (nat_le 65536 (cell_count past), refusal.Limit limit.Cells) ∷ []

-- what an AddCell is answered
abbrev pub add_cell : Past → Cell → ℕ → Result Answer Refusal
add_cell past c b = unless (add_cell_checks past c b) (Ok answer.Done)

-- why a MoveCell is refused
abbrev pub move_cell_checks : Past → Cell → ℕ → List (Bool × Refusal)
move_cell_checks past c b = (not (is_bsc past b), refusal.NoSuchBsc) ∷ (not (is_registered past c), refusal.NoSuchCell) ∷ (is_place (place past c) b, refusal.SameBsc) ∷ []

-- what a MoveCell is answered
abbrev pub move_cell : Past → Cell → ℕ → Result Answer Refusal
move_cell past c b = unless (move_cell_checks past c b) (Ok answer.Done)

-- why a RemoveCell is refused
abbrev pub remove_cell_checks : Past → Cell → List (Bool × Refusal)
remove_cell_checks past c = (not (is_registered past c), refusal.NoSuchCell) ∷ []

-- what a RemoveCell is answered
abbrev pub remove_cell : Past → Cell → Result Answer Refusal
remove_cell past c = unless (remove_cell_checks past c) (Ok answer.Done)

-- why an AddArea is refused
abbrev pub add_area_checks : Past → List ℕ → List (Bool × Refusal)
add_area_checks past a = (not (is_name a), refusal.BadName) ∷ (is_area past a, refusal.AreaExists) ∷ (nat_le 4096 (area_count past), refusal.Limit limit.Areas) ∷ []

-- what an AddArea is answered
abbrev pub add_area : Past → List ℕ → Result Answer Refusal
add_area past a = unless (add_area_checks past a) (Ok answer.Done)

-- a warning in the book names the area
abbrev pub is_in_use : Past → List ℕ → Bool
is_in_use past a = list_any (names a) (warnings_of past)

-- why a DropArea is refused
abbrev pub drop_area_checks : Past → List ℕ → List (Bool × Refusal)
drop_area_checks past a = (not (is_area past a), refusal.NoSuchArea) ∷ (is_in_use past a, refusal.AreaInUse) ∷ []

-- what a DropArea is answered
abbrev pub drop_area : Past → List ℕ → Result Answer Refusal
drop_area past a = unless (drop_area_checks past a) (Ok answer.Done)

-- why a Put is refused
abbrev pub put_checks : Past → List ℕ → Selector → List (Bool × Refusal)
put_checks past a s = (not (is_area past a), refusal.NoSuchArea) ∷ (has_selector past a s, refusal.SelectorThere) ∷ (nat_le 4096 (selector_count past a), refusal.Limit limit.Selectors) ∷ []

-- what a Put is answered
abbrev pub put : Past → List ℕ → Selector → Result Answer Refusal
put past a s = unless (put_checks past a s) (Ok answer.Done)

-- why a Cut is refused
abbrev pub cut_checks : Past → List ℕ → Selector → List (Bool × Refusal)
cut_checks past a s = (not (is_area past a), refusal.NoSuchArea) ∷ (not (has_selector past a s), refusal.SelectorNotThere) ∷ []

-- what a Cut is answered
abbrev pub cut : Past → List ℕ → Selector → Result Answer Refusal
cut past a s = unless (cut_checks past a s) (Ok answer.Done)

-- the checks that the book makes
abbrev pub by_book : List (Bool × book_refusal.Refusal) → List (Bool × Refusal)
by_book checks = translated of_book checks

-- why an Issue is refused
abbrev pub issue_checks : Past → Notice → List (List ℕ) → List (Bool × Refusal)
issue_checks past notice areas = (list_any (λ a. not (is_area past a)) areas, refusal.NoSuchArea) ∷ by_book (book.issue_checks (book_of past) notice areas)

-- the next number, and the serial number of a new warning
abbrev pub issue_answer : ℕ → Option ℕ → Result Answer Refusal
issue_answer n None = Err (refusal.Limit limit.Warnings)
issue_answer n (Some s) = Ok (answer.Issued n s)

-- what an Issue is answered
abbrev pub issue : Past → Notice → List (List ℕ) → Result Answer Refusal
issue past notice areas = unless (issue_checks past notice areas) (issue_answer ((book_of past).issued + 1) (new_serial (book_of past) notice))

-- the next version of the warning of that number is to have a serial number that a version of it has, and that key, its
-- message identifier and this serial number, is as the test says
abbrev pub reuses : Past → ℕ → (ℕ → ℕ → Bool) → Bool
reuses past n test = is_so n (λ w. list_any (λ s. is_reused w s && test w.message_id s) (option_to_list (option_map next_of (current_of w)))) (warnings_of past)

-- why an Update is refused: where it would take a serial number again, nothing of the version that has it may be on air
-- or in flight
abbrev pub update_checks : Past → ℕ → Content → List (Bool × Refusal)
update_checks past n content = by_book (book.there_checks (book_of past) n) ++ (reuses past n (is_key_reported past), refusal.StillReported) ∷ (reuses past n (is_key_in_flight past), refusal.StillInFlight) ∷ by_book (book.content_checks (book_of past) n content)

-- the serial number of the next version; a warning without a version, which no legal past has, gets none
abbrev pub update_answer : Option ℕ → Result Answer Refusal
update_answer None = Ok answer.Done
update_answer (Some s) = Ok (answer.Updated s)

-- what an Update is answered
abbrev pub update : Past → ℕ → Content → Result Answer Refusal
update past n content = unless (update_checks past n content) (update_answer (next_serial (book_of past) n))

-- why a Widen is refused
abbrev pub widen_checks : Past → ℕ → List ℕ → List (Bool × Refusal)
widen_checks past n a = (not (is_area past a), refusal.NoSuchArea) ∷ by_book (book.widen_checks (book_of past) n a)

-- what a Widen is answered
abbrev pub widen : Past → ℕ → List ℕ → Result Answer Refusal
widen past n a = unless (widen_checks past n a) (Ok answer.Done)

-- why a Narrow is refused
abbrev pub narrow_checks : Past → ℕ → List ℕ → List (Bool × Refusal)
narrow_checks past n a = (not (is_area past a), refusal.NoSuchArea) ∷ by_book (book.narrow_checks (book_of past) n a)

-- what a Narrow is answered
abbrev pub narrow : Past → ℕ → List ℕ → Result Answer Refusal
narrow past n a = unless (narrow_checks past n a) (Ok answer.Done)

-- why a Stop is refused
abbrev pub stop_checks : Past → ℕ → List (Bool × Refusal)
stop_checks past n = by_book (book.stop_checks (book_of past) n)

-- what a Stop is answered
abbrev pub stop : Past → ℕ → Result Answer Refusal
stop past n = unless (stop_checks past n) (Ok answer.Done)

-- the book's checks, and that nothing of the warning is on air, or may be, and no order for it is in flight
abbrev pub forget_checks : Past → ℕ → List (Bool × Refusal)
forget_checks past n = by_book (book.forget_checks (book_of past) n) ++ (warning_is (book_of past) n (is_reported past), refusal.StillReported) ∷ (warning_is (book_of past) n (is_in_flight past), refusal.StillInFlight) ∷ []

-- what a Forget is answered
abbrev pub forget : Past → ℕ → Result Answer Refusal
forget past n = unless (forget_checks past n) (Ok answer.Done)

-- why a warning in the book stays there: something of it is on air, or may be, or an order for it is in flight
abbrev pub idle_checks : Past → Warning → List (Bool × Refusal)
idle_checks past w = (is_reported past w, refusal.StillReported) ∷ (is_in_flight past w, refusal.StillInFlight) ∷ []

-- why a LinkUp is refused
abbrev pub link_up_checks : Past → ℕ → List (Bool × Refusal)
link_up_checks past b = (not (is_bsc past b), refusal.NoSuchBsc) ∷ []

-- what a LinkUp is answered
abbrev pub link_up : Past → ℕ → Result Answer Refusal
link_up past b = unless (link_up_checks past b) (Ok (answer.Link (position past + 1)))

-- what is asked of the link of a BSC that is there: it is the latest, and it is up
abbrev pub generation_checks : Past → ℕ → ℕ → List (Bool × Refusal)
generation_checks past b generation = (not (nat_eq generation (last_link past b)), refusal.StaleLink (last_link past b)) ∷ (not (is_up past b), refusal.LinkNotUp) ∷ []

-- what is asked of a link: its BSC is there, it is the latest, and it is up
abbrev pub link_checks : Past → ℕ → ℕ → List (Bool × Refusal)
link_checks past b generation = (not (is_bsc past b), refusal.NoSuchBsc) ∷ generation_checks past b generation

-- what a LinkDown is answered
abbrev pub link_down : Past → ℕ → ℕ → Result Answer Refusal
link_down past b generation = unless (link_checks past b generation) (Ok answer.Done)

-- why a Send is refused
abbrev pub send_checks : Past → ℕ → ℕ → List (Bool × Refusal)
send_checks past b generation = link_checks past b generation ++ (is_some (in_flight past b), refusal.InFlight) ∷ []

-- the order, and the message that carries it with its content, and with the number of broadcasts requested
abbrev pub send_answer : ℕ → Past → Option Order → Result Answer Refusal
send_answer requested past None = Err refusal.NothingPending
send_answer requested past (Some order) = Ok (answer.Sent order (order_message requested order (content_of order.message_id order.serial (warnings_of past))))

-- what a Send is answered
abbrev pub send : ℕ → Past → ℕ → ℕ → Result Answer Refusal
send requested past b generation = unless (send_checks past b generation) (send_answer requested past (first (pending past b)))

-- why an Ask is refused, whatever is on air: as a Send, but that its warning is looked for after its BSC
abbrev pub ask_checks : Past → ℕ → ℕ → ℕ → List (Bool × Refusal)
ask_checks past b generation n = (not (is_bsc past b), refusal.NoSuchBsc) ∷ (not (is_some (warning_of (book_of past) n)), refusal.NoSuchWarning) ∷ generation_checks past b generation ++ (is_some (in_flight past b), refusal.InFlight) ∷ []

-- what an Ask is answered: it is refused too where there is no cell to ask
abbrev pub ask : Past → ℕ → ℕ → ℕ → Option Cell → Result Answer Refusal
ask past b generation n after = unless (ask_checks past b generation n) (warning_query past b (warning_of (book_of past) n) after)

-- why a Retry is refused
abbrev pub retry_checks : Past → ℕ → List (Bool × Refusal)
retry_checks past b = (not (is_bsc past b), refusal.NoSuchBsc) ∷ []

-- what a Retry is answered
abbrev pub retry : Past → ℕ → Result Answer Refusal
retry past b = unless (retry_checks past b) (Ok answer.Done)

-- the message is a RESTART or a FAILURE, which a BSC sends unasked
abbrev pub is_indication : Message → Bool
is_indication (message.Restart m) = true
is_indication (message.Failure m) = true
is_indication other = false

-- the message is no indication and answers nothing that is in flight
abbrev pub is_out_of_place : Message → Option InFlight → Bool
is_out_of_place message flight = not (is_indication message || matches_flight message flight)

-- why a Report is refused
abbrev pub report_checks : Past → ℕ → ℕ → Message → List (Bool × Refusal)
report_checks past b generation message = link_checks past b generation ++ (is_out_of_place message (in_flight past b), refusal.NoOrder) ∷ []

-- what the reply says of each cell of what was in flight
abbrev pub reply_answer : List ℕ → Message → Option InFlight → Result Answer Refusal
reply_answer plmn message None = Err refusal.NoOrder
reply_answer plmn message (Some f) = Ok (answer.Replied (replies_to plmn message f))

-- an indication lists the cells known at the BSC that it names, a reply answers what is in flight
abbrev pub report_answer : List ℕ → Past → ℕ → Message → Option InFlight → Result Answer Refusal
report_answer plmn past b (message.Restart m) flight = Ok (answer.Listed (listed_cells plmn past b m.kind m.cells.ids))
report_answer plmn past b (message.Failure m) flight = Ok (answer.Listed (listed_cells plmn past b m.kind (failed_ids m.failures)))
report_answer plmn past b other flight = reply_answer plmn other flight

-- what a Report is answered
abbrev pub report : List ℕ → Past → ℕ → ℕ → Message → Result Answer Refusal
report plmn past b generation message = unless (report_checks past b generation message) (report_answer plmn past b message (in_flight past b))

-- what an edit is answered
abbrev pub edit_answered : Past → Edit → Result Answer Refusal
edit_answered past (edit.AddBsc b) = add_bsc past b
edit_answered past (edit.RemoveBsc b) = remove_bsc past b
edit_answered past (edit.AddCell c b) = add_cell past c b
edit_answered past (edit.MoveCell c b) = move_cell past c b
edit_answered past (edit.RemoveCell c) = remove_cell past c
edit_answered past (edit.AddArea a) = add_area past a
edit_answered past (edit.DropArea a) = drop_area past a
edit_answered past (edit.Put a s) = put past a s
edit_answered past (edit.Cut a s) = cut past a s
edit_answered past (edit.Issue notice areas) = issue past notice areas
edit_answered past (edit.Update n content) = update past n content
edit_answered past (edit.Widen n a) = widen past n a
edit_answered past (edit.Narrow n a) = narrow past n a
edit_answered past (edit.Stop n) = stop past n
edit_answered past (edit.Forget n) = forget past n

-- what an event is answered where the journal has room
abbrev pub answered : Network → Past → Event → Result Answer Refusal
answered network past (event.Edit e) = edit_answered past e
answered network past (event.Retry b) = retry past b
answered network past (event.LinkUp b) = link_up past b
answered network past (event.LinkDown b generation) = link_down past b generation
answered network past (event.Send b generation) = send network.broadcasts past b generation
answered network past (event.Ask b generation n after) = ask past b generation n after
answered network past (event.Report b generation message) = report network.plmn past b generation message

-- the last position that an entry may have: 2 ^ 64 - 1
abbrev pub last_position : ℕ
last_position = 18446744073709551615

-- the journal has as many entries as it may, or an entry has the last position
abbrev pub is_full : Settings → Past → Bool
is_full settings past = nat_le settings.limit (entry_count past) || nat_le last_position (position past)

-- what an event is answered after that past
abbrev pub verdict : Settings → Past → Event → Result Answer Refusal
verdict settings past e = if is_full settings past then Err refusal.JournalFull else answered settings.network past e
