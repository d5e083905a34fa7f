-- An Update that takes a serial number again is refused by what is kept of the version that has it.
use Rattle.std.proofs.Common.{◌≡◌, ℕ, ◌+◌, ◌*◌, ◌≤◌, Bool, true, false, ◌&&◌, ◌||◌, not, nat_eq, List, [], ◌∷◌, Option, Some, None, Result, Ok, Err, cond, length, map, refl, sym, ◌∙◌, ap, subst, arith, eq-eqb}
use Rattle.std.specs.Prelude.{IsOk, find, if◌then◌else◌}
use Rattle.std.specs.Cmp.{unsigned_Decides}
use Rattle.std.specs.List.{list_any}
use Rattle.std.specs.Option.{is_some, option_eq, option_map, option_to_list}
use Rattle.std.proofs.lemmas.Bool.{and_from, not-true}
use Rattle.std.proofs.lemmas.List.{length-map}
use Rattle.cell_register.specs.Register.{State}
use Rattle.common.specs.Cell.{cell_eq}
use Rattle.common.specs.Checks.{first_refusal}
use Rattle.common.specs.Equality.{cell_decides}
use Rattle.common.specs.OnceLaws.{any_turned}
use Rattle.common.specs.Order.{is_ascending}
use Rattle.common.specs.declared.cell.Cell.{Cell}
use Rattle.kept_tables.specs.Consistent.{Consistent}
use Rattle.kept_tables.specs.SpotLaws.{spot_decides}
use Rattle.kept_tables.specs.Tables.{Tables}
use Rattle.kept_tables.specs.View.{key_of, spot_eq}
use Rattle.kept_tables.specs.declared.spot.Spot.{Spot}
use Rattle.mirror.specs.Blank.{is_blank}
use Rattle.mirror.specs.Line.{state_of}
use Rattle.mirror.specs.Present.{is_present_at}
use Rattle.mirror.specs.Seen.{is_absent}
use Rattle.mirror.specs.Table.{Table, is_key, line_at}
use Rattle.mirror.specs.declared.key_state.KeyState.{KeyState}
use Rattle.mirror.specs.declared.line.Line.{Line}
use Rattle.mirror.specs.declared.line_key.LineKey.{LineKey}
use Rattle.serials.specs.Serials.{next_of}
use Rattle.warning_book.specs.Book.{State as BookState, current_of, has_number, has_serial, is_reused, is_so, next_serial, number_lt, warning_of}
use Rattle.warning_book.specs.Checks as book
use Rattle.warning_book.specs.Laws.{found_so}
use Rattle.warning_book.specs.declared.content.Content.{Content}
use Rattle.warning_book.specs.declared.refusal.Refusal as book_refusal
use Rattle.warning_book.specs.declared.warning.Warning.{Warning}
use Rattle.centre_answers.specs.Reused.{IsFirst, had_by, is_key_flying, key_checks, most_read, reuse_checks, reused_of}
use Rattle.centre_events.specs.InFlight.{in_flight}
use Rattle.centre_past.specs.Links.{AreLinksOf, flight_in}
use Rattle.centre_events.specs.Kept.{IsRegisterOf}
use Rattle.centre_events.specs.Links.{bscs, is_bsc}
use Rattle.centre_events.specs.Past.{Past}
use Rattle.centre_events.specs.Places.{cells}
use Rattle.centre_events.specs.Counts.{count}
use Rattle.centre_events.specs.Presence.{hold, presence}
use Rattle.centre_events.specs.Refusals.{of_book}
use Rattle.centre_events.specs.Reported.{is_key_in_flight, is_key_present, is_key_reported, is_key_reported_at, names_version}
use Rattle.centre_events.specs.Verdict.{by_book, reuses, unless, update, update_answer}
use Rattle.centre_events.specs.Warnings.{book_of, warnings_of}
use Rattle.centre_events.specs.declared.answer.Answer.{Answer}
use Rattle.centre_past.specs.declared.link.Link.{Link}
use Rattle.centre_events.specs.declared.in_flight.InFlight.{InFlight}
use Rattle.centre_events.specs.declared.refusal.Refusal.{Refusal}
use Rattle.centre_events.specs.declared.refusal.Refusal.TheVariants.{StillReported, StillInFlight}
use Rattle.centre_events.specs.declared.settings.Settings.{Settings}
use Rattle.centre_past.specs.Facts.{facts, facts_of}
use Rattle.centre_past.specs.Idle.{AreKnownOf}
use Rattle.centre_past.specs.Legal.{Legal}
use Rattle.centre_past.specs.Reach.{edit_reach, known_anywhere, size, spot, wraps}
use Rattle.centre_past.specs.Reaching.{TellsLines}
use Rattle.coverage_plan.specs.declared.edit.Edit.TheVariants as edit
use Rattle.centre_answers.proofs.IdleLemmas.{any_both}
use Rattle.centre_answers.proofs.OnAirLemmas.{line_known}
use Rattle.centre_events.proofs.PastLemmas.{any_image}
use Rattle.centre_past.proofs.AnyLemmas.{any_at, any_implies, any_never, any_same, or_none}
use Rattle.centre_past.proofs.BscLemmas.{bsc_named, flight_bsc}
use Rattle.centre_past.proofs.CheckLemmas.{none_left, ok_after, refused}
use Rattle.centre_past.proofs.KnownLemmas.{legal_unfolded}
use Rattle.centre_past.proofs.MarkLemmas.{known_presence, marked_bsc, present_marked}
use Rattle.centre_past.proofs.SpotLemmas as spots
use Rattle.centre_past.proofs.VersionLemmas.{legal_updates, version_state_is}
use Rattle.centre_past.proofs.WarningLemmas.{update_ok, update_there}

-- What is in flight.

version_there : (o : Option InFlight) (m s : ℕ) → names_version o m s ≡ true → is_some o ≡ true
version_there None m s h = cc
version_there (Some f) m s h = refl

-- what is in flight to the registered BSCs is what is in flight
pub key_flying : (settings : Settings) (past : Past) (r : State) (ls : List Link) (m s : ℕ) → Legal settings past → IsRegisterOf past r → AreLinksOf past ls → is_key_flying ls m s r.bscs ≡ is_key_in_flight past m s
key_flying settings past r ls m s legal registered linked =
    any_same (λ b. names_version (flight_in ls b) m s) (λ b. names_version (in_flight past b) m s) (λ b. ap (λ o. names_version o m s) (linked.flights b)) r.bscs
    ∙ any_both nat_eq unsigned_Decides (λ b. names_version (in_flight past b) m s) r.bscs (bscs past)
    (λ b h. any_turned nat_eq unsigned_Decides b r.bscs ∙ registered.bscs b ∙ registered_one b h)
    (λ b h. bsc_named past (legal_unfolded settings past legal) b (registered_one b h))
  where
    registered_one : (b : ℕ) → names_version (in_flight past b) m s ≡ true → is_bsc past b ≡ true
    registered_one b h = flight_bsc settings past legal b (version_there (in_flight past b) m s h)

-- What is on air.

-- a line has of a version what the past says of it
present_same : (settings : Settings) (past : Past) → Legal settings past → (t : Tables) (w : Warning) (s : ℕ) → Consistent t (facts past) → warning_of (book_of past) w.number ≡ Some w → list_any (has_serial s) w.versions ≡ true → (b : ℕ) (c : Cell) → is_present_at t.lines b c w.number s ≡ is_key_present past w.message_id s b c
present_same settings past legal t w s tables found there b c =
    ap (λ (line : Line). not (is_absent (state_of line s).presence)) (tables.lines (key_of b c w.number) ∙ ap (λ o. (facts_of past b c o).line) found)
    ∙ ap (λ (k : KeyState). not (is_absent k.presence)) (version_state_is past b c w s (legal_updates settings past legal w.number w found) there)

-- a message that is on air in a cell at a BSC, or may be, is on air anywhere
present_anywhere : (settings : Settings) (past : Past) → Legal settings past → (m s b : ℕ) (c : Cell) → is_key_present past m s b c ≡ true → is_key_reported past m s ≡ true
present_anywhere settings past legal m s b c h =
    any_at nat_eq unsigned_Decides (is_key_reported_at past m s) b (bscs past) at (bsc_named past (legal_unfolded settings past legal) b (marked_bsc settings past legal b c m s (present_marked (presence past b c m s) (hold past b c m s) (count past b c m s) present)))
  where
    present : is_absent (presence past b c m s) ≡ false
    present = not-true (is_absent (presence past b c m s)) h

    at : is_key_reported_at past m s b ≡ true
    at = any_at cell_eq cell_decides (is_key_present past m s b) c (cells past) h (known_presence settings past legal b c m s present)

-- what is found in the lines is what the past says
reported_is : (settings : Settings) (past : Past) → Legal settings past → (t : Tables) (w : Warning) (s : ℕ) → Consistent t (facts past) → warning_of (book_of past) w.number ≡ Some w → list_any (has_serial s) w.versions ≡ true → (found : Bool) → (found ≡ true → (b : ℕ) × ((c : Cell) × (is_present_at t.lines b c w.number s ≡ true))) → (found ≡ false → (b : ℕ) (c : Cell) → is_present_at t.lines b c w.number s ≡ false) → found ≡ is_key_reported past w.message_id s
reported_is settings past legal t w s tables is there true some none =
    let seen = some refl in
    sym (present_anywhere settings past legal w.message_id s seen.0 seen.1.0 (sym (present_same settings past legal t w s tables is there seen.0 seen.1.0) ∙ seen.1.1))
reported_is settings past legal t w s tables is there false some none =
    sym (any_same (is_key_reported_at past w.message_id s) (λ b. false) at (bscs past) ∙ any_never (bscs past))
  where
    at : (b : ℕ) → is_key_reported_at past w.message_id s b ≡ false
    at b =
        any_same (is_key_present past w.message_id s b) (λ c. false) (λ c. sym (present_same settings past legal t w s tables is there b c) ∙ none refl b c) (cells past) ∙ any_never (cells past)

-- the same, where the warning is looked for by its number
pub reported_by : (settings : Settings) (past : Past) → Legal settings past → (t : Tables) (w : Warning) (s n : ℕ) → n ≡ w.number → Consistent t (facts past) → warning_of (book_of past) w.number ≡ Some w → list_any (has_serial s) w.versions ≡ true → (found : Bool) → (found ≡ true → (b : ℕ) × ((c : Cell) × (is_present_at t.lines b c n s ≡ true))) → (found ≡ false → (b : ℕ) (c : Cell) → is_present_at t.lines b c n s ≡ false) → found ≡ is_key_reported past w.message_id s
reported_by settings past legal t w s n own tables is there found some none =
    reported_is settings past legal t w s tables is there found
    (subst (λ k. found ≡ true → (b : ℕ) × ((c : Cell) × (is_present_at t.lines b c k s ≡ true))) own some)
    (subst (λ k. found ≡ false → (b : ℕ) (c : Cell) → is_present_at t.lines b c k s ≡ false) own none)

-- How many lines are read.

key_at : ℕ → Spot → LineKey
key_at n s = key_of s.bsc s.cell n

-- no more are read than cells are known anywhere
pub looked_few : (settings : Settings) (past : Past) (t u : Table) (r : State) (n old new : ℕ) → Legal settings past → AreKnownOf past t r → u ≡ t → TellsLines u → ((ks : List LineKey) → ((b : ℕ) (c : Cell) → is_blank (line_at t b c n) ≡ false → list_any (λ k. is_key k b c n) ks ≡ true) → new ≤ old + length ks) → new ≤ old + length (known_anywhere past)
unfolding key_at
looked_few settings past t u r n old new legal knows same tells few =
    subst (λ k. new ≤ old + k) (length-map (known_anywhere past) (key_at n)) (few (map (key_at n) (known_anywhere past)) there)
  where
    own : (b : ℕ) (c : Cell) (s : Spot) → spot_eq (spot b c) s ≡ true → is_key (key_at n s) b c n ≡ true
    own b c s h =
        subst (λ (x : Spot). is_key (key_at n x) b c n ≡ true) ((spot_decides (spot b c) s).0 h)
        (and_from (nat_eq b b) (cell_eq c c && nat_eq n n) ((unsigned_Decides b b).1 refl) (and_from (cell_eq c c) (nat_eq n n) ((cell_decides c c).1 refl) ((unsigned_Decides n n).1 refl)))

    there : (b : ℕ) (c : Cell) → is_blank (line_at t b c n) ≡ false → list_any (λ k. is_key k b c n) (map (key_at n) (known_anywhere past)) ≡ true
    there b c h =
        any_image (λ k. is_key k b c n) (key_at n) (known_anywhere past)
        ∙ any_implies (spot_eq (spot b c)) (λ s. is_key (key_at n s) b c n) (own b c) (known_anywhere past)
        ((spots.known_anywhere settings past legal).each (spot b c) ∙ line_known past t r b n c knows (subst TellsLines same tells) h)

-- they are lines on which an Update bears
pub read_in_reach : (past : Past) (n : ℕ) (content : Content) → most_read past (wraps past n) ≤ size (edit_reach past (edit.Update n content))
read_in_reach past n content = step (wraps past n)
  where
    step : (t : Bool) → most_read past t ≤ length (if t then known_anywhere past else (edit_reach past (edit.Stop n)).spots) * 1
    step true = omega arith
    step false = omega arith

-- The serial number that the next version takes.

-- what is asked of it is asked of the version that has it
reuses_found : (past : Past) (n : ℕ) (p : ℕ → ℕ → Bool) (w : Warning) → is_ascending number_lt (warnings_of past) ≡ true → find (has_number n) (warnings_of past) ≡ Some w → reuses past n p ≡ list_any (p w.message_id) (option_to_list (reused_of w))
reuses_found past n p w ordered found =
    found_so n (λ (v : Warning). list_any (λ s. is_reused v s && p v.message_id s) (option_to_list (option_map next_of (current_of v)))) (warnings_of past) w ordered found ∙ step (option_map next_of (current_of w))
  where
    had : (s : ℕ) (t : Bool) → ((t && p w.message_id s) || false) ≡ list_any (p w.message_id) (option_to_list (if t then Some s else None))
    had s true = refl
    had s false = refl

    step : (o : Option ℕ) → list_any (λ s. (option_eq nat_eq o (Some s) && list_any (has_serial s) w.versions) && p w.message_id s) (option_to_list o) ≡ list_any (p w.message_id) (option_to_list (had_by w.versions o))
    step None = refl
    step (Some s) =
        ap (λ t. ((t && list_any (has_serial s) w.versions) && p w.message_id s) || false) (eq-eqb s s refl) ∙ had s (list_any (has_serial s) w.versions)

pub wraps_found : (past : Past) (st : BookState) (n : ℕ) (w : Warning) → st ≡ book_of past → is_ascending number_lt st.warnings ≡ true → warning_of st n ≡ Some w → wraps past n ≡ is_some (reused_of w)
wraps_found past st n w is ordered found =
    reuses_found past n (λ m s. true) w (subst (λ (b : BookState). is_ascending number_lt b.warnings ≡ true) is ordered) (subst (λ (b : BookState). warning_of b n ≡ Some w) is found) ∙ step (reused_of w)
  where
    step : (o : Option ℕ) → list_any (λ s. true) (option_to_list o) ≡ is_some o
    step None = refl
    step (Some s) = refl

-- The checks.

pub first_same : {A : Type 0} (xs ys : List (Bool × Refusal)) (r : Result A Refusal) → first_refusal xs ≡ first_refusal ys → IsFirst xs r → IsFirst ys r
first_same xs ys (Ok a) e h = sym e ∙ h
first_same xs ys (Err x) e h = sym e ∙ h

-- of a warning that is there they are those of the version
pub first_found : (past : Past) (st : BookState) (n : ℕ) (w : Warning) (r : Result Unit Refusal) → st ≡ book_of past → is_ascending number_lt st.warnings ≡ true → warning_of st n ≡ Some w → IsFirst (key_checks past w.message_id (reused_of w)) r → IsFirst (reuse_checks past n) r
first_found past st n w r is ordered found h = first_same (key_checks past w.message_id (reused_of w)) (reuse_checks past n) r same h
  where
    in_order : is_ascending number_lt (warnings_of past) ≡ true
    in_order = subst (λ (b : BookState). is_ascending number_lt b.warnings ≡ true) is ordered

    here : find (has_number n) (warnings_of past) ≡ Some w
    here = subst (λ (b : BookState). warning_of b n ≡ Some w) is found

    step : (o : Option ℕ) → first_refusal (key_checks past w.message_id o) ≡ first_refusal ((list_any (is_key_reported past w.message_id) (option_to_list o), StillReported) ∷ (list_any (is_key_in_flight past w.message_id) (option_to_list o), StillInFlight) ∷ [])
    step None = refl
    step (Some s) = λ i. first_refusal ((sym (or_none (is_key_reported past w.message_id s)) i, StillReported) ∷ (sym (or_none (is_key_in_flight past w.message_id s)) i, StillInFlight) ∷ [])

    same : first_refusal (key_checks past w.message_id (reused_of w)) ≡ first_refusal (reuse_checks past n)
    same =
        step (reused_of w)
        ∙ (λ i. first_refusal ((sym (reuses_found past n (is_key_reported past) w in_order here) i, StillReported) ∷ (sym (reuses_found past n (is_key_in_flight past) w in_order here) i, StillInFlight) ∷ []))

-- of one that isn't, none holds
pub none_so : (n : ℕ) (f : Warning → Bool) (ws : List Warning) → find (has_number n) ws ≡ None → is_so n f ws ≡ false
none_so n f [] h = refl
none_so n f (w ∷ ws) h = step (none_so n f ws) (has_number n w) h
  where
    step : (find (has_number n) ws ≡ None → is_so n f ws ≡ false) → (t : Bool) → cond t (Some w) (find (has_number n) ws) ≡ None → ((t && f w) || is_so n f ws) ≡ false
    step rest true k = cc
    step rest false k = rest k

pub first_missing : (past : Past) (st : BookState) (n : ℕ) → st ≡ book_of past → warning_of st n ≡ None → first_refusal (reuse_checks past n) ≡ None
first_missing past st n is missing =
    λ i. first_refusal ((none (is_key_reported past) i, StillReported) ∷ (none (is_key_in_flight past) i, StillInFlight) ∷ [])
  where
    none : (p : ℕ → ℕ → Bool) → reuses past n p ≡ false
    none p = none_so n (λ (v : Warning). list_any (λ s. is_reused v s && p v.message_id s) (option_to_list (option_map next_of (current_of v)))) (warnings_of past) (subst (λ (b : BookState). warning_of b n ≡ None) is missing)

-- The verdict.

refused_by : (checks : List (Bool × Refusal)) (r : Result Answer Refusal) (e : Refusal) → first_refusal checks ≡ Some e → unless checks r ≡ Err e
refused_by [] r e h = cc
refused_by ((true, x) ∷ checks) r e h = let same : x ≡ e = cc in ap Err same
refused_by ((false, x) ∷ checks) r e h = refused_by checks r e h

pub update_reused : (past : Past) (st : BookState) (n : ℕ) (content : Content) (e : Refusal) → st ≡ book_of past → first_refusal (book.there_checks st n) ≡ None → first_refusal (reuse_checks past n) ≡ Some e → update past n content ≡ Err e
update_reused past st n content e is there h =
    update_there past st n content is there ∙ refused_by (reuse_checks past n) (unless (by_book (book.content_checks (book_of past) n content)) (update_answer (next_serial (book_of past) n))) e h

pub update_bad : (past : Past) (st : BookState) (n : ℕ) (content : Content) (e : book_refusal.Refusal) → st ≡ book_of past → first_refusal (book.there_checks st n) ≡ None → first_refusal (reuse_checks past n) ≡ None → first_refusal (book.content_checks st n content) ≡ Some e → update past n content ≡ Err (of_book e)
update_bad past st n content e is there idle h =
    update_there past st n content is there
    ∙ none_left (reuse_checks past n) (unless (by_book (book.content_checks (book_of past) n content)) (update_answer (next_serial (book_of past) n))) idle
    ∙ refused of_book (book.content_checks (book_of past) n content) (update_answer (next_serial (book_of past) n)) e (rw (← is) h)

pub update_good : (past : Past) (st : BookState) (n : ℕ) (content : Content) → st ≡ book_of past → first_refusal (book.there_checks st n) ≡ None → first_refusal (reuse_checks past n) ≡ None → first_refusal (book.content_checks st n content) ≡ None → IsOk (update past n content)
update_good past st n content is there idle h =
    subst IsOk
    (sym (update_there past st n content is there ∙ none_left (reuse_checks past n) (unless (by_book (book.content_checks (book_of past) n content)) (update_answer (next_serial (book_of past) n))) idle))
    (ok_after of_book (book.content_checks (book_of past) n content) (update_answer (next_serial (book_of past) n)) (rw (← is) h) (update_ok past n))
