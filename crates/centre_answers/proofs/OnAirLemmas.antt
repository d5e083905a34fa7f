-- The cells that are asked are found in the tables, and no more lines are read for that than there are cells known at the
-- BSC.
use Rattle.std.proofs.Common.{◌≡◌, ℕ, ◌+◌, ◌≤◌, Bool, true, false, ◌&&◌, ◌||◌, List, [], ◌∷◌, Option, Some, Ok, Err, filter, length, take, refl, sym, ◌∙◌, ap, subst, arith}
use Rattle.std.specs.Prelude.{IsOk}
use Rattle.std.specs.List.{list_any}
use Rattle.std.proofs.lemmas.Bool.{and_parts, and_from, or_right}
use Rattle.std.proofs.lemmas.List.{length-map}
use Rattle.cbsp_messages.specs.declared.message.Message.{Message}
use Rattle.cell_register.specs.CellLaws.{cell_lt_follows}
use Rattle.cell_register.specs.Register.{State, place_in, is_place}
use Rattle.common.specs.Cell.{cell_eq, cell_lt}
use Rattle.common.specs.OnceLaws.{once_filter}
use Rattle.common.specs.SortingLaws.{any_sorted, sorted_ascends}
use Rattle.common.specs.declared.cell.Cell.{Cell}
use Rattle.kept_tables.specs.Consistent.{Consistent}
use Rattle.kept_tables.specs.Tables.{Tables}
use Rattle.kept_tables.specs.View.{key_of}
use Rattle.mirror.specs.Blank.{is_blank}
use Rattle.mirror.specs.Line.{state_of}
use Rattle.mirror.specs.OnAir.{AreOnAir, is_after, is_on_air_at, line_count}
use Rattle.mirror.specs.Seen.{is_absent, is_on_air}
use Rattle.mirror.specs.Table.{Table, line_at, has_line, down_for_some}
use Rattle.mirror.specs.declared.key_state.KeyState.{KeyState}
use Rattle.mirror.specs.declared.line.Line.{Line}
use Rattle.mirror.specs.declared.presence.Presence.{Presence}
use Rattle.mirror.specs.declared.presence.Presence.TheVariants.{Absent, OnAir, Unknown}
use Rattle.order_maker.specs.Grouping.{most_cells}
use Rattle.centre_events.specs.OrderMessage.{query_message}
use Rattle.warning_book.specs.Book.{current_of, warning_of}
use Rattle.warning_book.specs.VersionLaws.{current_among}
use Rattle.warning_book.specs.declared.warning.Warning.{Warning}
use Rattle.centre_events.specs.Asking.{is_asked, on_air_after, asked_cells, query_of, version_query}
use Rattle.centre_events.specs.Effects.{is_among}
use Rattle.centre_past.specs.Facts.{facts, facts_of}
use Rattle.centre_past.specs.Idle.{AreKnownOf}
use Rattle.centre_events.specs.Known.{is_known}
use Rattle.centre_past.specs.Legal.{Legal}
use Rattle.centre_events.specs.Past.{Past}
use Rattle.centre_events.specs.Places.{cells}
use Rattle.centre_events.specs.Presence.{presence}
use Rattle.centre_past.specs.Reach.{spot, known_at}
use Rattle.centre_past.specs.Reaching.{TellsLines}
use Rattle.centre_events.specs.Warnings.{book_of}
use Rattle.centre_events.specs.declared.answer.Answer.TheVariants.{Asked}
use Rattle.centre_events.specs.declared.refusal.Refusal.TheVariants.{NothingToAsk}
use Rattle.centre_events.specs.declared.settings.Settings.{Settings}
use Rattle.centre_past.proofs.CountLemmas.{both_or_it}
use Rattle.centre_answers.proofs.ListedLemmas.{apart, filtered}
use Rattle.centre_past.proofs.MarkLemmas.{known_cell, known_presence}
use Rattle.centre_past.proofs.SpotLemmas.{cells_once}
use Rattle.centre_past.proofs.VersionLemmas.{legal_updates, version_state_is}

-- The cells in which the version is on air.

-- the line says of the warning's current version what the past does
on_air_same : (settings : Settings) (past : Past) → Legal settings past → (t : Tables) (b : ℕ) (w : Warning) (s : ℕ) → Consistent t (facts past) → warning_of (book_of past) w.number ≡ Some w → current_of w ≡ Some s → (c : Cell) → is_on_air_at t.lines b c w.number s ≡ is_on_air (presence past b c w.message_id s)
on_air_same settings past legal t b w s tables found current c =
    ap (λ (line : Line). is_on_air (state_of line s).presence) (tables.lines (key_of b c w.number) ∙ ap (λ o. (facts_of past b c o).line) found)
    ∙ ap (λ (k : KeyState). is_on_air k.presence) (version_state_is past b c w s (legal_updates settings past legal w.number w found) (current_among w s current))

-- a cell in which a message is on air was registered
on_air_among : (settings : Settings) (past : Past) → Legal settings past → (b : ℕ) (c : Cell) (m s : ℕ) → is_on_air (presence past b c m s) ≡ true → is_among c (cells past) ≡ true
on_air_among settings past legal b c m s h = known_presence settings past legal b c m s (present (presence past b c m s) h)
  where
    present : (p : Presence) → is_on_air p ≡ true → is_absent p ≡ false
    present Absent g = cc
    present OnAir g = refl
    present Unknown g = refl

-- those that are asked are the ones in which it is on air by the tables
pub asked_on_air : (settings : Settings) (past : Past) → Legal settings past → (t : Tables) (b : ℕ) (w : Warning) (s : ℕ) (after : Option Cell) → Consistent t (facts past) → warning_of (book_of past) w.number ≡ Some w → current_of w ≡ Some s → AreOnAir t.lines b w.number s after (on_air_after past b w.message_id s after)
asked_on_air settings past legal t b w s after tables found current = record {
  ascending = sorted_ascends cell_eq cell_lt apart cell_lt_follows (filter asked (cells past)) (once_filter cell_eq asked (cells past) (cells_once settings past legal));
  exact = exact;
}
  where
    asked : Cell → Bool
    asked = is_asked past b w.message_id s after

    exact : (c : Cell) → list_any (cell_eq c) (on_air_after past b w.message_id s after) ≡ (is_after after c && is_on_air_at t.lines b c w.number s)
    exact c =
        any_sorted cell_lt (cell_eq c) (filter (is_asked past b w.message_id s after) (cells past))
        ∙ filtered (is_asked past b w.message_id s after) c (cells past)
        ∙ sym (both_or_it (is_asked past b w.message_id s after c) (is_among c (cells past)) (λ h. on_air_among settings past legal b c w.message_id s (and_parts (is_after after c) (is_on_air (presence past b c w.message_id s)) h).1))
        ∙ ap (λ x. is_after after c && x) (sym (on_air_same settings past legal t b w s tables found current c))

-- The lines that are read.

-- a cell in which something of a warning is kept is known
pub line_known : (past : Past) (t : Table) (r : State) (b n : ℕ) (c : Cell) → AreKnownOf past t r → TellsLines t → is_blank (line_at t b c n) ≡ false → is_known past b c ≡ true
line_known past t r b n c knows tells h = step (has_line t b c) refl
  where
    step : (x : Bool) → has_line t b c ≡ x → is_known past b c ≡ true
    step true e = sym (knows.known b c) ∙ or_right (is_place (place_in r c) b) (down_for_some t b c || has_line t b c) (or_right (down_for_some t b c) (has_line t b c) e)
    step false e = absurd (let no : true ≡ false = sym (ap is_blank (tells.none b c e n)) ∙ h in cc)

-- that a table has no more lines of a warning at a BSC than there are cells in which the warning's line isn't blank
abbrev pub HasFew : Table → Type 0
HasFew t = (b n : ℕ) (cs : List Cell) → ((c : Cell) → is_blank (line_at t b c n) ≡ false → list_any (cell_eq c) cs ≡ true) → line_count t b n ≤ length cs

-- so there are no more of its lines than cells that are known
lines_few : (settings : Settings) (past : Past) → Legal settings past → (t : Table) (r : State) (b n : ℕ) → AreKnownOf past t r → TellsLines t → HasFew t → line_count t b n ≤ length (known_at past b)
lines_few settings past legal t r b n knows tells few =
    subst (λ k. line_count t b n ≤ k) (sym (length-map (filter (is_known past b) (cells past)) (spot b))) (few b n (filter (is_known past b) (cells past)) there)
  where
    there : (c : Cell) → is_blank (line_at t b c n) ≡ false → list_any (cell_eq c) (filter (is_known past b) (cells past)) ≡ true
    there c h =
        let known : is_known past b c ≡ true = line_known past t r b n c knows tells h in
        filtered (is_known past b) c (cells past) ∙ and_from (is_known past b c) (is_among c (cells past)) known (known_cell settings past legal b c known)

-- and no more are read
pub reads_few : (settings : Settings) (past : Past) (t u v : Table) (r : State) (b n old new : ℕ) → Legal settings past → AreKnownOf past t r → u ≡ t → TellsLines u → v ≡ t → HasFew v → new ≤ old + line_count t b n → new ≤ old + length (known_at past b)
reads_few settings past t u v r b n old new legal knows same tells alike few h =
    omega (arith, h, lines_few settings past legal t r b n knows (subst TellsLines same tells) (subst HasFew alike few))

-- The query.

query_some : (m s : ℕ) (cs : List Cell) → 1 ≤ length cs → query_of m s cs ≡ Ok (Asked m s cs (query_message m s cs))
query_some m s [] h = absurd (omega (arith, h))
query_some m s (c ∷ cs) h = refl

query_none : (m s : ℕ) (cs : List Cell) → length cs ≡ 0 → query_of m s cs ≡ Err NothingToAsk
query_none m s [] h = refl
query_none m s (c ∷ cs) h = absurd (omega (arith, h))

most_is : most_cells ≡ 1000
unfolding most_cells
most_is = refl

-- what is kept in the tables of the current version of a warning in the book
pub record Keeps (past : Past) (t : Tables) (w : Warning) (s : ℕ) : Type 0 where
  pub settings : Settings
  pub legal : Legal settings past
  pub tables : Consistent t (facts past)
  pub found : warning_of (book_of past) w.number ≡ Some w
  pub current : current_of w ≡ Some s

on_air_here : (past : Past) (t : Tables) (b : ℕ) (w : Warning) (s n : ℕ) (after : Option Cell) → Keeps past t w s → n ≡ w.number → AreOnAir t.lines b n s after (on_air_after past b w.message_id s after)
on_air_here past t b w s n after keeps is =
    subst (λ k. AreOnAir t.lines b k s after (on_air_after past b w.message_id s after)) (sym is) (asked_on_air keeps.settings past keeps.legal t b w s after keeps.tables keeps.found keeps.current)

-- where memory runs out while cells are looked for, there are some to ask
pub asks_some : (past : Past) (t : Tables) (b : ℕ) (w : Warning) (s n : ℕ) (after : Option Cell) → Keeps past t w s → n ≡ w.number → ((cs : List Cell) → AreOnAir t.lines b n s after cs → 1 ≤ length (take 1000 cs)) → IsOk (version_query past b w.message_id (Some s) after)
asks_some past t b w s n after keeps is some =
    subst IsOk (sym (query_some w.message_id s (asked_cells past b w.message_id s after) there)) refl
  where
    there : 1 ≤ length (asked_cells past b w.message_id s after)
    there =
        subst (λ k. 1 ≤ length (take k (on_air_after past b w.message_id s after))) (sym most_is) (some (on_air_after past b w.message_id s after) (on_air_here past t b w s n after keeps is))

-- the cells that were found are those that are asked
found_is : (past : Past) (t : Tables) (b : ℕ) (w : Warning) (s n : ℕ) (after : Option Cell) (cs : List Cell) → Keeps past t w s → n ≡ w.number → ((xs : List Cell) → AreOnAir t.lines b n s after xs → cs ≡ take 1000 xs) → version_query past b w.message_id (Some s) after ≡ query_of w.message_id s cs
found_is past t b w s n after cs keeps is first =
    ap (query_of w.message_id s) (ap (λ k. take k (on_air_after past b w.message_id s after)) most_is ∙ sym (first (on_air_after past b w.message_id s after) (on_air_here past t b w s n after keeps is)))

pub found_none : (past : Past) (t : Tables) (b : ℕ) (w : Warning) (s n : ℕ) (after : Option Cell) (cs : List Cell) → Keeps past t w s → n ≡ w.number → ((xs : List Cell) → AreOnAir t.lines b n s after xs → cs ≡ take 1000 xs) → length cs ≡ 0 → version_query past b w.message_id (Some s) after ≡ Err NothingToAsk
found_none past t b w s n after cs keeps is first none = found_is past t b w s n after cs keeps is first ∙ query_none w.message_id s cs none

pub found_some : (past : Past) (t : Tables) (b : ℕ) (w : Warning) (s n : ℕ) (after : Option Cell) (cs : List Cell) → Keeps past t w s → n ≡ w.number → ((xs : List Cell) → AreOnAir t.lines b n s after xs → cs ≡ take 1000 xs) → 1 ≤ length cs → version_query past b w.message_id (Some s) after ≡ Ok (Asked w.message_id s cs (query_message w.message_id s cs))
found_some past t b w s n after cs keeps is first some = found_is past t b w s n after cs keeps is first ∙ query_some w.message_id s cs some

-- the answer that is made of them
pub asked_as : (m s : ℕ) (cs : List Cell) (k j : ℕ) (ds : List Cell) (message : Message) → k ≡ m → j ≡ m → ds ≡ cs → message ≡ query_message k s ds → Asked m s cs (query_message m s cs) ≡ Asked j s cs message
asked_as m s cs k j ds message e f g is =
    ap (Asked m s cs) (sym (is ∙ ap (λ x. query_message x s ds) e ∙ ap (query_message m s) g)) ∙ ap (λ x. Asked x s cs message) (sym f)
