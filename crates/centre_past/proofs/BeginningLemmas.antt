-- What is wholly at the beginning counts nowhere.
use Rattle.std.proofs.Common.{◌≡◌, ℕ, Bool, true, false, ◌&&◌, not, nat_eq, List, [], ◌∷◌, ◌++◌, Option, Some, None, map, cond, refl, sym, ◌∙◌, ap, eq-eqb}
use Rattle.std.specs.Prelude.{if◌then◌else◌}
use Rattle.std.specs.Cmp.{unsigned_Decides}
use Rattle.std.specs.List.{list_any, flat_map}
use Rattle.cell_register.specs.Register.{is_place}
use Rattle.common.specs.Cell.{cell_eq}
use Rattle.common.specs.Equality.{cell_decides}
use Rattle.common.specs.OnceLaws.{DecidesAll}
use Rattle.common.specs.Order.{each_once}
use Rattle.common.specs.Sorting.{sorted_by}
use Rattle.common.specs.SortingLaws.{sorted_counts}
use Rattle.common.specs.SumLaws.{sums_agree, sum_same, sum_none, count_flat_map}
use Rattle.common.specs.Sums.{one, sum_of, count_of}
use Rattle.common.specs.declared.cell.Cell.{Cell}
use Rattle.warning_book.specs.Book.{current_of, kind_of}
use Rattle.warning_book.specs.declared.version.Version.{Version}
use Rattle.warning_book.specs.declared.warning.Warning.{Warning}
use Rattle.order_maker.specs.Actions.{deed, deeds, kills, in_cell}
use Rattle.order_maker.specs.OrderingLaws.{IsOrder, action_order, action_decides}
use Rattle.order_maker.specs.Pending.{action_eq}
use Rattle.centre_past.specs.Beginning.{IsAtBeginning, AreTheCells, CountsNoOther, IsBscAtBeginning, AreTheBscs, CountsNoOtherBsc}
use Rattle.centre_events.specs.Counts.{count}
use Rattle.centre_events.specs.Cover.{is_covered}
use Rattle.centre_events.specs.Down.{is_down}
use Rattle.centre_events.specs.Effects.{is_among}
use Rattle.order_maker.specs.Grouping.{in_order, grouped, action_lt}
use Rattle.centre_past.specs.Legal.{Legal}
use Rattle.centre_events.specs.Lines.{seen, stand}
use Rattle.centre_events.specs.Links.{is_bsc, added_bsc, bscs}
use Rattle.centre_past.specs.Numbers.{number_at, broadcasts_in, broadcasts_at}
use Rattle.centre_events.specs.Past.{Past}
use Rattle.centre_events.specs.Pending.{actions, pending}
use Rattle.centre_events.specs.Places.{place, added_cell, cells}
use Rattle.centre_events.specs.Plan.{wanted}
use Rattle.centre_events.specs.Presence.{presence, is_held}
use Rattle.mirror.specs.Seen.{Seen, is_absent}
use Rattle.coverage_board.specs.Standings.{Stand, stands, standing, is_way, is_left, is_unwanted}
use Rattle.centre_past.specs.Table.{key_of, keys_in, keys_over, key_lt, table}
use Rattle.centre_events.specs.Warnings.{warnings_of, serials}
use Rattle.centre_events.specs.declared.settings.Settings.{Settings}
use Rattle.coverage_board.specs.declared.way.Way.{Way}
use Rattle.coverage_board.specs.declared.way.Way.TheVariants as way
use Rattle.mirror.specs.declared.presence.Presence.{Presence}
use Rattle.mirror.specs.declared.presence.Presence.TheVariants.{Absent, OnAir, Unknown}
use Rattle.centre_past.specs.declared.reported.reported_key.ReportedKey.{ReportedKey}
use Rattle.order_maker.specs.declared.order_kind.OrderKind.TheVariants.{Kill}
use Rattle.centre_past.proofs.AnyLemmas.{and_none, contrary}
use Rattle.centre_past.proofs.BscLemmas.{bsc_named, place_bsc}
use Rattle.centre_past.proofs.CountLemmas.{named_once}
use Rattle.centre_past.proofs.MarkLemmas.{known_presence, unknown_bsc_presence}
use Rattle.centre_past.proofs.KnownLemmas.{known_place, legal_unfolded}
use Rattle.centre_past.proofs.OrderingLemmas.{Key, bare_lt, bare_same, bare_order, bare_decides, sorted_map}
use Rattle.centre_events.proofs.PastLemmas.{map_joined}

-- A line where nothing is wanted and nothing on air, whatever is held there and be the cell down or not.

abbrev pub blank : Warning → (ℕ → Bool) → Bool → Seen
blank w held down = record {
  presence = λ s. Absent;
  is_held = held;
  message_id = w.message_id;
  versions = serials w;
  wanted = None;
  down = down;
}

abbrev pub IsBlank : Past → ℕ → Warning → Cell → Type 0
IsBlank past b w c = seen past b w c ≡ blank w (is_held past b c w.message_id) (is_down past (kind_of w) b c)

unwanted : (past : Past) (b : ℕ) (w : Warning) (c : Cell) → is_place (place past c) b ≡ false → wanted past b w c ≡ None
unwanted past b w c h =
    ap (λ t. cond (w.active && (t && is_covered past w.areas c)) (current_of w) None) h ∙ ap (λ t. cond t (current_of w) None) (and_none w.active)

pub seen_blank : (past : Past) (b : ℕ) (w : Warning) (c : Cell) → is_place (place past c) b ≡ false → ((m s : ℕ) → presence past b c m s ≡ Absent) → IsBlank past b w c
seen_blank past b w c h g =
    λ i. record { presence = λ s. g w.message_id s i; is_held = is_held past b c w.message_id; message_id = w.message_id; versions = serials w; wanted = unwanted past b w c h i; down = is_down past (kind_of w) b c }

no_kills : (w : Warning) (held : ℕ → Bool) (down : Bool) (ts : List ℕ) → kills (blank w held down) ts ≡ []
no_kills w held down [] = refl
no_kills w held down (t ∷ ts) =
    ap (λ u. (if u then deed (blank w held down) Kill t ∷ [] else []) ++ kills (blank w held down) ts) (none down (held t)) ∙ no_kills w held down ts
  where
    none : (d h : Bool) → (not d && (not h && false)) ≡ false
    none true h = refl
    none false true = refl
    none false false = refl

-- nothing is to be ordered there
pub no_deeds : (past : Past) (b : ℕ) (w : Warning) (c : Cell) → IsBlank past b w c → deeds (seen past b w c) ≡ []
no_deeds past b w c e = ap deeds e ∙ no_kills w (is_held past b c w.message_id) (is_down past (kind_of w) b c) (serials w)

no_actions : (past : Past) (b : ℕ) (w : Warning) (c : Cell) → IsBlank past b w c → actions past b w c ≡ []
no_actions past b w c e = ap (map (in_cell c)) (no_deeds past b w c e)

none_left : (w : Warning) (held : ℕ → Bool) (down : Bool) (ts : List ℕ) → list_any (is_unwanted (blank w held down)) ts ≡ false
none_left w held down [] = refl
none_left w held down (t ∷ ts) = none_left w held down ts

stands_nowhere : (x : Way) (w : Warning) (held : ℕ → Bool) (down : Bool) (t : Stand) → t.seen ≡ blank w held down → stands x t ≡ false
stands_nowhere way.Awaited w held down t e = ap (λ v. is_way way.Awaited (standing v v.wanted)) e
stands_nowhere way.OnAir w held down t e = ap (λ v. is_way way.OnAir (standing v v.wanted)) e
stands_nowhere way.Failed w held down t e = ap (λ v. is_way way.Failed (standing v v.wanted)) e
stands_nowhere way.Left w held down t e = ap is_left e ∙ none_left w held down (serials w)

pub not_counted : (past : Past) (x : Way) (b : ℕ) (w : Warning) (c : Cell) → IsBlank past b w c → one (stands x (stand past b w c)) ≡ 0
not_counted past x b w c e = ap one (stands_nowhere x w (is_held past b c w.message_id) (is_down past (kind_of w) b c) (stand past b w c) e)

-- nothing that was broadcast is counted in a cell away from its BSC
not_broadcast : (past : Past) (w : Warning) (b : ℕ) (c : Cell) → is_place (place past c) b ≡ false → broadcasts_in past w b c ≡ 0
not_broadcast past w b c away = ap (λ t. if t && is_covered past w.areas c then sum_of (count past b c w.message_id) (serials w) else 0) away

-- A cell at the beginning.

pub at_cell : (past : Past) (b : ℕ) (w : Warning) (c : Cell) → IsAtBeginning past c → IsBlank past b w c
at_cell past b w c start = seen_blank past b w c (ap (λ o. is_place o b) start.nowhere) (start.silent b)

-- a cell that was never registered is at the beginning
pub cell_outside : (settings : Settings) (past : Past) → Legal settings past → (c : Cell) → is_among c (cells past) ≡ false → IsAtBeginning past c
cell_outside settings past legal c out = record {
  nowhere = placed (place past c) refl;
  silent = λ b m s. present b m s (presence past b c m s) refl;
}
  where
    placed : (o : Option ℕ) → place past c ≡ o → o ≡ None
    placed None e = refl
    placed (Some b) e =
        let known : is_among c (cells past) ≡ true = known_place past (legal_unfolded settings past legal) b c (ap (λ o. is_place o b) e ∙ eq-eqb b b refl) in
        let no : true ≡ false = sym known ∙ out in cc

    present : (b m s : ℕ) (p : Presence) → presence past b c m s ≡ p → p ≡ Absent
    present b m s Absent e = refl
    present b m s OnAir e =
        let known : is_among c (cells past) ≡ true = known_presence settings past legal b c m s (ap is_absent e) in
        let no : true ≡ false = sym known ∙ out in cc
    present b m s Unknown e =
        let known : is_among c (cells past) ≡ true = known_presence settings past legal b c m s (ap is_absent e) in
        let no : true ≡ false = sym known ∙ out in cc

-- the cells that were ever registered are such a list
all_cells : (settings : Settings) (past : Past) → Legal settings past → AreTheCells past (cells past)
all_cells settings past legal = record {
  once = named_once cell_eq added_cell (λ base. base.cells) refl past (legal_unfolded settings past legal);
  others = λ c out. cell_outside settings past legal c out;
}

-- What lines come to, put in order, over two such lists.

sorted_over : {B : Type 0} (same before : B → B → Bool) → DecidesAll same → IsOrder same before → (f : Warning → Cell → List B) (ws : List Warning) (cs ds : List Cell) → each_once cell_eq cs ≡ true → each_once cell_eq ds ≡ true → ((w : Warning) (c : Cell) → is_among c cs ≡ false → f w c ≡ []) → ((w : Warning) (c : Cell) → is_among c ds ≡ false → f w c ≡ []) → sorted_by before (flat_map (λ w. flat_map (f w) cs) ws) ≡ sorted_by before (flat_map (λ w. flat_map (f w) ds) ws)
sorted_over {B} same before d order f ws cs ds once also out off =
    sorted_counts same before d order.0 order.1.0 order.1.1 (flat_map (λ w. flat_map (f w) cs) ws) (flat_map (λ w. flat_map (f w) ds) ws)
    (λ z. count_flat_map (same z) (λ w. flat_map (f w) cs) ws
    ∙ sum_same (λ w. count_of (same z) (flat_map (f w) cs)) (λ w. count_of (same z) (flat_map (f w) ds)) (each z) ws
    ∙ sym (count_flat_map (same z) (λ w. flat_map (f w) ds) ws))
  where
    each : (z : B) (w : Warning) → count_of (same z) (flat_map (f w) cs) ≡ count_of (same z) (flat_map (f w) ds)
    each z w =
        count_flat_map (same z) (f w) cs
        ∙ sums_agree cell_eq cell_decides cs ds once also (λ c. count_of (same z) (f w c)) (λ c h. ap (count_of (same z)) (out w c h)) (λ c h. ap (count_of (same z)) (off w c h))
        ∙ sym (count_flat_map (same z) (f w) ds)

-- Keys, without their presences.

abbrev bare_if : Cell → ℕ → ℕ → Presence → List Key
bare_if c m s p = if is_absent p then [] else record { cell = c; message_id = m; serial = s } ∷ []

abbrev bare_in : Past → ℕ → Warning → Cell → List Key
bare_in past b w c = flat_map (λ (v : Version). bare_if c w.message_id v.serial (presence past b c w.message_id v.serial)) w.versions

abbrev bare_over : Past → ℕ → List Cell → List Key
bare_over past b cs = flat_map (λ w. flat_map (bare_in past b w) cs) (warnings_of past)

-- the key with its presence
abbrev told : Past → ℕ → Key → ReportedKey
told past b k = record { cell = k.cell; message_id = k.message_id; serial = k.serial; presence = presence past b k.cell k.message_id k.serial }

flat_told : {X K Y : Type 0} (h : K → Y) (f : X → List Y) (g : X → List K) → ((x : X) → f x ≡ map h (g x)) → (xs : List X) → flat_map f xs ≡ map h (flat_map g xs)
flat_told h f g e [] = refl
flat_told h f g e (x ∷ xs) =
    ap (λ l. l ++ flat_map f xs) (e x) ∙ ap (λ l. map h (g x) ++ l) (flat_told h f g e xs) ∙ sym (map_joined h (g x) (flat_map g xs))

key_told : (past : Past) (b : ℕ) (w : Warning) (c : Cell) (s : ℕ) → key_of past b w c s ≡ map (told past b) (bare_if c w.message_id s (presence past b c w.message_id s))
key_told past b w c s = step (is_absent (presence past b c w.message_id s))
  where
    whole : ReportedKey
    whole = record { cell = c; message_id = w.message_id; serial = s; presence = presence past b c w.message_id s }

    bare : Key
    bare = record { cell = c; message_id = w.message_id; serial = s }

    step : (t : Bool) → (if t then [] else whole ∷ []) ≡ map (told past b) (if t then [] else bare ∷ [])
    step true = refl
    step false = refl

keys_told : (past : Past) (b : ℕ) (cs : List Cell) → keys_over past b cs ≡ map (told past b) (bare_over past b cs)
keys_told past b cs =
    flat_told (told past b) (λ w. flat_map (keys_in past b w) cs) (λ w. flat_map (bare_in past b w) cs)
    (λ w. flat_told (told past b) (keys_in past b w) (bare_in past b w)
    (λ c. flat_told (told past b) (λ (v : Version). key_of past b w c v.serial) (λ (v : Version). bare_if c w.message_id v.serial (presence past b c w.message_id v.serial)) (λ v. key_told past b w c v.serial) w.versions)
    cs)
    (warnings_of past)

no_keys : (past : Past) (b : ℕ) (w : Warning) (c : Cell) → ((m s : ℕ) → presence past b c m s ≡ Absent) → bare_in past b w c ≡ []
no_keys past b w c silent = each w.versions
  where
    each : (vs : List Version) → flat_map (λ (v : Version). bare_if c w.message_id v.serial (presence past b c w.message_id v.serial)) vs ≡ []
    each [] = refl
    each (v ∷ vs) =
        ap (λ p. bare_if c w.message_id v.serial p ++ flat_map (λ (u : Version). bare_if c w.message_id u.serial (presence past b c w.message_id u.serial)) vs) (silent w.message_id v.serial) ∙ each vs

-- The law of cells.

-- the table of a BSC is the same over two lists outside which nothing is on air there
table_lists : (past : Past) (b : ℕ) (cs ds : List Cell) → each_once cell_eq cs ≡ true → each_once cell_eq ds ≡ true → ((c : Cell) → is_among c cs ≡ false → (m s : ℕ) → presence past b c m s ≡ Absent) → ((c : Cell) → is_among c ds ≡ false → (m s : ℕ) → presence past b c m s ≡ Absent) → sorted_by key_lt (keys_over past b cs) ≡ sorted_by key_lt (keys_over past b ds)
table_lists past b cs ds once also out off =
    ap (sorted_by key_lt) (keys_told past b cs)
    ∙ sorted_map (told past b) key_lt (bare_over past b cs)
    ∙ ap (map (told past b)) (sorted_over bare_same bare_lt bare_decides bare_order (bare_in past b) (warnings_of past) cs ds once also (λ w c h. no_keys past b w c (out c h)) (λ w c h. no_keys past b w c (off c h)))
    ∙ sym (sorted_map (told past b) key_lt (bare_over past b ds))
    ∙ sym (ap (sorted_by key_lt) (keys_told past b ds))

two_lists : (past : Past) (cs ds : List Cell) → AreTheCells past cs → AreTheCells past ds → (b : ℕ) → sorted_by key_lt (keys_over past b cs) ≡ sorted_by key_lt (keys_over past b ds)
two_lists past cs ds here there b = table_lists past b cs ds here.once there.once (λ c h. (here.others c h).silent b) (λ c h. (there.others c h).silent b)

-- it is what it is over all cells
pub table_over : (settings : Settings) (past : Past) → Legal settings past → (b : ℕ) (cs : List Cell) → each_once cell_eq cs ≡ true → ((c : Cell) → is_among c cs ≡ false → (m s : ℕ) → presence past b c m s ≡ Absent) → sorted_by key_lt (keys_over past b cs) ≡ table past b
table_over settings past legal b cs once out = table_lists past b cs (cells past) once there.once out (λ c h. (there.others c h).silent b)
  where
    there : AreTheCells past (cells past)
    there = all_cells settings past legal

pub counts_no_other : (settings : Settings) (past : Past) (cs : List Cell) → Legal settings past → AreTheCells past cs → CountsNoOther past cs
counts_no_other settings past cs legal here = record {
  numbers = λ w x b.
      sums_agree cell_eq cell_decides cs (cells past) here.once there.once (λ c. one (stands x (stand past b w c)))
      (λ c h. not_counted past x b w c (at_cell past b w c (here.others c h))) (λ c h. not_counted past x b w c (at_cell past b w c (there.others c h)));
  broadcasts = λ w b.
      sums_agree cell_eq cell_decides cs (cells past) here.once there.once (broadcasts_in past w b)
      (λ c h. not_broadcast past w b c (ap (λ o. is_place o b) (here.others c h).nowhere)) (λ c h. not_broadcast past w b c (ap (λ o. is_place o b) (there.others c h).nowhere));
  orders = λ b.
      ap grouped
      (sorted_over action_eq action_lt action_decides action_order (actions past b) (warnings_of past) cs (cells past) here.once there.once
      (λ w c h. no_actions past b w c (at_cell past b w c (here.others c h))) (λ w c h. no_actions past b w c (at_cell past b w c (there.others c h))));
  tables = λ b. two_lists past cs (cells past) here there b;
}
  where
    there : AreTheCells past (cells past)
    there = all_cells settings past legal

-- A BSC that was never registered is at the beginning.

pub bsc_outside : (settings : Settings) (past : Past) → Legal settings past → (b : ℕ) → list_any (nat_eq b) (bscs past) ≡ false → IsBscAtBeginning past b
bsc_outside settings past legal b out = record {
  empty = λ c. contrary (is_place (place past c) b) (is_bsc past b) (place_bsc settings past legal b c) none;
  silent = λ c m s. unknown_bsc_presence settings past legal b c m s none;
}
  where
    none : is_bsc past b ≡ false
    none = contrary (is_bsc past b) (list_any (nat_eq b) (bscs past)) (bsc_named past (legal_unfolded settings past legal) b) out

-- The law of BSCs.

no_number : (past : Past) (w : Warning) (x : Way) (b : ℕ) → IsBscAtBeginning past b → number_at past w x (cells past) b ≡ 0
no_number past w x b start =
    sum_none (λ c. one (stands x (stand past b w c))) (λ c. not_counted past x b w c (seen_blank past b w c (start.empty c) (start.silent c))) (cells past)

no_broadcasts : (past : Past) (w : Warning) (b : ℕ) → IsBscAtBeginning past b → broadcasts_at past w (cells past) b ≡ 0
no_broadcasts past w b start = sum_none (broadcasts_in past w b) (λ c. not_broadcast past w b c (start.empty c)) (cells past)

all_empty : {B : Type 0} (f : Warning → Cell → List B) → ((w : Warning) (c : Cell) → f w c ≡ []) → (ws : List Warning) (cs : List Cell) → flat_map (λ w. flat_map (f w) cs) ws ≡ []
all_empty {B} f none [] cs = refl
all_empty {B} f none (w ∷ ws) cs =
    ap (λ l. l ++ flat_map (λ v. flat_map (f v) cs) ws) (row cs) ∙ all_empty f none ws cs
  where
    row : (ds : List Cell) → flat_map (f w) ds ≡ []
    row [] = refl
    row (d ∷ ds) = ap (λ l. l ++ flat_map (f w) ds) (none w d) ∙ row ds

no_orders : (past : Past) (b : ℕ) → IsBscAtBeginning past b → pending past b ≡ []
no_orders past b start =
    ap (λ l. grouped (in_order l)) (all_empty (actions past b) (λ w c. no_actions past b w c (seen_blank past b w c (start.empty c) (start.silent c))) (warnings_of past) (cells past))

no_table : (past : Past) (b : ℕ) → IsBscAtBeginning past b → table past b ≡ []
no_table past b start =
    ap (sorted_by key_lt) (keys_told past b (cells past) ∙ ap (map (told past b)) (all_empty (bare_in past b) (λ w c. no_keys past b w c (start.silent c)) (warnings_of past) (cells past)))

pub counts_no_other_bsc : (settings : Settings) (past : Past) (bs : List ℕ) → Legal settings past → AreTheBscs past bs → CountsNoOtherBsc past bs
counts_no_other_bsc settings past bs legal here = record {
  numbers = λ w x.
      sums_agree nat_eq unsigned_Decides bs (bscs past) here.once (named_once nat_eq added_bsc (λ base. base.bscs) refl past (legal_unfolded settings past legal)) (number_at past w x (cells past))
      (λ b h. no_number past w x b (here.others b h)) (λ b h. no_number past w x b (bsc_outside settings past legal b h));
  broadcasts = λ w.
      sums_agree nat_eq unsigned_Decides bs (bscs past) here.once (named_once nat_eq added_bsc (λ base. base.bscs) refl past (legal_unfolded settings past legal)) (broadcasts_at past w (cells past))
      (λ b h. no_broadcasts past w b (here.others b h)) (λ b h. no_broadcasts past w b (bsc_outside settings past legal b h));
  orders = λ b h. no_orders past b (here.others b h);
  tables = λ b h. no_table past b (here.others b h);
}
