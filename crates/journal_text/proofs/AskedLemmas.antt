-- What a line asks for: its numbers are in their ranges, its digits spell octets, and its areas are not a hyphen alone.
use Rattle.std.proofs.Common.{◌≡◌, ◌∙◌, ℕ, zero, suc, ◌<◌, ◌≤◌, eqb, leb, Bool, true, false, ◌&&◌, ◌||◌, not, List, [], ◌∷◌, length, Option, Some, None, Result, Ok, Err, if◌then◌else◌, codes, refl, sym, ap, subst, arith}
use Rattle.std.specs.Prelude.{IfSome, bytes_eq, option_and_then, replicate}
use Rattle.std.specs.List.{AllByRecursion, list_any}
use Rattle.std.specs.Option.{option_map}
use Rattle.std.specs.Result.{result_ok}
use Rattle.std.proofs.lemmas.Bool.{and_parts, eqb-true, false_from_ne_true, le-leb, leb-true}
use Rattle.std.proofs.lemmas.Slice.Eq.{bytes_eq-Decides}
use Rattle.areas.specs.Name.{is_name}
use Rattle.areas.specs.declared.selector.Selector.TheVariants as selector
use Rattle.std.specs.Int.{bytes_high_first}
use Rattle.cbsp_messages.specs.Message.{type_of}
use Rattle.cbsp_messages.specs.MessageType.{code_of, is_report, type_with}
use Rattle.cbsp_messages.specs.declared.message.Message.{Message}
use Rattle.cbsp_messages.specs.declared.message_type.MessageType.{MessageType}
use Rattle.cbsp_messages.specs.declared.message_type.MessageType.TheVariants as type
use Rattle.centre_events.specs.declared.event.Event.{Event}
use Rattle.centre_events.specs.declared.event.Event.TheVariants as event
use Rattle.common.specs.declared.cell.Cell.{Cell}
use Rattle.console_text.specs.Events.{event_with}
use Rattle.console_text.specs.Grammar.{alert, alert_heading_of, ask, ask_after, add_cell, bsc_of, category_of, cell_of, content_heading_of, emergency_heading_of, heading_of, if_some, issue, keep, line_of, move_cell, link_generation_of, names_of, realert, scope_of, two_octets_of, update, warning_of}
use Rattle.console_text.specs.Headings.{alert_of, content_of, emergency_content_of, notice_of}
use Rattle.console_text.specs.HexText.{all_octets_of, and_page, fifty, octets_of, pages_of, security_of}
use Rattle.console_text.specs.Numbers.{number_in, number_of, within}
use Rattle.console_text.specs.Parts.{in_front, parts_of}
use Rattle.console_text.specs.Lines.{without_return}
use Rattle.console_text.specs.Words.{is_comment, words_of}
use Rattle.console_text.specs.declared.alert_heading.AlertHeading.{AlertHeading}
use Rattle.console_text.specs.declared.content_heading.ContentHeading.{ContentHeading}
use Rattle.console_text.specs.declared.emergency_heading.EmergencyHeading.{EmergencyHeading}
use Rattle.console_text.specs.declared.heading.Heading.{Heading}
use Rattle.console_text.specs.declared.line.Line.{Line}
use Rattle.console_text.specs.declared.line.Line.TheVariants as line
use Rattle.coverage_plan.specs.declared.edit.Edit.{Edit}
use Rattle.coverage_plan.specs.declared.edit.Edit.TheVariants as edit
use Rattle.framing.specs.Streams.{frame_octets}
use Rattle.hex.specs.Hex.{IsBytes, decode_of}
use Rattle.hex.specs.declared.error.FromHexError.{FromHexError}
use Rattle.hex.proofs.HexLemmas.{decode_of-ok}
use Rattle.serials.specs.declared.scope.Scope.{Scope}
use Rattle.warning_book.specs.Content.{have_pages}
use Rattle.warning_book.specs.declared.category.Category.{Category}
use Rattle.warning_book.specs.declared.content.Content.{Content}
use Rattle.warning_book.specs.declared.content.Content.TheVariants as content
use Rattle.journal_text.specs.Laws.{AskedHasLine, EditIsWellNamed, IsWellNamed}
use Rattle.journal_text.specs.Reading.{IsSentIn, StandsFor, asked}
use Rattle.journal_text.specs.Sayable.{CanBeSaid, EditHasLine, HasFrame, HasLine, IsBsc, IsCell, IsSelector, IsWarning, are_named, is_only_hyphen}
use Rattle.journal_text.proofs.MessageLemmas.{read_has_frame}
use Rattle.journal_text.proofs.OctetLemmas.{bytes_back, bytes_cons, bytes_none}
use Rattle.journal_text.proofs.WordLemmas.{both}

-- ---- numbers

abbrev IsTwo : ℕ → Type 0
IsTwo n = n < 65536

abbrev IsOctet : ℕ → Type 0
IsOctet n = n < 256

within_range : (low high : ℕ) (o : Option ℕ) → IfSome (within low high o) (λ n. (low ≤ n) × (n ≤ high))
within_range low high None = tt
within_range low high (Some n) = step (leb low n && leb n high) refl
  where
    step : (t : Bool) → (leb low n && leb n high) ≡ t → IfSome (if t then Some n else None) (λ n. (low ≤ n) × (n ≤ high))
    step true is = let parts = and_parts (leb low n) (leb n high) is in (leb-true low n parts.0, leb-true n high parts.1)
    step false is = tt

weaker : {A : Type 0} (P Q : A → Type 0) (o : Option A) → ((x : A) → P x → Q x) → IfSome o P → IfSome o Q
weaker P Q None why h = tt
weaker P Q (Some x) why h = why x h

bsc_in : (word : List ℕ) → IfSome (bsc_of word) IsBsc
bsc_in word = weaker _ IsBsc (bsc_of word) (λ n h. (h.0, omega (arith, h.1))) (within_range 1 65535 (number_of word))

two_in : (word : List ℕ) → IfSome (two_octets_of word) IsTwo
two_in word = weaker _ IsTwo (two_octets_of word) (λ n h. omega (arith, h.1)) (within_range 0 65535 (number_of word))

octet_in : (word : List ℕ) → IfSome (number_in 0 255 word) IsOctet
octet_in word = weaker _ IsOctet (number_in 0 255 word) (λ n h. omega (arith, h.1)) (within_range 0 255 (number_of word))

warning_in : (word : List ℕ) → IfSome (warning_of word) IsWarning
warning_in word = weaker _ IsWarning (warning_of word) (λ n h. omega (arith, h.1)) (within_range 0 4294967295 (number_of word))

cell_with : (l c : Option ℕ) → IfSome l IsTwo → IfSome c IsTwo → IfSome (if_some l (λ lac. if_some c (λ ci. let cell : Cell = record { lac = lac; ci = ci } in Some cell))) IsCell
cell_with None c h k = tt
cell_with (Some l) None h k = tt
cell_with (Some l) (Some c) h k = (h, k)

cell_in : (lac ci : List ℕ) → IfSome (cell_of lac ci) IsCell
cell_in lac ci = cell_with (two_octets_of lac) (two_octets_of ci) (two_in lac) (two_in ci)

-- ---- headings

abbrev ContentIsIn : ContentHeading → Type 0
ContentIsIn h = (h.dcs < 256) × (h.period < 65536)

abbrev EmergencyIsIn : EmergencyHeading → Type 0
EmergencyIsIn h = (h.indicator < 256) × (h.warning_type < 65536) × (h.warning_period < 256)

abbrev HeadingIsIn : Heading → Type 0
HeadingIsIn h = (h.message_id < 65536) × ContentIsIn h.content

abbrev AlertIsIn : AlertHeading → Type 0
AlertIsIn h = (h.message_id < 65536) × EmergencyIsIn h.content

content_with : (d : Option ℕ) (c : Option Category) (p : Option ℕ) → IfSome d IsOctet → IfSome p IsTwo
    → IfSome (if_some d (λ dcs. if_some c (λ category. if_some p (λ period. let h : ContentHeading = record { dcs = dcs; category = category; period = period } in Some h)))) ContentIsIn
content_with None c p h k = tt
content_with (Some d) None p h k = tt
content_with (Some d) (Some c) None h k = tt
content_with (Some d) (Some c) (Some p) h k = (h, k)

content_in : (dcs category period : List ℕ) → IfSome (content_heading_of dcs category period) ContentIsIn
content_in dcs category period = content_with (number_in 0 255 dcs) (category_of category) (two_octets_of period) (octet_in dcs) (two_in period)

emergency_with : (i t p : Option ℕ) → IfSome i IsOctet → IfSome t IsTwo → IfSome p IsOctet
    → IfSome (if_some i (λ indicator. if_some t (λ kind. if_some p (λ period. let h : EmergencyHeading = record { indicator = indicator; warning_type = kind; warning_period = period } in Some h)))) EmergencyIsIn
emergency_with None t p h k g = tt
emergency_with (Some i) None p h k g = tt
emergency_with (Some i) (Some t) None h k g = tt
emergency_with (Some i) (Some t) (Some p) h k g = (h, k, g)

emergency_in : (indicator warning_type warning_period : List ℕ) → IfSome (emergency_heading_of indicator warning_type warning_period) EmergencyIsIn
emergency_in indicator warning_type warning_period =
    emergency_with (number_in 0 255 indicator) (two_octets_of warning_type) (number_in 0 255 warning_period) (octet_in indicator) (two_in warning_type) (octet_in warning_period)

heading_with : (m : Option ℕ) (s : Option Scope) (c : Option ContentHeading) → IfSome m IsTwo → IfSome c ContentIsIn
    → IfSome (if_some m (λ message_id. if_some s (λ scope. if_some c (λ content. let h : Heading = record { message_id = message_id; scope = scope; content = content } in Some h)))) HeadingIsIn
heading_with None s c h k = tt
heading_with (Some m) None c h k = tt
heading_with (Some m) (Some s) None h k = tt
heading_with (Some m) (Some s) (Some c) h k = (h, k)

heading_in : (message_id scope dcs category period : List ℕ) → IfSome (heading_of message_id scope dcs category period) HeadingIsIn
heading_in message_id scope dcs category period = heading_with (two_octets_of message_id) (scope_of scope) (content_heading_of dcs category period) (two_in message_id) (content_in dcs category period)

alert_with : (m : Option ℕ) (s : Option Scope) (c : Option EmergencyHeading) → IfSome m IsTwo → IfSome c EmergencyIsIn
    → IfSome (if_some m (λ message_id. if_some s (λ scope. if_some c (λ content. let h : AlertHeading = record { message_id = message_id; scope = scope; content = content } in Some h)))) AlertIsIn
alert_with None s c h k = tt
alert_with (Some m) None c h k = tt
alert_with (Some m) (Some s) None h k = tt
alert_with (Some m) (Some s) (Some c) h k = (h, k)

alert_in : (message_id scope indicator warning_type warning_period : List ℕ) → IfSome (alert_heading_of message_id scope indicator warning_type warning_period) AlertIsIn
alert_in message_id scope indicator warning_type warning_period =
    alert_with (two_octets_of message_id) (scope_of scope) (emergency_heading_of indicator warning_type warning_period) (two_in message_id) (emergency_in indicator warning_type warning_period)

-- ---- areas

-- a text whose only part is another is that text
in_front_some : (x : ℕ) (parts : List (List ℕ)) → in_front (x ∷ []) parts ≡ [] → ⊥
in_front_some x [] is = cc is
in_front_some x (part ∷ parts) is = cc is

some_parts : (separator : ℕ) (text : List ℕ) → parts_of separator text ≡ [] → ⊥
some_parts separator [] is = cc is
some_parts separator (x ∷ xs) is =
    elim (eqb x separator) as (λ b. (if b then [] ∷ parts_of separator xs else in_front (x ∷ []) (parts_of separator xs)) ≡ [] → ⊥) [
      | true ↦ λ h. cc h
      | false ↦ λ h. in_front_some x (parts_of separator xs) h
    ] is

one_part : (separator : ℕ) (text part : List ℕ) → parts_of separator text ≡ part ∷ [] → text ≡ part
one_part separator [] part is = cc is
one_part separator (x ∷ xs) part is =
    elim (eqb x separator) as (λ b. (if b then [] ∷ parts_of separator xs else in_front (x ∷ []) (parts_of separator xs)) ≡ part ∷ [] → x ∷ xs ≡ part) [
      | true ↦ λ h. absurd (some_parts separator xs (let more : parts_of separator xs ≡ [] = cc h in more))
      | false ↦ λ h. step (λ (first : List ℕ) (alone : parts_of separator xs ≡ first ∷ []). one_part separator xs first alone) (parts_of separator xs) refl h
    ] is
  where
    step : ((first : List ℕ) → parts_of separator xs ≡ first ∷ [] → xs ≡ first) → (parts : List (List ℕ)) → parts_of separator xs ≡ parts → in_front (x ∷ []) parts ≡ part ∷ [] → x ∷ xs ≡ part
    step rest [] none h = absurd (some_parts separator xs none)
    step rest (first ∷ more) is h =
        let alone : more ≡ [] = cc h in
        let begins : x ∷ first ≡ part = cc h in
        ap (λ (others : List ℕ). x ∷ others) (rest first (is ∙ ap (λ (ps : List (List ℕ)). first ∷ ps) alone)) ∙ begins

other_names : (areas : List (List ℕ)) → (areas ≡ codes "-" ∷ [] → ⊥) → is_only_hyphen areas ≡ false
other_names [] other = refl
other_names (a ∷ []) other =
    false_from_ne_true (bytes_eq a (codes "-")) (λ same. other (ap (λ (name : List ℕ). name ∷ []) ((bytes_eq-Decides a (codes "-")).0 same)))
other_names (a ∷ b ∷ areas) other = refl

not_hyphen : (word : List ℕ) → is_only_hyphen (names_of word) ≡ false
not_hyphen word = step (bytes_eq word (codes "-")) refl
  where
    step : (t : Bool) → bytes_eq word (codes "-") ≡ t → is_only_hyphen (if t then [] else parts_of 44 word) ≡ false
    step true is = refl
    step false is =
        other_names (parts_of 44 word) (λ only. let same : true ≡ false = sym ((bytes_eq-Decides word (codes "-")).1 (one_part 44 word (codes "-") only)) ∙ is in cc same)

-- ---- lines

abbrev LineIsIn : Line → Type 0
LineIsIn (line.AddBsc b) = IsBsc b
LineIsIn (line.RemoveBsc b) = IsBsc b
LineIsIn (line.AddCell c b) = IsCell c × IsBsc b
LineIsIn (line.MoveCell c b) = IsCell c × IsBsc b
LineIsIn (line.RemoveCell c) = IsCell c
LineIsIn (line.Put a s) = IsSelector s
LineIsIn (line.Cut a s) = IsSelector s
LineIsIn (line.Issue heading text areas) = HeadingIsIn heading × (is_only_hyphen areas ≡ false)
LineIsIn (line.Update n heading text) = IsWarning n × ContentIsIn heading
LineIsIn (line.Alert heading text areas) = AlertIsIn heading × (is_only_hyphen areas ≡ false)
LineIsIn (line.Realert n heading text) = IsWarning n × EmergencyIsIn heading
LineIsIn (line.Widen n a) = IsWarning n
LineIsIn (line.Narrow n a) = IsWarning n
LineIsIn (line.Stop n) = IsWarning n
LineIsIn (line.Forget n) = IsWarning n
LineIsIn (line.Retry b) = IsBsc b
LineIsIn (line.Up b) = IsBsc b
LineIsIn (line.Down b) = IsBsc b
LineIsIn (line.Send b) = IsBsc b
LineIsIn (line.Ask b n after) = IsBsc b × IsWarning n × IfSome after IsCell
LineIsIn (line.Report b text) = IsBsc b
LineIsIn other = Unit {0}

-- a line, if there is one
abbrev IsIn : Option Line → Type 0
IsIn o = IfSome o LineIsIn

-- the first line whose test holds
abbrev choice : List (Bool × Option Line) → Option Line
choice [] = None
choice (row ∷ rows) = if row.0 then row.1 else choice rows

choice_in : (rows : List (Bool × Option Line)) → AllByRecursion (λ (row : Bool × Option Line). IsIn row.1) rows → IsIn (choice rows)
choice_in [] all = tt
choice_in (row ∷ rows) all =
    elim row.0 as (λ t. IsIn (if t then row.1 else choice rows)) [
      | true ↦ all.0
      | false ↦ choice_in rows all.1
    ]

mapped : {A B : Type 0} (P : A → Type 0) (Q : B → Type 0) (f : A → B) (o : Option A) → ((x : A) → P x → Q (f x)) → IfSome o P → IfSome (option_map f o) Q
mapped P Q f None why h = tt
mapped P Q f (Some x) why h = why x h

of_bsc : (f : ℕ → Line) (word : List ℕ) → ((b : ℕ) → IsBsc b → LineIsIn (f b)) → IsIn (option_map f (bsc_of word))
of_bsc f word why = mapped IsBsc LineIsIn f (bsc_of word) why (bsc_in word)

of_warning : (f : ℕ → Line) (word : List ℕ) → ((n : ℕ) → IsWarning n → LineIsIn (f n)) → IsIn (option_map f (warning_of word))
of_warning f word why = mapped IsWarning LineIsIn f (warning_of word) why (warning_in word)

of_cell : (f : Cell → Line) (lac ci : List ℕ) → ((c : Cell) → IsCell c → LineIsIn (f c)) → IsIn (option_map f (cell_of lac ci))
of_cell f lac ci why = mapped IsCell LineIsIn f (cell_of lac ci) why (cell_in lac ci)

of_area : (f : ℕ → Line) (word : List ℕ) → ((l : ℕ) → IsTwo l → LineIsIn (f l)) → IsIn (option_map f (two_octets_of word))
of_area f word why = mapped IsTwo LineIsIn f (two_octets_of word) why (two_in word)

cell_at : (f : Cell → ℕ → Line) (c : Option Cell) (b : Option ℕ) → ((cell : Cell) (n : ℕ) → IsCell cell → IsBsc n → LineIsIn (f cell n)) → IfSome c IsCell → IfSome b IsBsc
    → IsIn (if_some c (λ cell. if_some b (λ n. Some (f cell n))))
cell_at f None b why h k = tt
cell_at f (Some c) None why h k = tt
cell_at f (Some c) (Some b) why h k = why c b h k

ask_with : (b n : Option ℕ) (after : Option Cell) → IfSome b IsBsc → IfSome n IsWarning → IfSome after IsCell → IsIn (if_some b (λ bsc. if_some n (λ warning. Some (line.Ask bsc warning after))))
ask_with None n after h k g = tt
ask_with (Some b) None after h k g = tt
ask_with (Some b) (Some n) after h k g = (h, k, g)

keep_with : (b g : Option ℕ) → IsIn (if_some b (λ bsc. if_some g (λ generation. Some (line.Keep bsc generation))))
keep_with None g = tt
keep_with (Some b) None = tt
keep_with (Some b) (Some g) = tt

ask_after_with : (c : Option Cell) (b n : Option ℕ) → IfSome c IsCell → IfSome b IsBsc → IfSome n IsWarning
    → IsIn (if_some c (λ cell. if_some b (λ bsc. if_some n (λ warning. Some (line.Ask bsc warning (Some cell))))))
ask_after_with None b n h k g = tt
ask_after_with (Some c) b n h k g = ask_with b n (Some c) k g h

update_with : (n : Option ℕ) (c : Option ContentHeading) (text : List ℕ) → IfSome n IsWarning → IfSome c ContentIsIn → IsIn (if_some n (λ number. if_some c (λ heading. Some (line.Update number heading text))))
update_with None c text h k = tt
update_with (Some n) None text h k = tt
update_with (Some n) (Some c) text h k = (h, k)

realert_with : (n : Option ℕ) (c : Option EmergencyHeading) (text : List ℕ) → IfSome n IsWarning → IfSome c EmergencyIsIn → IsIn (if_some n (λ number. if_some c (λ heading. Some (line.Realert number heading text))))
realert_with None c text h k = tt
realert_with (Some n) None text h k = tt
realert_with (Some n) (Some c) text h k = (h, k)

-- a line of any words
line_in : (words : List (List ℕ)) → IsIn (line_of words)
line_in (verb ∷ []) =
    choice_in
    ((bytes_eq verb (codes "rebuild"), Some line.Rebuild)
    ∷ (bytes_eq verb (codes "checkpoint"), Some line.Checkpoint)
    ∷ [])
    (tt, (tt, tt))
line_in (verb ∷ x ∷ []) =
    choice_in
    ((bytes_eq verb (codes "retry"), option_map (λ n. line.Retry n) (bsc_of x))
    ∷ (bytes_eq verb (codes "up"), option_map (λ n. line.Up n) (bsc_of x))
    ∷ (bytes_eq verb (codes "down"), option_map (λ n. line.Down n) (bsc_of x))
    ∷ (bytes_eq verb (codes "send"), option_map (λ n. line.Send n) (bsc_of x))
    ∷ (bytes_eq verb (codes "stop"), option_map (λ n. line.Stop n) (warning_of x))
    ∷ (bytes_eq verb (codes "forget"), option_map (λ n. line.Forget n) (warning_of x))
    ∷ (bytes_eq verb (codes "board"), option_map (λ n. line.Board n) (warning_of x))
    ∷ (bytes_eq verb (codes "pending"), option_map (λ n. line.Pending n) (bsc_of x))
    ∷ (bytes_eq verb (codes "table"), option_map (λ n. line.Table n) (bsc_of x))
    ∷ [])
    (of_bsc (λ n. line.Retry n) x (λ n h. h), (of_bsc (λ n. line.Up n) x (λ n h. h), (of_bsc (λ n. line.Down n) x (λ n h. h), (of_bsc (λ n. line.Send n) x (λ n h. h), (of_warning (λ n. line.Stop n) x (λ n h. h), (of_warning (λ n. line.Forget n) x (λ n h. h), (of_warning (λ n. line.Board n) x (λ n h. tt), (of_bsc (λ n. line.Pending n) x (λ n h. tt), (of_bsc (λ n. line.Table n) x (λ n h. tt), tt)))))))))
line_in (verb ∷ x ∷ y ∷ []) =
    choice_in
    ((bytes_eq verb (codes "bsc") && bytes_eq x (codes "add"), option_map (λ n. line.AddBsc n) (bsc_of y))
    ∷ (bytes_eq verb (codes "bsc") && bytes_eq x (codes "remove"), option_map (λ n. line.RemoveBsc n) (bsc_of y))
    ∷ (bytes_eq verb (codes "area") && bytes_eq x (codes "add"), Some (line.AddArea y))
    ∷ (bytes_eq verb (codes "area") && bytes_eq x (codes "drop"), Some (line.DropArea y))
    ∷ (bytes_eq verb (codes "widen"), option_map (λ n. line.Widen n y) (warning_of x))
    ∷ (bytes_eq verb (codes "narrow"), option_map (λ n. line.Narrow n y) (warning_of x))
    ∷ (bytes_eq verb (codes "gen"), keep x y)
    ∷ (bytes_eq verb (codes "rx"), option_map (λ n. line.Report n y) (bsc_of x))
    ∷ (bytes_eq verb (codes "ask"), ask x y None)
    ∷ (bytes_eq verb (codes "board"), option_map (λ n. line.AreaBoard n y) (warning_of x))
    ∷ [])
    (of_bsc (λ n. line.AddBsc n) y (λ n h. h), (of_bsc (λ n. line.RemoveBsc n) y (λ n h. h), (tt, (tt, (of_warning (λ n. line.Widen n y) x (λ n h. h), (of_warning (λ n. line.Narrow n y) x (λ n h. h), (keep_with (bsc_of x) (link_generation_of y), (of_bsc (λ n. line.Report n y) x (λ n h. h), (ask_with (bsc_of x) (warning_of y) None (bsc_in x) (warning_in y) tt, (of_warning (λ n. line.AreaBoard n y) x (λ n h. tt), tt))))))))))
line_in (verb ∷ x ∷ y ∷ z ∷ []) =
    choice_in
    ((bytes_eq verb (codes "cell") && bytes_eq x (codes "remove"), option_map (λ c. line.RemoveCell c) (cell_of y z))
    ∷ (bytes_eq verb (codes "area") && bytes_eq x (codes "put"), option_map (λ l. line.Put y (selector.Lac l)) (two_octets_of z))
    ∷ (bytes_eq verb (codes "area") && bytes_eq x (codes "cut"), option_map (λ l. line.Cut y (selector.Lac l)) (two_octets_of z))
    ∷ [])
    (of_cell (λ c. line.RemoveCell c) y z (λ c h. h), (of_area (λ l. line.Put y (selector.Lac l)) z (λ l h. h), (of_area (λ l. line.Cut y (selector.Lac l)) z (λ l h. h), tt)))
line_in (verb ∷ x ∷ y ∷ z ∷ t ∷ []) =
    choice_in
    ((bytes_eq verb (codes "cell") && bytes_eq x (codes "add"), add_cell y z t)
    ∷ (bytes_eq verb (codes "cell") && bytes_eq x (codes "move"), move_cell y z t)
    ∷ (bytes_eq verb (codes "area") && bytes_eq x (codes "put"), option_map (λ c. line.Put y (selector.Cell c)) (cell_of z t))
    ∷ (bytes_eq verb (codes "area") && bytes_eq x (codes "cut"), option_map (λ c. line.Cut y (selector.Cell c)) (cell_of z t))
    ∷ (bytes_eq verb (codes "ask"), ask_after x y z t)
    ∷ [])
    (cell_at (λ c b. line.AddCell c b) (cell_of y z) (bsc_of t) (λ c b h k. (h, k)) (cell_in y z) (bsc_in t), (cell_at (λ c b. line.MoveCell c b) (cell_of y z) (bsc_of t) (λ c b h k. (h, k)) (cell_in y z) (bsc_in t), (of_cell (λ c. line.Put y (selector.Cell c)) z t (λ c h. h), (of_cell (λ c. line.Cut y (selector.Cell c)) z t (λ c h. h), (ask_after_with (cell_of z t) (bsc_of x) (warning_of y) (cell_in z t) (bsc_in x) (warning_in y), tt)))))
line_in (verb ∷ n ∷ x ∷ y ∷ z ∷ text ∷ []) =
    choice_in
    ((bytes_eq verb (codes "update"), update n x y z text)
    ∷ (bytes_eq verb (codes "realert"), realert n x y z text)
    ∷ [])
    (update_with (warning_of n) (content_heading_of x y z) text (warning_in n) (content_in x y z), (realert_with (warning_of n) (emergency_heading_of x y z) text (warning_in n) (emergency_in x y z), tt))
line_in (verb ∷ m ∷ scope ∷ x ∷ y ∷ z ∷ text ∷ areas ∷ []) =
    choice_in
    ((bytes_eq verb (codes "issue"), issue m scope x y z text areas)
    ∷ (bytes_eq verb (codes "alert"), alert m scope x y z text areas)
    ∷ [])
    (mapped HeadingIsIn LineIsIn (λ h. line.Issue h text (names_of areas)) (heading_of m scope x y z) (λ h is. (is, not_hyphen areas)) (heading_in m scope x y z), (mapped AlertIsIn LineIsIn (λ h. line.Alert h text (names_of areas)) (alert_heading_of m scope x y z) (λ h is. (is, not_hyphen areas)) (alert_in m scope x y z), tt))
line_in words = tt

asked_in : (words : List (List ℕ)) (l : Line) → asked words ≡ Some l → LineIsIn l
asked_in [] l is = absurd (cc is)
asked_in (first ∷ words) l is = step (is_comment first) is
  where
    step : (t : Bool) → (if t then None else line_of (first ∷ words)) ≡ Some l → LineIsIn l
    step true none = absurd (cc none)
    step false some = subst IsIn some (line_in (first ∷ words))

-- ---- octets in hexadecimal digits

octets_bytes : (text : List ℕ) → IfSome (octets_of text) IsBytes
octets_bytes text = step (decode_of text) refl
  where
    step : (r : Result (List ℕ) FromHexError) → decode_of text ≡ r → IfSome (result_ok r) IsBytes
    step (Ok octets) is = (decode_of-ok text octets is).3
    step (Err e) is = tt

and_bytes : (page : Option (List ℕ)) (pages : Option (List (List ℕ))) → IfSome page IsBytes → IfSome pages (AllByRecursion IsBytes) → IfSome (and_page page pages) (AllByRecursion IsBytes)
and_bytes None pages h k = tt
and_bytes (Some page) None h k = tt
and_bytes (Some page) (Some pages) h k = (h, k)

all_bytes : (texts : List (List ℕ)) → IfSome (all_octets_of texts) (AllByRecursion IsBytes)
all_bytes [] = tt
all_bytes (text ∷ texts) = and_bytes (octets_of text) (all_octets_of texts) (octets_bytes text) (all_bytes texts)

pages_bytes : (word : List ℕ) → IfSome (pages_of word) (AllByRecursion IsBytes)
pages_bytes word = step (bytes_eq word (codes "-"))
  where
    step : (t : Bool) → IfSome (if t then Some [] else all_octets_of (parts_of 47 word)) (AllByRecursion IsBytes)
    step true = tt
    step false = all_bytes (parts_of 47 word)

zeros_bytes : (n : ℕ) → IsBytes (replicate n 0)
zeros_bytes zero = bytes_none
zeros_bytes (suc n) = bytes_cons 0 (replicate n 0) (omega arith) (zeros_bytes n)

-- security information: fifty octets
abbrev IsSecurity : List ℕ → Type 0
IsSecurity octets = (length octets ≡ 50) × IsBytes octets

fifty_bytes : (o : Option (List ℕ)) → IfSome o IsBytes → IfSome (option_and_then fifty o) IsSecurity
fifty_bytes None h = tt
fifty_bytes (Some octets) h = step (eqb (length octets) 50) refl
  where
    step : (t : Bool) → eqb (length octets) 50 ≡ t → IfSome (if t then Some octets else None) IsSecurity
    step true is = (eqb-true (length octets) 50 is, h)
    step false is = tt

security_bytes : (word : List ℕ) → IfSome (security_of word) IsSecurity
security_bytes word = step (bytes_eq word (codes "-"))
  where
    step : (t : Bool) → IfSome (if t then Some (replicate 50 0) else option_and_then fifty (octets_of word)) IsSecurity
    step true = (refl, zeros_bytes 50)
    step false = fifty_bytes (octets_of word) (octets_bytes word)

-- ---- the message that a line's digits spell

abbrev reports_by_code : ℕ → Bool
reports_by_code n = not (eqb n 1 || (eqb n 4 || eqb n 10))

by_code : (t : MessageType) → is_report t ≡ reports_by_code (code_of t)
by_code type.WriteReplace = refl
by_code other = refl

report_kind : (o : Option MessageType) (kind : MessageType) → option_and_then (λ t. if is_report t then Some t else None) o ≡ Some kind → is_report kind ≡ true
report_kind None kind is = absurd (cc is)
report_kind (Some t) kind is = step (is_report t) refl is
  where
    step : (b : Bool) → is_report t ≡ b → (if b then Some t else None) ≡ Some kind → is_report kind ≡ true
    step true report same = let own : t ≡ kind = cc same in subst (λ u. is_report u ≡ true) own report
    step false report none = absurd (cc none)

sent_has_frame : (text : List ℕ) (m : Message) → IsSentIn text m → HasFrame m
sent_has_frame text m sent =
    let octets : IsBytes sent.octets = subst (λ o. IfSome o IsBytes) sent.spelled (octets_bytes text) in
    let frame : IsBytes (frame_octets sent.frame) = subst IsBytes sent.whole.whole octets in
    let body : IsBytes sent.frame.body = bytes_back (sent.frame.kind ∷ bytes_high_first 3 (length sent.frame.body)) sent.frame.body frame in
    let report : is_report sent.kind ≡ true = report_kind (type_with sent.frame.kind) sent.kind sent.report in
    let same : is_report (type_of m) ≡ is_report sent.kind = by_code (type_of m) ∙ ap reports_by_code (sym sent.encoded.is_kind) ∙ sym (by_code sent.kind) in
    read_has_frame (code_of sent.kind) sent.frame.body m body sent.encoded (same ∙ report)

-- ---- events

abbrev VersionIsIn : Content → Type 0
VersionIsIn (content.Cbs c) = (c.dcs < 256) × (c.period < 65536) × AllByRecursion IsBytes c.pages
VersionIsIn (content.Emergency c) = CanBeSaid (content.Emergency c)

abbrev EditIsIn : Edit → Type 0
EditIsIn (edit.AddArea a) = Unit {0}
EditIsIn (edit.DropArea a) = Unit {0}
EditIsIn (edit.Put a s) = IsSelector s
EditIsIn (edit.Cut a s) = IsSelector s
EditIsIn (edit.Issue notice areas) = (notice.message_id < 65536) × VersionIsIn notice.content × (is_only_hyphen areas ≡ false)
EditIsIn (edit.Update n c) = IsWarning n × VersionIsIn c
EditIsIn (edit.Widen n a) = IsWarning n
EditIsIn (edit.Narrow n a) = IsWarning n
EditIsIn other = EditHasLine other

abbrev EventIsIn : Event → Type 0
EventIsIn (event.Edit e) = EditIsIn e
EventIsIn other = HasLine other

event_in : (kept : ℕ → ℕ) (l : Line) → LineIsIn l → IfSome (event_with kept l) EventIsIn
event_in kept (line.AddArea a) h = tt
event_in kept (line.DropArea a) h = tt
event_in kept (line.Issue heading text areas) h =
    mapped (AllByRecursion IsBytes) EventIsIn (λ pages. event.Edit (edit.Issue (notice_of heading pages) areas)) (pages_of text)
    (λ pages bytes. (h.0.0, (h.0.1.0, h.0.1.1, bytes), h.1)) (pages_bytes text)
event_in kept (line.Update n heading text) h =
    mapped (AllByRecursion IsBytes) EventIsIn (λ pages. event.Edit (edit.Update n (content_of heading pages))) (pages_of text)
    (λ pages bytes. (h.0, (h.1.0, h.1.1, bytes))) (pages_bytes text)
event_in kept (line.Alert heading text areas) h =
    mapped IsSecurity EventIsIn (λ security. event.Edit (edit.Issue (alert_of heading security) areas)) (security_of text)
    (λ security is. (h.0.0, (h.0.1.0, h.0.1.1, h.0.1.2, is.0, is.1), h.1)) (security_bytes text)
event_in kept (line.Realert n heading text) h =
    mapped IsSecurity EventIsIn (λ security. event.Edit (edit.Update n (emergency_content_of heading security))) (security_of text)
    (λ security is. (h.0, (h.1.0, h.1.1, h.1.2, is.0, is.1))) (security_bytes text)
event_in kept (line.Report b text) h = tt
event_in kept (line.Keep b generation) h = tt
event_in kept (line.Board n) h = tt
event_in kept (line.AreaBoard n a) h = tt
event_in kept (line.Pending b) h = tt
event_in kept (line.Table b) h = tt
event_in kept line.Rebuild h = tt
event_in kept line.Checkpoint h = tt
event_in kept other h = h

stands_in : (kept : ℕ → ℕ) (l : Line) (e : Event) → LineIsIn l → StandsFor kept l e → EventIsIn e
stands_in kept (line.Report b text) e h stands = subst EventIsIn (sym stands.2) (h, sent_has_frame text stands.0 stands.1)
stands_in kept l e h stands = subst (λ o. IfSome o EventIsIn) stands (event_in kept l h)

-- ---- with names and pages that are allowed it has a line

version_said : (c : Content) → VersionIsIn c → have_pages c ≡ true → CanBeSaid c
version_said (content.Cbs c) h pages = (h.0, h.1, pages, h.2)
version_said (content.Emergency c) h pages = h

none_else : (areas : List (List ℕ)) → AllByRecursion (λ a. is_name a ≡ true) areas → list_any (λ a. not (is_name a)) areas ≡ false
none_else [] all = refl
none_else (a ∷ areas) all = ap (λ (b : Bool). not b || list_any (λ x. not (is_name x)) areas) all.0 ∙ none_else areas all.1

areas_named : (areas : List (List ℕ)) → 1 ≤ length areas → length areas ≤ 16 → AllByRecursion (λ a. is_name a ≡ true) areas → is_only_hyphen areas ≡ false → are_named areas ≡ true
areas_named areas some few all other =
    both (leb 1 (length areas) && leb (length areas) 16) (not (list_any (λ a. not (is_name a)) areas) && not (is_only_hyphen areas))
    (both (leb 1 (length areas)) (leb (length areas) 16) (le-leb 1 (length areas) some) (le-leb (length areas) 16 few))
    (both (not (list_any (λ a. not (is_name a)) areas)) (not (is_only_hyphen areas)) (ap not (none_else areas all)) (ap not other))

edit_has_line : (e : Edit) → EditIsIn e → EditIsWellNamed e → EditHasLine e
edit_has_line (edit.AddArea a) h named = named
edit_has_line (edit.DropArea a) h named = named
edit_has_line (edit.Put a s) h named = (named, h)
edit_has_line (edit.Cut a s) h named = (named, h)
edit_has_line (edit.Issue notice areas) h named = record {
  message_id = h.0;
  content = version_said notice.content h.1 named.0;
  areas = areas_named areas named.1 named.2 named.3 h.2;
}
edit_has_line (edit.Update n c) h named = (h.0, version_said c h.1 named)
edit_has_line (edit.Widen n a) h named = (h, named)
edit_has_line (edit.Narrow n a) h named = (h, named)
edit_has_line other h named = h

has_line : (e : Event) → EventIsIn e → IsWellNamed e → HasLine e
has_line (event.Edit e) h named = edit_has_line e h named
has_line other h named = h

pub asked_has_line : AskedHasLine
asked_has_line e asked named = has_line e (stands_in asked.kept asked.request e (asked_in (words_of (without_return asked.octets)) asked.request asked.asked) asked.stands) named
