-- The line of each edit.
use Rattle.std.proofs.Common.{◌≡◌, ◌∙◌, ℕ, ◌<◌, true, List, [], ◌∷◌, Option, Some, codes, refl, ap, ap₂, arith}
use Rattle.std.specs.Prelude.{decimal}
use Rattle.std.specs.Option.{option_map}
use Rattle.areas.specs.Name.{is_name}
use Rattle.areas.specs.declared.selector.Selector.{Selector}
use Rattle.areas.specs.declared.selector.Selector.TheVariants as selector
use Rattle.centre_events.specs.declared.event.Event.TheVariants as event
use Rattle.common.specs.declared.cell.Cell.{Cell}
use Rattle.coverage_plan.specs.declared.edit.Edit.{Edit}
use Rattle.coverage_plan.specs.declared.edit.Edit.TheVariants as edit
use Rattle.hex.specs.Hex.{encode_lower}
use Rattle.serials.specs.Serials.{scope_number}
use Rattle.serials.specs.declared.scope.Scope.{Scope}
use Rattle.warning_book.specs.Content.{category_number}
use Rattle.warning_book.specs.declared.cbs_content.CbsContent.{CbsContent}
use Rattle.warning_book.specs.declared.content.Content.{Content}
use Rattle.warning_book.specs.declared.content.Content.TheVariants as content
use Rattle.warning_book.specs.declared.emergency_content.EmergencyContent.{EmergencyContent}
use Rattle.console_text.specs.Grammar.{alert_heading_of, content_heading_of, emergency_heading_of, heading_of, if_some, names_of}
use Rattle.console_text.specs.Headings.{alert_of, content_of, emergency_content_of, notice_of}
use Rattle.console_text.specs.declared.alert_heading.AlertHeading.{AlertHeading}
use Rattle.console_text.specs.declared.content_heading.ContentHeading.{ContentHeading}
use Rattle.console_text.specs.declared.emergency_heading.EmergencyHeading.{EmergencyHeading}
use Rattle.console_text.specs.declared.heading.Heading.{Heading}
use Rattle.console_text.specs.declared.line.Line.TheVariants as line
use Rattle.journal_text.specs.Reading.{IsLineOf}
use Rattle.journal_text.specs.Sayable.{CanBeSaid, EditHasLine, IsBsc, IsCell, IsSelector, IsWarning, are_named}
use Rattle.journal_text.specs.Texts.{areas_word, line_text, pages_word}
use Rattle.journal_text.proofs.ContentLemmas.{areas_read, bsc_back, category_back, category_low, cell_back, octet_back, pages_read, scope_back, scope_low, security_back, two_back, warning_back}
use Rattle.journal_text.proofs.HexLemmas.{hex_word, length_hex}
use Rattle.journal_text.proofs.LineLemmas.{is_line}
use Rattle.journal_text.proofs.NameLemmas.{name_short, name_word}
use Rattle.journal_text.proofs.NumberLemmas.{decimal_short, decimal_word}

-- an edit, as an event
abbrev LineOfEdit : Edit → Type 0
LineOfEdit e = IsLineOf (line_text (event.Edit e)) (event.Edit e)

add_bsc : (b : ℕ) → IsBsc b → LineOfEdit (edit.AddBsc b)
add_bsc b h =
    let short = decimal_short b (omega (arith, h.1)) in
    is_line (event.Edit (edit.AddBsc b)) (codes "bsc") (codes "add" ∷ decimal b ∷ []) (line.AddBsc b)
    (refl, (refl, (decimal_word b (omega (arith, h.1)), tt))) (omega (arith, short))
    (ap (option_map (λ n. line.AddBsc n)) (bsc_back b h)) (λ kept names. refl)

remove_bsc : (b : ℕ) → IsBsc b → LineOfEdit (edit.RemoveBsc b)
remove_bsc b h =
    let short = decimal_short b (omega (arith, h.1)) in
    is_line (event.Edit (edit.RemoveBsc b)) (codes "bsc") (codes "remove" ∷ decimal b ∷ []) (line.RemoveBsc b)
    (refl, (refl, (decimal_word b (omega (arith, h.1)), tt))) (omega (arith, short))
    (ap (option_map (λ n. line.RemoveBsc n)) (bsc_back b h)) (λ kept names. refl)

add_cell : (c : Cell) (b : ℕ) → IsCell c → IsBsc b → LineOfEdit (edit.AddCell c b)
add_cell c b h k =
    let lac = decimal_short c.lac (omega (arith, h.0)) in
    let ci = decimal_short c.ci (omega (arith, h.1)) in
    let short = decimal_short b (omega (arith, k.1)) in
    is_line (event.Edit (edit.AddCell c b)) (codes "cell") (codes "add" ∷ decimal c.lac ∷ decimal c.ci ∷ decimal b ∷ []) (line.AddCell c b)
    (refl, (refl, (decimal_word c.lac (omega (arith, h.0)), (decimal_word c.ci (omega (arith, h.1)), (decimal_word b (omega (arith, k.1)), tt)))))
    (omega (arith, lac, ci, short))
    (ap₂ (λ (o : Option Cell) (p : Option ℕ). if_some o (λ cell. if_some p (λ n. Some (line.AddCell cell n)))) (cell_back c h) (bsc_back b k)) (λ kept names. refl)

move_cell : (c : Cell) (b : ℕ) → IsCell c → IsBsc b → LineOfEdit (edit.MoveCell c b)
move_cell c b h k =
    let lac = decimal_short c.lac (omega (arith, h.0)) in
    let ci = decimal_short c.ci (omega (arith, h.1)) in
    let short = decimal_short b (omega (arith, k.1)) in
    is_line (event.Edit (edit.MoveCell c b)) (codes "cell") (codes "move" ∷ decimal c.lac ∷ decimal c.ci ∷ decimal b ∷ []) (line.MoveCell c b)
    (refl, (refl, (decimal_word c.lac (omega (arith, h.0)), (decimal_word c.ci (omega (arith, h.1)), (decimal_word b (omega (arith, k.1)), tt)))))
    (omega (arith, lac, ci, short))
    (ap₂ (λ (o : Option Cell) (p : Option ℕ). if_some o (λ cell. if_some p (λ n. Some (line.MoveCell cell n)))) (cell_back c h) (bsc_back b k)) (λ kept names. refl)

remove_cell : (c : Cell) → IsCell c → LineOfEdit (edit.RemoveCell c)
remove_cell c h =
    let lac = decimal_short c.lac (omega (arith, h.0)) in
    let ci = decimal_short c.ci (omega (arith, h.1)) in
    is_line (event.Edit (edit.RemoveCell c)) (codes "cell") (codes "remove" ∷ decimal c.lac ∷ decimal c.ci ∷ []) (line.RemoveCell c)
    (refl, (refl, (decimal_word c.lac (omega (arith, h.0)), (decimal_word c.ci (omega (arith, h.1)), tt)))) (omega (arith, lac, ci))
    (ap (option_map (λ cell. line.RemoveCell cell)) (cell_back c h)) (λ kept names. refl)

add_area : (a : List ℕ) → is_name a ≡ true → LineOfEdit (edit.AddArea a)
add_area a h =
    let short = name_short a h in
    is_line (event.Edit (edit.AddArea a)) (codes "area") (codes "add" ∷ a ∷ []) (line.AddArea a) (refl, (refl, (name_word a h, tt))) (omega (arith, short)) refl (λ kept names. refl)

drop_area : (a : List ℕ) → is_name a ≡ true → LineOfEdit (edit.DropArea a)
drop_area a h =
    let short = name_short a h in
    is_line (event.Edit (edit.DropArea a)) (codes "area") (codes "drop" ∷ a ∷ []) (line.DropArea a) (refl, (refl, (name_word a h, tt))) (omega (arith, short)) refl (λ kept names. refl)

put : (a : List ℕ) (s : Selector) → is_name a ≡ true → IsSelector s → LineOfEdit (edit.Put a s)
put a (selector.Lac l) h k =
    let short = name_short a h in
    let lac = decimal_short l (omega (arith, k)) in
    is_line (event.Edit (edit.Put a (selector.Lac l))) (codes "area") (codes "put" ∷ a ∷ decimal l ∷ []) (line.Put a (selector.Lac l))
    (refl, (refl, (name_word a h, (decimal_word l (omega (arith, k)), tt)))) (omega (arith, short, lac))
    (ap (option_map (λ n. line.Put a (selector.Lac n))) (two_back l k)) (λ kept names. refl)
put a (selector.Cell c) h k =
    let short = name_short a h in
    let lac = decimal_short c.lac (omega (arith, k.0)) in
    let ci = decimal_short c.ci (omega (arith, k.1)) in
    is_line (event.Edit (edit.Put a (selector.Cell c))) (codes "area") (codes "put" ∷ a ∷ decimal c.lac ∷ decimal c.ci ∷ []) (line.Put a (selector.Cell c))
    (refl, (refl, (name_word a h, (decimal_word c.lac (omega (arith, k.0)), (decimal_word c.ci (omega (arith, k.1)), tt))))) (omega (arith, short, lac, ci))
    (ap (option_map (λ cell. line.Put a (selector.Cell cell))) (cell_back c k)) (λ kept names. refl)

cut : (a : List ℕ) (s : Selector) → is_name a ≡ true → IsSelector s → LineOfEdit (edit.Cut a s)
cut a (selector.Lac l) h k =
    let short = name_short a h in
    let lac = decimal_short l (omega (arith, k)) in
    is_line (event.Edit (edit.Cut a (selector.Lac l))) (codes "area") (codes "cut" ∷ a ∷ decimal l ∷ []) (line.Cut a (selector.Lac l))
    (refl, (refl, (name_word a h, (decimal_word l (omega (arith, k)), tt)))) (omega (arith, short, lac))
    (ap (option_map (λ n. line.Cut a (selector.Lac n))) (two_back l k)) (λ kept names. refl)
cut a (selector.Cell c) h k =
    let short = name_short a h in
    let lac = decimal_short c.lac (omega (arith, k.0)) in
    let ci = decimal_short c.ci (omega (arith, k.1)) in
    is_line (event.Edit (edit.Cut a (selector.Cell c))) (codes "area") (codes "cut" ∷ a ∷ decimal c.lac ∷ decimal c.ci ∷ []) (line.Cut a (selector.Cell c))
    (refl, (refl, (name_word a h, (decimal_word c.lac (omega (arith, k.0)), (decimal_word c.ci (omega (arith, k.1)), tt))))) (omega (arith, short, lac, ci))
    (ap (option_map (λ cell. line.Cut a (selector.Cell cell))) (cell_back c k)) (λ kept names. refl)

widen : (n : ℕ) (a : List ℕ) → IsWarning n → is_name a ≡ true → LineOfEdit (edit.Widen n a)
widen n a h k =
    let number = decimal_short n (omega (arith, h)) in
    let short = name_short a k in
    is_line (event.Edit (edit.Widen n a)) (codes "widen") (decimal n ∷ a ∷ []) (line.Widen n a) (refl, (decimal_word n (omega (arith, h)), (name_word a k, tt))) (omega (arith, number, short))
    (ap (option_map (λ w. line.Widen w a)) (warning_back n h)) (λ kept names. refl)

narrow : (n : ℕ) (a : List ℕ) → IsWarning n → is_name a ≡ true → LineOfEdit (edit.Narrow n a)
narrow n a h k =
    let number = decimal_short n (omega (arith, h)) in
    let short = name_short a k in
    is_line (event.Edit (edit.Narrow n a)) (codes "narrow") (decimal n ∷ a ∷ []) (line.Narrow n a) (refl, (decimal_word n (omega (arith, h)), (name_word a k, tt))) (omega (arith, number, short))
    (ap (option_map (λ w. line.Narrow w a)) (warning_back n h)) (λ kept names. refl)

stop : (n : ℕ) → IsWarning n → LineOfEdit (edit.Stop n)
stop n h =
    let number = decimal_short n (omega (arith, h)) in
    is_line (event.Edit (edit.Stop n)) (codes "stop") (decimal n ∷ []) (line.Stop n) (refl, (decimal_word n (omega (arith, h)), tt)) (omega (arith, number))
    (ap (option_map (λ w. line.Stop w)) (warning_back n h)) (λ kept names. refl)

forget : (n : ℕ) → IsWarning n → LineOfEdit (edit.Forget n)
forget n h =
    let number = decimal_short n (omega (arith, h)) in
    is_line (event.Edit (edit.Forget n)) (codes "forget") (decimal n ∷ []) (line.Forget n) (refl, (decimal_word n (omega (arith, h)), tt)) (omega (arith, number))
    (ap (option_map (λ w. line.Forget w)) (warning_back n h)) (λ kept names. refl)

-- what is written of a content in front of its pages
abbrev content_heading : CbsContent → ContentHeading
content_heading c = record { dcs = c.dcs; category = c.category; period = c.period }

content_heading_back : (c : CbsContent) → c.dcs < 256 → c.period < 65536 → content_heading_of (decimal c.dcs) (decimal (category_number c.category)) (decimal c.period) ≡ Some (content_heading c)
content_heading_back c dcs period =
    rw (octet_back c.dcs dcs, category_back c.category, two_back c.period period) refl

abbrev emergency_heading : EmergencyContent → EmergencyHeading
emergency_heading c = record { indicator = c.indicator; warning_type = c.warning_type; warning_period = c.warning_period }

emergency_heading_back : (c : EmergencyContent) → c.indicator < 256 → c.warning_type < 65536 → c.warning_period < 256
    → emergency_heading_of (decimal c.indicator) (decimal c.warning_type) (decimal c.warning_period) ≡ Some (emergency_heading c)
emergency_heading_back c indicator type period =
    rw (octet_back c.indicator indicator, two_back c.warning_type type, octet_back c.warning_period period) refl

update : (n : ℕ) (k : Content) → IsWarning n → CanBeSaid k → LineOfEdit (edit.Update n k)
update n (content.Cbs c) h k =
    let number = decimal_short n (omega (arith, h)) in
    let dcs = decimal_short c.dcs (omega (arith, k.0)) in
    let category = decimal_short (category_number c.category) (category_low c.category) in
    let period = decimal_short c.period (omega (arith, k.1)) in
    let pages = pages_read c.pages k.2 k.3 in
    is_line (event.Edit (edit.Update n (content.Cbs c))) (codes "update") (decimal n ∷ decimal c.dcs ∷ decimal (category_number c.category) ∷ decimal c.period ∷ pages_word c.pages ∷ [])
    (line.Update n (content_heading c) (pages_word c.pages))
    (refl, (decimal_word n (omega (arith, h)), (decimal_word c.dcs (omega (arith, k.0)), (decimal_word (category_number c.category) (category_low c.category), (decimal_word c.period (omega (arith, k.1)), (pages.word, tt))))))
    (omega (arith, number, dcs, category, period, pages.short))
    (ap₂ (λ (o : Option ℕ) (p : Option ContentHeading). if_some o (λ w. if_some p (λ heading. Some (line.Update w heading (pages_word c.pages))))) (warning_back n h) (content_heading_back c k.0 k.1))
    (λ kept names. ap (option_map (λ text. event.Edit (edit.Update n (content_of (content_heading c) text)))) pages.back)
update n (content.Emergency c) h k =
    let number = decimal_short n (omega (arith, h)) in
    let indicator = decimal_short c.indicator (omega (arith, k.0)) in
    let type = decimal_short c.warning_type (omega (arith, k.1)) in
    let period = decimal_short c.warning_period (omega (arith, k.2)) in
    let long = length_hex c.security in
    is_line (event.Edit (edit.Update n (content.Emergency c))) (codes "realert") (decimal n ∷ decimal c.indicator ∷ decimal c.warning_type ∷ decimal c.warning_period ∷ encode_lower c.security ∷ [])
    (line.Realert n (emergency_heading c) (encode_lower c.security))
    (refl, (decimal_word n (omega (arith, h)), (decimal_word c.indicator (omega (arith, k.0)), (decimal_word c.warning_type (omega (arith, k.1)), (decimal_word c.warning_period (omega (arith, k.2)), (hex_word c.security (omega (arith, k.3)) k.4, tt))))))
    (omega (arith, number, indicator, type, period, long, k.3))
    (ap₂ (λ (o : Option ℕ) (p : Option EmergencyHeading). if_some o (λ w. if_some p (λ heading. Some (line.Realert w heading (encode_lower c.security))))) (warning_back n h) (emergency_heading_back c k.0 k.1 k.2))
    (λ kept names. ap (option_map (λ octets. event.Edit (edit.Update n (emergency_content_of (emergency_heading c) octets)))) (security_back c.security k.3 k.4))

abbrev heading : ℕ → Scope → CbsContent → Heading
heading m s c = record { message_id = m; scope = s; content = content_heading c }

heading_back : (m : ℕ) (s : Scope) (c : CbsContent) → m < 65536 → c.dcs < 256 → c.period < 65536
    → heading_of (decimal m) (decimal (scope_number s)) (decimal c.dcs) (decimal (category_number c.category)) (decimal c.period) ≡ Some (heading m s c)
heading_back m s c message_id dcs period = rw (two_back m message_id, scope_back s, content_heading_back c dcs period) refl

abbrev alert_heading : ℕ → Scope → EmergencyContent → AlertHeading
alert_heading m s c = record { message_id = m; scope = s; content = emergency_heading c }

alert_heading_back : (m : ℕ) (s : Scope) (c : EmergencyContent) → m < 65536 → c.indicator < 256 → c.warning_type < 65536 → c.warning_period < 256
    → alert_heading_of (decimal m) (decimal (scope_number s)) (decimal c.indicator) (decimal c.warning_type) (decimal c.warning_period) ≡ Some (alert_heading m s c)
alert_heading_back m s c message_id indicator type period = rw (two_back m message_id, scope_back s, emergency_heading_back c indicator type period) refl

issue : (m : ℕ) (s : Scope) (k : Content) (areas : List (List ℕ)) → m < 65536 → CanBeSaid k → are_named areas ≡ true
    → LineOfEdit (edit.Issue (record { message_id = m; scope = s; content = k }) areas)
issue m s (content.Cbs c) areas message_id k named =
    let number = decimal_short m (omega (arith, message_id)) in
    let scope = decimal_short (scope_number s) (scope_low s) in
    let dcs = decimal_short c.dcs (omega (arith, k.0)) in
    let category = decimal_short (category_number c.category) (category_low c.category) in
    let period = decimal_short c.period (omega (arith, k.1)) in
    let pages = pages_read c.pages k.2 k.3 in
    let names = areas_read areas named in
    is_line (event.Edit (edit.Issue (record { message_id = m; scope = s; content = content.Cbs c }) areas)) (codes "issue")
    (decimal m ∷ decimal (scope_number s) ∷ decimal c.dcs ∷ decimal (category_number c.category) ∷ decimal c.period ∷ pages_word c.pages ∷ areas_word areas ∷ [])
    (line.Issue (heading m s c) (pages_word c.pages) areas) (
      refl,
      (
        decimal_word m (omega (arith, message_id)),
        (
          decimal_word (scope_number s) (scope_low s),
          (
            decimal_word c.dcs (omega (arith, k.0)),
            (
              decimal_word (category_number c.category) (category_low c.category),
              (decimal_word c.period (omega (arith, k.1)), (pages.word, (names.word, tt))),
            ),
          ),
        ),
      ),
    )
    (omega (arith, number, scope, dcs, category, period, pages.short, names.short))
    (ap (option_map (λ h. line.Issue h (pages_word c.pages) (names_of (areas_word areas)))) (heading_back m s c message_id k.0 k.1)
    ∙ ap (λ (named : List (List ℕ)). Some (line.Issue (heading m s c) (pages_word c.pages) named)) names.back)
    (λ kept said. ap (option_map (λ text. event.Edit (edit.Issue (notice_of (heading m s c) text) areas))) pages.back)
issue m s (content.Emergency c) areas message_id k named =
    let number = decimal_short m (omega (arith, message_id)) in
    let scope = decimal_short (scope_number s) (scope_low s) in
    let indicator = decimal_short c.indicator (omega (arith, k.0)) in
    let type = decimal_short c.warning_type (omega (arith, k.1)) in
    let period = decimal_short c.warning_period (omega (arith, k.2)) in
    let long = length_hex c.security in
    let names = areas_read areas named in
    is_line (event.Edit (edit.Issue (record { message_id = m; scope = s; content = content.Emergency c }) areas)) (codes "alert")
    (decimal m ∷ decimal (scope_number s) ∷ decimal c.indicator ∷ decimal c.warning_type ∷ decimal c.warning_period ∷ encode_lower c.security ∷ areas_word areas ∷ [])
    (line.Alert (alert_heading m s c) (encode_lower c.security) areas) (
      refl,
      (
        decimal_word m (omega (arith, message_id)),
        (
          decimal_word (scope_number s) (scope_low s),
          (
            decimal_word c.indicator (omega (arith, k.0)),
            (
              decimal_word c.warning_type (omega (arith, k.1)),
              (decimal_word c.warning_period (omega (arith, k.2)), (hex_word c.security (omega (arith, k.3)) k.4, (names.word, tt))),
            ),
          ),
        ),
      ),
    )
    (omega (arith, number, scope, indicator, type, period, long, k.3, names.short))
    (ap (option_map (λ h. line.Alert h (encode_lower c.security) (names_of (areas_word areas)))) (alert_heading_back m s c message_id k.0 k.1 k.2)
    ∙ ap (λ (named : List (List ℕ)). Some (line.Alert (alert_heading m s c) (encode_lower c.security) named)) names.back)
    (λ kept said. ap (option_map (λ octets. event.Edit (edit.Issue (alert_of (alert_heading m s c) octets) areas))) (security_back c.security k.3 k.4))

-- each edit that has a line is read as itself
pub edit_line : (e : Edit) → EditHasLine e → LineOfEdit e
edit_line (edit.AddBsc b) h = add_bsc b h
edit_line (edit.RemoveBsc b) h = remove_bsc b h
edit_line (edit.AddCell c b) h = add_cell c b h.0 h.1
edit_line (edit.MoveCell c b) h = move_cell c b h.0 h.1
edit_line (edit.RemoveCell c) h = remove_cell c h
edit_line (edit.AddArea a) h = add_area a h
edit_line (edit.DropArea a) h = drop_area a h
edit_line (edit.Put a s) h = put a s h.0 h.1
edit_line (edit.Cut a s) h = cut a s h.0 h.1
edit_line (edit.Issue notice areas) h = issue notice.message_id notice.scope notice.content areas h.message_id h.content h.areas
edit_line (edit.Update n c) h = update n c h.0 h.1
edit_line (edit.Widen n a) h = widen n a h.0 h.1
edit_line (edit.Narrow n a) h = narrow n a h.0 h.1
edit_line (edit.Stop n) h = stop n h
edit_line (edit.Forget n) h = forget n h
