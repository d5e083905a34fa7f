-- The lines that an operator may write, by their words.
use Rattle.std.specs.Prelude.{ℕ, ◌&&◌, ◌==◌, List, [], ◌∷◌, Option, Some, None, bytes_eq, codes, if◌then◌else◌}
use Rattle.std.specs.List.{find}
use Rattle.std.specs.Option.{option_map}
use Rattle.common.specs.declared.cell.Cell.{Cell}
use Rattle.areas.specs.declared.selector.Selector.TheVariants as selector
use Rattle.serials.specs.declared.scope.Scope.{Scope}
use Rattle.serials.specs.declared.scope.Scope.TheVariants as scope
use Rattle.warning_book.specs.Content.{category_number}
use Rattle.warning_book.specs.declared.category.Category.{Category}
use Rattle.warning_book.specs.declared.category.Category.TheVariants as category
use Rattle.console_text.specs.Numbers.{number_in}
use Rattle.console_text.specs.Parts.{parts_of}
use Rattle.console_text.specs.declared.alert_heading.AlertHeading.{AlertHeading}
use Rattle.console_text.specs.declared.content_heading.ContentHeading.{ContentHeading}
use Rattle.console_text.specs.declared.emergency_heading.EmergencyHeading.{EmergencyHeading}
use Rattle.console_text.specs.declared.heading.Heading.{Heading}
use Rattle.console_text.specs.declared.line.Line.{Line}
use Rattle.console_text.specs.declared.line.Line.TheVariants.{AddBsc, RemoveBsc, AddCell, MoveCell, RemoveCell, AddArea, DropArea, Put, Cut, Issue, Update, Alert, Realert, Widen, Narrow, Stop, Forget, Retry, Up, Down, Keep, Send, Ask, Report, Board, AreaBoard, Pending, Table, Rebuild, Checkpoint}

-- f of what is there
abbrev pub if_some : {A B : Type 0} → Option A → (A → Option B) → Option B
if_some None f = None
if_some (Some x) f = f x

-- B
abbrev pub bsc_of : List ℕ → Option ℕ
bsc_of word = number_in 1 65535 word

-- L, C, M or PERIOD
abbrev pub two_octets_of : List ℕ → Option ℕ
two_octets_of word = number_in 0 65535 word

-- W
abbrev pub warning_of : List ℕ → Option ℕ
warning_of word = number_in 0 4294967295 word

-- G
abbrev pub link_generation_of : List ℕ → Option ℕ
link_generation_of word = number_in 0 4294967295 word

-- L and C
abbrev pub cell_of : List ℕ → List ℕ → Option Cell
cell_of lac ci = if_some (two_octets_of lac) (λ l. if_some (two_octets_of ci) (λ c. Some (record { lac = l; ci = c })))

-- the scope of a number from 0 to 3
abbrev pub scope_with : ℕ → Scope
scope_with n = if n == 0 then scope.CellImmediate else (if n == 1 then scope.Plmn else (if n == 2 then scope.LocationArea else scope.Cell))

-- SCOPE
abbrev pub scope_of : List ℕ → Option Scope
scope_of word = option_map scope_with (number_in 0 3 word)

-- CAT: the category of this number
abbrev pub category_of : List ℕ → Option Category
category_of word = if_some (number_in 0 255 word) (λ n. find (λ c. category_number c == n) (category.HighPriority ∷ category.Background ∷ category.Normal ∷ []))

-- AREAS: names are joined by `,`, which is 44; `-` alone is none
abbrev pub names_of : List ℕ → List (List ℕ)
names_of word = if bytes_eq word (codes "-") then [] else parts_of 44 word

-- L, C and B of `cell add L C B`
abbrev pub add_cell : List ℕ → List ℕ → List ℕ → Option Line
add_cell lac ci bsc = if_some (cell_of lac ci) (λ c. if_some (bsc_of bsc) (λ b. Some (AddCell c b)))

-- L, C and B of `cell move L C B`
abbrev pub move_cell : List ℕ → List ℕ → List ℕ → Option Line
move_cell lac ci bsc = if_some (cell_of lac ci) (λ c. if_some (bsc_of bsc) (λ b. Some (MoveCell c b)))

-- B and G of `gen B G`
abbrev pub keep : List ℕ → List ℕ → Option Line
keep bsc generation = if_some (bsc_of bsc) (λ b. if_some (link_generation_of generation) (λ g. Some (Keep b g)))

-- B and W of `ask`, where that cell is given or none
abbrev pub ask : List ℕ → List ℕ → Option Cell → Option Line
ask bsc warning after = if_some (bsc_of bsc) (λ b. if_some (warning_of warning) (λ w. Some (Ask b w after)))

-- B, W, L and C of `ask B W L C`
abbrev pub ask_after : List ℕ → List ℕ → List ℕ → List ℕ → Option Line
ask_after bsc warning lac ci = if_some (cell_of lac ci) (λ c. ask bsc warning (Some c))

-- DCS CAT PERIOD of `issue` and `update`
abbrev pub content_heading_of : List ℕ → List ℕ → List ℕ → Option ContentHeading
content_heading_of dcs category period =
    if_some (number_in 0 255 dcs) (λ d.
    if_some (category_of category) (λ c.
    if_some (two_octets_of period) (λ p.
    Some (record { dcs = d; category = c; period = p }))))

-- M SCOPE DCS CAT PERIOD of `issue`
abbrev pub heading_of : List ℕ → List ℕ → List ℕ → List ℕ → List ℕ → Option Heading
heading_of message_id scope dcs category period =
    if_some (two_octets_of message_id) (λ m.
    if_some (scope_of scope) (λ s.
    if_some (content_heading_of dcs category period) (λ h.
    Some (record { message_id = m; scope = s; content = h }))))

-- W DCS CAT PERIOD PAGES of `update`
abbrev pub update : List ℕ → List ℕ → List ℕ → List ℕ → List ℕ → Option Line
update warning dcs category period pages = if_some (warning_of warning) (λ number. if_some (content_heading_of dcs category period) (λ h. Some (Update number h pages)))

-- I T P of `alert` and `realert`
abbrev pub emergency_heading_of : List ℕ → List ℕ → List ℕ → Option EmergencyHeading
emergency_heading_of indicator warning_type warning_period =
    if_some (number_in 0 255 indicator) (λ i.
    if_some (two_octets_of warning_type) (λ t.
    if_some (number_in 0 255 warning_period) (λ p.
    Some (record { indicator = i; warning_type = t; warning_period = p }))))

-- M SCOPE I T P of `alert`
abbrev pub alert_heading_of : List ℕ → List ℕ → List ℕ → List ℕ → List ℕ → Option AlertHeading
alert_heading_of message_id scope indicator warning_type warning_period =
    if_some (two_octets_of message_id) (λ m.
    if_some (scope_of scope) (λ s.
    if_some (emergency_heading_of indicator warning_type warning_period) (λ h.
    Some (record { message_id = m; scope = s; content = h }))))

-- M SCOPE DCS CAT PERIOD PAGES AREAS of `issue`
abbrev pub issue : List ℕ → List ℕ → List ℕ → List ℕ → List ℕ → List ℕ → List ℕ → Option Line
issue message_id scope dcs category period pages areas = option_map (λ h. Issue h pages (names_of areas)) (heading_of message_id scope dcs category period)

-- M SCOPE I T P SEC AREAS of `alert`
abbrev pub alert : List ℕ → List ℕ → List ℕ → List ℕ → List ℕ → List ℕ → List ℕ → Option Line
alert message_id scope indicator warning_type warning_period security areas = option_map (λ h. Alert h security (names_of areas)) (alert_heading_of message_id scope indicator warning_type warning_period)

-- W I T P SEC of `realert`
abbrev pub realert : List ℕ → List ℕ → List ℕ → List ℕ → List ℕ → Option Line
realert warning indicator warning_type warning_period security = if_some (warning_of warning) (λ number. if_some (emergency_heading_of indicator warning_type warning_period) (λ h. Some (Realert number h security)))

-- the line of the words, by how many they are; there is no other line
abbrev pub line_of : List (List ℕ) → Option Line
line_of (verb ∷ []) =
    if bytes_eq verb (codes "rebuild") then Some Rebuild
    else if bytes_eq verb (codes "checkpoint") then Some Checkpoint
    else None
line_of (verb ∷ x ∷ []) =
    if bytes_eq verb (codes "retry") then option_map Retry (bsc_of x)
    else if bytes_eq verb (codes "up") then option_map Up (bsc_of x)
    else if bytes_eq verb (codes "down") then option_map Down (bsc_of x)
    else if bytes_eq verb (codes "send") then option_map Send (bsc_of x)
    else if bytes_eq verb (codes "stop") then option_map Stop (warning_of x)
    else if bytes_eq verb (codes "forget") then option_map Forget (warning_of x)
    else if bytes_eq verb (codes "board") then option_map Board (warning_of x)
    else if bytes_eq verb (codes "pending") then option_map Pending (bsc_of x)
    else if bytes_eq verb (codes "table") then option_map Table (bsc_of x)
    else None
line_of (verb ∷ x ∷ y ∷ []) =
    if bytes_eq verb (codes "bsc") && bytes_eq x (codes "add") then option_map AddBsc (bsc_of y)
    else if bytes_eq verb (codes "bsc") && bytes_eq x (codes "remove") then option_map RemoveBsc (bsc_of y)
    else if bytes_eq verb (codes "area") && bytes_eq x (codes "add") then Some (AddArea y)
    else if bytes_eq verb (codes "area") && bytes_eq x (codes "drop") then Some (DropArea y)
    else if bytes_eq verb (codes "widen") then option_map (λ number. Widen number y) (warning_of x)
    else if bytes_eq verb (codes "narrow") then option_map (λ number. Narrow number y) (warning_of x)
    else if bytes_eq verb (codes "gen") then keep x y
    else if bytes_eq verb (codes "rx") then option_map (λ b. Report b y) (bsc_of x)
    else if bytes_eq verb (codes "ask") then ask x y None
    else if bytes_eq verb (codes "board") then option_map (λ number. AreaBoard number y) (warning_of x)
    else None
line_of (verb ∷ x ∷ y ∷ z ∷ []) =
    if bytes_eq verb (codes "cell") && bytes_eq x (codes "remove") then option_map RemoveCell (cell_of y z)
    else if bytes_eq verb (codes "area") && bytes_eq x (codes "put") then option_map (λ l. Put y (selector.Lac l)) (two_octets_of z)
    else if bytes_eq verb (codes "area") && bytes_eq x (codes "cut") then option_map (λ l. Cut y (selector.Lac l)) (two_octets_of z)
    else None
line_of (verb ∷ x ∷ y ∷ z ∷ t ∷ []) =
    if bytes_eq verb (codes "cell") && bytes_eq x (codes "add") then add_cell y z t
    else if bytes_eq verb (codes "cell") && bytes_eq x (codes "move") then move_cell y z t
    else if bytes_eq verb (codes "area") && bytes_eq x (codes "put") then option_map (λ c. Put y (selector.Cell c)) (cell_of z t)
    else if bytes_eq verb (codes "area") && bytes_eq x (codes "cut") then option_map (λ c. Cut y (selector.Cell c)) (cell_of z t)
    else if bytes_eq verb (codes "ask") then ask_after x y z t
    else None
line_of (verb ∷ warning ∷ x ∷ y ∷ z ∷ text ∷ []) =
    if bytes_eq verb (codes "update") then update warning x y z text
    else if bytes_eq verb (codes "realert") then realert warning x y z text
    else None
line_of (verb ∷ message_id ∷ scope ∷ x ∷ y ∷ z ∷ text ∷ areas ∷ []) =
    if bytes_eq verb (codes "issue") then issue message_id scope x y z text areas
    else if bytes_eq verb (codes "alert") then alert message_id scope x y z text areas
    else None
line_of words = None
