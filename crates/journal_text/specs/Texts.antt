-- The line that is written of an event: the words of the console that ask for it, with one space between them.
use Rattle.std.specs.Prelude.{ℕ, List, [], ◌∷◌, ◌++◌, Option, Some, None, codes, decimal, map}
use Rattle.areas.specs.declared.selector.Selector.{Selector}
use Rattle.areas.specs.declared.selector.Selector.TheVariants as selector
use Rattle.cbsp_messages.specs.Written.{frame_of}
use Rattle.centre_events.specs.declared.event.Event.{Event}
use Rattle.centre_events.specs.declared.event.Event.TheVariants as event
use Rattle.common.specs.declared.cell.Cell.{Cell}
use Rattle.coverage_plan.specs.declared.edit.Edit.{Edit}
use Rattle.coverage_plan.specs.declared.edit.Edit.TheVariants as edit
use Rattle.hex.specs.Hex.{encode_lower}
use Rattle.serials.specs.Serials.{scope_number}
use Rattle.warning_book.specs.Content.{category_number}
use Rattle.warning_book.specs.declared.content.Content.{Content}
use Rattle.warning_book.specs.declared.content.Content.TheVariants as content

-- more texts after a text, each after a separator
abbrev pub followed : ℕ → List ℕ → List (List ℕ) → List ℕ
followed separator text [] = text
followed separator text (next ∷ more) = followed separator (text ++ separator ∷ next) more

-- texts with a separator between them
abbrev pub joined : ℕ → List (List ℕ) → List ℕ
joined separator [] = []
joined separator (text ∷ more) = followed separator text more

-- PAGES: the digits of each page, joined by `/`, which is 47
abbrev pub pages_word : List (List ℕ) → List ℕ
pages_word pages = joined 47 (map encode_lower pages)

-- AREAS: the names, joined by `,`, which is 44
abbrev pub areas_word : List (List ℕ) → List ℕ
areas_word areas = joined 44 areas

-- L and C
abbrev pub cell_words : Cell → List (List ℕ)
cell_words c = decimal c.lac ∷ decimal c.ci ∷ []

-- L, or L and C
abbrev pub selector_words : Selector → List (List ℕ)
selector_words (selector.Lac lac) = decimal lac ∷ []
selector_words (selector.Cell c) = cell_words c

-- DCS CAT PERIOD PAGES, or I T P SEC
abbrev pub content_words : Content → List (List ℕ)
content_words (content.Cbs c) = decimal c.dcs ∷ decimal (category_number c.category) ∷ decimal c.period ∷ pages_word c.pages ∷ []
content_words (content.Emergency c) = decimal c.indicator ∷ decimal c.warning_type ∷ decimal c.warning_period ∷ encode_lower c.security ∷ []

-- how a warning with this content is issued
abbrev pub issue_word : Content → List ℕ
issue_word (content.Cbs c) = codes "issue"
issue_word (content.Emergency c) = codes "alert"

-- how a warning gets a version with this content
abbrev pub update_word : Content → List ℕ
update_word (content.Cbs c) = codes "update"
update_word (content.Emergency c) = codes "realert"

-- the words of an edit
abbrev pub edit_words : Edit → List (List ℕ)
edit_words (edit.AddBsc b) = codes "bsc" ∷ codes "add" ∷ decimal b ∷ []
edit_words (edit.RemoveBsc b) = codes "bsc" ∷ codes "remove" ∷ decimal b ∷ []
edit_words (edit.AddCell c b) = codes "cell" ∷ codes "add" ∷ decimal c.lac ∷ decimal c.ci ∷ decimal b ∷ []
edit_words (edit.MoveCell c b) = codes "cell" ∷ codes "move" ∷ decimal c.lac ∷ decimal c.ci ∷ decimal b ∷ []
edit_words (edit.RemoveCell c) = codes "cell" ∷ codes "remove" ∷ cell_words c
edit_words (edit.AddArea a) = codes "area" ∷ codes "add" ∷ a ∷ []
edit_words (edit.DropArea a) = codes "area" ∷ codes "drop" ∷ a ∷ []
edit_words (edit.Put a s) = codes "area" ∷ codes "put" ∷ a ∷ selector_words s
edit_words (edit.Cut a s) = codes "area" ∷ codes "cut" ∷ a ∷ selector_words s
edit_words (edit.Issue notice areas) = issue_word notice.content ∷ decimal notice.message_id ∷ decimal (scope_number notice.scope) ∷ (content_words notice.content ++ areas_word areas ∷ [])
edit_words (edit.Update n c) = update_word c ∷ decimal n ∷ content_words c
edit_words (edit.Widen n a) = codes "widen" ∷ decimal n ∷ a ∷ []
edit_words (edit.Narrow n a) = codes "narrow" ∷ decimal n ∷ a ∷ []
edit_words (edit.Stop n) = codes "stop" ∷ decimal n ∷ []
edit_words (edit.Forget n) = codes "forget" ∷ decimal n ∷ []

-- the cell after which a BSC is asked, if there is one
abbrev pub after_words : Option Cell → List (List ℕ)
after_words None = []
after_words (Some c) = cell_words c

-- the words of an event: a report has its message as a whole frame; no line names a generation
abbrev pub event_words : Event → List (List ℕ)
event_words (event.Edit e) = edit_words e
event_words (event.Retry b) = codes "retry" ∷ decimal b ∷ []
event_words (event.LinkUp b) = codes "up" ∷ decimal b ∷ []
event_words (event.LinkDown b generation) = codes "down" ∷ decimal b ∷ []
event_words (event.Send b generation) = codes "send" ∷ decimal b ∷ []
event_words (event.Ask b generation n after) = codes "ask" ∷ decimal b ∷ decimal n ∷ after_words after
event_words (event.Report b generation m) = codes "rx" ∷ decimal b ∷ encode_lower (frame_of m) ∷ []

-- the line of an event, without its end
abbrev pub line_text : Event → List ℕ
line_text e = joined 32 (event_words e)
