-- Which events a line of the console can ask for: the numbers are in the ranges that the line has, names are names of
-- areas, pages can be broadcast, and a message is carried by a frame.
use Rattle.std.specs.Prelude.{◌≡◌, ℕ, ◌<◌, ◌≤◌, Bool, true, false, ◌&&◌, not, List, [], ◌∷◌, IfSome, bytes_eq, codes, length, nat_le}
use Rattle.std.specs.List.{AllByRecursion, list_any}
use Rattle.areas.specs.Name.{is_name}
use Rattle.areas.specs.declared.selector.Selector.{Selector}
use Rattle.areas.specs.declared.selector.Selector.TheVariants as selector
use Rattle.cbsp_ie.specs.Frame.{longest_body}
use Rattle.cbsp_messages.specs.Message.{type_of}
use Rattle.cbsp_messages.specs.MessageType.{code_of, is_report}
use Rattle.cbsp_messages.specs.Spelling.{Spells}
use Rattle.cbsp_messages.specs.Written.{Fits, frame_of, plain, written}
use Rattle.cbsp_messages.specs.declared.message.Message.{Message}
use Rattle.centre_events.specs.declared.event.Event.{Event}
use Rattle.centre_events.specs.declared.event.Event.TheVariants as event
use Rattle.common.specs.declared.cell.Cell.{Cell}
use Rattle.coverage_plan.specs.declared.edit.Edit.{Edit}
use Rattle.coverage_plan.specs.declared.edit.Edit.TheVariants as edit
use Rattle.hex.specs.Hex.{IsBytes}
use Rattle.warning_book.specs.Content.{are_pages}
use Rattle.warning_book.specs.declared.content.Content.{Content}
use Rattle.warning_book.specs.declared.content.Content.TheVariants as content
use Rattle.warning_book.specs.declared.notice.Notice.{Notice}

-- the number of a BSC
abbrev pub IsBsc : ℕ → Type 0
IsBsc b = (1 ≤ b) × (b < 65536)

-- the number of a warning
abbrev pub IsWarning : ℕ → Type 0
IsWarning n = n < 4294967296

-- L and C have two octets each
abbrev pub IsCell : Cell → Type 0
IsCell c = (c.lac < 65536) × (c.ci < 65536)

-- a cell, or the location area of cells
abbrev pub IsSelector : Selector → Type 0
IsSelector (selector.Lac lac) = lac < 65536
IsSelector (selector.Cell c) = IsCell c

-- the only area is named `-`, which stands for no area in a line
abbrev pub is_only_hyphen : List (List ℕ) → Bool
is_only_hyphen [] = false
is_only_hyphen (a ∷ []) = bytes_eq a (codes "-")
is_only_hyphen (a ∷ b ∷ areas) = false

-- 1 to 16 names of areas, which are not a hyphen alone
abbrev pub are_named : List (List ℕ) → Bool
are_named areas = (nat_le 1 (length areas) && nat_le (length areas) 16) && (not (list_any (λ a. not (is_name a)) areas) && not (is_only_hyphen areas))

-- a content with pages: 1 to 15 of 1 to 82 octets; of an emergency warning: 50 octets of security information
abbrev pub CanBeSaid : Content → Type 0
CanBeSaid (content.Cbs c) = (c.dcs < 256) × (c.period < 65536) × (are_pages c.pages ≡ true) × AllByRecursion IsBytes c.pages
CanBeSaid (content.Emergency c) = (c.indicator < 256) × (c.warning_type < 65536) × (c.warning_period < 256) × (length c.security ≡ 50) × IsBytes c.security

-- a warning that is issued
pub record CanBeIssued (notice : Notice) (names : List (List ℕ)) : Type 0 where
  pub message_id : notice.message_id < 65536
  pub content : CanBeSaid notice.content
  pub areas : are_named names ≡ true

-- a message that a BSC sends and a frame carries: its lists are not too long, it has no spare bits, and its body is an
-- encoding of it, as its numbers are in the ranges of their elements
pub record HasFrame (m : Message) : Type 0 where
  pub report : is_report (type_of m) ≡ true
  pub fits : Fits m
  pub plain : plain m ≡ m
  pub encoded : Spells (code_of (type_of m)) (written m) m
  pub short : length (written m) ≤ longest_body
  pub octets : IsBytes (frame_of m)

-- the edit has a line
abbrev pub EditHasLine : Edit → Type 0
EditHasLine (edit.AddBsc b) = IsBsc b
EditHasLine (edit.RemoveBsc b) = IsBsc b
EditHasLine (edit.AddCell c b) = IsCell c × IsBsc b
EditHasLine (edit.MoveCell c b) = IsCell c × IsBsc b
EditHasLine (edit.RemoveCell c) = IsCell c
EditHasLine (edit.AddArea a) = is_name a ≡ true
EditHasLine (edit.DropArea a) = is_name a ≡ true
EditHasLine (edit.Put a s) = (is_name a ≡ true) × IsSelector s
EditHasLine (edit.Cut a s) = (is_name a ≡ true) × IsSelector s
EditHasLine (edit.Issue notice areas) = CanBeIssued notice areas
EditHasLine (edit.Update n c) = IsWarning n × CanBeSaid c
EditHasLine (edit.Widen n a) = IsWarning n × (is_name a ≡ true)
EditHasLine (edit.Narrow n a) = IsWarning n × (is_name a ≡ true)
EditHasLine (edit.Stop n) = IsWarning n
EditHasLine (edit.Forget n) = IsWarning n

-- the event has a line
abbrev pub HasLine : Event → Type 0
HasLine (event.Edit e) = EditHasLine e
HasLine (event.Retry b) = IsBsc b
HasLine (event.LinkUp b) = IsBsc b
HasLine (event.LinkDown b generation) = IsBsc b
HasLine (event.Send b generation) = IsBsc b
HasLine (event.Ask b generation n after) = IsBsc b × IsWarning n × IfSome after IsCell
HasLine (event.Report b generation m) = IsBsc b × HasFrame m
