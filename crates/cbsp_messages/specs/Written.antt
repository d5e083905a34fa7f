-- The octets that are written for a message, and the message that is read from them
-- (TS 48.049, 8.1.3).
use Rattle.std.specs.Prelude.{ℕ, ◌%◌, ◌<◌, ◌≤◌, List, length, option_map, IfSome}
use Rattle.std.specs.List.{AllByRecursion, flat_map}
use Rattle.cbsp_ie.specs.declared.element_id.ElementId.{ElementId}
use Rattle.cbsp_ie.specs.Frame.{framed}
use Rattle.cbsp_ie.specs.Written.{cells_octets, counts_octets, element_octets, failures_octets, plain_counts}
use Rattle.cbsp_messages.specs.declared.message.Message.{Message}
use Rattle.cbsp_messages.specs.declared.message.Message.TheVariants as message
use Rattle.cbsp_messages.specs.Layout.{written_of}
use Rattle.cbsp_messages.specs.Message.{layout_of, type_of}
use Rattle.cbsp_messages.specs.MessageType.{code_of}
use Rattle.cbsp_messages.specs.Parts.{Parts, parts_of, values_at}
use Rattle.cbsp_messages.specs.Spelling.{HasPages}

-- each list has so few octets after its length that the length can say how many, and a WRITE-REPLACE has
-- 1 to 15 pages
pub record Fits (m : Message) : Type 0 where
  pub cells : IfSome (parts_of m).cells (λ cells. length (cells_octets cells) < 65536)
  pub counts : IfSome (parts_of m).counts (λ counts. length (counts_octets counts) < 65536)
  pub failures : IfSome (parts_of m).failures (λ failures. length (failures_octets failures) < 65536)
  pub pages : HasPages m

-- the elements with an identifier, as they are written
abbrev pub octets_at : Parts → ElementId → List ℕ
octets_at parts which = flat_map element_octets (values_at parts which)

-- the body: the elements in the order of the message's layout
abbrev pub written : Message → List ℕ
written m = flat_map (octets_at (parts_of m)) (written_of (layout_of m))

-- the whole frame
abbrev pub frame_of : Message → List ℕ
frame_of m = framed (code_of (type_of m)) (written m)

-- no page uses more octets than it has
abbrev pub HasShortPages : Message → Type 0
HasShortPages m = AllByRecursion (λ page. page.used ≤ 82) (parts_of m).pages

-- the low four bits, of which alone some octets are used
abbrev pub low : ℕ → ℕ
low n = n % 16

-- the message without spare bits
abbrev pub plain : Message → Message
plain (message.WriteReplace m) = message.WriteReplace (record m { channel = option_map low m.channel; category = low m.category })
plain (message.WriteEmergency m) = message.WriteEmergency m
plain (message.WriteComplete m) = message.WriteComplete (record m { counts = option_map plain_counts m.counts; channel = option_map low m.channel })
plain (message.WriteFailure m) = message.WriteFailure (record m { counts = option_map plain_counts m.counts; channel = option_map low m.channel })
plain (message.Kill m) = message.Kill (record m { channel = option_map low m.channel })
plain (message.KillComplete m) = message.KillComplete (record m { counts = option_map plain_counts m.counts; channel = option_map low m.channel })
plain (message.KillFailure m) = message.KillFailure (record m { counts = option_map plain_counts m.counts; channel = option_map low m.channel })
plain (message.StatusQuery m) = message.StatusQuery (record m { channel = option_map low m.channel })
plain (message.StatusComplete m) = message.StatusComplete (record m { counts = plain_counts m.counts; channel = option_map low m.channel })
plain (message.StatusFailure m) = message.StatusFailure (record m { counts = option_map plain_counts m.counts; channel = option_map low m.channel })
plain (message.Restart m) = message.Restart (record m { kind = low m.kind; recovery = low m.recovery })
plain (message.Failure m) = message.Failure (record m { kind = low m.kind })
plain (message.ErrorIndication m) = message.ErrorIndication (record m { channel = option_map low m.channel })
