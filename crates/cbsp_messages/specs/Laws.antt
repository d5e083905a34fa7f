-- That a body is read in one way: as one message, or with one fault.
use Rattle.std.specs.Prelude.{◌≡◌, ℕ, ◌≤◌, ◌-◌, List, ◌++◌, length, replicate, IsTrue}
use Rattle.cbsp_messages.specs.declared.fault.MessageFault.{MessageFault}
use Rattle.cbsp_messages.specs.declared.message.Message.{Message}
use Rattle.cbsp_messages.specs.Faults.{IsFault}
use Rattle.cbsp_messages.specs.Layout.{is_whole_table}
use Rattle.cbsp_messages.specs.PageText.{page_with}
use Rattle.cbsp_messages.specs.Spelling.{Spells}

-- a body spells one message
abbrev pub OneMessage : Type 0
OneMessage = (kind : ℕ) (body : List ℕ) (m n : Message) → Spells kind body m → Spells kind body n → m ≡ n

-- a body that spells a message has no fault
abbrev pub NoFault : Type 0
NoFault = (kind : ℕ) (body : List ℕ) (m : Message) (f : MessageFault) → Spells kind body m → IsFault kind body f → ⊥

-- a body has one fault
abbrev pub OneFault : Type 0
OneFault = (kind : ℕ) (body : List ℕ) (f g : MessageFault) → IsFault kind body f → IsFault kind body g → f ≡ g

-- the elements that a layout writes are those that it demands and those that it may have, each once
abbrev pub TableIsWhole : Type 0
TableIsWhole = IsTrue is_whole_table

-- content of at most 82 octets is all on its page, with zeros after it
abbrev pub ShortPage : Type 0
ShortPage =
    (content : List ℕ) → length content ≤ 82 → page_with content ≡ record { used = length content; octets = content ++ replicate (82 - length content) 0 }
