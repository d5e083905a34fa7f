-- That a frame carries a message which is read again.
use Rattle.std.proofs.Common.{◌≡◌, ◌∙◌, ℕ, Bool, true, List, drop, sym, subst}
use Rattle.std.specs.Prelude.{◌≤◌, ◌↔◌, IsTrue, length}
use Rattle.cbsp_ie.specs.Frame.{longest_body}
use Rattle.cbsp_messages.specs.Message.{type_of}
use Rattle.cbsp_messages.specs.MessageType.{code_of, is_report}
use Rattle.cbsp_messages.specs.Spelling.{Spells}
use Rattle.cbsp_messages.specs.Written.{Fits, HasShortPages, frame_of, plain, written}
use Rattle.cbsp_messages.specs.declared.message.Message.{Message}
use Rattle.cbsp_messages.specs.declared.message.Message.TheVariants as message
use Rattle.hex.specs.Hex.{IsBytes}
use Rattle.journal_text.specs.Sayable.{HasFrame}

-- what is read is the message without its spare bits
pub same_read : (m read : Message) (same : Bool) → read ≡ plain m → (IsTrue same ↔ (read ≡ m)) → IsTrue same ↔ (plain m ≡ m)
same_read m read same is decides = (λ yes. sym is ∙ decides.0 yes, λ equal. decides.1 (is ∙ equal))

-- a report has no pages
short_pages : (m : Message) → is_report (type_of m) ≡ true → HasShortPages m
short_pages (message.WriteReplace m) h = absurd (cc h)
short_pages (message.WriteEmergency m) h = absurd (cc h)
short_pages (message.WriteComplete m) h = tt
short_pages (message.WriteFailure m) h = tt
short_pages (message.Kill m) h = tt
short_pages (message.KillComplete m) h = tt
short_pages (message.KillFailure m) h = tt
short_pages (message.StatusQuery m) h = tt
short_pages (message.StatusComplete m) h = tt
short_pages (message.StatusFailure m) h = tt
short_pages (message.Restart m) h = tt
short_pages (message.Failure m) h = tt
short_pages (message.ErrorIndication m) h = tt

pub has_frame : (m : Message) (frame : List ℕ) → is_report (type_of m) ≡ true → Fits m → plain m ≡ m → frame ≡ frame_of m → length (written m) ≤ longest_body
    → (HasShortPages m → Spells (code_of (type_of m)) (drop 4 frame) (plain m)) → IsBytes frame → HasFrame m
has_frame m frame report fits same is short spelled bytes =
    let body : Spells (code_of (type_of m)) (written m) (plain m) = subst (λ octets. Spells (code_of (type_of m)) (drop 4 octets) (plain m)) is (spelled (short_pages m report)) in
    record {
      report = report;
      fits = fits;
      plain = same;
      encoded = subst (λ n. Spells (code_of (type_of m)) (written m) n) same body;
      short = short;
      octets = subst IsBytes is bytes;
    }
