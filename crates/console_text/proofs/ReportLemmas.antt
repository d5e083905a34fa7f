-- What the digits of a report come to, step by step.
use Rattle.std.proofs.Common.{◌≡◌, ◌⊎◌, ◌∙◌, inl, inr, ℕ, List, Option, Some, None, Result, Ok, Err, sym, ap}
use Rattle.std.specs.Prelude.{IsSomeAnd, MatchOption}
use Rattle.cbsp_messages.specs.MessageType.{report_type}
use Rattle.cbsp_messages.specs.declared.message.Message.{Message}
use Rattle.cbsp_messages.specs.declared.message_type.MessageType.{MessageType}
use Rattle.centre_events.specs.declared.event.Event.TheVariants as event
use Rattle.console_text.specs.Events.{IsReportEvent}
use Rattle.console_text.specs.HexText.{octets_of}
use Rattle.console_text.specs.Reports.{BodyComesTo, DigitsCarry, DigitsComeTo, FrameComesTo, OctetsCarry, OctetsComeTo}
use Rattle.console_text.specs.declared.line_event.LineEvent.{LineEvent}
use Rattle.console_text.specs.declared.line_event.LineEvent.TheVariants as came
use Rattle.console_text.specs.declared.text_fault.TextFault.{TextFault}
use Rattle.console_text.specs.declared.text_fault.TextFault.TheVariants as fault
use Rattle.framing.specs.declared.frame.Frame.{Frame}

-- a frame whose type a BSC sends, by its body
pub frame_comes_to : (P : Message → Type 0) (Q : TextFault → Type 0) (R : Type 0) (frame : Frame) (t : MessageType) → report_type frame.kind ≡ Some t → BodyComesTo P Q t frame.body ⊎ R
    → FrameComesTo P Q frame ⊎ IsSomeAnd (report_type frame.kind) (λ u. R)
frame_comes_to P Q R frame t is h = rw is h

body_so : (P P' : Message → Type 0) (Q Q' : TextFault → Type 0) (t : MessageType) (body : List ℕ) → ((m : Message) → P m → P' m) → ((f : TextFault) → Q f → Q' f) → BodyComesTo P Q t body
    → BodyComesTo P' Q' t body
body_so P P' Q Q' t body p q (inl h) = inl (h.0, h.1, p h.0 h.2)
body_so P P' Q Q' t body p q (inr h) = inr (h.0, h.1, q (fault.Message h.0) h.2)

kind_so : (P P' : Message → Type 0) (Q Q' : TextFault → Type 0) (kind : Option MessageType) (body : List ℕ) → ((m : Message) → P m → P' m) → ((f : TextFault) → Q f → Q' f)
    → MatchOption kind (Q fault.Skipped) (λ t. BodyComesTo P Q t body) → MatchOption kind (Q' fault.Skipped) (λ t. BodyComesTo P' Q' t body)
kind_so P P' Q Q' None body p q h = q fault.Skipped h
kind_so P P' Q Q' (Some t) body p q h = body_so P P' Q Q' t body p q h

octets_so : (P P' : Message → Type 0) (Q Q' : TextFault → Type 0) (octets : List ℕ) → ((m : Message) → P m → P' m) → ((f : TextFault) → Q f → Q' f) → OctetsComeTo P Q octets
    → OctetsComeTo P' Q' octets
octets_so P P' Q Q' octets p q (inl h) = inl (h.0, h.1, kind_so P P' Q Q' (report_type h.0.kind) h.0.body p q h.2)
octets_so P P' Q Q' octets p q (inr h) = inr (h.0, q fault.Frame h.1)

spelled_so : (P P' : Message → Type 0) (Q Q' : TextFault → Type 0) (octets : Option (List ℕ)) → ((m : Message) → P m → P' m) → ((f : TextFault) → Q f → Q' f)
    → MatchOption octets (Q fault.Hex) (λ xs. OctetsComeTo P Q xs) → MatchOption octets (Q' fault.Hex) (λ xs. OctetsComeTo P' Q' xs)
spelled_so P P' Q Q' None p q h = q fault.Hex h
spelled_so P P' Q Q' (Some xs) p q h = octets_so P P' Q Q' xs p q h

kind_carries : (R R' : MessageType → List ℕ → Type 0) (kind : Option MessageType) (body : List ℕ) → ((t : MessageType) → R t body → R' t body) → IsSomeAnd kind (λ t. R t body) → IsSomeAnd kind (λ t. R' t body)
kind_carries R R' None body so h = h
kind_carries R R' (Some t) body so h = so t h

spelled_carry : (R R' : MessageType → List ℕ → Type 0) (octets : Option (List ℕ)) → ((t : MessageType) (body : List ℕ) → R t body → R' t body) → IsSomeAnd octets (λ xs. OctetsCarry R xs)
    → IsSomeAnd octets (λ xs. OctetsCarry R' xs)
spelled_carry R R' None so h = h
spelled_carry R R' (Some xs) so h = (h.0, h.1, kind_carries R R' (report_type h.0.kind) h.0.body (λ t. so t h.0.body) h.2)

-- what holds of each type and body holds of those that the digits carry
pub digits_carry : (R R' : MessageType → List ℕ → Type 0) (text : List ℕ) → ((t : MessageType) (body : List ℕ) → R t body → R' t body) → DigitsCarry R text → DigitsCarry R' text
digits_carry R R' text so h = spelled_carry R R' (octets_of text) so h

-- what was read of the digits
abbrev IsSent : List ℕ → Result Message TextFault → Type 0
IsSent text sent = DigitsComeTo (λ m. sent ≡ Ok m) (λ f. sent ≡ Err f) text ⊎ DigitsCarry (λ t body. sent ≡ Err fault.Memory) text

-- what the line of a report comes to, by what was read
abbrev line_event_of : ℕ → ℕ → Result Message TextFault → LineEvent
line_event_of generation b (Ok m) = came.Event (event.Report b generation m)
line_event_of generation b (Err f) = came.Bad f

report_so : (generation b : ℕ) (text : List ℕ) (sent : Result Message TextFault) (e : LineEvent) → e ≡ line_event_of generation b sent → IsSent text sent → IsReportEvent generation b text e
report_so generation b text sent e is (inl h) =
    inl (spelled_so (λ m. sent ≡ Ok m) (λ m. e ≡ came.Event (event.Report b generation m)) (λ f. sent ≡ Err f) (λ f. e ≡ came.Bad f) (octets_of text)
    (λ m same. is ∙ ap (line_event_of generation b) same) (λ f same. is ∙ ap (line_event_of generation b) same) h)
report_so generation b text sent e is (inr h) =
    inr (digits_carry (λ t body. sent ≡ Err fault.Memory) (λ t body. e ≡ came.Bad fault.Memory) text (λ t body same. is ∙ ap (line_event_of generation b) same) h)

-- a message was read
pub reported : (generation b : ℕ) (text : List ℕ) (sent : Result Message TextFault) (m : Message) (e : LineEvent) → IsSent text sent → sent ≡ Ok m → e ≡ came.Event (event.Report b generation m)
    → IsReportEvent generation b text e
reported generation b text sent m e h same is = report_so generation b text sent e (is ∙ sym (ap (line_event_of generation b) same)) h

-- none was
pub not_reported : (generation b : ℕ) (text : List ℕ) (sent : Result Message TextFault) (f : TextFault) (e : LineEvent) → IsSent text sent → sent ≡ Err f → e ≡ came.Bad f
    → IsReportEvent generation b text e
not_reported generation b text sent f e h same is = report_so generation b text sent e (is ∙ sym (ap (line_event_of generation b) same)) h
