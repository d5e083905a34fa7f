-- A stream that is one frame, and its cutting.
use Rattle.std.proofs.Common.{◌≡◌, ℕ, ◌<◌, List, [], ◌∷◌, ◌++◌, length, refl, sym, ap, ◌∙◌, subst, arith, append-nil}
use Rattle.framing.specs.Streams.{Cuts, frame_octets}
use Rattle.framing.specs.Framers.{Framing, fresh, Takes, EndsTooLong}
use Rattle.framing.specs.declared.frame.Frame.{Frame}
use Rattle.framing.proofs.StreamLemmas.{one_cut, no_frame-nil}
use Rattle.cbsp_messages.specs.Written.{frame_of}
use Rattle.console_text.specs.Frames.{IsFrame, IsNoFrame}
use Rattle.console_text.specs.Laws.{frame_with, WrittenIsCut}

-- one frame is cut into itself
frame_cut : (octets : List ℕ) (frame : Frame) → IsFrame octets frame → Cuts octets (frame ∷ []) []
frame_cut octets frame one = record {
  whole = one.whole ∙ sym (append-nil (frame_octets frame)) ∙ sym (append-nil (frame_octets frame ++ []));
  each = (one.readable, tt);
  partial = no_frame-nil;
}

-- something is left behind the frames
no_frame_with_rest : (octets rest : List ℕ) (frames : List Frame) → Cuts octets frames rest → 0 < length rest → IsNoFrame octets
no_frame_with_rest octets rest frames cut some frame one =
    let same = one_cut octets frames (frame ∷ []) rest [] cut (frame_cut octets frame one) in
    omega (arith, ap length same.1)

pub no_frame_held : (octets : List ℕ) (old new : Framing) → old ≡ fresh → Takes old octets new → 0 < length new.rest → IsNoFrame octets
no_frame_held octets old new start taken some =
    no_frame_with_rest octets new.rest taken.more (subst (λ s. Cuts (s.rest ++ octets) taken.more new.rest) start taken.cuts) some

pub no_frame_too_long : (octets : List ℕ) (old new : Framing) (n : ℕ) → old ≡ fresh → EndsTooLong old octets n new → IsNoFrame octets
no_frame_too_long octets old new n start ends =
    no_frame_with_rest octets ends.tail ends.more (subst (λ s. Cuts (s.rest ++ octets) ends.more ends.tail) start ends.cuts) (omega (arith, ends.too_long.0))

-- octets are one frame at most
pub one_frame : (octets : List ℕ) (f g : Frame) → IsFrame octets f → IsFrame octets g → f ≡ g
one_frame octets f g p q = cc (one_cut octets (f ∷ []) (g ∷ []) [] [] (frame_cut octets f p) (frame_cut octets g q)).0

-- what is written of a message with a body that is short enough is cut as its frame
pub written_is_cut : WrittenIsCut
written_is_cut m h = frame_cut (frame_of m) (frame_with m) (record { whole = refl; readable = h })
