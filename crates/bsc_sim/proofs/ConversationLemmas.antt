-- Parts of a conversation, one after another.
use Rattle.std.proofs.Common.{◌≡◌, ◌⊎◌, inl, inr, ℕ, ◌+◌, ◌<◌, List, [], ◌∷◌, ◌++◌, Option, None, length, take, drop, refl, sym, ap, ◌∙◌, subst, arith, append_assoc, append-nil, length-append, length-drop, take-append-drop}
use Rattle.std.proofs.lemmas.Grind.{flat_map-append}
use Rattle.std.proofs.KnownBytes.{Appends-nil, Appends-trans, Consumes-nil, Consumes-trans}
use Rattle.std.specs.Io.KnownBytes.{Appends, Consumes, IsAtEnd}
use Rattle.framing.specs.AliveFrames.{alive_complete}
use Rattle.framing.specs.Framers.{Framing, fresh, Takes, EndsTooLong}
use Rattle.framing.specs.Sink.{AppendsFront}
use Rattle.framing.specs.Source.{counted}
use Rattle.framing.specs.Streams.{Cuts, IsTooLong, BeginsWithNoFrame}
use Rattle.framing.specs.declared.frame.Frame.{Frame}
use Rattle.framing.proofs.StreamLemmas.{pieces_join, no_frame-nil}
use Rattle.cbsp_messages.specs.declared.fault.MessageFault.{MessageFault}
use Rattle.cbsp_messages.specs.declared.fault.MessageFault.TheVariants as fault
use Rattle.cbsp_messages.specs.declared.message.Message.{Message}
use Rattle.cbsp_messages.specs.Faults.{IsFault}
use Rattle.cbsp_messages.specs.Spelling.{Spells}
use Rattle.cbsp_messages.specs.Written.{frame_of}
use Rattle.bsc_sim.specs.declared.end.SimEnd.{SimEnd}
use Rattle.bsc_sim.specs.declared.end.SimEnd.TheVariants.{PeerEnded, CutFrame, ReadFault, WriteFault, BadMessage, TooLong, Memory}
use Rattle.bsc_sim.specs.Answering.{answered}
use Rattle.bsc_sim.specs.Bsc.{BscState, emptied}
use Rattle.bsc_sim.specs.Choices.{Chosen}
use Rattle.bsc_sim.specs.Conversation.{Answers, Breaks, Converses, Hears, HearsInPart, IsAnswered, IsBehind, IsLeft, IsSendStop, IsStop, IsUncut, IsWaiting, IsWritten, Replies, SendsInPart, Turns, TurnsInPart, end_of, frames_of, link_answer, opening, reset_complete}

-- ---- what is written

-- what is written of some frames, behind others
written_after : (end : SimEnd) (ms ns : List (List ℕ)) (part : List ℕ) → IsWritten end ns part → IsWritten end (ms ++ ns) (frames_of ms ++ part)
written_after WriteFault ms ns part w =
    (w.0, flat_map-append (λ (x : List ℕ). x) ms ns ∙ ap (λ xs. frames_of ms ++ xs) w.1 ∙ sym (append_assoc (frames_of ms) part w.0), w.2)
written_after Memory ms ns part w =
    (ms ++ w.0, w.1, ap (λ xs. ms ++ xs) w.2 ∙ sym (append_assoc ms w.0 w.1), ap (λ xs. frames_of ms ++ xs) w.3 ∙ sym (flat_map-append (λ (x : List ℕ). x) ms w.0))
written_after end ms ns part w = ap (λ xs. frames_of ms ++ xs) w ∙ sym (flat_map-append (λ (x : List ℕ). x) ms ns)

-- what is written of some frames, before others that are due then
written_before : (end : SimEnd) (ms ns : List (List ℕ)) (part : List ℕ) → IsSendStop end → IsWritten end ms part → IsWritten end (ms ++ ns) part
written_before WriteFault ms ns part stops w =
    (w.0 ++ frames_of ns, flat_map-append (λ (x : List ℕ). x) ms ns ∙ ap (λ xs. xs ++ frames_of ns) w.1 ∙ append_assoc part w.0 (frames_of ns), omega (arith, w.2, length-append w.0 (frames_of ns)))
written_before Memory ms ns part stops w = (w.0, w.1 ++ ns, ap (λ xs. xs ++ ns) w.2 ∙ append_assoc w.0 w.1 ns, w.3)
written_before end ms ns part stops w = absurd stops

-- one frame is written in part
pub sent_in_part : (m : List ℕ) (p q : Option (List ℕ)) → AppendsFront p q m → SendsInPart (m ∷ []) p q WriteFault
sent_in_part m p q front = record {
  part = take front.count m;
  stops = tt;
  written = (drop front.count m, append-nil m ∙ sym (take-append-drop front.count m), omega (arith, front.short, length-drop front.count m));
  appended = front.appended;
}

-- none of the frames is written where memory runs out
pub sent_none : (ms : List (List ℕ)) (p : Option (List ℕ)) → SendsInPart ms p p Memory
sent_none ms p = record { part = []; stops = tt; written = ([], ms, refl, refl); appended = Appends-nil p }

-- some frames are written in part, and others are due
pub sends_before : (ms ns : List (List ℕ)) (p q : Option (List ℕ)) (end : SimEnd) → SendsInPart ms p q end → SendsInPart (ms ++ ns) p q end
sends_before ms ns p q end s = record { part = s.part; stops = s.stops; written = written_before end ms ns s.part s.stops s.written; appended = s.appended }

-- some frames are written, and the others in part
pub sends_after : (ms ns : List (List ℕ)) (p q r : Option (List ℕ)) (end : SimEnd) → Appends p q (frames_of ms) → SendsInPart ns q r end → SendsInPart (ms ++ ns) p r end
sends_after ms ns p q r end all s = record { part = frames_of ms ++ s.part; stops = s.stops; written = written_after end ms ns s.part s.written; appended = Appends-trans p q r (frames_of ms) s.part all s.appended }

-- one frame is written, and then another
pub sends_both : (m n : List ℕ) (p q r : Option (List ℕ)) → Appends p q m → Appends q r n → Appends p r (frames_of (m ∷ n ∷ []))
sends_both m n p q r one two = subst (Appends p r) (ap (λ xs. m ++ xs) (sym (append-nil n))) (Appends-trans p q r m n one two)

-- ---- one frame

-- it is a message
pub answers_message : (chosen : Chosen) (b after : BscState) (f : Frame) (m reply : Message) → link_answer f.kind ≡ None → Spells f.kind f.body m
    → reply ≡ (answered b chosen m).reply → after ≡ (answered b chosen m).after → IsAnswered chosen b f (frame_of reply) after
answers_message chosen b after f m reply other spells same then = inr (record { message = m; other = other; spells = spells; reply = ap frame_of same; after = then })

-- it is a RESET
answers_reset : (chosen : Chosen) (b after : BscState) (f : Frame) → f.kind ≡ 16 → after ≡ emptied b → IsAnswered chosen b f reset_complete after
answers_reset chosen b after f reset then = inl (rw reset refl, rw reset then)

-- it is a KEEP ALIVE
answers_alive : (chosen : Chosen) (b : BscState) (f : Frame) → f.kind ≡ 22 → IsAnswered chosen b f alive_complete b
answers_alive chosen b f alive = inl (rw alive refl, rw alive refl)

-- it is answered, and the answer written
pub replies_one : (chosen : Chosen) (b after : BscState) (f : Frame) (octets : List ℕ) (p q : Option (List ℕ)) → IsAnswered chosen b f octets after → Appends p q octets
    → Replies chosen b (f ∷ []) after p q
replies_one chosen b after f octets p q is sent = record {
  replies = octets ∷ [];
  answers = (octets, [], after, is, refl, (refl, refl));
  written = subst (Appends p q) (sym (append-nil octets)) sent;
}

-- it is answered, and the answer written in part
pub breaks_sending : (chosen : Chosen) (b after : BscState) (f : Frame) (octets : List ℕ) (p q : Option (List ℕ)) (end : SimEnd) → IsAnswered chosen b f octets after
    → SendsInPart (octets ∷ []) p q end → Breaks chosen b (f ∷ []) after p q end
breaks_sending chosen b after f octets p q WriteFault is sent = record {
  done = f ∷ [];
  behind = [];
  replies = octets ∷ [];
  part = sent.part;
  stops = tt;
  parts = refl;
  answers = (octets, [], after, is, refl, (refl, refl));
  is_behind = tt;
  written = sent.written;
  appended = sent.appended;
}
breaks_sending chosen b after f octets p q Memory is sent = record {
  done = f ∷ [];
  behind = [];
  replies = octets ∷ [];
  part = sent.part;
  stops = tt;
  parts = refl;
  answers = (octets, [], after, is, refl, (refl, refl));
  is_behind = tt;
  written = sent.written;
  appended = sent.appended;
}
breaks_sending chosen b after f octets p q end is sent = absurd sent.stops

-- a RESET is answered, and the answer written, or written in part
pub replies_reset : (chosen : Chosen) (b after : BscState) (f : Frame) (p q : Option (List ℕ)) → f.kind ≡ 16 → after ≡ emptied b → Appends p q reset_complete
    → Replies chosen b (f ∷ []) after p q
replies_reset chosen b after f p q reset then sent = replies_one chosen b after f reset_complete p q (answers_reset chosen b after f reset then) sent

pub breaks_reset : (chosen : Chosen) (b after : BscState) (f : Frame) (p q : Option (List ℕ)) (end : SimEnd) → f.kind ≡ 16 → after ≡ emptied b
    → SendsInPart (reset_complete ∷ []) p q end → Breaks chosen b (f ∷ []) after p q end
breaks_reset chosen b after f p q end reset then sent = breaks_sending chosen b after f reset_complete p q end (answers_reset chosen b after f reset then) sent

-- and a KEEP ALIVE
pub replies_alive : (chosen : Chosen) (b : BscState) (f : Frame) (p q : Option (List ℕ)) → f.kind ≡ 22 → Appends p q alive_complete → Replies chosen b (f ∷ []) b p q
replies_alive chosen b f p q alive sent = replies_one chosen b b f alive_complete p q (answers_alive chosen b f alive) sent

pub breaks_alive : (chosen : Chosen) (b : BscState) (f : Frame) (p q : Option (List ℕ)) (end : SimEnd) → f.kind ≡ 22 → SendsInPart (alive_complete ∷ []) p q end
    → Breaks chosen b (f ∷ []) b p q end
breaks_alive chosen b f p q end alive sent = breaks_sending chosen b b f alive_complete p q end (answers_alive chosen b f alive) sent

-- there is no memory for the answer
pub breaks_starved : (chosen : Chosen) (b : BscState) (f : Frame) (p : Option (List ℕ)) → Breaks chosen b (f ∷ []) b p p Memory
breaks_starved chosen b f p = record {
  done = [];
  behind = f ∷ [];
  replies = [];
  part = [];
  stops = tt;
  parts = refl;
  answers = (refl, refl);
  is_behind = tt;
  written = ([], [], refl, refl);
  appended = Appends-nil p;
}

-- it can't be read
breaks_badly : (chosen : Chosen) (b : BscState) (f : Frame) (p : Option (List ℕ)) (bad : MessageFault) → link_answer f.kind ≡ None → IsFault f.kind f.body bad
    → Breaks chosen b (f ∷ []) b p p (BadMessage bad)
breaks_badly chosen b f p bad other is = record {
  done = [];
  behind = f ∷ [];
  replies = [];
  part = [];
  stops = tt;
  parts = refl;
  answers = (refl, refl);
  is_behind = (other, is);
  written = refl;
  appended = Appends-nil p;
}

pub breaks_reading : (chosen : Chosen) (b : BscState) (f : Frame) (p : Option (List ℕ)) (bad : MessageFault) → link_answer f.kind ≡ None
    → (bad ≡ fault.Memory) ⊎ IsFault f.kind f.body bad → Breaks chosen b (f ∷ []) b p p (end_of bad)
breaks_reading chosen b f p fault.Memory other h = breaks_starved chosen b f p
breaks_reading chosen b f p (fault.Element e) other h = elim h [ inl same ↦ cc | inr is ↦ breaks_badly chosen b f p (fault.Element e) other is ]
breaks_reading chosen b f p (fault.Repeated i) other h = elim h [ inl same ↦ cc | inr is ↦ breaks_badly chosen b f p (fault.Repeated i) other is ]
breaks_reading chosen b f p (fault.Missing i) other h = elim h [ inl same ↦ cc | inr is ↦ breaks_badly chosen b f p (fault.Missing i) other is ]
breaks_reading chosen b f p fault.BadPages other h = elim h [ inl same ↦ cc | inr is ↦ breaks_badly chosen b f p fault.BadPages other is ]
breaks_reading chosen b f p fault.NotInProfile other h = elim h [ inl same ↦ cc | inr is ↦ breaks_badly chosen b f p fault.NotInProfile other is ]

-- ---- frames in turn

-- no frame
pub replies_none : (chosen : Chosen) (b : BscState) (p : Option (List ℕ)) → Replies chosen b [] b p p
replies_none chosen b p = record { replies = []; answers = (refl, refl); written = Appends-nil p }

-- some frames are answered, and then others
answers_append : (chosen : Chosen) (a b c : BscState) (fs gs : List Frame) (rs ss : List (List ℕ)) → Answers chosen a fs rs b → Answers chosen b gs ss c
    → Answers chosen a (fs ++ gs) (rs ++ ss) c
answers_append chosen a b c [] gs rs ss one two =
    subst (λ x. Answers chosen x gs (rs ++ ss) c) one.1 (subst (λ xs. Answers chosen b gs (xs ++ ss) c) (sym one.0) two)
answers_append chosen a b c (f ∷ fs) gs rs ss one two = (
  one.0,
  one.1 ++ ss,
  one.2,
  one.3,
  ap (λ xs. xs ++ ss) one.4,
  answers_append chosen one.2 b c fs gs one.1 ss one.5 two,
)

pub replies_append : (chosen : Chosen) (a b c : BscState) (fs gs : List Frame) (p q r : Option (List ℕ)) → Replies chosen a fs b p q → Replies chosen b gs c q r
    → Replies chosen a (fs ++ gs) c p r
replies_append chosen a b c fs gs p q r one two = record {
  replies = one.replies ++ two.replies;
  answers = answers_append chosen a b c fs gs one.replies two.replies one.answers two.answers;
  written = subst (Appends p r) (sym (flat_map-append (λ (x : List ℕ). x) one.replies two.replies)) (Appends-trans p q r (frames_of one.replies) (frames_of two.replies) one.written two.written);
}

-- more frames stand behind
behind_more : (end : SimEnd) (fs gs : List Frame) → IsStop end → IsBehind end fs → IsBehind end (fs ++ gs)
behind_more WriteFault fs gs stops h = tt
behind_more Memory fs gs stops h = tt
behind_more (BadMessage f) [] gs stops h = absurd h
behind_more (BadMessage f) (bad ∷ fs) gs stops h = h
behind_more end fs gs stops h = absurd stops

-- some frames are answered, the answering ends at some, and others stand behind
pub breaks_within : (chosen : Chosen) (a b c : BscState) (all fs gs hs : List Frame) (p q r : Option (List ℕ)) (end : SimEnd) → all ≡ fs ++ (gs ++ hs) → Replies chosen a fs b p q
    → Breaks chosen b gs c q r end → Breaks chosen a all c p r end
breaks_within chosen a b c all fs gs hs p q r end same one two = record {
  done = fs ++ two.done;
  behind = two.behind ++ hs;
  replies = one.replies ++ two.replies;
  part = frames_of one.replies ++ two.part;
  stops = two.stops;
  parts = same ∙ ap (λ xs. fs ++ (xs ++ hs)) two.parts ∙ ap (λ xs. fs ++ xs) (append_assoc two.done two.behind hs) ∙ sym (append_assoc fs two.done (two.behind ++ hs));
  answers = answers_append chosen a b c fs two.done one.replies two.replies one.answers two.answers;
  is_behind = behind_more end two.behind hs two.stops two.is_behind;
  written = written_after end one.replies two.replies two.part two.written;
  appended = Appends-trans p q r (frames_of one.replies) two.part one.written two.appended;
}

-- the frames so far are answered
pub record AnsweredSoFar (chosen : Chosen) (old new : BscState) (all rest : List Frame) (before after : Option (List ℕ)) : Type 0 where
  pub front : List Frame
  pub parts : all ≡ front ++ rest
  pub replies : Replies chosen old front new before after

pub so_far_start : (chosen : Chosen) (b : BscState) (all : List Frame) (p : Option (List ℕ)) → AnsweredSoFar chosen b b all all p p
so_far_start chosen b all p = record { front = []; parts = refl; replies = replies_none chosen b p }

pub so_far_more : (chosen : Chosen) (a b c : BscState) (all rest now : List Frame) (f : Frame) (p q r : Option (List ℕ)) → rest ≡ f ∷ now → AnsweredSoFar chosen a b all rest p q
    → Replies chosen b (f ∷ []) c q r → AnsweredSoFar chosen a c all now p r
so_far_more chosen a b c all rest now f p q r same s one = record {
  front = s.front ++ f ∷ [];
  parts = s.parts ∙ ap (λ xs. s.front ++ xs) same ∙ sym (append_assoc s.front (f ∷ []) now);
  replies = replies_append chosen a b c s.front (f ∷ []) p q r s.replies one;
}

pub so_far_end : (chosen : Chosen) (a b : BscState) (all rest : List Frame) (p q : Option (List ℕ)) → rest ≡ [] → AnsweredSoFar chosen a b all rest p q → Replies chosen a all b p q
so_far_end chosen a b all rest p q none s =
    subst (λ xs. Replies chosen a xs b p q) (sym (s.parts ∙ ap (λ xs. s.front ++ xs) none ∙ append-nil s.front)) s.replies

pub so_far_breaks : (chosen : Chosen) (a b c : BscState) (all rest now : List Frame) (f : Frame) (p q r : Option (List ℕ)) (end : SimEnd) → rest ≡ f ∷ now → AnsweredSoFar chosen a b all rest p q
    → Breaks chosen b (f ∷ []) c q r end → Breaks chosen a all c p r end
so_far_breaks chosen a b c all rest now f p q r end same s breaks =
    breaks_within chosen a b c all s.front (f ∷ []) now p q r end (s.parts ∙ ap (λ xs. s.front ++ xs) same) s.replies breaks

-- ---- octets that come

-- the frames of a framer that waits are those that are cut now
only_more : (old now : List Frame) (more : List Frame) → old ≡ [] → now ≡ old ++ more → now ≡ more
only_more old now more none same = same ∙ ap (λ xs. xs ++ more) none

pub hears_all : (chosen : Chosen) (a b : BscState) (old mid : Framing) (now piece : List ℕ) (p q : Option (List ℕ)) → IsWaiting old → Takes old piece mid → now ≡ mid.rest
    → Replies chosen a mid.frames b p q → Hears chosen a old.rest piece b now p q
hears_all chosen a b old mid now piece p q waits takes same replies = record {
  frames = takes.more;
  cut = subst (λ r. Cuts (old.rest ++ piece) takes.more r) (sym same) takes.cuts;
  replies = subst (λ fs. Replies chosen a fs b p q) (only_more old.frames mid.frames takes.more waits.drained takes.frames) replies;
}

pub waits_again : (old mid new : Framing) (piece : List ℕ) → Takes old piece mid → new.frames ≡ [] → new.rest ≡ mid.rest → IsWaiting new
waits_again old mid new piece takes none same = record {
  drained = none;
  partial = subst BeginsWithNoFrame (sym same) takes.cuts.partial;
  fits = λ long. takes.fits (subst IsTooLong same long);
}

-- what an end of an answer says of what is left
left_at_stop : (end : SimEnd) (rest : List ℕ) (left : Option (List ℕ)) → IsStop end → IsLeft end rest left
left_at_stop WriteFault rest left stops = tt
left_at_stop Memory rest left stops = tt
left_at_stop (BadMessage f) rest left stops = tt
left_at_stop end rest left stops = absurd stops

-- and nothing that was read is uncut
none_uncut : (end : SimEnd) → IsUncut end []
none_uncut Memory = tt
none_uncut end = refl

-- the answering of the frames that were cut ends
stops_hearing : (chosen : Chosen) (a b : BscState) (rest piece now : List ℕ) (more : List Frame) (left p q : Option (List ℕ)) (end : SimEnd) → Cuts (rest ++ piece) more now
    → Breaks chosen a more b p q end → HearsInPart chosen a rest piece b left p q end
stops_hearing chosen a b rest piece now more left p q end cut breaks = record {
  heard = piece;
  uncut = [];
  frames = breaks.done;
  behind = breaks.behind;
  now = now;
  replies = breaks.replies;
  part = breaks.part;
  parts = sym (append-nil piece);
  none_uncut = none_uncut end;
  cut = subst (λ fs. Cuts (rest ++ piece) fs now) breaks.parts cut;
  answers = breaks.answers;
  is_behind = breaks.is_behind;
  is_left = left_at_stop end now left breaks.stops;
  written = breaks.written;
  appended = breaks.appended;
}

pub stops_at_frame : (chosen : Chosen) (a b : BscState) (old mid : Framing) (piece : List ℕ) (left p q : Option (List ℕ)) (end : SimEnd) → IsWaiting old → Takes old piece mid
    → Breaks chosen a mid.frames b p q end → HearsInPart chosen a old.rest piece b left p q end
stops_at_frame chosen a b old mid piece left p q end waits takes breaks =
    stops_hearing chosen a b old.rest piece mid.rest takes.more left p q end takes.cuts
    (subst (λ fs. Breaks chosen a fs b p q end) (only_more old.frames mid.frames takes.more waits.drained takes.frames) breaks)

pub stops_before_long : (chosen : Chosen) (a b : BscState) (old mid : Framing) (piece : List ℕ) (n : ℕ) (left p q : Option (List ℕ)) (end : SimEnd) → IsWaiting old → EndsTooLong old piece n mid
    → Breaks chosen a mid.frames b p q end → HearsInPart chosen a old.rest piece b left p q end
stops_before_long chosen a b old mid piece n left p q end waits ends breaks =
    stops_hearing chosen a b old.rest piece ends.tail ends.more left p q end ends.cuts
    (subst (λ fs. Breaks chosen a fs b p q end) (only_more old.frames mid.frames ends.more waits.drained ends.frames) breaks)

-- all are answered, and the next is too long
pub stops_at_long : (chosen : Chosen) (a b : BscState) (old mid : Framing) (piece : List ℕ) (n : ℕ) (left p q : Option (List ℕ)) → IsWaiting old → EndsTooLong old piece n mid
    → Replies chosen a mid.frames b p q → HearsInPart chosen a old.rest piece b left p q TooLong
stops_at_long chosen a b old mid piece n left p q waits ends replies = record {
  heard = piece;
  uncut = [];
  frames = mid.frames;
  behind = [];
  now = ends.tail;
  replies = replies.replies;
  part = frames_of replies.replies;
  parts = sym (append-nil piece);
  none_uncut = refl;
  cut = subst (λ fs. Cuts (old.rest ++ piece) fs ends.tail) (sym (only_more old.frames mid.frames ends.more waits.drained ends.frames) ∙ sym (append-nil mid.frames)) ends.cuts;
  answers = replies.answers;
  is_behind = refl;
  is_left = ends.too_long;
  written = refl;
  appended = replies.written;
}

-- nothing is heard
unheard : (chosen : Chosen) (b : BscState) (rest piece : List ℕ) (left p : Option (List ℕ)) (end : SimEnd) → BeginsWithNoFrame rest → IsUncut end piece → IsBehind end [] → IsLeft end rest left
    → IsWritten end [] [] → HearsInPart chosen b rest piece b left p p end
unheard chosen b rest piece left p end partial uncut behind is_left written = record {
  heard = [];
  uncut = piece;
  frames = [];
  behind = [];
  now = rest;
  replies = [];
  part = [];
  parts = refl;
  none_uncut = uncut;
  cut = record { whole = append-nil rest; each = tt; partial = partial };
  answers = (refl, refl);
  is_behind = behind;
  is_left = is_left;
  written = written;
  appended = Appends-nil p;
}

-- there is no memory for the octets
pub stops_starved : (chosen : Chosen) (b : BscState) (old : Framing) (piece : List ℕ) (left p : Option (List ℕ)) → IsWaiting old → HearsInPart chosen b old.rest piece b left p p Memory
stops_starved chosen b old piece left p waits = unheard chosen b old.rest piece left p Memory waits.partial tt tt tt ([], [], refl, refl)

-- ---- a read

-- the stream ended
pub turns_ended : (chosen : Chosen) (b : BscState) (old : Framing) (given left p : Option (List ℕ)) → IsWaiting old → old.rest ≡ [] → Consumes given left [] → IsAtEnd left
    → TurnsInPart chosen b old.rest b given left p p PeerEnded
turns_ended chosen b old given left p waits none consumed ended = record {
  octets = [];
  consumed = consumed;
  hears = unheard chosen b old.rest [] left p PeerEnded waits.partial refl refl (none, ended) refl;
}

-- within a frame
pub turns_cut : (chosen : Chosen) (b : BscState) (old : Framing) (given left p : Option (List ℕ)) → IsWaiting old → 0 < length old.rest → Consumes given left [] → IsAtEnd left
    → TurnsInPart chosen b old.rest b given left p p CutFrame
turns_cut chosen b old given left p waits some consumed ended = record {
  octets = [];
  consumed = consumed;
  hears = unheard chosen b old.rest [] left p CutFrame waits.partial refl refl (some, waits.fits, ended) refl;
}

-- a read failed
pub turns_failed : (chosen : Chosen) (b : BscState) (old : Framing) (given left p : Option (List ℕ)) → IsWaiting old → Consumes given left []
    → TurnsInPart chosen b old.rest b given left p p ReadFault
turns_failed chosen b old given left p waits consumed = record {
  octets = [];
  consumed = consumed;
  hears = unheard chosen b old.rest [] left p ReadFault waits.partial refl refl tt refl;
}

-- ---- a whole conversation

-- nothing is read yet
pub waits_fresh : IsWaiting fresh
waits_fresh = record { drained = refl; partial = no_frame-nil; fits = λ long. omega (arith, long.0) }

pub turns_none : (chosen : Chosen) (b : BscState) (given p : Option (List ℕ)) → Turns chosen b [] b [] given given p p
turns_none chosen b given p = record {
  octets = [];
  consumed = Consumes-nil given;
  hears = record { frames = []; cut = record { whole = refl; each = tt; partial = no_frame-nil }; replies = replies_none chosen b p };
}

-- one read more
pub turns_more : (chosen : Chosen) (a b c : BscState) (rest now : List ℕ) (g h k p q r : Option (List ℕ)) → Turns chosen a [] b rest g h p q → Turns chosen b rest c now h k q r
    → Turns chosen a [] c now g k p r
turns_more chosen a b c rest now g h k p q r one two = record {
  octets = one.octets ++ two.octets;
  consumed = Consumes-trans g h k one.octets two.octets one.consumed two.consumed;
  hears = record {
    frames = one.hears.frames ++ two.hears.frames;
    cut = pieces_join one.octets two.octets one.hears.frames two.hears.frames rest now one.hears.cut two.hears.cut;
    replies = replies_append chosen a b c one.hears.frames two.hears.frames p q r one.hears.replies two.hears.replies;
  };
}

-- the opening isn't written, or not in full
pub converses_not : (chosen : Chosen) (old new : BscState) (given p q : Option (List ℕ)) (end : SimEnd) → new ≡ emptied old → SendsInPart opening p q end → Converses chosen old new given given p q end
converses_not chosen old new given p q end same s = record {
  heard = [];
  uncut = [];
  frames = [];
  behind = [];
  rest = [];
  replies = [];
  part = s.part;
  consumed = Consumes-nil given;
  none_uncut = none_uncut end;
  cut = record { whole = refl; each = tt; partial = no_frame-nil };
  answers = (refl, same);
  is_behind = none_behind end s.stops;
  is_left = left_at_send end s.stops;
  written = s.written;
  appended = s.appended;
}
  where
    none_behind : (end : SimEnd) → IsSendStop end → IsBehind end []
    none_behind WriteFault stops = tt
    none_behind Memory stops = tt
    none_behind end stops = absurd stops

    left_at_send : (end : SimEnd) → IsSendStop end → IsLeft end [] given
    left_at_send WriteFault stops = tt
    left_at_send Memory stops = tt
    left_at_send end stops = absurd stops

-- some reads, and one at which the conversation ends
pub converses_until : (chosen : Chosen) (old start b c : BscState) (rest : List ℕ) (g h k p q r s : Option (List ℕ)) (end : SimEnd) → start ≡ emptied old → Appends p q (frames_of opening)
    → Turns chosen start [] b rest g h q r → TurnsInPart chosen b rest c h k r s end → Converses chosen old c g k p s end
converses_until chosen old start b c rest g h k p q r s end same opened one two =
    let before = one.hears.replies.replies in
    let last = two.hears in
    record {
      heard = one.octets ++ last.heard;
      uncut = last.uncut;
      frames = one.hears.frames ++ last.frames;
      behind = last.behind;
      rest = last.now;
      replies = before ++ last.replies;
      part = frames_of opening ++ (frames_of before ++ last.part);
      consumed = subst (Consumes g k) (ap (λ xs. one.octets ++ xs) last.parts ∙ sym (append_assoc one.octets last.heard last.uncut)) (Consumes-trans g h k one.octets two.octets one.consumed two.consumed);
      none_uncut = last.none_uncut;
      cut = subst (λ fs. Cuts (one.octets ++ last.heard) fs last.now) (sym (append_assoc one.hears.frames last.frames last.behind))
          (pieces_join one.octets last.heard one.hears.frames (last.frames ++ last.behind) rest last.now one.hears.cut last.cut);
      answers = subst (λ x. Answers chosen x (one.hears.frames ++ last.frames) (before ++ last.replies) c) same (answers_append chosen start b c one.hears.frames last.frames before last.replies one.hears.replies.answers last.answers);
      is_behind = last.is_behind;
      is_left = last.is_left;
      written = written_after end opening (before ++ last.replies) (frames_of before ++ last.part) (written_after end before last.replies last.part last.written);
      appended = Appends-trans p q s (frames_of opening) (frames_of before ++ last.part) opened (Appends-trans q r s (frames_of before) last.part one.hears.replies.written last.appended);
    }

-- so many reads came to no end
pub converses_on : (chosen : Chosen) (old start b : BscState) (f : Framing) (g h p q r : Option (List ℕ)) → start ≡ emptied old → Appends p q (frames_of opening) → IsWaiting f
    → Turns chosen start [] b f.rest g h q r → Converses chosen old b g h p r ReadFault
converses_on chosen old start b f g h p q r same opened waits one =
    converses_until chosen old start b b f.rest g h h p q r r ReadFault same opened one (turns_failed chosen b f h h r waits (Consumes-nil h))

-- one call more
pub counted_more : (n k : ℕ) → counted (counted n k) 1 ≡ counted n (k + 1)
counted_more n k = omega arith
