-- A legal past: nothing was folded into its base, and each entry has the answer that the past before it gives its event.
-- A lawful past is what a centre has after checkpoints: its base is what the entries of a legal past come to.
use Rattle.std.specs.Prelude.{◌≡◌, ℕ, Bool, false, List, [], ◌∷◌, ◌++◌, Result, Ok, Err, reverse}
use Rattle.centre_events.specs.Base.{empty_base}
use Rattle.centre_events.specs.Folding.{base_of, folded}
use Rattle.centre_events.specs.Past.{Past, From, After, past_of, since}
use Rattle.centre_events.specs.Verdict.{last_position, verdict}
use Rattle.centre_events.specs.declared.answer.Answer.{Answer}
use Rattle.centre_events.specs.declared.entry.Entry.{Entry}
use Rattle.centre_events.specs.declared.event.Event.{Event}
use Rattle.centre_events.specs.declared.network.Network.{Network}
use Rattle.centre_events.specs.declared.refusal.Refusal.{Refusal}
use Rattle.centre_events.specs.declared.settings.Settings.{Settings}

-- each answer is the verdict
abbrev pub Legal : Settings → Past → Type 0
Legal settings (From base) = base ≡ empty_base
Legal settings (After e before) = (verdict settings before e.event ≡ Ok e.answer) × Legal settings before

-- the settings of a centre of the network whose journal takes entries up to the last position
abbrev pub lasting : Network → Settings
lasting network = record { network = network; limit = last_position }

-- the whole of a past: a legal past with nothing folded, which has every entry and comes to the same base
pub record HasWhole (network : Network) (p : Past) : Type 0 where
  pub full : Past
  pub legal : Legal (lasting network) full
  pub same : base_of full ≡ base_of p

-- each answer is the verdict, and so was that of each entry that was folded
abbrev pub Lawful : Settings → Past → Type 0
Lawful settings (From base) = HasWhole settings.network (From base)
Lawful settings (After e before) = (verdict settings before e.event ≡ Ok e.answer) × Lawful settings before

-- what is known of a centre: its settings, the entries that were folded and those of its journal, both the oldest first,
-- and whether it is stale
pub record Known : Type 0 where
  pub settings : Settings
  pub folded : List Entry
  pub journal : List Entry
  pub stale : Bool

-- what contracts see of a centre: what is known of it, how often its lines were read or set, how often entries of its
-- journal were read, and what is counted apart. A copy is counted too, each line of it once. What a checkpoint or a rebuild
-- copies isn't among `lines`: it is counted apart, and so is what is read of the base. No other call changes `apart`; so
-- what another call reads of the base, or copies, can't be hidden.
pub record CentreState : Type 0 where
  pub known : Known
  pub lines : ℕ
  pub entries : ℕ
  pub apart : ℕ

-- a centre of the network without entries
abbrev pub new_centre : Network → ℕ → Known
new_centre network limit = record { settings = record { network = network; limit = limit }; folded = []; journal = []; stale = false }

-- the past of a centre: what the folded entries come to, and after it those of the journal
abbrev pub past : Known → Past
past centre = since (base_of (past_of centre.folded)) (reverse centre.journal)

-- all its entries, the oldest first
abbrev pub all_entries : Known → List Entry
all_entries centre = centre.folded ++ centre.journal

-- what is known after a checkpoint, which folds every entry
abbrev pub checkpointed : Known → Known
checkpointed centre = record centre { folded = all_entries centre; journal = [] }

-- what a centre is called for: an event that a desk submits, or a checkpoint
pub data Call : Type 0 where
  Submit : ℕ → Event → Call
  Checkpoint : Call

-- an accepted event becomes an entry; a refused one leaves no trace
abbrev pub with_verdict : ℕ → Event → Result Answer Refusal → Past → Past
with_verdict desk event (Ok answer) before = After (let e : Entry = record { desk = desk; event = event; answer = answer } in e) before
with_verdict desk event (Err refusal) before = before

-- the past after the call
abbrev pub with_call : Settings → Call → Past → Past
with_call settings (Submit desk event) before = with_verdict desk event (verdict settings before event) before
with_call settings Checkpoint before = folded before

-- the past that calls make, the first of them standing first
abbrev pub after_calls : Settings → List Call → Past → Past
after_calls settings [] before = before
after_calls settings (call ∷ calls) before = after_calls settings calls (with_call settings call before)
