-- What always holds of a centre, and what comes of an event that it is given.
use Rattle.std.specs.Prelude.{◌≡◌, ◌⊎◌, ◌≤◌, ℕ, ◌+◌, ◌++◌, Bool, true, false, List, length, reverse, Err}
use Rattle.centre_past.specs.IsKept.{IsKept}
use Rattle.centre_events.specs.Kept.{MayStarve}
use Rattle.centre_past.specs.Legal.{Legal, Known, lasting, past}
use Rattle.centre_past.specs.Reach.{reach_of, size}
use Rattle.centre_events.specs.Folding.{base_of}
use Rattle.centre_events.specs.Past.{Past, From, After, past_of, since}
use Rattle.centre_events.specs.Verdict.{verdict}
use Rattle.centre_events.specs.declared.entry.Entry.{Entry}
use Rattle.centre_events.specs.declared.event.Event.{Event}
use Rattle.centre_events.specs.declared.network.Network.{Network}
use Rattle.centre_past.specs.declared.kept.Kept.{Kept}
use Rattle.centre_events.specs.declared.refusal.Refusal.{Refusal}
use Rattle.centre_events.specs.declared.refusal.Refusal.TheVariants.{Stale, Memory, WrongDesk}
use Rattle.centre_events.specs.declared.settings.Settings.{Settings}

-- the past of entries after others that were folded, both the oldest first
abbrev pub past_over : List Entry → List Entry → Past
past_over folded journal = since (base_of (past_of folded)) (reverse journal)

-- what the base of a centre holds: what the folded entries come to, and the count with which that of lines begins
pub record BaseState : Type 0 where
  pub kept : Kept
  pub begun : ℕ

-- The entries that were folded and then those of the journal are legal over the empty base, and what is kept is what they
-- come to.
pub record IsWhole (network : Network) (folded journal : List Entry) (s : Kept) : Type 0 where
  pub legal : Legal (lasting network) (past_of (folded ++ journal))
  pub kept : IsKept (past_of (folded ++ journal)) s

-- The journal has no more entries than it may; the entries that were folded and then its own are legal over the empty base;
-- the base is what the folded ones come to, and what is kept beside the journal is what all come to, unless the centre is
-- stale.
pub record IsCentre (settings : Settings) (folded journal : List Entry) (stale : Bool) (first kept : Kept) : Type 0 where
  pub few : settings.limit ≤ 4000000
  pub long : length journal ≤ settings.limit
  pub legal : Legal (lasting settings.network) (past_of (folded ++ journal))
  pub base : IsKept (past_of folded) first
  pub whole : stale ≡ false → IsKept (past_of (folded ++ journal)) kept

-- why an event is refused in a whole centre: memory runs out where it may be, or the verdict is that refusal
abbrev pub IsRefused : Settings → Past → Event → Refusal → Type 0
IsRefused settings before e r = ((r ≡ Memory) × MayStarve settings before e) ⊎ (verdict settings before e ≡ Err r)

-- why a centre refuses an event: it is stale, or it is whole and the event is refused
abbrev pub Refuses : Known → Event → Refusal → Type 0
Refuses centre e r = ((r ≡ Stale) × (centre.stale ≡ true)) ⊎ ((centre.stale ≡ false) × IsRefused centre.settings (past centre) e r)

-- what a refusal leaves of a centre: it is as it was, or memory ran out and it is stale
abbrev pub Leaves : Known → Refusal → Known → Type 0
Leaves old r new = (new ≡ old) ⊎ ((r ≡ Memory) × (new ≡ record old { stale = true }))

-- where a refusal comes from: `Stale` from a stale centre alone, `Memory` from a whole one alone where the verdict is no
-- refusal, and any other from a whole one, whose verdict it is; a centre knows no desks
abbrev pub ComesFrom : Known → Event → Refusal → Type 0
ComesFrom centre e Stale = centre.stale ≡ true
ComesFrom centre e Memory = (centre.stale ≡ false) × MayStarve centre.settings (past centre) e
ComesFrom centre e (WrongDesk position) = ⊥
ComesFrom centre e other = (centre.stale ≡ false) × (verdict centre.settings (past centre) e ≡ Err other)

-- on how many lines the events of the entries bear, each with its answer and after the entries before it
abbrev pub all_reach : Past → ℕ
all_reach (From base) = 0
all_reach (After e before) = all_reach before + size (reach_of before e.event e.answer)
