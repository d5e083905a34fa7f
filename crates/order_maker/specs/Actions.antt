-- What is to be ordered on one line: a write where the wanted version is not on air, which replaces the newest other
-- version that is on air; and a KILL of each version that is on air, or may be, and neither wanted nor replaced. A cell
-- that is down is ordered nothing, and so is a key that is held.
use Rattle.std.specs.Prelude.{ℕ, Bool, false, ◌&&◌, not, List, [], ◌∷◌, ◌++◌, Option, Some, None, nat_eq, find, reverse, if◌then◌else◌}
use Rattle.common.specs.declared.cell.Cell.{Cell}
use Rattle.mirror.specs.Seen.{Seen, is_absent, is_on_air, is_the}
use Rattle.order_maker.specs.declared.action.Action.{Action}
use Rattle.order_maker.specs.declared.deed.Deed.{Deed}
use Rattle.order_maker.specs.declared.order_kind.OrderKind.{OrderKind}
use Rattle.order_maker.specs.declared.order_kind.OrderKind.TheVariants.{Write, Replace, Kill}

-- the wanted version is to be written: the cell is up, and its key neither held nor on air
abbrev pub needs : Seen → ℕ → Bool
needs v s = not v.down && (not (v.is_held s) && not (is_on_air (v.presence s)))

-- another version can be replaced: it is on air and not held
abbrev pub is_replaceable : Seen → ℕ → ℕ → Bool
is_replaceable v s t = not (nat_eq t s) && (is_on_air (v.presence t) && not (v.is_held t))

-- the newest of the versions that passes the test
abbrev pub newest : (ℕ → Bool) → List ℕ → Option ℕ
newest p versions = find p (reverse versions)

-- the version that a write replaces: the newest that can be, where the wanted one is absent
abbrev pub replaced : Seen → ℕ → Option ℕ
replaced v s = if is_absent (v.presence s) then newest (is_replaceable v s) v.versions else None

-- the kind of a write
abbrev pub fresh_kind : Option ℕ → OrderKind
fresh_kind None = Write
fresh_kind (Some old) = Replace old

-- what is done with the version of a serial number
abbrev pub deed : Seen → OrderKind → ℕ → Deed
deed v kind s = record { kind = kind; message_id = v.message_id; serial = s }

-- the write of the wanted version
abbrev pub fresh : Seen → Option ℕ → List Deed
fresh v None = []
fresh v (Some s) = if needs v s then deed v (fresh_kind (replaced v s)) s ∷ [] else []

-- a version is wanted, and is to be written
abbrev pub is_written : Seen → Option ℕ → Bool
is_written v None = false
is_written v (Some s) = needs v s

-- the version that the write replaces, where there is a write
abbrev pub replaced_for : Seen → Option ℕ → Option ℕ
replaced_for v None = None
replaced_for v (Some s) = if needs v s then replaced v s else None

-- the version is on air, or may be, the cell up and its key free, and it is neither wanted nor replaced there
abbrev pub is_to_kill : Seen → ℕ → Bool
is_to_kill v t = not v.down && (not (is_the v.wanted t) && (not (v.is_held t) && (not (is_absent (v.presence t)) && not (is_the (replaced_for v v.wanted) t))))

-- the KILLs of the versions
abbrev pub kills : Seen → List ℕ → List Deed
kills v [] = []
kills v (t ∷ ts) = (if is_to_kill v t then deed v Kill t ∷ [] else []) ++ kills v ts

-- what is to be ordered on the line
abbrev pub deeds : Seen → List Deed
deeds v = fresh v v.wanted ++ kills v v.versions

-- that, in the line's cell
abbrev pub in_cell : Cell → Deed → Action
in_cell c d = record { kind = d.kind; message_id = d.message_id; serial = d.serial; cell = c }

-- a deed, if there is one, as a list
abbrev pub listed : Option Deed → List Deed
listed None = []
listed (Some d) = d ∷ []

-- the write of the wanted version, if there is one
abbrev pub fresh_deed : Seen → Option ℕ → Option Deed
fresh_deed v None = None
fresh_deed v (Some s) = if needs v s then Some (deed v (fresh_kind (replaced v s)) s) else None

-- the KILL of the version, if there is one
abbrev pub kill_deed : Seen → ℕ → Option Deed
kill_deed v t = if is_to_kill v t then Some (deed v Kill t) else None
