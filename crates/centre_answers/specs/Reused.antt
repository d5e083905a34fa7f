-- An Update that takes a serial number that a version of its warning has: nothing of that version may be on air or in
-- flight.
use Rattle.std.specs.Prelude.{◌≡◌, ℕ, Bool, true, false, List, [], ◌∷◌, Option, Some, None, Result, Ok, Err, length, if◌then◌else◌}
use Rattle.std.specs.List.{list_any}
use Rattle.std.specs.Option.{option_map}
use Rattle.common.specs.Checks.{first_refusal}
use Rattle.serials.specs.Serials.{next_of}
use Rattle.warning_book.specs.Book.{current_of, has_serial}
use Rattle.warning_book.specs.declared.version.Version.{Version}
use Rattle.warning_book.specs.declared.warning.Warning.{Warning}
use Rattle.centre_past.specs.Links.{flight_in}
use Rattle.centre_events.specs.Past.{Past}
use Rattle.centre_events.specs.Reported.{is_key_in_flight, is_key_reported, names_version}
use Rattle.centre_events.specs.Verdict.{reuses}
use Rattle.centre_past.specs.declared.link.Link.{Link}
use Rattle.centre_events.specs.declared.refusal.Refusal.{Refusal}
use Rattle.centre_events.specs.declared.refusal.Refusal.TheVariants.{StillReported, StillInFlight}
use Rattle.centre_past.specs.Reach.{known_anywhere}

-- the serial number, where one of the versions has it
abbrev pub had_by : List Version → Option ℕ → Option ℕ
had_by versions None = None
had_by versions (Some s) = if list_any (has_serial s) versions then Some s else None

-- the serial number of the warning's next version, where a version of the warning has it
abbrev pub reused_of : Warning → Option ℕ
reused_of w = had_by w.versions (option_map next_of (current_of w))

-- what is in flight to one of these BSCs names the version of that message identifier and serial number
abbrev pub is_key_flying : List Link → ℕ → ℕ → List ℕ → Bool
is_key_flying ls m s bs = list_any (λ b. names_version (flight_in ls b) m s) bs

-- why the version of that serial number, if there is one, stays: it is on air, or may be, or what is in flight names it
abbrev pub key_checks : Past → ℕ → Option ℕ → List (Bool × Refusal)
key_checks past m None = []
key_checks past m (Some s) = (is_key_reported past m s, StillReported) ∷ (is_key_in_flight past m s, StillInFlight) ∷ []

-- the same of the warning of that number
abbrev pub reuse_checks : Past → ℕ → List (Bool × Refusal)
reuse_checks past n = (reuses past n (is_key_reported past), StillReported) ∷ (reuses past n (is_key_in_flight past), StillInFlight) ∷ []

-- the first of the checks that holds is the refusal, and none holds where there is none
abbrev pub IsFirst : {A : Type 0} → List (Bool × Refusal) → Result A Refusal → Type 0
IsFirst checks (Ok free) = first_refusal checks ≡ None
IsFirst checks (Err refusal) = first_refusal checks ≡ Some refusal

-- how many lines are read for it, at most: where there is such a version, as many as cells are known anywhere
abbrev pub most_read : Past → Bool → ℕ
most_read past true = length (known_anywhere past)
most_read past false = 0
