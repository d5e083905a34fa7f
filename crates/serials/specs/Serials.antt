-- Serial numbers and message codes (TS 23.041, 9.4.1.2.1).
use Rattle.std.specs.Prelude.{ℕ, ◌+◌, ◌*◌, ◌/◌, ◌%◌, not, nat_eq, List, Option, find}
use Rattle.std.specs.List.{range_with_len}
use Rattle.std.specs.List.{list_any}
use Rattle.serials.specs.declared.scope.Scope.{Scope}
use Rattle.serials.specs.declared.scope.Scope.TheVariants.{CellImmediate, Plmn, LocationArea, Cell}

-- the two bits of a scope
abbrev pub scope_number : Scope → ℕ
scope_number CellImmediate = 0
scope_number Plmn = 1
scope_number LocationArea = 2
scope_number Cell = 3

-- the serial number of a scope, a code and an update number
abbrev pub serial_of : ℕ → ℕ → ℕ → ℕ
serial_of scope code update = scope * 16384 + code * 16 + update

-- the geographical scope of a serial number, its two highest bits
abbrev pub scope_part : ℕ → ℕ
scope_part serial = serial / 16384

-- the message code of a serial number, 0 to 1,023
abbrev pub code_of : ℕ → ℕ
code_of serial = serial / 16 % 1024

-- the update number of a serial number, 0 to 15
abbrev pub update_of : ℕ → ℕ
update_of serial = serial % 16

-- the serial number of the version that follows one with this serial number: its scope and code, the next update number, 0
-- after 15
abbrev pub next_of : ℕ → ℕ
next_of serial = serial / 16 * 16 + (serial + 1) % 16

-- the codes there are, in order
unfoldable pub every_code : List ℕ
every_code = range_with_len 0 1024

-- the first code that is not among those used
abbrev pub least_free : List ℕ → Option ℕ
least_free used = find (λ code. not (list_any (nat_eq code) used)) every_code
