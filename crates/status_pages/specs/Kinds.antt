-- Which warnings are emergencies, and which are tests.
use Rattle.std.specs.Prelude.{ℕ, Bool, true, false, ◌==◌, ◌&&◌, ◌||◌, not}
use Rattle.centre_past.specs.declared.lists.warning_row.WarningRow.{WarningRow}
use Rattle.warning_book.specs.declared.kind.Kind.{Kind}
use Rattle.warning_book.specs.declared.kind.Kind.TheVariants as kind

-- the kind is that of an emergency warning
abbrev pub is_emergency_kind : Kind → Bool
is_emergency_kind kind.Emergency = true
is_emergency_kind kind.Cbs = false

-- the message identifiers of tests and exercises (TS 23.041, 9.4.1.2.2): that of earthquake and tsunami warnings, the required monthly test
-- and the exercise, both of these in another language, and the test of a state, in both
abbrev pub is_test_id : ℕ → Bool
is_test_id id = id == 4355 || (id == 4380 || (id == 4381 || (id == 4393 || (id == 4394 || (id == 4398 || id == 4399)))))

-- the warning is a test or an exercise that was stopped
abbrev pub is_stopped_test : WarningRow → Bool
is_stopped_test w = not w.is_active && is_test_id w.message_id

-- an emergency, unless it is such a test
abbrev pub is_emergency : WarningRow → Bool
is_emergency w = is_emergency_kind w.kind && not (is_stopped_test w)
