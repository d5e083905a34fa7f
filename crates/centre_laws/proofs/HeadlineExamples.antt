-- Worked instances of the words of the headline: what orders make of a key, and when that agrees with the plan; an order
-- without one of its cells, what acts on a key, and what brings a warning on air.
use Rattle.std.specs.Prelude.{◌≡◌, true, false, [], ◌∷◌}
use Rattle.std.proofs.Common.{refl}
use Rattle.common.specs.declared.cell.Cell.{Cell}
use Rattle.centre_past.specs.Headline.{applied, Agrees}
use Rattle.mirror.specs.declared.presence.Presence.TheVariants.{Absent, OnAir, Unknown}
use Rattle.centre_laws.specs.Spare.{without_cell, acts_on, brings}
use Rattle.order_maker.specs.declared.action.Action.{Action}
use Rattle.order_maker.specs.declared.order.Order.{Order}
use Rattle.order_maker.specs.declared.order_kind.OrderKind.TheVariants.{Write, Replace, Kill}
use Rattle.warning_book.specs.declared.content.Content.{Content}
use Rattle.warning_book.specs.declared.warning.Warning.{Warning}

abbrev here : Cell
here = record { lac = 100; ci = 7 }

abbrev there : Cell
there = record { lac = 100; ci = 8 }

abbrev write : Order
write = record { kind = Write; message_id = 4370; serial = 49152; cells = there ∷ here ∷ [] }

-- the second version in place of the first
abbrev replace : Order
replace = record { kind = Replace 49152; message_id = 4370; serial = 49153; cells = here ∷ [] }

abbrev kill : Order
kill = record { kind = Kill; message_id = 4370; serial = 49153; cells = here ∷ [] }

a_write_puts_its_key_on_air : applied (write ∷ []) here 4370 49152 Unknown ≡ OnAir
a_write_puts_its_key_on_air = refl

a_replace_puts_its_key_on_air : applied (replace ∷ []) here 4370 49153 Absent ≡ OnAir
a_replace_puts_its_key_on_air = refl

a_replace_takes_the_old_key_off : applied (replace ∷ []) here 4370 49152 OnAir ≡ Absent
a_replace_takes_the_old_key_off = refl

a_kill_takes_its_key_off : applied (kill ∷ []) here 4370 49153 Unknown ≡ Absent
a_kill_takes_its_key_off = refl

another_cell_is_left : applied (replace ∷ kill ∷ []) there 4370 49152 OnAir ≡ OnAir
another_cell_is_left = refl

another_message_is_left : applied (replace ∷ kill ∷ []) here 4371 49153 Unknown ≡ Unknown
another_message_is_left = refl

a_later_order_counts : applied (write ∷ replace ∷ kill ∷ []) here 4370 49153 Absent ≡ Absent
a_later_order_counts = refl

on_air_agrees_where_planned : Agrees OnAir true
on_air_agrees_where_planned = refl

absent_agrees_where_not_planned : Agrees Absent false
absent_agrees_where_not_planned = refl

without_one_cell_the_other_stays : without_cell here write ≡ record write { cells = there ∷ [] }
without_one_cell_the_other_stays = refl

abbrev replace_here : Action
replace_here = record { kind = Replace 49152; message_id = 4370; serial = 49153; cell = here }

a_replace_acts_on_its_key : acts_on here 4370 49153 replace_here ≡ true
a_replace_acts_on_its_key = refl

a_replace_acts_on_the_old_key : acts_on here 4370 49152 replace_here ≡ true
a_replace_acts_on_the_old_key = refl

an_action_acts_on_no_other_cell : acts_on there 4370 49153 replace_here ≡ false
an_action_acts_on_no_other_cell = refl

an_action_acts_on_no_other_key : acts_on here 4370 49154 replace_here ≡ false
an_action_acts_on_no_other_key = refl

-- a warning with two versions
abbrev warning : Content → Warning
warning content = record { number = 1; message_id = 4370; versions = (record { serial = 49152; content = content }) ∷ (record { serial = 49153; content = content }) ∷ []; areas = []; active = true }

a_replace_brings_its_version_on_air : (content : Content) → brings (warning content) replace ≡ true
a_replace_brings_its_version_on_air content = refl

an_outdated_version_is_not_the_warning : (content : Content) → brings (warning content) write ≡ false
an_outdated_version_is_not_the_warning content = refl

a_kill_brings_nothing_on_air : (content : Content) → brings (warning content) kill ≡ false
a_kill_brings_nothing_on_air content = refl
