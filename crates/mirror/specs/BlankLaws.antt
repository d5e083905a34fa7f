-- A line is blank where its test answers true, and nowhere else.
use Rattle.std.proofs.Common.{◌≡◌, ◌&&◌, Option, Some, None, nat_eq, refl, ap}
use Rattle.std.specs.Bool.{Decides}
use Rattle.std.specs.Cmp.{unsigned_Decides}
use Rattle.std.specs.Cmp.Lexicographic.{pointwise_decides}
use Rattle.std.specs.Option.{option_eq}
use Rattle.cbsp_ie.specs.declared.cause.Cause.{Cause}
use Rattle.common.specs.Equality.{both, amounts}
use Rattle.mirror.specs.Blank.{presence_eq, cause_eq, state_eq, line_eq, is_blank}
use Rattle.mirror.specs.Line.{blank_line}
use Rattle.mirror.specs.declared.key_state.KeyState.{KeyState}
use Rattle.mirror.specs.declared.line.Line.{Line}
use Rattle.mirror.specs.declared.presence.Presence.{Presence}
use Rattle.mirror.specs.declared.presence.Presence.TheVariants.{Absent, OnAir, Unknown}

presence_decides : (x y : Presence) → Decides (presence_eq x y) (x ≡ y)
presence_decides Absent Absent = (λ e. refl, λ e. refl)
presence_decides Absent OnAir = (λ e. cc, λ e. cc)
presence_decides Absent Unknown = (λ e. cc, λ e. cc)
presence_decides OnAir Absent = (λ e. cc, λ e. cc)
presence_decides OnAir OnAir = (λ e. refl, λ e. refl)
presence_decides OnAir Unknown = (λ e. cc, λ e. cc)
presence_decides Unknown Absent = (λ e. cc, λ e. cc)
presence_decides Unknown OnAir = (λ e. cc, λ e. cc)
presence_decides Unknown Unknown = (λ e. refl, λ e. refl)

cause_decides : (a b : Cause) → Decides (cause_eq a b) (a ≡ b)
cause_decides a b =
    amounts (unsigned_Decides a.0 b.0) (λ e. λ i. record { 0 = e i }) (λ e. λ i. (e i).0)

hold_decides : (x y : Option Cause) → Decides (option_eq cause_eq x y) (x ≡ y)
hold_decides None None = (λ e. refl, λ e. refl)
hold_decides None (Some b) = (λ e. cc, λ e. cc)
hold_decides (Some a) None = (λ e. cc, λ e. cc)
hold_decides (Some a) (Some b) = (λ h. ap Some ((cause_decides a b).0 h), λ e. (cause_decides a b).1 (let same : a ≡ b = cc in same))

-- the test of two states is true where the same is kept, and nowhere else
pub state_decides : (x y : KeyState) → Decides (state_eq x y) (x ≡ y)
state_decides x y =
    amounts (both (presence_eq x.presence y.presence) (option_eq cause_eq x.hold y.hold && nat_eq x.count y.count) (presence_decides x.presence y.presence) (both (option_eq cause_eq x.hold y.hold) (nat_eq x.count y.count) (hold_decides x.hold y.hold) (unsigned_Decides x.count y.count)))
    (λ e. λ i. record { presence = e.0 i; hold = e.1.0 i; count = e.1.1 i }) (λ e. (λ i. (e i).presence, (λ i. (e i).hold, λ i. (e i).count)))

-- the test of two lines is true where the same is kept, and nowhere else
pub line_decides : (x y : Line) → Decides (line_eq x y) (x ≡ y)
line_decides x y =
    amounts (pointwise_decides state_decides x.states y.states) (λ e. λ i. record { states = e i }) (λ e. λ i. (e i).states)

-- a line passes the test where it is blank, and nowhere else
pub blank_decides : (line : Line) → Decides (is_blank line) (line ≡ blank_line)
blank_decides line = line_decides line blank_line
