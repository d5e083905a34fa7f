use Rattle.std.proofs.Common.{ℕ, refl}
use Rattle.mirror.specs.Line.{state_of}
use Rattle.mirror.specs.Seen.{seen}
use Rattle.std.specs.Option.{is_some}
use Rattle.order_maker.proofs.AlikeLemmas.{deeds_same, nothing_shifts}
use Rattle.order_maker.specs.Alike.{IsAlike, IsSamePlan}
use Rattle.order_maker.proofs.pending.Pending.shift_wanted.Goals as goal

pub returns-then-has_same_plan : goal.returns-then-has_same_plan
returns-then-has_same_plan c =
    let v = seen c.args.before.now in
    let w = seen c.args.after.now in
    let same = c.if-has_same_plan.ensures in
    let plan : IsSamePlan v w = record { message_id = same.message refl; versions = same.versions refl; wanted = same.wanted refl; down = same.down refl } in
    let alike : (s : ℕ) → IsAlike v w s = λ s. record { presence = λ i. (state_of (c.requires.line i) s).presence; held = λ i. is_some (state_of (c.requires.line i) s).hold } in
    nothing_shifts c.args.b c.args.c v w c.args.self.now (deeds_same v w plan alike) c.requires.there
