use Rattle.mirror.specs.Seen.{seen}
use Rattle.order_maker.proofs.ShiftLemmas.{put_both, taken_both, taken_put}
use Rattle.order_maker.specs.Actions.{fresh_deed, kills, listed}
use Rattle.order_maker.proofs.pending.Pending.shift.Goals as goal

pub returns : goal.returns
returns c =
    let v = seen c.args.before.now in
    let w = seen c.args.after.now in
    let gone = taken_both c.args.b c.args.c (listed (fresh_deed v v.wanted)) (kills v v.versions) c.args.self.now c.take_deed_out.new.self c.take_kills_out.new.self (rw (c.write.ensures, c.of-was.ensures) at c.take_deed_out.ensures) (rw c.of-was.ensures at c.take_kills_out.ensures) in
    let come = put_both c.args.b c.args.c (listed (fresh_deed w w.wanted)) (kills w w.versions) c.take_kills_out.new.self c.put_deed.new.self c.put_kills.new.self (rw (c.write-2.ensures, c.of-is.ensures) at c.in_ok-put_deed.ensures) (rw c.of-is.ensures at c.in_ok-put_kills.ensures) in
    taken_put c.args.b c.args.c v w c.args.self.now c.take_kills_out.new.self c.put_kills.new.self gone come
