use Rattle.std.proofs.Common.{◌≡◌, ℕ, ◌-◌, List, length, take, drop, arith}
use Rattle.std.proofs.lemmas.List.{take_all, length-drop}
use Rattle.mirror.specs.Seen.{seen}
use Rattle.order_maker.proofs.KillLemmas.{kills_held, line_changed}
use Rattle.order_maker.proofs.pending.Pending.shift_kept.Goals as goal

-- the versions from an index on are all that are left
all_later : (i : ℕ) (versions : List ℕ) → take (length versions - i) (drop i versions) ≡ drop i versions
all_later i versions = take_all (length versions - i) (drop i versions) (omega (arith, length-drop i versions))

pub shift_kills-requires-clause-there : goal.shift_kills-requires-clause-there
shift_kills-requires-clause-there c =
    rw c.of-was.ensures (kills_held c.args.b c.args.c (seen c.args.before.now) (seen c.args.after.now) c.args.self.now c.shift_write.new.self c.requires.there (rw (c.write.ensures, c.write-2.ensures, c.of-was.ensures, c.of-is.ensures) at c.in_ok-shift_write.ensures))

pub returns : goal.returns
returns c =
    line_changed c.args.b c.args.c (seen c.args.before.now) (seen c.args.after.now) c.args.self.now c.shift_write.new.self c.shift_kills.new.self c.put_kills.new.self
    c.requires.first
    (rw (c.write.ensures, c.write-2.ensures, c.of-was.ensures, c.of-is.ensures) at c.in_ok-shift_write.ensures)
    (rw (c.of-was.ensures, c.of-is.ensures) at c.in_ok-shift_kills.ensures)
    (rw (c.of-is.ensures, all_later) at c.in_ok-put_kills.ensures)
