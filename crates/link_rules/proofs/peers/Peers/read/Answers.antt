use Rattle.std.proofs.Common.{[], arith}
use Rattle.link_rules.proofs.LineLemmas.{is_bad, is_read, lines_bad, lines_end, lines_on}
use Rattle.link_rules.specs.Words.{lines_of}
use Rattle.link_rules.proofs.peers.Peers.read.Goals as goal

pub returns-then-not-branch-clause-fault : goal.returns-then-not-branch-clause-fault
returns-then-not-branch-clause-fault c =
    lines_bad c.loop-line.all.items c.in-Some.line.now (lines_of c.loop-line.rest.now) (lines_of c.in-Some.behind.now) (lines_of c.args.text.now) c.loop-line.passed c.in-Some.ensures.0
    (is_bad c.in_ok-read_line.field-0 c.in-Some.line.now c.loop-line.all.items c.read_line.new.all.items c.if-not-branch.true c.in_ok-read_line.ensures) c.loop-line.invariant.going

pub loop-line-preserved : goal.loop-line-preserved
loop-line-preserved c =
    let read = is_read c.in_ok-read_line.field-0 c.in-Some.line.now c.loop-line.all.items c.read_line.new.all.items c.if-not-branch.false c.in_ok-read_line.ensures in
    record {
      going = lines_on c.loop-line.all.items c.read_line.new.all.items c.in-Some.line.now (lines_of c.loop-line.rest.now) (lines_of c.in-Some.behind.now) (lines_of c.args.text.now) c.loop-line.passed c.in-Some.ensures.0 read.0 read.1 c.loop-line.invariant.going;
      few = omega (arith, c.in-Some.ensures.1);
    }

pub returns-then-branch-clause-named : goal.returns-then-branch-clause-named
returns-then-branch-clause-named c =
    let read = is_read c.in_ok-read_line-2.field-0 c.loop-line.rest.now c.loop-line.all.items c.read_line-2.new.all.items c.if-branch.true c.in_ok-read_line-2.ensures in
    let going = lines_on c.loop-line.all.items c.read_line-2.new.all.items c.loop-line.rest.now (lines_of c.loop-line.rest.now) [] (lines_of c.args.text.now) c.loop-line.passed c.in_default.ensures read.0 read.1 c.loop-line.invariant.going in
    (lines_end c.read_line-2.new.all.items c.args.text.now _ going).1

pub returns-else-branch-clause-fault : goal.returns-else-branch-clause-fault
returns-else-branch-clause-fault c =
    lines_bad c.loop-line.all.items c.loop-line.rest.now (lines_of c.loop-line.rest.now) [] (lines_of c.args.text.now) c.loop-line.passed c.in_default.ensures
    (is_bad c.in_ok-read_line-2.field-0 c.loop-line.rest.now c.loop-line.all.items c.read_line-2.new.all.items c.if-branch.false c.in_ok-read_line-2.ensures) c.loop-line.invariant.going
