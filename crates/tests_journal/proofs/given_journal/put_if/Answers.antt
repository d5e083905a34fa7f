use Rattle.tests_journal.proofs.GivenLemmas.{puts_line}
use Rattle.tests_journal.proofs.given_journal.put_if.Goals as goal

pub returns-in_ok-put_entry : goal.returns-in_ok-put_entry
returns-in_ok-put_entry c =
    puts_line c.args.writing.now c.put_entry.new.self c.args.line.now c.in_ok-put_entry.ensures.line c.in_ok-put_entry.ensures.ok
