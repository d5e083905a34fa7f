use Rattle.journal_office.proofs.PuttingLemmas.{comment_put}
use Rattle.journal_office.proofs.office_journal.put_comment.Goals as goal

pub returns : goal.returns
returns c = comment_put c.put_comment.result c.args.writing.now c.put_comment.new.self c.args.comment.now c.put_comment.ensures.line c.put_comment.ensures.ok c.put_comment.ensures.err
