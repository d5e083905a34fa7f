use Rattle.std.proofs.Common.{sym, ◌∙◌}
use Rattle.link_rules.proofs.PeerLemmas.{line_read}
use Rattle.link_rules.specs.Words.{words_of}
use Rattle.link_rules.proofs.reading.read_line.Goals as goal

pub returns-in-Some-read_bsc : goal.returns-in-Some-read_bsc
returns-in-Some-read_bsc c =
    line_read c.in-Some-read_bsc.bsc c.in-Some.word.now (words_of c.in-Some.behind.now) (words_of c.args.line.now) c.args.all.now.items _ c.read_addresses.result
    c.in-Some.ensures.0 (sym c.is_comment.ensures ∙ c.if-is_comment.false) c.in-Some-read_bsc.ensures c.read_addresses.ensures
