use Rattle.link_rules.proofs.PeerLemmas.{going_on, going_ends}
use Rattle.link_rules.specs.Words.{words_of}
use Rattle.link_rules.proofs.reading.read_addresses.Goals as goal

pub loop-word-preserved : goal.loop-word-preserved
loop-word-preserved c =
    going_on c.args.bsc c.in-Some-read_block.block c.loop-word.all.items c.push.new.self.items c.args.all.now.items c.in-Some.word.now (words_of c.loop-word.rest.now) (words_of c.in-Some.behind.now) (words_of c.args.text.now) c.loop-word.is_named
    c.in-Some.ensures.0 c.in-Some-read_block.ensures c.in_ok-push.ensures.items c.loop-word.invariant

pub returns : goal.returns
returns c = going_ends c.args.bsc c.loop-word.all.items c.args.all.now.items (words_of c.loop-word.rest.now) (words_of c.args.text.now) c.loop-word.is_named c.in_default.ensures c.loop-word.invariant
