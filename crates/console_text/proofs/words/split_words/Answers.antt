use Rattle.std.proofs.Common.{◌∙◌}
use Rattle.console_text.proofs.PartLemmas.{words_more}
use Rattle.console_text.proofs.words.split_words.Goals as goal

pub loop-word-preserved : goal.loop-word-preserved
loop-word-preserved c =
    words_more c.loop-word.words.items c.push_word.new.words.items c.loop-word.rest.now c.in-Some.word.now c.in-Some.behind.now c.in-Some.ensures.0 c.in-Some.ensures.1 c.in_ok-push_word.ensures
    ∙ c.loop-word.invariant
