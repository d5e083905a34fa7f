use Rattle.std.proofs.Common.{◌++◌, length, ap, append-nil, sym, ◌∙◌}
use Rattle.std.proofs.lemmas.List.{drop_all}
use Rattle.std.specs.List.{flat_map}
use Rattle.message_text.specs.Reading.{ucs2_letters}
use Rattle.message_text.specs.Writing.{letter_octets}
use Rattle.message_text.proofs.ReadingLemmas.{ucs2_written, ucs2_length}
use Rattle.message_text.proofs.ucs2.page_of.Goals as goal

pub returns-clause-read : goal.returns-clause-read
returns-clause-read c =
    let l = c.loop-letter in
    let rest = drop_all l.letter-index c.args.letters.now c.loop-letter-test.false in
    let made = c.from_vec.ensures ∙ sym (append-nil l.octets.items) ∙ ap (λ r. l.octets.items ++ flat_map letter_octets r) (sym rest) ∙ l.invariant.made in
    ap ucs2_letters made ∙ ucs2_written c.args.letters.now c.requires

pub returns-clause-len : goal.returns-clause-len
returns-clause-len c =
    let l = c.loop-letter in
    let rest = drop_all l.letter-index c.args.letters.now c.loop-letter-test.false in
    let made = c.from_vec.ensures ∙ sym (append-nil l.octets.items) ∙ ap (λ r. l.octets.items ++ flat_map letter_octets r) (sym rest) ∙ l.invariant.made in
    ap length made ∙ ucs2_length c.args.letters.now
