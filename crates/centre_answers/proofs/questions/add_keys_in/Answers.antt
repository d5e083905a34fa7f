use Rattle.std.proofs.Common.{◌≡◌, ◌++◌, ◌∙◌, ap, subst}
use Rattle.std.specs.Prelude.{OnOk}
use Rattle.mirror.specs.Table.{line_at}
use Rattle.centre_past.specs.Table.{keys_in}
use Rattle.centre_past.proofs.ReadLemmas.{as_read}
use Rattle.centre_answers.proofs.TableLemmas.{keys_on, keys_read}
use Rattle.centre_answers.proofs.questions.add_keys_in.Goals as goal

pub returns-clause-keys : goal.returns-clause-keys
returns-clause-keys c = λ past t tells same found.
    let line : c.read_line-line.result ≡ line_at c.args.tables.now.lines c.args.b c.args.c c.args.w.now.number = c.read_line-line.ensures.line ∙ ap (λ k. line_at c.args.tables.now.lines k.bsc k.cell k.warning) c.key_of.ensures ∙ ap (λ n. line_at c.args.tables.now.lines c.args.b c.args.c n) c.number.ensures in
    let read : keys_on c.read_line-line.result c.args.c c.message_id.result c.versions.result.now ≡ keys_in past c.args.b c.args.w.now c.args.c = (λ i. keys_on (line i) c.args.c (c.message_id.ensures i) (c.versions.ensures i)) ∙ keys_read past t c.args.tables.now c.args.b c.args.c c.args.w.now tells same found in
    subst (λ keys. OnOk c.add_keys.result (c.add_keys.new.out.items ≡ c.args.out.now.items ++ keys)) read c.add_keys.ensures

pub returns-clause-kept : goal.returns-clause-kept
returns-clause-kept c = λ t same. as_read t c.args.tables.now c.read_line-line.new.self same c.read_line-line.ensures.same c.read_line-line.ensures.lines c.read_line-line.ensures.downs c.read_line-line.ensures.least
