use Rattle.std.proofs.Common.{◌≡◌, ◌<◌, Some, sym, ap, ◌∙◌, length, get_or, rules, arith}
use Rattle.std.proofs.lemmas.Bool.Decides.{nat_tests}
use Rattle.std.proofs.lemmas.Grind.{common_steps}
use Rattle.common.specs.Cell.{cell_eq}
use Rattle.centre_events.specs.declared.reply.Reply.{Reply}
use Rattle.centre_events.proofs.ReplyLemmas.{first_at}
use Rattle.centre_events.proofs.replies.Replies.of_cell_near.Goals as goal

pub returns-in-Some : goal.returns-in-Some
returns-in-Some c =
    let within : c.args.place < length c.args.self.now = grind (arith, nat_tests, common_steps) in
    let read : c.in-Some.reply.now ≡ get_or c.args.self.now c.args.place c.in-Some.reply.now = search rules in
    ap Some read ∙ first_at c.args.c c.args.self.now c.args.place c.in-Some.reply.now (search rules) within (ap (λ (r : Reply). cell_eq c.args.c r.cell) (sym read) ∙ sym c.eq.ensures ∙ c.if-eq.true)
