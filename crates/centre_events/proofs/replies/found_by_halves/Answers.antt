use Rattle.std.proofs.Common.{◌≡◌, ◌<◌, ◌≤◌, [], sym, length, get_or, rules}
use Rattle.common.specs.Cell.{cell_eq}
use Rattle.centre_events.specs.declared.reply.Reply.{Reply}
use Rattle.centre_events.proofs.LookupLemmas.{is_found, isnt_found, none_past}
use Rattle.centre_events.proofs.ReplyLemmas.{own_id, other_reply}
use Rattle.centre_events.proofs.replies.found_by_halves.Goals as goal

pub returns-in-Some : goal.returns-in-Some
returns-in-Some c =
    let within : c.start_of.result < length c.args.replies.now = search rules in
    let read : c.in-Some.reply.now ≡ get_or c.args.replies.now c.start_of.result c.in-Some.reply.now = search rules in
    is_found own_id [] c.args.c (λ (r : Reply). cell_eq c.args.c r.cell) (other_reply c.args.c) c.args.replies.now c.start_of.result c.in-Some.reply.now c.requires c.start_of.ensures within read (search rules)

pub returns-in_default : goal.returns-in_default
returns-in_default c =
    let within : c.start_of.result < length c.args.replies.now = search rules in
    let read : c.in-Some.reply.now ≡ get_or c.args.replies.now c.start_of.result c.in-Some.reply.now = search rules in
    isnt_found own_id [] c.args.c (λ (r : Reply). cell_eq c.args.c r.cell) (other_reply c.args.c) c.args.replies.now c.start_of.result c.in-Some.reply.now c.requires c.start_of.ensures within read (search rules)

pub returns-in_default-2 : goal.returns-in_default-2
returns-in_default-2 c =
    let past : length c.args.replies.now ≤ c.start_of.result = search rules in
    sym (none_past own_id [] c.args.c (λ (r : Reply). cell_eq c.args.c r.cell) (other_reply c.args.c) c.args.replies.now c.start_of.result c.start_of.ensures past)
