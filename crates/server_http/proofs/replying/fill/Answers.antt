use Rattle.std.proofs.Common.{◌≡◌, ◌++◌}
use Rattle.std.proofs.lemmas.Result.{IfOk-weaker}
use Rattle.server_http.specs.Replies.{IsReply}
use Rattle.server_http.proofs.FieldLemmas.{is_reply}
use Rattle.server_http.proofs.replying.fill.Goals as goal

pub returns : goal.returns
returns c =
    let first = record c.args.response.now { status = c.status-response.result } in
    let middle = c.add_fields.new.response in
    let last = c.add_body.new.response in
    let added = c.in_ok-add_fields.ensures in
    IfOk-weaker c.add_body.result
    (λ _. last.body.items ≡ middle.body.items ++ c.in_ok-body.body)
    (λ _. IsReply c.args.second c.args.contents.now c.args.reply last)
    (λ _ grown. is_reply c.args.second c.args.contents.now c.args.reply first middle last c.in_ok-body.body c.status-response.ensures c.requires.headers c.requires.body added.fields added.status added.body c.in_ok-body.ensures grown c.add_body.ensures.status c.add_body.ensures.fields)
    c.add_body.ensures.body
