use Rattle.std.proofs.Common.{◌≡◌, ◌++◌}
use Rattle.std.proofs.lemmas.Result.{IfOk-weaker}
use Rattle.http_server.specs.Response.{fields_of}
use Rattle.server_http.specs.Replies.{AddsFields, common_fields, special_fields}
use Rattle.server_http.proofs.FieldLemmas.{joined}
use Rattle.server_http.proofs.replying.add_fields.Goals as goal

pub returns-clause-fields : goal.returns-clause-fields
returns-clause-fields c =
    let dated = fields_of c.add_date.new.response in
    let common = fields_of c.add_common.new.response in
    let all = fields_of c.add_special.new.response in
    IfOk-weaker c.add_special.result
    (λ _. all ≡ common ++ special_fields c.args.reply)
    (λ _. AddsFields c.args.second c.args.reply (fields_of c.args.response.now) all)
    (λ _ same. (dated, c.in_ok-add_date.ensures.date, joined dated common all (common_fields c.args.reply) (special_fields c.args.reply) c.in_ok-add_common.ensures.fields same))
    c.add_special.ensures.fields
