use Rattle.std.proofs.Common.{◌≡◌, ◌++◌, ◌∷◌, [], inr}
use Rattle.std.proofs.lemmas.Result.{IfOk-weaker}
use Rattle.http_server.specs.Response.{fields_of}
use Rattle.server_http.specs.Replies.{AddsDate, date_field}
use Rattle.server_http.proofs.replying.add_date.Goals as goal

pub returns-clause-date : goal.returns-clause-date
returns-clause-date c =
    IfOk-weaker c.add_second.result
    (λ _. fields_of c.add_second.new.response ≡ fields_of c.args.response.now ++ date_field c.in-Ok.date ∷ [])
    (λ _. AddsDate c.args.now (fields_of c.args.response.now) (fields_of c.add_second.new.response))
    (λ _ same. inr (c.in-Ok.date, c.in-Ok.ensures.value, same))
    c.add_second.ensures.date
