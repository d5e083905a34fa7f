-- What an answer is made of, one thing after another.
use Rattle.std.proofs.Common.{◌≡◌, ◌∙◌, ap, sym, subst, ℕ, List, [], ◌++◌, Option, append_assoc}
use Rattle.bytes.specs.Filled.{Filled}
use Rattle.http1.specs.Fields.{Header}
use Rattle.http_server.specs.Response.{fields_of}
use Rattle.http_server.specs.declared.response.Response.{Response}
use Rattle.server_http.specs.Replies.{AddsFields, IsReply, body_of, status_of}
use Rattle.server_http.specs.declared.contents.Contents.{Contents}
use Rattle.server_http.specs.declared.reply.Reply.{Reply}

-- two lists that are appended one after another are appended together
pub joined : (first middle last a b : List Header) → middle ≡ first ++ a → last ≡ middle ++ b → last ≡ first ++ (a ++ b)
joined first middle last a b one other = other ∙ (ap (λ l. l ++ b) one ∙ append_assoc first a b)

-- a response that had no fields and no body is the answer, once its status is set, and its fields and its body are added
pub is_reply : (now : ℕ) (c : Option Contents) (r : Reply) (first middle last : Response) (body : List ℕ)
    → first.status ≡ status_of r → fields_of first ≡ [] → first.body.items ≡ []
    → AddsFields now r (fields_of first) (fields_of middle) → middle.status ≡ first.status → middle.body ≡ first.body
    → body ≡ body_of c r
    → last.body.items ≡ middle.body.items ++ body → last.status ≡ middle.status → fields_of last ≡ fields_of middle
    → IsReply now c r last
is_reply now c r first middle last body set bare empty adds kept still is grown stays same = record {
  status = stays ∙ (kept ∙ set);
  fields = subst (λ fields. AddsFields now r [] fields) (sym same) (subst (λ before. AddsFields now r before (fields_of middle)) bare adds);
  body = grown ∙ (ap (λ (held : Filled). held.items ++ body) still ∙ (ap (λ items. items ++ body) empty ∙ is));
}
