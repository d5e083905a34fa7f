-- What a request is answered: by its method, its path, and what is shown of the last picture.
use Rattle.std.specs.Prelude.{◌≡◌, ◌⊎◌, ℕ, ◌-◌, ◌≤◌, ◌||◌, Bool, List, [], ◌∷◌, ◌++◌, Option, Some, None, bytes_eq, codes, nat_lt, if◌then◌else◌}
use Rattle.http.specs.Request.{head_of}
use Rattle.http.specs.declared.request.Request.{Request}
use Rattle.http1.specs.Fields.{Header}
use Rattle.http_server.specs.Response.{fields_of}
use Rattle.http_server.specs.declared.response.Response.{Response}
use Rattle.http_uri.specs.Uri.{uri_path}
use Rattle.httpdate.specs.Date.{date_text, unix_secs}
use Rattle.httpdate.specs.declared.date.HttpDate.{HttpDate}
use Rattle.server_http.specs.declared.contents.Contents.{Contents}
use Rattle.server_http.specs.declared.reply.Reply.{Reply}
use Rattle.server_http.specs.declared.reply.Reply.TheVariants as reply
use Rattle.server_http.specs.declared.site.Site.{Site}
use Rattle.status_figures.specs.Health.{has_numbers, health_of, health_text, is_whole}
use Rattle.status_figures.specs.Metrics.{metrics_text}
use Rattle.status_figures.specs.Tables.{boards_csv, bscs_csv}
use Rattle.status_figures.specs.declared.picture.Picture.{Picture}
use Rattle.status_pages.specs.Pages.{page_html}
use Rattle.status_pages.specs.declared.fixed.TheConstants.{POLICY}

-- this is what is shown of the picture
pub record IsContentsOf (p : Picture) (c : Contents) : Type 0 where
  pub taken : c.taken ≡ p.taken
  pub health : c.health ≡ health_of p.status
  pub page : c.page ≡ page_html p
  pub boards : c.boards ≡ boards_csv p
  pub bscs : c.bscs ≡ bscs_csv p
  pub metrics : c.metrics ≡ metrics_text p

-- Which answer it is.

-- a picture of then says no more how the centre is
abbrev pub is_old : ℕ → ℕ → Bool
is_old now taken = nat_lt 10 (now - taken)

-- whether the centre is whole, as far as that is known
abbrev pub health_reply : ℕ → Contents → Reply
health_reply now c = if is_old now c.taken then reply.NoNewPicture else (if is_whole c.health then reply.Whole else reply.NotWhole)

-- what a table is answered: there is none of an old picture, or where the centre has no numbers
abbrev pub table_reply : ℕ → Contents → Reply → Reply
table_reply now c table = if is_old now c.taken then reply.NoNewPicture else (if has_numbers c.health then table else reply.NotWhole)

-- what stands at a path where something does, if there is a picture
abbrev pub picture_reply : ℕ → Contents → List ℕ → Reply
picture_reply now c path =
    if bytes_eq path (codes "/") then reply.Page
    else (if bytes_eq path (codes "/boards.csv") then table_reply now c reply.Boards
    else (if bytes_eq path (codes "/bscs.csv") then table_reply now c reply.Bscs
    else (if bytes_eq path (codes "/metrics") then reply.Metrics
    else health_reply now c)))

-- something stands at the path
abbrev pub is_there : List ℕ → Bool
is_there path =
    bytes_eq path (codes "/")
    || (bytes_eq path (codes "/boards.csv")
    || (bytes_eq path (codes "/bscs.csv")
    || (bytes_eq path (codes "/metrics")
    || bytes_eq path (codes "/health"))))

-- what stands at the path, where something does
abbrev pub reply_at : ℕ → Option Contents → List ℕ → Reply
reply_at now None path = reply.NoPicture
reply_at now (Some c) path = picture_reply now c path

-- a method that is answered
abbrev pub is_looking : List ℕ → Bool
is_looking method = bytes_eq method (codes "GET") || bytes_eq method (codes "HEAD")

-- what a request is answered; nothing is to be found at other paths, whatever the method
abbrev pub reply_to : ℕ → Option Contents → List ℕ → List ℕ → Reply
reply_to now c method path = if is_there path then (if is_looking method then reply_at now c path else reply.NotAllowed) else reply.NotFound

-- What it is made of.

-- its status
abbrev pub status_of : Reply → ℕ
status_of reply.Page = 200
status_of reply.Boards = 200
status_of reply.Bscs = 200
status_of reply.Metrics = 200
status_of reply.Whole = 200
status_of reply.NotWhole = 503
status_of reply.NoNewPicture = 503
status_of reply.NoPicture = 503
status_of reply.NotFound = 404
status_of reply.NotAllowed = 405

-- plain text
abbrev pub plain : List ℕ
plain = codes "text/plain; charset=utf-8"

-- what its body is
abbrev pub type_of : Reply → List ℕ
type_of reply.Page = codes "text/html; charset=utf-8"
type_of reply.Boards = codes "text/csv; charset=utf-8; header=present"
type_of reply.Bscs = codes "text/csv; charset=utf-8; header=present"
type_of reply.Metrics = codes "text/plain; version=0.0.4; charset=utf-8"
type_of reply.Whole = plain
type_of reply.NotWhole = plain
type_of reply.NoNewPicture = plain
type_of reply.NoPicture = plain
type_of reply.NotFound = plain
type_of reply.NotAllowed = plain

-- the fields that each answer has
abbrev pub common_fields : Reply → List Header
common_fields r =
    (codes "cache-control", codes "no-store")
    ∷ (codes "x-content-type-options", codes "nosniff")
    ∷ (codes "content-type", type_of r) ∷ []

-- the fields that only some have
abbrev pub special_fields : Reply → List Header
special_fields reply.Page = (codes "content-security-policy", POLICY.now) ∷ []
special_fields reply.NotAllowed = (codes "allow", codes "GET, HEAD") ∷ []
special_fields other = []

-- the field that says that it is that second
abbrev pub date_field : HttpDate → Header
date_field date = (codes "date", date_text date)

-- the field says that it is that second, up to the year 9999
abbrev pub AddsDate : ℕ → List Header → List Header → Type 0
AddsDate now before after =
    ((253402300800 ≤ now) × (after ≡ before))
    ⊎ ((date : HttpDate) × (unix_secs date ≡ now) × (after ≡ before ++ date_field date ∷ []))

-- the body of an answer where there is a picture
abbrev pub contents_body : Contents → Reply → List ℕ
contents_body c reply.Page = c.page
contents_body c reply.Boards = c.boards
contents_body c reply.Bscs = c.bscs
contents_body c reply.Metrics = c.metrics
contents_body c reply.Whole = health_text c.health
contents_body c reply.NotWhole = health_text c.health
contents_body c reply.NoNewPicture = codes "no new picture\n"
contents_body c reply.NoPicture = codes "no picture\n"
contents_body c reply.NotFound = codes "not found\n"
contents_body c reply.NotAllowed = codes "method not allowed\n"

-- where there is none
abbrev pub bare_body : Reply → List ℕ
bare_body reply.NotFound = codes "not found\n"
bare_body reply.NotAllowed = codes "method not allowed\n"
bare_body other = codes "no picture\n"

-- the body
abbrev pub body_of : Option Contents → Reply → List ℕ
body_of None r = bare_body r
body_of (Some c) r = contents_body c r

-- the fields of an answer that is given at that second
abbrev pub AddsFields : ℕ → Reply → List Header → List Header → Type 0
AddsFields now r before after =
    (dated : List Header) × AddsDate now before dated × (after ≡ dated ++ (common_fields r ++ special_fields r))

-- the response is that answer, given at that second, with its fields alone and its body
pub record IsReply (now : ℕ) (c : Option Contents) (reply : Reply) (r : Response) : Type 0 where
  pub status : r.status ≡ status_of reply
  pub fields : AddsFields now reply [] (fields_of r)
  pub body : r.body.items ≡ body_of c reply

-- the answer to a request that the site is given
abbrev pub reply_of : Site → Request (List ℕ) → Reply
reply_of s request = reply_to s.second s.contents (head_of request).method (uri_path (head_of request).uri)

-- the response is that answer
abbrev pub IsAnswered : Site → Request (List ℕ) → Response → Type 0
IsAnswered s request r = IsReply s.second s.contents (reply_of s request) r
