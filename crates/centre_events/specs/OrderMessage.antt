-- The message that carries an order (TS 48.049, 8.1.3.1 and 8.1.3.4).
use Rattle.std.specs.Prelude.{ℕ, List, [], Option, Some, None, IsSome, map}
use Rattle.cbsp_ie.specs.Identifications.{Identifications, id_of_cell}
use Rattle.common.specs.declared.cell.Cell.{Cell}
use Rattle.cbsp_ie.specs.declared.form.Form.TheVariants as form
use Rattle.cbsp_messages.specs.PageText.{page_with}
use Rattle.cbsp_messages.specs.declared.message.Message.{Message}
use Rattle.cbsp_messages.specs.declared.message.Message.TheVariants as message
use Rattle.warning_book.specs.Content.{category_number}
use Rattle.warning_book.specs.declared.category.Category.TheVariants.{Normal}
use Rattle.warning_book.specs.declared.cbs_content.CbsContent.{CbsContent}
use Rattle.warning_book.specs.declared.content.Content.{Content}
use Rattle.warning_book.specs.declared.content.Content.TheVariants as content
use Rattle.warning_book.specs.declared.emergency_content.EmergencyContent.{EmergencyContent}
use Rattle.order_maker.specs.declared.order.Order.{Order}
use Rattle.order_maker.specs.declared.order_kind.OrderKind.{OrderKind}
use Rattle.order_maker.specs.declared.order_kind.OrderKind.TheVariants.{Write, Replace, Kill}

-- cells by location area and cell identity
abbrev pub listed : List Cell → Identifications
listed cells = record { form = form.LacCi; ids = map id_of_cell cells }

-- a write of pages, which may replace a version: so many broadcasts are requested, where 0 is until killed, on the basic
-- channel
abbrev pub cbs_message : ℕ → Order → Option ℕ → CbsContent → Message
cbs_message requested order old c = message.WriteReplace (record {
  message_id = order.message_id;
  serial = order.serial;
  old = old;
  cells = listed order.cells;
  channel = Some 0;
  category = category_number c.category;
  period = c.period;
  requested = requested;
  pages = map page_with c.pages;
  dcs = c.dcs;
})

-- a write of an emergency warning, which may replace a version; it has no number of broadcasts
abbrev pub emergency_message : Order → Option ℕ → EmergencyContent → Message
emergency_message order old c = message.WriteEmergency (record {
  message_id = order.message_id;
  serial = order.serial;
  old = old;
  cells = listed order.cells;
  indicator = c.indicator;
  warning_type = c.warning_type;
  warning_period = c.warning_period;
  security = c.security;
})

-- a write of the content
abbrev pub write_message : ℕ → Order → Option ℕ → Content → Message
write_message requested order old (content.Cbs c) = cbs_message requested order old c
write_message requested order old (content.Emergency c) = emergency_message order old c

-- pages are on the basic channel, an emergency warning on none
abbrev pub channel_of : Content → Option ℕ
channel_of (content.Cbs c) = Some 0
channel_of (content.Emergency c) = None

-- a KILL of a version with this content, on the channel of the content
abbrev pub kill_message : Order → Content → Message
kill_message order c = message.Kill (record { message_id = order.message_id; serial = order.serial; cells = listed order.cells; channel = channel_of c })

-- a MESSAGE STATUS QUERY of a version in these cells, on the basic channel (TS 48.049, 8.1.3)
abbrev pub query_message : ℕ → ℕ → List Cell → Message
query_message m s cells = message.StatusQuery (record { message_id = m; serial = s; cells = listed cells; channel = Some 0 })

-- the content of an order where there is none: no pages
abbrev pub no_content : Content
no_content = content.Cbs (record { dcs = 0; category = Normal; period = 1; pages = [] })

-- the content that is given
abbrev pub given_content : Option Content → Content
given_content None = no_content
given_content (Some c) = c

-- an order can be carried: its content is there
abbrev pub IsCarriable : Option Content → Type 0
IsCarriable c = IsSome c

-- the message of an order of the kind: a KILL, or a WRITE-REPLACE with its content and the number of broadcasts requested
abbrev pub message_by : ℕ → Order → OrderKind → Option Content → Message
message_by requested order Write c = write_message requested order None (given_content c)
message_by requested order (Replace old) c = write_message requested order (Some old) (given_content c)
message_by requested order Kill c = kill_message order (given_content c)

-- the message of the order, where so many broadcasts are requested
abbrev pub order_message : ℕ → Order → Option Content → Message
order_message requested order c = message_by requested order order.kind c
