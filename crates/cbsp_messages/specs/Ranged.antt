-- That the numbers of a message are in the ranges of their types, which is known once they are read.
use Rattle.std.specs.Prelude.{◌≡◌, ◌<◌, length, IfSome}
use Rattle.std.specs.List.{AllByRecursion}
use Rattle.cbsp_ie.specs.Counts.{AreCountsOf}
use Rattle.cbsp_ie.specs.Failures.{IsFailEntry}
use Rattle.cbsp_ie.specs.Identifications.{HasForm}
use Rattle.cbsp_messages.specs.Parts.{Parts}

-- the parts are in the ranges of the types that they have in a message
pub record AreInRange (parts : Parts) : Type 0 where
  pub message_id : IfSome parts.message_id (λ n. n < 65536)
  pub new_serial : IfSome parts.new_serial (λ n. n < 65536)
  pub old_serial : IfSome parts.old_serial (λ n. n < 65536)
  pub period : IfSome parts.period (λ n. n < 65536)
  pub requested : IfSome parts.requested (λ n. n < 65536)
  pub cells : IfSome parts.cells (λ cells. HasForm cells.form cells.ids)
  pub counts : IfSome parts.counts (λ counts. AreCountsOf counts.form counts.entries)
  pub failures : IfSome parts.failures (λ failures. AllByRecursion IsFailEntry failures)
  pub warning_type : IfSome parts.warning_type (λ n. n < 65536)
  pub security : IfSome parts.security (λ octets. length octets ≡ 50)
  pub pages : AllByRecursion (λ page. length page.octets ≡ 82) parts.pages
