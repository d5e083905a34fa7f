-- The laws beside the headline, carried from the whole of a lawful past to the past.
use Rattle.std.proofs.Common.{◌≡◌, ◌≤◌, ℕ, List, Some, ap, ◌∙◌, subst}
use Rattle.common.specs.Sums.{count_of, sum_of}
use Rattle.common.specs.declared.cell.Cell.{Cell}
use Rattle.coverage_board.specs.Standings.{stands}
use Rattle.coverage_board.specs.declared.way.Way.TheVariants.{Awaited}
use Rattle.order_maker.specs.declared.order.Order.{Order}
use Rattle.warning_book.specs.Book.{warning_of}
use Rattle.warning_book.specs.declared.warning.Warning.{Warning}
use Rattle.centre_events.specs.Base.{Base}
use Rattle.centre_events.specs.Folding.{base_of, folded}
use Rattle.centre_events.specs.Lines.{stand}
use Rattle.centre_events.specs.Links.{bscs}
use Rattle.centre_events.specs.Past.{Past, From}
use Rattle.centre_events.specs.Pending.{all_actions, pending}
use Rattle.centre_events.specs.Warnings.{book_of}
use Rattle.centre_events.specs.declared.settings.Settings.{Settings}
use Rattle.centre_past.specs.Legal.{Lawful, lasting}
use Rattle.centre_past.specs.Numbers.{number}
use Rattle.centre_past.proofs.LawfulLemmas.{whole}
use Rattle.centre_laws.specs.Spare.{Misses, NoneToSpare, acts_on, ActsOnce, brought, is_brought, AwaitedIsPending}
use Rattle.centre_laws.proofs.AwaitedLemmas as awaited
use Rattle.centre_laws.proofs.SpareLemmas as spare

misses_carried : (p q : Past) → base_of p ≡ base_of q → (b : ℕ) (c : Cell) (m s : ℕ) (orders : List Order) → Misses p b c m s orders → Misses q b c m s orders
misses_carried p q same b c m s orders misses =
    let over : Misses (folded p) b c m s orders = record { key = misses.key; up = misses.up; free = misses.free; differs = misses.differs } in
    let there : Misses (folded q) b c m s orders = subst (λ (x : Base). Misses (From x) b c m s orders) same over in
    record { key = there.key; up = there.up; free = there.free; differs = there.differs }

spare_carried : (p q : Past) → base_of p ≡ base_of q → NoneToSpare p → NoneToSpare q
spare_carried p q same none = record {
  each = λ b front order back c is among.
      misses_carried p q same b c order.message_id order.serial _ (none.each b front order back c (ap (λ (x : Base). pending (From x) b) same ∙ is) among);
}

-- after every lawful past no order names a cell to spare
pub none_to_spare : (settings : Settings) (past : Past) → Lawful settings past → NoneToSpare past
none_to_spare settings past lawful =
    let w = whole settings past lawful in
    spare_carried w.full past w.same (spare.none_to_spare (lasting settings.network) w.full w.legal)

once_carried : (p q : Past) → base_of p ≡ base_of q → ActsOnce p → ActsOnce q
once_carried p q same once = record {
  each = subst (λ (x : Base). (b : ℕ) (c : Cell) (m s : ℕ) → count_of (acts_on c m s) (all_actions (From x) b) ≤ 1) same once.each;
}

-- no key stands in two actions
pub acts_once : (settings : Settings) (past : Past) → Lawful settings past → ActsOnce past
acts_once settings past lawful =
    let w = whole settings past lawful in
    once_carried w.full past w.same (spare.acts_once (lasting settings.network) w.full w.legal)

awaited_carried : (p q : Past) → base_of p ≡ base_of q → AwaitedIsPending p → AwaitedIsPending q
awaited_carried p q same waits = record {
  same = subst (λ (x : Base). (n : ℕ) (w : Warning) → warning_of (book_of (From x)) n ≡ Some w → (b : ℕ) (c : Cell) → stands Awaited (stand (From x) b w c) ≡ is_brought (From x) w b c) same waits.same;
  each = subst (λ (x : Base). (n : ℕ) (w : Warning) → warning_of (book_of (From x)) n ≡ Some w → number (From x) w Awaited ≡ sum_of (brought (From x) w) (bscs (From x))) same waits.each;
}

-- and what is awaited is pending
pub awaited_is_pending : (settings : Settings) (past : Past) → Lawful settings past → AwaitedIsPending past
awaited_is_pending settings past lawful =
    let w = whole settings past lawful in
    awaited_carried w.full past w.same (awaited.awaited_is_pending (lasting settings.network) w.full w.legal)
