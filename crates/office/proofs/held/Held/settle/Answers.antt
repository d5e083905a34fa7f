use Rattle.std.proofs.Common.{rules, ◌≡◌, ◌<◌, ◌≤◌, ℕ, List, length, All, Any, subst, refl, sym, arith}
use Rattle.centre_past.specs.Legal.{Known, all_entries}
use Rattle.office.specs.Desks.{DeskState}
use Rattle.office.specs.Helds.{HeldState}
use Rattle.office.specs.Shuffles.{HasItsEntries, IsMismatch, IsShuffle, receipt_count}
use Rattle.office.proofs.CountLemmas.{exactly_counted}
use Rattle.office.proofs.held.Held.settle.Goals as goal

pub returns-clause-settled : goal.returns-clause-settled
returns-clause-settled g c =
    let lists : All (HasItsEntries c.self.inside.centre.known.folded c.self.inside.centre.known.journal) c.args.desks.items = search rules in
    let there : c.as_slice-4.result.now ≡ c.args.desks.items = search rules in
    let long : c.len-opened.result ≡ length c.self.inside.rows.items = search rules in
    let every : (n : ℕ) → 0 < n → n ≤ length c.self.inside.rows.items → Any (λ (d : DeskState). d.number ≡ n) c.args.desks.items = λ n first last.
    subst (λ (xs : List DeskState). Any (λ (d : DeskState). d.number ≡ n) xs) there (c.in-None.ensures.none refl n first (omega (arith, last, long))) in
    let counted : length (all_entries c.self.inside.centre.known) ≡ receipt_count c.args.desks.items = exactly_counted (length c.self.inside.rows.items) c.self.inside.book.total c.self.inside.centre.known.folded c.self.inside.centre.known.journal c.args.desks.items c.self.invariant.0.all_rows.opened lists every c.self.invariant.0.counted c.audit.ensures in
    let shuffle : IsShuffle (length c.self.inside.rows.items) c.self.inside.centre.known.folded c.self.inside.centre.known.journal c.args.desks.items = record { entries = c.self.invariant.0.all_rows.opened; lists = lists; every = every; counted = counted } in
    subst (λ (v : HeldState). IsShuffle (length v.rows) v.centre.folded v.centre.journal c.args.desks.items) c.self.view_is shuffle

pub returns-in-Some-clause-fault : goal.returns-in-Some-clause-fault
returns-in-Some-clause-fault g c =
    subst (λ (xs : List DeskState). IsMismatch c.mismatch.new.centre.known.folded c.mismatch.new.centre.known.journal xs c.in-Some.desk) c.as_slice-3.ensures.value
    (subst (λ (k : Known). IsMismatch k.folded k.journal c.as_slice-3.result.now c.in-Some.desk) (sym c.mismatch.ensures.unchanged) c.in-Some.ensures.some)
