use Rattle.std.proofs.Common.{rules, ◌≡◌, ◌≤◌, ℕ, ◌+◌, ◌-◌, ◌++◌, length, take, drop, refl, ap₂, ◌∙◌, sym, subst, arith}
use Rattle.std.specs.Vec.{vec_len, vec_capacity}
use Rattle.std.proofs.lemmas.List.{take-append-drop}
use Rattle.office.specs.Desks.{DeskState, IsDesk, IsReleased}
use Rattle.office.proofs.DeskLemmas.{desk_count, released_if, released_more, whole_is}
use Rattle.office.proofs.desk.Desk.release.Goals as goal

pub overflow_add-self : goal.overflow_add-self
overflow_add-self g c =
    let few = desk_count c.self.inside.last c.self.inside.share.parts c.self.inside.share.amount c.self.inside.released.items c.self.inside.receipts.items c.self.invariant.0 in
    let gone : c.self.inside.released_count ≡ length c.self.inside.released.items = c.self.invariant.1.counted in
    let front : c.count_to-count.result ≤ length c.self.inside.receipts.items = search rules in
    search (rules, arith, few, gone, front)

pub invariant_of-self-2 : goal.invariant_of-self-2
invariant_of-self-2 g c =
    let held : c.in_ok-later.later.items ≡ drop c.count_to-count.result c.self.inside.receipts.items = search rules in
    let front : c.split_off.new.self.items ≡ take c.count_to-count.result c.self.inside.receipts.items = search rules in
    let parts : c.split_off.new.self.items ++ c.in_ok-later.later.items ≡ c.self.inside.receipts.items = ap₂ (λ xs ys. xs ++ ys) front held ∙ take-append-drop c.count_to-count.result c.self.inside.receipts.items in
    let whole = whole_is c.self.inside.released.items c.then-self-inside.result.items c.self.inside.receipts.items c.in_ok-later.later.items c.split_off.new.self.items c.then-self-inside.ensures parts in (
      subst (λ rs. IsDesk c.self.inside.last rs c.self.inside.share.parts c.self.inside.share.amount) (sym whole) c.self.invariant.0,
      released_more c.self.inside.released_count (c.self.inside.released_count + c.count_to-count.result) c.self.inside.released_last c.index.result.now.place c.count_to-count.result c.self.inside.released.items c.then-self-inside.result.items c.split_off.new.self.items c.index.result.now c.self.invariant.1 c.then-self-inside.ensures refl (search rules) (search rules) c.index.ensures refl,
    )

pub returns-clause-released : goal.returns-clause-released
returns-clause-released g c =
    let held : c.in_ok-later.later.items ≡ drop c.count_to-count.result c.self.inside.receipts.items = search rules in
    let front : c.split_off.new.self.items ≡ take c.count_to-count.result c.self.inside.receipts.items = search rules in
    let room : ℕ = vec_capacity c.in_ok-later.later - vec_len c.in_ok-later.later in
    let new : DeskState = record { number = c.self.inside.number; receipts = c.then-self-inside.result.items ++ c.in_ok-later.later.items; released = length c.then-self-inside.result.items; spare = room; share = c.self.inside.share.amount } in
    subst (λ (d : DeskState). IsReleased c.args.place d new) c.self.view_is (released_if c.args.place c.self.inside.number (vec_capacity c.self.inside.receipts - vec_len c.self.inside.receipts) room c.self.inside.share.amount c.count_to-count.result c.self.inside.released.items c.then-self-inside.result.items c.self.inside.receipts.items c.in_ok-later.later.items c.split_off.new.self.items c.then-self-inside.ensures front held (search rules) (search rules))
