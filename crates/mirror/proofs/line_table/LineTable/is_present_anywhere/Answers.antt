use Rattle.std.proofs.Common.{◌≡◌, ◌&&◌, nat_eq, filter, length, sym, ◌∙◌, ap, arith}
use Rattle.std.proofs.lemmas.List.{length-map}
use Rattle.std.specs.List.{list_any}
use Rattle.mirror.proofs.PresentLemmas.{any_of, none_present, own_few, present_found}
use Rattle.mirror.specs.Lines.{line_of}
use Rattle.mirror.specs.Order.{Slot}
use Rattle.mirror.specs.Present.{is_present_in}
use Rattle.mirror.specs.Table.{counted_all}
use Rattle.mirror.specs.declared.line.Line.{Line}
use Rattle.mirror.proofs.line_table.LineTable.is_present_anywhere.Goals as goal

pub returns-clause-some : goal.returns-clause-some
returns-clause-some c =
    let es = c.self.inside.lines in
    let all : c.is_present_among.result ≡ list_any (λ e. nat_eq c.args.w e.0.warning && is_present_in c.args.serial e.1) es = c.is_present_among.ensures.which ∙ ap (list_any (λ (e : Slot × Line). is_present_in c.args.serial e.1)) c.slots_of-slots.ensures.of ∙ any_of (λ e. nat_eq c.args.w e.0.warning) (λ e. is_present_in c.args.serial e.1) es in
    rw (← c.self.view_is) (λ h. present_found c.args.w c.args.serial es c.slots_of-slots.ensures.ordered (sym all ∙ h))

pub returns-clause-none : goal.returns-clause-none
returns-clause-none c =
    let es = c.self.inside.lines in
    let all : c.is_present_among.result ≡ list_any (λ e. nat_eq c.args.w e.0.warning && is_present_in c.args.serial e.1) es = c.is_present_among.ensures.which ∙ ap (list_any (λ (e : Slot × Line). is_present_in c.args.serial e.1)) c.slots_of-slots.ensures.of ∙ any_of (λ e. nat_eq c.args.w e.0.warning) (λ e. is_present_in c.args.serial e.1) es in
    rw (← c.self.view_is) (λ h. none_present c.args.w c.args.serial es (sym all ∙ h))

pub returns-clause-most : goal.returns-clause-most
returns-clause-most c =
    let es = c.self.inside.lines in
    let few : length c.slots_of-slots.result ≡ length (filter (λ e. nat_eq c.args.w e.0.warning) es) = sym (length-map c.slots_of-slots.result (λ s. (s, line_of es s))) ∙ ap length c.slots_of-slots.ensures.of in
    rw (← c.self.view_is) (λ ks all.
    let own = own_few c.args.w c.self.inside.index es c.slots_of-slots.ensures.ordered c.self.invariant.none_blank c.self.invariant.indexed c.self.invariant.numbered ks all in
    omega (arith, few, own, c.is_present_among.ensures.meter))

pub returns-clause-all : goal.returns-clause-all
returns-clause-all c =
    let es = c.self.inside.lines in
    let few : length c.slots_of-slots.result ≡ length (filter (λ e. nat_eq c.args.w e.0.warning) es) = sym (length-map c.slots_of-slots.result (λ s. (s, line_of es s))) ∙ ap length c.slots_of-slots.ensures.of in
    rw (← c.self.view_is) (λ none. c.is_present_among.ensures.all none ∙ ap (λ k. counted_all k c.self.inside.meter) few)
