use Rattle.std.proofs.Common.{◌≡◌, ◌∙◌, inl, inr, true, false, refl, sym, ap, subst, rules}
use Rattle.std.specs.Option.{is_some}
use Rattle.centre_past.specs.Links.{flight_in}
use Rattle.centre_events.specs.Kept.{IsRegisterOf}
use Rattle.centre_events.specs.Pending.{all_actions, pending}
use Rattle.centre_events.specs.Verdict.{send}
use Rattle.centre_events.specs.declared.refusal.Refusal.TheVariants.{Memory}
use Rattle.centre_answers.proofs.CarriedLemmas.{sent_carriable}
use Rattle.centre_past.proofs.GivenLemmas.{err_gives}
use Rattle.centre_answers.proofs.SendingLemmas.{send_given, send_nothing, send_something}
use Rattle.centre_answers.proofs.events.sends.send.Goals as goal

pub returns-then-not-has : goal.returns-then-not-has
returns-then-not-has c =
    let none : is_some (flight_in c.args.kept.now.links c.args.b) ≡ false = search rules in
    let nothing : c.has.result ≡ false = search rules in
    λ settings past legal kept listed.
    inr (send_nothing c.args.requested past c.args.b c.args.generation
    (c.in_ok-check_link.ensures.free past (subst (IsRegisterOf past) (sym c.register.ensures) kept.registered) kept.linked)
    (sym (ap is_some (kept.linked.flights c.args.b)) ∙ none)
    (sym (c.has.ensures (all_actions past c.args.b) listed) ∙ nothing))

pub returns-in_err-order : goal.returns-in_err-order
returns-in_err-order c =
    let none : is_some (flight_in c.args.kept.now.links c.args.b) ≡ false = search rules in
    let something : c.has.result ≡ true = search rules in
    λ settings past legal kept listed.
    err_gives (send c.args.requested past c.args.b c.args.generation) c.from_residual-in_err-order.result Memory c.from_residual-in_err-order.ensures.1
    (inl (
      refl,
      send_something c.args.requested past c.args.b c.args.generation
          (c.in_ok-check_link.ensures.free past (subst (IsRegisterOf past) (sym c.register.ensures) kept.registered) kept.linked)
          (sym (ap is_some (kept.linked.flights c.args.b)) ∙ none)
          (sym (c.has.ensures (all_actions past c.args.b) listed) ∙ something),
    ))

pub returns : goal.returns
returns c =
    let none : is_some (flight_in c.args.kept.now.links c.args.b) ≡ false = search rules in
    λ settings past legal kept listed.
    let is = c.in_ok-order.ensures (all_actions past c.args.b) listed in
    send_given c.args.requested past c.args.b c.args.generation c.in_ok-order.order c.send_answer.result
    (c.in_ok-check_link.ensures.free past (subst (IsRegisterOf past) (sym c.register.ensures) kept.registered) kept.linked)
    (sym (ap is_some (kept.linked.flights c.args.b)) ∙ none) is
    (c.send_answer.ensures past (c.book.ensures ∙ kept.booked) (sent_carriable past c.args.b c.book.result.now (pending past c.args.b) c.in_ok-order.order (c.book.ensures ∙ kept.booked) refl is))
