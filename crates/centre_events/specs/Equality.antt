-- That each test of equality answers true of equal values, and of no others.
use Rattle.std.specs.Prelude.{◌≡◌, Bool, ◌&&◌, List, Option, Some, None, nat_eq}
use Rattle.std.proofs.Common.{refl, ap}
use Rattle.std.specs.Bool.{Decides}
use Rattle.std.specs.Cmp.{unsigned_Decides}
use Rattle.std.specs.Cmp.Lexicographic.{pointwise, pointwise_decides}
use Rattle.std.specs.Option.{option_eq}
use Rattle.common.specs.Cell.{cell_eq}
use Rattle.common.specs.Equality.{both, amounts, cell_decides}
use Rattle.centre_events.specs.Replies.{outcome_eq, reply_eq}
use Rattle.centre_events.specs.declared.outcome.Outcome.{Outcome}
use Rattle.centre_events.specs.declared.outcome.Outcome.TheVariants.{Done, Refused, Silent}
use Rattle.centre_events.specs.declared.reply.Reply.{Reply}

pub option_decides : {A : Type 0} {E : A → A → Bool} → ((x y : A) → Decides (E x y) (x ≡ y)) → (x y : Option A) → Decides (option_eq E x y) (x ≡ y)
option_decides d None None = (λ h. refl, λ e. refl)
option_decides d None (Some y) = (λ h. cc, λ e. cc)
option_decides d (Some x) None = (λ h. cc, λ e. cc)
option_decides d (Some x) (Some y) = amounts (d x y) (λ e. ap (λ z. Some z) e) (λ e. cc)

pub outcome_decides : (x y : Outcome) → Decides (outcome_eq x y) (x ≡ y)
outcome_decides Done Done = (λ h. refl, λ e. refl)
outcome_decides (Refused c) (Refused d) = amounts (unsigned_Decides c.0 d.0) (λ e. λ i. Refused (record { 0 = e i })) (λ e. cc)
outcome_decides Silent Silent = (λ h. refl, λ e. refl)
outcome_decides x y = (λ h. cc, λ e. cc)

pub reply_decides : (x y : Reply) → Decides (reply_eq x y) (x ≡ y)
reply_decides x y =
    amounts (both (cell_eq x.cell y.cell) (outcome_eq x.outcome y.outcome && option_eq nat_eq x.count y.count) (cell_decides x.cell y.cell) (both (outcome_eq x.outcome y.outcome) (option_eq nat_eq x.count y.count) (outcome_decides x.outcome y.outcome) (option_decides unsigned_Decides x.count y.count)))
    (λ e. λ i. record { cell = e.0 i; outcome = e.1.0 i; count = e.1.1 i }) (λ e. (λ i. (e i).cell, (λ i. (e i).outcome, λ i. (e i).count)))

pub replies_decide : (x y : List Reply) → Decides (pointwise reply_eq x y) (x ≡ y)
replies_decide = pointwise_decides reply_decides
