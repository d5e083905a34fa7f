-- The order of keys is a total one.
use Rattle.std.specs.Cmp.{IsTotalOrder, then_total, on_total, nat_cmp_total, bool_cmp_total}
use Rattle.std.specs.Cmp.Lexicographic.{options_total}
use Rattle.order_maker.specs.Pending.{OrderKey, key_cmp}

pub key_total : IsTotalOrder key_cmp
key_total =
    then_total (on_total (λ (k : OrderKey). k.bsc) nat_cmp_total)
    (then_total (on_total (λ (k : OrderKey). k.is_kill) bool_cmp_total)
    (then_total (on_total (λ (k : OrderKey). k.message_id) nat_cmp_total)
    (then_total (on_total (λ (k : OrderKey). k.serial) nat_cmp_total) (on_total (λ (k : OrderKey). k.old) (options_total nat_cmp_total)))))
