-- What numbers come to where nothing is taken out of them or added to them.
use Rattle.std.proofs.Common.{◌≡◌, ℕ, ◌+◌, ◌-◌, ap, ◌∙◌, arith}
use Rattle.coverage_board.specs.Numbers.{zero_numbers, less, added, moved}
use Rattle.coverage_board.specs.declared.numbers.Numbers.{Numbers}

none_less : (n : ℕ) → 0 - n ≡ 0
none_less n = omega arith

less_none : (n : ℕ) → n - 0 ≡ n
less_none n = omega arith

none_added : (n : ℕ) → 0 + n ≡ n
none_added n = omega arith

added_none : (n : ℕ) → n + 0 ≡ n
added_none n = omega arith

pub zero_less : (p : Numbers) → less zero_numbers p ≡ zero_numbers
zero_less p = λ i. record { awaited = none_less p.awaited i; on_air = none_less p.on_air i; failed = none_less p.failed i; left = none_less p.left i; broadcasts = none_less p.broadcasts i }

pub less_zero : (n : Numbers) → less n zero_numbers ≡ n
less_zero n = λ i. record { awaited = less_none n.awaited i; on_air = less_none n.on_air i; failed = less_none n.failed i; left = less_none n.left i; broadcasts = less_none n.broadcasts i }

pub zero_added : (p : Numbers) → added zero_numbers p ≡ p
zero_added p = λ i. record { awaited = none_added p.awaited i; on_air = none_added p.on_air i; failed = none_added p.failed i; left = none_added p.left i; broadcasts = none_added p.broadcasts i }

pub added_zero : (n : Numbers) → added n zero_numbers ≡ n
added_zero n = λ i. record { awaited = added_none n.awaited i; on_air = added_none n.on_air i; failed = added_none n.failed i; left = added_none n.left i; broadcasts = added_none n.broadcasts i }

pub moved_none : (n : Numbers) → moved n zero_numbers zero_numbers ≡ n
moved_none n = ap (λ m. added m zero_numbers) (less_zero n) ∙ added_zero n

-- what is added where nothing was counted
pub moved_to : (p q : Numbers) → moved zero_numbers p q ≡ q
moved_to p q = ap (λ m. added m q) (zero_less p) ∙ zero_added q
