use Rattle.std.proofs.Common.{◌≡◌, ℕ, ◌-◌, ◌<◌, true, not, nat_eq}
use Rattle.std.specs.Prelude.{find}
use Rattle.std.specs.List.{list_any, range_with_len}
use Rattle.serials.proofs.codes.first_free.Given as goal

-- the codes passed are used
abbrev pub invariant-loop-code : goal.invariant-loop-code
invariant-loop-code l = record { rest : find (λ code. not (list_any (nat_eq code) l.used)) (range_with_len l.code (l.count - l.code)) ≡ find (λ code. not (list_any (nat_eq code) l.used)) (range_with_len 0 l.count); used : (k : ℕ) → k < l.code → list_any (nat_eq k) l.used ≡ true }
