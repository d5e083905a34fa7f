-- The orders of slots and of places are total ones, and slots that tie are the same.
use Rattle.std.proofs.Common.{◌≡◌, arith, ◌++◌, true, ap}
use Rattle.std.proofs.lemmas.Bool.Decides.{nat_tests}
use Rattle.std.proofs.lemmas.Grind.{common_steps}
use Rattle.std.specs.BTreeMap.{is_at}
use Rattle.std.specs.Cmp.{IsTotalOrder, then_total, on_total, nat_cmp_total}
use Rattle.std.specs.Hash.{u32, u64}
use Rattle.mirror.specs.Order.{Place, Slot, cell_number, front_of, slot_cmp, warning_slot_cmp, place_cmp}

pub place_total : IsTotalOrder place_cmp
place_total =
    then_total (on_total (λ (p : Place). p.bsc) nat_cmp_total)
    (then_total (on_total (λ (p : Place). p.cell.lac) nat_cmp_total) (on_total (λ (p : Place). p.cell.ci) nat_cmp_total))

pub slot_total : IsTotalOrder slot_cmp
slot_total =
    then_total (on_total (λ (s : Slot). s.bsc) nat_cmp_total)
    (then_total
    (then_total (on_total (λ (s : Slot). s.cell.lac) nat_cmp_total) (on_total (λ (s : Slot). s.cell.ci) nat_cmp_total))
    (on_total (λ (s : Slot). s.warning) nat_cmp_total))

pub warning_slot_total : IsTotalOrder warning_slot_cmp
warning_slot_total =
    then_total (on_total (λ (s : Slot). s.warning) nat_cmp_total)
    (then_total (on_total (λ (s : Slot). s.bsc) nat_cmp_total)
    (then_total (on_total (λ (s : Slot). s.cell.lac) nat_cmp_total) (on_total (λ (s : Slot). s.cell.ci) nat_cmp_total)))

-- slots that tie are the same
pub tied_slots : (x y : Slot) → is_at (warning_slot_cmp x) y ≡ true → x ≡ y
tied_slots x y h =
    let bsc : x.bsc ≡ y.bsc = grind (arith, nat_tests, common_steps) in
    let lac : x.cell.lac ≡ y.cell.lac = grind (arith, nat_tests, common_steps) in
    let ci : x.cell.ci ≡ y.cell.ci = grind (arith, nat_tests, common_steps) in
    let warning : x.warning ≡ y.warning = grind (arith, nat_tests, common_steps) in
    λ i. record { bsc = bsc i; cell = record { lac = lac i; ci = ci i }; warning = warning i }

-- slots that tie are hashed alike
pub same_hash_input : (x y : Slot) → is_at (warning_slot_cmp x) y ≡ true → u64 (front_of x) ++ u32 (cell_number x) ≡ u64 (front_of y) ++ u32 (cell_number y)
same_hash_input x y h = ap (λ s. u64 (front_of s) ++ u32 (cell_number s)) (tied_slots x y h)
