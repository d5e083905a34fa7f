-- Sums of numbers over cells at BSCs, each once: what one cell adds, and what a change of it makes of the sums.
use Rattle.std.proofs.Common.{◌≡◌, ◌≤◌, ◌<◌, ◌+◌, ◌-◌, ◌*◌, ◌^◌, ℕ, Bool, true, false, List, ◌∷◌, length, refl, ◌∙◌, ap, arith}
use Rattle.std.specs.List.{list_all}
use Rattle.common.specs.Order.{each_once}
use Rattle.common.specs.Sums.{one, sum_of}
use Rattle.coverage_board.specs.Numbers.{Holds, HasRoom, moved, zero_numbers}
use Rattle.coverage_board.specs.Parts.{has_area, part_where, without_left}
use Rattle.coverage_board.specs.Standings.{stands}
use Rattle.coverage_board.specs.declared.numbers.Numbers.{Numbers}
use Rattle.coverage_board.specs.declared.way.Way.TheVariants.{Awaited, OnAir, Failed, Left}
use Rattle.kept_tables.proofs.BroadcastLemmas.{broadcasts_few}
use Rattle.kept_tables.proofs.SpotLemmas.{spots_few}
use Rattle.kept_tables.proofs.SumLemmas.{part_there, sum_few, sum_shifted}
use Rattle.kept_tables.specs.Consistent.{is_in_range, sum_numbers}
use Rattle.kept_tables.specs.Facts.{area_of_line, stand_of, total_of_line}
use Rattle.kept_tables.specs.SpotLaws.{spot_decides}
use Rattle.kept_tables.specs.View.{is_spot, spot_eq}
use Rattle.kept_tables.specs.declared.line_facts.LineFacts.{LineFacts}
use Rattle.kept_tables.specs.declared.spot.Spot.{Spot}
use Rattle.mirror.specs.Line.{state_of}

-- each of the numbers is 1 at most, but for the broadcasts
pub record IsFew (n : Numbers) : Type 0 where
  pub awaited : n.awaited ≤ 1
  pub on_air : n.on_air ≤ 1
  pub failed : n.failed ≤ 1
  pub left : n.left ≤ 1
  pub broadcasts : n.broadcasts ≤ 1048560

one_few : (b : Bool) → one b ≤ 1
one_few true = omega arith
one_few false = omega arith

where_few : (b : Bool) (n : Numbers) → IsFew n → IsFew (part_where b (without_left n))
where_few true n few = record { awaited = few.awaited; on_air = few.on_air; failed = few.failed; left = omega arith; broadcasts = few.broadcasts }
where_few false n few = record { awaited = omega arith; on_air = omega arith; failed = omega arith; left = omega arith; broadcasts = omega arith }

-- what a line adds
pub total_few : (f : LineFacts) → ((s : ℕ) → (state_of f.line s).count < 65536) → length f.versions ≤ 16 → IsFew (total_of_line f)
total_few f low few = record {
  awaited = one_few (stands Awaited (stand_of f));
  on_air = one_few (stands OnAir (stand_of f));
  failed = one_few (stands Failed (stand_of f));
  left = one_few (stands Left (stand_of f));
  broadcasts = within (one f.here) (total_of_line f).broadcasts (broadcasts_few f low few) (one_few f.here);
}
  where
    within : (m n : ℕ) → n ≤ 1048560 * m → m ≤ 1 → n ≤ 1048560
    within m n h g = omega arith

pub area_few : (a : List ℕ) (f : LineFacts) → ((s : ℕ) → (state_of f.line s).count < 65536) → length f.versions ≤ 16 → IsFew (area_of_line a f)
area_few a f low few = where_few (has_area f.areas a) (total_of_line f) (total_few f low few)

-- the broadcasts that a line adds to the numbers of an area are those that it adds to the numbers of its warning, or none
pub area_broadcasts : (a : List ℕ) (f : LineFacts) → (area_of_line a f).broadcasts ≤ (total_of_line f).broadcasts
area_broadcasts a f = step (has_area f.areas a)
  where
    step : (b : Bool) → (part_where b (without_left (total_of_line f))).broadcasts ≤ (total_of_line f).broadcasts
    step true = omega arith
    step false = omega arith

-- what a cell of the list adds is part of the sums
pub holds_sum : (c : Spot) (f : Spot → Numbers) (xs : List Spot) → is_spot c xs ≡ true → Holds (sum_numbers f xs) (f c)
holds_sum c f xs h = record {
  awaited = part_there spot_eq spot_decides c (λ s. (f s).awaited) xs h;
  on_air = part_there spot_eq spot_decides c (λ s. (f s).on_air) xs h;
  failed = part_there spot_eq spot_decides c (λ s. (f s).failed) xs h;
  left = part_there spot_eq spot_decides c (λ s. (f s).left) xs h;
  broadcasts = part_there spot_eq spot_decides c (λ s. (f s).broadcasts) xs h;
}

-- sums over cells that add so little, and no more broadcasts than that, have room for what another line adds
pub room_sum : (f : Spot → Numbers) → ((s : Spot) → IsFew (f s)) → (xs : List Spot) → list_all is_in_range xs ≡ true → each_once spot_eq xs ≡ true → sum_of (λ s. (f s).broadcasts) xs ≤ 9007061815787520 → (p q : Numbers) → IsFew q → HasRoom (sum_numbers f xs) p q
room_sum f few xs all once most p q small = record {
  awaited = field (λ s. (f s).awaited) (λ s. (few s).awaited) p.awaited q.awaited small.awaited;
  on_air = field (λ s. (f s).on_air) (λ s. (few s).on_air) p.on_air q.on_air small.on_air;
  failed = field (λ s. (f s).failed) (λ s. (few s).failed) p.failed q.failed small.failed;
  left = field (λ s. (f s).left) (λ s. (few s).left) p.left q.left small.left;
  broadcasts = room (sum_of (λ s. (f s).broadcasts) xs) p.broadcasts q.broadcasts most small.broadcasts;
}
  where
    field : (g : Spot → ℕ) → ((s : Spot) → g s ≤ 1) → (m n : ℕ) → n ≤ 1 → sum_of g xs - m + n < 2 ^ 64
    field g each m n least =
        let sums = sum_few g each xs in
        let long = spots_few xs all once in
        omega arith

    room : (k m n : ℕ) → k ≤ 9007061815787520 → n ≤ 1048560 → k - m + n < 2 ^ 64
    room k m n e h = omega arith

-- without what a cell added before, and with what it adds then, the sums are those after
pub sums_moved : (c : Spot) (f g : Spot → Numbers) → ((s : Spot) → spot_eq c s ≡ false → g s ≡ f s) → (xs : List Spot) → each_once spot_eq xs ≡ true → is_spot c xs ≡ true → moved (sum_numbers f xs) (f c) (g c) ≡ sum_numbers g xs
sums_moved c f g but xs once h =
    λ i. record {
      awaited = sum_shifted spot_eq spot_decides c (λ s. (f s).awaited) (λ s. (g s).awaited) (λ s e. ap (λ n. n.awaited) (but s e)) xs once h i;
      on_air = sum_shifted spot_eq spot_decides c (λ s. (f s).on_air) (λ s. (g s).on_air) (λ s e. ap (λ n. n.on_air) (but s e)) xs once h i;
      failed = sum_shifted spot_eq spot_decides c (λ s. (f s).failed) (λ s. (g s).failed) (λ s e. ap (λ n. n.failed) (but s e)) xs once h i;
      left = sum_shifted spot_eq spot_decides c (λ s. (f s).left) (λ s. (g s).left) (λ s e. ap (λ n. n.left) (but s e)) xs once h i;
      broadcasts = sum_shifted spot_eq spot_decides c (λ s. (f s).broadcasts) (λ s. (g s).broadcasts) (λ s e. ap (λ n. n.broadcasts) (but s e)) xs once h i;
    }

-- one more cell, which adds nothing, changes no sum
pub sums_grown : (f : Spot → Numbers) (c : Spot) (xs : List Spot) → f c ≡ zero_numbers → sum_numbers f xs ≡ sum_numbers f (c ∷ xs)
sums_grown f c xs e =
    λ i. record {
      awaited = field (λ n. n.awaited) refl i;
      on_air = field (λ n. n.on_air) refl i;
      failed = field (λ n. n.failed) refl i;
      left = field (λ n. n.left) refl i;
      broadcasts = field (λ n. n.broadcasts) refl i;
    }
  where
    field : (p : Numbers → ℕ) → p zero_numbers ≡ 0 → sum_of (λ s. p (f s)) xs ≡ p (f c) + sum_of (λ s. p (f s)) xs
    field p z = let here : p (f c) ≡ 0 = ap p e ∙ z in omega arith
