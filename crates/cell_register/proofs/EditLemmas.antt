-- What each edit leaves of the cells and of their index.
use Rattle.std.proofs.Common.{◌≡◌, ℕ, not, List, [], Option, None, Some, filter, map, sym, ◌∙◌, ap, false}
use Rattle.std.specs.Option.{is_some}
use Rattle.common.specs.Cell.{cell_eq}
use Rattle.common.specs.Order.{inserted}
use Rattle.common.specs.OrderLaws.{ascending_filter}
use Rattle.common.specs.declared.cell.Cell.{Cell}
use Rattle.cell_register.specs.Laws.{place_among_inserted, place_among_without, place_in_moved}
use Rattle.cell_register.specs.Places.{with_place, without_place, ArePlaces, IsIndexed, IsIndexWith, IsIndexWithout, IsIndexAfterMove}
use Rattle.cell_register.specs.Register.{is_place, new_placed, place_among, placed_after_move, placed_lt}
use Rattle.cell_register.specs.SoundLaws.{with_cell_ascends, moved_ascends}
use Rattle.cell_register.specs.declared.placed.Placed.{Placed}
use Rattle.cell_register.specs.declared.seat.Seat.{Seat}

-- an index of the same places
index_same : (seats : Option (List Seat)) (place other : Cell → Option ℕ) → ((c : Cell) → place c ≡ other c) → IsIndexed seats place → IsIndexed seats other
index_same None place other e h = h
index_same (Some seats) place other e h = λ b c. h b c ∙ ap (λ o. is_place o b) (e c)

pub whole_with : (c : Cell) (b : ℕ) (ps : List Placed) (old new : Option (List Seat)) → is_some (place_among ps c) ≡ false → ArePlaces ps old → IsIndexWith old new c b → ArePlaces (inserted placed_lt (new_placed c b) ps) new
whole_with c b ps old new fresh whole index = record {
  ascend = with_cell_ascends c b ps fresh whole.ascend;
  indexed = index_same new (with_place c b (place_among ps)) (place_among (inserted placed_lt (new_placed c b) ps)) (λ d. sym (place_among_inserted (new_placed c b) d ps)) (index (place_among ps) fresh whole.indexed);
}

pub whole_without : (c : Cell) (b : ℕ) (ps : List Placed) (old new : Option (List Seat)) → place_among ps c ≡ Some b → ArePlaces ps old → IsIndexWithout old new c b → ArePlaces (filter (λ p. not (cell_eq p.cell c)) ps) new
whole_without c b ps old new there whole index = record {
  ascend = ascending_filter placed_lt (λ p. not (cell_eq p.cell c)) ps whole.ascend;
  indexed = index_same new (without_place c (place_among ps)) (place_among (filter (λ p. not (cell_eq p.cell c)) ps)) (λ d. sym (place_among_without c d ps)) (index (place_among ps) there whole.indexed);
}

pub whole_moved : (c : Cell) (a b : ℕ) (ps : List Placed) (old new : Option (List Seat)) → place_among ps c ≡ Some a → ArePlaces ps old → IsIndexAfterMove old new c a b → ArePlaces (map (placed_after_move c b) ps) new
whole_moved c a b ps old new there whole index = record {
  ascend = moved_ascends c b ps whole.ascend;
  indexed = index_same new (with_place c b (place_among ps)) (place_among (map (placed_after_move c b) ps)) (λ d. sym (place_in_moved c b d (record { bscs = []; cells = ps }) (ap is_some there))) (index (place_among ps) there whole.indexed);
}
