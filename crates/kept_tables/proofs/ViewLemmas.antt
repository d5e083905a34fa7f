-- What a change of one line makes of tables that are consistent with a view.
use Rattle.std.proofs.Common.{◌≡◌, ◌≤◌, ◌<◌, ◌*◌, ℕ, Bool, true, false, ◌&&◌, ◌||◌, not, List, [], ◌∷◌, Option, Some, None, nat_eq, length, map, refl, sym, ◌∙◌, ap, subst, arith, if◌then◌else◌}
use Rattle.std.proofs.lemmas.Bool.{and_from, and_parts, and_right, or_parts, not_from_false}
use Rattle.std.specs.Cmp.{unsigned_Decides}
use Rattle.common.specs.Cell.{cell_eq}
use Rattle.common.specs.Equality.{cell_decides}
use Rattle.common.specs.OnceLaws.{turned}
use Rattle.common.specs.Order.{each_once}
use Rattle.common.specs.Sums.{one, sum_of}
use Rattle.common.specs.declared.cell.Cell.{Cell}
use Rattle.coverage_board.specs.Board.{area_of, total_of}
use Rattle.coverage_board.specs.Numbers.{HasRoom, Holds, moved}
use Rattle.coverage_board.specs.declared.numbers.Numbers.{Numbers}
use Rattle.kept_tables.proofs.BroadcastLemmas.{broadcasts_few, broadcasts_fit, IsBetween}
use Rattle.kept_tables.proofs.NumbersLemmas.{area_broadcasts, area_few, holds_sum, room_sum, sums_grown, sums_moved, total_few}
use Rattle.kept_tables.specs.Changes.{FewVersions, Placed}
use Rattle.kept_tables.specs.Consistent.{acts_by, Consistent, Counts, deed_of, is_deed, is_in_range, Owned, sum_numbers}
use Rattle.kept_tables.specs.ConsistentLaws.{pending_is, sums_same}
use Rattle.kept_tables.specs.Facts.{area_of_line, deeds_of, total_of_line}
use Rattle.kept_tables.specs.SpotLaws.{key_decides, spot_decides}
use Rattle.kept_tables.specs.Tables.{HasPart, Shifted, Tables}
use Rattle.kept_tables.specs.View.{is_spot, key_at, key_eq, key_of, spot_eq, spot_of, updated, View}
use Rattle.kept_tables.specs.declared.line_facts.LineFacts.{LineFacts}
use Rattle.kept_tables.specs.declared.spot.Spot.{Spot}
use Rattle.mirror.specs.Line.{state_of}
use Rattle.mirror.specs.Table.{Table, is_key, line_at}
use Rattle.mirror.specs.declared.line.Line.{Line}
use Rattle.mirror.specs.declared.line_key.LineKey.{LineKey}
use Rattle.order_maker.specs.Actions.{in_cell}
use Rattle.order_maker.specs.Grouping.{kind_eq}
use Rattle.order_maker.specs.Pending.{holds, is_listed}
use Rattle.order_maker.specs.declared.action.Action.{Action}
use Rattle.order_maker.specs.declared.deed.Deed.{Deed}

-- one more cell at its BSC may be counted
pub grown : (t : Tables) (v : View) (s : Spot) → is_in_range s ≡ true → (c : Counts t v) → (d : Counts t v) × (is_spot s d.spots ≡ true)
grown t v s fit c = step (is_spot s c.spots) refl
  where
    itself : spot_eq s s ≡ true
    itself = (spot_decides s s).1 refl

    step : (p : Bool) → is_spot s c.spots ≡ p → (d : Counts t v) × (is_spot s d.spots ≡ true)
    step true e = (c, e)
    step false e = (
      record {
        spots = s ∷ c.spots;
        once = and_from (not (is_spot s c.spots)) (each_once spot_eq c.spots) (not_from_false (is_spot s c.spots) e) c.once;
        in_range = and_from (is_in_range s) _ fit c.in_range;
        no_total = λ z w h. c.no_total z w (or_parts (spot_eq z s) (is_spot z c.spots) h).1;
        no_area = λ z w a h. c.no_area z w a (or_parts (spot_eq z s) (is_spot z c.spots) h).1;
        totals = λ w. c.totals w ∙ sums_grown (λ z. total_of_line (v (key_at z w))) s c.spots (c.no_total s w e);
        areas = λ w a. c.areas w a ∙ sums_grown (λ z. area_of_line a (v (key_at z w))) s c.spots (c.no_area s w a e);
      },
      ap (λ p. p || is_spot s c.spots) itself,
    )

-- a line of another cell or BSC, and a line of another warning, stays
other_spot : (k : LineKey) (s : Spot) (w : ℕ) → spot_eq (spot_of k) s ≡ false → key_eq k (key_at s w) ≡ false
other_spot k s w h = step (nat_eq k.bsc s.bsc) (cell_eq k.cell s.cell) (nat_eq k.warning w) h
  where
    step : (p q r : Bool) → (p && q) ≡ false → (p && (q && r)) ≡ false
    step true q r e = rw e refl
    step false q r e = refl

other_warning : (k : LineKey) (s : Spot) (w : ℕ) → nat_eq k.warning w ≡ false → key_eq k (key_at s w) ≡ false
other_warning k s w h = step (nat_eq k.bsc s.bsc) (cell_eq k.cell s.cell) (nat_eq k.warning w) h
  where
    step : (p q r : Bool) → r ≡ false → (p && (q && r)) ≡ false
    step true true r e = e
    step true false r e = refl
    step false q r e = refl

its_line : (k : LineKey) (w : ℕ) → nat_eq k.warning w ≡ true → key_eq k (key_at (spot_of k) w) ≡ true
its_line k w h =
    and_from (nat_eq k.bsc k.bsc) (cell_eq k.cell k.cell && nat_eq k.warning w) ((unsigned_Decides k.bsc k.bsc).1 refl)
    (and_from (cell_eq k.cell k.cell) (nat_eq k.warning w) ((cell_decides k.cell k.cell).1 refl) h)

-- what is read of the line then, and of any other
at_key : (v : View) (k : LineKey) (f : LineFacts) (q : LineKey) → key_eq k q ≡ true → updated v k f q ≡ f
at_key v k f q h = rw h refl

off_key : (v : View) (k : LineKey) (f : LineFacts) (q : LineKey) → key_eq k q ≡ false → updated v k f q ≡ v q
off_key v k f q h = rw h refl

-- numbers that are sums over the lines of a warning are sums over the lines after
number_changed : (v : View) (k : LineKey) (after : LineFacts) (p : LineFacts → Numbers) (xs : List Spot) → each_once spot_eq xs ≡ true → is_spot (spot_of k) xs ≡ true → (w : ℕ) (m n : Numbers) → m ≡ sum_numbers (λ s. p (v (key_at s w))) xs → n ≡ (if nat_eq k.warning w then moved m (p (v k)) (p after) else m) → n ≡ sum_numbers (λ s. p (updated v k after (key_at s w))) xs
number_changed v k after p xs once there w m n e f = step (nat_eq k.warning w) refl
  where
    step : (b : Bool) → nat_eq k.warning w ≡ b → n ≡ sum_numbers (λ s. p (updated v k after (key_at s w))) xs
    step true h =
        let is : key_of k.bsc k.cell w ≡ k = sym ((key_decides k (key_of k.bsc k.cell w)).0 (its_line k w h)) in
        let before : p (v (key_at (spot_of k) w)) ≡ p (v k) = ap (λ q. p (v q)) is in
        let came : p (updated v k after (key_at (spot_of k) w)) ≡ p after = ap p (at_key v k after (key_at (spot_of k) w) (its_line k w h)) in
        let sums = sums_moved (spot_of k) (λ s. p (v (key_at s w))) (λ s. p (updated v k after (key_at s w))) (λ s g. ap p (off_key v k after (key_at s w) (other_spot k s w g))) xs once there in
        f ∙ ap (λ b. if b then moved m (p (v k)) (p after) else m) h ∙ (λ i. moved (e i) (sym before i) (sym came i)) ∙ sums
    step false h =
        f ∙ ap (λ b. if b then moved m (p (v k)) (p after) else m) h ∙ e ∙ sums_same (λ s. p (v (key_at s w))) (λ s. p (updated v k after (key_at s w))) (λ s. ap p (sym (off_key v k after (key_at s w) (other_warning k s w h)))) xs

counts_changed : (t u : Tables) (v : View) (k : LineKey) (after : LineFacts) → is_in_range (spot_of k) ≡ true → Shifted t u k (v k) after → Counts t v → Counts u (updated v k after)
counts_changed t u v k after fit shifted c = made (grown t v (spot_of k) fit c)
  where
    away : (spots : List Spot) → is_spot (spot_of k) spots ≡ true → (s : Spot) → is_spot s spots ≡ false → spot_eq (spot_of k) s ≡ false
    away spots there s none = step (spot_eq (spot_of k) s) refl
      where
        step : (b : Bool) → spot_eq (spot_of k) s ≡ b → b ≡ false
        step true e = let no : true ≡ false = sym there ∙ ap (λ z. is_spot z spots) ((spot_decides (spot_of k) s).0 e) ∙ none in cc
        step false e = refl

    made : (d : Counts t v) × (is_spot (spot_of k) d.spots ≡ true) → Counts u (updated v k after)
    made (d, there) = record {
      spots = d.spots;
      once = d.once;
      in_range = d.in_range;
      no_total = λ s w h. ap total_of_line (off_key v k after (key_at s w) (other_spot k s w (away d.spots there s h))) ∙ d.no_total s w h;
      no_area = λ s w a h. ap (area_of_line a) (off_key v k after (key_at s w) (other_spot k s w (away d.spots there s h))) ∙ d.no_area s w a h;
      totals = λ w. number_changed v k after total_of_line d.spots d.once there w (total_of t.board w) (total_of u.board w) (d.totals w) (shifted.total w);
      areas = λ w a. number_changed v k after (area_of_line a) d.spots d.once there w (area_of t.board w a) (area_of u.board w a) (d.areas w a) (shifted.area w a);
    }

-- an action is one of a line's where it is in the line's cell and its deed is one of the line's
listed_in_cell : (a : Action) (c : Cell) (ds : List Deed) → is_listed a (map (in_cell c) ds) ≡ (cell_eq a.cell c && is_deed (deed_of a) ds)
listed_in_cell a c [] = sym (and_right (cell_eq a.cell c) false refl)
listed_in_cell a c (d ∷ ds) =
    ap (λ t. (kind_eq a.kind d.kind && (nat_eq a.message_id d.message_id && (nat_eq a.serial d.serial && cell_eq a.cell c))) || t) (listed_in_cell a c ds) ∙ joined (kind_eq a.kind d.kind) (nat_eq a.message_id d.message_id) (nat_eq a.serial d.serial) (cell_eq a.cell c) (is_deed (deed_of a) ds)
  where
    joined : (p q r s t : Bool) → ((p && (q && (r && s))) || (s && t)) ≡ (s && ((p && (q && r)) || t))
    joined true true true true t = refl
    joined true true true false t = refl
    joined true true false true t = refl
    joined true true false false t = refl
    joined true false r true t = refl
    joined true false r false t = refl
    joined false q r true t = refl
    joined false q r false t = refl

-- no line of the warning: nothing comes, and nothing was pending
none_come : (p q x y : Bool) → x ≡ false → ((p && (q && x)) || (false && not y)) ≡ false
none_come true true x y e = ap (λ b. b || false) e
none_come true false x y e = refl
none_come false q x y e = refl

-- the line of another warning: nothing comes and nothing goes
none_change : (p q x y h : Bool) → x ≡ false → y ≡ false → ((p && (q && x)) || (h && not (p && (q && y)))) ≡ h
none_change p q true y h e f = cc
none_change p q false true h e f = cc
none_change true true false false true e f = refl
none_change true true false false false e f = refl
none_change true false false false true e f = refl
none_change true false false false false e f = refl
none_change false q false false true e f = refl
none_change false q false false false e f = refl

-- another cell, or another BSC
elsewhere : (p q x y h : Bool) → (p && (q && true)) ≡ false → ((p && (q && x)) || (h && not (p && (q && y)))) ≡ h
elsewhere true true x y h e = cc
elsewhere true false x y true e = refl
elsewhere true false x y false e = refl
elsewhere false q x y true e = refl
elsewhere false q x y false e = refl

-- the line itself: what is pending goes, and what is to be ordered comes
exchanged : (p q x y h : Bool) → p ≡ true → q ≡ true → h ≡ y → ((p && (q && x)) || (h && not (p && (q && y)))) ≡ x
exchanged false q x y h e f g = cc
exchanged true false x y h e f g = cc
exchanged true true true y h e f g = refl
exchanged true true false true true e f g = refl
exchanged true true false true false e f g = refl
exchanged true true false false true e f g = cc
exchanged true true false false false e f g = refl

-- what is pending after a change of the line is what is to be ordered after it
acts_changed : (t u : Tables) (v : View) (k : LineKey) (after : LineFacts) (owner : ℕ → ℕ → Option ℕ) → Owned owner v → Owned owner (updated v k after) → ((b : ℕ) (a : Action) → holds t.pending b a ≡ acts_by v (owner a.message_id a.serial) b a) → Shifted t u k (v k) after → (b : ℕ) (a : Action) → holds u.pending b a ≡ acts_by (updated v k after) (owner a.message_id a.serial) b a
acts_changed t u v k after owner owned also is shifted b a =
    shifted.acts.each b a ∙ (λ i. (nat_eq b k.bsc && listed_in_cell a k.cell (deeds_of after) i) || (is b a i && not (nat_eq b k.bsc && listed_in_cell a k.cell (deeds_of (v k)) i))) ∙ by_owner (owner a.message_id a.serial) refl
  where
    comes : is_deed (deed_of a) (deeds_of after) ≡ true → owner a.message_id a.serial ≡ Some k.warning
    comes h = also.owns k (deed_of a) (ap (λ f. is_deed (deed_of a) (deeds_of f)) (at_key v k after k ((key_decides k k).1 refl)) ∙ h)

    goes : is_deed (deed_of a) (deeds_of (v k)) ≡ true → owner a.message_id a.serial ≡ Some k.warning
    goes h = owned.owns k (deed_of a) h

    of_none : owner a.message_id a.serial ≡ None → (x : Bool) → is_deed (deed_of a) (deeds_of after) ≡ x → x ≡ false
    of_none e true h = let no : Some k.warning ≡ None = sym (comes h) ∙ e in cc
    of_none e false h = refl

    of_other : (w : ℕ) → owner a.message_id a.serial ≡ Some w → nat_eq k.warning w ≡ false → (x : Bool) → (x ≡ true → owner a.message_id a.serial ≡ Some k.warning) → x ≡ false
    of_other w e h true f =
        let one : Some k.warning ≡ Some w = sym (f refl) ∙ e in
        let same : k.warning ≡ w = cc in
        let yes : nat_eq k.warning w ≡ true = (unsigned_Decides k.warning w).1 same in
        cc
    of_other w e h false f = refl

    off_line : (w : ℕ) → owner a.message_id a.serial ≡ Some w → (r : Bool) → nat_eq k.warning w ≡ r → (nat_eq b k.bsc && (cell_eq a.cell k.cell && r)) ≡ false → ((nat_eq b k.bsc && (cell_eq a.cell k.cell && is_deed (deed_of a) (deeds_of after))) || (acts_by v (Some w) b a && not (nat_eq b k.bsc && (cell_eq a.cell k.cell && is_deed (deed_of a) (deeds_of (v k)))))) ≡ acts_by v (Some w) b a
    off_line w e true g h =
        elsewhere (nat_eq b k.bsc) (cell_eq a.cell k.cell) (is_deed (deed_of a) (deeds_of after)) (is_deed (deed_of a) (deeds_of (v k))) (acts_by v (Some w) b a) h
    off_line w e false g h =
        none_change (nat_eq b k.bsc) (cell_eq a.cell k.cell) (is_deed (deed_of a) (deeds_of after)) (is_deed (deed_of a) (deeds_of (v k))) (acts_by v (Some w) b a) (of_other w e g (is_deed (deed_of a) (deeds_of after)) comes) (of_other w e g (is_deed (deed_of a) (deeds_of (v k))) goes)

    by_key : (w : ℕ) → owner a.message_id a.serial ≡ Some w → (x : Bool) → key_eq k (key_of b a.cell w) ≡ x → ((nat_eq b k.bsc && (cell_eq a.cell k.cell && is_deed (deed_of a) (deeds_of after))) || (acts_by v (Some w) b a && not (nat_eq b k.bsc && (cell_eq a.cell k.cell && is_deed (deed_of a) (deeds_of (v k)))))) ≡ acts_by (updated v k after) (Some w) b a
    by_key w e true h =
        let is : k ≡ key_of b a.cell w = (key_decides k (key_of b a.cell w)).0 h in
        let bsc : nat_eq b k.bsc ≡ true = ap (λ q. nat_eq b q.bsc) is ∙ (unsigned_Decides b b).1 refl in
        let cell : cell_eq a.cell k.cell ≡ true = ap (λ q. cell_eq a.cell q.cell) is ∙ (cell_decides a.cell a.cell).1 refl in
        let here : acts_by v (Some w) b a ≡ is_deed (deed_of a) (deeds_of (v k)) = ap (λ q. is_deed (deed_of a) (deeds_of (v q))) (sym is) in
        exchanged (nat_eq b k.bsc) (cell_eq a.cell k.cell) (is_deed (deed_of a) (deeds_of after)) (is_deed (deed_of a) (deeds_of (v k))) (acts_by v (Some w) b a) bsc cell here ∙ ap (λ f. is_deed (deed_of a) (deeds_of f)) (sym (at_key v k after (key_of b a.cell w) h))
    by_key w e false h =
        let bsc : nat_eq b k.bsc ≡ nat_eq k.bsc b = turned nat_eq unsigned_Decides b k.bsc in
        let cell : cell_eq a.cell k.cell ≡ cell_eq k.cell a.cell = turned cell_eq cell_decides a.cell k.cell in
        off_line w e (nat_eq k.warning w) refl ((λ i. bsc i && (cell i && nat_eq k.warning w)) ∙ h) ∙ ap (λ f. is_deed (deed_of a) (deeds_of f)) (sym (off_key v k after (key_of b a.cell w) h))

    by_owner : (o : Option ℕ) → owner a.message_id a.serial ≡ o → ((nat_eq b k.bsc && (cell_eq a.cell k.cell && is_deed (deed_of a) (deeds_of after))) || (acts_by v o b a && not (nat_eq b k.bsc && (cell_eq a.cell k.cell && is_deed (deed_of a) (deeds_of (v k)))))) ≡ acts_by (updated v k after) o b a
    by_owner None e =
        none_come (nat_eq b k.bsc) (cell_eq a.cell k.cell) (is_deed (deed_of a) (deeds_of after)) (nat_eq b k.bsc && (cell_eq a.cell k.cell && is_deed (deed_of a) (deeds_of (v k)))) (of_none e (is_deed (deed_of a) (deeds_of after)) refl)
    by_owner (Some w) e = by_key w e (key_eq k (key_of b a.cell w)) refl

-- after a change of the line the tables are consistent with the view in which what is read of the line is changed
pub changed : (t u : Tables) (v : View) (k : LineKey) (before after : LineFacts) (owner : ℕ → ℕ → Option ℕ) → is_in_range (spot_of k) ≡ true → v k ≡ before → Owned owner v → Owned owner (updated v k after) → ((s : ℕ) → (state_of after.line s).count < 65536) → Shifted t u k before after → Consistent t v → Consistent u (updated v k after)
changed t u v k before after owner fit e owned also low moved is = record {
  lines = λ q. shifted.line q ∙ line_at_key q (key_eq k q) refl;
  owner = owner;
  owned = also;
  acts = acts_changed t u v k after owner owned also (pending_is t v owner owned is) shifted;
  counts = counts_changed t u v k after fit shifted is.counts;
  counted = λ q s. counted_key q s (key_eq k q) refl;
}
  where
    shifted : Shifted t u k (v k) after
    shifted = subst (λ f. Shifted t u k f after) (sym e) moved

    line_at_key : (q : LineKey) (x : Bool) → key_eq k q ≡ x → (if x then after.line else line_at t.lines q.bsc q.cell q.warning) ≡ (updated v k after q).line
    line_at_key q true h = ap (λ f. f.line) (sym (at_key v k after q h))
    line_at_key q false h = is.lines q ∙ ap (λ f. f.line) (sym (off_key v k after q h))

    counted_key : (q : LineKey) (s : ℕ) (x : Bool) → key_eq k q ≡ x → (state_of (updated v k after q).line s).count < 65536
    counted_key q s true h = subst (λ (f : LineFacts). (state_of f.line s).count < 65536) (sym (at_key v k after q h)) (low s)
    counted_key q s false h = subst (λ (f : LineFacts). (state_of f.line s).count < 65536) (sym (off_key v k after q h)) (is.counted q s)

-- what a line adds is a part of the numbers, and they have room for what any line adds, in a view between two in each of
-- which a cell is registered at one BSC at most
pub has_part : (t : Tables) (v from to : View) (k : LineKey) (before after : LineFacts) → is_in_range (spot_of k) ≡ true → v k ≡ before → IsBetween v from to → Placed from → Placed to → FewVersions v → ((s : ℕ) → (state_of after.line s).count < 65536) → length after.versions ≤ 16 → Consistent t v → HasPart t k before after
has_part t v from to k before after fit e between first second few low short is = subst (λ f. HasPart t k f after) e (part (grown t v (spot_of k) fit is.counts))
  where
    total_most : (q : LineKey) → (total_of_line (v q)).broadcasts ≤ 1048560 * one (v q).here
    total_most q = broadcasts_few (v q) (is.counted q) (few q)

    area_most : (a : List ℕ) (q : LineKey) → (area_of_line a (v q)).broadcasts ≤ 1048560 * one (v q).here
    area_most a q = omega (arith, area_broadcasts a (v q), total_most q)

    total_fits : (d : Counts t v) → sum_of (λ s. (total_of_line (v (key_at s k.warning))).broadcasts) d.spots ≤ 9007061815787520
    total_fits d = broadcasts_fit v from to between first second k.warning (λ f. (total_of_line f).broadcasts) total_most d.spots d.in_range d.once

    area_fits : (a : List ℕ) (d : Counts t v) → sum_of (λ s. (area_of_line a (v (key_at s k.warning))).broadcasts) d.spots ≤ 9007061815787520
    area_fits a d = broadcasts_fit v from to between first second k.warning (λ f. (area_of_line a f).broadcasts) (area_most a) d.spots d.in_range d.once

    total_room : (d : Counts t v) → HasRoom (sum_numbers (λ s. total_of_line (v (key_at s k.warning))) d.spots) (total_of_line (v k)) (total_of_line after)
    total_room d = room_sum (λ s. total_of_line (v (key_at s k.warning))) (λ s. total_few (v (key_at s k.warning)) (is.counted (key_at s k.warning)) (few (key_at s k.warning))) d.spots d.in_range d.once (total_fits d) (total_of_line (v k)) (total_of_line after) (total_few after low short)

    area_room : (a : List ℕ) (d : Counts t v) → HasRoom (sum_numbers (λ s. area_of_line a (v (key_at s k.warning))) d.spots) (area_of_line a (v k)) (area_of_line a after)
    area_room a d = room_sum (λ s. area_of_line a (v (key_at s k.warning))) (λ s. area_few a (v (key_at s k.warning)) (is.counted (key_at s k.warning)) (few (key_at s k.warning))) d.spots d.in_range d.once (area_fits a d) (area_of_line a (v k)) (area_of_line a after) (area_few a after low short)

    acts_held : (a : Action) → is_listed a (map (in_cell k.cell) (deeds_of (v k))) ≡ true → holds t.pending k.bsc a ≡ true
    acts_held a h =
        let parts = and_parts (cell_eq a.cell k.cell) (is_deed (deed_of a) (deeds_of (v k))) (sym (listed_in_cell a k.cell (deeds_of (v k))) ∙ h) in
        let own : is.owner a.message_id a.serial ≡ Some k.warning = is.owned.owns k (deed_of a) parts.1 in
        let cell : a.cell ≡ k.cell = (cell_decides a.cell k.cell).0 parts.0 in
        is.acts k.bsc a ∙ ap (λ o. acts_by v o k.bsc a) own ∙ (λ i. is_deed (deed_of a) (deeds_of (v (key_of k.bsc (cell i) k.warning)))) ∙ parts.1

    part : (d : Counts t v) × (is_spot (spot_of k) d.spots ≡ true) → HasPart t k (v k) after
    part (d, there) = record {
      line_there = is.lines k;
      acts_there = acts_held;
      total_there = subst (λ n. Holds n (total_of_line (v k))) (sym (d.totals k.warning)) (holds_sum (spot_of k) (λ s. total_of_line (v (key_at s k.warning))) d.spots there);
      total_room = subst (λ n. HasRoom n (total_of_line (v k)) (total_of_line after)) (sym (d.totals k.warning)) (total_room d);
      area_there = λ a. subst (λ n. Holds n (area_of_line a (v k))) (sym (d.areas k.warning a)) (holds_sum (spot_of k) (λ s. area_of_line a (v (key_at s k.warning))) d.spots there);
      area_room = λ a. subst (λ n. HasRoom n (area_of_line a (v k)) (area_of_line a after)) (sym (d.areas k.warning a)) (area_room a d);
    }

-- a line that is the same before and after is set as it is
pub line_same : (t : Table) (k : LineKey) (before after : Line) → before ≡ after → line_at t k.bsc k.cell k.warning ≡ before → (b : ℕ) (c : Cell) (w : ℕ) → line_at t b c w ≡ (if is_key k b c w then after else line_at t b c w)
line_same t k before after e there b c w = step (is_key k b c w) refl
  where
    step : (x : Bool) → is_key k b c w ≡ x → line_at t b c w ≡ (if x then after else line_at t b c w)
    step true h = (λ i. let q = sym ((key_decides k (key_of b c w)).0 h) i in line_at t q.bsc q.cell q.warning) ∙ there ∙ e
    step false h = refl
