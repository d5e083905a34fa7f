-- Where a search by halves over links in order ends is the place of the BSC's link; and links stay in order.
use Rattle.std.proofs.Common.{◌≡◌, ℕ, zero, suc, ◌<◌, ◌≤◌, Bool, true, false, ◌||◌, not, cond, List, [], ◌∷◌, None, Some, inl, inr, length, get_or, set, refl, sym, ap, ◌∙◌, ltb, ltb-true, eqb-true, arith}
use Rattle.std.specs.Prelude.{nat_eq, if◌then◌else◌}
use Rattle.std.specs.List.{list_all, list_any, position_or_len}
use Rattle.std.specs.List.Sorted.{IsNonDecreasingBy, IsPartitionPoint}
use Rattle.std.proofs.lemmas.Bool.{and_parts, cases_lt, or_from}
use Rattle.std.proofs.lemmas.Bool.Decides.{nat_tests}
use Rattle.std.proofs.lemmas.Grind.{common_steps}
use Rattle.std.proofs.lemmas.List.Folds.{find_at}
use Rattle.std.proofs.lemmas.List.Sums.{passes_at_first, position_or_len_is}
use Rattle.std.proofs.lemmas.Option.{slice_get_past}
use Rattle.cell_register.specs.CellLaws.{ltb_apart, ltb_follows, ltb_other}
use Rattle.common.specs.OnceLaws.{kept_whole}
use Rattle.common.specs.Order.{inserted, is_ascending}
use Rattle.common.specs.OrderLaws.{all_from_none, any_without, ascending_filter, ascending_inserted}
use Rattle.common.specs.RisingLaws.{at_place, rises}
use Rattle.centre_past.specs.Links.{is_link_of, link_in, link_lt, without_link}
use Rattle.centre_past.specs.declared.link.Link.{Link}

-- of two places the later one has the greater number
number_below : (ls : List Link) (i j : ℕ) (d : Link) → is_ascending link_lt ls ≡ true → i < j → j < length ls → (get_or ls i d).bsc < (get_or ls j d).bsc
number_below ls i j d o h b = ltb-true (get_or ls i d).bsc (get_or ls j d).bsc (rises link_lt ls i j d o h b)

-- the numbers do not fall from one place to a later one
pub numbers_rise : (ls : List Link) → is_ascending link_lt ls ≡ true → IsNonDecreasingBy (λ (l : Link). l.bsc) ls
numbers_rise ls o i j d h b =
    elim (cases_lt i j) [
      | inl under ↦ let less = number_below ls i j d o under b in omega arith
      | inr over ↦
          let same : i ≡ j = omega arith in
          let equal : (get_or ls i d).bsc ≡ (get_or ls j d).bsc = ap (λ (k : ℕ). (get_or ls k d).bsc) same in
          omega arith
    ]

-- up to this place the numbers are less than n, and from it on they are not
abbrev pub IsStart : ℕ → List Link → ℕ → Type 0
IsStart n ls i = IsPartitionPoint (λ (l : Link). ltb l.bsc n ≡ true) (λ (l : Link). ltb l.bsc n ≡ false) ls i

less_is_other : (m n : ℕ) → ltb m n ≡ true → nat_eq m n ≡ false
less_is_other m n h = grind (arith, nat_tests, common_steps)

greater_is_other : (k m n : ℕ) → ltb m n ≡ false → m < k → nat_eq k n ≡ false
greater_is_other k m n h b = grind (arith, nat_tests, common_steps)

-- the link that the search ends at is that of the number
pub found_at_start : (n : ℕ) (ls : List Link) (i : ℕ) (l : Link) → IsStart n ls i → i < length ls → l ≡ get_or ls i l → is_link_of n l ≡ true → i ≡ position_or_len (is_link_of n) ls
found_at_start n ls i l start within g e =
    sym (position_or_len_is (is_link_of n) ls i l (omega arith) (λ k b. less_is_other (get_or ls k l).bsc n (start.0 k l (omega arith) b)) (λ b. ap (is_link_of n) (sym g) ∙ e))

-- one that is that of the number is the one that a search ends at, since no other is
pub found_there : (n : ℕ) (ls : List Link) (i : ℕ) (l : Link) → is_ascending link_lt ls ≡ true → i < length ls → l ≡ get_or ls i l → is_link_of n l ≡ true → i ≡ position_or_len (is_link_of n) ls
found_there n ls i l o within g e =
    sym (position_or_len_is (is_link_of n) ls i l (omega arith) other (λ b. ap (is_link_of n) (sym g) ∙ e))
  where
    other : (k : ℕ) → k < i → is_link_of n (get_or ls k l) ≡ false
    other k b =
        let less : (get_or ls k l).bsc < (get_or ls i l).bsc = number_below ls k i l o b within in
        let is : (get_or ls i l).bsc ≡ l.bsc = ap (λ (x : Link). x.bsc) (sym g) in
        grind (arith, nat_tests, common_steps, less, is, e)

-- it is that of another, and so is each of the links
pub none_at_start : (n : ℕ) (ls : List Link) (i : ℕ) (l : Link) → is_ascending link_lt ls ≡ true → IsStart n ls i → i < length ls → l ≡ get_or ls i l → is_link_of n l ≡ false → length ls ≡ position_or_len (is_link_of n) ls
none_at_start n ls i l o start within g e =
    sym (position_or_len_is (is_link_of n) ls (length ls) l (omega arith) each (λ b. absurd (omega arith)))
  where
    behind : (k : ℕ) → i ≤ k → k < length ls → is_link_of n (get_or ls k l) ≡ false
    behind k low high =
        elim (cases_lt i k) [
          | inl after ↦ greater_is_other (get_or ls k l).bsc (get_or ls i l).bsc n (start.1 i l (omega arith) within) (number_below ls i k l o after high)
          | inr last ↦
              let same : k ≡ i = omega arith in
              ap (λ (j : ℕ). is_link_of n (get_or ls j l)) same ∙ ap (is_link_of n) (sym g) ∙ e
        ]

    each : (k : ℕ) → k < length ls → is_link_of n (get_or ls k l) ≡ false
    each k b =
        elim (cases_lt k i) [
          | inl before ↦ less_is_other (get_or ls k l).bsc n (start.0 k l (omega arith) before)
          | inr from ↦ behind k from b
        ]

-- it ends past the last, and each of the links is of a BSC of a lesser number
pub none_past_last : (n : ℕ) (ls : List Link) (i : ℕ) → IsStart n ls i → length ls ≤ i → length ls ≡ position_or_len (is_link_of n) ls
none_past_last n [] i start h = refl
none_past_last n (l ∷ ls) i start h =
    sym (position_or_len_is (is_link_of n) (l ∷ ls) (length (l ∷ ls)) l (omega arith) (λ k b. less_is_other (get_or (l ∷ ls) k l).bsc n (start.0 k l (omega arith) (omega arith))) (λ b. absurd (omega arith)))

-- A link is put where the one of its BSC stands.

-- of links in order none after one of a BSC is of that BSC
none_after : (b : ℕ) (l : Link) (ls : List Link) → is_link_of b l ≡ true → list_all (link_lt l) ls ≡ true → list_any (is_link_of b) ls ≡ false
none_after b l [] e h = refl
none_after b l (k ∷ ks) e h =
    let parts = and_parts (link_lt l k) (list_all (link_lt l) ks) h in
    or_from (is_link_of b k) (list_any (is_link_of b) ks) (ltb_other b l.bsc k.bsc e parts.0) (none_after b l ks e parts.1)

not_before : (x y z : ℕ) → z ≡ y → ltb y x ≡ true → ltb x z ≡ false
not_before x y z e h = grind (arith, nat_tests, common_steps)

-- before links that come after one of its BSC it stands first
put_first : (new l : Link) (ls : List Link) → new.bsc ≡ l.bsc → list_all (link_lt l) ls ≡ true → inserted link_lt new ls ≡ new ∷ ls
put_first new l [] n h = refl
put_first new l (k ∷ ks) n h =
    ap (λ t. if t then k ∷ inserted link_lt new ks else new ∷ k ∷ ks) (not_before k.bsc l.bsc new.bsc n (and_parts (link_lt l k) (list_all (link_lt l) ks) h).0)

put_at : (b : ℕ) (ls : List Link) (i : ℕ) (d new : Link) → is_ascending link_lt ls ≡ true → i < length ls → is_link_of b (get_or ls i d) ≡ true → new.bsc ≡ b → set ls i new ≡ inserted link_lt new (without_link b ls)
put_at b [] i d new o h e n = absurd (omega arith)
put_at b (l ∷ ls) zero d new o h e n =
    let order = and_parts (list_all (link_lt l) ls) (is_ascending link_lt ls) o in
    let same : new.bsc ≡ l.bsc = n ∙ sym (eqb-true l.bsc b e) in
    let left : inserted link_lt new (without_link b (l ∷ ls)) ≡ inserted link_lt new (without_link b ls) = ap (λ t. inserted link_lt new (if not t then l ∷ without_link b ls else without_link b ls)) e in
    sym (left ∙ ap (inserted link_lt new) (kept_whole (is_link_of b) ls (none_after b l ls e order.0)) ∙ put_first new l ls same order.0)
put_at b (l ∷ ls) (suc i) d new o h e n =
    let order = and_parts (list_all (link_lt l) ls) (is_ascending link_lt ls) o in
    let within : i < length ls = omega arith in
    let later : ltb l.bsc (get_or ls i d).bsc ≡ true = at_place (link_lt l) ls i d within order.0 in
    let less : ltb l.bsc b ≡ true = ap (ltb l.bsc) (sym (eqb-true (get_or ls i d).bsc b e)) ∙ later in
    let first : link_lt l new ≡ true = ap (ltb l.bsc) n ∙ less in
    let left : inserted link_lt new (without_link b (l ∷ ls)) ≡ inserted link_lt new (l ∷ without_link b ls) = ap (λ t. inserted link_lt new (if not t then l ∷ without_link b ls else without_link b ls)) (less_is_other l.bsc b less) in
    let behind : inserted link_lt new (l ∷ without_link b ls) ≡ l ∷ inserted link_lt new (without_link b ls) = ap (λ t. if t then l ∷ inserted link_lt new (without_link b ls) else new ∷ l ∷ without_link b ls) first in
    ap (λ ks. l ∷ ks) (put_at b ls i d new order.1 within e n) ∙ sym (left ∙ behind)

pub put_there : (ls : List Link) (i : ℕ) (new : Link) → is_ascending link_lt ls ≡ true → i ≡ position_or_len (is_link_of new.bsc) ls → i < length ls → set ls i new ≡ inserted link_lt new (without_link new.bsc ls)
put_there ls i new o p h =
    let within : position_or_len (is_link_of new.bsc) ls < length ls = omega arith in
    let is : is_link_of new.bsc (get_or ls i new) ≡ true = ap (λ (k : ℕ). is_link_of new.bsc (get_or ls k new)) p ∙ passes_at_first (is_link_of new.bsc) ls new within in
    put_at new.bsc ls i new new o h is refl

-- A link is put where none of its BSC stands.

none_left_out : (b : ℕ) (ls : List Link) → link_in ls b ≡ None → without_link b ls ≡ ls
none_left_out b [] h = refl
none_left_out b (l ∷ ls) h = step (is_link_of b l) h (none_left_out b ls)
  where
    step : (t : Bool) → cond t (Some l) (link_in ls b) ≡ None → (link_in ls b ≡ None → without_link b ls ≡ ls) → cond (not t) (l ∷ without_link b ls) (without_link b ls) ≡ l ∷ ls
    step true e rest = cc
    step false e rest = ap (λ ks. l ∷ ks) (rest e)

pub none_there : (b : ℕ) (ls : List Link) (i : ℕ) → i ≡ position_or_len (is_link_of b) ls → length ls ≤ i → link_in ls b ≡ None
none_there b ls i p h = find_at (is_link_of b) ls ∙ slice_get_past ls (position_or_len (is_link_of b) ls) (omega arith)

pub put_new : (ls : List Link) (i : ℕ) (new : Link) → i ≡ position_or_len (is_link_of new.bsc) ls → length ls ≤ i → inserted link_lt new ls ≡ inserted link_lt new (without_link new.bsc ls)
put_new ls i new p h = ap (inserted link_lt new) (sym (none_left_out new.bsc ls (none_there new.bsc ls i p h)))

-- The links stand in order then.

none_left : (b : ℕ) (ls : List Link) → list_any (is_link_of b) (without_link b ls) ≡ false
none_left b ls = any_without (is_link_of b) (is_link_of b) true (λ l e. e) (λ l e f. sym f ∙ e) ls

pub put_ascends : (new : Link) (ls : List Link) → is_ascending link_lt ls ≡ true → is_ascending link_lt (inserted link_lt new (without_link new.bsc ls)) ≡ true
put_ascends new ls o =
    ascending_inserted link_lt (λ x y z. ltb_follows x.bsc y.bsc z.bsc) new (without_link new.bsc ls)
    (all_from_none (is_link_of new.bsc) (λ l. link_lt l new || link_lt new l) (λ l. ltb_apart new.bsc l.bsc) (without_link new.bsc ls) (none_left new.bsc ls))
    (ascending_filter link_lt (λ l. not (is_link_of new.bsc l)) ls o)

pub taken_ascends : (b : ℕ) (ls : List Link) → is_ascending link_lt ls ≡ true → is_ascending link_lt (without_link b ls) ≡ true
taken_ascends b ls o = ascending_filter link_lt (λ l. not (is_link_of b l)) ls o
