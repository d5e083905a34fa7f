-- A desk that keeps one more receipt, and one that lets go of its first ones.
use Rattle.std.proofs.Common.{◌≡◌, ℕ, suc, ◌+◌, ◌-◌, ◌<◌, ◌≤◌, List, [], ◌∷◌, ◌++◌, length, take, drop, get_or, refl, sym, ap, ap₂, ◌∙◌, subst, arith, All, IsTrue, ◌↔◌, nat_le}
use Rattle.std.proofs.lemmas.List.{append_assoc, drop_at, length-append, take-append-drop, take_at}
use Rattle.std.proofs.lemmas.List.Elements.{All-cons, All-head, All-nil, All-tail, All-weaker}
use Rattle.std.proofs.lemmas.Bool.Decides.{nat_tests}
use Rattle.centre_events.specs.Verdict.{last_position}
use Rattle.office.specs.Desks.{AreReleased, AreRising, BeginsAbove, DeskState, IsDesk, IsReleased}
use Rattle.office.specs.Receipts.{last_place, last_place_or}
use Rattle.office.specs.declared.receipt.Receipt.{Receipt}
use Rattle.office.proofs.ReceiptLemmas.{last_more}

-- Places that rise.

rising_more : (n : ℕ) (rs : List Receipt) (r : Receipt) → AreRising n rs → last_place_or n rs < r.place → AreRising n (rs ++ r ∷ [])
rising_more n [] r is above = (above, tt)
rising_more n (x ∷ rs) r is above = (is.0, rising_more x.place rs r is.1 above)

rising_front : (n : ℕ) (xs ys : List Receipt) → AreRising n (xs ++ ys) → AreRising n xs
rising_front n [] ys is = tt
rising_front n (x ∷ xs) ys is = (is.0, rising_front x.place xs ys is.1)

-- there are no more receipts than places
rising_count : (n : ℕ) (rs : List Receipt) → AreRising n rs → n + length rs ≤ last_place_or n rs
rising_count n [] is = omega arith
rising_count n (x ∷ rs) is =
    let above = is.0 in
    let rest = rising_count x.place rs is.1 in
    omega (arith, above, rest)

-- the last place is that of the last receipt, which no other's is above
rising_below : (n : ℕ) (rs : List Receipt) → AreRising n rs → All (λ (r : Receipt). r.place ≤ last_place_or n rs) rs
rising_below n [] is = All-nil (λ (r : Receipt). r.place ≤ n)
rising_below n (x ∷ rs) is =
    let rest = rising_count x.place rs is.1 in
    All-cons (λ (r : Receipt). r.place ≤ last_place_or x.place rs) x rs (omega (arith, rest)) (rising_below x.place rs is.1)

pub desk_places : (last parts amount : ℕ) (rs : List Receipt) → IsDesk last rs parts amount → All (λ (r : Receipt). r.place ≤ last_place rs) rs
desk_places last parts amount rs is = rising_below 0 rs is.rising

-- so a desk's receipts can be counted by their last place
pub desk_count : (last parts amount : ℕ) (gone held : List Receipt) → IsDesk last (gone ++ held) parts amount → length gone + length held ≤ 18446744073709551615
desk_count last parts amount gone held is =
    let count = rising_count 0 (gone ++ held) is.rising in
    let fits : last ≤ 18446744073709551615 = is.last_fits in
    omega (arith, count, is.last_is, fits, length-append gone held)

-- One more receipt.

pub desk_kept : (last place : ℕ) (gone old new : List Receipt) (parts parts' amount amount' : ℕ) (r : Receipt) → IsDesk last (gone ++ old) parts amount → new ≡ old ++ r ∷ [] → parts' ≡ parts → amount' ≡ amount + 1 → place ≡ r.place → place ≤ last_position → last_place (gone ++ old) < place → IsDesk place (gone ++ new) parts' amount'
desk_kept last place gone old new parts parts' amount amount' r is items same more at fits later =
    let all : gone ++ new ≡ (gone ++ old) ++ r ∷ [] = ap (λ xs. gone ++ xs) items ∙ sym (append_assoc gone old (r ∷ [])) in
    let here : last_place (gone ++ new) ≡ place = ap last_place all ∙ last_more 0 (gone ++ old) r ∙ sym at in
    record {
      last_is = sym here;
      last_fits = fits;
      one_part = same ∙ is.one_part;
      counted = omega (arith, more, is.counted, ap length all, length-append (gone ++ old) (r ∷ []));
      rising = subst (AreRising 0) (sym all) (rising_more 0 (gone ++ old) r is.rising (subst (λ n. last_place (gone ++ old) < n) at later));
    }

-- Receipts that are let go.

last_at : (n : ℕ) (rs : List Receipt) (d : Receipt) → 0 < length rs → last_place_or n rs ≡ (get_or rs (length rs - 1) d).place
last_at n [] d some = absurd (omega (arith, some))
last_at n (x ∷ []) d some = refl
last_at n (x ∷ y ∷ ys) d some =
    let at : length (x ∷ y ∷ ys) - 1 ≡ suc (length (y ∷ ys) - 1) = omega arith in
    last_at x.place (y ∷ ys) d (omega arith) ∙ sym (ap (λ k. (get_or (x ∷ y ∷ ys) k d).place) at)

last_over : (n : ℕ) (xs ys : List Receipt) (d : Receipt) → 0 < length ys → last_place_or n (xs ++ ys) ≡ (get_or ys (length ys - 1) d).place
last_over n [] ys d some = last_at n ys d some
last_over n (x ∷ xs) ys d some = last_over x.place xs ys d some

-- the receipts are the same, however many of them were let go
pub whole_is : (gone gone' held held' front : List Receipt) → gone' ≡ gone ++ front → front ++ held' ≡ held → gone' ++ held' ≡ gone ++ held
whole_is gone gone' held held' front more parts = ap (λ xs. xs ++ held') more ∙ append_assoc gone front held' ∙ ap (λ xs. gone ++ xs) parts

pub released_more : (count count' last last' n : ℕ) (gone gone' front : List Receipt) (r : Receipt) → AreReleased count last gone → gone' ≡ gone ++ front → count' ≡ count + n → n ≡ length front → 0 < n → r ≡ get_or front (n - 1) r → last' ≡ r.place → AreReleased count' last' gone'
released_more count count' last last' n gone gone' front r is more counted long some at last_is = record {
  counted = omega (arith, counted, long, is.counted, ap length more, length-append gone front);
  last_is = last_is ∙ ap (λ (x : Receipt). x.place) (subst (λ k. r ≡ get_or front (k - 1) r) long at) ∙ sym (last_over 0 gone front r (subst (λ k. 0 < k) long some)) ∙ sym (ap last_place more);
}

pub released_if : (place number spare spare' share n : ℕ) (gone gone' held held' front : List Receipt) → gone' ≡ gone ++ front → front ≡ take n held → held' ≡ drop n held → All (λ (r : Receipt). r.place ≤ place) (take n held) → BeginsAbove place (drop n held) → IsReleased place (record { number = number; receipts = gone ++ held; released = length gone; spare = spare; share = share }) (record { number = number; receipts = gone' ++ held'; released = length gone'; spare = spare'; share = share })
released_if place number spare spare' share n gone gone' held held' front more front_is held_is places above =
    let parts : front ++ held' ≡ held = ap₂ (λ xs ys. xs ++ ys) front_is held_is ∙ take-append-drop n held in
    let whole : gone' ++ held' ≡ gone ++ held = whole_is gone gone' held held' front more parts in
    let now : take (length gone') (gone ++ held) ≡ gone' = ap (take (length gone')) (sym whole) ∙ take_at gone' held' (length gone') refl in
    let let_go : drop (length gone) (take (length gone') (gone ++ held)) ≡ take n held = ap (drop (length gone)) (now ∙ more) ∙ drop_at gone front (length gone) refl ∙ front_is in
    let left : drop (length gone') (gone ++ held) ≡ drop n held = ap (drop (length gone')) (sym whole) ∙ drop_at gone' held' (length gone') refl ∙ held_is in
    record {
      same = ap (λ (rs : List Receipt). let d : DeskState = record { number = number; receipts = rs; released = length gone'; spare = spare'; share = share } in d) whole;
      more = omega (arith, ap length more, length-append gone front);
      places = subst (All (λ (r : Receipt). r.place ≤ place)) (sym let_go) places;
      all = subst (BeginsAbove place) (sym left) above;
    }

-- all places of the receipts that were let go are within a bound where the last is
pub released_within : (last parts amount count released_last place : ℕ) (gone held : List Receipt) → IsDesk last (gone ++ held) parts amount → AreReleased count released_last gone → released_last ≤ place → All (λ (r : Receipt). r.place ≤ place) gone
released_within last parts amount count released_last place gone held is released within =
    let below = rising_below 0 gone (rising_front 0 gone held is.rising) in
    All-weaker (λ (r : Receipt). r.place ≤ last_place gone) (λ (r : Receipt). r.place ≤ place) (λ r le. omega (arith, le, within, released.last_is)) gone below

last_within : (n place : ℕ) (rs : List Receipt) → n ≤ place → All (λ (r : Receipt). r.place ≤ place) rs → last_place_or n rs ≤ place
last_within n place [] here all = here
last_within n place (x ∷ rs) here all = last_within x.place place rs (All-head (λ (r : Receipt). r.place ≤ place) x rs all) (All-tail (λ (r : Receipt). r.place ≤ place) x rs all)

-- and only there
pub released_iff : (last parts amount count released_last place : ℕ) (gone held : List Receipt) → IsDesk last (gone ++ held) parts amount → AreReleased count released_last gone → IsTrue (nat_le released_last place) ↔ All (λ (r : Receipt). r.place ≤ place) (take (length gone) (gone ++ held))
released_iff last parts amount count released_last place gone held is released =
    let front : take (length gone) (gone ++ held) ≡ gone = take_at gone held (length gone) refl in (
      λ t. subst (All (λ (r : Receipt). r.place ≤ place)) (sym front) (released_within last parts amount count released_last place gone held is released (grind (arith, nat_tests, t))),
      λ all.
          (let within : last_place gone ≤ place = last_within 0 place gone (omega arith) (subst (All (λ (r : Receipt). r.place ≤ place)) front all) in
          let at = released.last_is in
          grind (arith, nat_tests, within, at)),
    )
