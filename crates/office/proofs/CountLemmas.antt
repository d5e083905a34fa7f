-- Where no desk is missing, the desks that are handed in have no fewer receipts, all together, than there are entries.
use Rattle.std.proofs.Common.{◌≡◌, ℕ, ◌+◌, ◌<◌, ◌≤◌, ◌==◌, Bool, true, false, ◌||◌, List, [], ◌∷◌, ◌++◌, length, refl, sym, arith, All, Any, if◌then◌else◌, true≢false, subst}
use Rattle.std.proofs.lemmas.Bool.Decides.{nat_tests}
use Rattle.std.proofs.lemmas.List.Elements.{All-head, All-tail, All-weaker}
use Rattle.std.proofs.lemmas.List.Folds.{list_any-from_Any}
use Rattle.std.specs.List.{list_any}
use Rattle.common.specs.Sums.{sum_of}
use Rattle.office.specs.Desks.{DeskState}
use Rattle.office.specs.Helds.{IsByOpened}
use Rattle.office.specs.Receipts.{receipt_of, receipts_from}
use Rattle.office.specs.Shuffles.{HasItsEntries, receipt_count}
use Rattle.centre_events.specs.declared.entry.Entry.{Entry}
use Rattle.office.specs.declared.receipt.Receipt.{Receipt}
use Rattle.office.proofs.ShuffleLemmas.{has_count}

-- how many entries the desks have among these, all together
abbrev counted : List DeskState → ℕ → List Entry → ℕ
counted desks n h = sum_of (λ (d : DeskState). length (receipts_from d.number n h)) desks

-- a desk of the entry's number is there
abbrev is_there : List DeskState → Entry → Bool
is_there desks e = list_any (λ (d : DeskState). e.desk == d.number) desks

no_fewer_if : (b : Bool) (r : Receipt) (rs : List Receipt) → length rs ≤ length (if b then r ∷ rs else rs)
no_fewer_if true r rs = omega arith
no_fewer_if false r rs = omega arith

-- with one entry more there are no fewer
no_fewer : (desks : List DeskState) (n : ℕ) (e : Entry) (h : List Entry) → counted desks (n + 1) h ≤ counted desks n (e ∷ h)
no_fewer [] n e h = omega arith
no_fewer (d ∷ ds) n e h =
    let here : length (receipts_from d.number (n + 1) h) ≤ length (receipts_from d.number n (e ∷ h)) = no_fewer_if (e.desk == d.number) (receipt_of (n + 1) e) (receipts_from d.number (n + 1) h) in
    let rest : counted ds (n + 1) h ≤ counted ds n (e ∷ h) = no_fewer ds n e h in
    omega (arith, here, rest)

-- and one more where the entry's desk is there
one_more : (desks : List DeskState) (n : ℕ) (e : Entry) (h : List Entry) → is_there desks e ≡ true → counted desks (n + 1) h + 1 ≤ counted desks n (e ∷ h)
one_more [] n e h there = absurd (true≢false (sym there))
one_more (d ∷ ds) n e h there = step (one_more ds n e h) (no_fewer ds n e h) (e.desk == d.number) refl
  where
    step : (is_there ds e ≡ true → counted ds (n + 1) h + 1 ≤ counted ds n (e ∷ h)) → counted ds (n + 1) h ≤ counted ds n (e ∷ h) → (t : Bool) → (e.desk == d.number) ≡ t → counted (d ∷ ds) (n + 1) h + 1 ≤ counted (d ∷ ds) n (e ∷ h)
    step more rest true own = rw own (omega (arith, rest))
    step more rest false own = let further : counted ds (n + 1) h + 1 ≤ counted ds n (e ∷ h) = more (subst (λ t. (t || is_there ds e) ≡ true) own there) in rw own (omega (arith, further))

-- each entry is one of a desk that is there
at_least : (desks : List DeskState) (n : ℕ) (h : List Entry) → All (λ e. is_there desks e ≡ true) h → length h ≤ counted desks n h
at_least desks n [] there = omega arith
at_least desks n (e ∷ h) there =
    let here : counted desks (n + 1) h + 1 ≤ counted desks n (e ∷ h) = one_more desks n e h (All-head (λ x. is_there desks x ≡ true) e h there) in
    let rest : length h ≤ counted desks (n + 1) h = at_least desks (n + 1) h (All-tail (λ x. is_there desks x ≡ true) e h there) in
    omega (arith, here, rest)

-- desks that have their entries have as many receipts
as_many : (folded journal : List Entry) (desks : List DeskState) → All (HasItsEntries folded journal) desks → counted desks 0 (folded ++ journal) ≡ receipt_count desks
as_many folded journal [] have = refl
as_many folded journal (d ∷ ds) have =
    let here : length d.receipts ≡ length (receipts_from d.number 0 (folded ++ journal)) = has_count folded journal d (All-head (HasItsEntries folded journal) d ds have) in
    let rest : counted ds 0 (folded ++ journal) ≡ receipt_count ds = as_many folded journal ds (All-tail (HasItsEntries folded journal) d ds have) in
    omega (arith, here, rest)

-- with the book's total the desks have exactly as many receipts as there are entries
pub exactly_counted : (opened total : ℕ) (folded journal : List Entry) (desks : List DeskState) → All (IsByOpened opened) (folded ++ journal) → All (HasItsEntries folded journal) desks → ((n : ℕ) → 0 < n → n ≤ opened → Any (λ (d : DeskState). d.number ≡ n) desks) → total ≡ length (folded ++ journal) → receipt_count desks ≤ total → length (folded ++ journal) ≡ receipt_count desks
exactly_counted opened total folded journal desks by have every is most =
    let found : (e : Entry) → IsByOpened opened e → is_there desks e ≡ true = λ e from.
    (let some = every e.desk from.0 from.1 in
    let own : some.1.number ≡ e.desk = some.4 in
    list_any-from_Any (λ (d : DeskState). e.desk == d.number) desks (some.0, some.1, some.2, some.3, grind (arith, nat_tests, own))) in
    let least : length (folded ++ journal) ≤ counted desks 0 (folded ++ journal) = at_least desks 0 (folded ++ journal) (All-weaker (IsByOpened opened) (λ e. is_there desks e ≡ true) found (folded ++ journal) by) in
    let same : counted desks 0 (folded ++ journal) ≡ receipt_count desks = as_many folded journal desks have in
    omega (arith, least, same, is, most)
