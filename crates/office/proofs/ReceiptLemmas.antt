-- The receipts of a desk after one more entry, and where their places lie.
use Rattle.std.proofs.Common.{◌≡◌, ℕ, ◌+◌, ◌<◌, ◌≤◌, ◌==◌, Bool, true, false, List, [], ◌∷◌, ◌++◌, length, refl, sym, ap, ◌∙◌, arith, All, if◌then◌else◌, true≢false, append-nil}
use Rattle.std.proofs.lemmas.Bool.Decides.{nat_tests}
use Rattle.std.proofs.lemmas.List.Elements.{All-head, All-tail}
use Rattle.centre_events.specs.declared.entry.Entry.{Entry}
use Rattle.office.specs.Helds.{IsByOpened}
use Rattle.office.specs.Receipts.{receipt_of, receipts_from, receipts_of, last_place, last_place_or}
use Rattle.office.specs.declared.receipt.Receipt.{Receipt}

-- one thing more or not, before two lists that are joined
if_append : {X : Type 0} (b : Bool) (x : X) (whole front back : List X) → whole ≡ front ++ back → (if b then x ∷ whole else whole) ≡ (if b then x ∷ front else front) ++ back
if_append true x whole front back is = ap (λ xs. x ∷ xs) is
if_append false x whole front back is = is

-- the receipts of the desk for entries and then others are those for the ones and then those for the others
pub receipts_parted : (desk n : ℕ) (xs ys : List Entry) → receipts_from desk n (xs ++ ys) ≡ receipts_from desk n xs ++ receipts_from desk (n + length xs) ys
receipts_parted desk n [] ys =
    let here : n ≡ n + 0 = omega arith in
    ap (λ k. receipts_from desk k ys) here
receipts_parted desk n (x ∷ xs) ys =
    let here : n + 1 + length xs ≡ n + length (x ∷ xs) = omega arith in
    if_append (x.desk == desk) (receipt_of (n + 1) x) (receipts_from desk (n + 1) (xs ++ ys)) (receipts_from desk (n + 1) xs) (receipts_from desk (n + length (x ∷ xs)) ys)
    (receipts_parted desk (n + 1) xs ys ∙ ap (λ k. receipts_from desk (n + 1) xs ++ receipts_from desk k ys) here)

-- the same where the first of the entries have been folded
pub receipts_over : (desk : ℕ) (folded journal : List Entry) → receipts_of desk (folded ++ journal) ≡ receipts_of desk folded ++ receipts_from desk (length folded) journal
receipts_over desk folded journal =
    let here : 0 + length folded ≡ length folded = omega arith in
    receipts_parted desk 0 folded journal ∙ ap (λ k. receipts_of desk folded ++ receipts_from desk k journal) here

if_one : {X : Type 0} (b : Bool) (x : X) → b ≡ true → (if b then x ∷ [] else []) ≡ x ∷ []
if_one true x is = refl
if_one false x is = absurd (true≢false (sym is))

pub if_none : {X : Type 0} (b : Bool) (x : X) (xs : List X) → b ≡ false → xs ≡ [] → (if b then x ∷ xs else xs) ≡ []
if_none true x xs is none = absurd (true≢false is)
if_none false x xs is none = none

-- after one more entry of the desk
pub receipts_own : (desk : ℕ) (h : List Entry) (e : Entry) → e.desk ≡ desk → receipts_of desk (h ++ e ∷ []) ≡ receipts_of desk h ++ receipt_of (length h + 1) e ∷ []
receipts_own desk h e own =
    let is : (e.desk == desk) ≡ true = grind (arith, nat_tests, own) in
    receipts_over desk h (e ∷ []) ∙ ap (λ rs. receipts_of desk h ++ rs) (if_one (e.desk == desk) (receipt_of (length h + 1) e) is)

-- after one more entry of another desk
pub receipts_other : (desk : ℕ) (h : List Entry) (e : Entry) → (e.desk == desk) ≡ false → receipts_of desk (h ++ e ∷ []) ≡ receipts_of desk h
receipts_other desk h e other =
    receipts_over desk h (e ∷ []) ∙ ap (λ rs. receipts_of desk h ++ rs) (if_none (e.desk == desk) (receipt_of (length h + 1) e) [] other refl) ∙ append-nil (receipts_of desk h)

-- a desk that isn't among those opened has no receipts
pub receipts_none : (desk n opened : ℕ) (h : List Entry) → All (IsByOpened opened) h → opened < desk → receipts_from desk n h ≡ []
receipts_none desk n opened [] by after = refl
receipts_none desk n opened (x ∷ h) by after =
    let first : IsByOpened opened x = All-head (IsByOpened opened) x h by in
    let within : x.desk ≤ opened = first.1 in
    let other : (x.desk == desk) ≡ false = grind (arith, nat_tests, within, after) in
    if_none (x.desk == desk) (receipt_of (n + 1) x) (receipts_from desk (n + 1) h) other (receipts_none desk (n + 1) opened h (All-tail (IsByOpened opened) x h by) after)

-- the last place after one more receipt is that receipt's
pub last_more : (n : ℕ) (rs : List Receipt) (r : Receipt) → last_place_or n (rs ++ r ∷ []) ≡ r.place
last_more n [] r = refl
last_more n (x ∷ rs) r = last_more x.place rs r

last_if : (b : Bool) (m k : ℕ) (r : Receipt) (rs : List Receipt) → last_place_or r.place rs ≤ k → last_place_or m rs ≤ k → last_place_or m (if b then r ∷ rs else rs) ≤ k
last_if true m k r rs own other = own
last_if false m k r rs own other = other

-- no last place is above the number of entries
last_within : (desk n m : ℕ) (h : List Entry) → m ≤ n → last_place_or m (receipts_from desk n h) ≤ n + length h
last_within desk n m [] le = omega (arith, le)
last_within desk n m (x ∷ h) le =
    let own = last_within desk (n + 1) (n + 1) h (omega arith) in
    let other = last_within desk (n + 1) m h (omega (arith, le)) in
    last_if (x.desk == desk) m (n + length (x ∷ h)) (receipt_of (n + 1) x) (receipts_from desk (n + 1) h) (omega (arith, own)) (omega (arith, other))

-- the last place of a desk is not above the number of entries
pub last_below : (desk : ℕ) (h : List Entry) → last_place (receipts_of desk h) ≤ length h
last_below desk h = let w = last_within desk 0 0 h (omega arith) in omega (arith, w)
