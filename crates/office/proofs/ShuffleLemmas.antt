-- Receipts that are entries of a desk, at places that rise, and as many as the desk has entries, are all of them.
use Rattle.std.proofs.Common.{◌≡◌, ◌≢◌, ℕ, suc, ◌+◌, ◌-◌, ◌<◌, ◌≤◌, ◌==◌, Bool, true, false, List, [], ◌∷◌, ◌++◌, Some, Result, Ok, Err, IfOk, length, slice_get, get_or, take, drop, unwrap_or, refl, sym, ap, ◌∙◌, subst, arith, All, Any, IsTrue, ◌↔◌, ◌⊎◌, ⊎_elim, if◌then◌else◌}
use Rattle.std.proofs.lemmas.Bool.{cases_eq}
use Rattle.std.proofs.lemmas.Bool.Decides.{nat_tests}
use Rattle.std.proofs.lemmas.List.{drop-drop, drop-take, drop_at, length-append, length-drop, length-take-le, nil_from_length, take-append-drop, take-take, take_at}
use Rattle.std.proofs.lemmas.List.Elements.{All-append, All-drop, All-head, All-tail, All-take}
use Rattle.std.proofs.Math.Seq.{take-add}
use Rattle.std.proofs.lemmas.Option.{none-some}
use Rattle.centre_past.specs.Legal.{Known}
use Rattle.centre_events.specs.declared.entry.Entry.{Entry}
use Rattle.office.specs.Desks.{DeskState}
use Rattle.office.specs.Helds.{AreRowsOf, IsByOpened, entry_of, no_row}
use Rattle.office.specs.Receipts.{receipt_of, receipts_from, receipts_of}
use Rattle.office.specs.Shuffles.{AreEntriesOf, AreSplit, HasItsEntries, IsEntryOf, IsFault, IsSettled, IsShuffle, IsUnsettled}
use Rattle.office.specs.declared.fault.Fault.{Fault}
use Rattle.office.specs.declared.receipt.Receipt.{Receipt}
use Rattle.office.specs.declared.row.Row.{Row}
use Rattle.office.proofs.ReceiptLemmas.{if_none, receipts_none, receipts_over}

-- a place above the first entry's is one of an entry after it
entry_beyond : (desk n : ℕ) (x : Entry) (es : List Entry) (r : Receipt) → n + 1 < r.place → IsEntryOf desk n (x ∷ es) r → IsEntryOf desk (n + 1) es r
entry_beyond desk n x es r later is =
    let at : r.place - n - 1 ≡ suc (r.place - (n + 1) - 1) = omega (arith, later) in
    (later, sym (ap (λ k. slice_get (x ∷ es) k) at) ∙ is.1)

entry_back : (desk n : ℕ) (x : Entry) (es : List Entry) (r : Receipt) → IsEntryOf desk (n + 1) es r → IsEntryOf desk n (x ∷ es) r
entry_back desk n x es r is =
    let later = is.0 in
    let at : r.place - n - 1 ≡ suc (r.place - (n + 1) - 1) = omega (arith, later) in
    (omega (arith, later), ap (λ k. slice_get (x ∷ es) k) at ∙ is.1)

entries_beyond : (desk n : ℕ) (x : Entry) (es : List Entry) (before : ℕ) (rs : List Receipt) → n + 1 ≤ before → AreEntriesOf desk n (x ∷ es) before rs → AreEntriesOf desk (n + 1) es before rs
entries_beyond desk n x es before [] later are = are
entries_beyond desk n x es before (r ∷ rs) later are =
    let above = are.0.0 in
    ((above, entry_beyond desk n x es r (omega (arith, later, above)) are.0.1), entries_beyond desk n x es r.place rs (omega (arith, later, above)) are.1)

entries_back : (desk n : ℕ) (x : Entry) (es : List Entry) (before : ℕ) (rs : List Receipt) → AreEntriesOf desk (n + 1) es before rs → AreEntriesOf desk n (x ∷ es) before rs
entries_back desk n x es before [] are = are
entries_back desk n x es before (r ∷ rs) are = ((are.0.0, entry_back desk n x es r are.0.1), entries_back desk n x es r.place rs are.1)

-- above a place is above each lower one
entries_sooner : (desk n : ℕ) (es : List Entry) (before sooner : ℕ) (rs : List Receipt) → sooner ≤ before → AreEntriesOf desk n es before rs → AreEntriesOf desk n es sooner rs
entries_sooner desk n es before sooner [] le are = are
entries_sooner desk n es before sooner (r ∷ rs) le are =
    let above = are.0.0 in
    ((omega (arith, le, above), are.0.1), are.1)

entries_own_if : (b : Bool) (desk n : ℕ) (x : Entry) (es : List Entry) → (x.desk == desk) ≡ b → AreEntriesOf desk n (x ∷ es) (n + 1) (receipts_from desk (n + 1) es) → AreEntriesOf desk n (x ∷ es) n (if b then receipt_of (n + 1) x ∷ receipts_from desk (n + 1) es else receipts_from desk (n + 1) es)
entries_own_if true desk n x es own rest =
    let is : x.desk ≡ desk = grind (arith, nat_tests, own) in
    let at : n + 1 - n - 1 ≡ 0 = omega arith in
    let here : n < n + 1 = omega arith in
    ((here, (here, ap (λ k. slice_get (x ∷ es) k) at ∙ ap (λ k. Some (entry_of k x.event x.answer)) is)), rest)
entries_own_if false desk n x es other rest = entries_sooner desk n (x ∷ es) (n + 1) n (receipts_from desk (n + 1) es) (omega arith) rest

-- what a desk has as receipts are its entries
entries_own : (desk n : ℕ) (es : List Entry) → AreEntriesOf desk n es n (receipts_from desk n es)
entries_own desk n [] = tt
entries_own desk n (x ∷ es) = entries_own_if (x.desk == desk) desk n x es refl (entries_back desk n x es (n + 1) (receipts_from desk (n + 1) es) (entries_own desk (n + 1) es))

-- there are no more of them than the desk has entries, and as many are all
abbrev AreAll : List Receipt → List Receipt → Type 0
AreAll rs all = (length rs ≤ length all) × (length rs ≡ length all → all ≡ rs)

all_with : (r : Receipt) (rs all whole : List Receipt) → whole ≡ r ∷ all → AreAll rs all → AreAll (r ∷ rs) whole
all_with r rs all whole is are =
    let le = are.0 in
    let long : length whole ≡ length (r ∷ all) = ap length is in
    (omega (arith, le, long), λ same. is ∙ ap (λ xs. r ∷ xs) (are.1 (omega (arith, same, long))))

all_without : (b : Bool) (x : Receipt) (rs all : List Receipt) → AreAll rs all → AreAll rs (if b then x ∷ all else all)
all_without true x rs all are =
    let le = are.0 in
    (omega (arith, le), λ same. absurd (omega (arith, same, le)))
all_without false x rs all are = are

-- the receipt of the first entry
first_is : (desk n : ℕ) (x : Entry) (es : List Entry) (r : Receipt) → r.place ≡ n + 1 → IsEntryOf desk n (x ∷ es) r → receipts_from desk n (x ∷ es) ≡ r ∷ receipts_from desk (n + 1) es
first_is desk n x es r here is =
    let at : r.place - n - 1 ≡ 0 = omega (arith, here) in
    let entry : x ≡ entry_of desk r.event r.answer = ap (λ o. unwrap_or o x) (sym (ap (λ k. slice_get (x ∷ es) k) at) ∙ is.1) in
    let own : x.desk ≡ desk = ap (λ (e : Entry). e.desk) entry in
    let test : (x.desk == desk) ≡ true = grind (arith, nat_tests, own) in
    let receipt : receipt_of (n + 1) x ≡ r = ap (receipt_of (n + 1)) entry ∙ ap (λ k. receipt_of k (entry_of desk r.event r.answer)) (sym here) in
    ap (λ b. if b then receipt_of (n + 1) x ∷ receipts_from desk (n + 1) es else receipts_from desk (n + 1) es) test ∙ ap (λ y. y ∷ receipts_from desk (n + 1) es) receipt

all_there : (desk n : ℕ) (es : List Entry) (rs : List Receipt) → AreEntriesOf desk n es n rs → AreAll rs (receipts_from desk n es)
all_there desk n [] [] are = (omega arith, λ same. refl)
all_there desk n [] (r ∷ rs) are = absurd (none-some (entry_of desk r.event r.answer) are.0.1.1)
all_there desk n (x ∷ es) [] are = (omega arith, λ same. nil_from_length (receipts_from desk n (x ∷ es)) (sym same))
all_there desk n (x ∷ es) (r ∷ rs) are =
    let above = are.0.0 in
    let here : r.place ≡ n + 1 → AreAll (r ∷ rs) (receipts_from desk n (x ∷ es)) = λ is.
    (let rest : AreEntriesOf desk (n + 1) es (n + 1) rs = subst (λ k. AreEntriesOf desk (n + 1) es k rs) is (entries_beyond desk n x es r.place rs (omega (arith, above)) are.1) in
    all_with r rs (receipts_from desk (n + 1) es) (receipts_from desk n (x ∷ es)) (first_is desk n x es r is are.0.1) (all_there desk (n + 1) es rs rest)) in
    let beyond : r.place ≢ n + 1 → AreAll (r ∷ rs) (receipts_from desk n (x ∷ es)) = λ isnt.
    (let later : n + 1 < r.place = omega (arith, above, isnt) in
    let rest : AreEntriesOf desk (n + 1) es (n + 1) (r ∷ rs) = ((later, entry_beyond desk n x es r later are.0.1), entries_beyond desk n x es r.place rs (omega (arith, above)) are.1) in
    all_without (x.desk == desk) (receipt_of (n + 1) x) (r ∷ rs) (receipts_from desk (n + 1) es) (all_there desk (n + 1) es (r ∷ rs) rest)) in
    ⊎_elim here beyond (cases_eq r.place (n + 1))

-- entries of the desk are above those that were folded
above_folded : (desk n : ℕ) (es : List Entry) (rs : List Receipt) → AreEntriesOf desk n es 0 rs → AreEntriesOf desk n es n rs
above_folded desk n es [] are = are
above_folded desk n es (r ∷ rs) are = ((are.0.1.0, are.0.1), are.1)

-- entries of the desk, as many as it has, are all of them
all_if : (desk n : ℕ) (es : List Entry) (rs : List Receipt) → AreEntriesOf desk n es 0 rs → length rs ≡ length (receipts_from desk n es) → receipts_from desk n es ≡ rs
all_if desk n es rs are same = (all_there desk n es rs (above_folded desk n es rs are)).1 same

-- all entries of the desk are entries of the desk
own_if : (desk n : ℕ) (es : List Entry) → AreEntriesOf desk n es 0 (receipts_from desk n es)
own_if desk n es = entries_sooner desk n es n 0 (receipts_from desk n es) (omega arith) (entries_own desk n es)

-- a desk that has its entries has as many receipts as there are entries of it
pub has_count : (folded journal : List Entry) (d : DeskState) → HasItsEntries folded journal d → length d.receipts ≡ length (receipts_of d.number (folded ++ journal))
has_count folded journal d has =
    let own : length d.receipts ≡ length has.earlier + length (receipts_from d.number (length folded) journal) = ap length has.receipts ∙ length-append has.earlier (receipts_from d.number (length folded) journal) in
    let all : length (receipts_of d.number (folded ++ journal)) ≡ length (receipts_of d.number folded) + length (receipts_from d.number (length folded) journal) = ap length (receipts_over d.number folded journal) ∙ length-append (receipts_of d.number folded) (receipts_from d.number (length folded) journal) in
    omega (arith, own, all, has.counted)

-- no more of them are folded
pub folded_within : (desk : ℕ) (folded journal : List Entry) → length (receipts_of desk folded) ≤ length (receipts_of desk (folded ++ journal))
folded_within desk folded journal =
    let all : length (receipts_of desk (folded ++ journal)) ≡ length (receipts_of desk folded) + length (receipts_from desk (length folded) journal) = ap length (receipts_over desk folded journal) ∙ length-append (receipts_of desk folded) (receipts_from desk (length folded) journal) in
    omega (arith, all)

has_if : (folded journal : List Entry) (d : DeskState) (count : ℕ) → count ≡ length (receipts_of d.number folded) → length d.receipts ≡ length (receipts_of d.number (folded ++ journal)) → d.released ≤ count → AreSplit d.number (length folded) journal count d.receipts → HasItsEntries folded journal d
has_if folded journal d count folded_is same few are =
    let within : length (receipts_of d.number folded) ≤ length (receipts_of d.number (folded ++ journal)) = folded_within d.number folded journal in
    let front : length (take count d.receipts) ≡ count = length-take-le count d.receipts (omega (arith, within, same, folded_is)) in
    let back : length (drop count d.receipts) ≡ length d.receipts - count = length-drop count d.receipts in
    let all : length (receipts_of d.number (folded ++ journal)) ≡ length (receipts_of d.number folded) + length (receipts_from d.number (length folded) journal) = ap length (receipts_over d.number folded journal) ∙ length-append (receipts_of d.number folded) (receipts_from d.number (length folded) journal) in
    let rest : receipts_from d.number (length folded) journal ≡ drop count d.receipts = all_if d.number (length folded) journal (drop count d.receipts) are.1 (omega (arith, back, all, same, folded_is)) in
    record {
      earlier = take count d.receipts;
      receipts = sym (take-append-drop count d.receipts) ∙ ap (λ rs. take count d.receipts ++ rs) (sym rest);
      counted = front ∙ folded_is;
      places = are.0;
      released = omega (arith, few, front);
    }

are_if : (folded journal : List Entry) (d : DeskState) (count : ℕ) → count ≡ length (receipts_of d.number folded) → HasItsEntries folded journal d → AreSplit d.number (length folded) journal count d.receipts
are_if folded journal d count folded_is has =
    let long : count ≡ length has.earlier = folded_is ∙ sym has.counted in
    let front : take count d.receipts ≡ has.earlier = ap (take count) has.receipts ∙ take_at has.earlier (receipts_from d.number (length folded) journal) count (sym long) in
    let back : drop count d.receipts ≡ receipts_from d.number (length folded) journal = ap (drop count) has.receipts ∙ drop_at has.earlier (receipts_from d.number (length folded) journal) count (sym long) in
    (subst (All (λ (r : Receipt). r.place ≤ length folded)) (sym front) has.places, subst (AreEntriesOf d.number (length folded) journal 0) (sym back) (own_if d.number (length folded) journal))

-- Of receipts so many were let go. What is said of the first, more than these, is said of them, and of those after them.

split_over : (desk folded : ℕ) (journal : List Entry) (gone more : ℕ) (rs : List Receipt) → All (λ (r : Receipt). r.place ≤ folded) (take gone rs) → AreSplit desk folded journal more (drop gone rs) → AreSplit desk folded journal (gone + more) rs
split_over desk folded journal gone more rs first rest = (
  subst (All (λ (r : Receipt). r.place ≤ folded)) (sym (take-add gone more rs)) (All-append (λ (r : Receipt). r.place ≤ folded) (take gone rs) (take more (drop gone rs)) first rest.0),
  subst (AreEntriesOf desk folded journal 0) (drop-drop more gone rs) rest.1,
)

split_rest : (desk folded : ℕ) (journal : List Entry) (gone more : ℕ) (rs : List Receipt) → AreSplit desk folded journal (gone + more) rs → AreSplit desk folded journal more (drop gone rs)
split_rest desk folded journal gone more rs are = (
  subst (All (λ (r : Receipt). r.place ≤ folded)) (drop-take gone more rs) (All-drop (λ (r : Receipt). r.place ≤ folded) gone (take (gone + more) rs) are.0),
  subst (AreEntriesOf desk folded journal 0) (sym (drop-drop more gone rs)) are.1,
)

-- what holds of a desk that has its entries: it let go of no more receipts than it has folded entries, all of places among these
pub released_few : (folded journal : List Entry) (d : DeskState) (count : ℕ) → count ≡ length (receipts_of d.number folded) → HasItsEntries folded journal d → d.released ≤ count
released_few folded journal d count folded_is has =
    let few = has.released in
    let same = has.counted in
    omega (arith, few, same, folded_is)

pub released_folded : (folded journal : List Entry) (d : DeskState) → HasItsEntries folded journal d → All (λ (r : Receipt). r.place ≤ length folded) (take d.released d.receipts)
released_folded folded journal d has =
    let are : AreSplit d.number (length folded) journal (length (receipts_of d.number folded)) d.receipts = are_if folded journal d (length (receipts_of d.number folded)) refl has in
    subst (All (λ (r : Receipt). r.place ≤ length folded)) (take-take d.released (length (receipts_of d.number folded)) d.receipts (released_few folded journal d (length (receipts_of d.number folded)) refl has)) (All-take (λ (r : Receipt). r.place ≤ length folded) d.released (take (length (receipts_of d.number folded)) d.receipts) are.0)

-- where that holds, and there are as many receipts as entries, to look at those that are held tells whether they are the desk's entries
pub has_iff : (folded journal : List Entry) (d : DeskState) (count more : ℕ) (b : Bool) → count ≡ length (receipts_of d.number folded) → length d.receipts ≡ length (receipts_of d.number (folded ++ journal)) → d.released ≤ count → more ≡ count - d.released → All (λ (r : Receipt). r.place ≤ length folded) (take d.released d.receipts) → IsTrue b ↔ AreSplit d.number (length folded) journal more (drop d.released d.receipts) → IsTrue b ↔ HasItsEntries folded journal d
has_iff folded journal d count more b folded_is same few more_is first is =
    let whole : d.released + more ≡ count = omega (arith, few, more_is) in (
      λ t. has_if folded journal d count folded_is same few (subst (λ n. AreSplit d.number (length folded) journal n d.receipts) whole (split_over d.number (length folded) journal d.released more d.receipts first (is.0 t))),
      λ has. is.1 (split_rest d.number (length folded) journal d.released more d.receipts (subst (λ n. AreSplit d.number (length folded) journal n d.receipts) (sym whole) (are_if folded journal d count folded_is has))),
    )

-- no desk has the number 0
none_at_zero : (n opened : ℕ) (h : List Entry) → All (IsByOpened opened) h → receipts_from 0 n h ≡ []
none_at_zero n opened [] by = refl
none_at_zero n opened (x ∷ h) by =
    let first : IsByOpened opened x = All-head (IsByOpened opened) x h by in
    let above : 0 < x.desk = first.0 in
    let other : (x.desk == 0) ≡ false = grind (arith, nat_tests, above) in
    if_none (x.desk == 0) (receipt_of (n + 1) x) (receipts_from 0 (n + 1) h) other (none_at_zero (n + 1) opened h (All-tail (IsByOpened opened) x h by))

-- a desk that wasn't opened has no entries
pub count_none : (rows : List Row) (h : List Entry) (desk : ℕ) → (desk ≡ 0) ⊎ (length rows < desk) → AreRowsOf rows h → 0 ≡ length (receipts_of desk h)
count_none rows h desk out are =
    let zero_is : desk ≡ 0 → receipts_of desk h ≡ [] = λ is. ap (λ d. receipts_of d h) is ∙ none_at_zero 0 (length rows) h are.opened in
    let beyond : length rows < desk → receipts_of desk h ≡ [] = λ after. receipts_none desk 0 (length rows) h are.opened after in
    sym (ap length (⊎_elim zero_is beyond out))

-- a desk that was opened has as many entries as its row says
pub count_is : (rows : List Row) (h : List Entry) (desk : ℕ) → 0 < desk → desk ≤ length rows → AreRowsOf rows h → (get_or rows (desk - 1) no_row).entries ≡ length (receipts_of desk h)
count_is rows h desk first last are =
    let back : desk - 1 + 1 ≡ desk = omega (arith, first) in
    ap (λ (r : Row). r.entries) (are.fit (desk - 1) (omega (arith, first, last))) ∙ ap (λ k. length (receipts_of k h)) back

-- the desks of all lower numbers, and the desk of this number
pub there_more : (desks : List DeskState) (number : ℕ) → ((n : ℕ) → 0 < n → n < number → Any (λ (d : DeskState). d.number ≡ n) desks) → Any (λ (d : DeskState). d.number ≡ number) desks → (n : ℕ) → 0 < n → n < number + 1 → Any (λ (d : DeskState). d.number ≡ n) desks
there_more desks number below here n first last =
    ⊎_elim (λ is. subst (λ k. Any (λ (d : DeskState). d.number ≡ k) desks) (sym is) here) (λ isnt. below n first (omega (arith, last, isnt))) (cases_eq n number)

-- a fault among so many desks is one among some number of desks
pub some_fault : (opened : ℕ) (centre : Known) (desks : List DeskState) (f : Fault) → IsFault opened centre.folded centre.journal desks f → IsUnsettled centre desks f
some_fault opened centre desks f is = (opened, is)

-- the entries are a shuffle for some number of desks that were opened
pub some_shuffle : (opened : ℕ) (centre known : Known) (desks : List DeskState) → known ≡ centre → IsShuffle opened centre.folded centre.journal desks → IsSettled known desks
some_shuffle opened centre known desks is shuffle = subst (λ k. IsSettled k desks) (sym is) (opened, shuffle)

-- what holds of an answer by two clauses
pub of_both : {T E : Type 0} (r : Result T E) (P Q R : T → Type 0) → ((x : T) → P x → Q x → R x) → IfOk r P → IfOk r Q → IfOk r R
of_both (Ok x) P Q R f p q = f x p q
of_both (Err e) P Q R f p q = tt
