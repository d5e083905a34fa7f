-- What always holds under the lock, after a desk was opened, after an event was entered and after entries were folded.
use Rattle.std.proofs.Common.{◌≡◌, ℕ, ◌+◌, ◌-◌, ◌<◌, ◌≤◌, ◌==◌, ◌&&◌, Bool, true, false, List, [], ◌∷◌, ◌++◌, length, get_or, set, sym, ap, ◌∙◌, subst, arith, All, nat_lt, nat_le, ◌≢◌, ap₂, subst₂, ⊎_elim, append-nil}
use Rattle.std.proofs.lemmas.Bool.{and_parts, cases_eq}
use Rattle.std.proofs.lemmas.Bool.Decides.{nat_tests}
use Rattle.std.proofs.lemmas.List.{append_assoc, length-append, length-set, get_or_append_left, get_or-append-add, get_or-set_same, get_or-set_other}
use Rattle.std.proofs.lemmas.List.Elements.{All-push, All-weaker}
use Rattle.centre_events.specs.declared.entry.Entry.{Entry}
use Rattle.office.specs.Desks.{DeskState}
use Rattle.office.specs.Helds.{AreRowsOf, IsByOpened, IsHeld, RowsFit, fits, no_row, row_of}
use Rattle.office.specs.Receipts.{receipt_of, receipts_of, last_place}
use Rattle.office.specs.declared.receipt.Receipt.{Receipt}
use Rattle.office.specs.declared.row.Row.{Row}
use Rattle.office.proofs.ReceiptLemmas.{last_below, last_more, receipts_none, receipts_other, receipts_own}

-- what a desk that fits is
pub record IsKnown (opened : ℕ) (journal : List Entry) (d : DeskState) : Type 0 where
  pub first : 0 < d.number
  pub last : d.number ≤ opened
  pub entries : length (receipts_of d.number journal) ≡ length d.receipts
  pub at : last_place (receipts_of d.number journal) ≡ last_place d.receipts
  pub later : last_place d.receipts ≤ length journal

pub known_if : (opened : ℕ) (journal : List Entry) (d : DeskState) → fits opened journal d ≡ true → IsKnown opened journal d
known_if opened journal d is =
    let a : Bool = nat_lt 0 d.number in
    let b : Bool = nat_le d.number opened in
    let c : Bool = length (receipts_of d.number journal) == length d.receipts in
    let e : Bool = last_place (receipts_of d.number journal) == last_place d.receipts in
    let abc : (((a && b) && c) ≡ true) × (e ≡ true) = and_parts ((a && b) && c) e is in
    let ab : ((a && b) ≡ true) × (c ≡ true) = and_parts (a && b) c abc.0 in
    let parts : (a ≡ true) × (b ≡ true) = and_parts a b ab.0 in
    let a' : nat_lt 0 d.number ≡ true = parts.0 in
    let b' : nat_le d.number opened ≡ true = parts.1 in
    let c' : (length (receipts_of d.number journal) == length d.receipts) ≡ true = ab.1 in
    let e' : (last_place (receipts_of d.number journal) == last_place d.receipts) ≡ true = abc.1 in
    let at : last_place (receipts_of d.number journal) ≡ last_place d.receipts = grind (arith, nat_tests, e') in
    record {
      first = grind (arith, nat_tests, a');
      last = grind (arith, nat_tests, b');
      entries = grind (arith, nat_tests, c');
      at = at;
      later = subst (λ n. n ≤ length journal) at (last_below d.number journal);
    }

-- a row that says what the journal does
row_is : (desk : ℕ) (journal : List Entry) (r : Row) → r.entries ≡ length (receipts_of desk journal) → r.last ≡ last_place (receipts_of desk journal) → r ≡ row_of desk journal
row_is desk journal r entries last = ap₂ (λ n k. let row : Row = record { entries = n; last = k } in row) entries last

-- one desk more, which has no entries yet
rows_opened : (rows : List Row) (journal : List Entry) (r : Row) → r ≡ no_row → RowsFit rows journal → All (IsByOpened (length rows)) journal → RowsFit (rows ++ r ∷ []) journal
rows_opened rows journal r is fit by k lt =
    let none : receipts_of (length rows + 1) journal ≡ [] = receipts_none (length rows + 1) 0 (length rows) journal by (omega arith) in
    let long : length (rows ++ r ∷ []) ≡ length rows + 1 = length-append rows (r ∷ []) in
    let at : k ≡ length rows → get_or (rows ++ r ∷ []) k no_row ≡ row_of (k + 1) journal = λ e.
    subst (λ i. get_or (rows ++ r ∷ []) i no_row ≡ row_of (i + 1) journal) (sym e)
    (ap (λ i. get_or (rows ++ r ∷ []) i no_row) (omega arith) ∙ get_or-append-add rows (r ∷ []) 0 no_row ∙ is ∙ sym (ap (λ (rs : List Receipt). let row : Row = record { entries = length rs; last = last_place rs } in row) none)) in
    ⊎_elim at (λ ne. get_or_append_left rows (r ∷ []) no_row k (omega (arith, lt, long, ne)) ∙ fit k (omega (arith, lt, long, ne))) (cases_eq k (length rows))

pub held_opened : (rows rows' base_rows : List Row) (folded journal : List Entry) (total parts parts' amount amount' : ℕ) (r : Row) → IsHeld rows base_rows folded journal total parts amount → length rows < 1024 → r ≡ no_row → rows' ≡ rows ++ r ∷ [] → parts' + 1 ≡ parts → amount' + 0 ≡ amount → IsHeld rows' base_rows folded journal total parts' amount'
held_opened rows rows' base_rows folded journal total parts parts' amount amount' r is few none more parts_left amount_left =
    let long : length rows' ≡ length rows + 1 = ap length more ∙ length-append rows (r ∷ []) in
    let weaker : (e : Entry) → IsByOpened (length rows) e → IsByOpened (length rows') e = λ e by. (by.0, omega (arith, by.1, long)) in
    record {
      all_rows = record {
        fit = subst (λ rs. RowsFit rs (folded ++ journal)) (sym more) (rows_opened rows (folded ++ journal) r none is.all_rows.fit is.all_rows.opened);
        opened = All-weaker (IsByOpened (length rows)) (IsByOpened (length rows')) weaker (folded ++ journal) is.all_rows.opened;
      };
      folded_rows = is.folded_rows;
      counted = is.counted;
      parts_left = omega (arith, is.parts_left, parts_left, long);
      few = omega (arith, few, long);
      nothing = omega (arith, is.nothing, amount_left);
    }

-- one entry more, and the row of its desk
rows_entered : (rows : List Row) (journal : List Entry) (d : DeskState) (e : Entry) (r : Row) → IsKnown (length rows) journal d → RowsFit rows journal → e.desk ≡ d.number → r.entries ≡ length d.receipts + 1 → r.last ≡ length journal + 1 → RowsFit (set rows (d.number - 1) r) (journal ++ e ∷ [])
rows_entered rows journal d e r known fit own entries last k lt =
    let first = known.first in
    let opened = known.last in
    let long : length (set rows (d.number - 1) r) ≡ length rows = length-set rows (d.number - 1) r in
    let within : d.number - 1 < length rows = omega (arith, first, opened) in
    let back : d.number - 1 + 1 ≡ d.number = omega (arith, first) in
    let is : receipts_of d.number (journal ++ e ∷ []) ≡ receipts_of d.number journal ++ receipt_of (length journal + 1) e ∷ [] = receipts_own d.number journal e own in
    let number : r.entries ≡ length (receipts_of d.number (journal ++ e ∷ [])) = omega (arith, entries, known.entries, ap length is, length-append (receipts_of d.number journal) (receipt_of (length journal + 1) e ∷ [])) in
    let place : r.last ≡ last_place (receipts_of d.number (journal ++ e ∷ [])) = last ∙ sym (ap last_place is ∙ last_more 0 (receipts_of d.number journal) (receipt_of (length journal + 1) e)) in
    let at : k ≡ d.number - 1 → get_or (set rows (d.number - 1) r) k no_row ≡ row_of (k + 1) (journal ++ e ∷ []) = λ same.
    subst (λ i. get_or (set rows (d.number - 1) r) i no_row ≡ row_of (i + 1) (journal ++ e ∷ [])) (sym same)
    (get_or-set_same rows (d.number - 1) r no_row within ∙ row_is d.number (journal ++ e ∷ []) r number place ∙ ap (λ n. row_of n (journal ++ e ∷ [])) (sym back)) in
    let beside : k ≢ d.number - 1 → get_or (set rows (d.number - 1) r) k no_row ≡ row_of (k + 1) (journal ++ e ∷ []) = λ ne.
    (let apart : e.desk ≢ k + 1 = λ same. ne (omega (arith, same, own)) in
    let other : (e.desk == k + 1) ≡ false = grind (arith, nat_tests, apart) in
    get_or-set_other rows (d.number - 1) k r no_row ne ∙ fit k (omega (arith, lt, long)) ∙ sym (ap (λ (rs : List Receipt). let row : Row = record { entries = length rs; last = last_place rs } in row) (receipts_other (k + 1) journal e other))) in
    ⊎_elim at beside (cases_eq k (d.number - 1))

pub held_entered : (rows rows' base_rows : List Row) (folded folded' journal journal' : List Entry) (total total' parts amount : ℕ) (d : DeskState) (e : Entry) (r : Row) → IsHeld rows base_rows folded journal total parts amount → fits (length rows) (folded ++ journal) d ≡ true → e.desk ≡ d.number → r.entries ≡ length d.receipts + 1 → r.last ≡ length (folded ++ journal) + 1 → rows' ≡ set rows (d.number - 1) r → folded' ≡ folded → journal' ≡ journal ++ e ∷ [] → total' ≡ total + 1 → IsHeld rows' base_rows folded' journal' total' parts amount
held_entered rows rows' base_rows folded folded' journal journal' total total' parts amount d e r is fit own entries last rows_are folded_is journal_is total_is =
    let known : IsKnown (length rows) (folded ++ journal) d = known_if (length rows) (folded ++ journal) d fit in
    let all_is : folded' ++ journal' ≡ (folded ++ journal) ++ e ∷ [] = ap₂ (λ xs ys. xs ++ ys) folded_is journal_is ∙ sym (append_assoc folded journal (e ∷ [])) in
    let long : length rows' ≡ length rows = ap length rows_are ∙ length-set rows (d.number - 1) r in
    let first = known.first in
    let opened = known.last in
    let by : All (IsByOpened (length rows)) ((folded ++ journal) ++ e ∷ []) = All-push (IsByOpened (length rows)) (folded ++ journal) e is.all_rows.opened (omega (arith, first, own), omega (arith, opened, own)) in
    record {
      all_rows = record {
        fit = subst₂ (λ rs h. RowsFit rs h) (sym rows_are) (sym all_is) (rows_entered rows (folded ++ journal) d e r known is.all_rows.fit own entries last);
        opened = subst₂ (λ n h. All (IsByOpened n) h) (sym long) (sym all_is) by;
      };
      folded_rows = subst (AreRowsOf base_rows) (sym folded_is) is.folded_rows;
      counted = omega (arith, total_is, is.counted, ap length all_is, length-append (folded ++ journal) (e ∷ []));
      parts_left = omega (arith, is.parts_left, long);
      few = omega (arith, is.few, long);
      nothing = is.nothing;
    }

-- all entries are folded, and the rows are kept as they are
pub held_folded : (rows base_rows base_rows' : List Row) (folded folded' journal journal' : List Entry) (total parts amount : ℕ) → IsHeld rows base_rows folded journal total parts amount → base_rows' ≡ rows → folded' ≡ folded ++ journal → journal' ≡ [] → IsHeld rows base_rows' folded' journal' total parts amount
held_folded rows base_rows base_rows' folded folded' journal journal' total parts amount is rows_are folded_is journal_is =
    let all_is : folded' ++ journal' ≡ folded ++ journal = ap₂ (λ xs ys. xs ++ ys) folded_is journal_is ∙ append-nil (folded ++ journal) in
    record {
      all_rows = subst (AreRowsOf rows) (sym all_is) is.all_rows;
      folded_rows = subst₂ AreRowsOf (sym rows_are) (sym folded_is) is.all_rows;
      counted = is.counted ∙ sym (ap length all_is);
      parts_left = is.parts_left;
      few = is.few;
      nothing = is.nothing;
    }
