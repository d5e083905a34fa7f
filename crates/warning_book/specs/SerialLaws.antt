-- The serial number of a new warning.
use Rattle.std.proofs.Common.{◌≡◌, ℕ, suc, ◌+◌, ◌<◌, ◌≤◌, Bool, true, false, cond, List, [], ◌∷◌, ◌++◌, Option, Some, None, nat_eq, length, refl, sym, ap, ◌∙◌, arith, length-append}
use Rattle.std.specs.List.{list_any}
use Rattle.std.specs.Option.{option_map, option_to_list, is_some}
use Rattle.serials.specs.Laws.{free_code, some_free, code_of_serial}
use Rattle.serials.specs.Serials.{scope_number, serial_of, code_of, least_free}
use Rattle.warning_book.specs.Book.{code_in, codes_if, codes_of, new_serial}
use Rattle.warning_book.specs.declared.notice.Notice.{Notice}
use Rattle.warning_book.specs.declared.warning.Warning.{Warning}

-- each warning has one code at most
code_fits : (m : ℕ) (w : Warning) → length (codes_if m w) ≤ 1
code_fits m w = step (nat_eq w.message_id m) (code_in w)
  where
    step : (t : Bool) (o : Option ℕ) → length (cond t (option_to_list o) []) ≤ 1
    step true None = omega arith
    step true (Some code) = omega arith
    step false o = omega arith

codes_fit : (m : ℕ) (l : List Warning) → length (codes_of m l) ≤ length l
codes_fit m [] = omega arith
codes_fit m (w ∷ l) =
    let both : length (codes_if m w ++ codes_of m l) ≡ length (codes_if m w) + length (codes_of m l) = length-append (codes_if m w) (codes_of m l) in
    added (length (codes_if m w ++ codes_of m l)) (length (codes_if m w)) (length (codes_of m l)) (length l) both (code_fits m w) (codes_fit m l)
  where
    added : (k a b n : ℕ) → k ≡ a + b → a ≤ 1 → b ≤ n → k ≤ suc n
    added k a b n e f g = omega arith

-- with fewer than 256 warnings a code is free
pub serial_is_there : {P : Type 0} (i : ℕ) (l : List Warning) (notice : Notice) → length l < 256 → new_serial (record { issued = i; warnings = l }) notice ≡ None → P
serial_is_there {P} i l notice few h = step (least_free (codes_of notice.message_id l)) (some_free (codes_of notice.message_id l) (below (codes_fit notice.message_id l))) h
  where
    below : length (codes_of notice.message_id l) ≤ length l → length (codes_of notice.message_id l) < 1024
    below fits = omega arith

    step : (o : Option ℕ) → is_some o ≡ true → option_map (λ code. serial_of (scope_number notice.scope) code 0) o ≡ None → P
    step None e h = absurd (let no : false ≡ true = e in cc)
    step (Some code) e h = absurd (let no : true ≡ false = ap is_some h in cc)

-- no warning with the message identifier has its code
pub new_code_free : (i : ℕ) (l : List Warning) (notice : Notice) (serial : ℕ) → new_serial (record { issued = i; warnings = l }) notice ≡ Some serial → list_any (nat_eq (code_of serial)) (codes_of notice.message_id l) ≡ false
new_code_free i l notice serial h = step (least_free (codes_of notice.message_id l)) (free_code (codes_of notice.message_id l)) h
  where
    step : (o : Option ℕ) → ((code : ℕ) → o ≡ Some code → (code < 1024) × (list_any (nat_eq code) (codes_of notice.message_id l) ≡ false)) → option_map (λ code. serial_of (scope_number notice.scope) code 0) o ≡ Some serial → list_any (nat_eq (code_of serial)) (codes_of notice.message_id l) ≡ false
    step None free h = cc
    step (Some code) free h =
        let same : serial_of (scope_number notice.scope) code 0 ≡ serial = cc in
        let parts = free code refl in
        ap (λ (s : ℕ). list_any (nat_eq (code_of s)) (codes_of notice.message_id l)) (sym same) ∙ ap (λ (k : ℕ). list_any (nat_eq k) (codes_of notice.message_id l)) (code_of_serial (scope_number notice.scope) code parts.0) ∙ parts.1
