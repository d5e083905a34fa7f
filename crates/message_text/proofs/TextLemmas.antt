-- The letters of a text, and which coding has them.
use Rattle.std.proofs.Common.{◌≡◌, ℕ, ◌+◌, ◌<◌, ◌≤◌, Bool, true, false, cond, ◌&&◌, List, [], ◌∷◌, length, drop, get_or, refl, ap, sym, ◌∙◌, arith, Option, Some, None, ltb, eqb, ◌⊎◌, inl, inr, subst, IsUtf8}
use Rattle.std.proofs.lemmas.Bool.Decides.{nat_tests}
use Rattle.std.specs.Char.{is_control}
use Rattle.std.proofs.lemmas.Str.{encodes-chars}
use Rattle.std.specs.Str.{chars, all_scalars, encode_utf8_all}
use Rattle.std.specs.List.{AllByRecursion, list_all}
use Rattle.message_text.specs.Alphabet.{has_code}
use Rattle.message_text.specs.Reading.{read_pages, read_text, coding_of}
use Rattle.message_text.specs.Texts.{letter_fault, letters_fault, or_else, coding_for, dcs_of, CanCode, IsInUcs2, HasSeptets, IsTextFault}
use Rattle.message_text.specs.declared.fault.TextFault.{TextFault}
use Rattle.message_text.specs.declared.fault.TextFault.TheVariants.{ControlLetter, OutsideUcs2}
use Rattle.message_text.specs.declared.coding.Coding.{Coding}
use Rattle.message_text.specs.declared.coding.Coding.TheVariants.{SevenBit, Ucs2}
use Rattle.message_text.proofs.ListLemmas.{rest_begins}

pub fault_passed : (letters : List ℕ) (i letter : ℕ) → i < length letters → letter ≡ get_or letters i 0 → letter_fault letter ≡ None
    → letters_fault (drop (i + 1) letters) ≡ letters_fault (drop i letters)
fault_passed letters i letter h e none =
    ap (λ f. or_else f (letters_fault (drop (i + 1) letters))) (sym none) ∙ ap letters_fault (sym (rest_begins letters i 0 letter h e))

pub fault_found : (letters : List ℕ) (i letter : ℕ) (fault : TextFault) → i < length letters → letter ≡ get_or letters i 0 → letter_fault letter ≡ Some fault
    → letters_fault (drop i letters) ≡ Some fault
fault_found letters i letter fault h e some =
    ap letters_fault (rest_begins letters i 0 letter h e) ∙ ap (λ f. or_else f (letters_fault (drop (i + 1) letters))) some

none_both : (a b : Option TextFault) → or_else a b ≡ None → (a ≡ None) × (b ≡ None)
none_both None b e = (refl, e)
none_both (Some fault) b e = cc

both_true : (a b : Bool) → (a && b) ≡ true → (a ≡ true) × (b ≡ true)
both_true true b h = (refl, h)
both_true false b h = cc

in_range_from : (letter : ℕ) (feed control : Bool) (small : Bool) → eqb letter 0x0A ≡ feed → is_control letter ≡ control → ltb letter 0x10000 ≡ small
    → cond feed None (cond control (Some ControlLetter) (cond small None (Some OutsideUcs2))) ≡ None → letter < 0x10000
in_range_from letter true control small e f g h = grind (arith, nat_tests)
in_range_from letter false true small e f g h = cc
in_range_from letter false false true e f g h = grind (arith, nat_tests)
in_range_from letter false false false e f g h = cc

pub in_ucs2 : (letter : ℕ) → letter_fault letter ≡ None → letter < 0x10000
in_ucs2 letter h = in_range_from letter (eqb letter 0x0A) (is_control letter) (ltb letter 0x10000) refl refl refl h

septets_all : (letters : List ℕ) → letters_fault letters ≡ None → list_all has_code letters ≡ true → AllByRecursion HasSeptets letters
septets_all [] h k = tt
septets_all (c ∷ cs) h k =
    let a = none_both (letter_fault c) (letters_fault cs) h in
    let b = both_true (has_code c) (list_all has_code cs) k in
    ((a.0, b.0), septets_all cs a.1 b.1)

ucs2_all : (letters : List ℕ) → letters_fault letters ≡ None → all_scalars letters ≡ true → AllByRecursion IsInUcs2 letters
ucs2_all [] h k = tt
ucs2_all (c ∷ cs) h k =
    let a = none_both (letter_fault c) (letters_fault cs) h in
    let b = both_true _ (all_scalars cs) k in
    ((in_ucs2 c a.0, b.0), ucs2_all cs a.1 b.1)

coded_by : (letters : List ℕ) (all : Bool) → list_all has_code letters ≡ all → letters_fault letters ≡ None → all_scalars letters ≡ true
    → AllByRecursion (CanCode (cond all SevenBit Ucs2)) letters
coded_by letters true e h k = septets_all letters h e
coded_by letters false e h k = ucs2_all letters h k

-- the coding of a text has each of its letters
pub coded : (letters : List ℕ) → letters_fault letters ≡ None → all_scalars letters ≡ true → AllByRecursion (CanCode (coding_for letters)) letters
coded letters h k = coded_by letters (list_all has_code letters) refl h k

-- what is written is read by the coding that it is written in
pub dcs_read : (coding : Coding) → coding_of (dcs_of coding) ≡ Some coding
dcs_read SevenBit = refl
dcs_read Ucs2 = refl

pub read_under : (coding : Coding) (pages : List (List ℕ)) → read_text (dcs_of coding) pages ≡ read_pages coding pages
read_under SevenBit pages = refl
read_under Ucs2 pages = refl

-- letters that are there need a page
pub some_pages : (coding : Coding) (pages : List (List ℕ)) (letters : List ℕ) → read_pages coding pages ≡ Some letters → 0 < length letters → 1 ≤ length pages
some_pages coding [] letters e h = let f : [] ≡ letters = cc in absurd (omega (arith, ap (length {A = ℕ}) f))
some_pages coding (p ∷ ps) letters e h = omega arith

abbrev IsLetterFault : TextFault → Type 0
IsLetterFault fault = (fault ≡ ControlLetter) ⊎ (fault ≡ OutsideUcs2)

letter_kind_by : (fault : TextFault) (feed control small : Bool) → cond feed None (cond control (Some ControlLetter) (cond small None (Some OutsideUcs2))) ≡ Some fault → IsLetterFault fault
letter_kind_by fault true control small e = cc
letter_kind_by fault false true small e = inl cc
letter_kind_by fault false false true e = cc
letter_kind_by fault false false false e = inr cc

kind_by : (a b : Option TextFault) (fault : TextFault) → or_else a b ≡ Some fault → (a ≡ Some fault → IsLetterFault fault) → (b ≡ Some fault → IsLetterFault fault) → IsLetterFault fault
kind_by None b fault e h k = k e
kind_by (Some other) b fault e h k = h e

letters_kind : (letters : List ℕ) (fault : TextFault) → letters_fault letters ≡ Some fault → IsLetterFault fault
letters_kind [] fault e = cc
letters_kind (c ∷ cs) fault e =
    kind_by (letter_fault c) (letters_fault cs) fault e (letter_kind_by fault (eqb c 0x0A) (is_control c) (ltb c 0x10000)) (letters_kind cs fault)

fault_by : (text : List ℕ) (fault : TextFault) → IsLetterFault fault → IsUtf8 text → letters_fault (chars text) ≡ Some fault → IsTextFault text fault
fault_by text fault (inl k) u e =
    subst (λ (f : TextFault). IsTextFault text f) (sym k) (u, e ∙ ap Some k)
fault_by text fault (inr k) u e =
    subst (λ (f : TextFault). IsTextFault text f) (sym k) (u, e ∙ ap Some k)

-- what is found of the letters is the text's fault
pub fault_is : (text : List ℕ) (fault : TextFault) → IsUtf8 text → letters_fault (chars text) ≡ Some fault → IsTextFault text fault
fault_is text fault u e = fault_by text fault (letters_kind (chars text) fault e) u e

pub codes_passed : (letters : List ℕ) (i letter : ℕ) → i < length letters → letter ≡ get_or letters i 0 → has_code letter ≡ true
    → list_all has_code (drop (i + 1) letters) ≡ list_all has_code (drop i letters)
codes_passed letters i letter h e true_here =
    ap (λ b. b && list_all has_code (drop (i + 1) letters)) (sym true_here) ∙ ap (list_all has_code) (sym (rest_begins letters i 0 letter h e))

pub codes_missed : (letters : List ℕ) (i letter : ℕ) → i < length letters → letter ≡ get_or letters i 0 → has_code letter ≡ false
    → list_all has_code (drop i letters) ≡ false
codes_missed letters i letter h e false_here =
    ap (list_all has_code) (rest_begins letters i 0 letter h e) ∙ ap (λ b. b && list_all has_code (drop (i + 1) letters)) false_here

some_from : (letters text : List ℕ) → encode_utf8_all letters ≡ text → 0 < length text → 0 < length letters
some_from [] text e h = absurd (omega (arith, ap (length {A = ℕ}) e))
some_from (c ∷ cs) text e h = omega arith

-- a text that is not empty has letters
pub some_letters : (text : List ℕ) → IsUtf8 text → 0 < length text → 0 < length (chars text)
some_letters text u h = some_from (chars text) text (encodes-chars text u) h
