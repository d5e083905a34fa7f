-- The octets of a failure list, and the entries that they are read as.
use Rattle.std.proofs.Common.{◌≡◌, ℕ, zero, suc, ◌+◌, ◌%◌, ◌<◌, ◌≤◌, List, [], ◌∷◌, ◌++◌, take, drop, length, get_or, slice_index, Option, Some, None, Result, Ok, Err, IsOk, IfErr, refl, sym, ◌∙◌, ap, subst, arith, append_assoc, append-nil}
use Rattle.std.proofs.lemmas.List.{drop-drop, get_or-drop, length-append, length-drop, take-append-drop, take_more}
use Rattle.std.specs.List.{AllByRecursion}
use Rattle.std.proofs.Math.Seq.{drop-append_seam}
use Rattle.cbsp_ie.specs.declared.fail_entry.FailEntry.{FailEntry}
use Rattle.cbsp_ie.specs.declared.form.Form.{Form}
use Rattle.cbsp_ie.specs.declared.form.Form.TheVariants as form
use Rattle.cbsp_ie.specs.declared.ie_fault.IeFault.{IeFault}
use Rattle.cbsp_ie.specs.CellId.{form_of, id_at, id_octets}
use Rattle.cbsp_ie.specs.FailureList.{AreFailures, IsBadFailureList, IsEntryFault, IsFailure, StartsBadly, entries_after, failure_after, size_after}
use Rattle.cbsp_ie.specs.Failures.{IsFailEntry}
use Rattle.cbsp_ie.specs.Form.{form_with, size_of}
use Rattle.cbsp_ie.specs.Written.{failure_octets, failures_octets}
use Rattle.cbsp_ie.proofs.CellIdLemmas.{IsCellId-id_at, form_of-id_at, id_at-id_octets, id_octets-id_at, length-id_octets}
use Rattle.cbsp_ie.proofs.ListLemmas.{flat_map-snoc, flat_map_one_more}
use Rattle.cbsp_ie.proofs.NumberLemmas.{IsBytes}

take_one_more : (n : ℕ) (octets : List ℕ) → n < length octets → take n octets ++ get_or octets n 0 ∷ [] ≡ take (n + 1) octets
take_one_more zero [] lt = absurd (omega arith)
take_one_more zero (x ∷ octets) lt = refl
take_one_more (suc n) [] lt = absurd (omega arith)
take_one_more (suc n) (x ∷ octets) lt =
    let e : suc n + 1 ≡ suc (n + 1) = omega arith in rw e (ap (λ (xs : List ℕ). x ∷ xs) (take_one_more n octets (omega arith)))

-- an entry that is read is read from the octets at the front
pub IsFailure-failure_after : (d : ℕ) (octets : List ℕ) (f : Form) → form_with (d % 16) ≡ Some f → size_of f < length octets → IsBytes octets
    → IsFailure (take (size_of f + 2) (d ∷ octets)) (failure_after (Some f) octets)
IsFailure-failure_after d octets f e lt bytes =
    let short : size_of f ≤ length octets = omega arith in
    let two : size_of f + 2 ≡ suc (size_of f + 1) = omega arith in
    let cause : get_or octets (size_of f) 0 < 256 = bytes (size_of f) in (
      d,
      e ∙ ap (λ (g : Form). Some g) (sym (form_of-id_at f octets)),
      (IsCellId-id_at f octets short bytes, cause),
      rw two (ap (λ (xs : List ℕ). d ∷ xs) (sym (take_one_more (size_of f) octets lt) ∙ ap (λ (xs : List ℕ). xs ++ get_or octets (size_of f) 0 ∷ []) (sym (id_octets-id_at f octets short bytes)))),
    )

-- what the entry at the front is read as, and what is left after it
abbrev first_failure : List ℕ → FailEntry
first_failure [] = failure_after None []
first_failure (d ∷ octets) = failure_after (form_with (d % 16)) octets

abbrev after_failure : List ℕ → List ℕ
after_failure [] = []
after_failure (d ∷ octets) = drop (size_after (form_with (d % 16))) octets

-- an entry's octets after its discriminator, and its form
record Shown (octets : List ℕ) (e : FailEntry) (rest : List ℕ) : Type 0 where
  d : ℕ
  after : List ℕ
  starts : octets ≡ d ∷ after
  announced : form_with (d % 16) ≡ Some (form_of e.id)
  entry : failure_after (Some (form_of e.id)) after ≡ e
  left : drop (size_of (form_of e.id) + 1) after ≡ rest
  long : size_of (form_of e.id) + 1 ≤ length after

shown : (front rest : List ℕ) (e : FailEntry) → IsFailure front e → Shown (front ++ rest) e rest
shown front rest e h =
    let f = form_of e.id in
    let tail = e.cause.0 ∷ rest in
    let after = id_octets e.id ++ tail in
    let size : length (id_octets e.id) ≡ size_of f = length-id_octets e.id h.2.0 in
    let joined : (id_octets e.id ++ e.cause.0 ∷ []) ++ rest ≡ after = append_assoc (id_octets e.id) (e.cause.0 ∷ []) rest in
    let dropped : drop (size_of f) after ≡ tail = rw (← size) (drop-append_seam (id_octets e.id) tail) in
    let same_id : id_at f after ≡ e.id = id_at-id_octets e.id tail h.2.0 in
    let zero_more : size_of f + 0 ≡ size_of f = omega arith in
    let cause : get_or after (size_of f) 0 ≡ e.cause.0 =
    ap (λ (n : ℕ). get_or after n 0) (sym zero_more) ∙ sym (get_or-drop (size_of f) after 0 0) ∙ ap (λ (o : List ℕ). get_or o 0 0) dropped in
    let longer : (id_octets e.id ++ e.cause.0 ∷ []) ++ rest ≡ after = joined in
    let l = length-append (id_octets e.id) tail in
    record {
      d = h.0;
      after = after;
      starts = ap (λ (o : List ℕ). o ++ rest) h.3 ∙ ap (λ (o : List ℕ). h.0 ∷ o) joined;
      announced = h.1;
      entry = λ i. record { id = same_id i; cause = record { 0 = cause i } };
      left = sym (drop-drop 1 (size_of f) after) ∙ ap (drop 1) dropped;
      long = omega arith;
    }

first_failure-is : (front rest : List ℕ) (e : FailEntry) → IsFailure front e → first_failure (front ++ rest) ≡ e
first_failure-is front rest e h =
    let s = shown front rest e h in
    ap first_failure s.starts ∙ ap (λ (o : Option Form). failure_after o s.after) s.announced ∙ s.entry

after_failure-is : (front rest : List ℕ) (e : FailEntry) → IsFailure front e → after_failure (front ++ rest) ≡ rest
after_failure-is front rest e h =
    let s = shown front rest e h in
    ap after_failure s.starts ∙ ap (λ (o : Option Form). drop (size_after o) s.after) s.announced ∙ s.left

-- one entry stands at the front of octets, and one rest is left
pub one_failure : (front rest other left : List ℕ) (e g : FailEntry) → front ++ rest ≡ other ++ left → IsFailure front e → IsFailure other g → (e ≡ g) × (rest ≡ left)
one_failure front rest other left e g same h k = (
  sym (first_failure-is front rest e h) ∙ ap first_failure same ∙ first_failure-is other left g k,
  sym (after_failure-is front rest e h) ∙ ap after_failure same ∙ after_failure-is other left g k,
)

entries_after-drop : (n : ℕ) (octets : List ℕ) → entries_after n octets ≡ entries_after 0 (drop n octets)
unfolding entries_after
entries_after-drop zero octets = refl
entries_after-drop (suc n) [] = refl
entries_after-drop (suc n) (x ∷ octets) = entries_after-drop n octets

-- entries are read back from their octets
pub entries_after-AreFailures : (octets : List ℕ) (es : List FailEntry) → AreFailures octets es → entries_after 0 octets ≡ es
unfolding entries_after
entries_after-AreFailures octets [] h = rw h refl
entries_after-AreFailures octets (e ∷ es) h =
    let s = shown h.0 h.1 e h.3 in
    ap (entries_after 0) (h.2 ∙ s.starts)
    ∙ ap (λ (o : Option Form). failure_after o s.after ∷ entries_after (size_after o) s.after) s.announced
    ∙ (λ i. s.entry i ∷ entries_after-drop (size_of (form_of e.id) + 1) s.after i)
    ∙ ap (λ (o : List ℕ). e ∷ entries_after 0 o) s.left
    ∙ ap (λ (xs : List FailEntry). e ∷ xs) (entries_after-AreFailures h.1 es h.4)

-- an entry that is read does not start badly
not_bad_start : (front rest : List ℕ) (e : FailEntry) (fault : IeFault) → IsFailure front e → StartsBadly (front ++ rest) fault → ⊥
not_bad_start front rest e fault h bad =
    let s = shown front rest e h in
    let P : List ℕ → Type 0 = λ o. StartsBadly o fault in
    let Q : Option Form → Type 0 = λ o. IsEntryFault o (s.d % 16) (length s.after) fault in
    let short = subst Q s.announced (subst P s.starts bad) in
    let lt : length s.after < size_of (form_of e.id) + 1 = short.0 in
    let le = s.long in
    omega arith

-- octets that are read as entries have no fault
pub not_bad_list : (octets front rest : List ℕ) (es gs : List FailEntry) (fault : IeFault) → octets ≡ front ++ rest → AreFailures octets es → AreFailures front gs → StartsBadly rest fault → ⊥
not_bad_list octets front rest [] [] fault parts h good bad =
    let P : List ℕ → Type 0 = λ o. StartsBadly o fault in
    subst P (sym (ap (λ (o : List ℕ). o ++ rest) good) ∙ sym parts ∙ h) bad
not_bad_list octets front rest (e ∷ es) [] fault parts h good bad =
    let P : List ℕ → Type 0 = λ o. StartsBadly o fault in
    not_bad_start h.0 h.1 e fault h.3 (subst P (sym (ap (λ (o : List ℕ). o ++ rest) good) ∙ sym parts ∙ h.2) bad)
not_bad_list octets front rest [] (g ∷ gs) fault parts h good bad =
    let s = shown good.0 (good.1 ++ rest) g good.3 in
    let empty : [] ≡ s.d ∷ s.after =
    sym h ∙ parts ∙ ap (λ (o : List ℕ). o ++ rest) good.2 ∙ append_assoc good.0 good.1 rest ∙ s.starts in
    cc
not_bad_list octets front rest (e ∷ es) (g ∷ gs) fault parts h good bad =
    let same : h.0 ++ h.1 ≡ good.0 ++ (good.1 ++ rest) =
    sym h.2 ∙ parts ∙ ap (λ (o : List ℕ). o ++ rest) good.2 ∙ append_assoc good.0 good.1 rest in
    let both = one_failure h.0 h.1 good.0 (good.1 ++ rest) e g same h.3 good.3 in
    not_bad_list h.1 good.1 rest es gs fault both.1 h.4 good.4 bad

one_bad_start : (octets : List ℕ) (a b : IeFault) → StartsBadly octets a → StartsBadly octets b → a ≡ b
one_bad_start [] a b h k = absurd h
one_bad_start (d ∷ octets) a b h k = by (form_with (d % 16)) h k
  where
    by : (o : Option Form) → IsEntryFault o (d % 16) (length octets) a → IsEntryFault o (d % 16) (length octets) b → a ≡ b
    by None h k = h ∙ sym k
    by (Some f) h k = h.1 ∙ sym k.1

-- octets have one fault
pub one_bad_list : (octets front rest other left : List ℕ) (es gs : List FailEntry) (a b : IeFault)
    → octets ≡ front ++ rest → AreFailures front es → StartsBadly rest a → octets ≡ other ++ left → AreFailures other gs → StartsBadly left b → a ≡ b
one_bad_list octets front rest other left [] [] a b parts good bad parts2 good2 bad2 =
    let P : List ℕ → Type 0 = λ o. StartsBadly o b in
    one_bad_start rest a b bad (subst P (sym (ap (λ (o : List ℕ). o ++ left) good2) ∙ sym parts2 ∙ parts ∙ ap (λ (o : List ℕ). o ++ rest) good) bad2)
one_bad_list octets front rest other left [] (g ∷ gs) a b parts good bad parts2 good2 bad2 =
    let P : List ℕ → Type 0 = λ o. StartsBadly o a in
    absurd (not_bad_start good2.0 (good2.1 ++ left) g a good2.3
    (subst P (sym (ap (λ (o : List ℕ). o ++ rest) good) ∙ sym parts ∙ parts2 ∙ ap (λ (o : List ℕ). o ++ left) good2.2 ∙ append_assoc good2.0 good2.1 left) bad))
one_bad_list octets front rest other left (e ∷ es) [] a b parts good bad parts2 good2 bad2 =
    let P : List ℕ → Type 0 = λ o. StartsBadly o b in
    absurd (not_bad_start good.0 (good.1 ++ rest) e b good.3
    (subst P (sym (ap (λ (o : List ℕ). o ++ left) good2) ∙ sym parts2 ∙ parts ∙ ap (λ (o : List ℕ). o ++ rest) good.2 ∙ append_assoc good.0 good.1 rest) bad2))
one_bad_list octets front rest other left (e ∷ es) (g ∷ gs) a b parts good bad parts2 good2 bad2 =
    let same : good.0 ++ (good.1 ++ rest) ≡ good2.0 ++ (good2.1 ++ left) =
    sym (append_assoc good.0 good.1 rest) ∙ sym (ap (λ (o : List ℕ). o ++ rest) good.2) ∙ sym parts ∙ parts2
    ∙ ap (λ (o : List ℕ). o ++ left) good2.2 ∙ append_assoc good2.0 good2.1 left in
    let both = one_failure good.0 (good.1 ++ rest) good2.0 (good2.1 ++ left) e g same good.3 good2.3 in
    one_bad_list (good.1 ++ rest) good.1 rest good2.1 left es gs a b refl good.4 bad both.1 good2.4 bad2

pub AreFailures-append : (a b : List ℕ) (es gs : List FailEntry) → AreFailures a es → AreFailures b gs → AreFailures (a ++ b) (es ++ gs)
AreFailures-append a b [] gs h k = rw h k
AreFailures-append a b (e ∷ es) gs h k =
    (h.0, h.1 ++ b, ap (λ (o : List ℕ). o ++ b) h.2 ∙ append_assoc h.0 h.1 b, h.3, AreFailures-append h.1 b es gs h.4 k)

-- the entry that stands at the front is the first of those that the octets are read as
pub record Next (rest : List ℕ) (left : List FailEntry) (used : ℕ) (e : FailEntry) : Type 0 where
  pub more : List FailEntry
  pub is : left ≡ e ∷ more
  pub good : AreFailures (drop used rest) more

pub next_failure : (rest : List ℕ) (left : List FailEntry) (used : ℕ) (e : FailEntry) → AreFailures rest left → IsFailure (take used rest) e → Next rest left used e
next_failure rest [] used e h k =
    let s = shown (take used rest) (drop used rest) e k in
    let empty : [] ≡ s.d ∷ s.after = sym h ∙ sym (take-append-drop used rest) ∙ s.starts in
    absurd cc
next_failure rest (g ∷ gs) used e h k =
    let both = one_failure (take used rest) (drop used rest) h.0 h.1 e g (take-append-drop used rest ∙ h.2) k h.3 in
    let P : List ℕ → Type 0 = λ o. AreFailures o gs in
    record { more = gs; is = ap (λ (x : FailEntry). x ∷ gs) (sym both.0); good = subst P (sym both.1) h.4 }

-- octets that are read as entries do not start badly
pub is_read : {X : Type 0} (answer : Result X IeFault) (rest : List ℕ) (left : List FailEntry) → AreFailures rest left → IfErr answer (StartsBadly rest) → IsOk answer
is_read (Ok x) rest left h k = refl
is_read (Err f) rest left h k = absurd (not_bad_list rest [] rest left [] f refl h refl k)

-- the entry after a known discriminator
pub found_failure : (octets after : List ℕ) (f : Form) (size : ℕ) → 1 ≤ length octets → after ≡ drop 1 octets → form_with (slice_index octets 0 % 16) ≡ Some f → size ≡ size_of f
    → size < length after → IsBytes after → IsFailure (take (size + 2) octets) (record { id = id_at f after; cause = record { 0 = get_or after size 0 } })
found_failure [] after f size some parts announced is lt bytes = absurd (omega arith)
found_failure (d ∷ rest) after f size some parts announced is lt bytes =
    let lt2 : size_of f < length after = omega arith in
    rw (is, ← parts) (IsFailure-failure_after d after f announced lt2 bytes)

-- whole entries, so many, stand before the octets that are left
pub record SoFar (octets rest : List ℕ) (count : ℕ) : Type 0 where
  pub front : List ℕ
  pub entries : List FailEntry
  pub parts : octets ≡ front ++ rest
  pub good : AreFailures front entries
  pub counted : count ≡ length entries
  pub room : count + length rest ≤ length octets

-- the entries that are copied, and those that the octets left are read as, are all of them
pub record Copied (all copied : List FailEntry) (rest : List ℕ) : Type 0 where
  pub left : List FailEntry
  pub parts : all ≡ copied ++ left
  pub good : AreFailures rest left

pub SoFar-start : (octets : List ℕ) → SoFar octets octets 0
SoFar-start octets = record { front = []; entries = []; parts = refl; good = refl; counted = refl; room = omega arith }

pub SoFar-more : (octets rest : List ℕ) (count used : ℕ) (e : FailEntry) → SoFar octets rest count → IsFailure (take used rest) e → used ≤ length rest → 2 ≤ used → SoFar octets (drop used rest) (count + 1)
SoFar-more octets rest count used e s found within some =
    let l = length-drop used rest in
    let n = length-append s.entries (e ∷ []) in
    let counted = s.counted in
    let room = s.room in
    record {
      front = s.front ++ take used rest;
      entries = s.entries ++ e ∷ [];
      parts = s.parts ∙ ap (λ (o : List ℕ). s.front ++ o) (sym (take-append-drop used rest)) ∙ sym (append_assoc s.front (take used rest) (drop used rest));
      good = AreFailures-append s.front (take used rest) s.entries (e ∷ []) s.good (take used rest, [], sym (append-nil (take used rest)), found, refl);
      counted = omega arith;
      room = omega arith;
    }

pub SoFar-end : (octets rest : List ℕ) (count : ℕ) → SoFar octets rest count → length rest ≡ 0 → (AreFailures octets (entries_after 0 octets)) × (count ≡ length (entries_after 0 octets))
SoFar-end octets [] count s e =
    let P : List ℕ → Type 0 = λ o. AreFailures o s.entries in
    let whole = subst P (sym (append-nil s.front) ∙ sym s.parts) s.good in
    let is = entries_after-AreFailures octets s.entries whole in
    rw is (whole, s.counted)
SoFar-end octets (x ∷ rest) count s e = absurd (omega arith)

pub SoFar-bad : (octets rest : List ℕ) (count : ℕ) (fault : IeFault) → SoFar octets rest count → StartsBadly rest fault → IsBadFailureList octets fault
SoFar-bad octets rest count fault s bad = record { front = s.front; rest = rest; parts = s.parts; entries = s.entries; good = s.good; bad = bad }

pub Copied-more : (all copied : List FailEntry) (rest : List ℕ) (used : ℕ) (e : FailEntry) → Copied all copied rest → IsFailure (take used rest) e → Copied all (copied ++ e ∷ []) (drop used rest)
Copied-more all copied rest used e s found =
    let n = next_failure rest s.left used e s.good found in
    record {
      left = n.more;
      parts = s.parts ∙ ap (λ (xs : List FailEntry). copied ++ xs) n.is ∙ sym (append_assoc copied (e ∷ []) n.more);
      good = n.good;
    }

pub none_left : (rest : List ℕ) (left : List FailEntry) → AreFailures rest left → length rest ≡ 0 → left ≡ []
none_left rest [] h e = refl
none_left rest (g ∷ gs) h e =
    let s = shown h.0 h.1 g h.3 in
    let whole : length rest ≡ suc (length s.after) = ap length (h.2 ∙ s.starts) in
    absurd (omega arith)

pub Copied-end : (all copied : List FailEntry) (rest : List ℕ) → Copied all copied rest → length rest ≡ 0 → copied ≡ all
Copied-end all copied rest s e =
    sym (append-nil copied) ∙ ap (λ (xs : List FailEntry). copied ++ xs) (sym (none_left rest s.left s.good e)) ∙ sym s.parts

-- an entry has as many octets as its identification, and two
pub length-failure_octets : (e : FailEntry) → IsFailEntry e → length (failure_octets e) ≡ size_of (form_of e.id) + 2
length-failure_octets e h =
    let l = length-append (id_octets e.id) (e.cause.0 ∷ []) in
    let size = length-id_octets e.id h.0 in
    omega arith

pub size_of-le : (f : Form) → size_of f ≤ 7
size_of-le form.Global = omega arith
size_of-le form.LacCi = omega arith
size_of-le form.Ci = omega arith
size_of-le form.Lai = omega arith
size_of-le form.Lac = omega arith
size_of-le form.All = omega arith

each_at : {A : Type 0} (P : A → Type 0) (xs : List A) (k : ℕ) (d : A) → AllByRecursion P xs → k < length xs → P (get_or xs k d)
each_at P [] k d h lt = absurd (omega arith)
each_at P (x ∷ xs) zero d h lt = h.0
each_at P (x ∷ xs) (suc k) d h lt = each_at P xs k d h.1 (omega arith)

-- one more entry's octets are counted
pub more_failures : (entries : List FailEntry) (k octets : ℕ) (d : FailEntry) → AllByRecursion IsFailEntry entries → k < length entries → octets ≡ length (failures_octets (take k entries))
    → octets + (size_of (form_of (get_or entries k d).id) + 2) ≡ length (failures_octets (take (k + 1) entries))
more_failures entries k octets d h lt is =
    let e = get_or entries k d in
    let one : length (failure_octets e) ≡ size_of (form_of e.id) + 2 = length-failure_octets e (each_at IsFailEntry entries k d h lt) in
    let l = length-append (failures_octets (take k entries)) (failure_octets e) in
    rw (take_more entries k d lt, flat_map-snoc failure_octets (take k entries) e) (omega arith)

-- the entries whose octets are appended, and those that the octets left are read as, are all of them
pub record Appended (all : List FailEntry) (before out rest : List ℕ) : Type 0 where
  pub written : List FailEntry
  pub copied : Copied all written rest
  pub is : out ≡ before ++ failures_octets written

pub Appended-start : (all : List FailEntry) (before rest : List ℕ) → AreFailures rest all → Appended all before before rest
Appended-start all before rest h = record {
  written = [];
  copied = record { left = all; parts = refl; good = h };
  is = sym (append-nil before);
}

pub Appended-more : (all : List FailEntry) (before out rest : List ℕ) (used : ℕ) (e : FailEntry) → Appended all before out rest → IsFailure (take used rest) e
    → Appended all before (out ++ failure_octets e) (drop used rest)
Appended-more all before out rest used e s found = record {
  written = s.written ++ e ∷ [];
  copied = Copied-more all s.written rest used e s.copied found;
  is = ap (λ (o : List ℕ). o ++ failure_octets e) s.is ∙ flat_map_one_more failure_octets before s.written e;
}

pub Appended-end : (all : List FailEntry) (before out rest : List ℕ) → Appended all before out rest → length rest ≡ 0 → out ≡ before ++ failures_octets all
Appended-end all before out rest s e = s.is ∙ ap (λ (es : List FailEntry). before ++ failures_octets es) (Copied-end all s.written rest s.copied e)

-- as many octets are written as were read
pub length-AreFailures : (octets : List ℕ) (es : List FailEntry) → AreFailures octets es → length octets ≡ length (failures_octets es)
length-AreFailures octets [] h = rw h refl
length-AreFailures octets (e ∷ es) h =
    let tail = id_octets e.id ++ e.cause.0 ∷ [] in
    let front : length h.0 ≡ suc (length tail) = ap length h.3.3 in
    let whole : length octets ≡ length (h.0 ++ h.1) = ap length h.2 in
    let joined = length-append h.0 h.1 in
    let written = length-append (failure_octets e) (failures_octets es) in
    let more = length-AreFailures h.1 es h.4 in
    omega arith
