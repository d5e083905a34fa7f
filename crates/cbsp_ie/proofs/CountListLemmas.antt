-- The octets of a list of broadcasts completed, and the entries that they are read as.
use Rattle.std.proofs.Common.{◌≡◌, ℕ, zero, suc, ◌+◌, ◌*◌, ◌%◌, ◌<◌, ◌≤◌, List, [], ◌∷◌, ◌++◌, take, drop, length, get_or, slice_get, slice_index, Some, refl, sym, ◌∙◌, ap, subst, arith, append_assoc}
use Rattle.std.proofs.lemmas.List.{drop-drop, get_or-drop, length-append, length-drop, take-append-drop}
use Rattle.std.proofs.Math.Nat.{suc-mul}
use Rattle.std.proofs.Math.Seq.{drop-append_seam}
use Rattle.std.specs.List.{flat_map}
use Rattle.std.specs.Int.{bytes_high_first}
use Rattle.byteorder.specs.Endian.{big_number}
use Rattle.byteorder.specs.Numbers.{big_number-reads_back}
use Rattle.cbsp_ie.specs.declared.count_entry.CountEntry.{CountEntry}
use Rattle.cbsp_ie.specs.declared.form.Form.{Form}
use Rattle.cbsp_ie.specs.declared.form.Form.TheVariants as form
use Rattle.cbsp_ie.specs.CellId.{form_of, id_at, id_octets}
use Rattle.cbsp_ie.specs.CountList.{AreCounts, IsCount, IsCountList, count_at, counts_at}
use Rattle.cbsp_ie.specs.Counts.{AreCountsOf, IsCountEntry}
use Rattle.cbsp_ie.specs.Form.{form_with, size_of}
use Rattle.cbsp_ie.specs.Written.{count_octets}
use Rattle.cbsp_ie.proofs.CellIdLemmas.{IsCellId-id_at, form_of-id_at, id_at-id_octets, id_octets-id_at, length-id_octets}
use Rattle.cbsp_ie.proofs.NumberLemmas.{IsBytes, IsBytes-drop, two_back, two_fits}

pub length-counts_at : (f : Form) (n : ℕ) (octets : List ℕ) → length (counts_at f n octets) ≡ n
unfolding counts_at
length-counts_at f zero octets = refl
length-counts_at f (suc n) octets = ap suc (length-counts_at f n (drop (size_of f + 3) octets))

-- the three octets after an identification
tail_back : (octets : List ℕ) → 3 ≤ length octets → IsBytes octets → bytes_high_first 2 (big_number 2 octets) ++ (get_or octets 2 0 ∷ []) ≡ take 3 octets
tail_back (a ∷ b ∷ c ∷ rest) le bytes = λ i. two_back a b (c ∷ rest) (bytes 0) (bytes 1) i ++ (c ∷ [])
tail_back octets le bytes = absurd (omega arith)

number_fits : (octets : List ℕ) → 2 ≤ length octets → IsBytes octets → big_number 2 octets < 65536
number_fits (a ∷ b ∷ rest) le bytes = two_fits a b rest (bytes 0) (bytes 1)
number_fits octets le bytes = absurd (omega arith)

take_none : (m : ℕ) → take {A = ℕ} m [] ≡ []
take_none zero = refl
take_none (suc m) = refl

take_both : (n m : ℕ) (octets : List ℕ) → take n octets ++ take m (drop n octets) ≡ take (n + m) octets
take_both zero m octets = ap (λ (k : ℕ). take k octets) (omega arith)
take_both (suc n) m [] = let e : suc n + m ≡ suc (n + m) = omega arith in rw e (take_none m)
take_both (suc n) m (x ∷ octets) =
    let e : suc n + m ≡ suc (n + m) = omega arith in rw e (ap (λ (xs : List ℕ). x ∷ xs) (take_both n m octets))

-- the entry that is read is read from the octets at the front
pub IsCount-count_at : (f : Form) (octets : List ℕ) → size_of f + 3 ≤ length octets → IsBytes octets → IsCount (take (size_of f + 3) octets) (count_at f octets)
IsCount-count_at f octets le bytes =
    let after = drop (size_of f) octets in
    let long : 3 ≤ length after = rw (length-drop (size_of f) octets) (omega arith) in
    let short : size_of f ≤ length octets = omega arith in
    let info : get_or after 2 0 ≡ get_or octets (size_of f + 2) 0 = get_or-drop (size_of f) octets 2 0 in (
      get_or octets (size_of f + 2) 0,
      refl,
      sym (take_both (size_of f) 3 octets)
          ∙ (λ i. sym (id_octets-id_at f octets short bytes) i ++ sym (tail_back after long (IsBytes-drop (size_of f) octets bytes)) i)
          ∙ ap (λ (x : ℕ). id_octets (id_at f octets) ++ (bytes_high_first 2 (big_number 2 after) ++ x ∷ [])) info,
    )

IsCountEntry-count_at : (f : Form) (octets : List ℕ) → size_of f + 3 ≤ length octets → IsBytes octets → IsCountEntry (count_at f octets)
IsCountEntry-count_at f octets le bytes =
    let after = drop (size_of f) octets in
    let long : 2 ≤ length after = rw (length-drop (size_of f) octets) (omega arith) in
    (IsCellId-id_at f octets (omega arith) bytes, number_fits after long (IsBytes-drop (size_of f) octets bytes), omega arith)

first_fits : (f : Form) (n : ℕ) (octets : List ℕ) → suc n * (size_of f + 3) ≡ length octets → size_of f + 3 ≤ length octets
first_fits f n octets h = let e = suc-mul n (size_of f + 3) in omega arith

rest_fits : (f : Form) (n : ℕ) (octets : List ℕ) → suc n * (size_of f + 3) ≡ length octets → n * (size_of f + 3) ≡ length (drop (size_of f + 3) octets)
rest_fits f n octets h = let e = suc-mul n (size_of f + 3) in rw (length-drop (size_of f + 3) octets) (omega arith)

pub AreCountsOf-counts_at : (f : Form) (n : ℕ) (octets : List ℕ) → n * (size_of f + 3) ≡ length octets → IsBytes octets → AreCountsOf f (counts_at f n octets)
unfolding counts_at
AreCountsOf-counts_at f zero octets h bytes = tt
AreCountsOf-counts_at f (suc n) octets h bytes = (
  (form_of-id_at f octets, IsCountEntry-count_at f octets (first_fits f n octets h) bytes),
  AreCountsOf-counts_at f n (drop (size_of f + 3) octets) (rest_fits f n octets h) (IsBytes-drop (size_of f + 3) octets bytes),
)

-- whole entries are read as the entries that stand in them
pub AreCounts-counts_at : (f : Form) (n : ℕ) (octets : List ℕ) → n * (size_of f + 3) ≡ length octets → IsBytes octets → AreCounts octets (counts_at f n octets)
unfolding counts_at
AreCounts-counts_at f zero [] h bytes = refl
AreCounts-counts_at f zero (x ∷ octets) h bytes = absurd (omega arith)
AreCounts-counts_at f (suc n) octets h bytes =
    let size = size_of f + 3 in (
      take size octets,
      drop size octets,
      sym (take-append-drop size octets),
      IsCount-count_at f octets (first_fits f n octets h) bytes,
      AreCounts-counts_at f n (drop size octets) (rest_fits f n octets h) (IsBytes-drop size octets bytes),
    )

pub length-IsCount : (front : List ℕ) (e : CountEntry) → IsCountEntry e → IsCount front e → length front ≡ size_of (form_of e.id) + 3
length-IsCount front e ranges h =
    let tail = bytes_high_first 2 e.number ++ h.0 ∷ [] in
    ap length h.2 ∙ length-append (id_octets e.id) tail ∙ ap (λ (n : ℕ). n + 3) (length-id_octets e.id ranges.0)

-- an entry is read back, whatever follows it
pub count_at-IsCount : (front rest : List ℕ) (e : CountEntry) → IsCountEntry e → IsCount front e → count_at (form_of e.id) (front ++ rest) ≡ e
count_at-IsCount front rest e ranges h =
    let f = form_of e.id in
    let tail = bytes_high_first 2 e.number ++ h.0 ∷ [] in
    let after = tail ++ rest in
    let whole : front ++ rest ≡ id_octets e.id ++ after = ap (λ (o : List ℕ). o ++ rest) h.2 ∙ append_assoc (id_octets e.id) tail rest in
    let size : length (id_octets e.id) ≡ size_of f = length-id_octets e.id ranges.0 in
    let dropped : drop (size_of f) (id_octets e.id ++ after) ≡ after = rw (← size) (drop-append_seam (id_octets e.id) after) in
    let same_id : id_at f (id_octets e.id ++ after) ≡ e.id = id_at-id_octets e.id after ranges.0 in
    let number : big_number 2 (drop (size_of f) (id_octets e.id ++ after)) ≡ e.number =
    ap (big_number 2) dropped ∙ big_number-reads_back 2 e.number (h.0 ∷ rest) ranges.1 in
    let info : get_or (id_octets e.id ++ after) (size_of f + 2) 0 % 16 ≡ e.info =
    ap (λ (x : ℕ). x % 16) (sym (get_or-drop (size_of f) (id_octets e.id ++ after) 2 0) ∙ ap (λ (o : List ℕ). get_or o 2 0) dropped) ∙ sym h.1 in
    ap (count_at f) whole ∙ (λ i. record { id = same_id i; number = number i; info = info i })

-- entries of one form are read back from their octets
pub counts_at-AreCounts : (f : Form) (octets : List ℕ) (es : List CountEntry) → AreCountsOf f es → AreCounts octets es → counts_at f (length es) octets ≡ es
unfolding counts_at
counts_at-AreCounts f octets [] ranges h = refl
counts_at-AreCounts f octets (e ∷ es) ranges h =
    let one : count_at f octets ≡ e =
    ap (count_at f) h.2 ∙ rw (← ranges.0.0) (count_at-IsCount h.0 h.1 e ranges.0.1 h.3) in
    let size : length h.0 ≡ size_of f + 3 = length-IsCount h.0 e ranges.0.1 h.3 ∙ ap (λ (g : Form). size_of g + 3) ranges.0.0 in
    let after : drop (size_of f + 3) octets ≡ h.1 = ap (drop (size_of f + 3)) h.2 ∙ rw (← size) (drop-append_seam h.0 h.1) in
    (λ i. one i ∷ counts_at f (length es) (after i)) ∙ ap (λ (xs : List CountEntry). e ∷ xs) (counts_at-AreCounts f h.1 es ranges.1 h.4)

-- as many octets as entries of the form have
pub length-AreCounts : (f : Form) (octets : List ℕ) (es : List CountEntry) → AreCountsOf f es → AreCounts octets es → length octets ≡ length es * (size_of f + 3)
length-AreCounts f octets [] ranges h = rw h (omega arith)
length-AreCounts f octets (e ∷ es) ranges h =
    let size : length h.0 ≡ size_of f + 3 = length-IsCount h.0 e ranges.0.1 h.3 ∙ ap (λ (g : Form). size_of g + 3) ranges.0.0 in
    let more = length-AreCounts f h.1 es ranges.1 h.4 in
    let joined = length-append h.0 h.1 in
    let whole : length octets ≡ length (h.0 ++ h.1) = ap length h.2 in
    let m = suc-mul (length es) (size_of f + 3) in
    omega arith

-- the entry at a place is read where the ones before it end
pub slice_get-counts_at : (f : Form) (n : ℕ) (octets : List ℕ) (k : ℕ) → k < n → slice_get (counts_at f n octets) k ≡ Some (count_at f (drop (k * (size_of f + 3)) octets))
unfolding counts_at
slice_get-counts_at f zero octets k lt = absurd (omega arith)
slice_get-counts_at f (suc n) octets zero lt = let e : 0 * (size_of f + 3) ≡ 0 = omega arith in rw e refl
slice_get-counts_at f (suc n) octets (suc k) lt =
    let size = size_of f + 3 in
    let e : size + k * size ≡ suc k * size = (let m = suc-mul k size in omega arith) in
    slice_get-counts_at f n (drop size octets) k (omega arith)
    ∙ ap (λ (o : List ℕ). Some (count_at f o)) (drop-drop (k * size) size octets ∙ ap (λ (m : ℕ). drop m octets) e)

-- no octets are read as an empty list
pub no_counts : (listed : List ℕ) → length listed < 1 → IsCountList listed (record { form = form.LacCi; entries = counts_at form.LacCi 0 listed })
unfolding counts_at
no_counts [] lt = (refl, refl)
no_counts (d ∷ rest) lt = absurd (omega arith)

-- a discriminator and whole entries are read as these
pub some_counts : (listed octets : List ℕ) (f : Form) (n : ℕ) → 1 ≤ length listed → octets ≡ drop 1 listed → form_with (slice_index listed 0 % 16) ≡ Some f
    → n * (size_of f + 3) ≡ length octets → IsBytes octets → IsCountList listed (record { form = f; entries = counts_at f n octets })
some_counts [] octets f n some parts announced whole bytes = absurd (omega arith)
some_counts (d ∷ rest) octets f n some parts announced whole bytes = (
  announced,
  AreCountsOf-counts_at f n octets whole bytes,
  (let P : List ℕ → Type 0 = λ o. AreCounts o (counts_at f n octets) in subst P parts (AreCounts-counts_at f n octets whole bytes)),
)

-- entries of one form: the octets that are written are as many
pub length-flat_map-counts : (f : Form) (es : List CountEntry) → AreCountsOf f es → length (flat_map count_octets es) ≡ length es * (size_of f + 3)
length-flat_map-counts f [] h = omega arith
length-flat_map-counts f (e ∷ es) h =
    let size : length (id_octets e.id) ≡ size_of f = length-id_octets e.id h.0.1.0 ∙ ap size_of h.0.0 in
    let tail = bytes_high_first 2 e.number ++ (e.info % 16) ∷ [] in
    let one = length-append (id_octets e.id) tail in
    let joined = length-append (count_octets e) (flat_map count_octets es) in
    let more = length-flat_map-counts f es h.1 in
    let m = suc-mul (length es) (size_of f + 3) in
    omega arith
