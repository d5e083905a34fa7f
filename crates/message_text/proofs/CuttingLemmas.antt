-- Letters cut into pages.
use Rattle.std.proofs.Common.{◌≡◌, ℕ, suc, zero, ◌+◌, ◌-◌, ◌<◌, ◌≤◌, List, [], ◌∷◌, ◌++◌, length, take, drop, refl, ap, sym, ◌∙◌, arith, inl, inr, Option, Some, None, append_assoc, length-append, length-drop, subst, IfOk, Ok, Err, Result}
use Rattle.std.proofs.lemmas.List.{append-nil, drop_at, drop-append-le, take-append-le, drop-drop, take_all}
use Rattle.std.proofs.lemmas.Bool.{cases_lt}
use Rattle.std.proofs.lemmas.List.Sums.{sum_by-take-le, sum_by-take-drop}
use Rattle.std.proofs.Math.Seq.{take-add}
use Rattle.std.specs.List.{AllByRecursion, flat_map, sum_by}
use Rattle.message_text.specs.Reading.{followed_by, read_page, read_pages}
use Rattle.message_text.specs.Measures.{IsCutInto}
use Rattle.message_text.specs.Texts.{AreCut, HasRoom}
use Rattle.message_text.specs.Writing.{room, width}
use Rattle.message_text.specs.declared.coding.Coding.{Coding}
use Rattle.message_text.specs.declared.coding.Coding.TheVariants.{SevenBit, Ucs2}
use Rattle.message_text.proofs.AlphabetLemmas.{width_bound}
use Rattle.std.proofs.lemmas.List.Recursion.{is_sum_by}

followed_more : (a b r : Option (List ℕ)) (front piece : List ℕ) → followed_by a b ≡ Some front
    → ((others : List ℕ) → b ≡ Some others → r ≡ Some (others ++ piece)) → followed_by a r ≡ Some (front ++ piece)
followed_more None b r front piece e h = cc
followed_more (Some letters) None r front piece e h = cc
followed_more (Some letters) (Some others) r front piece e h =
    let k : letters ++ others ≡ front = cc in
    ap (followed_by (Some letters)) (h others refl) ∙ ap Some (sym (append_assoc letters others piece) ∙ ap (λ x. x ++ piece) k)

-- one more page
pub read_push : (coding : Coding) (pages : List (List ℕ)) (page front piece : List ℕ)
    → read_pages coding pages ≡ Some front → read_page coding page ≡ Some piece → read_pages coding (pages ++ page ∷ []) ≡ Some (front ++ piece)
read_push coding [] page front piece e h =
    let k : [] ≡ front = cc in
    ap (λ r. followed_by r (Some [])) h ∙ ap Some (append-nil piece ∙ ap (λ f. f ++ piece) k)
read_push coding (p ∷ ps) page front piece e h =
    followed_more (read_page coding p) (read_pages coding ps) (read_pages coding (ps ++ page ∷ [])) front piece e
    (λ others f. read_push coding ps page others piece f h)

-- the letters written, and as many more
pub read_more : (coding : Coding) (pages : List (List ℕ)) (page letters : List ℕ) (written count : ℕ)
    → read_pages coding pages ≡ Some (take written letters) → read_page coding page ≡ Some (take count (drop written letters))
    → read_pages coding (pages ++ page ∷ []) ≡ Some (take (written + count) letters)
read_more coding pages page letters written count e h =
    read_push coding pages page (take written letters) (take count (drop written letters)) e h ∙ ap Some (sym (take-add written count letters))

pub sizes_push : (pages : List (List ℕ)) (page : List ℕ) → AllByRecursion HasRoom pages → 1 ≤ length page → length page ≤ 82 → AllByRecursion HasRoom (pages ++ page ∷ [])
sizes_push [] page h some most = ((some, most), tt)
sizes_push (p ∷ ps) page h some most = (h.0, sizes_push ps page h.1 some most)

pub all_drop : {X : Type 0} (P : X → Type 0) (n : ℕ) (xs : List X) → AllByRecursion P xs → AllByRecursion P (drop n xs)
all_drop P zero xs h = h
all_drop P (suc n) [] h = tt
all_drop P (suc n) (x ∷ xs) h = all_drop P n xs h.1

pub all_take : {X : Type 0} (P : X → Type 0) (n : ℕ) (xs : List X) → AllByRecursion P xs → AllByRecursion P (take n xs)
all_take P zero xs h = tt
all_take P (suc n) [] h = tt
all_take P (suc n) (x ∷ xs) h = (h.0, all_take P n xs h.1)

-- the letters of pieces in a row
abbrev pub joined : List (List ℕ) → List ℕ
joined pieces = flat_map (λ piece. piece) pieces

-- what the next of the pieces adds
pub data NextPiece (w : ℕ → ℕ) (most : ℕ) (pieces : List (List ℕ)) (k : ℕ) : Type 0 where
  is_none : joined (take (suc k) pieces) ≡ joined (take k pieces) → NextPiece w most pieces k
  is_some : (piece rest : List ℕ) → joined pieces ≡ joined (take k pieces) ++ (piece ++ rest)
      → joined (take (suc k) pieces) ≡ joined (take k pieces) ++ piece → sum_by w piece ≤ most → NextPiece w most pieces k

next_behind : (w : ℕ → ℕ) (most : ℕ) (first : List ℕ) (pieces : List (List ℕ)) (k : ℕ) → NextPiece w most pieces k → NextPiece w most (first ∷ pieces) (suc k)
next_behind w most first pieces k (is_none e) = is_none (ap (λ l. first ++ l) e)
next_behind w most first pieces k (is_some piece rest e f room) =
    is_some piece rest
    (ap (λ l. first ++ l) e ∙ sym (append_assoc first (joined (take k pieces)) (piece ++ rest)))
    (ap (λ l. first ++ l) f ∙ sym (append_assoc first (joined (take k pieces)) piece))
    room

next_piece : (w : ℕ → ℕ) (most : ℕ) (pieces : List (List ℕ)) (k : ℕ) → AllByRecursion (λ piece. sum_by w piece ≤ most) pieces → NextPiece w most pieces k
next_piece w most [] zero h = is_none refl
next_piece w most [] (suc k) h = is_none refl
next_piece w most (p ∷ ps) zero h = is_some p (joined ps) refl (append-nil p) h.0
next_piece w most (p ∷ ps) (suc k) h = next_behind w most p ps k (next_piece w most ps k h.1)

part_sum : (w : ℕ → ℕ) (piece : List ℕ) (m n : ℕ) → sum_by w (take n (drop m piece)) ≤ sum_by w piece
part_sum w piece m n =
    let a = sum_by-take-le w (drop m piece) n in
    let b = sum_by-take-drop w piece m in
    omega arith

-- letters within a piece are within the piece's sum
inside : (w : ℕ → ℕ) (front piece rest : List ℕ) (place n : ℕ) → length front ≤ place → place + n ≤ length front + length piece
    → sum_by w (take n (drop place (front ++ (piece ++ rest)))) ≤ sum_by w piece
inside w front piece rest place n low high =
    let m = place - length front in
    let a : length front + m ≡ place = omega arith in
    let e : drop place (front ++ (piece ++ rest)) ≡ drop m piece ++ rest =
    ap (λ i. drop i (front ++ (piece ++ rest))) (sym a) ∙ sym (drop-drop m (length front) (front ++ (piece ++ rest)))
    ∙ ap (drop m) (drop_at front (piece ++ rest) (length front) refl) ∙ drop-append-le m piece rest (omega arith) in
    let l : length (drop m piece) ≡ length piece - m = length-drop m piece in
    let f : take n (drop place (front ++ (piece ++ rest))) ≡ take n (drop m piece) =
    ap (take n) e ∙ take-append-le n (drop m piece) rest (omega arith) in
    subst (λ (s : List ℕ). sum_by w s ≤ sum_by w piece) (sym f) (part_sum w piece m n)

-- as many letters as there is room for are not fewer than those of a piece that begins no later
reach_step : (w : ℕ → ℕ) (most : ℕ) (letters front piece rest : List ℕ) (place count : ℕ) → letters ≡ front ++ (piece ++ rest) → length front ≤ place
    → sum_by w piece ≤ most → (count < length (drop place letters) → most < sum_by w (take (count + 1) (drop place letters)))
    → length front + length piece ≤ place + count
reach_step w most letters front piece rest place count e low fits full =
    elim (cases_lt (place + count) (length front + length piece)) [
      | inl more ↦
          let n : length letters ≡ length front + (length piece + length rest) =
          ap length e ∙ length-append front (piece ++ rest) ∙ ap (λ k. length front + k) (length-append piece rest) in
          let l : length (drop place letters) ≡ length letters - place = length-drop place letters in
          let big = full (omega arith) in
          let small = inside w front piece rest place (count + 1) low (omega arith) in
          let small_here : sum_by w (take (count + 1) (drop place letters)) ≤ sum_by w piece =
          subst (λ (s : List ℕ). sum_by w (take (count + 1) (drop place s)) ≤ sum_by w piece) (sym e) small in
          absurd (omega arith)
      | inr less ↦ less
    ]

reach_next : (w : ℕ → ℕ) (most : ℕ) (letters : List ℕ) (pieces : List (List ℕ)) (k place count : ℕ) → joined pieces ≡ letters
    → NextPiece w most pieces k → length (joined (take k pieces)) ≤ place
    → (count < length (drop place letters) → most < sum_by w (take (count + 1) (drop place letters)))
    → length (joined (take (suc k) pieces)) ≤ place + count
reach_next w most letters pieces k place count e (is_none f) low full = let g = ap length f in omega arith
reach_next w most letters pieces k place count e (is_some piece rest f g fits) low full =
    let step = reach_step w most letters (joined (take k pieces)) piece rest place count (sym e ∙ f) low fits full in
    let n = ap length g ∙ length-append (joined (take k pieces)) piece in
    omega arith

-- no cut's first pieces have more letters than as many pages
abbrev pub Reaches : Coding → List ℕ → ℕ → ℕ → Type 0
Reaches coding letters k place = (pieces : List (List ℕ)) → AreCut coding letters pieces → length (joined (take k pieces)) ≤ place

pub reach_none : (coding : Coding) (letters : List ℕ) → Reaches coding letters 0 0
reach_none coding letters pieces cut = omega arith

pub reach_more : (coding : Coding) (letters : List ℕ) (k place count : ℕ) → Reaches coding letters k place
    → (count < length (drop place letters) → room coding < sum_by (width coding) (take (count + 1) (drop place letters)))
    → Reaches coding letters (k + 1) (place + count)
reach_more coding letters k place count before full pieces cut =
    let e : k + 1 ≡ suc k = omega arith in
    subst (λ (i : ℕ). length (joined (take i pieces)) ≤ place + count) (sym e)
    (reach_next (width coding) (room coding) letters pieces k place count cut.whole
    (next_piece (width coding) (room coding) pieces k cut.each) (before pieces cut) full)

-- letters that so many pages don't have are in no fewer pieces
pub reach_end : (coding : Coding) (letters : List ℕ) (k place : ℕ) → Reaches coding letters k place → place < length letters
    → (pieces : List (List ℕ)) → AreCut coding letters pieces → k < length pieces
reach_end coding letters k place before less pieces cut =
    elim (cases_lt k (length pieces)) [
      | inl more ↦ more
      | inr few ↦
          let all : take k pieces ≡ pieces = take_all k pieces few in
          let e : length (joined (take k pieces)) ≡ length letters = ap (λ p. length (joined p)) all ∙ ap length cut.whole in
          let b = before pieces cut in
          absurd (omega arith)
    ]

small_width : (coding : Coding) (letter : ℕ) → (width coding letter ≤ 2) × (41 ≤ room coding)
small_width SevenBit letter = (width_bound letter, omega arith)
small_width Ucs2 letter = (omega arith, omega arith)

-- one letter always has room
pub count_some : (coding : Coding) (rest : List ℕ) (count : ℕ) → 0 < length rest
    → (count < length rest → room coding < sum_by (width coding) (take (count + 1) rest)) → 0 < count
count_some coding [] count h most = absurd (omega arith)
count_some coding (letter ∷ others) count h most =
    elim (cases_lt 0 count) [
      | inl some ↦ some
      | inr none ↦
          let e : count ≡ 0 = omega arith in
          let m : room coding < 0 + width coding letter =
          subst (λ (k : ℕ). k < length (letter ∷ others) → room coding < sum_by (width coding) (take (k + 1) (letter ∷ others))) e most h in
          let small = small_width coding letter in
          absurd (omega arith)
    ]

-- in UCS2 each letter takes as much
pub ucs2_room : (letters : List ℕ) → length letters ≡ sum_by (width Ucs2) letters
ucs2_room letters = is_sum_by (length {A = ℕ}) (width Ucs2) refl (λ (c : ℕ) (cs : List ℕ). omega arith) letters

-- of what an answer has, where it is one
pub if_ok_both : {T E : Type 0} (P Q : T → Type 0) (r : Result T E) → ((x : T) → P x → Q x) → IfOk r P → IfOk r Q
if_ok_both P Q (Ok x) f h = f x h
if_ok_both P Q (Err e) f h = h

joined_push : (pieces : List (List ℕ)) (piece : List ℕ) → joined (pieces ++ piece ∷ []) ≡ joined pieces ++ piece
joined_push [] piece = append-nil piece
joined_push (p ∷ ps) piece = ap (λ l. p ++ l) (joined_push ps piece) ∙ sym (append_assoc p (joined ps) piece)

each_push : (P : List ℕ → Type 0) (pieces : List (List ℕ)) (piece : List ℕ) → AllByRecursion P pieces → P piece → AllByRecursion P (pieces ++ piece ∷ [])
each_push P [] piece h k = (k, tt)
each_push P (p ∷ ps) piece h k = (h.0, each_push P ps piece h.1 k)

-- no letters are cut into no pieces
pub cut_none : (coding : Coding) (letters : List ℕ) → IsCutInto coding (take 0 letters) 0
cut_none coding letters = record { pieces = []; cut = record { whole = refl; each = tt }; many = refl }

-- one piece more
pub cut_more : (coding : Coding) (letters : List ℕ) (place count more : ℕ) → IsCutInto coding (take place letters) count
    → sum_by (width coding) (take more (drop place letters)) ≤ room coding → IsCutInto coding (take (place + more) letters) (count + 1)
cut_more coding letters place count more before fits = record {
  pieces = before.pieces ++ take more (drop place letters) ∷ [];
  cut = record {
    whole = joined_push before.pieces (take more (drop place letters)) ∙ ap (λ l. l ++ take more (drop place letters)) before.cut.whole ∙ sym (take-add place more letters);
    each = each_push (λ piece. sum_by (width coding) piece ≤ room coding) before.pieces (take more (drop place letters)) before.cut.each fits;
  };
  many = length-append before.pieces (take more (drop place letters) ∷ []) ∙ ap (λ n. n + 1) before.many;
}
