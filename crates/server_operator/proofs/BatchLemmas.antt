-- From what is written and gathered to what is told.
use Rattle.std.proofs.Common.{◌≡◌, ◌++◌, ◌∷◌, ◌-◌, ◌≤◌, ℕ, suc, zero, All, Bool, [], List, Option, Some, None, Result, Ok, Err, IfOk, IsTrue, drop, length, slice_get, subst, sym, arith}
use Rattle.std.proofs.lemmas.List.{append_assoc, append-nil}
use Rattle.std.proofs.lemmas.List.Elements.{All-drop}
use Rattle.office.specs.Receipts.{last_place, last_place_or}
use Rattle.office.specs.declared.receipt.Receipt.{Receipt}
use Rattle.std.specs.Io.KnownBytes.{Appends, Keeps}
use Rattle.server_operator.specs.Batches.{IsTold}

-- two texts, one behind the other
pub appended_both : (a b c d : Option (List ℕ)) (x y : List ℕ) → Appends a b x → Appends b c y → Keeps c d → Appends a d (x ++ y)
appended_both None b c d x y first second flushed = tt
appended_both (Some xs) None c d x y first second flushed = elim first [ ]
appended_both (Some xs) (Some ys) None d x y first second flushed = elim second [ ]
appended_both (Some xs) (Some ys) (Some zs) None x y first second flushed = elim flushed [ ]
appended_both (Some xs) (Some ys) (Some zs) (Some us) x y first second flushed = subst (λ us. us ≡ xs ++ (x ++ y)) (sym flushed) (subst (λ ys. zs ≡ ys ++ y → zs ≡ xs ++ (x ++ y)) (sym first) (subst (λ r. zs ≡ xs ++ x ++ y → zs ≡ r) (append_assoc xs x y) (λ is. is)) second)

-- no text at all
pub appended_none : (a : Option (List ℕ)) (x y : List ℕ) → x ≡ [] → y ≡ [] → Appends a a (x ++ y)
appended_none None x y none nothing = tt
appended_none (Some xs) x y none nothing = subst (λ y. xs ≡ xs ++ (x ++ y)) (sym nothing) (subst (λ x. xs ≡ xs ++ (x ++ [])) (sym none) (sym (append-nil xs)))

-- an answer that is gathered
pub told_gathered : (a : Option (List ℕ)) (gathered left text : List ℕ) → left ≡ gathered ++ text → IsTold a gathered a left text
told_gathered None gathered left text is = tt
told_gathered (Some xs) gathered left text is = subst (λ left. xs ++ left ≡ (xs ++ gathered) ++ text) (sym is) (sym (append_assoc xs gathered text))

-- one that is written
pub told_written : {E : Type 0} (a b : Option (List ℕ)) (gathered left text : List ℕ) (o : Result Bool E) → IfOk o (λ k. IsTrue k → Appends a b (gathered ++ text)) → left ≡ []
    → IfOk o (λ k. IsTrue k → IsTold a gathered b left text)
told_written None b gathered left text (Ok k) written none = λ is. tt
told_written (Some xs) None gathered left text (Ok k) written none = λ is. elim (written is) [ ]
told_written (Some xs) (Some ys) gathered left text (Ok k) written none = λ is. subst (λ left. ys ++ left ≡ (xs ++ gathered) ++ text) (sym none) (subst (λ r. r ≡ (xs ++ gathered) ++ text) (sym (append-nil ys)) (subst (λ ys. ys ≡ (xs ++ gathered) ++ text) (sym (written is)) (sym (append_assoc xs gathered text))))
told_written a b gathered left text (Err e) written none = tt

-- the place of the last of some receipts
last_is : (n : ℕ) (receipts : List Receipt) (k : ℕ) (r : Receipt) → length receipts ≡ suc k → slice_get receipts k ≡ Some r → last_place_or n receipts ≡ r.place
last_is n [] k r counted at = absurd (omega (arith, counted))
last_is n (x ∷ []) zero r counted at = cc
last_is n (x ∷ []) (suc k) r counted at = absurd (omega (arith, counted))
last_is n (x ∷ y ∷ receipts) zero r counted at = absurd (omega (arith, counted))
last_is n (x ∷ y ∷ receipts) (suc k) r counted at = last_is x.place (y ∷ receipts) k r (omega (arith, counted)) at

last_one : (receipts : List Receipt) (r : Receipt) → slice_get receipts (length receipts - 1) ≡ Some r → last_place receipts ≡ r.place
last_one [] r at = cc at
last_one (x ∷ xs) r at =
    let counted : length (x ∷ xs) ≡ suc (length (x ∷ xs) - 1) = omega arith in
    last_is 0 (x ∷ xs) (length (x ∷ xs) - 1) r counted at

-- no receipt that a desk holds is of a later entry than its latest
pub last_is_above : (receipts : List Receipt) (released : ℕ) (r : Receipt) → slice_get receipts (length receipts - 1) ≡ Some r
    → All (λ (q : Receipt). q.place ≤ last_place receipts) receipts → All (λ (q : Receipt). q.place ≤ r.place) (drop released receipts)
last_is_above receipts released r at places =
    All-drop (λ (q : Receipt). q.place ≤ r.place) released receipts (subst (λ n. All (λ (q : Receipt). q.place ≤ n) receipts) (last_one receipts r at) places)
