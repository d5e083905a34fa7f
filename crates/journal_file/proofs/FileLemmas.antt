-- What some appends in turn put at the end of a file.
use Rattle.std.proofs.Common.{◌≡◌, ℕ, ◌<◌, List, [], ◌++◌, Option, Some, None, length, take, drop, refl, sym, ap, ◌∙◌, subst, arith, append_assoc, append-nil, length-append, length-drop, take-append-drop}
use Rattle.std.proofs.Math.Seq.{take-append_seam, take-length}
use Rattle.journal_file.specs.File.{FileState, grown, settled, Grows, GrowsInPart, GrowsForGood}

-- a file of these octets, of which so many are durable
abbrev file_of : List ℕ → ℕ → FileState
file_of octets durable = record { octets = octets; durable = durable }

pub Grows-nothing : (a : Option FileState) → Grows a a []
Grows-nothing None = tt
Grows-nothing (Some old) = ap (λ s. file_of s old.durable) (sym (append-nil old.octets))

pub Grows-trans : (a b c : Option FileState) (xs ys : List ℕ) → Grows a b xs → Grows b c ys → Grows a c (xs ++ ys)
Grows-trans None b c xs ys p q = tt
Grows-trans (Some a) None c xs ys p q = absurd p
Grows-trans (Some a) (Some b) None xs ys p q = absurd q
Grows-trans (Some a) (Some b) (Some c) xs ys p q =
    q ∙ ap (λ f. grown f ys) p ∙ ap (λ s. file_of s a.durable) (append_assoc a.octets xs ys)

-- the octets are those that were put so far, and the rest
pub record PutSoFar (old new : Option FileState) (octets rest : List ℕ) : Type 0 where
  pub front : List ℕ
  pub parts : octets ≡ front ++ rest
  pub grows : Grows old new front

pub PutSoFar-start : (a : Option FileState) (octets : List ℕ) → PutSoFar a a octets octets
PutSoFar-start a octets = record { front = []; parts = refl; grows = Grows-nothing a }

pub PutSoFar-more : (a b c : Option FileState) (octets rest : List ℕ) (n : ℕ) → PutSoFar a b octets rest → Grows b c (take n rest) → PutSoFar a c octets (drop n rest)
PutSoFar-more a b c octets rest n so_far put = record {
  front = so_far.front ++ take n rest;
  parts = so_far.parts ∙ ap (λ xs. so_far.front ++ xs) (sym (take-append-drop n rest)) ∙ sym (append_assoc so_far.front (take n rest) (drop n rest));
  grows = Grows-trans a b c so_far.front (take n rest) so_far.grows put;
}

-- nothing is left
pub PutSoFar-end : (a b : Option FileState) (octets rest : List ℕ) → PutSoFar a b octets rest → rest ≡ [] → Grows a b octets
PutSoFar-end a b octets rest so_far none = subst (Grows a b) (sym (so_far.parts ∙ ap (λ xs. so_far.front ++ xs) none ∙ append-nil so_far.front)) so_far.grows

-- something may be left
pub PutSoFar-part : (a b : Option FileState) (octets rest : List ℕ) → PutSoFar a b octets rest → GrowsInPart a b octets
PutSoFar-part a b octets rest so_far =
    (length so_far.front, subst (Grows a b) (sym (ap (take (length so_far.front)) so_far.parts ∙ take-append_seam so_far.front rest)) so_far.grows)

-- the append after these failed
pub PutSoFar-failed : (a b c : Option FileState) (octets rest : List ℕ) → PutSoFar a b octets rest → Grows b c [] → GrowsInPart a c octets
PutSoFar-failed a b c octets rest so_far none =
    PutSoFar-part a c octets rest (record { front = so_far.front; parts = so_far.parts; grows = subst (Grows a c) (append-nil so_far.front) (Grows-trans a b c so_far.front [] so_far.grows none) })

-- all octets are a part of them
pub GrowsInPart-all : (a b : Option FileState) (octets : List ℕ) → Grows a b octets → GrowsInPart a b octets
GrowsInPart-all a b octets grows = (length octets, subst (Grows a b) (sym (take-length octets)) grows)

-- nothing happened after that
pub GrowsInPart-kept : (a b c : Option FileState) (octets : List ℕ) → Grows a b octets → Grows b c [] → GrowsInPart a c octets
GrowsInPart-kept a b c octets grows none = GrowsInPart-all a c octets (subst (Grows a c) (append-nil octets) (Grows-trans a b c octets [] grows none))

-- a sync behind an append
pub GrowsForGood-after : (a b c : Option FileState) (octets : List ℕ) → Grows a b octets → GrowsForGood b c [] → GrowsForGood a c octets
GrowsForGood-after None b c octets p q = tt
GrowsForGood-after (Some a) None c octets p q = absurd p
GrowsForGood-after (Some a) (Some b) None octets p q = absurd q
GrowsForGood-after (Some a) (Some b) (Some c) octets p q =
    q ∙ ap (λ s. file_of s (length s)) (append-nil b.octets) ∙ ap settled p
