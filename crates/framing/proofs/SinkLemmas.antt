-- What some writes in turn append.
use Rattle.std.proofs.Common.{◌≡◌, ℕ, ◌<◌, List, [], ◌++◌, Option, length, take, drop, refl, sym, ap, ◌∙◌, subst, arith, append_assoc, append-nil, length-append, length-drop, take-append-drop}
use Rattle.std.proofs.KnownBytes.{Appends-nil, Appends-trans, Appends-kept}
use Rattle.std.proofs.Math.Seq.{take-append_seam}
use Rattle.std.specs.Io.KnownBytes.{Appends, Keeps}
use Rattle.framing.specs.Sink.{AppendsFront}

-- the octets are those written so far, and the rest
pub record WrittenSoFar (old new : Option (List ℕ)) (octets rest : List ℕ) : Type 0 where
  pub front : List ℕ
  pub parts : octets ≡ front ++ rest
  pub appended : Appends old new front

-- nothing is written yet
pub WrittenSoFar-start : (a : Option (List ℕ)) (octets : List ℕ) → WrittenSoFar a a octets octets
WrittenSoFar-start a octets = record { front = []; parts = refl; appended = Appends-nil a }

-- one more write
pub WrittenSoFar-more : (a b c : Option (List ℕ)) (octets rest : List ℕ) (n : ℕ) → WrittenSoFar a b octets rest
    → Appends b c (take n rest) → WrittenSoFar a c octets (drop n rest)
WrittenSoFar-more a b c octets rest n so_far taken = record {
  front = so_far.front ++ take n rest;
  parts = so_far.parts ∙ ap (λ xs. so_far.front ++ xs) (sym (take-append-drop n rest)) ∙ sym (append_assoc so_far.front (take n rest) (drop n rest));
  appended = Appends-trans a b c so_far.front (take n rest) so_far.appended taken;
}

-- nothing is left
pub WrittenSoFar-end : (a b : Option (List ℕ)) (octets rest : List ℕ) → WrittenSoFar a b octets rest → rest ≡ [] → Appends a b octets
WrittenSoFar-end a b octets rest so_far none =
    subst (Appends a b) (sym (so_far.parts ∙ ap (λ xs. so_far.front ++ xs) none ∙ append-nil so_far.front)) so_far.appended

-- something is left
pub WrittenSoFar-short : (a b : Option (List ℕ)) (octets rest : List ℕ) → WrittenSoFar a b octets rest → 0 < length rest → AppendsFront a b octets
WrittenSoFar-short a b octets rest so_far some = record {
  count = length so_far.front;
  short = omega (arith, ap length so_far.parts, length-append so_far.front rest);
  appended = subst (Appends a b) (sym (ap (take (length so_far.front)) so_far.parts ∙ take-append_seam so_far.front rest)) so_far.appended;
}

-- the write after these was refused
pub WrittenSoFar-refused : (a b c : Option (List ℕ)) (octets rest : List ℕ) → WrittenSoFar a b octets rest → 0 < length rest → Keeps b c
    → AppendsFront a c octets
WrittenSoFar-refused a b c octets rest so_far some kept =
    let same : WrittenSoFar a c octets rest = record { front = so_far.front; parts = so_far.parts; appended = Appends-kept a b c so_far.front so_far.appended kept } in
    WrittenSoFar-short a c octets rest same some

-- the write after these took none
pub WrittenSoFar-none_taken : (a b c : Option (List ℕ)) (octets rest : List ℕ) (n : ℕ) → WrittenSoFar a b octets rest → 0 < length rest
    → Appends b c (take n rest) → n ≡ 0 → AppendsFront a c octets
WrittenSoFar-none_taken a b c octets rest n so_far some taken none =
    WrittenSoFar-short a c octets (drop n rest) (WrittenSoFar-more a b c octets rest n so_far taken) (omega (arith, length-drop n rest))
