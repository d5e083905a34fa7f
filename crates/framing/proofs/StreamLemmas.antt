-- Cutting a stream from its front.
use Rattle.std.proofs.Common.{◌≡◌, ℕ, ◌/◌, ◌%◌, ◌<◌, ◌≤◌, List, [], ◌∷◌, ◌++◌, length, get_or, take, drop, refl, sym, ap, ◌∙◌, subst, arith, append_assoc, append-nil, length-append, take-append-drop}
use Rattle.std.specs.List.{AllByRecursion, flat_map, IsSplitAt}
use Rattle.std.proofs.Math.Seq.{take-append_seam, drop-append_seam}
use Rattle.std.proofs.lemmas.Grind.{flat_map-append}
use Rattle.byteorder.specs.Endian.{big_bytes, big_number}
use Rattle.byteorder.specs.Numbers.{big_number-reads_back}
use Rattle.framing.specs.declared.frame.Frame.{Frame}
use Rattle.cbsp_ie.specs.Frame.{framed, longest_body}
use Rattle.framing.specs.Streams.{Cuts, IsReadable, BeginsWithNoFrame, IsTooLong, announced, frame_octets, OneCut, PiecesJoin, FramesAreCut}
use Rattle.framing.specs.Framers.{Framing, EndsTooLong}

-- the octets are frames, which stand behind the old ones, and the rest
pub record CutSoFar (octets : List ℕ) (old new : List Frame) (rest : List ℕ) : Type 0 where
  pub more : List Frame
  pub frames : new ≡ old ++ more
  pub parts : octets ≡ flat_map frame_octets more ++ rest
  pub each : AllByRecursion IsReadable more

-- a frame announces the length of its body
pub announced-frame : (f : Frame) (tail : List ℕ) → IsReadable f → announced (frame_octets f ++ tail) ≡ length f.body
announced-frame f tail readable = big_number-reads_back 3 (length f.body) (f.body ++ tail) (omega arith)

-- the length stands in the first four octets
pub announced-append : (xs ys : List ℕ) → 4 ≤ length xs → announced (xs ++ ys) ≡ announced xs
announced-append (a ∷ b ∷ c ∷ d ∷ xs) ys four = refl
announced-append _ ys four = absurd (omega arith)

-- four octets are enough to tell that a frame is too long
pub IsTooLong-append : (xs ys : List ℕ) → IsTooLong xs → IsTooLong (xs ++ ys)
IsTooLong-append xs ys long = (omega (arith, length-append xs ys), subst (λ n. longest_body < n) (sym (announced-append xs ys long.0)) long.1)

-- where the first frame is too long no whole frame stands
pub IsTooLong-no_frame : (xs : List ℕ) → IsTooLong xs → BeginsWithNoFrame xs
IsTooLong-no_frame xs long f tail readable same =
    omega (arith, ap announced same ∙ announced-frame f tail readable, long.1, readable)

-- a piece after a frame that is too long
pub EndsTooLong-again : (old : Framing) (piece : List ℕ) (n : ℕ) → IsTooLong old.rest → length old.rest ≡ 4 → n ≡ announced old.rest → EndsTooLong old piece n old
EndsTooLong-again old piece n long four same =
    let still = IsTooLong-append old.rest piece long in
    record {
      more = [];
      tail = old.rest ++ piece;
      frames = sym (append-nil old.frames);
      cuts = record { whole = refl; each = tt; partial = IsTooLong-no_frame (old.rest ++ piece) still };
      too_long = still;
      length_is = same ∙ sym (announced-append old.rest piece long.0);
      rest = sym (subst (λ k. take k (old.rest ++ piece) ≡ old.rest) four (take-append_seam old.rest piece));
    }

-- a frame is its kind and its body
abbrev frame_of : ℕ → List ℕ → Frame
frame_of kind body = record { kind = kind; body = body }

-- frames of equal parts
frame-by_parts : (f g : Frame) → f.kind ≡ g.kind → f.body ≡ g.body → f ≡ g
frame-by_parts f g kinds bodies = ap (λ k. frame_of k f.body) kinds ∙ ap (frame_of g.kind) bodies

-- lists of equal parts
cons-equal : (f g : Frame) (xs ys : List Frame) → f ≡ g → xs ≡ ys → f ∷ xs ≡ g ∷ ys
cons-equal f g xs ys p q = cc

-- octets that begin with a frame begin with no other, and what follows is the same
pub frame_octets-injective : (f g : Frame) (xs ys : List ℕ) → IsReadable f → IsReadable g → frame_octets f ++ xs ≡ frame_octets g ++ ys
    → (f ≡ g) × (xs ≡ ys)
frame_octets-injective f g xs ys p q same =
    let lengths : length f.body ≡ length g.body = sym (announced-frame f xs p) ∙ ap announced same ∙ announced-frame g ys q in
    let kinds : f.kind ≡ g.kind = cc in
    let rests : f.body ++ xs ≡ g.body ++ ys = ap (drop 4) same in
    let bodies : f.body ≡ g.body =
    sym (take-append_seam f.body xs) ∙ ap (take (length f.body)) rests ∙ ap (λ n. take n (g.body ++ ys)) lengths ∙ take-append_seam g.body ys in
    let tails : xs ≡ ys =
    sym (drop-append_seam f.body xs) ∙ ap (drop (length f.body)) rests ∙ ap (λ n. drop n (g.body ++ ys)) lengths ∙ drop-append_seam g.body ys in
    (frame-by_parts f g kinds bodies, tails)

-- what stands behind the first frame of a stream is cut into the other frames
Cuts-after : (f : Frame) (frames : List Frame) (rest : List ℕ) → AllByRecursion IsReadable frames → BeginsWithNoFrame rest
    → Cuts (flat_map frame_octets frames ++ rest) frames rest
Cuts-after f frames rest each partial = record { whole = refl; each = each; partial = partial }

pub one_cut : OneCut
one_cut stream [] [] r t p q = (refl, sym p.whole ∙ q.whole)
one_cut stream [] (g ∷ ys) r t p q =
    absurd (p.partial g (flat_map frame_octets ys ++ t) q.each.0 (sym p.whole ∙ q.whole ∙ append_assoc (frame_octets g) (flat_map frame_octets ys) t))
one_cut stream (f ∷ xs) [] r t p q =
    absurd (q.partial f (flat_map frame_octets xs ++ r) p.each.0 (sym q.whole ∙ p.whole ∙ append_assoc (frame_octets f) (flat_map frame_octets xs) r))
one_cut stream (f ∷ xs) (g ∷ ys) r t p q =
    let same : frame_octets f ++ (flat_map frame_octets xs ++ r) ≡ frame_octets g ++ (flat_map frame_octets ys ++ t) =
    sym (append_assoc (frame_octets f) (flat_map frame_octets xs) r) ∙ sym p.whole ∙ q.whole ∙ append_assoc (frame_octets g) (flat_map frame_octets ys) t in
    let split = frame_octets-injective f g _ _ p.each.0 q.each.0 same in
    let others = one_cut (flat_map frame_octets xs ++ r) xs ys r t (Cuts-after f xs r p.each.1 p.partial)
    (record { whole = split.1; each = q.each.1; partial = q.partial }) in
    (cons-equal f g xs ys split.0 others.0, others.1)

-- frames and further frames, each of them read
AllByRecursion-append : (xs ys : List Frame) → AllByRecursion IsReadable xs → AllByRecursion IsReadable ys → AllByRecursion IsReadable (xs ++ ys)
AllByRecursion-append [] ys p q = q
AllByRecursion-append (x ∷ xs) ys p q = (p.0, AllByRecursion-append xs ys p.1 q)

pub pieces_join : PiecesJoin
pieces_join a b xs ys r t p q = record {
  whole = ap (λ s. s ++ b) p.whole ∙ append_assoc (flat_map frame_octets xs) r b ∙ ap (λ s. flat_map frame_octets xs ++ s) q.whole
      ∙ sym (append_assoc (flat_map frame_octets xs) (flat_map frame_octets ys) t) ∙ ap (λ s. s ++ t) (sym (flat_map-append frame_octets xs ys));
  each = AllByRecursion-append xs ys p.each q.each;
  partial = q.partial;
}

-- no frame stands in no octets
pub no_frame-nil : BeginsWithNoFrame []
no_frame-nil f tail readable same = cc

pub frames_are_cut : FramesAreCut
frames_are_cut frames each = record { whole = sym (append-nil (flat_map frame_octets frames)); each = each; partial = no_frame-nil }

-- a number of three octets is written as it was read
three_back : (a b c : ℕ) → a < 256 → b < 256 → c < 256 → big_bytes 3 (big_number 3 (a ∷ b ∷ c ∷ [])) ≡ a ∷ b ∷ c ∷ []
three_back a b c p q r =
    let n : ℕ = big_number 3 (a ∷ b ∷ c ∷ []) in
    let high : n / 65536 % 256 ≡ a = omega arith in
    let middle : n / 256 % 256 ≡ b = omega arith in
    let low : n % 256 ≡ c = omega arith in
    rw (high, middle, low) refl

-- octets that announce the length of the body behind the first four are the frame of that, and what follows
pub whole_frame : (xs rest body after : List ℕ) (n : ℕ) → 4 ≤ length xs → ((i : ℕ) → get_or xs i 0 < 256) → n ≡ announced xs
    → rest ≡ drop 4 xs → IsSplitAt rest n body after → xs ≡ framed (get_or xs 0 0) body ++ after
whole_frame (k ∷ a ∷ b ∷ c ∷ xs) rest body after n four small same behind split =
    let high : a < 256 = small 1 in
    let middle : b < 256 = small 2 in
    let low : c < 256 = small 3 in
    let octets : big_bytes 3 (length body) ≡ a ∷ b ∷ c ∷ [] = ap (big_bytes 3) (split.3 ∙ same) ∙ three_back a b c high middle low in
    let parts : xs ≡ body ++ after = sym behind ∙ sym (take-append-drop n rest) ∙ sym (ap (λ s. s ++ after) split.1 ∙ ap (λ s. take n rest ++ s) split.2) in
    ap (λ s. k ∷ a ∷ b ∷ c ∷ s) parts ∙ ap (λ s. (k ∷ s) ++ (body ++ after)) (sym octets)
whole_frame _ rest body after n four small same behind split = absurd (omega arith)
