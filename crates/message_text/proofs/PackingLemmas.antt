-- Septets in octets and back.
use Rattle.std.proofs.Common.{◌≡◌, ◌≢◌, ℕ, suc, zero, ◌+◌, ◌-◌, ◌*◌, ◌/◌, ◌%◌, ◌^◌, ◌<◌, ◌≤◌, List, [], ◌∷◌, ◌++◌, length, drop, get_or, refl, ap, sym, ◌∙◌, arith, subst, lit<, append_assoc}
use Rattle.std.proofs.lemmas.List.{append-nil, drop_all}
use Rattle.std.proofs.lemmas.Nat.{mul-le, pow-add, shl_whole}
use Rattle.std.proofs.Math.Nat.{pow-le-pow_right}
use Rattle.std.specs.List.{AllByRecursion}
use Rattle.message_text.specs.Septets.{number, digits, whole_septets}
use Rattle.message_text.specs.Writing.{packed}
use Rattle.message_text.proofs.ListLemmas.{rest_begins}

-- the octets still to come, where septets are left and so many bits are held
unfoldable pub pack_rest : List ℕ → ℕ → ℕ → List ℕ
pack_rest septets held bits = digits 256 ((7 * length septets + bits + 7) / 8) (held + 2 ^ bits * number 128 septets)

-- the septets still to come, where octets are left and so many bits are held
unfoldable pub unpack_rest : List ℕ → ℕ → ℕ → List ℕ
unpack_rest octets held bits = digits 128 ((8 * length octets + bits) / 7) (held + 2 ^ bits * number 256 octets)

two_digits : (base k m : ℕ) (n o : ℕ) → k ≡ m → n ≡ o → digits base k n ≡ digits base m o
two_digits base k m n o e f = ap (λ i. digits base i n) e ∙ ap (digits base m) f

pub pack_begin : (septets : List ℕ) → pack_rest septets 0 0 ≡ packed septets
unfolding pack_rest
pack_begin septets = two_digits 256 _ _ _ _ (omega arith) (omega arith)

-- a septet that fills no octet
pub pack_hold : (septet : ℕ) (rest : List ℕ) (held : ℕ) → pack_rest (septet ∷ rest) held 0 ≡ pack_rest rest (held + septet) 7
unfolding pack_rest
pack_hold septet rest held = two_digits 256 _ _ _ _ (omega arith) (omega arith)

spread_double : (held septet p n : ℕ) → held + 2 * p * (septet + 128 * n) ≡ (held + septet * (2 * p)) + 256 * (p * n)
spread_double held septet p n = omega arith

spread : (held septet p q n : ℕ) → q ≡ 2 * p → held + q * (septet + 128 * n) ≡ (held + septet * q) + 256 * (p * n)
spread held septet p q n e =
    subst (λ (r : ℕ). held + r * (septet + 128 * n) ≡ (held + septet * r) + 256 * (p * n)) (sym e) (spread_double held septet p n)

split_256 : (a n : ℕ) → ((a + 256 * n) % 256 ≡ a % 256) × ((a + 256 * n) / 256 ≡ a / 256 + n)
split_256 a n = (omega arith, omega arith)

-- one more digit in base 256
next_octet : (k m n a b : ℕ) → k ≡ suc m → n ≡ a + 256 * b → digits 256 k n ≡ a % 256 ∷ digits 256 m (a / 256 + b)
next_octet k m n a b e f =
    two_digits 256 k (suc m) n (a + 256 * b) e f
    ∙ ap (λ d. d ∷ digits 256 m ((a + 256 * b) / 256)) (split_256 a b).0
    ∙ ap (λ r. a % 256 ∷ digits 256 m r) (split_256 a b).1

-- a septet that fills one
pub pack_push : (septet : ℕ) (rest : List ℕ) (held bits : ℕ)
    → pack_rest (septet ∷ rest) held (suc bits) ≡ (held + septet * 2 ^ suc bits) % 256 ∷ pack_rest rest ((held + septet * 2 ^ suc bits) / 256) bits
unfolding pack_rest
pack_push septet rest held bits =
    let e : 2 ^ suc bits ≡ 2 * 2 ^ bits = omega arith in
    next_octet _ _ _ _ _ (omega arith) (spread held septet (2 ^ bits) (2 ^ suc bits) (number 128 rest) e)

pub pack_none : (held : ℕ) → pack_rest [] held 0 ≡ []
unfolding pack_rest
pack_none held = refl

pub pack_last : (held bits : ℕ) → bits < 7 → held < 256 → pack_rest [] held (suc bits) ≡ held ∷ []
unfolding pack_rest
pack_last held bits b h =
    let e : held + 2 ^ suc bits * 0 ≡ held + 256 * 0 = omega arith in
    let f : held % 256 ≡ held = omega arith in
    next_octet _ 0 _ held 0 (omega arith) e ∙ ap (λ d. d ∷ []) f

pub unpack_begin : (octets : List ℕ) → unpack_rest octets 0 0 ≡ whole_septets octets
unfolding unpack_rest
unpack_begin octets = two_digits 128 _ _ _ _ (omega arith) (omega arith)

split_128 : (a n : ℕ) → ((a + 128 * n) % 128 ≡ a % 128) × ((a + 128 * n) / 128 ≡ a / 128 + n)
split_128 a n = (omega arith, omega arith)

-- one more digit in base 128
next_septet : (k m n a b : ℕ) → k ≡ suc m → n ≡ a + 128 * b → digits 128 k n ≡ a % 128 ∷ digits 128 m (a / 128 + b)
next_septet k m n a b e f =
    two_digits 128 k (suc m) n (a + 128 * b) e f
    ∙ ap (λ d. d ∷ digits 128 m ((a + 128 * b) / 128)) (split_128 a b).0
    ∙ ap (λ r. a % 128 ∷ digits 128 m r) (split_128 a b).1

octet_double : (held octet p n : ℕ) → held + p * (octet + 256 * n) ≡ (held + octet * p) + 128 * (2 * p * n)
octet_double held octet p n = omega arith

spread_octet : (held octet p q n : ℕ) → q ≡ 2 * p → held + p * (octet + 256 * n) ≡ (held + octet * p) + 128 * (q * n)
spread_octet held octet p q n e =
    subst (λ (r : ℕ). held + p * (octet + 256 * n) ≡ (held + octet * p) + 128 * (r * n)) (sym e) (octet_double held octet p n)

-- an octet gives one septet
pub unpack_push : (octet : ℕ) (rest : List ℕ) (held bits : ℕ)
    → unpack_rest (octet ∷ rest) held bits ≡ (held + octet * 2 ^ bits) % 128 ∷ unpack_rest rest ((held + octet * 2 ^ bits) / 128) (suc bits)
unfolding unpack_rest
unpack_push octet rest held bits =
    let e : 2 ^ suc bits ≡ 2 * 2 ^ bits = omega arith in
    next_septet _ _ _ _ _ (omega arith) (spread_octet held octet (2 ^ bits) (2 ^ suc bits) (number 256 rest) e)

-- and a second one where seven bits are held
pub unpack_full : (rest : List ℕ) (held : ℕ) → held < 128 → unpack_rest rest held 7 ≡ held ∷ unpack_rest rest 0 0
unfolding unpack_rest
unpack_full rest held h =
    let m : held % 128 ≡ held = omega arith in
    let d : held / 128 + number 256 rest ≡ 0 + 1 * number 256 rest = omega arith in
    next_septet _ _ _ held (number 256 rest) (omega arith) (omega arith)
    ∙ ap (λ d. d ∷ digits 128 ((8 * length rest + 0) / 7) (held / 128 + number 256 rest)) m
    ∙ ap (λ n. held ∷ digits 128 ((8 * length rest + 0) / 7) n) d

pub unpack_end : (held bits : ℕ) → bits < 7 → unpack_rest [] held bits ≡ []
unfolding unpack_rest
unpack_end held bits b = let e : (0 + bits) / 7 ≡ 0 = omega arith in ap (λ k. digits 128 k (held + 2 ^ bits * 0)) e

pub length_digits : (base k n : ℕ) → length (digits base k n) ≡ k
length_digits base zero n = refl
length_digits base (suc k) n = ap suc (length_digits base k (n / base))

pub low_digits : (k n : ℕ) → AllByRecursion (λ septet. septet < 128) (digits 128 k n)
low_digits zero n = tt
low_digits (suc k) n = let low : n % 128 < 128 = omega arith in (low, low_digits k (n / 128))

-- so many bits hold the septets
number_below : (septets : List ℕ) → AllByRecursion (λ septet. septet < 128) septets → number 128 septets < 2 ^ (7 * length septets)
number_below [] h = lit< tt
number_below (s ∷ rest) h =
    let e : 7 * suc (length rest) ≡ 7 + 7 * length rest = omega arith in
    let p : 2 ^ (7 + 7 * length rest) ≡ 128 * 2 ^ (7 * length rest) = pow-add 2 7 (7 * length rest) in
    let low : s < 128 = h.0 in
    let r = number_below rest h.1 in
    let bound : s + 128 * number 128 rest < 128 * 2 ^ (7 * length rest) = omega arith in
    subst (λ (m : ℕ). s + 128 * number 128 rest < m) (sym (ap (λ i. 2 ^ i) e ∙ p)) bound

number_digits : (k n : ℕ) → n < 2 ^ (8 * k) → number 256 (digits 256 k n) ≡ n
number_digits zero n h = let small : n < 1 = h in omega arith
number_digits (suc k) n h =
    let e : 8 * suc k ≡ 8 + 8 * k = omega arith in
    let p : 2 ^ (8 + 8 * k) ≡ 256 * 2 ^ (8 * k) = pow-add 2 8 (8 * k) in
    let bound : n < 256 * 2 ^ (8 * k) = subst (λ (m : ℕ). n < m) (ap (λ i. 2 ^ i) e ∙ p) h in
    let less : n / 256 < 2 ^ (8 * k) = omega arith in
    let r = number_digits k (n / 256) less in
    let back : n % 256 + 256 * (n / 256) ≡ n = omega arith in
    ap (λ m. n % 256 + 256 * m) r ∙ back

digits_number : (septets : List ℕ) → AllByRecursion (λ septet. septet < 128) septets → digits 128 (length septets) (number 128 septets) ≡ septets
digits_number [] h = refl
digits_number (s ∷ rest) h =
    let low : s < 128 = h.0 in
    let d : (s + 128 * number 128 rest) % 128 ≡ s = omega arith in
    let q : (s + 128 * number 128 rest) / 128 ≡ number 128 rest = omega arith in
    ap (λ x. x ∷ digits 128 (length rest) ((s + 128 * number 128 rest) / 128)) d
    ∙ ap (λ m. s ∷ digits 128 (length rest) m) q
    ∙ ap (λ l. s ∷ l) (digits_number rest h.1)

packed_number : (septets : List ℕ) → AllByRecursion (λ septet. septet < 128) septets → number 256 (packed septets) ≡ number 128 septets
packed_number septets h =
    let enough : 7 * length septets ≤ 8 * ((7 * length septets + 7) / 8) = omega arith in
    let wide : 2 ^ (7 * length septets) ≤ 2 ^ (8 * ((7 * length septets + 7) / 8)) = pow-le-pow_right (omega arith) enough in
    let small = number_below septets h in
    number_digits ((7 * length septets + 7) / 8) (number 128 septets) (omega arith)

-- so many septets stand whole in the octets that they fill
count_back : (m q r : ℕ) → m ≡ 8 * q + r → r < 7 → 8 * ((7 * m + 7) / 8) / 7 ≡ m
count_back m q r e h = omega arith

-- septets in octets are read as they are, where fewer than seven bits are left
pub whole_packed : (septets : List ℕ) → AllByRecursion (λ septet. septet < 128) septets → length septets % 8 ≢ 7 → whole_septets (packed septets) ≡ septets
whole_packed septets h part =
    let n : length (packed septets) ≡ (7 * length septets + 7) / 8 = length_digits 256 ((7 * length septets + 7) / 8) (number 128 septets) in
    let e : length septets ≡ 8 * (length septets / 8) + length septets % 8 = omega arith in
    let r : length septets % 8 < 7 = omega arith in
    let back = count_back (length septets) (length septets / 8) (length septets % 8) e r in
    two_digits 128 _ (length septets) _ (number 128 septets) (ap (λ k. 8 * k / 7) n ∙ back) (packed_number septets h)
    ∙ digits_number septets h

pub length_packed : (septets : List ℕ) → length (packed septets) ≡ (7 * length septets + 7) / 8
length_packed septets = length_digits 256 ((7 * length septets + 7) / 8) (number 128 septets)

-- the steps at a loop's place
septet_at : (septets : List ℕ) (i septet : ℕ) → i < length septets → septet ≡ get_or septets i 0 → drop i septets ≡ septet ∷ drop (i + 1) septets
septet_at septets i septet h e = rest_begins septets i 0 septet h e

pub pack_hold_at : (septets made total : List ℕ) (i septet held bits all : ℕ) → i < length septets → septet ≡ get_or septets i 0 → bits ≡ 0 → all ≡ held + septet * 2 ^ bits
    → made ++ pack_rest (drop i septets) held bits ≡ total → made ++ pack_rest (drop (i + 1) septets) all 7 ≡ total
pack_hold_at septets made total i septet held bits all h e none a so_far =
    let one : 2 ^ bits ≡ 1 = ap (λ b. 2 ^ b) none in
    let b : all ≡ held + septet = a ∙ ap (λ p. held + septet * p) one ∙ omega arith in
    ap (λ n. made ++ pack_rest (drop (i + 1) septets) n 7) b
    ∙ ap (λ r. made ++ r) (sym (pack_hold septet (drop (i + 1) septets) held))
    ∙ ap (λ b. made ++ pack_rest (septet ∷ drop (i + 1) septets) held b) (sym none)
    ∙ ap (λ s. made ++ pack_rest s held bits) (sym (septet_at septets i septet h e))
    ∙ so_far

pub pack_push_at : (septets made total : List ℕ) (i septet held bits all : ℕ) → i < length septets → septet ≡ get_or septets i 0 → 0 < bits → all ≡ held + septet * 2 ^ bits
    → made ++ pack_rest (drop i septets) held bits ≡ total → (made ++ all % 256 ∷ []) ++ pack_rest (drop (i + 1) septets) (all / 256) (bits - 1) ≡ total
pack_push_at septets made total i septet held bits all h e some a so_far =
    let b : suc (bits - 1) ≡ bits = omega arith in
    append_assoc made (all % 256 ∷ []) (pack_rest (drop (i + 1) septets) (all / 256) (bits - 1))
    ∙ ap (λ n. made ++ (n % 256 ∷ pack_rest (drop (i + 1) septets) (n / 256) (bits - 1))) (a ∙ ap (λ k. held + septet * 2 ^ k) (sym b))
    ∙ ap (λ r. made ++ r) (sym (pack_push septet (drop (i + 1) septets) held (bits - 1)))
    ∙ ap (λ k. made ++ pack_rest (septet ∷ drop (i + 1) septets) held k) b
    ∙ ap (λ s. made ++ pack_rest s held bits) (sym (septet_at septets i septet h e))
    ∙ so_far

pub unpack_at : (octets made total : List ℕ) (i octet held bits all : ℕ) → i < length octets → octet ≡ get_or octets i 0 → all ≡ held + octet * 2 ^ bits
    → made ++ unpack_rest (drop i octets) held bits ≡ total → (made ++ all % 128 ∷ []) ++ unpack_rest (drop (i + 1) octets) (all / 128) (bits + 1) ≡ total
unpack_at octets made total i octet held bits all h e a so_far =
    let b : bits + 1 ≡ suc bits = omega arith in
    append_assoc made (all % 128 ∷ []) (unpack_rest (drop (i + 1) octets) (all / 128) (bits + 1))
    ∙ ap (λ k. made ++ (all % 128 ∷ unpack_rest (drop (i + 1) octets) (all / 128) k)) b
    ∙ ap (λ n. made ++ (n % 128 ∷ unpack_rest (drop (i + 1) octets) (n / 128) (suc bits))) a
    ∙ ap (λ r. made ++ r) (sym (unpack_push octet (drop (i + 1) octets) held bits))
    ∙ ap (λ s. made ++ unpack_rest s held bits) (sym (septet_at octets i octet h e))
    ∙ so_far

pub unpack_full_at : (octets made total : List ℕ) (i octet held bits all : ℕ) → i < length octets → octet ≡ get_or octets i 0 → bits ≡ 6 → all ≡ held + octet * 2 ^ bits → all / 128 < 128
    → made ++ unpack_rest (drop i octets) held bits ≡ total → ((made ++ all % 128 ∷ []) ++ (all / 128) ∷ []) ++ unpack_rest (drop (i + 1) octets) 0 0 ≡ total
unpack_full_at octets made total i octet held bits all h e full a small so_far =
    let b : bits + 1 ≡ 7 = omega arith in
    append_assoc (made ++ all % 128 ∷ []) ((all / 128) ∷ []) (unpack_rest (drop (i + 1) octets) 0 0)
    ∙ ap (λ r. (made ++ all % 128 ∷ []) ++ r) (sym (unpack_full (drop (i + 1) octets) (all / 128) small))
    ∙ ap (λ k. (made ++ all % 128 ∷ []) ++ unpack_rest (drop (i + 1) octets) (all / 128) k) (sym b)
    ∙ unpack_at octets made total i octet held bits all h e a so_far

-- a shift loses no bit
pub shifted : (n bits : ℕ) → n < 256 → bits < 8 → (n * 2 ^ bits) % 2 ^ 16 ≡ n * 2 ^ bits
shifted n bits h k = shl_whole n 8 bits 16 h (omega arith)

-- how much is held
held_double : (held septet p : ℕ) → held < 2 * p → septet < 128 → (held + septet * (2 * p)) / 256 < p
held_double held septet p h k =
    let a : septet * p ≤ 127 * p = mul-le septet p 127 p (omega arith) (omega arith) in
    omega arith

pub held_pushed : (held septet bits all : ℕ) → held < 2 ^ bits → septet < 128 → 0 < bits → all ≡ held + septet * 2 ^ bits → all / 256 < 2 ^ (bits - 1)
held_pushed held septet bits all h k some a =
    let b : bits ≡ suc (bits - 1) = omega arith in
    let p : 2 ^ suc (bits - 1) ≡ 2 * 2 ^ (bits - 1) = omega arith in
    let e : 2 ^ bits ≡ 2 * 2 ^ (bits - 1) = ap (λ k. 2 ^ k) b ∙ p in
    subst (λ (n : ℕ). n / 256 < 2 ^ (bits - 1)) (sym (a ∙ ap (λ q. held + septet * q) e))
    (held_double held septet (2 ^ (bits - 1)) (subst (λ (q : ℕ). held < q) e h) k)

held_octet : (held octet p : ℕ) → held < p → octet < 256 → (held + octet * p) / 128 < 2 * p
held_octet held octet p h k =
    let a : octet * p ≤ 255 * p = mul-le octet p 255 p (omega arith) (omega arith) in
    omega arith

pub held_more : (held octet bits all : ℕ) → held < 2 ^ bits → octet < 256 → all ≡ held + octet * 2 ^ bits → all / 128 < 2 ^ (bits + 1)
held_more held octet bits all h k a =
    let b : bits + 1 ≡ suc bits = omega arith in
    let p : 2 ^ suc bits ≡ 2 * 2 ^ bits = omega arith in
    let e : 2 ^ (bits + 1) ≡ 2 * 2 ^ bits = ap (λ k. 2 ^ k) b ∙ p in
    subst (λ (n : ℕ). n / 128 < 2 ^ (bits + 1)) (sym a) (subst (λ (q : ℕ). (held + octet * 2 ^ bits) / 128 < q) (sym e) (held_octet held octet (2 ^ bits) h k))

pub held_first : (held septet bits all : ℕ) → held < 2 ^ bits → septet < 128 → bits ≡ 0 → all ≡ held + septet * 2 ^ bits → all < 128
held_first held septet bits all h k none a =
    let one : 2 ^ bits ≡ 1 = ap (λ b. 2 ^ b) none in
    let low : held < 1 = subst (λ (p : ℕ). held < p) one h in
    let b : all ≡ held + septet * 1 = a ∙ ap (λ p. held + septet * p) one in
    omega arith

-- at a loop's end
pub pack_done_none : (septets made total : List ℕ) (i held bits : ℕ) → length septets ≤ i → bits ≡ 0 → made ++ pack_rest (drop i septets) held bits ≡ total → made ≡ total
pack_done_none septets made total i held bits h none so_far =
    sym (append-nil made) ∙ ap (λ r. made ++ r) (sym (pack_none held)) ∙ ap (λ b. made ++ pack_rest [] held b) (sym none)
    ∙ ap (λ s. made ++ pack_rest s held bits) (sym (drop_all i septets h)) ∙ so_far

pub pack_done_last : (septets made total : List ℕ) (i held bits : ℕ) → length septets ≤ i → 0 < bits → bits < 8 → held < 2 ^ bits
    → made ++ pack_rest (drop i septets) held bits ≡ total → made ++ held ∷ [] ≡ total
pack_done_last septets made total i held bits h some few low so_far =
    let b : suc (bits - 1) ≡ bits = omega arith in
    let few_bits : bits ≤ 7 = omega arith in
    let wide : 2 ^ bits ≤ 2 ^ 7 = pow-le-pow_right (omega arith) few_bits in
    let small : held < 256 = omega arith in
    ap (λ r. made ++ r) (sym (pack_last held (bits - 1) (omega arith) small)) ∙ ap (λ k. made ++ pack_rest [] held k) b
    ∙ ap (λ s. made ++ pack_rest s held bits) (sym (drop_all i septets h)) ∙ so_far

pub unpack_done : (octets made total : List ℕ) (i held bits : ℕ) → length octets ≤ i → bits < 7 → made ++ unpack_rest (drop i octets) held bits ≡ total → made ≡ total
unpack_done octets made total i held bits h few so_far =
    sym (append-nil made) ∙ ap (λ r. made ++ r) (sym (unpack_end held bits few))
    ∙ ap (λ s. made ++ unpack_rest s held bits) (sym (drop_all i octets h)) ∙ so_far
