-- What a blank line says of broadcasts.
use Rattle.std.proofs.Common.{◌≡◌, ◌%◌, ◌<◌, ℕ, arith, ap}
use Rattle.std.proofs.lemmas.List.{get_or-replicate}
use Rattle.mirror.specs.Line.{blank, blank_line, state_of}

-- in a blank line no version was broadcast
pub uncounted_blank : (s : ℕ) → (state_of blank_line s).count ≡ 0
uncounted_blank s =
    let below : s % 16 < 16 = omega arith in
    ap (λ k. k.count) (get_or-replicate 16 (s % 16) blank blank below)

-- so each count fits 16 bits
pub counted_blank : (s : ℕ) → (state_of blank_line s).count < 65536
counted_blank s = omega (arith, uncounted_blank s)
