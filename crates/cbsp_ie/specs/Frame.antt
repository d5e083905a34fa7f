-- The octets of a frame, in which a message travels (3GPP TS 48.049, 8.1).
use Rattle.std.specs.Prelude.{ℕ, List, ◌∷◌, ◌++◌, length}
use Rattle.std.specs.Int.{bytes_high_first}

-- the most octets that a body may have to be read
abbrev pub longest_body : ℕ
longest_body = 262144

-- the type, the body's length in three octets, most significant first, and the body
abbrev pub framed : ℕ → List ℕ → List ℕ
framed kind body = kind ∷ bytes_high_first 3 (length body) ++ body
