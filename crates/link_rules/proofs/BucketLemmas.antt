-- What a bucket adds.
use Rattle.std.proofs.Common.{◌≡◌, ℕ, ◌+◌, ◌*◌, ◌/◌, ◌≤◌, min, arith}
use Rattle.std.proofs.Math.Nat.{div-mul-le_self}

-- so many whole times are no more than the time that went by
pub whole_times : (n time : ℕ) → n / time * time ≤ n
whole_times n time = div-mul-le_self n time

-- where a bucket holds no more than can be counted, it makes no difference that what is added is counted no further
pub up_to_the_most : (left added most limit : ℕ) → most ≤ limit → min (min (left + min added limit) limit) most ≡ min most (left + added)
up_to_the_most left added most limit few = omega arith
