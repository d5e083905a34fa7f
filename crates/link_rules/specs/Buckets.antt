-- How many may pass.
use Rattle.std.specs.Prelude.{ℕ, ◌+◌, ◌-◌, ◌*◌, ◌/◌, Bool, ltb, nat_eq, nat_le, min}
use Rattle.link_rules.specs.Paces.{count_of, time_of}
use Rattle.link_rules.specs.declared.bucket.Bucket.{Bucket}
use Rattle.link_rules.specs.declared.pace.Pace.{Pace}

-- a bucket of so many, as at the beginning
abbrev pub full : ℕ → Pace → Bucket
full most p = record { most = most; pace = p; left = most; filled = 0 }

-- how many times it was due to be refilled in the time that went by, in milliseconds
abbrev pub times : ℕ → Bucket → ℕ
times now b = (now - b.filled) / time_of b.pace

-- how many that time adds
abbrev pub added : ℕ → Bucket → ℕ
added now b = times now b * count_of b.pace

-- how many are in the bucket at that time
abbrev pub left_at : ℕ → Bucket → ℕ
left_at now b = min b.most (b.left + added now b)

-- the bucket at that time: what is left of the time counts later
abbrev pub filled_at : ℕ → Bucket → Bucket
filled_at now b = record b { left = left_at now b; filled = b.filled + times now b * time_of b.pace }

-- there is one in the bucket at that time
abbrev pub has_at : ℕ → Bucket → Bool
has_at now b = ltb 0 (left_at now b)

-- the bucket has as many as at the beginning at that time
abbrev pub is_full_at : ℕ → Bucket → Bool
is_full_at now b = nat_eq (left_at now b) b.most

-- one is taken out of the bucket, if there is one
abbrev pub one_less : Bucket → Bucket
one_less b = record b { left = b.left - 1 }

-- how many are taken for so many: all, where the bucket never holds so many
abbrev pub share_of : ℕ → Bucket → ℕ
share_of count b = min count b.most

-- there are so many in the bucket
abbrev pub holds : ℕ → Bucket → Bool
holds count b = nat_le (share_of count b) b.left

-- so many are taken out of the bucket
abbrev pub without : ℕ → Bucket → Bucket
without count b = record b { left = b.left - share_of count b }
