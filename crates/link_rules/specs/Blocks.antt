-- Blocks of addresses.
use Rattle.std.specs.Prelude.{◌≡◌, ℕ, ◌-◌, ◌/◌, ◌^◌, ◌≤◌, ◌==◌, ◌||◌, ◌&&◌, Bool, false, List, [], ◌∷◌, nat_eq}
use Rattle.std.specs.Net.Addr.{ipv4_bits, ipv6_bits}
use Rattle.std.specs.Net.Grammar.{IsIpText, IsNumber}
use Rattle.std.specs.declared.net.IpAddr.{IpAddr}
use Rattle.std.specs.declared.net.IpAddr.TheVariants.{V4, V6}
use Rattle.link_rules.specs.declared.block.Block.{Block}
use Rattle.link_rules.specs.Words.{parts_by}

-- how many bits an address has
abbrev pub bits_of : IpAddr → ℕ
bits_of (V4 a) = 32
bits_of (V6 a) = 128

-- two numbers have so many leading bits in common
abbrev pub is_in_v4 : ℕ → ℕ → ℕ → Bool
is_in_v4 bits x y = nat_eq bits 0 || nat_eq (x / 2 ^ (32 - bits)) (y / 2 ^ (32 - bits))

abbrev pub is_in_v6 : ℕ → ℕ → ℕ → Bool
is_in_v6 bits x y = nat_eq bits 0 || nat_eq (x / 2 ^ (128 - bits)) (y / 2 ^ (128 - bits))

-- of an address of the block and another one
abbrev pub have_common : ℕ → IpAddr → IpAddr → Bool
have_common bits (V4 a) (V4 b) = is_in_v4 bits (ipv4_bits a) (ipv4_bits b)
have_common bits (V4 a) (V6 b) = false
have_common bits (V6 a) (V4 b) = false
have_common bits (V6 a) (V6 b) = is_in_v6 bits (ipv6_bits a) (ipv6_bits b)

-- the address is one of the block
abbrev pub is_in : Block → IpAddr → Bool
is_in block address = have_common block.bits block.address address

-- the two are one address, of which as many bits count
abbrev pub is_same_block : Block → Block → Bool
is_same_block a b = nat_eq a.bits b.bits && is_in (record { address = a.address; bits = bits_of a.address }) b.address

-- `/`, which is 47
abbrev pub is_slash : ℕ → Bool
is_slash x = x == 47

-- what stands before, between and behind each `/` writes the block: an address alone, or an address and how many of its bits count
abbrev pub IsBlockOf : List (List ℕ) → Block → Type 0
IsBlockOf [] block = ⊥
IsBlockOf (one ∷ []) block = IsIpText one block.address × (block.bits ≡ bits_of block.address)
IsBlockOf (one ∷ two ∷ []) block = IsIpText one block.address × IsNumber 10 two block.bits × (block.bits ≤ bits_of block.address)
IsBlockOf (one ∷ two ∷ three ∷ more) block = ⊥

-- the word writes the block
abbrev pub IsBlockText : List ℕ → Block → Type 0
IsBlockText word block = IsBlockOf (parts_by is_slash word) block
