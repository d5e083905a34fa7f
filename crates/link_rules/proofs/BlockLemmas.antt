-- A word writes one block at most, and which words write none.
use Rattle.std.proofs.Common.{◌≡◌, ◌≢◌, ◌∙◌, ℕ, ◌<◌, Bool, true, false, List, [], ◌∷◌, refl, sym, ap, ap₂, subst, arith}
use Rattle.std.specs.Prelude.{if◌then◌else◌}
use Rattle.std.proofs.NetLemmas.Theorems.{IsIpText_unique}
use Rattle.std.specs.Net.Grammar.{IsIpText, IsNumber}
use Rattle.std.specs.declared.net.IpAddr.{IpAddr}
use Rattle.link_rules.specs.Blocks.{IsBlockOf, IsBlockText, bits_of, is_slash}
use Rattle.link_rules.specs.Words.{in_front, parts_by}
use Rattle.link_rules.specs.declared.block.Block.{Block}

block_of : IpAddr → ℕ → Block
block_of address bits = record { address = address; bits = bits }

-- its parts do
one_of : (parts : List (List ℕ)) (a b : Block) → IsBlockOf parts a → IsBlockOf parts b → a ≡ b
unfolding block_of
one_of [] a b is other = absurd is
one_of (one ∷ []) a b is other =
    let same = IsIpText_unique one a.address b.address is.0 other.0 in
    ap₂ block_of same (is.1 ∙ ap bits_of same ∙ sym other.1)
one_of (one ∷ two ∷ []) a b is other =
    ap₂ block_of (IsIpText_unique one a.address b.address is.0 other.0) (sym is.1.1 ∙ other.1.1)
one_of (one ∷ two ∷ three ∷ more) a b is other = absurd is

pub one_block : (word : List ℕ) (a b : Block) → IsBlockText word a → IsBlockText word b → a ≡ b
one_block word a b is other = one_of (parts_by is_slash word) a b is other

-- an address has fewer bits than are to count
pub too_many : (one two : List ℕ) (address : IpAddr) (bits : ℕ) → IsIpText one address → IsNumber 10 two bits → bits_of address < bits → (block : Block) → ¬ IsBlockOf (one ∷ two ∷ []) block
too_many one two address bits writes number more block is =
    let same : bits_of address ≡ bits_of block.address = ap bits_of (IsIpText_unique one address block.address writes is.0) in
    let count : bits ≡ block.bits = sym number.1 ∙ is.1.1 in
    omega (arith, more, count, is.2, same)

-- a text has a part at least
some_more : (here : Bool) (x : ℕ) (parts : List (List ℕ)) → (if here then [] ∷ parts else in_front x parts) ≢ []
some_more true x parts is = cc
some_more false x [] is = cc
some_more false x (part ∷ parts) is = cc

never_none : (test : ℕ → Bool) (text : List ℕ) → parts_by test text ≢ []
never_none test [] is = cc
never_none test (x ∷ xs) is = some_more (test x) x (parts_by test xs) is

-- no block is written in three parts or more
in_three : (one two : List ℕ) (rest : List (List ℕ)) (block : Block) → rest ≢ [] → ¬ IsBlockOf (one ∷ two ∷ rest) block
in_three one two [] block some is = some refl
in_three one two (three ∷ more) block some is = is

pub three_parts : (word one behind two last : List ℕ) → parts_by is_slash word ≡ one ∷ parts_by is_slash behind → parts_by is_slash behind ≡ two ∷ parts_by is_slash last → (block : Block)
    → ¬ IsBlockText word block
three_parts word one behind two last first second block is =
    in_three one two (parts_by is_slash last) block (never_none is_slash last)
    (subst (λ (parts : List (List ℕ)). IsBlockOf parts block) (first ∙ ap (λ (parts : List (List ℕ)). one ∷ parts) second) is)
