-- Letters that look like a space, or like nothing, and part no words.
use Rattle.std.specs.Prelude.{ℕ, nat_le, ◌&&◌, not, List, [], ◌∷◌}
use Rattle.std.specs.List.{count_by}
use Rattle.line_faults.specs.declared.stray.Stray.{Stray}
use Rattle.line_faults.specs.declared.stray.Stray.TheVariants.{Tab, NoBreakSpace, ByteOrderMark}

-- its octets in UTF-8
abbrev pub octets_of : Stray → List ℕ
octets_of Tab = 9 ∷ []
octets_of NoBreakSpace = 0xC2 ∷ 0xA0 ∷ []
octets_of ByteOrderMark = 0xEF ∷ 0xBB ∷ 0xBF ∷ []

-- how many letters the octets have: all but the first octet of a letter are from 80 to BF
abbrev pub letters : List ℕ → ℕ
letters octets = count_by (λ x. not (nat_le 0x80 x && nat_le x 0xBF)) octets
