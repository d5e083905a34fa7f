-- A text in plain letters, by whether it is one.
use Rattle.std.proofs.Common.{◌≡◌, ℕ, Bool, true, false, cond, List, ap, refl, sym}
use Rattle.std.proofs.lemmas.Str.{IsUtf8-from_is_utf8, is_utf8-from_IsUtf8}
use Rattle.std.specs.List.{flat_map}
use Rattle.std.specs.Str.{IsUtf8, chars, encode_utf8_all, is_utf8}
use Rattle.message_text.specs.Plain.{plain_letters, plain_text}

-- the letters of a text
pub letters_plain : (text : List ℕ) → IsUtf8 text → encode_utf8_all (flat_map plain_letters (chars text)) ≡ plain_text text
letters_plain text is = sym (ap (λ b. cond b (encode_utf8_all (flat_map plain_letters (chars text))) text) (is_utf8-from_IsUtf8 text is))

octets_by : (b : Bool) (text : List ℕ) → is_utf8 text ≡ b → (IsUtf8 text → ⊥) → text ≡ plain_text text
octets_by true text e is_not = absurd (is_not (IsUtf8-from_is_utf8 text e))
octets_by false text e is_not = sym (ap (λ b. cond b (encode_utf8_all (flat_map plain_letters (chars text))) text) e)

-- octets that are none
pub octets_plain : (text : List ℕ) → (IsUtf8 text → ⊥) → text ≡ plain_text text
octets_plain text is_not = octets_by (is_utf8 text) text refl is_not
