-- The emergency messages that a BSC has reported.
use Rattle.std.proofs.Common.{◌≡◌, ◌++◌, Bool, true, false, ◌||◌, List, [], ◌∷◌, refl, subst, sym}
use Rattle.std.proofs.Common.{arith}
use Rattle.std.proofs.lemmas.Bool.Decides.{nat_tests}
use Rattle.std.proofs.lemmas.Grind.{common_steps}
use Rattle.std.proofs.lemmas.List.Folds.{list_any-append}
use Rattle.std.proofs.lemmas.Map.Keys.{IsDistinct-push}
use Rattle.std.proofs.lemmas.Map.Steps.{list_any_congr}
use Rattle.std.specs.Cmp.{IsEquivalence}
use Rattle.std.specs.List.{IsDistinct, list_any}
use Rattle.link_resets.specs.Frames.{same_key}
use Rattle.link_resets.specs.declared.emergency_key.EmergencyKey.{EmergencyKey}

-- a key is the same as itself
same_itself : (k : EmergencyKey) → same_key k k ≡ true
same_itself k = grind (arith, nat_tests, common_steps)

-- whichever is named first
same_turned : (k l : EmergencyKey) → same_key k l ≡ same_key l k
same_turned k l = grind (arith, nat_tests, common_steps)

-- two that are the same are the same as the same others
same_others : (k l m : EmergencyKey) → same_key k l ≡ true → same_key k m ≡ same_key l m
same_others k l m e = grind (arith, nat_tests, common_steps)

-- being the same is an equivalence
pub keys_alike : IsEquivalence same_key
keys_alike = record { refl = same_itself; symm = same_turned; congr = same_others }

-- a key that is known adds nothing
known_by : (k key : EmergencyKey) (found : List EmergencyKey) (b : Bool) → list_any (same_key key) found ≡ true → same_key k key ≡ b → list_any (same_key k) found ≡ (list_any (same_key k) found || b)
known_by k key found true known same = let alike : list_any (same_key k) found ≡ list_any (same_key key) found = list_any_congr keys_alike k key found same in grind (arith, common_steps)
known_by k key found false known same = grind (arith, common_steps)

pub known_key : (key : EmergencyKey) (found : List EmergencyKey) → list_any (same_key key) found ≡ true → (k : EmergencyKey) → list_any (same_key k) found ≡ (list_any (same_key k) found || same_key k key)
known_key key found known k = known_by k key found (same_key k key) known refl

-- one more key
pub any_more : (key : EmergencyKey) (found : List EmergencyKey) (k : EmergencyKey) → list_any (same_key k) (found ++ key ∷ []) ≡ (list_any (same_key k) found || same_key k key)
any_more key found k = let joined : list_any (same_key k) (found ++ key ∷ []) ≡ (list_any (same_key k) found || list_any (same_key k) (key ∷ [])) = list_any-append (same_key k) found (key ∷ []) in grind (arith, common_steps)

-- and the keys are still each there once
pub once_more : (key : EmergencyKey) (found new : List EmergencyKey) → new ≡ found ++ key ∷ [] → IsDistinct same_key found → list_any (same_key key) found ≡ false → IsDistinct same_key new
once_more key found new made once unknown = subst (IsDistinct same_key) (sym made) (IsDistinct-push keys_alike found key once unknown)

-- none is there twice where there are none
pub once_none : IsDistinct same_key []
unfolding IsDistinct
once_none = record {}
