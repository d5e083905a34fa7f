-- The past at each step of a walk over the journal, and lists along such a walk.
use Rattle.std.proofs.Common.{◌≡◌, ℕ, ◌+◌, ◌<◌, ◌≤◌, Bool, true, false, ◌||◌, List, [], ◌∷◌, ◌++◌, None, refl, ◌∙◌, length, get_or, take, map, reverse, ap, arith}
use Rattle.std.specs.Prelude.{if◌then◌else◌}
use Rattle.std.specs.List.{list_any}
use Rattle.std.proofs.lemmas.List.{take_more, reverse-append, length-reverse, length-take-le}
use Rattle.centre_events.specs.Base.{empty_base}
use Rattle.centre_events.specs.Effects.{presence_mark}
use Rattle.centre_events.specs.Past.{since, position, entry_count}
use Rattle.centre_events.specs.declared.effect.Effect.TheVariants.{Frees, Leaves}
use Rattle.centre_events.specs.declared.entry.Entry.{Entry}

-- one entry further, the past is that entry and the past before it
pub past_more : {X : Type 0} (xs : List X) (i : ℕ) (d : X) → i < length xs → reverse (take (i + 1) xs) ≡ get_or xs i d ∷ reverse (take i xs)
past_more xs i d h = ap reverse (take_more xs i d h) ∙ reverse-append (take i xs) (get_or xs i d ∷ [])

position_since : (es : List Entry) → position (since empty_base es) ≡ length es
position_since [] = refl
position_since (e ∷ es) = omega (arith, position_since es)

-- the number of the last entry that the walk has passed
pub position_past : (xs : List Entry) (i : ℕ) → i ≤ length xs → position (since empty_base (reverse (take i xs))) ≡ i
position_past xs i h = position_since (reverse (take i xs)) ∙ length-reverse (take i xs) ∙ length-take-le i xs h

-- the number of the last entry of a journal
pub position_journal : (xs : List Entry) → position (since empty_base (reverse xs)) ≡ length xs
position_journal xs = position_since (reverse xs) ∙ length-reverse xs

count_since : (es : List Entry) → entry_count (since empty_base es) ≡ length es
count_since [] = refl
count_since (e ∷ es) = omega (arith, count_since es)

-- how many entries a journal has
pub count_journal : (xs : List Entry) → entry_count (since empty_base (reverse xs)) ≡ length xs
count_journal xs = count_since (reverse xs) ∙ length-reverse xs

-- a hold that ends sets no presence
pub freed : (t : Bool) → presence_mark (if t then Frees else Leaves) ≡ None
freed true = refl
freed false = refl

-- a list of images of two lists
pub map_joined : {X Y : Type 0} (f : X → Y) (xs ys : List X) → map f (xs ++ ys) ≡ map f xs ++ map f ys
map_joined f [] ys = refl
map_joined f (x ∷ xs) ys = ap (λ zs. f x ∷ zs) (map_joined f xs ys)

-- the images pass where the elements' images do
pub any_image : {X Y : Type 0} (p : Y → Bool) (f : X → Y) (xs : List X) → list_any p (map f xs) ≡ list_any (λ x. p (f x)) xs
any_image p f [] = refl
any_image p f (x ∷ xs) = ap (λ t. p (f x) || t) (any_image p f xs)
