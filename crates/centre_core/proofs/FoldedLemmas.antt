-- What a centre's past says, whose base has the entries that were folded, is what all its entries say.
use Rattle.std.proofs.Common.{◌≡◌, ℕ, ◌+◌, ◌-◌, ◌^◌, ◌<◌, true, false, ◌||◌, List, [], ◌∷◌, ◌++◌, Result, Ok, Err, length, reverse, refl, sym, ◌∙◌, ap, arith, length-append}
use Rattle.std.specs.Prelude.{OnOk, nat_le, if◌then◌else◌}
use Rattle.std.proofs.lemmas.Bool.{lt-leb, leb-false, or_parts}
use Rattle.std.proofs.lemmas.List.{length-reverse}
use Rattle.coverage_plan.specs.declared.edit.Edit.{Edit}
use Rattle.centre_events.specs.Base.{Base}
use Rattle.centre_events.specs.Folding.{base_of, folded, onto}
use Rattle.centre_events.specs.Past.{Past, entry_count, past_of, position, since}
use Rattle.centre_events.specs.Verdict.{answered, is_full, last_position, verdict}
use Rattle.centre_events.specs.declared.answer.Answer.{Answer}
use Rattle.centre_events.specs.declared.entry.Entry.{Entry}
use Rattle.centre_events.specs.declared.answer.Answer.TheVariants.{Done}
use Rattle.centre_events.specs.declared.event.Event.{Event}
use Rattle.centre_events.specs.declared.event.Event.TheVariants as event
use Rattle.centre_events.specs.declared.network.Network.{Network}
use Rattle.centre_events.specs.declared.refusal.Refusal.{Refusal}
use Rattle.centre_events.specs.declared.refusal.Refusal.TheVariants.{JournalFull}
use Rattle.centre_events.specs.declared.settings.Settings.{Settings}
use Rattle.centre_events.proofs.FoldingLemmas.{alike, folded_then, past_joined, past_whole, since_onto}
use Rattle.centre_events.proofs.PastLemmas.{count_journal, position_journal}
use Rattle.centre_past.proofs.AlikeLemmas.{says_the_same}
use Rattle.centre_past.specs.Alike.{SaysTheSame}
use Rattle.centre_past.specs.Legal.{lasting}
use Rattle.centre_past.specs.Reach.{edit_reach, looked_at, reach, reach_of, size}
use Rattle.centre_core.specs.Centre.{all_reach, past_over}

-- How many entries there are.

count_since : (base : Base) (es : List Entry) → entry_count (since base es) ≡ length es
count_since base [] = refl
count_since base (e ∷ es) = omega (arith, count_since base es)

position_since : (base : Base) (es : List Entry) → position (since base es) ≡ base.folded + length es
position_since base [] = omega arith
position_since base (e ∷ es) = omega (arith, position_since base es)

pub count_over : (xs ys : List Entry) → entry_count (past_over xs ys) ≡ length ys
count_over xs ys = count_since (base_of (past_of xs)) (reverse ys) ∙ length-reverse ys

pub position_over : (xs ys : List Entry) → position (past_over xs ys) ≡ length xs + length ys
position_over xs ys =
    let at : position (past_over xs ys) ≡ position (past_of xs) + length (reverse ys) = position_since (base_of (past_of xs)) (reverse ys) in
    omega (arith, at, length-reverse ys, position_journal xs)

-- a journal has no room where it has as many entries as it may, or the last position is taken
pub full_is : (settings : Settings) (xs ys : List Entry) → is_full settings (past_over xs ys) ≡ (nat_le settings.limit (length ys) || nat_le last_position (length xs + length ys))
full_is settings xs ys =
    ap (λ n. nat_le settings.limit n || nat_le last_position (position (past_over xs ys))) (count_over xs ys)
    ∙ ap (λ n. nat_le settings.limit (length ys) || nat_le last_position n) (position_over xs ys)

has_room : (limit many number : ℕ) → many < limit → number < 2 ^ 64 - 1 → (nat_le limit many || nat_le last_position number) ≡ false
has_room limit many number few low =
    ap (λ t. t || nat_le last_position number) (lt-leb limit many few) ∙ lt-leb last_position number (omega (arith, low))

pub room_of : (limit many number : ℕ) → (nat_le limit many || nat_le last_position number) ≡ false → (many < limit) × (number < 2 ^ 64 - 1)
room_of limit many number h =
    let both = or_parts (nat_le limit many) (nat_le last_position number) h in
    let low : number < last_position = leb-false last_position number both.1 in
    (leb-false limit many both.0, omega (arith, low))

-- What an event is answered.

pub answered_over : (network : Network) (xs ys : List Entry) (e : Event) → answered network (past_over xs ys) e ≡ answered network (past_of (xs ++ ys)) e
answered_over network xs ys e = alike network (past_over xs ys) (past_of (xs ++ ys)) (past_whole xs ys) e

-- where the journal has room the verdict is what the event is answered after all entries
pub room_is : (settings : Settings) (xs ys : List Entry) (e : Event) → length ys < settings.limit → length xs + length ys < 2 ^ 64 - 1 → verdict settings (past_over xs ys) e ≡ answered settings.network (past_of (xs ++ ys)) e
room_is settings xs ys e few low =
    ap (λ t. if t then Err JournalFull else answered settings.network (past_over xs ys) e) (full_is settings xs ys ∙ has_room settings.limit (length ys) (length xs + length ys) few low)
    ∙ answered_over settings.network xs ys e

-- a full journal
pub full : (settings : Settings) (xs ys : List Entry) (e : Event) → (nat_le settings.limit (length ys) || nat_le last_position (length xs + length ys)) ≡ true → verdict settings (past_over xs ys) e ≡ Err JournalFull
full settings xs ys e h = ap (λ t. if t then Err JournalFull else answered settings.network (past_over xs ys) e) (full_is settings xs ys ∙ h)

-- of all entries over the empty base the last number alone leaves no room
lasts : (network : Network) (xs ys : List Entry) → length xs + length ys < 2 ^ 64 - 1 → is_full (lasting network) (past_of (xs ++ ys)) ≡ false
lasts network xs ys low =
    let few : entry_count (past_of (xs ++ ys)) < last_position = omega (arith, low, count_journal (xs ++ ys), length-append xs ys) in
    has_room last_position (entry_count (past_of (xs ++ ys))) (position (past_of (xs ++ ys))) few (omega (arith, low, position_journal (xs ++ ys), length-append xs ys))

pub lasting_is : (network : Network) (xs ys : List Entry) (e : Event) → length xs + length ys < 2 ^ 64 - 1 → verdict (lasting network) (past_of (xs ++ ys)) e ≡ answered network (past_of (xs ++ ys)) e
lasting_is network xs ys e low =
    ap (λ t. if t then Err JournalFull else answered network (past_of (xs ++ ys)) e) (lasts network xs ys low)

-- On how many lines an event bears.

reach_alike : (p q : Past) → base_of p ≡ base_of q → (e : Event) (r : Result Answer Refusal) → reach p e r ≡ reach q e r
reach_alike p q same e r = (says_the_same p q same).reach e r

pub reach_over : (xs ys : List Entry) (e : Event) (r : Result Answer Refusal) → reach (past_over xs ys) e r ≡ reach (past_of (xs ++ ys)) e r
reach_over xs ys e r = reach_alike (past_over xs ys) (past_of (xs ++ ys)) (past_whole xs ys) e r

looked_alike : (p q : Past) → base_of p ≡ base_of q → (e : Event) → looked_at p e ≡ looked_at q e
looked_alike p q same (event.Ask b generation n after) =
    let alike : reach p (event.Ask b generation n after) (Ok Done) ≡ reach q (event.Ask b generation n after) (Ok Done) = reach_alike p q same (event.Ask b generation n after) (Ok Done) in
    omega (arith, alike)
looked_alike p q same other = refl

size_alike : (p q : Past) → base_of p ≡ base_of q → (e : Event) (a : Answer) → size (reach_of p e a) ≡ size (reach_of q e a)
size_alike p q same e a =
    let alike : size (reach_of p e a) + looked_at p e ≡ size (reach_of q e a) + looked_at q e = reach_alike p q same e (Ok a) in
    omega (arith, alike, looked_alike p q same e)

pub edit_size_over : (xs ys : List Entry) (e : Edit) → size (edit_reach (past_over xs ys) e) ≡ size (edit_reach (past_of (xs ++ ys)) e)
edit_size_over xs ys e = size_alike (past_over xs ys) (past_of (xs ++ ys)) (past_whole xs ys) (event.Edit e) Done

-- those of the journal and those of the folded entries are all
reach_onto : (es : List Entry) (past : Past) → all_reach (onto es (folded past)) + all_reach past ≡ all_reach (onto es past)
reach_onto [] past = omega arith
reach_onto (e ∷ es) past =
    let here : size (reach_of (onto es (folded past)) e.event e.answer) ≡ size (reach_of (onto es past) e.event e.answer) = size_alike (onto es (folded past)) (onto es past) (folded_then es past) e.event e.answer in
    omega (arith, here, reach_onto es past)

pub all_reach_over : (xs ys : List Entry) → all_reach (past_over xs ys) + all_reach (past_of xs) ≡ all_reach (past_of (xs ++ ys))
all_reach_over xs ys =
    ap (λ p. all_reach p + all_reach (past_of xs)) (since_onto (base_of (past_of xs)) (reverse ys))
    ∙ reach_onto (reverse ys) (past_of xs) ∙ ap all_reach (sym (past_joined xs ys))

-- What holds anyway holds where a call succeeds.

pub anyway : {A E P : Type 0} (o : Result A E) → P → OnOk o P
anyway (Ok a) h = h
anyway (Err e) h = tt

-- the past over the base says what all entries say
pub over_says : (xs ys : List Entry) → SaysTheSame (past_over xs ys) (past_of (xs ++ ys))
over_says xs ys = says_the_same (past_over xs ys) (past_of (xs ++ ys)) (past_whole xs ys)
