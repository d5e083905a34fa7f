-- A lawful past has a whole: a legal past with nothing folded that comes to the same base. So what holds after every legal
-- past, and reads only what pasts of one base share, holds after every lawful one.
use Rattle.std.proofs.Common.{◌≡◌, ℕ, ◌+◌, ◌≤◌, Bool, true, false, List, [], ◌∷◌, ◌++◌, Result, Ok, Err, refl, sym, ap, ◌∙◌, subst, nat_le, length, reverse, arith}
use Rattle.std.specs.Prelude.{if◌then◌else◌}
use Rattle.std.proofs.lemmas.Bool.{lt-leb, or_parts}
use Rattle.std.proofs.lemmas.List.{length-reverse}
use Rattle.centre_events.specs.Base.{Base, empty_base}
use Rattle.centre_events.specs.Folding.{base_of, folded, onto}
use Rattle.centre_events.specs.Past.{Past, From, After, entry_count, past_of, position, since}
use Rattle.centre_events.specs.Verdict.{answered, is_full, last_position, verdict}
use Rattle.centre_events.specs.declared.answer.Answer.{Answer}
use Rattle.centre_events.specs.declared.entry.Entry.{Entry}
use Rattle.centre_events.specs.declared.event.Event.{Event}
use Rattle.centre_events.specs.declared.refusal.Refusal.{Refusal}
use Rattle.centre_events.specs.declared.refusal.Refusal.TheVariants as refusal
use Rattle.centre_events.specs.declared.settings.Settings.{Settings}
use Rattle.centre_events.proofs.FoldingLemmas.{alike, folded_one, folded_then, past_joined, since_onto}
use Rattle.centre_past.specs.Legal.{Call, Checkpoint, HasWhole, Lawful, Legal, Submit, after_calls, lasting, with_call, with_verdict}

-- where nothing was folded as many entries stand as the position says
pub counted : (settings : Settings) (past : Past) → Legal settings past → entry_count past ≡ position past
counted settings (From base) legal = ap (λ (x : Base). x.folded) (sym legal)
counted settings (After e before) legal = ap (λ n. n + 1) (counted settings before legal.1)

-- an event that is accepted has its answer, and there was a position left
pub accepted : (settings : Settings) (past : Past) (e : Event) (a : Answer) → verdict settings past e ≡ Ok a → (answered settings.network past e ≡ Ok a) × (nat_le last_position (position past) ≡ false)
accepted settings past e a is = step (is_full settings past) refl is
  where
    step : (t : Bool) → is_full settings past ≡ t → (if t then Err refusal.JournalFull else answered settings.network past e) ≡ Ok a → (answered settings.network past e ≡ Ok a) × (nat_le last_position (position past) ≡ false)
    step true h g = cc
    step false h g = (g, (or_parts (nat_le settings.limit (entry_count past)) (nat_le last_position (position past)) h).1)

-- one more entry
whole_more : (settings : Settings) (e : Entry) (before : Past) → verdict settings before e.event ≡ Ok e.answer → HasWhole settings.network before → HasWhole settings.network (After e before)
whole_more settings e before is w = record {
  full = After e w.full;
  legal = (ap (λ t. if t then Err refusal.JournalFull else answered settings.network w.full e.event) room ∙ alike settings.network w.full before w.same e.event ∙ here.0, w.legal);
  same = folded_one e w.full ∙ ap (λ (x : Base). base_of (After e (From x))) w.same ∙ sym (folded_one e before);
}
  where
    here : (answered settings.network before e.event ≡ Ok e.answer) × (nat_le last_position (position before) ≡ false)
    here = accepted settings before e.event e.answer is

    left : nat_le last_position (position w.full) ≡ false
    left = ap (λ (x : Base). nat_le last_position x.folded) w.same ∙ here.1

    few : nat_le last_position (entry_count w.full) ≡ false
    few = ap (nat_le last_position) (counted (lasting settings.network) w.full w.legal) ∙ left

    room : is_full (lasting settings.network) w.full ≡ false
    room = rw (few, left) refl

pub whole : (settings : Settings) (past : Past) → Lawful settings past → HasWhole settings.network past
whole settings (From base) lawful = lawful
whole settings (After e before) lawful = whole_more settings e before lawful.0 (whole settings before lawful.1)

-- what a lawful past comes to is the base of a lawful past
pub lawful_folded : (settings : Settings) (past : Past) → Lawful settings past → Lawful settings (folded past)
lawful_folded settings past lawful = let w = whole settings past lawful in record { full = w.full; legal = w.legal; same = w.same }

-- a legal past is lawful
pub legal_lawful : (settings : Settings) (past : Past) → Legal settings past → Lawful settings past
legal_lawful settings (From base) legal = record { full = From empty_base; legal = refl; same = sym legal }
legal_lawful settings (After e before) legal = (legal.0, legal_lawful settings before legal.1)

-- an accepted event keeps a past lawful, and a refused one leaves it
lawful_with : (settings : Settings) (desk : ℕ) (e : Event) (before : Past) → Lawful settings before → Lawful settings (with_verdict desk e (verdict settings before e) before)
lawful_with settings desk e before lawful = step (verdict settings before e) refl
  where
    step : (r : Result Answer Refusal) → verdict settings before e ≡ r → Lawful settings (with_verdict desk e r before)
    step (Ok a) h = (h, lawful)
    step (Err r) h = lawful

lawful_call : (settings : Settings) (call : Call) (before : Past) → Lawful settings before → Lawful settings (with_call settings call before)
lawful_call settings (Submit desk e) before lawful = lawful_with settings desk e before lawful
lawful_call settings Checkpoint before lawful = lawful_folded settings before lawful

-- after any calls
pub lawful_after : (settings : Settings) (calls : List Call) (before : Past) → Lawful settings before → Lawful settings (after_calls settings calls before)
lawful_after settings [] before lawful = lawful
lawful_after settings (call ∷ calls) before lawful = lawful_after settings calls (with_call settings call before) (lawful_call settings call before lawful)

-- the calls begin with no entry and nothing folded
pub lawful_calls : (settings : Settings) (calls : List Call) → Lawful settings (after_calls settings calls (From empty_base))
lawful_calls settings calls = lawful_after settings calls (From empty_base) (legal_lawful settings (From empty_base) refl)

-- The past of a centre: of the entries, the first ones are folded, and the journal has the others.

legal_onto : (settings : Settings) (past : Past) (es : List Entry) → Legal settings (onto es past) → Legal settings past
legal_onto settings past [] legal = legal
legal_onto settings past (e ∷ es) legal = legal_onto settings past es legal.1

-- the first entries of a legal journal are legal
pub legal_front : (settings : Settings) (xs ys : List Entry) → Legal settings (past_of (xs ++ ys)) → Legal settings (past_of xs)
legal_front settings xs ys legal = legal_onto settings (past_of xs) (reverse ys) (subst (Legal settings) (past_joined xs ys) legal)

onto_count : (es : List Entry) (base : Base) → entry_count (onto es (From base)) ≡ length es
onto_count [] base = refl
onto_count (e ∷ es) base = omega (arith, onto_count es base)

lawful_onto : (settings : Settings) (past : Past) (es : List Entry) → length es ≤ settings.limit → Legal (lasting settings.network) (onto es past) → Lawful settings (onto es (folded past))
lawful_onto settings past [] few legal = record { full = past; legal = legal; same = refl }
lawful_onto settings past (e ∷ es) few legal = (ap (λ t. if t then Err refusal.JournalFull else answered settings.network (onto es (folded past)) e.event) room ∙ alike settings.network (onto es (folded past)) (onto es past) same e.event ∙ here.0, lawful_onto settings past es (omega (arith, few)) legal.1)
  where
    same : base_of (onto es (folded past)) ≡ base_of (onto es past)
    same = folded_then es past

    here : (answered settings.network (onto es past) e.event ≡ Ok e.answer) × (nat_le last_position (position (onto es past)) ≡ false)
    here = accepted (lasting settings.network) (onto es past) e.event e.answer legal.0

    left : nat_le last_position (position (onto es (folded past))) ≡ false
    left = ap (λ (x : Base). nat_le last_position x.folded) same ∙ here.1

    fits : nat_le settings.limit (entry_count (onto es (folded past))) ≡ false
    fits = lt-leb settings.limit (entry_count (onto es (folded past))) (omega (arith, few, onto_count es (base_of past)))

    room : is_full settings (onto es (folded past)) ≡ false
    room = rw (fits, left) refl

-- so a centre's past is lawful where all its entries are legal, and no more than the limit stand in its journal
pub lawful_since : (settings : Settings) (xs ys : List Entry) → length ys ≤ settings.limit → Legal (lasting settings.network) (past_of (xs ++ ys)) → Lawful settings (since (base_of (past_of xs)) (reverse ys))
lawful_since settings xs ys few legal =
    subst (Lawful settings) (sym (since_onto (base_of (past_of xs)) (reverse ys)))
    (lawful_onto settings (past_of xs) (reverse ys) (subst (λ n. n ≤ settings.limit) (sym (length-reverse ys)) few) (subst (Legal (lasting settings.network)) (past_joined xs ys) legal))
