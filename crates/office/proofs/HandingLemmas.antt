-- Entries that are handed out, one copied behind another.
use Rattle.std.proofs.Common.{◌≡◌, ℕ, ◌+◌, ◌-◌, ◌<◌, ◌≤◌, false, List, [], ◌∷◌, ◌++◌, Option, Some, None, Result, Ok, Err, IfOk, OnOk, length, take, drop, sym, ap, ap₂, ◌∙◌, subst, arith, if◌then◌else◌, min, max, nat_le, inl, inr}
use Rattle.std.specs.List.{slice_get}
use Rattle.std.proofs.Math.Seq.{drop-append-add}
use Rattle.std.proofs.lemmas.Bool.Decides.{nat_tests}
use Rattle.std.proofs.lemmas.List.{drop-drop, drop-take, drop_all, drop_more, length-drop, take-append-drop, take-take, take_all, take_min}
use Rattle.std.proofs.lemmas.Option.{get_or_from_slice_get, slice_get_cases, slice_get_within}
use Rattle.centre_past.specs.Headline.{PendingGivesPlan}
use Rattle.centre_past.specs.Legal.{Known, Lawful, all_entries, checkpointed, past}
use Rattle.centre_events.specs.Folding.{base_of}
use Rattle.centre_events.specs.declared.entry.Entry.{Entry}
use Rattle.centre_events.specs.declared.refusal.Refusal.{Refusal}
use Rattle.office.specs.Handing.{AreAllAfter, AreEntriesAfter, AreEntriesSomewhere, IsFoldedAfterSomewhere, entries_after, missed_after}
use Rattle.office.specs.declared.entries.Entries.{Entries}
use Rattle.office.specs.declared.folded.Folded.{Folded}

-- The entry at a place behind the folded ones.

-- where the journal is read for it
there : (folded journal : List Entry) (place : ℕ) → length folded < place → drop (place - 1) (folded ++ journal) ≡ drop (place - length folded - 1) journal
there folded journal place behind =
    let at : place - 1 ≡ length folded + (place - length folded - 1) = omega (arith, behind) in
    ap (λ n. drop n (folded ++ journal)) at ∙ drop-append-add folded journal (place - length folded - 1)

one_of : (journal : List Entry) (k : ℕ) (e : Entry) → slice_get journal k ≡ Some e → take 1 (drop k journal) ≡ e ∷ []
one_of journal k e is = ap (take 1) (drop_more journal k e (slice_get_within journal k e is)) ∙ ap (λ x. x ∷ []) (get_or_from_slice_get journal k e e is)

none_of : (journal : List Entry) (k : ℕ) → slice_get journal k ≡ None → take 1 (drop k journal) ≡ []
none_of journal k is = elim (slice_get_cases journal k).1 [
  | inl found ↦ let clash : Some found.0 ≡ None = sym found.2 ∙ is in cc
  | inr past ↦ ap (take 1) (drop_all k journal past.0)
]

-- what is read there
read_at : (folded journal : List Entry) (place : ℕ) (found : Option Entry) → length folded < place → found ≡ (if nat_le place (length folded) then None else slice_get journal (place - length folded - 1)) → slice_get journal (place - length folded - 1) ≡ found
read_at folded journal place found behind is =
    let no : nat_le place (length folded) ≡ false = grind (arith, nat_tests, behind) in
    sym (is ∙ ap (λ t. if t then None else slice_get journal (place - length folded - 1)) no)

pub copied_one : (folded journal : List Entry) (place : ℕ) (e : Entry) → length folded < place → Some e ≡ (if nat_le place (length folded) then None else slice_get journal (place - length folded - 1)) → take 1 (drop (place - 1) (folded ++ journal)) ≡ e ∷ []
copied_one folded journal place e behind is = ap (take 1) (there folded journal place behind) ∙ one_of journal (place - length folded - 1) e (read_at folded journal place (Some e) behind is)

pub copied_none : (folded journal : List Entry) (place : ℕ) → length folded < place → None ≡ (if nat_le place (length folded) then None else slice_get journal (place - length folded - 1)) → take 1 (drop (place - 1) (folded ++ journal)) ≡ []
copied_none folded journal place behind is = ap (take 1) (there folded journal place behind) ∙ none_of journal (place - length folded - 1) (read_at folded journal place None behind is)

-- One after another.

-- a front and then what comes behind it
take_then : (n m : ℕ) (xs : List Entry) → take n xs ++ take m (drop n xs) ≡ take (n + m) xs
take_then n m xs = sym (ap₂ (λ ys zs. ys ++ zs) (take-take n (n + m) xs (omega arith)) (drop-take n m xs)) ∙ take-append-drop n (take (n + m) xs)

pub copied_more : (after place : ℕ) (all old new : List Entry) → after ≤ place → old ≡ take (place - after) (drop after all) → new ≡ old ++ take 1 (drop (place + 1 - 1) all) → new ≡ take (place + 1 - after) (drop after all)
copied_more after place all old new behind so_far more =
    let at : place + 1 - 1 ≡ after + (place - after) = omega (arith, behind) in
    let next : place - after + 1 ≡ place + 1 - after = omega (arith, behind) in
    let rest : drop (place + 1 - 1) all ≡ drop (place - after) (drop after all) = ap (λ n. drop n all) at ∙ sym (drop-drop (place - after) after all) in
    more ∙ ap₂ (λ xs ys. xs ++ take 1 ys) so_far rest ∙ take_then (place - after) 1 (drop after all) ∙ ap (λ n. take n (drop after all)) next

pub copied_all : (after most last : ℕ) (all copies : List Entry) → last ≡ after + min most (length all - after) → copies ≡ take (last - after) (drop after all) → copies ≡ take most (drop after all)
copied_all after most last all copies is so_far =
    let count : last - after ≡ min most (length (drop after all)) = omega (arith, is) ∙ ap (min most) (sym (length-drop after all)) in
    so_far ∙ ap (λ n. take n (drop after all)) count ∙ take_min most (drop after all)

-- What is handed out.

pub handed_after : (after most from : ℕ) (centre : Known) (e : Entries) → from ≡ max after (length centre.folded) → e.missed ≡ from - after → e.entries.items ≡ take most (drop from (all_entries centre)) → AreEntriesAfter after most centre e
handed_after after most from centre e is missed entries =
    let at : from ≡ after + (length centre.folded - after) = search (arith, is) in
    record {
      missed = missed ∙ ap (λ n. n - after) at ∙ omega arith;
      entries = entries ∙ ap (λ n. take most (drop n (all_entries centre))) at;
    }

pub handed_all : (after : ℕ) (centre : Known) (e : Entries) → AreEntriesAfter after (length (all_entries centre)) centre e → AreAllAfter after centre e
handed_all after centre e are =
    let short : length (entries_after after centre) ≤ length (all_entries centre) = omega (arith, length-drop (after + missed_after after centre) (all_entries centre)) in
    record { missed = are.missed; entries = are.entries ∙ take_all (length (all_entries centre)) (entries_after after centre) short }

-- What an office promises.

pub handed_if : {E : Type 0} (result : Result Entries E) (after most : ℕ) (centre : Known) → Lawful centre.settings (past centre) → PendingGivesPlan (past centre) → IfOk result (AreEntriesAfter after most centre) → IfOk result (AreEntriesSomewhere after most)
handed_if (Ok e) after most centre lawful headline are = record { centre = centre; lawful = lawful; headline = headline; are = are }
handed_if (Err e) after most centre lawful headline are = are

pub folded_after_if : (result : Result Folded Refusal) (after : ℕ) (centre new : Known) → Lawful centre.settings (past centre) → PendingGivesPlan (past centre) → IfOk result (λ f. f.count ≡ length centre.journal) → IfOk result (λ f. AreAllAfter after centre f.rest) → OnOk result (new ≡ checkpointed centre) → OnOk result (base_of (past new) ≡ base_of (past centre)) → OnOk result (centre.stale ≡ false) → IfOk result (IsFoldedAfterSomewhere after)
folded_after_if (Ok f) after centre new lawful headline counted are is same whole = record { centre = centre; lawful = lawful; headline = headline; whole = whole; counted = counted; are = are; same = subst (λ (k : Known). base_of (past k) ≡ base_of (past centre)) is same }
folded_after_if (Err r) after centre new lawful headline counted are is same whole = counted
