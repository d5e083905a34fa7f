-- Two centres that have the same entries but for their desks answer alike.
use Rattle.std.proofs.Common.{◌≡◌, ◌∙◌, ℕ, suc, ◌+◌, Bool, ◌||◌, List, [], ◌∷◌, ◌++◌, Result, Err, if◌then◌else◌, length, map, reverse, refl, sym, ap, ap₂}
use Rattle.std.specs.Prelude.{nat_le}
use Rattle.std.proofs.lemmas.List.{reverse-append}
use Rattle.centre_events.specs.Base.{Base}
use Rattle.centre_events.specs.Folding.{base_of, folded_with}
use Rattle.centre_events.specs.Past.{Past, After, entry_count, past_of, since}
use Rattle.centre_events.specs.Verdict.{is_full, last_position, verdict}
use Rattle.centre_events.specs.declared.answer.Answer.{Answer}
use Rattle.centre_events.specs.declared.entry.Entry.{Entry}
use Rattle.centre_events.specs.declared.event.Event.{Event}
use Rattle.centre_events.specs.declared.refusal.Refusal.{Refusal}
use Rattle.centre_events.specs.declared.refusal.Refusal.TheVariants as refusal
use Rattle.centre_events.specs.declared.settings.Settings.{Settings}
use Rattle.centre_events.proofs.FoldingLemmas.{alike, folded_one, past_whole}
use Rattle.centre_past.specs.Legal.{Known, checkpointed, past}
use Rattle.journal_laws.specs.Files.{with_entry}
use Rattle.journal_laws.specs.Replayed.{by_desk_1}

-- two pasts come to one base, after as many entries
pub record AreAlike (p q : Past) : Type 0 where
  pub base : base_of p ≡ base_of q
  pub count : entry_count p ≡ entry_count q

pub same_full : (settings : Settings) (p q : Past) → AreAlike p q → is_full settings p ≡ is_full settings q
same_full settings p q alike_pasts =
    ap₂ (λ (n m : ℕ). nat_le settings.limit n || nat_le last_position m) alike_pasts.count (ap (λ (x : Base). x.folded) alike_pasts.base)

pub same_verdict : (settings : Settings) (p q : Past) (e : Event) → AreAlike p q → verdict settings p e ≡ verdict settings q e
same_verdict settings p q e alike_pasts =
    ap₂ (λ (full : Bool) (r : Result Answer Refusal). if full then Err refusal.JournalFull else r) (same_full settings p q alike_pasts) (alike settings.network p q alike_pasts.base e)

-- the desk of an entry decides nothing
one_desk : (e : Entry) (base : Base) → folded_with (by_desk_1 e) base ≡ folded_with e base
one_desk e base = refl

pub alike_after : (e : Entry) (p q : Past) → AreAlike p q → AreAlike (After (by_desk_1 e) p) (After e q)
alike_after e p q alike_pasts = record {
  base = folded_one (by_desk_1 e) p ∙ one_desk e (base_of p) ∙ ap (folded_with e) alike_pasts.base ∙ sym (folded_one e q);
  count = ap (λ (n : ℕ). n + 1) alike_pasts.count;
}

-- the past of a centre with one entry more
reversed_more : (xs : List Entry) (e : Entry) → reverse (xs ++ e ∷ []) ≡ e ∷ reverse xs
reversed_more xs e = reverse-append xs (e ∷ [])

pub past_more : (e : Entry) (centre : Known) → past (with_entry e centre) ≡ After e (past centre)
past_more e centre = ap (since (base_of (past_of centre.folded))) (reversed_more centre.journal e)

pub checkpoint_base : (centre : Known) → base_of (past (checkpointed centre)) ≡ base_of (past centre)
checkpoint_base centre = sym (past_whole centre.folded centre.journal)

pub alike_folded : (c d : Known) → AreAlike (past c) (past d) → AreAlike (past (checkpointed c)) (past (checkpointed d))
alike_folded c d alike_pasts = record {
  base = checkpoint_base c ∙ alike_pasts.base ∙ sym (checkpoint_base d);
  count = refl;
}

pub map_more : (xs : List Entry) (e : Entry) → map by_desk_1 (xs ++ e ∷ []) ≡ map by_desk_1 xs ++ by_desk_1 e ∷ []
map_more [] e = refl
map_more (x ∷ xs) e = ap (λ (rest : List Entry). by_desk_1 x ∷ rest) (map_more xs e)

pub map_joined : (xs ys : List Entry) → map by_desk_1 (xs ++ ys) ≡ map by_desk_1 xs ++ map by_desk_1 ys
map_joined [] ys = refl
map_joined (x ∷ xs) ys = ap (λ (rest : List Entry). by_desk_1 x ∷ rest) (map_joined xs ys)

pub map_length : (xs : List Entry) → length (map by_desk_1 xs) ≡ length xs
map_length [] = refl
map_length (x ∷ xs) = ap (λ (n : ℕ). suc n) (map_length xs)
