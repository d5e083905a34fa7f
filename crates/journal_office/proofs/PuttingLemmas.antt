-- The lines of entries that are put one after another.
use Rattle.std.proofs.Common.{◌≡◌, ◌∙◌, ℕ, suc, zero, ◌+◌, ◌<◌, ◌≤◌, List, [], ◌∷◌, ◌++◌, length, get_or, map, take, drop, Some, Result, Ok, Err, OnOk, OnErr, refl, sym, ap, subst, arith, ◌-◌}
use Rattle.std.proofs.lemmas.List.{drop_more, map-append}
use Rattle.centre_events.specs.declared.entry.Entry.{Entry}
use Rattle.centre_past.specs.Legal.{Known, all_entries}
use Rattle.journal_file.specs.Lines.{IsCommentLine, IsEntryLine}
use Rattle.journal_file.specs.Writing.{WritingState, with_item}
use Rattle.journal_file.specs.Writing as writing
use Rattle.journal_keeper.specs.Following.{AreSaid, Next, Puts, PutsNext, PutsPortion}
use Rattle.journal_keeper.specs.Following as following
use Rattle.journal_keeper.proofs.FollowingLemmas.{fold_line, puts_nothing, puts_one, puts_both}
use Rattle.journal_keeper.proofs.KeepingLemmas.{AreSaid-append, take_both}
use Rattle.journal_office.specs.OfficeJournals.{SaysEntry, GivesSomewhere, PutsEntry, PutsEntries}
use Rattle.journal_text.specs.Reading.{IsLineFor}
use Rattle.office.specs.Handing.{AreEntriesSomewhere, IsFoldedAfterSomewhere, missed_after}
use Rattle.office.specs.declared.entries.Entries.{Entries}
use Rattle.office.specs.declared.folded.Folded.{Folded}

take_all : {X : Type 0} (xs : List X) (n : ℕ) → length xs ≤ n → take n xs ≡ xs
take_all [] zero past = refl
take_all [] (suc n) past = refl
take_all (x ∷ xs) zero past = absurd (omega (arith, past))
take_all (x ∷ xs) (suc n) past = ap (λ s. x ∷ s) (take_all xs n (omega (arith, past)))

-- where none is missed, none behind the place is folded
unmissed : (place : ℕ) (centre : Known) {missed : ℕ} → missed ≡ missed_after place centre → missed ≡ 0 → (length centre.folded ≤ place) × (place + missed_after place centre ≡ place)
unmissed place centre is none = (omega (arith, is, none), omega (arith, is, none))

-- a comment is put, or isn't
pub comment_put : {E : Type 0} (r : Result (Unit {0}) E) (a b : WritingState) (line : List ℕ) → OnOk r (IsCommentLine line) → OnOk r (b ≡ with_item a (writing.Comment line)) → OnErr r (b ≡ a) → Puts a b []
comment_put (Ok x) a b line fits is same = puts_one a b (writing.Comment line) fits is
comment_put (Err e) a b line fits is same = subst (λ w. Puts a w []) (sym same) (puts_nothing a)

-- nothing is put
pub peer_none : (a : WritingState) → Puts a a []
peer_none a = puts_nothing a

-- the line of an entry is put
pub entry_put : (e : Entry) (line : List ℕ) (a b : WritingState) → IsLineFor e.event (Some line) → IsEntryLine line → b ≡ with_item a (writing.Entry line) → PutsEntry e a b
entry_put e line a b for_it fits is = record { line = line; says = for_it.1; fits = fits; state = is }

-- none was put
pub entries_none : (entries : List Entry) (a : WritingState) → PutsEntries (take 0 entries) a a
entries_none entries a = record { lines = []; says = tt; puts = puts_nothing a }

-- one more was, and perhaps a comment
pub entries_more : (entries : List Entry) (index : ℕ) (entry : Entry) (a b c d : WritingState) → index < length entries → entry ≡ get_or entries index entry
    → PutsEntries (take index entries) a b → PutsEntry entry b c → Puts c d [] → PutsEntries (take (index + 1) entries) a d
entries_more entries index entry a b c d short is before puts peer =
    let split : drop index entries ≡ entry ∷ drop (index + 1) entries = drop_more entries index entry short ∙ ap (λ x. x ∷ drop (index + 1) entries) (sym is) in
    let parts : take (index + 1) entries ≡ take index entries ++ entry ∷ [] = take_both entries index 1 ∙ ap (λ s. take index entries ++ take 1 s) split in
    let one : Puts b c (writing.Entry puts.line ∷ []) = puts_one b c (writing.Entry puts.line) (puts.fits.0, puts.fits.1) puts.state in
    let both = puts_both b c d (writing.Entry puts.line ∷ []) [] one peer in
    record {
      lines = before.lines ++ puts.line ∷ [];
      says = subst (λ s. AreSaid SaysEntry s (before.lines ++ puts.line ∷ [])) (sym parts) (AreSaid-append SaysEntry (take index entries) (entry ∷ []) before.lines (puts.line ∷ []) before.says (puts.says, tt));
      puts = subst (Puts a d) (sym (map-append writing.Entry before.lines (puts.line ∷ []))) (puts_both a b d (map writing.Entry before.lines) (writing.Entry puts.line ∷ []) before.puts both);
    }

-- all were
pub entries_all : (entries : List Entry) (index : ℕ) (a b : WritingState) → length entries ≤ index → PutsEntries (take index entries) a b → PutsEntries entries a b
entries_all entries index a b past puts = subst (λ s. PutsEntries s a b) (take_all entries index past) puts

-- what an office handed out was put
pub puts_next : (place : ℕ) (e : Entries) (old new : WritingState) → place ≡ old.taken → AreEntriesSomewhere place 1000 e → e.missed ≡ 0 → PutsEntries e.entries.items old new → PutsNext GivesSomewhere old new
puts_next place e old new is handed none puts =
    let after = unmissed place handed.centre handed.are.missed none in
    let says : AreSaid SaysEntry (take 1000 (drop place (all_entries handed.centre))) puts.lines = subst (λ s. AreSaid SaysEntry s puts.lines) (handed.are.entries ∙ ap (λ n. take 1000 (drop n (all_entries handed.centre))) after.1) puts.says in
    (puts.lines, (subst (λ n. GivesSomewhere n (Next puts.lines)) is (record { centre = handed.centre; lawful = handed.lawful; unfolded = after.0; given = (1000, omega arith, says) }), puts.puts))

-- and what it handed out at a fold, with the line of that behind it
pub puts_folded : (place : ℕ) (f : Folded) (old now new : WritingState) → place ≡ old.taken → IsFoldedAfterSomewhere place f → f.rest.missed ≡ 0 → PutsEntries f.rest.entries.items old now → new ≡ with_item now writing.Fold
    → (lines : List (List ℕ)) × PutsPortion GivesSomewhere old new (following.Folded lines)
puts_folded place f old now new is handed none puts fold =
    let after = unmissed place handed.centre handed.are.missed none in
    let says : AreSaid SaysEntry (drop place (all_entries handed.centre)) puts.lines = subst (λ s. AreSaid SaysEntry s puts.lines) (handed.are.entries ∙ ap (λ n. drop n (all_entries handed.centre)) after.1) puts.says in
    let last : Puts now new (writing.Fold ∷ []) = puts_one now new writing.Fold (fold_line, tt) fold in
    (puts.lines, (subst (λ n. GivesSomewhere n (following.Folded puts.lines)) is (record { centre = handed.centre; lawful = handed.lawful; unfolded = after.0; given = says }), puts_both old now new (map writing.Entry puts.lines) (writing.Fold ∷ []) puts.puts last))

-- the same of what a call answers
pub next_if : {E : Type 0} (r : Result (Unit {0}) E) (place : ℕ) (e : Entries) (old new : WritingState) → place ≡ old.taken → AreEntriesSomewhere place 1000 e → OnOk r (e.missed ≡ 0) → OnOk r (PutsEntries e.entries.items old new)
    → OnOk r (PutsNext GivesSomewhere old new)
next_if (Ok x) place e old new is handed none puts = puts_next place e old new is handed none puts
next_if (Err f) place e old new is handed none puts = tt
