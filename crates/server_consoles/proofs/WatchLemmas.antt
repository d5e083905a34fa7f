-- The text of entries, put together one entry after another.
use Rattle.std.proofs.Common.{◌≡◌, ◌∙◌, ℕ, ◌+◌, ◌<◌, ◌≤◌, List, [], ◌∷◌, ◌++◌, length, get_or, drop, refl, sym, ap, subst, append_assoc, append-nil}
use Rattle.std.proofs.lemmas.List.{drop_all, drop_more}
use Rattle.centre_events.specs.declared.entry.Entry.{Entry}
use Rattle.server_consoles.specs.WatchTexts.{AreHandedOn, IsEntryText, number_behind}

-- the text so far, with that of the rest behind it, is that of all
abbrev pub LeadsTo : ℕ → List Entry → ℕ → List Entry → List ℕ → Type 0
LeadsTo number entries last rest text = (end : ℕ) → (others : List ℕ) → AreHandedOn last rest end others → AreHandedOn number entries end (text ++ others)

-- one entry more
leads_on : (number last : ℕ) (entries rest : List Entry) (entry : Entry) (text added : List ℕ) → LeadsTo number entries last (entry ∷ rest) text → IsEntryText (number_behind last 1) entry added → LeadsTo number entries (number_behind last 1) rest (text ++ added)
leads_on number last entries rest entry text added so_far written end others handed =
    subst (AreHandedOn number entries end) (sym (append_assoc text added others)) (so_far end (added ++ others) (added, others, written, handed, refl))

-- one entry more, where the loop has come to it
pub leads_further : (number last next : ℕ) (entries : List Entry) (index : ℕ) (entry : Entry) (text added : List ℕ) → next ≡ number_behind last 1 → index < length entries → entry ≡ get_or entries index entry → LeadsTo number entries last (drop index entries) text → IsEntryText next entry added → LeadsTo number entries next (drop (index + 1) entries) (text ++ added)
leads_further number last next entries index entry text added counted short is so_far written =
    let rest = drop (index + 1) entries in
    let split : drop index entries ≡ entry ∷ rest = drop_more entries index entry short ∙ ap (λ x. x ∷ rest) (sym is) in
    subst (λ n. LeadsTo number entries n rest (text ++ added)) (sym counted)
    (leads_on number last entries rest entry text added (subst (λ xs. LeadsTo number entries last xs text) split so_far) (subst (λ n. IsEntryText n entry added) counted written))

-- with no entry left it is the text of all
pub leads_to_the_end : (number last : ℕ) (entries : List Entry) (index : ℕ) (text : List ℕ) → length entries ≤ index → LeadsTo number entries last (drop index entries) text → AreHandedOn number entries last text
leads_to_the_end number last entries index text past so_far =
    subst (AreHandedOn number entries last) (append-nil text) (so_far last [] (subst (λ xs. AreHandedOn last xs last []) (sym (drop_all index entries past)) (refl, refl)))
