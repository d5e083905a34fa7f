-- The areas of a lawful past have names of areas. So have the areas that an accepted event names, its pages can be broadcast,
-- and it has a line.
use Rattle.std.proofs.Common.{◌≡◌, ◌∙◌, ℕ, ◌+◌, ◌≤◌, ltb, Bool, true, false, not, List, [], ◌∷◌, Some, None, Result, Ok, ◌⊎◌, inl, inr, if◌then◌else◌, length, unwrap_or, refl, sym, ap, subst, arith}
use Rattle.std.specs.Prelude.{bytes_eq}
use Rattle.std.specs.List.{AllByRecursion, list_any}
use Rattle.std.proofs.lemmas.Bool.{or_parts}
use Rattle.std.proofs.lemmas.Bool.Decides.{nat_tests}
use Rattle.std.proofs.lemmas.Slice.Eq.{bytes_eq-Decides}
use Rattle.areas.specs.Name.{is_name}
use Rattle.cbsp_messages.specs.declared.message.Message.{Message}
use Rattle.centre_events.specs.Base.{Base}
use Rattle.centre_events.specs.Cover.{area_mark, is_area}
use Rattle.centre_events.specs.Past.{Past, From, After, by_edit}
use Rattle.centre_events.specs.Verdict.{add_area_checks, answered, cut_checks, drop_area_checks, issue_answer, issue_checks, narrow_checks, put_checks, unless, update_answer, update_checks, verdict, widen_checks}
use Rattle.centre_events.specs.Warnings.{book_of}
use Rattle.centre_events.specs.declared.answer.Answer.{Answer}
use Rattle.centre_events.specs.declared.answer.Answer.TheVariants as answer
use Rattle.centre_events.specs.declared.event.Event.{Event}
use Rattle.centre_events.specs.declared.event.Event.TheVariants as event
use Rattle.centre_events.specs.declared.refusal.Refusal.{Refusal}
use Rattle.centre_events.specs.declared.settings.Settings.{Settings}
use Rattle.centre_past.specs.Legal.{Lawful, Legal, lasting}
use Rattle.centre_past.proofs.LawfulLemmas.{accepted, whole}
use Rattle.coverage_plan.specs.declared.edit.Edit.{Edit}
use Rattle.coverage_plan.specs.declared.edit.Edit.TheVariants as edit
use Rattle.warning_book.specs.Book.{new_serial, next_serial}
use Rattle.warning_book.specs.Checks.{is_empty}
use Rattle.warning_book.specs.Content.{have_pages}
use Rattle.journal_text.specs.Laws.{EditIsWellNamed, IsWellNamed}
use Rattle.journal_text.specs.Sayable.{HasFrame, HasLine}
use Rattle.journal_text.proofs.AskedLemmas.{asked_has_line}
use Rattle.journal_text.proofs.MessageLemmas.{read_has_frame, restart_has_frame}
use Rattle.journal_laws.specs.Given.{AcceptedHasLine, EntriesHaveLines, IsRead, IsReported, IsRestart}
use Rattle.journal_laws.proofs.KeptLemmas.{not_false, passed}

-- an event that is accepted passes every check
pass_all : (checks : List (Bool × Refusal)) (answers : Result Answer Refusal) (a : Answer) → unless checks answers ≡ Ok a → AllByRecursion (λ (check : Bool × Refusal). check.0 ≡ false) checks
pass_all [] answers a is = tt
pass_all (check ∷ checks) answers a is = let first = passed check.0 check.1 (unless checks answers) a is in (first.0, pass_all checks answers a first.1)

-- an area that is made has the name of one
name_added : (settings : Settings) (past : Past) (o : List ℕ) (a : Answer) → verdict settings past (event.Edit (edit.AddArea o)) ≡ Ok a → is_name o ≡ true
name_added settings past o a is =
    not_false (is_name o) (pass_all (add_area_checks past o) (Ok answer.Done) a (accepted settings past (event.Edit (edit.AddArea o)) a is).0).0

-- what the last event says of an area
area_then : (settings : Settings) (before : Past) (a : List ℕ) → (is_area before a ≡ true → is_name a ≡ true) → (e : Event) (x : Answer) → verdict settings before e ≡ Ok x
    → unwrap_or (by_edit (area_mark a) e) (is_area before a) ≡ true → is_name a ≡ true
area_then settings before a rest (event.Edit (edit.AddArea o)) x is = step (bytes_eq o a) refl
  where
    step : (t : Bool) → bytes_eq o a ≡ t → unwrap_or (if t then Some true else None) (is_area before a) ≡ true → is_name a ≡ true
    step true same there = subst (λ name. is_name name ≡ true) ((bytes_eq-Decides o a).0 same) (name_added settings before o x is)
    step false other there = rest there
area_then settings before a rest (event.Edit (edit.DropArea o)) x is = step (bytes_eq o a)
  where
    step : (t : Bool) → unwrap_or (if t then Some false else None) (is_area before a) ≡ true → is_name a ≡ true
    step true there = absurd (cc there)
    step false there = rest there
area_then settings before a rest (event.Edit e) x is = rest
area_then settings before a rest e x is = rest

legal_named : (settings : Settings) (past : Past) → Legal settings past → (a : List ℕ) → is_area past a ≡ true → is_name a ≡ true
legal_named settings (From base) legal a there = let none : true ≡ false = sym there ∙ ap (λ (b : Base). b.is_area a) legal in absurd (cc none)
legal_named settings (After e before) legal a there = area_then settings before a (legal_named settings before legal.1 a) e.event e.answer legal.0 there

lawful_named : (settings : Settings) (past : Past) → Lawful settings past → (a : List ℕ) → is_area past a ≡ true → is_name a ≡ true
lawful_named settings past lawful a there =
    let w = whole settings past lawful in legal_named (lasting settings.network) w.full w.legal a (ap (λ (b : Base). b.is_area a) w.same ∙ there)

-- the areas of a warning
all_named : (past : Past) (areas : List (List ℕ)) → ((a : List ℕ) → is_area past a ≡ true → is_name a ≡ true) → list_any (λ a. not (is_area past a)) areas ≡ false
    → AllByRecursion (λ a. is_name a ≡ true) areas
all_named past [] named none = tt
all_named past (a ∷ areas) named none =
    let parts = or_parts (not (is_area past a)) (list_any (λ x. not (is_area past x)) areas) none in
    (named a (not_false (is_area past a) parts.0), all_named past areas named parts.1)

some_areas : (areas : List (List ℕ)) → is_empty areas ≡ false → 1 ≤ length areas
some_areas [] none = absurd (cc none)
some_areas (a ∷ areas) some = omega arith

few_areas : (n : ℕ) → ltb 16 n ≡ false → n ≤ 16
few_areas n few = grind (arith, nat_tests)

edit_named : (settings : Settings) (past : Past) (e : Edit) (a : Answer) → ((name : List ℕ) → is_area past name ≡ true → is_name name ≡ true) → answered settings.network past (event.Edit e) ≡ Ok a
    → EditIsWellNamed e
edit_named settings past (edit.AddArea o) a named is = not_false (is_name o) (pass_all (add_area_checks past o) (Ok answer.Done) a is).0
edit_named settings past (edit.DropArea o) a named is = named o (not_false (is_area past o) (pass_all (drop_area_checks past o) (Ok answer.Done) a is).0)
edit_named settings past (edit.Put o s) a named is = named o (not_false (is_area past o) (pass_all (put_checks past o s) (Ok answer.Done) a is).0)
edit_named settings past (edit.Cut o s) a named is = named o (not_false (is_area past o) (pass_all (cut_checks past o s) (Ok answer.Done) a is).0)
edit_named settings past (edit.Issue notice areas) a named is =
    let all = pass_all (issue_checks past notice areas) (issue_answer ((book_of past).issued + 1) (new_serial (book_of past) notice)) a is in
    let pages : not (have_pages notice.content) ≡ false = all.1.1.1.0 in
    let some : is_empty areas ≡ false = all.1.0 in
    let few : ltb 16 (length areas) ≡ false = all.1.1.1.1.1.1.0 in
    (not_false (have_pages notice.content) pages, some_areas areas some, few_areas (length areas) few, all_named past areas named all.0)
edit_named settings past (edit.Update n c) a named is =
    let pages : not (have_pages c) ≡ false = (pass_all (update_checks past n c) (update_answer (next_serial (book_of past) n)) a is).1.1.1.1.0 in
    not_false (have_pages c) pages
edit_named settings past (edit.Widen n o) a named is = named o (not_false (is_area past o) (pass_all (widen_checks past n o) (Ok answer.Done) a is).0)
edit_named settings past (edit.Narrow n o) a named is = named o (not_false (is_area past o) (pass_all (narrow_checks past n o) (Ok answer.Done) a is).0)
edit_named settings past other a named is = tt

accepted_named : (settings : Settings) (past : Past) (e : Event) (a : Answer) → Lawful settings past → verdict settings past e ≡ Ok a → IsWellNamed e
accepted_named settings past (event.Edit e) a lawful is = edit_named settings past e a (lawful_named settings past lawful) (accepted settings past (event.Edit e) a is).0
accepted_named settings past other a lawful is = tt

carried : (m : Message) → IsRead m ⊎ IsRestart m → HasFrame m
carried m (inl read) = read_has_frame read.kind read.body m read.octets read.spelled read.report
carried m (inr restart) = subst HasFrame (sym restart.same) (restart_has_frame restart.kind restart.recovery restart.low_kind restart.low_recovery)

reported : (e : Event) → IsReported e → HasLine e
reported (event.Report b generation m) h = (h.0, carried m h.1)
reported other h = absurd h

pub accepted_has_line : AcceptedHasLine
accepted_has_line settings past e a lawful is (inl asked) = asked_has_line e asked (accepted_named settings past e a lawful is)
accepted_has_line settings past e a lawful is (inr (inl report)) = reported e report
accepted_has_line settings past e a lawful is (inr (inr link)) = link.1

pub entries_have_lines : EntriesHaveLines
entries_have_lines settings (From base) lawful all = tt
entries_have_lines settings (After e before) lawful all = (accepted_has_line settings before e.event e.answer lawful.1 lawful.0 all.0, entries_have_lines settings before lawful.1 all.1)
