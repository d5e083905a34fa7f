-- What an Ask is answered, and what it puts in flight: a query of the current version of a warning in the book.
use Rattle.std.proofs.Common.{◌≡◌, ℕ, Bool, true, false, not, List, [], ◌∷◌, ◌++◌, Option, Some, None, Result, Ok, Err, cond, refl, sym, ◌∙◌, ap, subst}
use Rattle.std.specs.Option.{is_some}
use Rattle.common.specs.Checks.{first_refusal}
use Rattle.common.specs.declared.cell.Cell.{Cell}
use Rattle.centre_events.specs.OrderMessage.{query_message}
use Rattle.warning_book.specs.Book.{current_of, kind_of, warning_of}
use Rattle.warning_book.specs.declared.kind.Kind.{Kind}
use Rattle.warning_book.specs.declared.kind.Kind.TheVariants as kind
use Rattle.warning_book.specs.declared.warning.Warning.{Warning}
use Rattle.centre_events.specs.Asking.{asked_cells, query_of, query_of_kind, version_query, warning_query}
use Rattle.centre_events.specs.InFlight.{in_flight}
use Rattle.centre_events.specs.Kept.{Gives}
use Rattle.centre_events.specs.Links.{is_bsc}
use Rattle.centre_events.specs.Past.{Past}
use Rattle.centre_events.specs.Verdict.{ask, ask_checks, generation_checks, link_checks, unless}
use Rattle.centre_events.specs.Warnings.{book_of}
use Rattle.centre_events.specs.declared.answer.Answer.{Answer}
use Rattle.centre_events.specs.declared.answer.Answer.TheVariants.{Asked}
use Rattle.centre_events.specs.declared.refusal.Refusal.{Refusal}
use Rattle.centre_events.specs.declared.refusal.Refusal.TheVariants.{InFlight, NoSuchBsc, NoSuchWarning}
use Rattle.centre_past.proofs.CheckLemmas.{none_before, past_check, unless_ok}

-- the answer is the query of the current version of a warning in the book, in cells at the BSC in which it is on air
pub record IsQuery (past : Past) (b : ℕ) (a : Answer) : Type 0 where
  pub number : ℕ
  pub after : Option Cell
  pub warning : Warning
  pub serial : ℕ
  pub found : warning_of (book_of past) number ≡ Some warning
  pub current : current_of warning ≡ Some serial
  pub is : a ≡ Asked warning.message_id serial (asked_cells past b warning.message_id serial after) (query_message warning.message_id serial (asked_cells past b warning.message_id serial after))

asked_is : (m s : ℕ) (cs : List Cell) (a : Answer) → query_of m s cs ≡ Ok a → a ≡ Asked m s cs (query_message m s cs)
asked_is m s [] a h = cc
asked_is m s (c ∷ cs) a h = let same : Asked m s (c ∷ cs) (query_message m s (c ∷ cs)) ≡ a = cc in sym same

-- what an accepted Ask is answered
pub ask_query : (past : Past) (b generation n : ℕ) (after : Option Cell) (a : Answer) → ask past b generation n after ≡ Ok a → IsQuery past b a
ask_query past b generation n after a h =
    by_warning (warning_of (book_of past) n) refl (unless_ok (ask_checks past b generation n) (warning_query past b (warning_of (book_of past) n) after) a h)
  where
    by_version : (w : Warning) → warning_of (book_of past) n ≡ Some w → (o : Option ℕ) → current_of w ≡ o → version_query past b w.message_id o after ≡ Ok a → IsQuery past b a
    by_version w found None e g = cc
    by_version w found (Some s) e g = record {
      number = n;
      after = after;
      warning = w;
      serial = s;
      found = found;
      current = e;
      is = asked_is w.message_id s (asked_cells past b w.message_id s after) a g;
    }

    by_warning : (o : Option Warning) → warning_of (book_of past) n ≡ o → warning_query past b o after ≡ Ok a → IsQuery past b a
    by_warning None e g = cc
    by_warning (Some w) e g = by_version w e (current_of w) refl (by_kind (kind_of w) g)
      where
        by_kind : (k : Kind) → query_of_kind k (version_query past b w.message_id (current_of w) after) ≡ Ok a → version_query past b w.message_id (current_of w) after ≡ Ok a
        by_kind kind.Cbs f = f
        by_kind kind.Emergency f = cc

-- where no check holds, none behind the first does
none_behind : (t : Bool) (r : Refusal) (checks : List (Bool × Refusal)) → first_refusal ((t, r) ∷ checks) ≡ None → first_refusal checks ≡ None
none_behind true r checks none = cc
none_behind false r checks none = none

-- what is on air decides an Ask over its link while nothing is in flight
pub ask_free : (past : Past) (b generation n : ℕ) (after : Option Cell) (w : Warning) → is_bsc past b ≡ true → warning_of (book_of past) n ≡ Some w → first_refusal (link_checks past b generation) ≡ None → is_some (in_flight past b) ≡ false → ask past b generation n after ≡ warning_query past b (Some w) after
ask_free past b generation n after w h g k f =
    past_check (not (is_bsc past b)) NoSuchBsc (unless ((not (is_some (warning_of (book_of past) n)), NoSuchWarning) ∷ linked) (warning_query past b (warning_of (book_of past) n) after)) (warning_query past b (Some w) after) (ap not h)
    (past_check (not (is_some (warning_of (book_of past) n))) NoSuchWarning (unless linked (warning_query past b (warning_of (book_of past) n) after)) (warning_query past b (Some w) after) (ap (λ o. not (is_some o)) g)
    (ap (λ o. unless linked (warning_query past b o after)) g
    ∙ none_before (generation_checks past b generation) ((is_some (in_flight past b), InFlight) ∷ []) (warning_query past b (Some w) after) (none_behind (not (is_bsc past b)) NoSuchBsc (generation_checks past b generation) k)
    ∙ ap (λ t. cond t (Err InFlight) (warning_query past b (Some w) after)) f))
  where
    linked : List (Bool × Refusal)
    linked = generation_checks past b generation ++ (is_some (in_flight past b), InFlight) ∷ []

-- its verdict is that of the query of the warning
pub ask_given : (past : Past) (b generation n : ℕ) (after : Option Cell) (w : Warning) (r : Result Answer Refusal) → is_bsc past b ≡ true → warning_of (book_of past) n ≡ Some w → first_refusal (link_checks past b generation) ≡ None → is_some (in_flight past b) ≡ false → Gives (warning_query past b (Some w) after) r → Gives (ask past b generation n after) r
ask_given past b generation n after w r h g k f given =
    subst (λ v. Gives v r) (sym (ask_free past b generation n after w h g k f)) given
