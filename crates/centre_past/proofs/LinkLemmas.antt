-- The links that a centre keeps are those of the past, one entry further.
use Rattle.std.proofs.Common.{◌≡◌, ℕ, ◌+◌, Bool, true, false, ◌&&◌, not, List, [], ◌∷◌, Option, Some, None, Ok, unwrap_or, nat_eq, cond, refl, sym, ◌∙◌, ap, eqb-true}
use Rattle.std.proofs.lemmas.Bool.{not-false}
use Rattle.std.specs.Option.{is_some}
use Rattle.std.specs.Prelude.{if◌then◌else◌}
use Rattle.common.specs.Order.{inserted}
use Rattle.common.specs.OrderLaws.{left_in}
use Rattle.order_maker.specs.Grouping.{first}
use Rattle.warning_book.specs.Book.{warning_of}
use Rattle.coverage_plan.specs.declared.edit.Edit.{Edit}
use Rattle.coverage_plan.specs.declared.edit.Edit.TheVariants as edit
use Rattle.centre_events.specs.Asking.{warning_query}
use Rattle.centre_events.specs.InFlight.{asked_flight, flight_mark, in_flight, is_replied, sent_flight}
use Rattle.centre_events.specs.Links.{generation_mark, is_bsc, is_up, last_link, up_mark}
use Rattle.centre_events.specs.Past.{Past, After, position}
use Rattle.centre_events.specs.Pending.{pending}
use Rattle.centre_events.specs.Verdict.{add_bsc_checks, answered, ask_checks, edit_answered, report_answer, report_checks, send_answer, send_checks}
use Rattle.centre_events.specs.Warnings.{book_of}
use Rattle.centre_events.specs.declared.answer.Answer.{Answer}
use Rattle.centre_events.specs.declared.answer.Answer.TheVariants as answer
use Rattle.centre_events.specs.declared.entry.Entry.{Entry}
use Rattle.centre_events.specs.declared.event.Event.{Event}
use Rattle.centre_events.specs.declared.event.Event.TheVariants as event
use Rattle.centre_events.specs.declared.in_flight.InFlight.{InFlight}
use Rattle.centre_events.specs.declared.network.Network.{Network}
use Rattle.centre_events.specs.declared.settings.Settings.{Settings}
use Rattle.centre_past.specs.Legal.{Legal}
use Rattle.centre_past.specs.Links.{AreLinksOf, flight_in, flight_of, generation_of, is_link_of, link_in, link_lt, links_after, links_edited, up_of, with_flight, with_link, without_link}
use Rattle.centre_past.specs.declared.link.Link.{Link}
use Rattle.centre_past.specs.declared.up_or_down.UpOrDown.{UpOrDown}
use Rattle.centre_past.specs.declared.up_or_down.UpOrDown.TheVariants.{Down, Up}
use Rattle.centre_past.proofs.BscLemmas.{clash, flight_bsc, flight_up}
use Rattle.centre_past.proofs.CheckLemmas.{no_check}
use Rattle.centre_past.proofs.UniqueLemmas.{verdict_answered}

-- without what is kept of a BSC's link
in_without : (d b : ℕ) (ls : List Link) → link_in (without_link d ls) b ≡ cond (nat_eq d b) None (link_in ls b)
in_without d b [] = step (nat_eq d b)
  where
    step : (t : Bool) → None ≡ cond {A = Option Link} t None None
    step true = refl
    step false = refl
in_without d b (l ∷ ls) = step (in_without d b ls) (is_link_of d l) refl
  where
    out : (o : Option Link) → nat_eq l.bsc d ≡ true → o ≡ cond (nat_eq d b) None (link_in ls b) → o ≡ cond (nat_eq d b) None (link_in (l ∷ ls) b)
    out o e h = h ∙ same (nat_eq d b) refl
      where
        same : (t : Bool) → nat_eq d b ≡ t → cond t None (link_in ls b) ≡ cond t None (link_in (l ∷ ls) b)
        same true g = refl
        same false g = sym (ap (λ t. cond t (Some l) (link_in ls b)) (ap (λ k. nat_eq k b) (eqb-true l.bsc d e) ∙ g))

    stays : (o : Option Link) → nat_eq l.bsc d ≡ false → o ≡ cond (nat_eq d b) None (link_in ls b) → cond (nat_eq l.bsc b) (Some l) o ≡ cond (nat_eq d b) None (link_in (l ∷ ls) b)
    stays o e h = ap (cond (nat_eq l.bsc b) (Some l)) h ∙ same (nat_eq d b) refl
      where
        same : (t : Bool) → nat_eq d b ≡ t → cond (nat_eq l.bsc b) (Some l) (cond t None (link_in ls b)) ≡ cond t None (link_in (l ∷ ls) b)
        same true g = ap (λ t. cond t (Some l) None) (ap (nat_eq l.bsc) (sym (eqb-true d b g)) ∙ e)
        same false g = refl

    step : link_in (without_link d ls) b ≡ cond (nat_eq d b) None (link_in ls b) → (t : Bool) → nat_eq l.bsc d ≡ t → link_in (cond (not t) (l ∷ without_link d ls) (without_link d ls)) b ≡ cond (nat_eq d b) None (link_in (l ∷ ls) b)
    step rest true e = out (link_in (without_link d ls) b) e rest
    step rest false e = stays (link_in (without_link d ls) b) e rest

-- what isn't found is neither the first nor behind it
none_found : (t : Bool) (l : Link) (o : Option Link) → cond t (Some l) o ≡ None → (t ≡ false) × (o ≡ None)
none_found true l o h = absurd cc
none_found false l o h = (refl, h)

-- with one more in its place, of whose BSC there is none
in_inserted : (b : ℕ) (l : Link) (ls : List Link) → (nat_eq l.bsc b ≡ true → link_in ls b ≡ None) → link_in (inserted link_lt l ls) b ≡ cond (nat_eq l.bsc b) (Some l) (link_in ls b)
in_inserted b l [] none = refl
in_inserted b l (k ∷ ls) none = step (link_lt k l) (in_inserted b l ls (λ e. (none_found (nat_eq k.bsc b) k (link_in ls b) (none e)).1))
  where
    step : (t : Bool) → link_in (inserted link_lt l ls) b ≡ cond (nat_eq l.bsc b) (Some l) (link_in ls b) → link_in (if t then k ∷ inserted link_lt l ls else l ∷ k ∷ ls) b ≡ cond (nat_eq l.bsc b) (Some l) (link_in (k ∷ ls) b)
    step true rest =
        ap (cond (nat_eq k.bsc b) (Some k)) rest ∙ left_in (nat_eq l.bsc b) (nat_eq k.bsc b) (Some l) (Some k) (link_in ls b) (λ e. (none_found (nat_eq k.bsc b) k (link_in ls b) (none e)).0)
    step false rest = refl

-- with that of a BSC
abbrev link_with : ℕ → ℕ → UpOrDown → Link
link_with d g state = record { bsc = d; generation = g; state = state }

in_with : (d b g : ℕ) (state : UpOrDown) (ls : List Link) → link_in (with_link d g state ls) b ≡ cond (nat_eq d b) (Some (link_with d g state)) (link_in ls b)
in_with d b g state ls = in_inserted b new (without_link d ls) (λ e. in_without d b ls ∙ ap (λ t. cond t None (link_in ls b)) e) ∙ step (nat_eq d b) refl
  where
    new : Link
    new = link_with d g state

    step : (t : Bool) → nat_eq d b ≡ t → cond t (Some new) (link_in (without_link d ls) b) ≡ cond t (Some new) (link_in ls b)
    step true e = refl
    step false e = in_without d b ls ∙ ap (λ t. cond t None (link_in ls b)) e

-- what is marked, or what was before
marked : {A : Type 0} (t : Bool) (o : Option Link) (f : Option Link → A) (l : Option Link) (x before : A) → f l ≡ x → f o ≡ before → f (cond t l o) ≡ unwrap_or (if t then Some x else None) before
marked true o f l x before e g = e
marked false o f l x before e g = g

with_marked : {A : Type 0} (f : Option Link → A) (d b g : ℕ) (state : UpOrDown) (ls : List Link) (before : A) → f (link_in ls b) ≡ before → f (link_in (with_link d g state ls) b) ≡ unwrap_or (if nat_eq d b then Some (f (Some (link_with d g state))) else None) before
with_marked f d b g state ls before h = ap f (in_with d b g state ls) ∙ marked (nat_eq d b) (link_in ls b) f (Some (link_with d g state)) (f (Some (link_with d g state))) before refl h

without_marked : {A : Type 0} (f : Option Link → A) (d b : ℕ) (ls : List Link) (before : A) → f (link_in ls b) ≡ before → f (link_in (without_link d ls) b) ≡ unwrap_or (if nat_eq d b then Some (f None) else None) before
without_marked f d b ls before h = ap f (in_without d b ls) ∙ marked (nat_eq d b) (link_in ls b) f None (f None) before refl h

-- what stays what it was
unless_that : {A : Type 0} (t : Bool) (o : Option Link) (f : Option Link → A) (l : Option Link) (before : A) → (t ≡ true → f l ≡ before) → f o ≡ before → f (cond t l o) ≡ before
unless_that true o f l before e g = e refl
unless_that false o f l before e g = g

with_kept : {A : Type 0} (f : Option Link → A) (d b g : ℕ) (state : UpOrDown) (ls : List Link) (before : A) → f (link_in ls b) ≡ before → (nat_eq d b ≡ true → f (Some (link_with d g state)) ≡ before) → f (link_in (with_link d g state ls) b) ≡ before
with_kept f d b g state ls before h same = ap f (in_with d b g state ls) ∙ unless_that (nat_eq d b) (link_in ls b) f (Some (link_with d g state)) before same h

without_kept : {A : Type 0} (f : Option Link → A) (d b : ℕ) (ls : List Link) (before : A) → f (link_in ls b) ≡ before → (nat_eq d b ≡ true → f None ≡ before) → f (link_in (without_link d ls) b) ≡ before
without_kept f d b ls before h same = ap f (in_without d b ls) ∙ unless_that (nat_eq d b) (link_in ls b) f None before same h

-- Whether a link is up.

-- the link of an event that was not refused for a link that is down
is_linked : (before : Past) (d b : ℕ) → not (is_up before d) ≡ false → nat_eq d b ≡ true → is_up before b ≡ true
is_linked before d b h e = ap (is_up before) (sym (eqb-true d b e)) ∙ not-false (is_up before d) h

up_edited : (e : Edit) (before : Past) (ls : List Link) (b : ℕ) → up_of (link_in ls b) ≡ is_up before b → up_of (link_in (links_edited e ls) b) ≡ unwrap_or (up_mark b (event.Edit e)) (is_up before b)
up_edited (edit.AddBsc d) before ls b h = without_marked up_of d b ls (is_up before b) h
up_edited other before ls b h = h

up_then : (network : Network) (e : Event) (a : Answer) (before : Past) (place : ℕ) (ls : List Link) (b : ℕ) → answered network before e ≡ Ok a → up_of (link_in ls b) ≡ is_up before b → up_of (link_in (links_after e a place ls) b) ≡ unwrap_or (up_mark b e) (is_up before b)
up_then network (event.Edit x) a before place ls b v h = up_edited x before ls b h
up_then network (event.LinkUp d) a before place ls b v h = with_marked up_of d b place (Up None) ls (is_up before b) h
up_then network (event.LinkDown d g) a before place ls b v h = with_marked up_of d b (generation_of (link_in ls d)) Down ls (is_up before b) h
up_then network (event.Send d g) a before place ls b v h =
    with_kept up_of d b (generation_of (link_in ls d)) (Up (sent_flight a)) ls (is_up before b) h
    (λ e. sym (is_linked before d b (no_check (send_checks before d g) (send_answer network.broadcasts before (first (pending before d))) a v).1.1.0 e))
up_then network (event.Ask d g n after) a before place ls b v h =
    with_kept up_of d b (generation_of (link_in ls d)) (Up (asked_flight a)) ls (is_up before b) h
    (λ e. sym (is_linked before d b (no_check (ask_checks before d g n) (warning_query before d (warning_of (book_of before) n) after) a v).1.1.1.0 e))
up_then network (event.Report d g message) a before place ls b v h = step (is_replied a)
  where
    step : (t : Bool) → up_of (link_in (if t then with_flight d None ls else ls) b) ≡ is_up before b
    step true =
        with_kept up_of d b (generation_of (link_in ls d)) (Up None) ls (is_up before b) h
        (λ e. sym (is_linked before d b (no_check (report_checks before d g message) (report_answer network.plmn before d message (in_flight before d)) a v).1.1.0 e))
    step false = h
up_then network (event.Retry d) a before place ls b v h = h

-- Its generation.

last_edited : (e : Edit) (before : Past) (place : ℕ) (ls : List Link) (b : ℕ) → generation_of (link_in ls b) ≡ last_link before b → generation_of (link_in (links_edited e ls) b) ≡ unwrap_or (generation_mark b (event.Edit e) place) (last_link before b)
last_edited (edit.AddBsc d) before place ls b h = without_marked generation_of d b ls (last_link before b) h
last_edited other before place ls b h = h

-- a change of what is in flight, or the end of a link, leaves it
last_kept : (before : Past) (d b : ℕ) (state : UpOrDown) (ls : List Link) → generation_of (link_in ls b) ≡ last_link before b → generation_of (link_in (with_link d (generation_of (link_in ls d)) state ls) b) ≡ last_link before b
last_kept before d b state ls h =
    with_kept generation_of d b (generation_of (link_in ls d)) state ls (last_link before b) h (λ e. ap (λ k. generation_of (link_in ls k)) (eqb-true d b e) ∙ h)

last_then : (e : Event) (a : Answer) (before : Past) (place : ℕ) (ls : List Link) (b : ℕ) → generation_of (link_in ls b) ≡ last_link before b → generation_of (link_in (links_after e a place ls) b) ≡ unwrap_or (generation_mark b e place) (last_link before b)
last_then (event.Edit x) a before place ls b h = last_edited x before place ls b h
last_then (event.LinkUp d) a before place ls b h = with_marked generation_of d b place (Up None) ls (last_link before b) h
last_then (event.LinkDown d g) a before place ls b h = last_kept before d b Down ls h
last_then (event.Send d g) a before place ls b h = last_kept before d b (Up (sent_flight a)) ls h
last_then (event.Ask d g n after) a before place ls b h = last_kept before d b (Up (asked_flight a)) ls h
last_then (event.Report d g message) a before place ls b h = step (is_replied a)
  where
    step : (t : Bool) → generation_of (link_in (if t then with_flight d None ls else ls) b) ≡ last_link before b
    step true = last_kept before d b (Up None) ls h
    step false = h
last_then (event.Retry d) a before place ls b h = h

-- What is in flight over it.

none_there : (o : Option InFlight) → (is_some o ≡ true → ⊥) → None ≡ o
none_there None why = refl
none_there (Some f) why = absurd (why refl)

flight_edited : (e : Edit) (a : Answer) (before : Past) (ls : List Link) (b : ℕ) → edit_answered before e ≡ Ok a → (is_some (in_flight before b) ≡ true → is_bsc before b ≡ true) → flight_in ls b ≡ in_flight before b → flight_in (links_edited e ls) b ≡ in_flight before b
flight_edited (edit.AddBsc d) a before ls b v there h =
    without_kept flight_of d b ls (in_flight before b) h
    (λ e. none_there (in_flight before b) (λ some. clash (is_bsc before) d b e (there some) (no_check (add_bsc_checks before d) (Ok answer.Done) a v).0))
flight_edited other a before ls b v there h = h

-- a link that comes up has nothing in flight over it: what was is lost with a link that was up, and nothing was else
link_begins : (t u : Bool) (before : Option InFlight) (o : Option Link) (d place : ℕ) → (is_some before ≡ true → u ≡ true) → flight_of o ≡ before → flight_of (cond t (Some (link_with d place (Up None))) o) ≡ unwrap_or (if t && u then Some None else None) before
link_begins true true before o d place up h = refl
link_begins true false before o d place up h = none_there before (λ some. let no : false ≡ true = up some in cc)
link_begins false u before o d place up h = h

-- a reply ends what is in flight
reply_ends : (t u : Bool) (before : Option InFlight) (kept lost : Option InFlight) → lost ≡ unwrap_or (if t then Some None else None) before → kept ≡ before → (if u then lost else kept) ≡ unwrap_or (if t && u then Some None else None) before
reply_ends true true before kept lost e h = e
reply_ends true false before kept lost e h = h
reply_ends false true before kept lost e h = e
reply_ends false false before kept lost e h = h

flight_if : (u : Bool) (b : ℕ) (xs ys : List Link) → flight_in (if u then xs else ys) b ≡ (if u then flight_in xs b else flight_in ys b)
flight_if true b xs ys = refl
flight_if false b xs ys = refl

flight_then : (network : Network) (e : Event) (a : Answer) (before : Past) (place : ℕ) (ls : List Link) (b : ℕ) → answered network before e ≡ Ok a → (is_some (in_flight before b) ≡ true → is_bsc before b ≡ true) → (is_some (in_flight before b) ≡ true → is_up before b ≡ true) → flight_in ls b ≡ in_flight before b → flight_in (links_after e a place ls) b ≡ unwrap_or (flight_mark b e a (is_up before b)) (in_flight before b)
flight_then network (event.Edit x) a before place ls b v there up h = flight_edited x a before ls b v there h
flight_then network (event.LinkUp d) a before place ls b v there up h =
    ap flight_of (in_with d b place (Up None) ls) ∙ link_begins (nat_eq d b) (is_up before b) (in_flight before b) (link_in ls b) d place up h
flight_then network (event.LinkDown d g) a before place ls b v there up h = with_marked flight_of d b (generation_of (link_in ls d)) Down ls (in_flight before b) h
flight_then network (event.Send d g) a before place ls b v there up h = with_marked flight_of d b (generation_of (link_in ls d)) (Up (sent_flight a)) ls (in_flight before b) h
flight_then network (event.Ask d g n after) a before place ls b v there up h = with_marked flight_of d b (generation_of (link_in ls d)) (Up (asked_flight a)) ls (in_flight before b) h
flight_then network (event.Report d g message) a before place ls b v there up h =
    flight_if (is_replied a) b (with_flight d None ls) ls
    ∙ reply_ends (nat_eq d b) (is_replied a) (in_flight before b) (flight_in ls b) (flight_in (with_flight d None ls) b) (with_marked flight_of d b (generation_of (link_in ls d)) (Up None) ls (in_flight before b) h) h
flight_then network (event.Retry d) a before place ls b v there up h = h

-- the links stay those of the past
pub links_with : (settings : Settings) (e : Entry) (before : Past) (ls : List Link) → Legal settings (After e before) → AreLinksOf before ls → AreLinksOf (After e before) (links_after e.event e.answer (position before + 1) ls)
links_with settings e before ls legal linked =
    let v : answered settings.network before e.event ≡ Ok e.answer = verdict_answered settings before e.event e.answer legal.0 in
    record {
      ups = λ b. up_then settings.network e.event e.answer before (position before + 1) ls b v (linked.ups b);
      generations = λ b. last_then e.event e.answer before (position before + 1) ls b (linked.generations b);
      flights = λ b. flight_then settings.network e.event e.answer before (position before + 1) ls b v (flight_bsc settings before legal.1 b) (flight_up settings before legal.1 b) (linked.flights b);
    }
