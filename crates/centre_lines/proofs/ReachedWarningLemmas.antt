-- The warnings on whose lines an event bears, from what is kept.
use Rattle.std.proofs.Common.{◌≡◌, ◌≢◌, ◌⊎◌, inl, inr, arith, ℕ, ◌+◌, ◌<◌, true, false, nat_le, List, [], ◌∷◌, Option, Ok, map, filter, refl, sym, ◌∙◌, ap, subst}
use Rattle.std.proofs.lemmas.Bool.Decides.{nat_tests}
use Rattle.std.proofs.lemmas.Grind.{common_steps}
use Rattle.areas.specs.declared.selector.Selector.{Selector}
use Rattle.cbsp_messages.specs.declared.message.Message.{Message}
use Rattle.common.specs.declared.cell.Cell.{Cell}
use Rattle.warning_book.specs.Book.{State, numbers, naming, new_serial}
use Rattle.warning_book.specs.declared.content.Content.{Content}
use Rattle.warning_book.specs.declared.notice.Notice.{Notice}
use Rattle.warning_book.specs.declared.warning.Warning.{Warning}
use Rattle.centre_events.specs.InFlight.{in_flight}
use Rattle.centre_events.specs.Past.{Past}
use Rattle.centre_past.specs.Reach.{no_reach, all_numbers, flight_reach, report_reach, edit_reach, reach_of}
use Rattle.centre_events.specs.Links.{bsc_of}
use Rattle.centre_past.specs.Reaching.{IsFlightOf}
use Rattle.centre_events.specs.Verdict.{edit_answered, issue_checks, issue_answer}
use Rattle.centre_events.specs.Warnings.{book_of}
use Rattle.centre_events.specs.declared.answer.Answer.{Answer}
use Rattle.centre_events.specs.declared.answer.Answer.TheVariants as answer
use Rattle.coverage_plan.specs.declared.edit.Edit.{Edit}
use Rattle.coverage_plan.specs.declared.edit.Edit.TheVariants as edit
use Rattle.centre_events.specs.declared.event.Event.{Event}
use Rattle.centre_events.specs.declared.event.Event.TheVariants as event
use Rattle.centre_events.specs.declared.in_flight.InFlight.{InFlight}
use Rattle.centre_events.specs.declared.reply.Reply.{Reply}
use Rattle.centre_past.proofs.CheckLemmas.{no_check}

-- they are those of the reach of the edit
abbrev AreOf : Past → List ℕ → Edit → Type 0
AreOf past ns e = ns ≡ (edit_reach past e).warnings

filter_true : {A : Type 0} (xs : List A) → filter (λ (x : A). true) xs ≡ xs
filter_true [] = refl
filter_true (x ∷ xs) = ap (λ l. x ∷ l) (filter_true xs)

-- all that are in the book
pub all_listed : (past : Past) (st : State) (ns : List ℕ) → st ≡ book_of past → ns ≡ numbers st.warnings → ns ≡ all_numbers past
all_listed past st ns booked is =
    is ∙ ap (λ (s : State). numbers s.warnings) booked ∙ sym (ap (map (λ (w : Warning). w.number)) (filter_true (book_of past).warnings))

pub none_bear : (past : Past) (e : Edit) (ns : List ℕ) → ((b : ℕ) × (e ≡ edit.AddBsc b)) ⊎ (((a : List ℕ) × (e ≡ edit.AddArea a)) ⊎ ((a : List ℕ) × (e ≡ edit.DropArea a))) → ns ≡ [] → AreOf past ns e
none_bear past e ns (inl (b, which)) is = subst (AreOf past ns) (sym which) is
none_bear past e ns (inr (inl (a, which))) is = subst (AreOf past ns) (sym which) is
none_bear past e ns (inr (inr (a, which))) is = subst (AreOf past ns) (sym which) is

pub all_bear : (past : Past) (st : State) (e : Edit) (ns : List ℕ) → ((b : ℕ) × (e ≡ edit.RemoveBsc b)) ⊎ (((c : Cell) × (b : ℕ) × (e ≡ edit.AddCell c b)) ⊎ (((c : Cell) × (b : ℕ) × (e ≡ edit.MoveCell c b)) ⊎ ((c : Cell) × (e ≡ edit.RemoveCell c)))) → st ≡ book_of past → ns ≡ numbers st.warnings → AreOf past ns e
all_bear past st e ns (inl (b, which)) booked is = subst (AreOf past ns) (sym which) (all_listed past st ns booked is)
all_bear past st e ns (inr (inl (c, b, which))) booked is = subst (AreOf past ns) (sym which) (all_listed past st ns booked is)
all_bear past st e ns (inr (inr (inl (c, b, which)))) booked is = subst (AreOf past ns) (sym which) (all_listed past st ns booked is)
all_bear past st e ns (inr (inr (inr (c, which)))) booked is = subst (AreOf past ns) (sym which) (all_listed past st ns booked is)

pub naming_bear : (past : Past) (st : State) (e : Edit) (a : List ℕ) (ns : List ℕ) → ((s : Selector) × (e ≡ edit.Put a s)) ⊎ ((s : Selector) × (e ≡ edit.Cut a s)) → st ≡ book_of past → ns ≡ naming a st.warnings → AreOf past ns e
naming_bear past st e a ns (inl (s, which)) booked is = subst (AreOf past ns) (sym which) (is ∙ ap (λ (k : State). naming a k.warnings) booked)
naming_bear past st e a ns (inr (s, which)) booked is = subst (AreOf past ns) (sym which) (is ∙ ap (λ (k : State). naming a k.warnings) booked)

pub one_bears : (past : Past) (e : Edit) (n : ℕ) (ns : List ℕ) → ((content : Content) × (e ≡ edit.Update n content)) ⊎ (((a : List ℕ) × (e ≡ edit.Widen n a)) ⊎ (((a : List ℕ) × (e ≡ edit.Narrow n a)) ⊎ ((e ≡ edit.Stop n) ⊎ (e ≡ edit.Forget n)))) → ns ≡ n ∷ [] → AreOf past ns e
one_bears past e n ns (inl (content, which)) is = subst (AreOf past ns) (sym which) is
one_bears past e n ns (inr (inl (a, which))) is = subst (AreOf past ns) (sym which) is
one_bears past e n ns (inr (inr (inl (a, which)))) is = subst (AreOf past ns) (sym which) is
one_bears past e n ns (inr (inr (inr (inl which)))) is = subst (AreOf past ns) (sym which) is
one_bears past e n ns (inr (inr (inr (inr which)))) is = subst (AreOf past ns) (sym which) is

-- an Issue that is accepted finds a number left
pub number_left : (past : Past) (st : State) (notice : Notice) (areas : List (List ℕ)) (a : Answer) → st ≡ book_of past → edit_answered past (edit.Issue notice areas) ≡ Ok a → st.issued < 4294967295
number_left past st notice areas a booked accepted =
    subst (λ (k : State). k.issued < 4294967295) (sym booked)
    (left (book_of past).issued (no_check (issue_checks past notice areas) (issue_answer ((book_of past).issued + 1) (new_serial (book_of past) notice)) a accepted).1.1.1.1.1.1.1.0)
  where
    left : (n : ℕ) → nat_le 4294967295 n ≡ false → n < 4294967295
    left n h = grind (arith, nat_tests, common_steps)

pub next_bears : (past : Past) (st : State) (e : Edit) (notice : Notice) (areas : List (List ℕ)) (a : Answer) (n : ℕ) (ns : List ℕ) → e ≡ edit.Issue notice areas → st ≡ book_of past → edit_answered past e ≡ Ok a → (st.issued < 4294967295 → n ≡ st.issued + 1) → ns ≡ n ∷ [] → AreOf past ns e
next_bears past st e notice areas a n ns which booked accepted next is =
    subst (AreOf past ns) (sym which)
    (is ∙ ap (λ k. k ∷ []) (next (number_left past st notice areas a booked (sym (ap (edit_answered past) which) ∙ accepted))) ∙ ap (λ (k : State). (k.issued + 1) ∷ []) booked)

-- The other events.

-- an answer that is neither bears on nothing
pub other_answer : (past : Past) (b : ℕ) (a : Answer) → ((replies : List Reply) → a ≢ answer.Replied replies) → ((listed : List Cell) → a ≢ answer.Listed listed) → report_reach past b a ≡ no_reach
other_answer past b (answer.Replied replies) replied listed = absurd (replied replies refl)
other_answer past b (answer.Listed cells) replied listed = absurd (listed cells refl)
other_answer past b other replied listed = refl

abbrev AreOfEvent : Past → List ℕ → Answer → Event → Type 0
AreOfEvent past ns a e = ns ≡ (reach_of past e a).warnings

abbrev Flies : Past → Option InFlight → Event → Type 0
Flies past f e = IsFlightOf past (bsc_of e) f

-- a link that comes up, or is lost
pub link_bears : (past : Past) (e : Event) (a : Answer) (f : Option InFlight) (ns : List ℕ) → ((b : ℕ) × (e ≡ event.LinkUp b)) ⊎ ((b : ℕ) × (generation : ℕ) × (e ≡ event.LinkDown b generation)) → Flies past f e → ((b : ℕ) → ns ≡ (flight_reach past b f).warnings) → AreOfEvent past ns a e
link_bears past e a f ns (inl (b, which)) flying is =
    subst (AreOfEvent past ns a) (sym which) (is b ∙ ap (λ o. (flight_reach past b o).warnings) (subst (Flies past f) which flying))
link_bears past e a f ns (inr (b, generation, which)) flying is =
    subst (AreOfEvent past ns a) (sym which) (is b ∙ ap (λ o. (flight_reach past b o).warnings) (subst (Flies past f) which flying))

pub report_bears : (past : Past) (e : Event) (a : Answer) (f : Option InFlight) (b generation : ℕ) (message : Message) (ns : List ℕ) → e ≡ event.Report b generation message → Flies past f e → (f ≡ in_flight past b → ns ≡ (report_reach past b a).warnings) → AreOfEvent past ns a e
report_bears past e a f b generation message ns which flying is = subst (AreOfEvent past ns a) (sym which) (is (subst (Flies past f) which flying))

-- a Send bears on nothing, nor does an Ask, and nothing is in flight to the BSC of an edit
pub nothing_bears : (past : Past) (e : Event) (a : Answer) (f : Option InFlight) (ns : List ℕ) → ((b : ℕ) × (generation : ℕ) × (e ≡ event.Send b generation)) ⊎ (((b : ℕ) × (generation : ℕ) × (n : ℕ) × (after : Option Cell) × (e ≡ event.Ask b generation n after)) ⊎ ((x : Edit) × (e ≡ event.Edit x))) → Flies past f e → ns ≡ [] → AreOfEvent past ns a e
nothing_bears past e a f ns (inl (b, generation, which)) flying is = subst (AreOfEvent past ns a) (sym which) is
nothing_bears past e a f ns (inr (inl (b, generation, n, after, which))) flying is = subst (AreOfEvent past ns a) (sym which) is
nothing_bears past e a f ns (inr (inr (x, which))) flying is = absurd (subst (Flies past f) which flying)
