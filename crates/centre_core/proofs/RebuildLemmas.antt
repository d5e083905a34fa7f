-- What is kept is made anew, entry by entry.
use Rattle.std.specs.Prelude.{OnOk, Some, None, nat_le, slice_get, if◌then◌else◌}
use Rattle.kept_tables.specs.declared.spot.Spot.{Spot}
use Rattle.coverage_plan.specs.declared.edit.Edit.{Edit}
use Rattle.std.proofs.Common.{◌≡◌, ℕ, suc, zero, Bool, false, ◌+◌, ◌-◌, ◌*◌, ◌<◌, ◌≤◌, List, [], ◌∷◌, ◌++◌, Result, Ok, Err, refl, sym, ◌∙◌, ap, subst, length, get_or, take, drop, reverse, arith, length-append}
use Rattle.std.proofs.Math.Seq.{take-append_seam}
use Rattle.std.proofs.lemmas.Bool.{lt-leb}
use Rattle.std.proofs.lemmas.List.{reverse-append, take_all}
use Rattle.std.proofs.lemmas.Option.{get_or_from_slice_get}
use Rattle.centre_events.specs.Base.{empty_base}
use Rattle.centre_past.specs.Links.{AreLinksOf, up_before}
use Rattle.centre_lines.specs.Following.{Finishes, Follows, IsLegal, WasReached}
use Rattle.centre_past.specs.IsKept.{IsKept, OnlyReadsIn}
use Rattle.centre_events.specs.Kept.{is_edit}
use Rattle.coverage_plan.specs.Edited.{edited}
use Rattle.centre_past.specs.Legal.{Legal}
use Rattle.centre_events.specs.Past.{Past, After, since, past_of}
use Rattle.centre_events.specs.Verdict.{answered, edit_answered, verdict}
use Rattle.centre_events.specs.declared.answer.Answer.{Answer}
use Rattle.centre_events.specs.declared.entry.Entry.{Entry}
use Rattle.centre_events.specs.declared.event.Event.{Event}
use Rattle.centre_events.specs.declared.event.Event.TheVariants as event
use Rattle.centre_events.specs.declared.settings.Settings.{Settings}
use Rattle.centre_lines.specs.declared.lines_before.LinesBefore.{LinesBefore}
use Rattle.centre_past.specs.declared.kept.Kept.{Kept}
use Rattle.centre_core.specs.Centre.{all_reach, past_over}
use Rattle.centre_core.proofs.CentreLemmas.{finishes_edit, finishes_other}
use Rattle.centre_core.proofs.FoldedLemmas.{all_reach_over}
use Rattle.centre_events.proofs.PastLemmas.{past_more, position_past}
use Rattle.centre_past.proofs.ReadLemmas.{reads_kept}
use Rattle.centre_past.proofs.UniqueLemmas.{verdict_answered}

-- the entries before others of a legal past make a legal past
legal_since : (settings : Settings) (xs ys : List Entry) → Legal settings (since empty_base (xs ++ ys)) → Legal settings (since empty_base ys)
legal_since settings [] ys h = h
legal_since settings (x ∷ xs) ys h = legal_since settings xs ys h.1

parted : (xs : List Entry) (i : ℕ) → take i xs ++ drop i xs ≡ xs
parted [] zero = refl
parted [] (suc i) = refl
parted (x ∷ xs) zero = refl
parted (x ∷ xs) (suc i) = ap (λ ys. x ∷ ys) (parted xs i)

legal_front : (settings : Settings) (xs : List Entry) (i : ℕ) → Legal settings (past_of xs) → Legal settings (past_of (take i xs))
legal_front settings xs i legal =
    legal_since settings (reverse (drop i xs)) (reverse (take i xs))
    (subst (λ ys. Legal settings (since empty_base ys)) (ap reverse (sym (parted xs i)) ∙ reverse-append (take i xs) (drop i xs)) legal)

past_at : (xs : List Entry) (i : ℕ) (d : Entry) → i < length xs → past_of (take (i + 1) xs) ≡ After (get_or xs i d) (past_of (take i xs))
past_at xs i d h = ap (since empty_base) (past_more xs i d h)

pub entered_at : (settings : Settings) (xs : List Entry) (i : ℕ) (d : Entry) → i < length xs → Legal settings (past_of xs) → (verdict settings (past_of (take i xs)) (get_or xs i d).event ≡ Ok (get_or xs i d).answer) × Legal settings (past_of (take i xs))
entered_at settings xs i d h legal = subst (Legal settings) (past_at xs i d h) (legal_front settings xs (i + 1) legal)

-- an entry of a legal journal can be followed where those before it were
abbrev pub follows_at : (journal : List Entry) (x : IsLegal journal) (i : ℕ) (d : Entry) (s : Kept) (place : ℕ) → i < length journal → place ≡ i + 1 → IsKept (past_of (take i journal)) s → Follows s (get_or journal i d) place
follows_at journal x i d s place h at kept = record {
  settings = x.settings;
  past = past_of (take i journal);
  legal = (entered_at x.settings journal i d h x.legal).1;
  accepted = (entered_at x.settings journal i d h x.legal).0;
  kept = kept;
  is_place = at ∙ ap (λ n. n + 1) (sym (position_past journal i (omega (arith, h))));
}

-- what is kept then is what the past with it says
pub kept_at : (journal : List Entry) (i : ℕ) (d : Entry) (s : Kept) → i < length journal → IsKept (After (get_or journal i d) (past_of (take i journal))) s → IsKept (past_of (take (i + 1) journal)) s
kept_at journal i d s h kept = subst (λ past. IsKept past s) (sym (past_at journal i d h)) kept

-- What is known where an entry is followed.

-- the same past, and an entry of the same desk
record Finished (s t : Kept) (e : Entry) (v : Event) (place : ℕ) (up : Bool) (spots : List Spot) (earlier : LinesBefore) (x : Follows s e place) : Type 0 where
  known : Finishes t v e.answer place up spots earlier
  desk : known.desk ≡ e.desk
  past : known.past ≡ x.past

edit_finished : (r s t : Kept) (e : Entry) (edit : Edit) (place : ℕ) (spots : List Spot) (earlier : LinesBefore) (x : Follows r e place) → e.event ≡ event.Edit edit → OnlyReadsIn r s → t ≡ record s { plan = edited edit s.plan } → ((settings : Settings) (past : Past) (a : Answer) → Legal settings past → IsKept past r → edit_answered past edit ≡ Ok a → WasReached past (event.Edit edit) a spots earlier) → Finished r t e e.event place false spots earlier x
edit_finished r s t e edit place spots earlier x is reads made reached =
    let accepted : verdict x.settings x.past (event.Edit edit) ≡ Ok e.answer = subst (λ v. verdict x.settings x.past v ≡ Ok e.answer) is x.accepted in
    subst (λ v. Finished r t e v place false spots earlier x) (sym is) (record {
      known = finishes_edit x.settings x.past e.desk edit e.answer s t place spots earlier x.legal accepted (reads_kept x.past r s x.kept reads) made x.is_place (reached x.settings x.past e.answer x.legal x.kept (verdict_answered x.settings x.past (event.Edit edit) e.answer accepted));
      desk = refl;
      past = refl;
    })

other_finished : (r s : Kept) (e : Entry) (place : ℕ) (up : Bool) (spots : List Spot) (earlier : LinesBefore) (x : Follows r e place) → is_edit e.event ≡ false → OnlyReadsIn r s → up ≡ up_before x.past e.event → ((settings : Settings) (past : Past) → Legal settings past → IsKept past r → answered settings.network past e.event ≡ Ok e.answer → WasReached past e.event e.answer spots earlier) → Finished r s e e.event place up spots earlier x
other_finished r s e place up spots earlier x other reads up_is reached = record {
  known = finishes_other x.settings x.past e.desk e.event e.answer s place up spots earlier x.legal x.accepted (reads_kept x.past r s x.kept reads) other up_is x.is_place (reached x.settings x.past x.legal x.kept (verdict_answered x.settings x.past e.event e.answer x.accepted));
  desk = refl;
  past = refl;
}

pub edit_finishes : (r s t : Kept) (e : Entry) (edit : Edit) (place : ℕ) (spots : List Spot) (earlier : LinesBefore) → Follows r e place → e.event ≡ event.Edit edit → OnlyReadsIn r s → t ≡ record s { plan = edited edit s.plan } → ((settings : Settings) (past : Past) (a : Answer) → Legal settings past → IsKept past r → edit_answered past edit ≡ Ok a → WasReached past (event.Edit edit) a spots earlier) → Finishes t e.event e.answer place false spots earlier
edit_finishes r s t e edit place spots earlier x is reads made reached = (edit_finished r s t e edit place spots earlier x is reads made reached).known

pub other_finishes : (r s : Kept) (e : Entry) (place : ℕ) (up : Bool) (spots : List Spot) (earlier : LinesBefore) → Follows r e place → is_edit e.event ≡ false → OnlyReadsIn r s → ((past : Past) → AreLinksOf past r.links → up ≡ up_before past e.event) → ((settings : Settings) (past : Past) → Legal settings past → IsKept past r → answered settings.network past e.event ≡ Ok e.answer → WasReached past e.event e.answer spots earlier) → Finishes s e.event e.answer place up spots earlier
other_finishes r s e place up spots earlier x other reads up_is reached = (other_finished r s e place up spots earlier x other reads (up_is x.past x.kept.linked) reached).known

-- what follows from the end of it
finished : {E : Type 0} (r t new : Kept) (e : Entry) (place : ℕ) (up : Bool) (spots : List Spot) (earlier : LinesBefore) (o : Result Unit E) → ((x : Follows r e place) → Finished r t e e.event place up spots earlier x) → OnOk o ((y : Finishes t e.event e.answer place up spots earlier) → IsKept (After (record { desk = y.desk; event = e.event; answer = e.answer }) y.past) new) → OnOk o ((x : Follows r e place) → IsKept (After e x.past) new)
finished r t new e place up spots earlier (Ok u) f g = λ x.
    subst (λ past. IsKept (After e past) new) (f x).past
    (subst (λ d. IsKept (After (record { desk = d; event = e.event; answer = e.answer }) (f x).known.past) new) (f x).desk (g (f x).known))
finished r t new e place up spots earlier (Err u) f g = tt

pub edit_followed : {E : Type 0} (r s t new : Kept) (e : Entry) (edit : Edit) (place : ℕ) (spots : List Spot) (earlier : LinesBefore) (o : Result Unit E) → e.event ≡ event.Edit edit → OnlyReadsIn r s → t ≡ record s { plan = edited edit s.plan } → ((settings : Settings) (past : Past) (a : Answer) → Legal settings past → IsKept past r → edit_answered past edit ≡ Ok a → WasReached past (event.Edit edit) a spots earlier) → OnOk o ((y : Finishes t e.event e.answer place false spots earlier) → IsKept (After (record { desk = y.desk; event = e.event; answer = e.answer }) y.past) new) → OnOk o ((x : Follows r e place) → IsKept (After e x.past) new)
edit_followed r s t new e edit place spots earlier o is reads made reached g = finished r t new e place false spots earlier o (λ x. edit_finished r s t e edit place spots earlier x is reads made reached) g

pub other_followed : {E : Type 0} (r s new : Kept) (e : Entry) (place : ℕ) (up : Bool) (spots : List Spot) (earlier : LinesBefore) (o : Result Unit E) → is_edit e.event ≡ false → OnlyReadsIn r s → ((past : Past) → AreLinksOf past r.links → up ≡ up_before past e.event) → ((settings : Settings) (past : Past) → Legal settings past → IsKept past r → answered settings.network past e.event ≡ Ok e.answer → WasReached past e.event e.answer spots earlier) → OnOk o ((y : Finishes s e.event e.answer place up spots earlier) → IsKept (After (record { desk = y.desk; event = e.event; answer = e.answer }) y.past) new) → OnOk o ((x : Follows r e place) → IsKept (After e x.past) new)
other_followed r s new e place up spots earlier o other reads up_is reached g = finished r s new e place up spots earlier o (λ x. other_finished r s e place up spots earlier x other reads (up_is x.past x.kept.linked) reached) g

-- The walk over the journal, by the numbers of its entries, from 1.

-- after the entries of the first list come those of the second
slice_get_after : {A : Type 0} (xs ys : List A) (n : ℕ) → slice_get (xs ++ ys) (length xs + n) ≡ slice_get ys n
slice_get_after [] ys n =
    let same : 0 + n ≡ n = omega arith in
    ap (slice_get ys) same
slice_get_after (x ∷ xs) ys n =
    let next : length (x ∷ xs) + n ≡ suc (length xs + n) = omega arith in
    ap (slice_get (x ∷ (xs ++ ys))) next ∙ slice_get_after xs ys n

-- the entry of a number that wasn't folded
pub numbered : (xs ys : List Entry) (place : ℕ) → length xs < place → (if nat_le place (length xs) then None else slice_get ys (place - length xs - 1)) ≡ slice_get (xs ++ ys) (place - 1)
numbered xs ys place h =
    let at : length xs + (place - length xs - 1) ≡ place - 1 = omega (arith, h) in
    ap (λ (b : Bool). if b then None else slice_get ys (place - length xs - 1)) (lt-leb place (length xs) h)
    ∙ sym (slice_get_after xs ys (place - length xs - 1)) ∙ ap (slice_get (xs ++ ys)) at

something_at : {A : Type 0} (journal : List Entry) (i : ℕ) → i < length journal → None ≡ slice_get journal i → A
something_at [] i h is = absurd (omega (arith, h))
something_at (x ∷ xs) zero h is = absurd (let clash : None ≡ Some x = is in cc)
something_at (x ∷ xs) (suc i) h is = something_at xs i (omega (arith, h)) is

read_at : (journal : List Entry) (place : ℕ) (e : Entry) → Some e ≡ slice_get journal (place - 1) → get_or journal (place - 1) e ≡ e
read_at journal place e is = get_or_from_slice_get journal (place - 1) e e (sym is)

-- something is read at each of them
pub something_read : {A : Type 0} (xs ys : List Entry) (place : ℕ) → length xs < place → place ≤ length xs + length ys → None ≡ (if nat_le place (length xs) then None else slice_get ys (place - length xs - 1)) → A
something_read xs ys place first last is =
    something_at (xs ++ ys) (place - 1) (omega (arith, first, last, length-append xs ys)) (is ∙ numbered xs ys place first)

-- its number is one of all entries
pub first_of : (xs : List Entry) (place : ℕ) → length xs < place → 1 ≤ place
first_of xs place h = omega (arith, h)

pub last_of : (xs ys : List Entry) (place : ℕ) → place ≤ length xs + length ys → place ≤ length (xs ++ ys)
last_of xs ys place h = omega (arith, h, length-append xs ys)

-- the past with it
pub past_here : (journal : List Entry) (place : ℕ) (e : Entry) → 1 ≤ place → place ≤ length journal → Some e ≡ slice_get journal (place - 1) → past_of (take place journal) ≡ After e (past_of (take (place - 1) journal))
past_here journal place e first last is =
    let next : place - 1 + 1 ≡ place = omega (arith, first) in
    subst (λ n. past_of (take n journal) ≡ After e (past_of (take (place - 1) journal))) next
    (past_at journal (place - 1) e (omega (arith, first, last)) ∙ ap (λ d. After d (past_of (take (place - 1) journal))) (read_at journal place e is))

pub record Here (s : Kept) (e : Entry) (past : Past) (place : ℕ) : Type 0 where
  pub follows : Follows s e place
  pub is_past : follows.past ≡ past

pub here : (journal : List Entry) (x : IsLegal journal) (place : ℕ) (e : Entry) (s : Kept) → 1 ≤ place → place ≤ length journal → Some e ≡ slice_get journal (place - 1) → IsKept (past_of (take (place - 1) journal)) s → Here s e (past_of (take (place - 1) journal)) place
here journal x place e s first last is kept =
    let next : place ≡ place - 1 + 1 = omega (arith, first) in
    subst (λ d. Here s d (past_of (take (place - 1) journal)) place) (read_at journal place e is) (record {
      follows = follows_at journal x (place - 1) e s place (omega (arith, first, last)) next kept;
      is_past = refl;
    })

pub follows_here : (journal : List Entry) (x : IsLegal journal) (place : ℕ) (e : Entry) (s : Kept) → 1 ≤ place → place ≤ length journal → Some e ≡ slice_get journal (place - 1) → IsKept (past_of (take (place - 1) journal)) s → Follows s e place
follows_here journal x place e s first last is kept = (here journal x place e s first last is kept).follows

pub kept_more : {E : Type 0} (journal : List Entry) (x : IsLegal journal) (place : ℕ) (e : Entry) (s new : Kept) (o : Result Unit E) → 1 ≤ place → place ≤ length journal → Some e ≡ slice_get journal (place - 1) → IsKept (past_of (take (place - 1) journal)) s → OnOk o ((y : Follows s e place) → IsKept (After e y.past) new) → OnOk o (IsKept (past_of (take place journal)) new)
kept_more journal x place e s new (Ok u) first last is kept f =
    let next : place - 1 + 1 ≡ place = omega (arith, first) in
    subst (λ n. IsKept (past_of (take n journal)) new) next
    (kept_at journal (place - 1) e new (omega (arith, first, last))
    (subst (λ d. IsKept (After d (past_of (take (place - 1) journal))) new) (sym (read_at journal place e is))
    (subst (λ past. IsKept (After e past) new) (here journal x place e s first last is kept).is_past (f (here journal x place e s first last is kept).follows))))
kept_more journal x place e s new (Err u) first last is kept f = tt

-- what was kept of the entries before one
pub kept_before : (xs ys folded now : List Entry) (done : ℕ) (s : Kept) → folded ≡ xs → now ≡ ys → IsKept (past_of (take done (xs ++ ys))) s → IsKept (past_of (take (done + 1 - 1) (folded ++ now))) s
kept_before xs ys folded now done s same_folded same kept =
    let back : done + 1 - 1 ≡ done = omega arith in
    subst (λ n. IsKept (past_of (take n (folded ++ now))) s) (sym back)
    (subst (λ fs. IsKept (past_of (take done (fs ++ now))) s) (sym same_folded)
    (subst (λ js. IsKept (past_of (take done (xs ++ js))) s) (sym same) kept))

-- what is kept before the first of them, and after the last
pub take_folded : (xs ys : List Entry) → past_of (take (length xs) (xs ++ ys)) ≡ past_of xs
take_folded xs ys = ap (λ zs. past_of zs) (take-append_seam xs ys)

pub take_whole : (xs ys : List Entry) → past_of (take (length xs + length ys) (xs ++ ys)) ≡ past_of (xs ++ ys)
take_whole xs ys = ap (λ zs. past_of zs) (take_all (length xs + length ys) (xs ++ ys) (omega (arith, length-append xs ys)))

-- How many lines were read or set.

pub metered_more : (xs ys folded now : List Entry) (done begun old new : ℕ) → folded ≡ xs → now ≡ ys → old + 4 * all_reach (past_of xs) ≤ begun + 4 * all_reach (past_of (take done (xs ++ ys))) → new + 4 * all_reach (past_of (take (done + 1 - 1) (folded ++ now))) ≤ old + 4 * all_reach (past_of (take (done + 1) (folded ++ now))) → new + 4 * all_reach (past_of xs) ≤ begun + 4 * all_reach (past_of (take (done + 1) (xs ++ ys)))
metered_more xs ys folded now done begun old new same_folded same within more =
    let joined : folded ++ now ≡ xs ++ ys = ap (λ fs. fs ++ now) same_folded ∙ ap (λ js. xs ++ js) same in
    let back : done + 1 - 1 ≡ done = omega arith in
    let before : all_reach (past_of (take (done + 1 - 1) (folded ++ now))) ≡ all_reach (past_of (take done (xs ++ ys))) = ap (λ n. all_reach (past_of (take n (folded ++ now)))) back ∙ ap (λ es. all_reach (past_of (take done es))) joined in
    let after : all_reach (past_of (take (done + 1) (folded ++ now))) ≡ all_reach (past_of (take (done + 1) (xs ++ ys))) = ap (λ es. all_reach (past_of (take (done + 1) es))) joined in
    omega (arith, within, more, before, after)

pub metered_first : (xs ys : List Entry) (done begun meter : ℕ) → done ≡ length xs → meter ≡ begun → meter + 4 * all_reach (past_of xs) ≤ begun + 4 * all_reach (past_of (take done (xs ++ ys)))
metered_first xs ys done begun meter at same =
    let here : all_reach (past_of (take done (xs ++ ys))) ≡ all_reach (past_of xs) = ap (λ n. all_reach (past_of (take n (xs ++ ys)))) at ∙ ap all_reach (take_folded xs ys) in
    omega (arith, same, here)

pub metered_last : (xs ys : List Entry) (done begun meter : ℕ) → done ≡ length xs + length ys → meter + 4 * all_reach (past_of xs) ≤ begun + 4 * all_reach (past_of (take done (xs ++ ys))) → meter ≤ begun + 4 * all_reach (past_over xs ys)
metered_last xs ys done begun meter at within =
    let here : all_reach (past_of (take done (xs ++ ys))) ≡ all_reach (past_of (xs ++ ys)) = ap (λ n. all_reach (past_of (take n (xs ++ ys)))) at ∙ ap all_reach (take_whole xs ys) in
    omega (arith, within, here, all_reach_over xs ys)

-- what is kept of the entries so far, before the first and after one more
pub kept_first : (xs ys : List Entry) (done : ℕ) (s : Kept) → done ≡ length xs → IsKept (past_of xs) s → IsKept (past_of (take done (xs ++ ys))) s
kept_first xs ys done s at kept =
    subst (λ past. IsKept past s) (sym (ap (λ n. past_of (take n (xs ++ ys))) at ∙ take_folded xs ys)) kept

pub kept_further : (xs ys folded now : List Entry) (done : ℕ) (s : Kept) → folded ≡ xs → now ≡ ys → IsKept (past_of (take (done + 1) (folded ++ now))) s → IsKept (past_of (take (done + 1) (xs ++ ys))) s
kept_further xs ys folded now done s same_folded same kept =
    subst (λ es. IsKept (past_of (take (done + 1) es)) s) (ap (λ fs. fs ++ now) same_folded ∙ ap (λ js. xs ++ js) same) kept
