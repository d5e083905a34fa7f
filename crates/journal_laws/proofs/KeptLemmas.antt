-- The generation that is kept of a link that is up is that of the link.
use Rattle.std.proofs.Common.{◌≡◌, ◌∙◌, ℕ, ◌+◌, eqb, Bool, true, false, not, List, [], ◌∷◌, Some, None, Result, Ok, Err, if◌then◌else◌, cond, unwrap_or, refl, sym, ap, subst, eq-eqb}
use Rattle.std.proofs.lemmas.Bool.{eqb-true}
use Rattle.centre_events.specs.Links.{is_bsc, is_up, last_link}
use Rattle.centre_events.specs.Past.{Past, After, position}
use Rattle.centre_events.specs.Verdict.{link_up, verdict}
use Rattle.centre_events.specs.declared.answer.Answer.{Answer}
use Rattle.centre_events.specs.declared.answer.Answer.TheVariants as answer
use Rattle.centre_events.specs.declared.entry.Entry.{Entry}
use Rattle.centre_events.specs.declared.event.Event.{Event}
use Rattle.centre_events.specs.declared.event.Event.TheVariants as event
use Rattle.centre_events.specs.declared.refusal.Refusal.{Refusal}
use Rattle.centre_events.specs.declared.settings.Settings.{Settings}
use Rattle.centre_events.specs.Folding.{base_of}
use Rattle.centre_events.proofs.FoldingLemmas.{same_parts}
use Rattle.centre_past.proofs.LawfulLemmas.{accepted}
use Rattle.console.specs.Generations.{generation_of, with_generation}
use Rattle.console.specs.Generations.{kept as a_kept}
use Rattle.console.specs.declared.kept.Kept.{Kept}
use Rattle.coverage_plan.specs.declared.edit.Edit.{Edit}
use Rattle.coverage_plan.specs.declared.edit.Edit.TheVariants as edit
use Rattle.journal_text.specs.Reading.{NamesKept}

-- of each link that is up its generation is kept
abbrev pub KeepsLinks : Past → List Kept → Type 0
KeepsLinks past kept = (b : ℕ) → is_up past b ≡ true → generation_of kept b ≡ last_link past b

-- a check that an accepted event passes, and those after it
pub passed : (check : Bool) (r : Refusal) (rest : Result Answer Refusal) (a : Answer) → (if check then Err r else rest) ≡ Ok a → (check ≡ false) × (rest ≡ Ok a)
passed true r rest a is = absurd (cc is)
passed false r rest a is = (refl, is)

pub not_false : (b : Bool) → not b ≡ false → b ≡ true
not_false true h = refl
not_false false h = sym h

-- an event of a link that is accepted names the last one, which is up
abbrev IsOfLink : Past → ℕ → ℕ → Type 0
IsOfLink past b generation = (generation ≡ last_link past b) × (is_up past b ≡ true)

of_link : (past : Past) (b generation : ℕ) (rest : Result Answer Refusal) (r s : Refusal) (a : Answer)
    → (if not (eqb generation (last_link past b)) then Err r else if not (is_up past b) then Err s else rest) ≡ Ok a → IsOfLink past b generation
of_link past b generation rest r s a is =
    let first = passed (not (eqb generation (last_link past b))) r (if not (is_up past b) then Err s else rest) a is in
    let second = passed (not (is_up past b)) s rest a first.1 in
    (eqb-true generation (last_link past b) (not_false (eqb generation (last_link past b)) first.0), not_false (is_up past b) second.0)

-- so the kept generation is the one that it names
names : (past : Past) (kept : List Kept) (b generation : ℕ) → KeepsLinks past kept → IsOfLink past b generation → generation_of kept b ≡ generation
names past kept b generation keeps link = keeps b link.1 ∙ sym link.0

pub names_kept : (settings : Settings) (past : Past) (kept : List Kept) (e : Event) (a : Answer) → KeepsLinks past kept → verdict settings past e ≡ Ok a → NamesKept (generation_of kept) e
names_kept settings past kept (event.LinkDown b generation) a keeps is =
    let there = passed (not (is_bsc past b)) _ _ a (accepted settings past (event.LinkDown b generation) a is).0 in
    names past kept b generation keeps (of_link past b generation _ _ _ a there.1)
names_kept settings past kept (event.Send b generation) a keeps is =
    let there = passed (not (is_bsc past b)) _ _ a (accepted settings past (event.Send b generation) a is).0 in
    names past kept b generation keeps (of_link past b generation _ _ _ a there.1)
names_kept settings past kept (event.Ask b generation n after) a keeps is =
    let there = passed (not (is_bsc past b)) _ _ a (accepted settings past (event.Ask b generation n after) a is).0 in
    let known = passed _ _ _ a there.1 in
    names past kept b generation keeps (of_link past b generation _ _ _ a known.1)
names_kept settings past kept (event.Report b generation m) a keeps is =
    let there = passed (not (is_bsc past b)) _ _ a (accepted settings past (event.Report b generation m) a is).0 in
    names past kept b generation keeps (of_link past b generation _ _ _ a there.1)
names_kept settings past kept (event.Edit e) a keeps is = tt
names_kept settings past kept (event.Retry b) a keeps is = tt
names_kept settings past kept (event.LinkUp b) a keeps is = tt

-- what is kept once another generation is
generation_kept : (kept : List Kept) (b generation : ℕ) → generation_of (with_generation b generation kept) b ≡ generation
generation_kept [] b generation = rw (eq-eqb b b refl) refl
generation_kept (k ∷ ks) b generation = step (eqb k.bsc b) refl (generation_kept ks b generation)
  where
    step : (t : Bool) → eqb k.bsc b ≡ t → generation_of (with_generation b generation ks) b ≡ generation
        → generation_of (cond t (a_kept b generation ∷ ks) (k ∷ with_generation b generation ks)) b ≡ generation
    step true is rest = rw (eq-eqb b b refl) refl
    step false is rest = rw is rest

other_kept : (kept : List Kept) (b generation other : ℕ) → eqb b other ≡ false → generation_of (with_generation b generation kept) other ≡ generation_of kept other
other_kept [] b generation other differs = rw differs refl
other_kept (k ∷ ks) b generation other differs = step (eqb k.bsc b) refl (other_kept ks b generation other differs)
  where
    step : (t : Bool) → eqb k.bsc b ≡ t → generation_of (with_generation b generation ks) other ≡ generation_of ks other → generation_of (cond t (a_kept b generation ∷ ks) (k ∷ with_generation b generation ks)) other ≡ generation_of (k ∷ ks) other
    step true is rest =
        let same : k.bsc ≡ b = eqb-true k.bsc b is in
        let first : eqb k.bsc other ≡ false = ap (λ (n : ℕ). eqb n other) same ∙ differs in
        rw (differs, first) refl
    step false is rest = ap (λ (kept : ℕ). cond (eqb k.bsc other) k.generation kept) rest

-- an edit
keeps_edit : (past : Past) (kept : List Kept) (desk : ℕ) (e : Edit) (a : Answer) → KeepsLinks past kept
    → KeepsLinks (After (let entry : Entry = record { desk = desk; event = event.Edit e; answer = a } in entry) past) kept
keeps_edit past kept desk (edit.AddBsc o) a keeps b =
    elim (eqb o b) as (λ t. unwrap_or (cond t (Some false) None) (is_up past b) ≡ true → generation_of kept b ≡ unwrap_or (cond t (Some 0) None) (last_link past b)) [
      | true ↦ λ up. absurd (cc up)
      | false ↦ λ up. keeps b up
    ]
keeps_edit past kept desk _ a keeps b = keeps b

-- a link that is lost
keeps_down : (past : Past) (kept : List Kept) (o b : ℕ) → KeepsLinks past kept → unwrap_or (cond (eqb o b) (Some false) None) (is_up past b) ≡ true → generation_of kept b ≡ last_link past b
keeps_down past kept o b keeps =
    elim (eqb o b) as (λ t. unwrap_or (cond t (Some false) None) (is_up past b) ≡ true → generation_of kept b ≡ last_link past b) [
      | true ↦ λ up. absurd (cc up)
      | false ↦ λ up. keeps b up
    ]

-- a link that comes up, and whose generation is kept
keeps_up : (past : Past) (kept : List Kept) (o b place : ℕ) → KeepsLinks past kept → unwrap_or (cond (eqb o b) (Some true) None) (is_up past b) ≡ true
    → generation_of (with_generation o place kept) b ≡ unwrap_or (cond (eqb o b) (Some place) None) (last_link past b)
keeps_up past kept o b place keeps = step (eqb o b) refl
  where
    step : (t : Bool) → eqb o b ≡ t → unwrap_or (cond t (Some true) None) (is_up past b) ≡ true → generation_of (with_generation o place kept) b ≡ unwrap_or (cond t (Some place) None) (last_link past b)
    step true is up = let same : o ≡ b = eqb-true o b is in subst (λ n. generation_of (with_generation o place kept) n ≡ place) same (generation_kept kept o place)
    step false is up = other_kept kept o place b is ∙ keeps b up

-- what is kept after an event that is accepted with this answer
abbrev pub kept_with : ℕ → Answer → List Kept → List Kept
kept_with b (answer.Link generation) kept = with_generation b generation kept
kept_with b other kept = kept

abbrev pub kept_after : Event → Answer → List Kept → List Kept
kept_after (event.LinkUp b) a kept = kept_with b a kept
kept_after other a kept = kept

abbrev entry_with : ℕ → Event → Answer → Entry
entry_with desk e a = record { desk = desk; event = e; answer = a }

link_answer : (past : Past) (b : ℕ) (a : Answer) → link_up past b ≡ Ok a → answer.Link (position past + 1) ≡ a
link_answer past b a is =
    let rest = (passed (not (is_bsc past b)) _ _ a is).1 in cc rest

pub keeps_links : (settings : Settings) (past : Past) (kept : List Kept) (desk : ℕ) (e : Event) (a : Answer) → KeepsLinks past kept → verdict settings past e ≡ Ok a
    → KeepsLinks (After (entry_with desk e a) past) (kept_after e a kept)
keeps_links settings past kept desk (event.Edit e) a keeps is b = keeps_edit past kept desk e a keeps b
keeps_links settings past kept desk (event.Retry o) a keeps is b = keeps b
keeps_links settings past kept desk (event.LinkDown o generation) a keeps is b = keeps_down past kept o b keeps
keeps_links settings past kept desk (event.Send o generation) a keeps is b = keeps b
keeps_links settings past kept desk (event.Ask o generation n after) a keeps is b = keeps b
keeps_links settings past kept desk (event.Report o generation m) a keeps is b = keeps b
keeps_links settings past kept desk (event.LinkUp o) a keeps is b =
    let link = link_answer past o a (accepted settings past (event.LinkUp o) a is).0 in
    subst (λ x. is_up (After (entry_with desk (event.LinkUp o) x) past) b ≡ true → generation_of (kept_with o x kept) b ≡ last_link (After (entry_with desk (event.LinkUp o) x) past) b) link
    (keeps_up past kept o b (position past + 1) keeps)

-- a checkpoint leaves links as they are
pub keeps_alike : (p q : Past) (kept : List Kept) → base_of p ≡ base_of q → KeepsLinks q kept → KeepsLinks p kept
keeps_alike p q kept same keeps b up =
    let parts = same_parts p q same in keeps b (sym (parts.is_up b) ∙ up) ∙ sym (parts.last_link b)
