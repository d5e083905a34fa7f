-- A file that follows a journal.
use Rattle.std.proofs.Common.{◌≡◌, ℕ, ◌+◌, ◌<◌, ◌≤◌, true, false, List, [], ◌∷◌, ◌++◌, length, map, take, drop, refl, sym, ap, ◌∙◌, subst, arith, append_assoc, append-nil, length-append, take-append-drop}
use Rattle.std.specs.List.{AllByRecursion}
use Rattle.std.proofs.lemmas.List.{map-append}
use Rattle.journal_file.specs.File.{FileState, grown, settled}
use Rattle.journal_file.specs.Lines.{IsLine, is_comment, line_octets, lines_octets, without_comments}
use Rattle.journal_file.specs.Writing.{Item, Entry, Fold, Comment, IsMarked, item_line, entries_in, told_of, CommentsApart, lines_with, text_with, WritingState, begins_after, with_item, all_kept, broken, Following, Step, Put, Kept, Broke, Does, Runs, items_of, starts_with, Follows, AnySteps}
use Rattle.journal_file.proofs.LineLemmas.{lines_octets-append, AllByRecursion-append}

entries_in-append : (xs ys : List Item) → entries_in (xs ++ ys) ≡ entries_in xs + entries_in ys
entries_in-append [] ys = omega arith
entries_in-append (Entry line ∷ xs) ys = omega (arith, entries_in-append xs ys)
entries_in-append (Fold ∷ xs) ys = omega (arith, entries_in-append xs ys)
entries_in-append (Comment line ∷ xs) ys = omega (arith, entries_in-append xs ys)

-- the text of more items
pub lines_with-append : (start : List (List ℕ)) (xs ys : List Item) → lines_with start (xs ++ ys) ≡ lines_with start xs ++ map item_line ys
lines_with-append start xs ys = ap (λ s. start ++ s) (map-append item_line xs ys) ∙ sym (append_assoc start (map item_line xs) (map item_line ys))

pub text_with-append : (start : List (List ℕ)) (xs ys : List Item) → text_with start (xs ++ ys) ≡ text_with start xs ++ lines_octets (map item_line ys)
text_with-append start xs ys = ap lines_octets (lines_with-append start xs ys) ∙ lines_octets-append (lines_with start xs) (map item_line ys)

-- of one more item
text_with-more : (start : List (List ℕ)) (items : List Item) (item : Item) → text_with start (items ++ item ∷ []) ≡ text_with start items ++ line_octets (item_line item)
text_with-more start items item = text_with-append start items (item ∷ []) ∙ ap (λ s. text_with start items ++ s) (append-nil (line_octets (item_line item)))

-- at the start
Follows-start : (place : ℕ) (start : List (List ℕ)) → Follows place start [] (starts_with place start)
Follows-start place start =
    let same : text_with start [] ≡ lines_octets start = ap lines_octets (append-nil start) in
    record {
      front = [];
      back = [];
      unwritten = [];
      parts = refl;
      taken = omega arith;
      synced = omega arith;
      durable = omega (arith, ap length same);
      stands = omega arith;
      written = append-nil (lines_octets start) ∙ sym same;
      whole = λ sound. refl;
      lines = tt;
    }

module _ (place : ℕ) (start : List (List ℕ)) (items : List Item) (old : Following) (follows : Follows place start items old) where
  -- an item is put
  Follows-put : (item : Item) → IsLine (item_line item) → Follows place start (items ++ item ∷ []) (record { writing = with_item old.writing item; file = old.file })
  Follows-put item line = record {
    front = follows.front;
    back = follows.back ++ item ∷ [];
    unwritten = follows.unwritten ++ line_octets (item_line item);
    parts = ap (λ s. s ++ item ∷ []) follows.parts ∙ append_assoc follows.front follows.back (item ∷ []);
    taken = omega (arith, follows.taken, entries_in-append items (item ∷ []));
    synced = follows.synced;
    durable = follows.durable;
    stands = follows.stands;
    written =
        sym (append_assoc old.file.octets follows.unwritten (line_octets (item_line item)))
        ∙ ap (λ s. s ++ line_octets (item_line item)) follows.written ∙ sym (text_with-more start items item);
    whole = λ sound. ap (λ s. s ++ line_octets (item_line item)) (follows.whole sound);
    lines = AllByRecursion-append (λ it. IsLine (item_line it)) items (item ∷ []) follows.lines (line, tt);
  }

  -- all is written and synced
  Follows-kept : old.writing.failed ≡ false → Follows place start items (record { writing = all_kept old.writing; file = settled (grown old.file old.writing.waiting) })
  Follows-kept sound =
      let all : old.file.octets ++ old.writing.waiting ≡ text_with start items = ap (λ s. old.file.octets ++ s) (sym (follows.whole sound)) ∙ follows.written in
      record {
        front = items;
        back = [];
        unwritten = [];
        parts = sym (append-nil items);
        taken = follows.taken;
        synced = follows.taken;
        durable = omega (arith, ap length all);
        stands = omega arith;
        written = append-nil (old.file.octets ++ old.writing.waiting) ∙ all;
        whole = λ still. refl;
        lines = follows.lines;
      }

  -- a write or the sync fails
  Follows-broke : (count : ℕ) → old.writing.failed ≡ false → Follows place start items (record { writing = broken old.writing; file = grown old.file (take count old.writing.waiting) })
  Follows-broke count sound =
      let all : old.file.octets ++ old.writing.waiting ≡ text_with start items = ap (λ s. old.file.octets ++ s) (sym (follows.whole sound)) ∙ follows.written in
      record {
        front = follows.front;
        back = follows.back;
        unwritten = drop count old.writing.waiting;
        parts = follows.parts;
        taken = follows.taken;
        synced = follows.synced;
        durable = follows.durable;
        stands = omega (arith, follows.stands, length-append old.file.octets (take count old.writing.waiting));
        written =
            append_assoc old.file.octets (take count old.writing.waiting) (drop count old.writing.waiting)
            ∙ ap (λ s. old.file.octets ++ s) (take-append-drop count old.writing.waiting) ∙ all;
        whole = λ sound_still. cc;
        lines = follows.lines;
      }

runs_follow : (place : ℕ) (start : List (List ℕ)) (steps : List Step) (items : List Item) (old now : Following) → Follows place start items old → Runs old steps now
    → Follows place start (items ++ items_of steps) now
runs_follow place start [] items old now follows run = rw (run, append-nil items) follows
runs_follow place start (Put item ∷ steps) items old now follows run =
    let one : Follows place start (items ++ item ∷ []) run.0 = subst (Follows place start (items ++ item ∷ [])) (sym run.1.2) (Follows-put place start items old follows item run.1.0) in
    subst (λ its. Follows place start its now) (append_assoc items (item ∷ []) (items_of steps)) (runs_follow place start steps (items ++ item ∷ []) run.0 now one run.2)
runs_follow place start (Kept ∷ steps) items old now follows run =
    let one : Follows place start items run.0 = subst (Follows place start items) (sym run.1.1) (Follows-kept place start items old follows run.1.0) in
    runs_follow place start steps items run.0 now one run.2
runs_follow place start (Broke count ∷ steps) items old now follows run =
    let one : Follows place start items run.0 = subst (Follows place start items) (sym run.1.1) (Follows-broke place start items old follows count run.1.0) in
    runs_follow place start steps items run.0 now one run.2

pub any_steps : AnySteps
any_steps place start steps now run = runs_follow place start steps [] (starts_with place start) now (Follows-start place start) run

-- the lines of marked items without the comments
without_marked : (items : List Item) → AllByRecursion IsMarked items → without_comments (map item_line items) ≡ map item_line (told_of items)
without_marked [] marked = refl
without_marked (Entry line ∷ items) marked = rw marked.0 (ap (λ ls. line ∷ ls) (without_marked items marked.1))
without_marked (Fold ∷ items) marked = ap (λ ls. item_line Fold ∷ ls) (without_marked items marked.1)
without_marked (Comment line ∷ items) marked = rw marked.0 (without_marked items marked.1)

-- what is put is marked
all_marked : (old now : Following) (steps : List Step) → Runs old steps now → AllByRecursion IsMarked (items_of steps)
all_marked old now [] run = tt
all_marked old now (Put item ∷ steps) run = (run.1.1, all_marked run.0 now steps run.2)
all_marked old now (Kept ∷ steps) run = all_marked run.0 now steps run.2
all_marked old now (Broke count ∷ steps) run = all_marked run.0 now steps run.2

pub comments_apart : CommentsApart
comments_apart old now steps run = without_marked (items_of steps) (all_marked old now steps run)
