-- What a crash leaves of a file that follows a journal.
use Rattle.std.proofs.Common.{◌≡◌, ℕ, suc, zero, ◌+◌, ◌-◌, ◌≤◌, List, [], ◌∷◌, ◌++◌, length, map, take, drop, refl, sym, ap, ◌∙◌, subst, arith, append_assoc, append-nil, length-append, take-append-drop}
use Rattle.std.specs.List.{AllByRecursion}
use Rattle.std.proofs.Math.Seq.{take-append_seam}
use Rattle.journal_file.specs.File.{FileState, Leaves}
use Rattle.journal_file.specs.Lines.{HasNoEnd, IsCut}
use Rattle.journal_file.specs.Writing.{Item, Entry, Fold, Comment, item_line, entries_in, told_of, WritingState, with_item, Following, starts_with, items_of}
use Rattle.journal_file.specs.Writing as writing
use Rattle.journal_file.proofs.WritingLemmas.{any_steps}
use Rattle.journal_file.proofs.CrashLemmas.{any_crash}
use Rattle.journal_keeper.specs.Following.{Portion, Next, Folded, portion_items, AreSaid, with_items, CanBePut, PutsPortion, Deed, Hands, Keeps, Breaks, Tells, Runs, told_in, entry_lines, GivesOf, IsLeft, AnyKeepingOf}

-- entries among items
entry_lines-told : (items : List Item) → entry_lines (told_of items) ≡ entry_lines items
entry_lines-told [] = refl
entry_lines-told (Entry line ∷ items) = ap (λ s. line ∷ s) (entry_lines-told items)
entry_lines-told (Fold ∷ items) = entry_lines-told items
entry_lines-told (Comment line ∷ items) = entry_lines-told items

entry_lines-append : (xs ys : List Item) → entry_lines (xs ++ ys) ≡ entry_lines xs ++ entry_lines ys
entry_lines-append [] ys = refl
entry_lines-append (Entry line ∷ xs) ys = ap (λ s. line ∷ s) (entry_lines-append xs ys)
entry_lines-append (Fold ∷ xs) ys = entry_lines-append xs ys
entry_lines-append (Comment line ∷ xs) ys = entry_lines-append xs ys

entries_in-lines : (items : List Item) → entries_in items ≡ length (entry_lines items)
entries_in-lines [] = refl
entries_in-lines (Entry line ∷ items) = omega (arith, entries_in-lines items)
entries_in-lines (Fold ∷ items) = entries_in-lines items
entries_in-lines (Comment line ∷ items) = entries_in-lines items

entry_lines-entries : (lines : List (List ℕ)) → entry_lines (map Entry lines) ≡ lines
entry_lines-entries [] = refl
entry_lines-entries (line ∷ lines) = ap (λ s. line ∷ s) (entry_lines-entries lines)

-- the lines of a portion
abbrev portion_lines : Portion → List (List ℕ)
portion_lines (Next lines) = lines
portion_lines (Folded lines) = lines

entry_lines-portion : (portion : Portion) → entry_lines (portion_items portion) ≡ portion_lines portion
entry_lines-portion (Next lines) = entry_lines-entries lines
entry_lines-portion (Folded lines) = entry_lines-append (map Entry lines) (Fold ∷ []) ∙ append-nil (entry_lines (map Entry lines)) ∙ entry_lines-entries lines

-- the first of some are a beginning of them
front_taken : {X : Type 0} (xs more ys : List X) → ys ≡ xs ++ more → xs ≡ take (length xs) ys
front_taken xs more ys is = sym (ap (take (length xs)) is ∙ take-append_seam xs more)

-- of the first of some entries those behind a place are a beginning of all behind it
drop_front : {X : Type 0} (xs : List X) (place moment : ℕ) → (more : List X) × (drop place xs ≡ drop place (take moment xs) ++ more)
drop_front xs zero moment = (drop moment xs, sym (take-append-drop moment xs))
drop_front [] (suc place) zero = ([], refl)
drop_front [] (suc place) (suc moment) = ([], refl)
drop_front (x ∷ xs) (suc place) zero = (drop place xs, refl)
drop_front (x ∷ xs) (suc place) (suc moment) = drop_front xs place moment

take_front : {X : Type 0} (xs ys more : List X) (count : ℕ) → ys ≡ xs ++ more → (rest : List X) × (ys ≡ take count xs ++ rest)
take_front xs ys more count is =
    (drop count xs ++ more, is ∙ ap (λ s. s ++ more) (sym (take-append-drop count xs)) ∙ append_assoc (take count xs) (drop count xs) more)

-- of no elements some are none
module _ {X : Type 0} where
  abbrev none : List X
  none = []

  take_none : (k : ℕ) → take k none ≡ none
  take_none zero = refl
  take_none (suc k) = refl

  drop_none : (k : ℕ) → drop k none ≡ none
  drop_none zero = refl
  drop_none (suc k) = refl

-- so many, and then so many behind them
pub take_both : {X : Type 0} (xs : List X) (n m : ℕ) → take (n + m) xs ≡ take n xs ++ take m (drop n xs)
take_both xs zero m =
    let same : zero + m ≡ m = omega arith in
    ap (λ k. take k xs) same
take_both [] (suc n) m = take_none (suc n + m) ∙ sym (take_none m)
take_both (x ∷ xs) (suc n) m =
    let same : suc n + m ≡ suc (n + m) = omega arith in
    ap (λ k. take k (x ∷ xs)) same ∙ ap (λ s. x ∷ s) (take_both xs n m)

drop_both : {X : Type 0} (xs : List X) (n m : ℕ) → drop m (drop n xs) ≡ drop (n + m) xs
drop_both xs zero m =
    let same : m ≡ zero + m = omega arith in
    ap (λ k. drop k xs) same
drop_both [] (suc n) m = drop_none m ∙ sym (drop_none (suc n + m))
drop_both (x ∷ xs) (suc n) m =
    let same : suc (n + m) ≡ suc n + m = omega arith in
    drop_both xs n m ∙ ap (λ k. drop k (x ∷ xs)) same

-- steps of the file, one after another
steps_trans : (a b c : Following) (xs ys : List writing.Step) → writing.Runs a xs b → writing.Runs b ys c → writing.Runs a (xs ++ ys) c
steps_trans a b c [] ys first second = subst (λ s. writing.Runs s ys c) first second
steps_trans a b c (x ∷ xs) ys first second = (first.0, first.1, steps_trans first.0 b c xs ys first.2 second)

items_of-append : (xs ys : List writing.Step) → items_of (xs ++ ys) ≡ items_of xs ++ items_of ys
items_of-append [] ys = refl
items_of-append (writing.Put item ∷ xs) ys = ap (λ s. item ∷ s) (items_of-append xs ys)
items_of-append (writing.Kept ∷ xs) ys = items_of-append xs ys
items_of-append (writing.Broke count ∷ xs) ys = items_of-append xs ys

items_of-put : (items : List Item) → items_of (map writing.Put items) ≡ items
items_of-put [] = refl
items_of-put (item ∷ items) = ap (λ s. item ∷ s) (items_of-put items)

runs_items : (old : Following) (items : List Item) → AllByRecursion CanBePut items → writing.Runs old (map writing.Put items) (record { writing = with_items old.writing items; file = old.file })
runs_items old [] each = refl
runs_items old (item ∷ items) each =
    let now : Following = record { writing = with_item old.writing item; file = old.file } in
    (now, (each.0.0, each.0.1, refl), runs_items now items each.1)

synced_with : (old : WritingState) (items : List Item) → (with_items old items).synced ≡ old.synced
synced_with old [] = refl
synced_with old (item ∷ items) = synced_with (with_item old item) items

whole_following : (now : Following) (w : WritingState) (f : FileState) → now.writing ≡ w → now.file ≡ f → now ≡ record { writing = w; file = f }
whole_following now w f p q = rw (← p, ← q) refl

covered_later : (n m : ℕ) (told : List ℕ) → n ≤ m → AllByRecursion (λ last. last ≤ n) told → AllByRecursion (λ last. last ≤ m) told
covered_later n m [] later covered = tt
covered_later n m (last ∷ told) later covered = (omega (arith, later, covered.0), covered_later n m told later covered.1)

entries_in-append : (xs ys : List Item) → entries_in (xs ++ ys) ≡ entries_in xs + entries_in ys
entries_in-append [] ys = omega arith
entries_in-append (Entry line ∷ xs) ys = omega (arith, entries_in-append xs ys)
entries_in-append (Fold ∷ xs) ys = omega (arith, entries_in-append xs ys)
entries_in-append (Comment line ∷ xs) ys = omega (arith, entries_in-append xs ys)

-- what is synced was put
synced_first : (place : ℕ) (start : List (List ℕ)) (steps : List writing.Step) (now : Following) → writing.Runs (starts_with place start) steps now → now.writing.synced ≤ now.writing.taken
synced_first place start steps now run =
    let follows = any_steps place start steps now run in
    omega (arith, follows.synced, follows.taken, ap entries_in follows.parts, entries_in-append follows.front follows.back)

-- the first items have no fewer entries than fewer of the first
entries_of_front : (front back : List Item) (count : ℕ) → length front ≤ count → entries_in front ≤ entries_in (take count (front ++ back))
entries_of_front [] back count long = omega arith
entries_of_front (item ∷ front) back zero long = absurd (omega (arith, long))
entries_of_front (Entry line ∷ front) back (suc count) long = omega (arith, entries_of_front front back count (omega (arith, long)))
entries_of_front (Fold ∷ front) back (suc count) long = entries_of_front front back count (omega (arith, long))
entries_of_front (Comment line ∷ front) back (suc count) long = entries_of_front front back count (omega (arith, long))

take_behind : {X : Type 0} (xs ys : List X) (count : ℕ) → length xs ≤ count → take count (xs ++ ys) ≡ xs ++ take (count - length xs) ys
take_behind [] ys count long =
    let same : count ≡ count - 0 = omega arith in
    ap (λ n. take n ys) same
take_behind (x ∷ xs) ys zero long = absurd (omega (arith, long))
take_behind (x ∷ xs) ys (suc count) long =
    let same : count - length xs ≡ suc count - length (x ∷ xs) = omega (arith, long) in
    ap (λ s. x ∷ s) (take_behind xs ys count (omega (arith, long))) ∙ ap (λ n. x ∷ (xs ++ take n ys)) same

take-map : {X Y : Type 0} (f : X → Y) (n : ℕ) (xs : List X) → take n (map f xs) ≡ map f (take n xs)
take-map f zero xs = refl
take-map f (suc n) [] = refl
take-map f (suc n) (x ∷ xs) = ap (λ s. f x ∷ s) (take-map f n xs)

length-map : {X Y : Type 0} (f : X → Y) (xs : List X) → length (map f xs) ≡ length xs
length-map f [] = refl
length-map f (x ∷ xs) = omega (arith, length-map f xs)

AllByRecursion-append : {X : Type 0} (P : X → Type 0) (xs ys : List X) → AllByRecursion P xs → AllByRecursion P ys → AllByRecursion P (xs ++ ys)
AllByRecursion-append P [] ys p q = q
AllByRecursion-append P (x ∷ xs) ys p q = (p.0, AllByRecursion-append P xs ys p.1 q)

module _ {E : Type 0} (Says : E → List ℕ → Type 0) where
  pub AreSaid-append : (xs ys : List E) (ls ms : List (List ℕ)) → AreSaid Says xs ls → AreSaid Says ys ms → AreSaid Says (xs ++ ys) (ls ++ ms)
  AreSaid-append [] ys [] ms first second = second
  AreSaid-append [] ys (l ∷ ls) ms first second = absurd first
  AreSaid-append (x ∷ xs) ys [] ms first second = absurd first
  AreSaid-append (x ∷ xs) ys (l ∷ ls) ms first second = (first.0, AreSaid-append xs ys ls ms first.1 second)

  AreSaid-length : (xs : List E) (ls : List (List ℕ)) → AreSaid Says xs ls → length xs ≡ length ls
  AreSaid-length [] [] said = refl
  AreSaid-length [] (l ∷ ls) said = absurd said
  AreSaid-length (x ∷ xs) [] said = absurd said
  AreSaid-length (x ∷ xs) (l ∷ ls) said = omega (arith, AreSaid-length xs ls said.1)

  AreSaid-take : (xs : List E) (ls : List (List ℕ)) (n : ℕ) → AreSaid Says xs ls → AreSaid Says (take n xs) (take n ls)
  AreSaid-take xs ls zero said = tt
  AreSaid-take [] [] (suc n) said = tt
  AreSaid-take [] (l ∷ ls) (suc n) said = absurd said
  AreSaid-take (x ∷ xs) [] (suc n) said = absurd said
  AreSaid-take (x ∷ xs) (l ∷ ls) (suc n) said = (said.0, AreSaid-take xs ls n said.1)

  -- the lines of a beginning of some entries
  said_front : (xs all more : List E) (ls : List (List ℕ)) → all ≡ xs ++ more → AreSaid Says xs ls → AreSaid Says (take (length ls) all) ls
  said_front xs all more ls is said =
      subst (λ n. AreSaid Says (take n all) ls) (AreSaid-length xs ls said) (subst (λ s. AreSaid Says s ls) (front_taken xs more all is) said)

  module _ (journal : List E) where
    -- what the journal gives behind a place is lines of the next entries
    said_given : (place : ℕ) (portion : Portion) → GivesOf Says journal place portion → AreSaid Says (take (length (portion_lines portion)) (drop place journal)) (portion_lines portion)
    said_given place (Next lines) gives =
        let now : List E = drop place (take gives.0 journal) in
        let front = drop_front journal place gives.0 in
        let first = take_front now (drop place journal) front.0 gives.1.0 front.1 in
        said_front (take gives.1.0 now) (drop place journal) first.0 lines first.1 gives.1.2
    said_given place (Folded lines) gives =
        let front = drop_front journal place gives.0 in
        said_front (drop place (take gives.0 journal)) (drop place journal) front.0 lines front.1 gives.1

    -- behind the lines of the first entries
    said_more : (place : ℕ) (ls ms : List (List ℕ)) → AreSaid Says (take (length ls) (drop place journal)) ls → AreSaid Says (take (length ms) (drop (place + length ls) journal)) ms
        → AreSaid Says (take (length (ls ++ ms)) (drop place journal)) (ls ++ ms)
    said_more place ls ms first second =
        let behind : AreSaid Says (take (length ms) (drop (length ls) (drop place journal))) ms = subst (λ s. AreSaid Says (take (length ms) s) ms) (sym (drop_both journal place (length ls))) second in
        let whole : take (length (ls ++ ms)) (drop place journal) ≡ take (length ls) (drop place journal) ++ take (length ms) (drop (length ls) (drop place journal)) =
        ap (λ n. take n (drop place journal)) (length-append ls ms) ∙ take_both (drop place journal) (length ls) (length ms) in
        subst (λ s. AreSaid Says s (ls ++ ms)) (sym whole) (AreSaid-append _ _ ls ms first behind)

    -- the items put so far say the next entries of the journal
    abbrev SayNext : ℕ → List Item → Type 0
    SayNext place items = AreSaid Says (take (length (entry_lines items)) (drop place journal)) (entry_lines items)

    -- a portion more
    SayNext-more : (place : ℕ) (old items : List Item) (portion : Portion) → SayNext place old → GivesOf Says journal (place + entries_in old) portion → told_of items ≡ portion_items portion → SayNext place (old ++ items)
    SayNext-more place old items portion said gives told =
        let lines : entry_lines items ≡ portion_lines portion = sym (entry_lines-told items) ∙ ap entry_lines told ∙ entry_lines-portion portion in
        let at : AreSaid Says (take (length (portion_lines portion)) (drop (place + length (entry_lines old)) journal)) (portion_lines portion) =
        subst (λ n. AreSaid Says (take (length (portion_lines portion)) (drop (place + n) journal)) (portion_lines portion)) (entries_in-lines old) (said_given (place + entries_in old) portion gives) in
        let all = said_more place (entry_lines old) (portion_lines portion) said at in
        subst (λ ls. AreSaid Says (take (length ls) (drop place journal)) ls) (sym (entry_lines-append old items ∙ ap (λ s. entry_lines old ++ s) lines)) all

    -- a beginning of the items
    SayNext-front : (place : ℕ) (front back : List Item) → SayNext place (front ++ back) → SayNext place front
    SayNext-front place front back said =
        let ls = entry_lines front in
        let ms = entry_lines back in
        let both : AreSaid Says (take (length (ls ++ ms)) (drop place journal)) (ls ++ ms) = subst (λ s. AreSaid Says (take (length s) (drop place journal)) s) (entry_lines-append front back) said in
        let fewer = AreSaid-take (take (length (ls ++ ms)) (drop place journal)) (ls ++ ms) (length ls) both in
        let first : take (length ls) (ls ++ ms) ≡ ls = take-append_seam ls ms in
        let begin = take_front (take (length (ls ++ ms)) (drop place journal)) (drop place journal) (drop (length (ls ++ ms)) (drop place journal)) (length ls) (sym (take-append-drop (length (ls ++ ms)) (drop place journal))) in
        said_front (take (length ls) (take (length (ls ++ ms)) (drop place journal))) (drop place journal) begin.0 ls begin.1 (subst (λ s. AreSaid Says (take (length ls) (take (length (ls ++ ms)) (drop place journal))) s) first fewer)

    -- what was done so far, as steps of the file; the items say the next entries, and whoever was told was told of what is synced
    record Stands (place : ℕ) (start : List (List ℕ)) (told : List ℕ) (now : Following) : Type 0 where
      steps : List writing.Step
      runs : writing.Runs (starts_with place start) steps now
      says : SayNext place (items_of steps)
      covered : AllByRecursion (λ last. last ≤ now.writing.synced) told

    -- a step of the file
    Stands-step : (place : ℕ) (start : List (List ℕ)) (told : List ℕ) (old now : Following) (step : writing.Step) → Stands place start told old → writing.Does old step now
        → items_of (step ∷ []) ≡ [] → old.writing.synced ≤ now.writing.synced → Stands place start told now
    Stands-step place start told old now step stands does none later = record {
      steps = stands.steps ++ step ∷ [];
      runs = steps_trans (starts_with place start) old now stands.steps (step ∷ []) stands.runs (now, does, refl);
      says = subst (SayNext place) (sym (items_of-append stands.steps (step ∷ []) ∙ ap (λ s. items_of stands.steps ++ s) none ∙ append-nil (items_of stands.steps))) stands.says;
      covered = covered_later old.writing.synced now.writing.synced told later stands.covered;
    }

    -- a portion was put
    Stands-put : (place : ℕ) (start : List (List ℕ)) (told : List ℕ) (old now : Following) (portion : Portion) → Stands place start told old
        → PutsPortion (GivesOf Says journal) old.writing now.writing portion → now.file ≡ old.file → Stands place start told now
    Stands-put place start told old now portion stands puts file =
        let items = puts.1.items in
        let is : now ≡ record { writing = with_items old.writing items; file = old.file } = whole_following now (with_items old.writing items) old.file puts.1.state file in
        let run : writing.Runs old (map writing.Put items) now = subst (writing.Runs old (map writing.Put items)) (sym is) (runs_items old items puts.1.each) in
        let all = steps_trans (starts_with place start) old now stands.steps (map writing.Put items) stands.runs run in
        let many : items_of (stands.steps ++ map writing.Put items) ≡ items_of stands.steps ++ items = items_of-append stands.steps (map writing.Put items) ∙ ap (λ s. items_of stands.steps ++ s) (items_of-put items) in
        let follows = any_steps place start stands.steps old stands.runs in
        let gives = subst (λ n. GivesOf Says journal n portion) follows.taken puts.0 in
        let same : old.writing.synced ≡ now.writing.synced = sym (synced_with old.writing items) ∙ sym (ap (λ (w : WritingState). w.synced) puts.1.state) in
        record {
          steps = stands.steps ++ map writing.Put items;
          runs = all;
          says = subst (SayNext place) (sym many) (SayNext-more place (items_of stands.steps) items portion stands.says gives puts.1.told_are);
          covered = subst (λ n. AllByRecursion (λ last. last ≤ n) told) same stands.covered;
        }

    deeds_stand : (place : ℕ) (start : List (List ℕ)) (told : List ℕ) (deeds : List Deed) (old now : Following) → Stands place start told old → Runs (GivesOf Says journal) old deeds now
        → Stands place start (told ++ told_in deeds) now
    deeds_stand place start told [] old now stands run = subst (λ t. Stands place start t now) (sym (append-nil told)) (subst (Stands place start told) (sym run) stands)
    deeds_stand place start told (Hands portion ∷ deeds) old now stands run =
        deeds_stand place start told deeds run.0 now (Stands-put place start told old run.0 portion stands run.1.0 run.1.1) run.2
    deeds_stand place start told (Keeps ∷ deeds) old now stands run =
        let taken : run.0.writing.synced ≡ old.writing.taken = ap (λ (f : Following). f.writing.synced) run.1.1 in
        let later : old.writing.synced ≤ run.0.writing.synced = subst (λ n. old.writing.synced ≤ n) (sym taken) (synced_first place start stands.steps old stands.runs) in
        deeds_stand place start told deeds run.0 now (Stands-step place start told old run.0 writing.Kept stands run.1 refl later) run.2
    deeds_stand place start told (Breaks count ∷ deeds) old now stands run =
        let same : run.0.writing.synced ≡ old.writing.synced = ap (λ (f : Following). f.writing.synced) run.1.1 in
        deeds_stand place start told deeds run.0 now (Stands-step place start told old run.0 (writing.Broke count) stands run.1 refl (omega (arith, same))) run.2
    deeds_stand place start told (Tells last ∷ deeds) old now stands run =
        let one : Stands place start (told ++ last ∷ []) old = record { steps = stands.steps; runs = stands.runs; says = stands.says; covered = AllByRecursion-append (λ k. k ≤ old.writing.synced) told (last ∷ []) stands.covered (run.1.0, tt) } in
        let next : Stands place start (told ++ last ∷ []) run.0 = subst (Stands place start (told ++ last ∷ [])) (sym run.1.1) one in
        subst (λ t. Stands place start t now) (append_assoc told (last ∷ []) (told_in deeds)) (deeds_stand place start (told ++ last ∷ []) deeds run.0 now next run.2)

    -- what a crash leaves
    left_of : (place : ℕ) (start : List (List ℕ)) (told : List ℕ) (now : Following) (left : List ℕ) (lines : List (List ℕ)) (rest : List ℕ) → AllByRecursion HasNoEnd start
        → Stands place start told now → Leaves now.file left → IsCut left lines rest → IsLeft Says journal place start told lines
    left_of place start told now left lines rest known stands leaves cut =
        let reads = any_crash place start stands.steps now left lines rest known stands.runs leaves cut in
        let items = items_of stands.steps in
        let begun : length start ≤ reads.count = omega (arith, reads.all_synced, length-append start (map item_line reads.front)) in
        let kept = take (reads.count - length start) items in
        let behind = drop (reads.count - length start) items in
        let parts : items ≡ kept ++ behind = sym (take-append-drop (reads.count - length start) items) in
        let long : length reads.front ≤ reads.count - length start = omega (arith, reads.all_synced, length-append start (map item_line reads.front), length-map item_line reads.front) in
        let more : entries_in reads.front ≤ entries_in kept = subst (λ s. entries_in reads.front ≤ entries_in (take (reads.count - length start) s)) (sym reads.parts) (entries_of_front reads.front reads.back (reads.count - length start) long) in
        record {
          items = kept;
          lines_are = reads.lines_are ∙ take_behind start (map item_line items) reads.count begun ∙ ap (λ s. start ++ s) (take-map item_line (reads.count - length start) items);
          entries_are = subst (λ n. AreSaid Says (take n (drop place journal)) (entry_lines kept)) (sym (entries_in-lines kept)) (SayNext-front place kept behind (subst (SayNext place) parts stands.says));
          none_missing = covered_later now.writing.synced (place + entries_in kept) told (omega (arith, reads.synced_is, more)) stands.covered;
        }

  pub any_keeping : AnyKeepingOf E Says
  any_keeping journal place start deeds now left lines rest known run leaves cut =
      let begin : Stands journal place start [] (starts_with place start) = record { steps = []; runs = refl; says = tt; covered = tt } in
      left_of journal place start (told_in deeds) now left lines rest known (deeds_stand journal place start [] deeds (starts_with place start) now begin run) leaves cut
