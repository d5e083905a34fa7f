-- What is read of a file that a crash has cut.
use Rattle.std.proofs.Common.{◌≡◌, ℕ, ◌+◌, ◌<◌, ◌≤◌, List, [], ◌∷◌, ◌++◌, length, map, take, drop, refl, sym, ap, ◌∙◌, subst, arith, append_assoc, append-nil, length-append, take-append-drop}
use Rattle.std.specs.List.{AllByRecursion}
use Rattle.std.proofs.lemmas.List.{length-take}
use Rattle.journal_file.specs.Lines.{HasNoEnd, IsLine, IsCut, line_octets, lines_octets}
use Rattle.journal_file.specs.Writing.{Item, item_line, lines_with, text_with, Following, Step, Runs, items_of, starts_with, Follows}
use Rattle.journal_file.specs.File.{Leaves}
use Rattle.journal_file.specs.Crash.{ReadsBack, AnyCrash}
use Rattle.journal_file.proofs.LineLemmas.{HasNoEnd-nil, no_line, line-injective, first_of_lines, AllByRecursion-append}
use Rattle.journal_file.proofs.WritingLemmas.{any_steps, text_with-append}

cons-equal : {X : Type 0} (x y : X) (xs ys : List X) → x ≡ y → xs ≡ ys → x ∷ xs ≡ y ∷ ys
cons-equal x y xs ys p q = cc

-- the lines of the first octets of some lines are the first of these
first_lines : (lines all : List (List ℕ)) (rest tail : List ℕ) → AllByRecursion HasNoEnd lines → AllByRecursion HasNoEnd all → (lines_octets lines ++ rest) ++ tail ≡ lines_octets all → lines ≡ take (length lines) all
first_lines [] all rest tail p q same = refl
first_lines (x ∷ xs) [] rest tail p q same =
    absurd (no_line x ((lines_octets xs ++ rest) ++ tail) [] HasNoEnd-nil
    (sym same ∙ ap (λ s. s ++ tail) (first_of_lines x xs rest) ∙ append_assoc x (10 ∷ (lines_octets xs ++ rest)) tail))
first_lines (x ∷ xs) (y ∷ ys) rest tail p q same =
    let left : x ++ 10 ∷ ((lines_octets xs ++ rest) ++ tail) ≡ (lines_octets (x ∷ xs) ++ rest) ++ tail =
    sym (ap (λ s. s ++ tail) (first_of_lines x xs rest) ∙ append_assoc x (10 ∷ (lines_octets xs ++ rest)) tail) in
    let right : lines_octets (y ∷ ys) ≡ y ++ 10 ∷ lines_octets ys = append_assoc y (10 ∷ []) (lines_octets ys) in
    let split = line-injective x y _ _ p.0 q.0 (left ∙ same ∙ right) in
    cons-equal x y xs (take (length xs) ys) split.0 (first_lines xs ys rest tail p.1 q.1 split.1)

-- octets that begin with some lines have these
enough_lines : (front lines : List (List ℕ)) (rest more : List ℕ) → AllByRecursion HasNoEnd front → AllByRecursion HasNoEnd lines → HasNoEnd rest
    → lines_octets lines ++ rest ≡ lines_octets front ++ more → length front ≤ length lines
enough_lines [] lines rest more p q none same = omega arith
enough_lines (y ∷ ys) [] rest more p q none same = absurd (no_line y (lines_octets ys ++ more) rest none (same ∙ first_of_lines y ys more))
enough_lines (y ∷ ys) (x ∷ xs) rest more p q none same =
    let both : x ++ 10 ∷ (lines_octets xs ++ rest) ≡ y ++ 10 ∷ (lines_octets ys ++ more) = sym (first_of_lines x xs rest) ∙ same ∙ first_of_lines y ys more in
    let split = line-injective x y _ _ q.0 p.0 both in
    omega (arith, enough_lines ys xs rest more p.1 q.1 none split.1)

-- of two beginnings of the same octets the longer begins with the shorter
pub longer_begins : (xs ys s t : List ℕ) → xs ++ s ≡ ys ++ t → length ys ≤ length xs → (more : List ℕ) × (xs ≡ ys ++ more)
longer_begins xs [] s t same fits = (xs, refl)
longer_begins [] (y ∷ ys) s t same fits = absurd (omega arith)
longer_begins (x ∷ xs) (y ∷ ys) s t same fits =
    let first : x ≡ y = cc in
    let behind : xs ++ s ≡ ys ++ t = cc in
    let others = longer_begins xs ys s t behind (omega arith) in
    (others.0, cons-equal x y xs (ys ++ others.0) first others.1)

-- the lines of items
lines_of_items : (items : List Item) → AllByRecursion (λ item. IsLine (item_line item)) items → AllByRecursion HasNoEnd (map item_line items)
lines_of_items [] each = tt
lines_of_items (item ∷ items) each = (each.0.0, lines_of_items items each.1)

first_items : (front back : List Item) → AllByRecursion (λ item. IsLine (item_line item)) (front ++ back) → AllByRecursion (λ item. IsLine (item_line item)) front
first_items [] back each = tt
first_items (item ∷ front) back each = (each.0, first_items front back each.1)

-- a file that follows a journal
reads_back : (place : ℕ) (start : List (List ℕ)) (items : List Item) (now : Following) (left : List ℕ) (lines : List (List ℕ)) (rest : List ℕ)
    → AllByRecursion HasNoEnd start → Follows place start items now → Leaves now.file left → IsCut left lines rest → ReadsBack place now.writing.synced start items lines
reads_back place start items now left lines rest known follows leaves cut =
    let octets = now.file.octets in
    let all = lines_with start items in
    let tail : List ℕ = drop leaves.count octets ++ follows.unwritten in
    let text : left ++ tail ≡ text_with start items =
    ap (λ s. s ++ tail) leaves.front ∙ sym (append_assoc (take leaves.count octets) (drop leaves.count octets) follows.unwritten)
    ∙ ap (λ s. s ++ follows.unwritten) (take-append-drop leaves.count octets) ∙ follows.written in
    let split : text_with start items ≡ text_with start follows.front ++ lines_octets (map item_line follows.back) =
    ap (text_with start) follows.parts ∙ text_with-append start follows.front follows.back in
    let long : length (text_with start follows.front) ≤ length left = omega (arith, follows.durable, follows.stands, leaves.durable, ap length leaves.front, length-take leaves.count octets) in
    let begins = longer_begins left (text_with start follows.front) tail (lines_octets (map item_line follows.back)) (text ∙ split) long in
    let front_lines : AllByRecursion (λ item. IsLine (item_line item)) follows.front = first_items follows.front follows.back (subst (AllByRecursion (λ item. IsLine (item_line item))) follows.parts follows.lines) in
    let each_front : AllByRecursion HasNoEnd (lines_with start follows.front) = AllByRecursion-append HasNoEnd start (map item_line follows.front) known (lines_of_items follows.front front_lines) in
    let each_all : AllByRecursion HasNoEnd all = AllByRecursion-append HasNoEnd start (map item_line items) known (lines_of_items items follows.lines) in
    record {
      front = follows.front;
      back = follows.back;
      count = length lines;
      parts = follows.parts;
      synced_is = follows.synced;
      lines_are = first_lines lines all rest tail cut.each each_all (ap (λ s. s ++ tail) (sym cut.whole) ∙ text);
      all_synced = enough_lines (lines_with start follows.front) lines rest begins.0 each_front cut.each cut.partial (sym cut.whole ∙ begins.1);
    }

pub any_crash : AnyCrash
any_crash place start steps now left lines rest known run leaves cut = reads_back place start (items_of steps) now left lines rest known (any_steps place start steps now run) leaves cut
