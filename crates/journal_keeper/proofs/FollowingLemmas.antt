-- What the thread does, one deed after another.
use Rattle.std.proofs.Common.{◌≡◌, ℕ, ◌+◌, Bool, true, false, List, [], ◌∷◌, ◌++◌, take, Option, Some, None, eqb, Result, Ok, Err, refl, sym, ap, ◌∙◌, subst, arith, append-nil}
use Rattle.std.proofs.lemmas.List.Elements.{All-from_recursion}
use Rattle.journal_file.specs.File.{FileState, grown, settled, Grows, GrowsInPart, GrowsForGood}
use Rattle.std.specs.List.{AllByRecursion}
use Rattle.journal_file.specs.Lines.{IsLine}
use Rattle.journal_file.specs.Writing.{Item, Entry, Fold, Comment, item_line, told_of, WritingState, Following, with_item, all_kept, broken}
use Rattle.journal_keeper.specs.Following.{with_items, CanBePut, Puts, Portion, Next, Folded, PutsNext, PutsFold, PutsEach, PutsAll, Deed, Hands, Keeps, Breaks, Runs, KeepsOn, KeepsFile}

-- the line of a fold is one
pub fold_line : IsLine (item_line Fold)
fold_line = (All-from_recursion (λ x. eqb x 10 ≡ false) (item_line Fold) (refl, (refl, (refl, (refl, (refl, (refl, (refl, (refl, (refl, (refl, tt)))))))))), omega arith)

-- items behind items
with_items-append : (old : WritingState) (xs ys : List Item) → with_items old (xs ++ ys) ≡ with_items (with_items old xs) ys
with_items-append old [] ys = refl
with_items-append old (x ∷ xs) ys = with_items-append (with_item old x) xs ys

told_of-append : (xs ys : List Item) → told_of (xs ++ ys) ≡ told_of xs ++ told_of ys
told_of-append [] ys = refl
told_of-append (Entry line ∷ xs) ys = ap (λ s. Entry line ∷ s) (told_of-append xs ys)
told_of-append (Fold ∷ xs) ys = ap (λ s. Fold ∷ s) (told_of-append xs ys)
told_of-append (Comment line ∷ xs) ys = told_of-append xs ys

all_append : {X : Type 0} (P : X → Type 0) (xs ys : List X) → AllByRecursion P xs → AllByRecursion P ys → AllByRecursion P (xs ++ ys)
all_append P [] ys p q = q
all_append P (x ∷ xs) ys p q = (p.0, all_append P xs ys p.1 q)

-- nothing was put
pub puts_nothing : (a : WritingState) → Puts a a []
puts_nothing a = record { items = []; each = tt; told_are = refl; state = refl }

-- one item was
pub puts_one : (a b : WritingState) (item : Item) → CanBePut item → b ≡ with_item a item → Puts a b (told_of (item ∷ []))
puts_one a b item can is = record { items = item ∷ []; each = (can, tt); told_are = refl; state = is }

-- some were, and then others
pub puts_both : (a b c : WritingState) (xs ys : List Item) → Puts a b xs → Puts b c ys → Puts a c (xs ++ ys)
puts_both a b c xs ys first second = record {
  items = first.items ++ second.items;
  each = all_append CanBePut first.items second.items first.each second.each;
  told_are = told_of-append first.items second.items ∙ ap (λ s. s ++ told_of second.items) first.told_are ∙ ap (λ s. xs ++ s) second.told_are;
  state = second.state ∙ ap (λ w. with_items w second.items) first.state ∙ sym (with_items-append a first.items second.items);
}

module _ (Gives : ℕ → Portion → Type 0) where
  -- the next entries alone were put
  pub puts_next : (old new : WritingState) → PutsNext Gives old new → PutsAll Gives old new
  puts_next old new puts = (Next puts.0 ∷ [], (new, puts.1, refl))

  -- and then those of a fold, where it wasn't refused
  pub puts_folded : {R : Type 0} (old now new : WritingState) (answer : Result ℕ R) → PutsNext Gives old now → PutsFold Gives now new answer → PutsAll Gives old new
  puts_folded old now new (Ok count) puts folds = (Next puts.0 ∷ Folded folds.0 ∷ [], (now, puts.1, (new, folds.1, refl)))
  puts_folded old now new (Err refusal) puts same = (Next puts.0 ∷ [], (now, puts.1, same))

  Runs-trans : (a b c : Following) (xs ys : List Deed) → Runs Gives a xs b → Runs Gives b ys c → Runs Gives a (xs ++ ys) c
  Runs-trans a b c [] ys first second = subst (λ s. Runs Gives s ys c) first second
  Runs-trans a b c (x ∷ xs) ys first second = (first.0, first.1, Runs-trans first.0 b c xs ys first.2 second)

  -- nothing happened
  pub keeps_nothing : (w : WritingState) (a : Option FileState) → KeepsOn Gives w a w a
  keeps_nothing w None = tt
  keeps_nothing w (Some f) = ([], refl)

  pub keeps_both : (u v w : WritingState) (a b c : Option FileState) → KeepsOn Gives u a v b → KeepsOn Gives v b w c → KeepsOn Gives u a w c
  keeps_both u v w None b c first second = tt
  keeps_both u v w (Some f) None c first second = absurd first
  keeps_both u v w (Some f) (Some g) None first second = absurd second
  keeps_both u v w (Some f) (Some g) (Some h) first second = (first.0 ++ second.0, Runs-trans (record { writing = u; file = f }) (record { writing = v; file = g }) (record { writing = w; file = h }) first.0 second.0 first.1 second.1)

  pub keeps_file_after : (u v : WritingState) (a b c : Option FileState) → KeepsOn Gives u a v b → KeepsFile Gives v b c → KeepsFile Gives u a c
  keeps_file_after u v a b c first second = (second.0, keeps_both u v second.0 a b c first second.1)

  pub keeps_file_nothing : (w : WritingState) (a : Option FileState) → KeepsFile Gives w a a
  keeps_file_nothing w a = (w, keeps_nothing w a)

  -- some portions were put
  runs_put : (old new : WritingState) (f : FileState) (portions : List Portion) → PutsEach Gives old portions new
      → (deeds : List Deed) × Runs Gives (record { writing = old; file = f }) deeds (record { writing = new; file = f })
  runs_put old new f [] puts = ([], ap (λ w. record { writing = w; file = f }) puts)
  runs_put old new f (portion ∷ portions) puts =
      let rest = runs_put puts.0 new f portions puts.2 in
      (Hands portion ∷ rest.0, (record { writing = puts.0; file = f }, (puts.1, refl), rest.1))

  pub KeepsOn-put : (old new : WritingState) (a : Option FileState) → PutsAll Gives old new → KeepsOn Gives old a new a
  KeepsOn-put old new None puts = tt
  KeepsOn-put old new (Some f) puts = runs_put old new f puts.0 puts.1

  -- all was written and synced
  pub KeepsOn-kept : (old new : WritingState) (a b : Option FileState) → old.failed ≡ false → new ≡ all_kept old → GrowsForGood a b old.waiting → KeepsOn Gives old a new b
  KeepsOn-kept old new None b sound state grows = tt
  KeepsOn-kept old new (Some f) None sound state grows = absurd grows
  KeepsOn-kept old new (Some f) (Some g) sound state grows =
      let now : Following = record { writing = new; file = g } in
      let is : now ≡ record { writing = all_kept old; file = settled (grown f old.waiting) } = rw (state, grows) refl in
      (Keeps ∷ [], (now, (sound, is), refl))

  -- a write or the sync failed, also where one had failed before
  broke_first : (old new : WritingState) (f g : FileState) (count : ℕ) → old.failed ≡ false → new ≡ broken old → Grows (Some f) (Some g) (take count old.waiting) → KeepsOn Gives old (Some f) new (Some g)
  broke_first old new f g count sound state grows =
      let now : Following = record { writing = new; file = g } in
      let is : now ≡ record { writing = broken old; file = grown f (take count old.waiting) } = rw (state, grows) refl in
      (Breaks count ∷ [], (now, (sound, is), refl))

  broke_again : (old new : WritingState) (f g : FileState) → old.failed ≡ true → new ≡ broken old → Grows (Some f) (Some g) [] → KeepsOn Gives old (Some f) new (Some g)
  broke_again old new f g failed state grows =
      let same : g ≡ f = grows ∙ ap (λ s. record { octets = s; durable = f.durable }) (append-nil f.octets) in
      let still : broken old ≡ old = ap (λ b. record { taken = old.taken; waiting = old.waiting; synced = old.synced; failed = b }) (sym failed) in
      let is : record { writing = new; file = g } ≡ record { writing = old; file = f } = rw (state ∙ still, same) refl in
      ([], is)

  broke_either : (old new : WritingState) (f g : FileState) (failed : Bool) → old.failed ≡ failed → new ≡ broken old → GrowsInPart (Some f) (Some g) old.waiting
      → (old.failed ≡ true → Grows (Some f) (Some g) []) → KeepsOn Gives old (Some f) new (Some g)
  broke_either old new f g false is state part none = broke_first old new f g part.0 is state part.1
  broke_either old new f g true is state part none = broke_again old new f g is state (none is)

  pub KeepsOn-broke : (old new : WritingState) (a b : Option FileState) → new ≡ broken old → GrowsInPart a b old.waiting → (old.failed ≡ true → Grows a b []) → KeepsOn Gives old a new b
  KeepsOn-broke old new None b state part none = tt
  KeepsOn-broke old new (Some f) None state part none = absurd part.1
  KeepsOn-broke old new (Some f) (Some g) state part none = broke_either old new f g old.failed refl state part none

  -- a turn, where all was written and synced, and where it failed
  pub turn_kept : (old mid new : WritingState) (a b : Option FileState) → PutsAll Gives old mid → mid.failed ≡ false → new ≡ all_kept mid → GrowsForGood a b mid.waiting → KeepsOn Gives old a new b
  turn_kept old mid new a b puts sound state grows = keeps_both old mid new a a b (KeepsOn-put old mid a puts) (KeepsOn-kept mid new a b sound state grows)

  pub turn_broke : (old mid new : WritingState) (a b : Option FileState) → PutsAll Gives old mid → new ≡ broken mid → GrowsInPart a b mid.waiting → (mid.failed ≡ true → Grows a b []) → KeepsFile Gives old a b
  turn_broke old mid new a b puts state part none = (new, keeps_both old mid new a a b (KeepsOn-put old mid a puts) (KeepsOn-broke mid new a b state part none))
