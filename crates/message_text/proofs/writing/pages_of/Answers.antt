use Rattle.std.proofs.Common.{ℕ, List, ◌<◌, length, ap, chars, sym, ◌∙◌, subst}
use Rattle.std.proofs.lemmas.Str.{scalars-chars}
use Rattle.std.specs.List.{AllByRecursion}
use Rattle.message_text.specs.Texts.{CanCode, coding_for}
use Rattle.message_text.specs.declared.coding.Coding.{Coding}
use Rattle.message_text.proofs.TextLemmas.{coded, some_letters, some_pages}
use Rattle.message_text.proofs.writing.pages_of.Goals as goal

pub pages-requires : goal.pages-requires
pages-requires c =
    let plain = c.in_ok-letters.ensures.plain in
    let all = coded (chars c.args.text.now) plain.letters (scalars-chars c.args.text.now plain.utf8) in
    let letters = c.as_slice-2.ensures.value ∙ c.in_ok-letters.ensures.letters in
    let coding = c.for_letters-coding.ensures ∙ ap coding_for (c.as_slice.ensures.value ∙ c.in_ok-letters.ensures.letters) in
    subst (λ (k : Coding). AllByRecursion (CanCode k) c.as_slice-2.result.now) (sym coding)
    (subst (λ (s : List ℕ). AllByRecursion (CanCode (coding_for (chars c.args.text.now))) s) (sym letters) all)

pub returns-in-Some-clause-some : goal.returns-in-Some-clause-some
returns-in-Some-clause-some c =
    let plain = c.in_ok-letters.ensures.plain in
    let letters = c.as_slice-2.ensures.value ∙ c.in_ok-letters.ensures.letters in
    let some = subst (λ (s : List ℕ). 0 < length s) (sym letters) (some_letters c.args.text.now plain.utf8 plain.some) in
    let read = rw c.in-Some.is at c.in_ok-pages.ensures.read in
    some_pages c.for_letters-coding.result c.in-Some.pages.items c.as_slice-2.result.now read some
