use Rattle.std.proofs.Common.{◌≡◌, List, ℕ, ◌++◌, ap, option_map, encode_utf8_all, sym, ◌∙◌}
use Rattle.std.specs.String.{string_bytes}
use Rattle.message_text.specs.Reading.{read_page}
use Rattle.message_text.proofs.ReadingLemmas.{page_read, page_unread, text_under, was_read, was_unread}
use Rattle.message_text.proofs.reading.text_of.Goals as goal

pub returns-then-not-branch : goal.returns-then-not-branch
returns-then-not-branch c =
    let l = c.loop-page in
    let none = was_unread (read_page c.in-Some.coding c.as_slice.result.now) c.in_ok-append_page.field-0 (λ (letters : List ℕ). string_bytes c.append_page.new.text ≡ string_bytes l.text ++ encode_utf8_all letters)
    c.in_ok-append_page.ensures c.if-not-branch.true in
    sym (page_unread c.in-Some.coding c.args.pages.now c.page-item.result c.as_slice.result.now (string_bytes l.text) l.page-index c.loop-page-test.true (c.as_slice.ensures ∙ c.page-item.is) none)
    ∙ l.invariant
    ∙ ap (option_map encode_utf8_all) (sym (text_under c.args.dcs c.args.pages.now c.in-Some.coding (sym c.of_dcs.ensures ∙ c.in-Some.is)))

pub loop-page-preserved : goal.loop-page-preserved
loop-page-preserved c =
    let l = c.loop-page in
    let some = was_read (read_page c.in-Some.coding c.as_slice.result.now) c.in_ok-append_page.field-0 (λ (letters : List ℕ). string_bytes c.append_page.new.text ≡ string_bytes l.text ++ encode_utf8_all letters)
    c.in_ok-append_page.ensures c.if-not-branch.false in
    page_read c.in-Some.coding c.args.pages.now c.page-item.result c.as_slice.result.now (string_bytes l.text) (string_bytes c.append_page.new.text) some.0 l.page-index
    c.loop-page-test.true (c.as_slice.ensures ∙ c.page-item.is) some.1 some.2
    ∙ l.invariant
