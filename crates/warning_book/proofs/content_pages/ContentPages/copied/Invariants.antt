use Rattle.std.proofs.Common.{◌≡◌, take}
use Rattle.warning_book.proofs.content_pages.ContentPages.copied.Given as goal

-- the pages that the walk has passed are copied
abbrev pub invariant-loop-page : goal.invariant-loop-page
invariant-loop-page l = l.pages.items ≡ take l.page-index l.all
