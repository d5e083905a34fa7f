-- What stands on each page: the constants of `src/fixed`.
use Rattle.std.specs.Prelude.{ℕ, List}
use Rattle.status_pages.specs.declared.fixed.TheConstants.{AFTER, BEFORE, LAYOUT, LOOKS}

-- where the page begins, up to its title
unfoldable pub before_html : List ℕ
before_html = BEFORE.now

-- the looks of the header, of warnings and of BSCs
unfoldable pub looks_html : List ℕ
looks_html = LOOKS.now

-- the looks of boards, and how the lists are laid out
unfoldable pub layout_html : List ℕ
layout_html = LAYOUT.now

-- the script that renews the page
unfoldable pub after_html : List ℕ
after_html = AFTER.now
