-- What a content must have (TS 48.049, 8.2.3 and 8.2.7, and TS 23.041, 9.4.1.2).
use Rattle.std.specs.Prelude.{ℕ, Bool, true, ◌&&◌, not, List, nat_eq, nat_le, length}
use Rattle.std.specs.List.{list_any}
use Rattle.warning_book.specs.declared.category.Category.{Category}
use Rattle.warning_book.specs.declared.category.Category.TheVariants.{HighPriority, Background, Normal}
use Rattle.warning_book.specs.declared.content.Content.{Content}
use Rattle.warning_book.specs.declared.content.Content.TheVariants as content
use Rattle.warning_book.specs.declared.kind.Kind.{Kind}
use Rattle.warning_book.specs.declared.kind.Kind.TheVariants as kind

-- the number that stands for a category in a message (TS 48.049, 8.2.7)
abbrev pub category_number : Category → ℕ
category_number HighPriority = 0
category_number Background = 1
category_number Normal = 2

-- a page has 1 to 82 octets
abbrev pub is_page : List ℕ → Bool
is_page page = nat_le 1 (length page) && nat_le (length page) 82

-- 1 to 15 pages
abbrev pub are_pages : List (List ℕ) → Bool
are_pages pages = (nat_le 1 (length pages) && nat_le (length pages) 15) && not (list_any (λ page. not (is_page page)) pages)

-- a repetition period is 1 to 1,024
abbrev pub is_period : ℕ → Bool
is_period period = nat_le 1 period && nat_le period 1024

-- the number that stands for a kind in a message (TS 48.049, 8.2.24)
abbrev pub kind_number : Kind → ℕ
kind_number kind.Cbs = 0
kind_number kind.Emergency = 1

-- the two are one kind
abbrev pub is_same_kind : Kind → Kind → Bool
is_same_kind j k = nat_eq (kind_number j) (kind_number k)

-- the kind of warning that a content is for
abbrev pub content_kind : Content → Kind
content_kind (content.Cbs c) = kind.Cbs
content_kind (content.Emergency c) = kind.Emergency

-- its pages can be broadcast, where it has pages
abbrev pub have_pages : Content → Bool
have_pages (content.Cbs c) = are_pages c.pages
have_pages (content.Emergency c) = true

-- its repetition period can be asked for, where it has one
abbrev pub has_period : Content → Bool
has_period (content.Cbs c) = is_period c.period
has_period (content.Emergency c) = true
