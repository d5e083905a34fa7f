-- A page of a broadcast message (TS 48.049, 8.2.3).
use Rattle.std.specs.Prelude.{◌≡◌, ℕ, nat_eq, ◌-◌, ◌&&◌, Bool, List, ◌++◌, length, replicate, take}
use Rattle.std.specs.Bool.{Decides}
use Rattle.std.specs.Cmp.{unsigned_Decides, first_so, second_so}
use Rattle.std.specs.Cmp.Lexicographic.{pointwise, pointwise_decides}
use Rattle.std.proofs.Common.{ap}
use Rattle.cbsp_ie.specs.Page.{PageContent}

-- content as a page: its first 82 octets, how many they are, and zeros after them up to 82 octets
abbrev pub page_with : List ℕ → PageContent
page_with content =
    record { used = length (take 82 content); octets = take 82 content ++ replicate (82 - length (take 82 content)) 0 }

-- two pages have the same numbers
abbrev pub page_eq : PageContent → PageContent → Bool
page_eq a b = nat_eq a.used b.used && pointwise nat_eq a.octets b.octets

-- pages with the same numbers are the same page
page_from_parts : (x y : PageContent) → x.used ≡ y.used → x.octets ≡ y.octets → x ≡ y
page_from_parts x y used octets i = record { used = used i; octets = octets i }

-- the test of two pages tells whether they are the same
pub page_decides : (x y : PageContent) → Decides (page_eq x y) (x ≡ y)
page_decides x y =
    let octets = pointwise_decides unsigned_Decides x.octets y.octets in
    let used = unsigned_Decides x.used y.used in
    (λ e. page_from_parts x y (used.0 (first_so _ _ e)) (octets.0 (second_so _ _ e)), λ e. rw (used.1 (ap (λ p. p.used) e), octets.1 (ap (λ p. p.octets) e)))

-- the test of two lists of pages tells whether they are the same
pub pages_decide : (xs ys : List PageContent) → Decides (pointwise page_eq xs ys) (xs ≡ ys)
pages_decide = pointwise_decides page_decides
