-- Reads of entries, counted one after another.
use Rattle.std.proofs.Common.{◌≡◌, ℕ, zero, suc, Bool, true, false, ◌+◌, ◌-◌, ◌^◌, ◌<◌, ◌≤◌, Result, Ok, Err, sym, ◌∙◌, ap, subst, arith}
use Rattle.std.specs.Prelude.{OnErr, nat_eq, if◌then◌else◌}
use Rattle.mirror.specs.Table.{counted}
use Rattle.centre_core.specs.Journal.{counted_by}

-- one read more
pub one_more : (k n : ℕ) → counted (counted_by k n) ≡ counted_by (k + 1) n
one_more k n =
    let next : suc k ≡ k + 1 = omega arith in
    ap (λ i. counted_by i n) next

-- a count never falls
grows : (full : Bool) (n : ℕ) → n ≤ (if full then n else n + 1)
grows true n = omega arith
grows false n = omega arith

further : (more few many n : ℕ) → many ≡ more + few → counted_by few n ≤ counted_by many n
further zero few many n is =
    let same : few ≡ many = omega (arith, is) in
    subst (λ i. counted_by few n ≤ counted_by i n) same (omega arith)
further (suc more) few zero n is = absurd (omega (arith, is))
further (suc more) few (suc many) n is =
    let step : counted_by many n ≤ counted_by (suc many) n = grows (nat_eq (counted_by many n) (2 ^ 64 - 1)) (counted_by many n) in
    let before : counted_by few n ≤ counted_by many n = further more few many n (omega (arith, is)) in
    omega (arith, step, before)

-- fewer reads count no more
pub fewer : (few many n : ℕ) → few ≤ many → counted_by few n ≤ counted_by many n
fewer few many n h = further (many - few) few many n (omega (arith, h))

-- after a read that was not the last, no more were counted than reads of all
pub read_at_most : {A E : Type 0} (o : Result A E) (done all n old new : ℕ) → done < all → old ≡ counted_by done n → new ≡ counted old → OnErr o (new ≤ counted_by all n)
read_at_most (Ok x) done all n old new h before is = tt
read_at_most (Err x) done all n old new h before is = subst (λ m. m ≤ counted_by all n) (sym (is ∙ ap counted before ∙ one_more done n)) (fewer (done + 1) all n (omega (arith, h)))

-- where nothing was read
pub unread_at_most : {A E : Type 0} (o : Result A E) (all n : ℕ) → OnErr o (n ≤ counted_by all n)
unread_at_most (Ok x) all n = tt
unread_at_most (Err x) all n = fewer zero all n (omega arith)

-- after another read
pub read_more : (from done n old new : ℕ) → from ≤ done → old ≡ counted_by (done - from) n → new ≡ counted old → new ≡ counted_by (done + 1 - from) n
read_more from done n old new h before is =
    let next : done - from + 1 ≡ done + 1 - from = omega (arith, h) in
    is ∙ ap counted before ∙ one_more (done - from) n ∙ ap (λ k. counted_by k n) next
