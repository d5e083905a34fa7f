use Rattle.std.proofs.Common.{◌≡◌, ◌+◌, ◌*◌, ◌-◌, drop, take, length, sym, ◌∙◌, arith}
use Rattle.cbsp_ie.specs.declared.form.Form.TheVariants as form
use Rattle.cbsp_ie.specs.Form.{size_of}
use Rattle.cbsp_ie.proofs.CountListLemmas.{AreCountsOf-counts_at, no_counts, some_counts}
use Rattle.cbsp_ie.proofs.NumberLemmas.{IsBytes, IsBytes-drop, after_first}
use Rattle.cbsp_ie.proofs.count_list.CountList.read.Goals as goal

bytes : (c : goal.In-Some-whole_entries) → IsBytes (take (length c.args.listed.now - 1) (drop 1 c.args.listed.now))
bytes c = rw (after_first c.args.listed.now) (IsBytes-drop 1 c.args.listed.now (λ i. omega (arith, c.type_inv.listed i)))

whole : (c : goal.In-Some-whole_entries) → c.in-Some-whole_entries.count * (size_of c.in-Some.form + 3) ≡ length (take (length c.args.listed.now - 1) (drop 1 c.args.listed.now))
whole c = rw (← c.size.ensures) c.in-Some-whole_entries.ensures.some

pub invariant_of-result : goal.invariant_of-result
invariant_of-result c = (omega arith, AreCountsOf-counts_at form.LacCi 0 c.args.listed.now (omega arith) (λ i. omega (arith, c.type_inv.listed i)))

pub returns-in_default-clause-found : goal.returns-in_default-clause-found
returns-in_default-clause-found c = no_counts c.args.listed.now (omega arith)

pub invariant_of-result-in-Some-whole_entries : goal.invariant_of-result-in-Some-whole_entries
invariant_of-result-in-Some-whole_entries c = (whole c, AreCountsOf-counts_at _ _ _ (whole c) (bytes c))

pub returns-in-Some-whole_entries-clause-found : goal.returns-in-Some-whole_entries-clause-found
returns-in-Some-whole_entries-clause-found c =
    some_counts c.args.listed.now _ _ _ (omega arith) (after_first c.args.listed.now) (sym c.from_discriminator.ensures ∙ c.in-Some.is) (whole c) (bytes c)
