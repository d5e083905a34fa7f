use Rattle.std.proofs.Common.{◌≡◌, ◌∙◌, ◌||◌, None, ap, sym, rules}
use Rattle.std.specs.Prelude.{bytes_eq}
use Rattle.std.specs.BTreeMap.{is_at}
use Rattle.std.specs.Map.{lookup, set_value}
use Rattle.std.proofs.lemmas.Result.{on_err_weaker, on_ok_weaker}
use Rattle.areas.proofs.HolderLemmas.{names_absent, names_found, set_same, with_holder}
use Rattle.areas.specs.Holders.{key_cmp, key_of, has_name, names_at}
use Rattle.areas.proofs.holders.Holders.insert.Goals as goal

pub returns-in-Some-clause-inserted : goal.returns-in-Some-clause-inserted
returns-in-Some-clause-inserted c =
    let old = c.self.inside.names.entries in
    let found : names_at old c.args.s ≡ c.in-Some.names.now = names_found c.args.s c.in-Some.names.now old (rw c.of-key.ensures at (sym c.in-Some.ensures.value)) in
    let set = rw c.of-key.ensures at ((c.get_mut.follows.holds c.insert.new.self).3 (search rules)).0 in
    on_ok_weaker c.insert.result (λ more. rw (← c.self.view_is) (with_holder c.args.s c.args.a.now c.insert.new.self old (c.get_mut.follows.lender c.insert.new.self).entries (λ b. more b ∙ ap (λ ns. bytes_eq c.args.a.now b || has_name b ns) (sym found)) set)) c.insert.ensures.inserted

pub returns-in-Some-clause-unchanged : goal.returns-in-Some-clause-unchanged
returns-in-Some-clause-unchanged c =
    let old = c.self.inside.names.entries in
    let test = is_at (key_cmp c.of-key.result) in
    on_err_weaker c.insert.result (λ same. rw (← c.self.view_is) ((c.get_mut.follows.holds c.insert.new.self).0 ∙ ap (λ w. set_value test old w) same ∙ set_same test old c.in-Some.names.now (sym c.in-Some.ensures.value))) c.insert.ensures.unchanged

pub returns-clause-inserted : goal.returns-clause-inserted
returns-clause-inserted c =
    let old = c.self.inside.names.entries in
    let none : lookup (is_at (key_cmp (key_of c.args.s))) old ≡ None = rw c.of-key.ensures at (sym c.in_default.ensures.value) in
    rw (← c.self.view_is) (with_holder c.args.s c.args.a.now c.insert-2.new.self old c.insert-3.new.self.entries (λ b. c.in_ok-insert.ensures.inserted b ∙ ap (λ ns. bytes_eq c.args.a.now b || has_name b ns) (c.new-names.ensures ∙ sym (names_absent c.args.s old none))) (λ q. rw (c.get_mut.follows.holds-at-none, c.of-key.ensures) at (c.in_ok-insert-2.ensures.updates.0 q)))
