use Rattle.std.proofs.Common.{◌≡◌, ◌<◌, ◌≤◌, ◌∙◌, length, get_or, rules}
use Rattle.cbsp_ie.specs.CellId.{names}
use Rattle.cbsp_ie.specs.declared.count_entry.CountEntry.{CountEntry}
use Rattle.centre_events.proofs.LookupLemmas.{any_at, none_any}
use Rattle.centre_events.proofs.lookups.is_counted_at.Goals as goal

pub returns-in-Some : goal.returns-in-Some
returns-in-Some c =
    let within : c.count_start.result < length c.args.entries.now = search rules in
    let read : c.in-Some.entry.now ≡ get_or c.args.entries.now c.count_start.result c.in-Some.entry.now = search rules in
    c.names.ensures ∙ any_at (λ (e : CountEntry). e.id) c.args.network c.args.c (λ (e : CountEntry). names c.args.network e.id c.args.c) (λ e h. h) c.args.entries.now c.count_start.result c.in-Some.entry.now c.requires c.count_start.ensures within read

pub returns-in-None : goal.returns-in-None
returns-in-None c =
    let past : length c.args.entries.now ≤ c.count_start.result = search rules in
    none_any (λ (e : CountEntry). e.id) c.args.network c.args.c (λ (e : CountEntry). names c.args.network e.id c.args.c) (λ e h. h) c.args.entries.now c.count_start.result c.count_start.ensures past
