use Rattle.std.proofs.Common.{◌≡◌, ◌<◌, ◌≤◌, ◌∙◌, length, get_or, rules}
use Rattle.cbsp_ie.specs.CellId.{names}
use Rattle.cbsp_ie.specs.declared.cell_id.CellId.{CellId}
use Rattle.centre_events.proofs.LookupLemmas.{any_at, none_any}
use Rattle.centre_events.proofs.lookups.is_named_at.Goals as goal

pub returns-in-Some : goal.returns-in-Some
returns-in-Some c =
    let within : c.id_start.result < length c.args.ids.now = search rules in
    let read : c.in-Some.id.now ≡ get_or c.args.ids.now c.id_start.result c.in-Some.id.now = search rules in
    c.names.ensures ∙ any_at (λ (e : CellId). e) c.args.network c.args.c (λ (e : CellId). names c.args.network e c.args.c) (λ e h. h) c.args.ids.now c.id_start.result c.in-Some.id.now c.requires c.id_start.ensures within read

pub returns-in-None : goal.returns-in-None
returns-in-None c =
    let past : length c.args.ids.now ≤ c.id_start.result = search rules in
    none_any (λ (e : CellId). e) c.args.network c.args.c (λ (e : CellId). names c.args.network e c.args.c) (λ e h. h) c.args.ids.now c.id_start.result c.id_start.ensures past
