use Rattle.std.proofs.Common.{◌≡◌, ◌<◌, ◌≤◌, sym, length, get_or, rules}
use Rattle.cbsp_ie.specs.CellId.{names}
use Rattle.cbsp_ie.specs.declared.fail_entry.FailEntry.{FailEntry}
use Rattle.centre_events.proofs.LookupLemmas.{is_found, isnt_found, none_past}
use Rattle.centre_events.proofs.lookups.failure_at.Goals as goal
use Rattle.centre_events.proofs.lookups.failure_at.Goals.{in_default-via-in-Some+else-names, in_default-via-in_default}

pub returns-in-Some : goal.returns-in-Some
returns-in-Some c =
    let within : c.failure_start.result < length c.args.failures.now = search rules in
    let read : c.in-Some.failure.now ≡ get_or c.args.failures.now c.failure_start.result c.in-Some.failure.now = search rules in
    is_found (λ (e : FailEntry). e.id) c.args.network c.args.c (λ (e : FailEntry). names c.args.network e.id c.args.c) (λ e h. h) c.args.failures.now c.failure_start.result c.in-Some.failure.now c.requires c.failure_start.ensures within read (search rules)

pub returns-in_default : goal.returns-in_default
returns-in_default c =
    elim c.in_default.branch [
      | in_default-via-in-Some+else-names w ↦
          let within : c.failure_start.result < length c.args.failures.now = search rules in
          let read : w.in-Some.failure.now ≡ get_or c.args.failures.now c.failure_start.result w.in-Some.failure.now = search rules in
          isnt_found (λ (e : FailEntry). e.id) c.args.network c.args.c (λ (e : FailEntry). names c.args.network e.id c.args.c) (λ e h. h) c.args.failures.now c.failure_start.result w.in-Some.failure.now c.requires c.failure_start.ensures within read (search rules)
      | in_default-via-in_default w ↦
          let past : length c.args.failures.now ≤ c.failure_start.result = search rules in
          sym (none_past (λ (e : FailEntry). e.id) c.args.network c.args.c (λ (e : FailEntry). names c.args.network e.id c.args.c) (λ e h. h) c.args.failures.now c.failure_start.result c.failure_start.ensures past)
    ]
