use Rattle.std.proofs.Common.{◌≡◌, ◌<◌, ◌≤◌, ◌∙◌, ap, sym, length, get_or, rules}
use Rattle.std.specs.Option.{option_map}
use Rattle.cbsp_ie.specs.declared.count_entry.CountEntry.{CountEntry}
use Rattle.centre_events.specs.Counts.{gives_number}
use Rattle.centre_events.proofs.LookupLemmas.{gives_only, is_found, isnt_found, none_past, turned}
use Rattle.centre_events.proofs.lookups.number_at.Goals as goal

pub returns-in-Some : goal.returns-in-Some
returns-in-Some c =
    let within : c.count_start.result < length c.args.entries.now = search rules in
    let read : c.in-Some.entry.now ≡ get_or c.args.entries.now c.count_start.result c.in-Some.entry.now = search rules in
    ap (option_map (λ (e : CountEntry). e.number)) (is_found (λ (e : CountEntry). e.id) c.args.network c.args.c (gives_number c.args.network c.args.c) (gives_only c.args.network c.args.c) c.args.entries.now c.count_start.result c.in-Some.entry.now c.requires c.count_start.ensures within read (search rules) ∙ sym (turned (λ (e : CountEntry). e.id) c.args.network c.args.c (gives_number c.args.network c.args.c) (gives_only c.args.network c.args.c) c.args.entries.now c.requires))

pub returns-in_default : goal.returns-in_default
returns-in_default c =
    let within : c.count_start.result < length c.args.entries.now = search rules in
    let read : c.in-Some.entry.now ≡ get_or c.args.entries.now c.count_start.result c.in-Some.entry.now = search rules in
    ap (option_map (λ (e : CountEntry). e.number)) (isnt_found (λ (e : CountEntry). e.id) c.args.network c.args.c (gives_number c.args.network c.args.c) (gives_only c.args.network c.args.c) c.args.entries.now c.count_start.result c.in-Some.entry.now c.requires c.count_start.ensures within read (search rules) ∙ sym (turned (λ (e : CountEntry). e.id) c.args.network c.args.c (gives_number c.args.network c.args.c) (gives_only c.args.network c.args.c) c.args.entries.now c.requires))

pub returns-in_default-2 : goal.returns-in_default-2
returns-in_default-2 c =
    let past : length c.args.entries.now ≤ c.count_start.result = search rules in
    ap (option_map (λ (e : CountEntry). e.number)) (sym (turned (λ (e : CountEntry). e.id) c.args.network c.args.c (gives_number c.args.network c.args.c) (gives_only c.args.network c.args.c) c.args.entries.now c.requires ∙ none_past (λ (e : CountEntry). e.id) c.args.network c.args.c (gives_number c.args.network c.args.c) (gives_only c.args.network c.args.c) c.args.entries.now c.count_start.result c.count_start.ensures past))
