-- The keys that are on air at a BSC: messages in cells, in ascending order, each once.
use Rattle.std.specs.Prelude.{Bool, List}
use Rattle.std.specs.BTreeMap.{is_at}
use Rattle.std.specs.BTreeSet.{insert_key}
use Rattle.std.specs.List.{list_any}
use Rattle.std.specs.Ordering.{nat_cmp, ordering_then}
use Rattle.std.specs.Set.{remove_key}
use Rattle.std.specs.declared.cmp.Ordering.{Ordering}
use Rattle.common.specs.Cell.{cell_cmp}
use Rattle.bsc_sim.specs.declared.key.Key.{Key}

-- the order of keys: by cell, then by message identifier, then by serial number
abbrev pub key_cmp : Key → Key → Ordering
key_cmp a b = ordering_then (cell_cmp a.cell b.cell) (ordering_then (nat_cmp a.message_id b.message_id) (nat_cmp a.serial b.serial))

-- whether the key is on air
abbrev pub has : List Key → Key → Bool
has keys k = list_any (is_at (key_cmp k)) keys

-- the keys, with one at its place in the order, unless it is there
abbrev pub with_key : List Key → Key → List Key
with_key keys k = insert_key key_cmp keys k

-- the keys without one
abbrev pub without_key : List Key → Key → List Key
without_key keys k = remove_key (is_at (key_cmp k)) keys
