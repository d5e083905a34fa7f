-- When the journal is folded by itself.
use Rattle.std.specs.Prelude.{ℕ, ◌*◌, ◌/◌, max, min}
use Rattle.server_options.specs.declared.options.ServeOptions.{ServeOptions}

-- after how many entries: as many as are asked for, at most nine tenths of those that the journal may have, and at least one
abbrev pub fold_every : ServeOptions → ℕ
fold_every o = max (min o.fold ((o.journal_limit * 9) / 10)) 1
