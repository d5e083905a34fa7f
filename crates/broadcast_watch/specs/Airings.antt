-- When messages came on air, as replies said.
use Rattle.std.specs.Prelude.{ℕ, Bool, not, List, [], ◌∷◌, ◌++◌, Option, find}
use Rattle.std.specs.List.{filter}
use Rattle.std.specs.Option.{option_map}
use Rattle.broadcast_watch.specs.Versions.{is_among, is_version}
use Rattle.broadcast_watch.specs.declared.airing.Airing.{Airing}
use Rattle.link_rules.specs.declared.version.Version.{Version}

-- it is of that version
abbrev pub is_of : Version → Airing → Bool
is_of v a = is_version v a.version

-- those of other versions
abbrev pub others : Version → List Airing → List Airing
others v all = filter (λ a. not (is_of v a)) all

-- the version came on air then: what was known of it is forgotten
abbrev pub aired : Version → ℕ → List Airing → List Airing
aired v second all = others v all ++ record { version = v; second = second } ∷ []

-- those of these versions
abbrev pub kept : List Version → List Airing → List Airing
kept versions all = filter (λ a. is_among versions a.version) all

-- when the version came on air last
abbrev pub last_airing : Version → List Airing → Option ℕ
last_airing v all = option_map (λ (a : Airing). a.second) (find (is_of v) all)
