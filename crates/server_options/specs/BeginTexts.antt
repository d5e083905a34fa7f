-- What is said of the options as a server begins.
use Rattle.std.specs.Prelude.{ℕ, ◌/◌, Bool, List, [], ◌++◌, codes, decimal, if◌then◌else◌}
use Rattle.hex.specs.Hex.{encode_lower}
use Rattle.centre_events.specs.declared.network.Network.{Network}
use Rattle.server_options.specs.declared.options.ServeOptions.{ServeOptions}

-- the network, as six hexadecimal digits, and how many broadcasts a message requests
abbrev pub network_text : Network → List ℕ
network_text n = codes "network " ++ (encode_lower n.plmn ++ (codes ", broadcasts " ++ decimal n.broadcasts))

-- how much there may be
abbrev pub limits_text : ServeOptions → List ℕ
limits_text o = codes "links " ++ (decimal o.links ++ (codes ", journal " ++ (decimal o.journal_limit ++ (codes ", fold " ++ decimal o.fold))))

-- after how long what is done
abbrev pub times_text : ServeOptions → List ℕ
times_text o =
    codes "reply-seconds " ++ (decimal o.reply_seconds ++ (codes ", cut-seconds " ++ (decimal o.cut_seconds
    ++ (codes ", keep-alive-seconds " ++ (decimal o.alive_seconds ++ (codes ", query-minutes " ++ (decimal (o.query_ms / 60000)
    ++ (codes ", queries-per-second " ++ decimal o.queries_per_second))))))))

abbrev pub reset_text : Bool → List ℕ
reset_text reset = if reset then codes ", reset" else []

abbrev pub sim_text : Bool → List ℕ
sim_text sim = if sim then codes ", sim" else []

-- what is on or off
abbrev pub flags_text : ServeOptions → List ℕ
flags_text o = reset_text o.reset ++ sim_text o.with_simulator

-- a server of that version begins with these options
abbrev pub begin_text : List ℕ → ServeOptions → List ℕ
begin_text version o =
    codes "started: version " ++ (version ++ (codes ", " ++ (network_text o.network ++ (codes ", " ++ (limits_text o ++ (codes ", " ++ (times_text o ++ flags_text o)))))))
