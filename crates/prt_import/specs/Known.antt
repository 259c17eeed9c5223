-- The words that `ip` prints, each with what becomes of it: ip-route(8), ip-rule(8).
use Rattle.std.specs.Prelude.{List, [], ◌∷◌, ◌++◌, map, Option, Some, None, bytes_eq, codes, if◌then◌else◌}
use Rattle.prt_addr.specs.Word.{Word}
use Rattle.prt_import.specs.declared.known.Object.{Object}
use Rattle.prt_import.specs.declared.known.Object.TheVariants.{Rule, Route}
use Rattle.prt_import.specs.declared.known.Role.TheVariants.{Same, Mark, Address, Gateway, Table, Protocol, Scope, RuleProtocol, Metric}
use Rattle.prt_import.specs.declared.known.Meaning.{Meaning}
use Rattle.prt_import.specs.declared.known.Meaning.TheVariants.{Alone, Before, State, Told, Out}
use Rattle.prt_import.specs.declared.reason.Reason.TheVariants as reasons

abbrev pub Known : Type 0
Known = Word × Meaning

-- these words, with one meaning
abbrev pub each : Meaning → List Word → List Known
each meaning words = map (λ w. (w, meaning)) words

abbrev pub route_words : List Known
route_words =
    (codes "via", Before Gateway)
    ∷ (codes "dev", Before Same)
    ∷ (codes "table", Before Table)
    ∷ (codes "proto", Before Protocol)
    ∷ (codes "scope", Before Scope)
    ∷ (codes "src", Before Address)
    ∷ (codes "metric", Before Same)
    ∷ (codes "onlink", Out reasons.OnLink)
    ∷ (codes "dead", Out reasons.Dead)
    ∷ (codes "linkdown", Told reasons.LinkDown)
    ∷ each State (codes "pervasive" ∷ codes "offload" ∷ codes "trap" ∷ codes "notify" ∷ codes "unresolved" ∷ codes "rt_offload"
    ∷ codes "rt_trap" ∷ codes "rt_offload_failed" ∷ [])
    ++ each (Before Metric) (codes "mtu" ∷ codes "advmss" ∷ codes "window" ∷ codes "rtt" ∷ codes "rttvar" ∷ codes "rto_min"
    ∷ codes "ssthresh" ∷ codes "cwnd" ∷ codes "initcwnd" ∷ codes "initrwnd" ∷ codes "reordering" ∷ codes "hoplimit" ∷ codes "features"
    ∷ codes "quickack" ∷ codes "congctl" ∷ codes "fastopen_no_cookie" ∷ codes "realm" ∷ codes "realms" ∷ codes "expires"
    ∷ codes "ttl-propagate" ∷ [])
    ++ (codes "tcp_usec_ts", Told reasons.Metric)
    ∷ (codes "nexthop", Out reasons.SeveralNextHops)
    ∷ (codes "nhid", Out reasons.NextHopObject)
    ∷ (codes "encap", Out reasons.Encapsulation)
    ∷ (codes "as", Out reasons.Encapsulation)
    ∷ (codes "tos", Out reasons.TypeOfService)
    ∷ (codes "cache", Out reasons.Cached)
    ∷ []

abbrev pub rule_words : List Known
rule_words =
    (codes "not", Alone)
    ∷ (codes "from", Before Address)
    ∷ (codes "to", Before Address)
    ∷ (codes "fwmark", Before Mark)
    ∷ (codes "iif", Before Same)
    ∷ (codes "lookup", Before Table)
    ∷ (codes "suppress_prefixlength", Before Same)
    ∷ each Alone (codes "blackhole" ∷ codes "unreachable" ∷ codes "prohibit" ∷ [])
    ++ (codes "proto", Before RuleProtocol)
    ∷ (codes "[detached]", State)
    ∷ each (Out reasons.Selector) (codes "tos" ∷ codes "dsfield" ∷ codes "dscp" ∷ codes "flowlabel" ∷ codes "oif" ∷ codes "ipproto"
    ∷ codes "sport" ∷ codes "dport" ∷ codes "tun_id" ∷ codes "uidrange" ∷ codes "l3mdev" ∷ codes "realms" ∷ codes "suppress_ifgroup" ∷ [])
    ++ each (Out reasons.Action) (codes "goto" ∷ codes "nop" ∷ codes "throw" ∷ codes "nat" ∷ codes "map-to" ∷ codes "masquerade" ∷ codes "[unresolved]" ∷ [])

abbrev pub meaning_in : List Known → Word → Option Meaning
meaning_in [] w = None
meaning_in (known ∷ others) w = if bytes_eq known.0 w then Some known.1 else meaning_in others w

-- what a word says at the start of an item
abbrev pub meaning_of : Object → Word → Option Meaning
meaning_of Rule w = meaning_in rule_words w
meaning_of Route w = meaning_in route_words w
