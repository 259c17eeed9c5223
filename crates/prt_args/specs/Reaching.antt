-- How far the words of `diff` and `follow` reach: tables, protocols and priorities of the kernel's rules and routes.
use Rattle.std.specs.Prelude.{◌≡◌, ◌≤◌, ◌==◌, ◌&&◌, ℕ, nat_le, All, Bool, Option, if◌then◌else◌, length, map, option_and_then, option_map, unwrap_or}
use Rattle.std.specs.Prelude.{List, [], Some, codes, false, true}
use Rattle.std.specs.List.{before_first, after_first, list_any}
use Rattle.clap.specs.Matches.{found_of, matched_of, one_text, raw_values}
use Rattle.clap.specs.declared.parser.matches.ArgMatches.{ArgMatches}
use Rattle.prt_addr.specs.Number.{number}
use Rattle.prt_addr.specs.Word.{Word, all_of, keep}
use Rattle.prt_route.specs.Names.{protocol, table}
use Rattle.prt_args.specs.declared.asking.Asked.{Asked}
use Rattle.prt_args.specs.declared.asking.Asked.TheVariants.{Apply, Assert, Diff, Follow, Impact, Import, Status, Tables, Unused, Wait}
use Rattle.prt_args.specs.declared.reach.Ends.{Ends}
use Rattle.prt_args.specs.declared.reach.Ends.TheVariants as ends
use Rattle.prt_args.specs.declared.reach.NumberSpan.{NumberSpan}
use Rattle.prt_args.specs.declared.reach.Reach.{Reach}

-- `-` (45)
abbrev pub is_hyphen : ℕ → Bool
is_hyphen byte = byte == 45

-- what comes after the first hyphen, or the whole word if there is none
abbrev pub last_end : Word → Word
last_end word = if list_any is_hyphen word then after_first is_hyphen word else word

-- an end of a span of tables, or of priorities
abbrev pub end_of : Ends → Word → Option ℕ
end_of ends.Tables word = table word
end_of ends.Priorities word = number word

-- `N-N` is a span from the first to the last one, and `N` is that one alone
abbrev pub span_of : Ends → Word → Option NumberSpan
span_of of word = option_and_then
    (λ first. option_map (λ last. record { first = first; last = last }) (keep (λ last. nat_le first last) (end_of of (last_end word))))
    (end_of of (before_first is_hyphen word))

-- all values that the words of a question have for an option
abbrev pub values_of : ArgMatches → Word → List Word
values_of matches name = unwrap_or (option_map raw_values (matched_of (found_of matches) name)) []

-- it names what these words name, each in its order, and reaches to all if `--all` is given
abbrev pub IsReachBy : ArgMatches → Reach → Type 0
IsReachBy matches reach =
    (Some reach.tables.items ≡ all_of (map (span_of ends.Tables) (values_of matches (codes "table"))))
    × (Some reach.protocols.items ≡ all_of (map protocol (values_of matches (codes "proto"))))
    × (Some reach.priorities.items ≡ all_of (map (span_of ends.Priorities) (values_of matches (codes "priority"))))
    × (one_text (found_of matches) (codes "all") ≡ Some (codes "true") → reach.all ≡ true)
    × (one_text (found_of matches) (codes "all") ≡ Some (codes "false") → reach.all ≡ false)

-- a span ends no sooner than it begins
abbrev pub IsSpan : NumberSpan → Type 0
IsSpan span = span.first ≤ span.last

-- no table, no protocol and no priority is named
abbrev pub names_nothing : Reach → Bool
names_nothing reach = (length reach.tables.items == 0) && (length reach.protocols.items == 0) && (length reach.priorities.items == 0)

-- either all of it or what is named, and each span ends no sooner than it begins
abbrev pub IsReach : Reach → Type 0
IsReach reach = (reach.all ≡ names_nothing reach) × All IsSpan reach.tables.items × All IsSpan reach.priorities.items

-- what may be changed is a reach, and a server is waited for at most 1,000,000 seconds
abbrev pub IsAsked : Asked → Type 0
IsAsked (Tables asking) = Unit {0}
IsAsked (Diff diffing) = IsReach diffing.reach
IsAsked (Follow following) = IsReach following.reach
IsAsked (Wait waiting) = waiting.seconds ≤ 1000000
IsAsked (Import importing) = Unit {0}
IsAsked (Impact rehearsing) = Unit {0}
IsAsked (Assert asserting) = Unit {0}
IsAsked (Unused source) = Unit {0}
IsAsked (Apply applying) = Unit {0}
IsAsked (Status inspecting) = Unit {0}
