-- The comments of a script, which say what was left out of it.
use Rattle.std.specs.Prelude.{ℕ, Bool, true, ◌&&◌, ◌==◌, nat_lt, if◌then◌else◌, List, [], ◌++◌, Option, Some, None, Result, Ok, Err, drop, filter}
use Rattle.std.specs.Prelude.{flat_map, map, take, bytes_eq, codes, decimal, count_by}
use Rattle.prt_addr.specs.Block.{Block}
use Rattle.prt_addr.specs.Prefix.{contains, prefix}
use Rattle.prt_addr.specs.Word.{Word}
use Rattle.prt_addr.specs.declared.addr.Addr.{Addr}
use Rattle.prt_command.specs.Reading.{words}
use Rattle.prt_listing.specs.QueryText.{lines_text}
use Rattle.prt_refusals.specs.Refusal.{name_of}
use Rattle.prt_refusals.specs.declared.refusal.Refusal.{Refusal}
use Rattle.prt_import.specs.Keys.{destination_of}
use Rattle.prt_import.specs.Lines.{lines_of}
use Rattle.prt_import.specs.Told.{Remark, is_kernel_made}
use Rattle.prt_import.specs.declared.omitted_line.OmittedLine.{OmittedLine}
use Rattle.prt_import.specs.declared.reason.Reason.{Reason}
use Rattle.prt_import.specs.declared.reason.Reason.TheVariants as reasons

abbrev pub reason_words : Reason → List ℕ
reason_words reasons.Kernel = codes "the kernel makes it itself"
reason_words reasons.Type = codes "no such type of routes"
reason_words reasons.SeveralNextHops = codes "several next hops"
reason_words reasons.NextHopObject = codes "a next hop object"
reason_words reasons.Encapsulation = codes "encapsulation"
reason_words reasons.TypeOfService = codes "a type of service"
reason_words reasons.Cached = codes "a cached route"
reason_words reasons.Selector = codes "no such selector of rules"
reason_words reasons.Action = codes "no such action of rules"
reason_words reasons.Family = codes "another family of addresses"
reason_words reasons.UnknownTable = codes "unknown name of a table"
reason_words reasons.UnknownProtocol = codes "unknown name of a protocol"
reason_words reasons.UnknownWord = codes "unknown word"
reason_words reasons.Comment = codes "'#' would begin a comment"
reason_words reasons.Json = codes "JSON is not read"
reason_words (reasons.Refused refusal) = name_of refusal
reason_words reasons.OnLink = codes "a gateway that need not be on the link"
reason_words reasons.Dead = codes "the kernel passes over it"
reason_words reasons.LinkDown = codes "kept without it"
reason_words reasons.RuleProtocol = codes "kept without it"
reason_words reasons.Metric = codes "kept without it"

-- a space for a tab, and `?` for what can't be printed: it could be a command to the terminal
abbrev pub shown_byte : ℕ → ℕ
shown_byte b = if b == 9 then 32 else (if nat_lt 31 b && nat_lt b 127 then b else 63)

abbrev pub spaced_words : List Word → List ℕ
spaced_words ws = flat_map (λ w. codes " " ++ w) ws

abbrev pub comment_start : List ℕ
comment_start = codes "# left out:"

-- a comment that says this, as far as the lines of a script have room for it
abbrev pub comment : List ℕ → List ℕ
comment body = comment_start ++ map shown_byte (take 1000 body)

-- the words of the line, and why it is left out
abbrev pub remark_body : Remark → List ℕ
remark_body remark = take 900 (spaced_words (words remark.text)) ++ codes ": " ++ reason_words remark.reason

-- routes that the kernel makes itself are counted, and have no line each
abbrev pub remark_comment : Remark → List ℕ
remark_comment remark = if is_kernel_made remark.reason then [] else comment (remark_body remark) ++ codes "\n"

abbrev pub kernel_routes : List OmittedLine → ℕ
kernel_routes left = count_by (λ line. is_kernel_made line.reason) left

abbrev pub count_body : ℕ → List ℕ
count_body n = codes " routes that the kernel makes itself: " ++ decimal n

abbrev pub count_comment : ℕ → List ℕ
count_comment n = if n == 0 then [] else comment (count_body n) ++ codes "\n"

abbrev pub comments : List Remark → List ℕ
comments remarks = flat_map remark_comment remarks ++ count_comment (count_by (λ r. is_kernel_made r.reason) remarks)

-- ---- the comments of a script, found again

abbrev pub is_left_out : List ℕ → Bool
is_left_out line = bytes_eq (take 11 line) comment_start

-- a prefix that has the address, or a word that is no prefix
abbrev pub may_have : Addr → Result Block Refusal → Bool
may_have addr (Ok block) = contains block addr
may_have addr (Err refusal) = true

abbrev pub may_be_for : Addr → Option Word → Bool
may_be_for addr None = true
may_be_for addr (Some w) = may_have addr (prefix w)

-- such a comment, and unless it is of a route for other destinations than this
abbrev pub concerns : Option Addr → List ℕ → Bool
concerns None line = is_left_out line
concerns (Some addr) line = is_left_out line && may_be_for addr (destination_of (words (drop 11 line)))

abbrev pub left_out : Option Addr → List ℕ → List ℕ
left_out destination text = lines_text (filter (concerns destination) (lines_of text))
