-- A rule as `ip -j rule show` shows it: ip-rule(8).
use Rattle.std.specs.Prelude.{ℕ, ◌^◌, ◌-◌, Bool, not, ◌&&◌, ◌||◌, ◌==◌, if◌then◌else◌, List, [], ◌∷◌, Option, Some, None, option_map, codes}
use Rattle.prt_addr.specs.Addr.{addr_text}
use Rattle.prt_addr.specs.Block.{Block}
use Rattle.prt_addr.specs.Word.{keep}
use Rattle.prt_listing.specs.Parts.{hex_text, is_everything, table_text}
use Rattle.prt_rule.specs.declared.rule.Action.{Action}
use Rattle.prt_rule.specs.declared.rule.Action.TheVariants.{Lookup, Blackhole, Unreachable, Prohibit}
use Rattle.prt_rule.specs.declared.rule.Mark.{Mark}
use Rattle.prt_rule.specs.declared.rule.Rule.{Rule}
use Rattle.json.specs.Json.{Json, null}
use Rattle.prt_json.specs.Fields.{Member, dev_field, number_field, object_of, text_field}

-- the field of an inverted rule, without a value
abbrev pub not_field : Bool → Option Member
not_field inverted = if inverted then Some (codes "not", null) else None

-- the address of a prefix
abbrev pub base_text : Block → List ℕ
base_text prefix = addr_text (record { 0 = prefix.bits })

-- the length of a prefix, except for that of one address and of 0.0.0.0/0
abbrev pub shown_len : Block → Option ℕ
shown_len prefix = if is_everything prefix || prefix.len == 32 then None else Some prefix.len

-- the sources; `all` for 0.0.0.0/0
abbrev pub src_field : Block → Option Member
src_field from = text_field (codes "src") (Some (if is_everything from then codes "all" else base_text from))

-- the destinations, except for 0.0.0.0/0
abbrev pub dst_field : Block → Option Member
dst_field to = text_field (codes "dst") (if is_everything to then None else Some (base_text to))

-- `0`, or `0x` and lower-case hexadecimal digits
abbrev pub hexadecimal : ℕ → List ℕ
hexadecimal n = if n == 0 then codes "0" else hex_text n

-- the mark, except for 0/0, which is that of every packet
abbrev pub shown_mark : Option Mark → Option Mark
shown_mark mark = keep (λ m. not (m.mark == 0 && m.mask == 0)) mark

abbrev pub fwmark_field : Option Mark → Option Member
fwmark_field mark = text_field (codes "fwmark") (option_map (λ m. hexadecimal m.mark) (shown_mark mark))

-- the mask, unless every bit counts
abbrev pub fwmask_field : Option Mark → Option Member
fwmask_field mark = text_field (codes "fwmask") (option_map (λ m. hexadecimal m.mask) (keep (λ m. not (m.mask == 2 ^ 32 - 1)) (shown_mark mark)))

-- the word of a failure action
abbrev pub failure : Action → Option (List ℕ)
failure (Lookup table) = None
failure Blackhole = Some (codes "blackhole")
failure Unreachable = Some (codes "unreachable")
failure Prohibit = Some (codes "prohibit")

-- the table that is looked up, or the failure action
abbrev pub action_field : Action → Option Member
action_field (Lookup table) = text_field (codes "table") (Some (table_text table))
action_field action = text_field (codes "action") (failure action)

-- in the order in which they are shown
abbrev pub rule_fields : Rule → List (Option Member)
rule_fields rule =
    number_field (codes "priority") (Some rule.priority)
    ∷ not_field rule.inverted
    ∷ src_field rule.from
    ∷ number_field (codes "srclen") (shown_len rule.from)
    ∷ dst_field rule.to
    ∷ number_field (codes "dstlen") (shown_len rule.to)
    ∷ fwmark_field rule.mark
    ∷ fwmask_field rule.mark
    ∷ dev_field (codes "iif") rule.iif
    ∷ action_field rule.action
    ∷ number_field (codes "suppress_prefixlen") rule.suppress
    ∷ []

abbrev pub rule_json : Rule → Json
rule_json rule = object_of (rule_fields rule)
