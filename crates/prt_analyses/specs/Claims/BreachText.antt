-- A packet that breaks a claim, as a text.
use Rattle.std.specs.Prelude.{ℕ, List, ◌++◌, codes}
use Rattle.prt_addr.specs.Addr.{addr_text}
use Rattle.prt_listing.specs.AnswerText.{verdict_parts}
use Rattle.prt_listing.specs.Parts.{hex_text, spaced}
use Rattle.prt_rule.specs.declared.packet.Packet.{Packet}
use Rattle.prt_version.specs.Select.{select}
use Rattle.prt_version.specs.State.{State}
use Rattle.prt_version.specs.declared.answer.Verdict.{Verdict}

-- to ADDR from ADDR iif NAME mark NUMBER
abbrev pub packet_text : Packet → List ℕ
packet_text packet =
    codes "to " ++ addr_text packet.dst
    ++ codes " from " ++ addr_text packet.src
    ++ codes " iif " ++ packet.iif
    ++ codes " mark " ++ hex_text packet.mark

-- rule P table TABLE ROUTE, rule P ACTION, or none: an answer without its number
abbrev pub verdict_text : Verdict → List ℕ
verdict_text verdict = spaced (verdict_parts verdict)

-- the packet, and what becomes of it
abbrev pub breach_text : State → Packet → List ℕ
breach_text state packet = packet_text packet ++ codes ": " ++ verdict_text (select state packet)
