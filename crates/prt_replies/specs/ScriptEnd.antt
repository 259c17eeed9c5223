-- What a reply changes of how a session ends.
use Rattle.std.specs.Prelude.{Bool, true, false, ◌||◌, not, Option, Some, if◌then◌else◌}
use Rattle.prt_refusals.specs.declared.refusal.Refusal.{Refusal}
use Rattle.prt_refusals.specs.declared.refusal.Refusal.TheVariants.{StoreFailed, NotPublished, ReadFault, WriteFault}
use Rattle.prt_replies.specs.declared.reply.Reply.{Reply}
use Rattle.prt_replies.specs.declared.reply.Reply.TheVariants.{Refused}

-- a failed commit or publication, or a fault of the reader or the writer
abbrev pub is_fault_refusal : Refusal → Bool
is_fault_refusal (StoreFailed call) = true
is_fault_refusal NotPublished = true
is_fault_refusal ReadFault = true
is_fault_refusal WriteFault = true
is_fault_refusal _ = false

abbrev pub refused_after : Bool → Reply → Bool
refused_after had (Refused reason) = had || not (is_fault_refusal reason)
refused_after had reply = had

abbrev pub fault_after : Option Refusal → Reply → Option Refusal
fault_after last (Refused reason) = if is_fault_refusal reason then Some reason else last
fault_after last reply = last
