use Rattle.std.proofs.Common.{refl}
use Rattle.prt_session.specs.declared.input.ByteRead.TheVariants as bytes
use Rattle.prt_session.proofs.session.end_after_last.Goals as goal
use Rattle.prt_session.proofs.session.end_after_last.Goals.{in-Byte, in-Fault}

pub returns-in-End : goal.returns-in-End
returns-in-End g c = record { byte = bytes.End; read = c.in-End.ensures; ends = (refl, refl) }

pub returns : goal.returns
returns g c = elim c.match-next_byte.branch [
  | in-Byte w ↦ record { byte = bytes.Byte w.in-Byte.field-0; read = w.in-Byte.ensures; ends = rw w.refusal-is at c.write_last.ensures }
  | in-Fault w ↦ record { byte = bytes.Fault; read = w.in-Fault.ensures; ends = rw w.refusal-is at c.write_last.ensures }
]
