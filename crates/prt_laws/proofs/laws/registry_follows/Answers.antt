use Rattle.prt_laws.proofs.Through.{every_event_registers, room_is_room}
use Rattle.prt_laws.proofs.laws.registry_follows.Goals as goal

pub returns : goal.returns
returns c = record { room = room_is_room; events = every_event_registers }
