use Rattle.std.proofs.Common.{Option, List, ℕ, subst, sym}
use Rattle.std.specs.Io.KnownBytes.{prepend_known}
use Rattle.prt_serve.proofs.Resuming.{all_gone, gone_then, none_gone, opened_gone}
use Rattle.prt_serve.specs.ScriptHeader.{HasDrained}
use Rattle.prt_serve.specs.Resumed.{resumed_remaining, unread_head}
use Rattle.prt_serve.specs.declared.script_header.Saying.TheVariants.{At}
use Rattle.prt_serve.proofs.script_header.read_header.Goals as goal

pub returns-in-Err-read_header_line-clause-fault : goal.returns-in-Err-read_header_line-clause-fault
returns-in-Err-read_header_line-clause-fault g c =
    let remaining = g.R.Read.remaining in
    let reader0 = remaining c.args.reader in
    let given = resumed_remaining remaining c.new-rest.result in
    let rest = c.read_header_line-2.new.reader in
    let left = resumed_remaining remaining rest in
    let reader = remaining c.into_reader.result in
    let kept = prepend_known c.read_header_line.new.head.items (remaining c.read_header_line.new.reader) in
    let first : HasDrained reader0 given = subst (λ (r : Option (List ℕ)). HasDrained reader0 r) (sym c.new-rest.ensures) (opened_gone At c.in-Ok.number reader0 kept c.in-Ok.ensures.opens) in
    let next : HasDrained given left = (c.read_header_line-2.new.head.items, c.in-Err-read_header_line.ensures.fault.1) in
    let last : HasDrained left reader = all_gone (unread_head rest) reader reader left c.into_reader.ensures (none_gone reader) in
    (c.in-Err-read_header_line.ensures.fault.0, gone_then reader0 left reader (gone_then reader0 given left first next) last)
