use Rattle.std.proofs.Common.{◌∙◌, ap, sym, option_map}
use Rattle.prt_addr.specs.Steps.{block_from}
use Rattle.prt_addr.proofs.Blocks.{bad_length, both}
use Rattle.prt_addr.proofs.prefix.read_block.Goals as goal

pub returns-in_err-len-in-Some-clause-value : goal.returns-in_err-len-in-Some-clause-value
returns-in_err-len-in-Some-clause-value c =
    let after = ap (option_map (λ rest. rest.now)) c.in-Some.is in
    ap (option_map block_from) c.from_residual-in_err-len-in-Some.ensures
    ∙ sym (bad_length c.args.word.now c.split_first_part.result.0.now c.in-Some.len.now _ (sym c.if-is_everything.ensures) c.split_first_part.ensures after (sym c.in_err-len-in-Some.ensures))

pub returns-in_ok-len-in-Some-clause-value : goal.returns-in_ok-len-in-Some-clause-value
returns-in_ok-len-in-Some-clause-value c =
    let after = ap (option_map (λ rest. rest.now)) c.in-Some.is in
    sym (both c.args.word.now c.split_first_part.result.0.now c.in-Some.len.now _ c.in_ok-addr.addr c.in_ok-len-in-Some.len (sym c.if-is_everything.ensures) c.split_first_part.ensures after (sym c.in_ok-addr.ensures) (sym c.in_ok-len-in-Some.ensures))
