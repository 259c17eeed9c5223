use Rattle.std.proofs.Common.{◌≡◌, ◌∙◌, ◌<◌, ◌^◌, Some, None, ap, sym, arith, option_map}
use Rattle.prt_addr.specs.Addr.{address}
use Rattle.prt_refusals.specs.declared.refusal.Refusal.TheVariants.{BadAddress}
use Rattle.prt_args.specs.Places.{ends_of, port}
use Rattle.prt_args.proofs.Places.{ends_are, ends_of_parts, no_address, no_colon, no_port, parts_are, read_is}
use Rattle.prt_args.proofs.serving.place_of.Goals as goal

pub returns-in_err-address : goal.returns-in_err-address
returns-in_err-address c = ap (option_map ends_of) c.from_residual.ensures ∙ no_colon c.args.word.now c.split_once.result c.split_once.ensures.cases c.in_err-address.was

pub returns-in_err-address-2 : goal.returns-in_err-address-2
returns-in_err-address-2 c =
    let parts = parts_are c.args.word.now c.split_once.result c.in_ok-address.address c.in_ok-address.port c.split_once.ensures.cases c.in_ok-address.was in
    let read : None ≡ address c.in_ok-address.address.now = sym c.in_err-address-2.was ∙ read_is address BadAddress c.in_ok-address.address.now c.as_bytes.result.now c.read_addr.result c.ok.result c.as_bytes.ensures.value c.read_addr.ensures c.ok.ensures.value in
    ap (option_map ends_of) c.from_residual-in_err-address-2.ensures ∙ no_address c.args.word.now c.in_ok-address.address.now c.in_ok-address.port.now parts.0 parts.1 read

pub returns-in_err-port : goal.returns-in_err-port
returns-in_err-port c =
    let parts = parts_are c.args.word.now c.split_once.result c.in_ok-address.address c.in_ok-address.port c.split_once.ensures.cases c.in_ok-address.was in
    let read : None ≡ port c.in_ok-address.port.now = c.in_err-port.ensures in
    ap (option_map ends_of) c.from_residual-in_err-port.ensures ∙ no_port c.args.word.now c.in_ok-address.address.now c.in_ok-address.port.now parts.0 parts.1 read

pub returns : goal.returns
returns c =
    let parts = parts_are c.args.word.now c.split_once.result c.in_ok-address.address c.in_ok-address.port c.split_once.ensures.cases c.in_ok-address.was in
    let named : Some c.in_ok-address-2.field-0 ≡ address c.in_ok-address.address.now = sym c.in_ok-address-2.was ∙ read_is address BadAddress c.in_ok-address.address.now c.as_bytes.result.now c.read_addr.result c.ok.result c.as_bytes.ensures.value c.read_addr.ensures c.ok.ensures.value in
    let number : Some c.in_ok-port.port ≡ port c.in_ok-address.port.now = c.in_ok-port.ensures in
    let fits : c.in_ok-address-2.field-0.0 < 2 ^ 32 = omega arith in
    ap Some (ends_are c.in_ok-address-2.field-0.0 c.in_ok-port.port c.from.result c.new.result fits c.from.ensures c.new.ensures.ip c.new.ensures.port)
    ∙ ends_of_parts c.args.word.now c.in_ok-address.address.now c.in_ok-address.port.now (Some c.in_ok-address-2.field-0) (Some c.in_ok-port.port) parts.0 parts.1 named number
