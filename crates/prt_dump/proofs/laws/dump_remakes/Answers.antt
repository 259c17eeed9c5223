use Rattle.std.proofs.Common.{subst, sym}
use Rattle.prt_dump.specs.PutBack.{IsSameButForIds}
use Rattle.prt_dump.proofs.Remade.{dump_remade, remade_same}
use Rattle.prt_dump.proofs.laws.dump_remakes.Goals as goal

pub returns : goal.returns
returns c = record {
  accepted = λ state sound. (dump_remade state sound).accepted;
  same = λ state sound. subst (λ made. IsSameButForIds made state) (sym (dump_remade state sound).makes) (remade_same state);
}
