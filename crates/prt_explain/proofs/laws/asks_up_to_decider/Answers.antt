use Rattle.prt_explain.proofs.AskedRules.{asked}
use Rattle.prt_explain.proofs.laws.asks_up_to_decider.Goals as goal

pub returns : goal.returns
returns c = λ state packet sound. asked state.routes packet state.rules sound.rules_rise
