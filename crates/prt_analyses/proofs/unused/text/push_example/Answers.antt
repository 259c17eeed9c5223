use Rattle.prt_analyses.proofs.Texts.{pushed_three, then_ok}
use Rattle.prt_analyses.proofs.unused.text.push_example.Goals as goal

pub returns : goal.returns
returns c = then_ok c.push_verdict.result (λ pushed. pushed_three c.args.out.now.items _ _ _ _ _ _ c.in_ok-push_packet.ensures c.in_ok-push_text.ensures.ok pushed) c.push_verdict.ensures
