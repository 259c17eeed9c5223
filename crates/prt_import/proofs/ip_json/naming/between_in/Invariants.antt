use Rattle.std.proofs.Common.{◌≡◌, drop, map}
use Rattle.prt_import.specs.IpJson.Words.{between_in, joint}
use Rattle.prt_import.proofs.ip_json.naming.between_in.Given as goal

abbrev pub invariant-loop-known : goal.invariant-loop-known
invariant-loop-known l = between_in (map (λ j. joint j.0.now j.1.now j.2.now) l.fn.joints) l.fn.first l.fn.second ≡ between_in (map (λ j. joint j.0.now j.1.now j.2.now) (drop l.known-index l.joints)) l.fn.first l.fn.second
