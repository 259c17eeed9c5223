use Rattle.std.proofs.Common.{◌≡◌, ◌++◌, take}
use Rattle.prt_json.specs.Steps.{fields_tokens, members_of}
use Rattle.prt_json.proofs.push.push_fields.Given as goal

abbrev pub invariant-loop-field : goal.invariant-loop-field
invariant-loop-field l = record { tokens : l.out.tokens ≡ l.fn.out.tokens ++ fields_tokens (members_of (take l.field-index l.fields)); before : l.out.before ≡ l.fn.out.before }
