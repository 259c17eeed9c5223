use Rattle.std.proofs.Common.{◌∙◌, ap, drop}
use Rattle.std.proofs.lemmas.List.{drop_min, take_rest}
use Rattle.prt_import.proofs.comments.after_start.Goals as goal

pub returns : goal.returns
returns c = take_rest c.args.line.now c.min.result ∙ ap (λ n. drop n c.args.line.now) c.min.ensures ∙ drop_min 11 c.args.line.now
