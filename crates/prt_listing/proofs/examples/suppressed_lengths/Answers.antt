use Rattle.std.proofs.Common.{refl}
use Rattle.std.specs.Fmt.{digits}
use Rattle.prt_listing.proofs.examples.suppressed_lengths.Goals as goal

pub returns : goal.returns
unfolding digits
returns c = record { default_alone = refl; all = refl }
