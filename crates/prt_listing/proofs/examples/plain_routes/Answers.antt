use Rattle.std.proofs.Common.{refl}
use Rattle.std.specs.Fmt.{digits}
use Rattle.prt_listing.proofs.examples.plain_routes.Goals as goal

pub returns : goal.returns
unfolding digits
returns c = record { of_main = refl; of_default = refl; without_table = refl; with_numbers = refl; of_address_0 = refl }
