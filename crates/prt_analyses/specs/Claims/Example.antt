-- Claims for examples.
use Rattle.std.specs.Prelude.{ℕ, ◌+◌, ◌*◌, ◌^◌, false, true, List, Option, Some, None, Result, Ok, Err}
use Rattle.prt_addr.specs.Block.{Block}
use Rattle.prt_refusals.specs.declared.refusal.Refusal.{Refusal}
use Rattle.prt_analyses.specs.Claims.Reading.{Stated}
use Rattle.prt_analyses.specs.declared.claims.claim.Expected.{Expected}
use Rattle.prt_analyses.specs.declared.claims.reading.BadClaim.{BadClaim}
use Rattle.prt_analyses.specs.declared.claims.reading.ClaimFault.TheVariants.{NoOutcome, Refused}
use Rattle.prt_analyses.specs.declared.claims.selector.PacketSelector.{PacketSelector}

-- an address by its four parts
abbrev pub address : ℕ → ℕ → ℕ → ℕ → ℕ
address a b c d = a * 2 ^ 24 + b * 2 ^ 16 + c * 2 ^ 8 + d

abbrev pub prefix : ℕ → ℕ → Option Block
prefix bits len = Some (record { bits = bits; len = len })

-- every packet
abbrev pub every : PacketSelector
every = record { to = None; from = None; iif = None; mark = None; not_mark = None }

-- the packets of the selector have one of the outcomes
abbrev pub claims : PacketSelector → List Expected → Result (Option Stated) BadClaim
claims selector outcomes = Ok (Some (record { selector = selector; is_negated = false; outcomes = outcomes }))

-- they have none of them
abbrev pub denies : PacketSelector → List Expected → Result (Option Stated) BadClaim
denies selector outcomes = Ok (Some (record { selector = selector; is_negated = true; outcomes = outcomes }))

-- the word of this number is refused
abbrev pub refuses : ℕ → Refusal → Result (Option Stated) BadClaim
refuses n refusal = Err (record { word = n; fault = Refused refusal })

-- the colon or an outcome is missing, at the word of this number
abbrev pub ends_early : ℕ → Result (Option Stated) BadClaim
ends_early n = Err (record { word = n; fault = NoOutcome })
