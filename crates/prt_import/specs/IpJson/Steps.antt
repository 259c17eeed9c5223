-- What the parts of the program do.
use Rattle.std.specs.Prelude.{◌≡◌, ℕ, List, [], ◌++◌, Option, Some, option_map, if◌then◌else◌}
use Rattle.json.specs.Token.{Token}
use Rattle.json.specs.declared.error.Error.{Error}
use Rattle.json.specs.declared.error.Error.TheVariants as errors
use Rattle.prt_import.specs.IpJson.Documents.{document_of, is_blank}
use Rattle.prt_import.specs.IpJson.Listing.{document_lines}
use Rattle.prt_import.specs.declared.ip_json.fault.ListingError.{ListingError}
use Rattle.prt_import.specs.declared.ip_json.fault.ListingError.TheVariants.{NoJson, NoMemory}

-- something was read before these tokens, and its text was appended
abbrev pub Appends : {A : Type 0} → Option (A × List Token) → List Token → (A → List ℕ) → List ℕ → List ℕ → Type 0
Appends {A} read rest text old new = (x : A) × (read ≡ Some (x, rest)) × (new ≡ old ++ text x)

-- a text, if there is one, after what came before
abbrev pub appended : List ℕ → Option (List ℕ) → Option (List ℕ)
appended old text = option_map (λ t. old ++ t) text

-- the lines of a part, if it is a document or white space
abbrev pub part_lines : List ℕ → Option (List ℕ)
part_lines part = if is_blank part then Some [] else option_map document_lines (document_of part)

-- why no value was read
abbrev pub reason : Error → ListingError
reason errors.OutOfMemory = NoMemory
reason errors.Invalid = NoJson
reason errors.TooLong = NoJson
reason errors.DuplicateKey = NoJson
