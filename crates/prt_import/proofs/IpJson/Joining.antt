-- The lines of a part.
use Rattle.std.proofs.Common.{◌≡◌, ℕ, Bool, true, false, List, [], Some, None, option_map, refl, sym, ap, ◌∙◌}
use Rattle.std.proofs.lemmas.Str.{IsUtf8-from_is_utf8, is_utf8-from_IsUtf8}
use Rattle.std.specs.Str.{IsUtf8, is_utf8}
use Rattle.std.specs.Prelude.{if◌then◌else◌}
use Rattle.json.specs.Json.{document}
use Rattle.prt_import.specs.IpJson.Documents.{document_of, is_blank}
use Rattle.prt_import.specs.IpJson.Listing.{document_lines}
use Rattle.prt_import.specs.IpJson.Steps.{part_lines}

no_utf8 : (b : Bool) → (b ≡ true → ⊥) → b ≡ false
no_utf8 true bad = absurd (bad refl)
no_utf8 false bad = refl

pub part_document : (part text : List ℕ) → is_blank part ≡ false → IsUtf8 part → text ≡ part → part_lines part ≡ option_map document_lines (document text)
part_document part text inked utf8 is =
    ap (λ b. if b then Some [] else option_map document_lines (document_of part)) inked
    ∙ ap (λ b. option_map document_lines (if b then document part else None)) (is_utf8-from_IsUtf8 part utf8)
    ∙ ap (λ t. option_map document_lines (document t)) (sym is)

pub part_no_text : (part : List ℕ) → is_blank part ≡ false → (IsUtf8 part → ⊥) → part_lines part ≡ None
part_no_text part inked bad =
    ap (λ b. if b then Some [] else option_map document_lines (document_of part)) inked
    ∙ ap (λ b. option_map document_lines (if b then document part else None)) (no_utf8 (is_utf8 part) (λ good. bad (IsUtf8-from_is_utf8 part good)))
