-- Comments that are left out.
use Rattle.std.proofs.Common.{◌≡◌, ℕ, ◌+◌, ◌<◌, ◌≤◌, ◌^◌, ◌==◌, false, true, not, List, [], ◌∷◌, ◌++◌, Ok, Option, Some, None, ap, arith, codes, filter, get_or, length, length-append, refl, sym, ◌∙◌}
use Rattle.std.specs.Prelude.{decimal, nat_lt}
use Rattle.std.proofs.lemmas.Bool.Decides.{nat_tests}
use Rattle.std.proofs.lemmas.Fmt.{first_decimal, length-decimal-le}
use Rattle.prt_command.specs.Lines.{longest_line}
use Rattle.prt_command.specs.Reading.{reading}
use Rattle.prt_command.specs.declared.request.Command.{Command}
use Rattle.prt_feed.specs.Feed.{change_line, change_lines, feed_text, opening_text}
use Rattle.prt_listing.specs.QueryText.{lines_text}
use Rattle.prt_serve.specs.Feed.{Change, Comment, Piece, commands_in, comment_text, is_comment, told_lines, without_comments}
use Rattle.prt_version.specs.State.{State}

-- a text that begins with a digit is no comment, whatever comes after it
begins_plain : (digits space rest : List ℕ) → 48 < get_or digits 0 0 → is_comment ((digits ++ space) ++ rest) ≡ false
begins_plain [] space rest above = absurd (omega arith)
begins_plain (b ∷ bs) space rest above = grind arith

change_is_plain : (number : ℕ) (command : Command) → number + 1 < 2 ^ 64 → is_comment (change_line (number + 1) command) ≡ false
change_is_plain number command fits = begins_plain (decimal (number + 1)) (codes " ") _ (first_decimal (number + 1) (omega arith) fits)

keeps : (line : List ℕ) (lines : List (List ℕ)) → is_comment line ≡ false → without_comments (line ∷ lines) ≡ line ∷ without_comments lines
keeps line lines plain = simp plain

-- a comment is short, so it is read as nothing
short_comment : (count : ℕ) → count < 2 ^ 64 → length (comment_text (Some count)) ≤ 1024
short_comment count fits =
    let digits : length (decimal count) ≤ 20 = length-decimal-le 20 count (omega arith) (omega arith) fits in
    omega (arith, length-append (codes "# together ") (decimal count), digits)

not_long : (n : ℕ) → n ≤ 1024 → nat_lt longest_line n ≡ false
not_long n h = grind (arith, nat_tests)

pub counts_nothing : (count : ℕ) → count < 2 ^ 64 → reading (comment_text (Some count)) ≡ Ok None
counts_nothing count fits = rw (not_long (length (comment_text (Some count))) (short_comment count fits)) refl

pub no_comments : (number : ℕ) (pieces : List Piece) → number + length pieces < 2 ^ 64 → without_comments (told_lines number pieces) ≡ change_lines number (commands_in pieces)
no_comments number [] fits = refl
no_comments number (Comment None ∷ pieces) fits = no_comments number pieces (omega arith)
no_comments number (Comment (Some count) ∷ pieces) fits = no_comments number pieces (omega arith)
no_comments number (Change command ∷ pieces) fits =
    keeps (change_line (number + 1) command) (told_lines (number + 1) pieces) (change_is_plain number command (omega arith))
    ∙ ap (λ (lines : List (List ℕ)). change_line (number + 1) command ∷ lines) (no_comments (number + 1) pieces (omega arith))

pub same_feed : (state : State) (pieces : List Piece) → state.count + length pieces < 2 ^ 64 → opening_text state ++ lines_text (without_comments (told_lines state.count pieces)) ≡ feed_text state (commands_in pieces)
same_feed state pieces fits = ap (λ (lines : List (List ℕ)). opening_text state ++ lines_text lines) (no_comments state.count pieces fits)
