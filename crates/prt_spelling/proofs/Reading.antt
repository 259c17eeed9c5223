-- What a line asks for, by its words.
use Rattle.std.proofs.Common.{◌≡◌, ℕ, ◌+◌, ◌≤◌, true, false, not, List, [], ◌∷◌, Option, Some, Result, Ok, sym, ap, ◌∙◌, arith, length, nat_lt}
use Rattle.std.specs.List.{filter_map, list_all}
use Rattle.std.proofs.lemmas.List.{append-nil}
use Rattle.std.proofs.lemmas.Bool.Decides.{nat_tests}
use Rattle.prt_addr.specs.Word.{Word}
use Rattle.prt_refusals.specs.declared.refusal.Refusal.{Refusal}
use Rattle.prt_refusals.specs.declared.refusal.Refusal.TheVariants.{LineTooLong, NotAscii}
use Rattle.prt_command.specs.Items.{no_items}
use Rattle.prt_command.specs.LineKinds.{LineKind}
use Rattle.prt_command.specs.Lines.{longest_line}
use Rattle.prt_command.specs.Reading.{before_comment, is_text_byte, line_words, reading, words, words_request}
use Rattle.prt_command.specs.Requests.{Asks, refuse_if}
use Rattle.prt_command.specs.Scan.{items_of}
use Rattle.prt_command.specs.Then.{◌>>=◌}
use Rattle.prt_command.proofs.Splitting.{plain_line, plain_text}
use Rattle.prt_command.specs.declared.item.Items.{Items}
use Rattle.prt_command.specs.declared.request.Command.{Command}
use Rattle.prt_command.specs.declared.request.Request.{Request}
use Rattle.prt_command.specs.declared.request.Request.TheVariants as requests
use Rattle.prt_listing.specs.Parts.{spaced}
use Rattle.prt_spelling.proofs.Texts.{IsText, Reads, is_line_byte, joined}

not_long : (n l : ℕ) → l ≤ n → n ≤ 1024 → nat_lt longest_line l ≡ false
not_long n l short fits = grind (arith, nat_tests)

words_of : (n : ℕ) (line : List ℕ) (ws : List Word) → IsText n line ws → n ≤ 1024 → line_words line ≡ Ok ws
words_of n line ws is fits =
    ap (λ b. refuse_if b LineTooLong >>= λ _. refuse_if (not (list_all is_text_byte (before_comment line))) NotAscii >>= λ _. Ok (words (before_comment line))) (not_long n (length line) is.short fits)
    ∙ ap (λ text. refuse_if (not (list_all is_text_byte text)) NotAscii >>= λ _. Ok (words text)) (plain_line line is.plain)
    ∙ ap (λ b. refuse_if (not b) NotAscii >>= λ _. Ok (words line)) (plain_text line is.plain)
    ∙ ap (λ ws. Ok ws) is.words

-- a line is read as its words are
pub read_by_words : (n : ℕ) (line : List ℕ) (ws : List Word) → IsText n line ws → n ≤ 1024 → reading line ≡ words_request ws
read_by_words n line ws is fits = ap (λ r. r >>= words_request) (words_of n line ws is fits)

-- what a line with an object asks for
abbrev pub one_request : Request → Result (Option Request) Refusal
one_request request = Ok (Some request)

-- A line of an input that asks for this command.
pub record IsReadAs (line : List ℕ) (command : Command) : Type 0 where
  pub plain : list_all is_line_byte line ≡ true
  pub short : length line ≤ 1024
  pub reads : reading line ≡ Ok (Some (requests.Command command))

-- a line of an object, its verb and parts that are read as items, which ask for the command
pub read_by_parts : (front : List ℕ) (object verb : Word) (line : LineKind) (asks : Asks) (m n : ℕ) (items : Items) (parts : List (Option (List ℕ))) (command : Command) → IsText m front (object ∷ verb ∷ []) → ((ws : List Word) → words_request (object ∷ verb ∷ ws) ≡ (items_of line no_items ws >>= asks) >>= one_request) → Reads line n no_items items parts → m + (1 + n) ≤ 1024 → asks items ≡ Ok (requests.Command command) → IsReadAs (spaced (Some front ∷ parts)) command
read_by_parts front object verb line asks m n items parts command is begins reads fits asked =
    let text : IsText (m + (1 + n)) (spaced (Some front ∷ parts)) (object ∷ verb ∷ reads.ws) = joined m n front (filter_map (λ text. text) parts) (object ∷ verb ∷ []) reads.ws is reads.text in
    let read : items_of line no_items reads.ws ≡ Ok items = ap (items_of line no_items) (sym (append-nil reads.ws)) ∙ reads.goes [] in
    record {
      plain = text.plain;
      short = omega (arith, text.short, fits);
      reads =
          read_by_words (m + (1 + n)) (spaced (Some front ∷ parts)) (object ∷ verb ∷ reads.ws) text fits
          ∙ begins reads.ws
          ∙ ap (λ r. (r >>= asks) >>= one_request) read
          ∙ ap (λ r. r >>= one_request) asked;
    }
