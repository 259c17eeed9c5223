-- What a feed has written.
use Rattle.std.proofs.Common.{◌≡◌, ℕ, ◌+◌, Bool, true, false, inl, inr, List, [], ◌∷◌, ◌++◌, Option, Some, None, ap, append_assoc, arith, length, length-append, refl, subst, sym, ◌∙◌}
use Rattle.std.proofs.KnownBytes.{Appends-nil, Appends-trans}
use Rattle.std.proofs.lemmas.List.{append-nil}
use Rattle.std.specs.Io.KnownBytes.{Appends}
use Rattle.std.specs.Prelude.{codes}
use Rattle.prt_command.specs.declared.request.Command.{Command}
use Rattle.prt_published.specs.Line.{Line, grown, grown_by, line_state}
use Rattle.prt_listing.specs.QueryText.{lines_text}
use Rattle.prt_feed.specs.Feed.{change_line, opening_text}
use Rattle.prt_serve.specs.Feed.{Change, Comment, Feeds, Piece, Remarks, Tells, commands_in, comment_text, told_lines}
use Rattle.prt_serve.specs.Requests.{number_of}
use Rattle.prt_replies.specs.Written.{Written}
use Rattle.prt_version.specs.State.{State}

-- ---- texts, one after another

-- nothing of a text was written
pub wrote_nothing : (a : Option (List ℕ)) (text : List ℕ) → Written false a a text
wrote_nothing a text = ([], text, refl, Appends-nil a)

-- a text after one that was written
pub wrote_then : (whole : Bool) (a b c : Option (List ℕ)) (xs ys : List ℕ) → Written true a b xs → Written whole b c ys → Written whole a c (xs ++ ys)
wrote_then true a b c xs ys p q = Appends-trans a b c xs ys p q
wrote_then false a b c xs ys p q = (xs ++ q.0, q.1, ap (λ (t : List ℕ). xs ++ t) q.2 ∙ sym (append_assoc xs q.0 q.1), Appends-trans a b c xs q.0 p q.3)

-- a text was not written whole, and nothing after it
pub wrote_before : (a b : Option (List ℕ)) (xs ys : List ℕ) → Written false a b xs → Written false a b (xs ++ ys)
wrote_before a b xs ys p = (p.0, p.1 ++ ys, ap (λ (t : List ℕ). t ++ ys) p.2 ∙ append_assoc p.0 p.1 ys, p.3)

-- all of a text was written, and what came after it wasn't
pub wrote_cut : (a b : Option (List ℕ)) (text : List ℕ) → Written true a b text → Written false a b text
wrote_cut a b text p = (text, [], sym (append-nil text), p)

-- ---- lines of changes and comments

lines_more : (lines : List (List ℕ)) (line : List ℕ) → lines_text (lines ++ line ∷ []) ≡ lines_text lines ++ (line ++ codes "\n")
lines_more [] line = append-nil (line ++ codes "\n")
lines_more (first ∷ lines) line =
    ap (λ (xs : List ℕ). (first ++ codes "\n") ++ xs) (lines_more lines line)
    ∙ sym (append_assoc (first ++ codes "\n") (lines_text lines) (line ++ codes "\n"))

told_more : (number : ℕ) (pieces : List Piece) (command : Command) (last : ℕ) → last ≡ number + length (commands_in pieces) + 1 → told_lines number (pieces ++ Change command ∷ []) ≡ told_lines number pieces ++ change_line last command ∷ []
told_more number [] command last is = ap (λ (n : ℕ). change_line n command ∷ []) (sym (is ∙ omega arith))
told_more number (Comment comment ∷ rest) command last is = ap (λ (lines : List (List ℕ)). comment_text comment ∷ lines) (told_more number rest command last is)
told_more number (Change first ∷ rest) command last is = ap (λ (lines : List (List ℕ)). change_line (number + 1) first ∷ lines) (told_more (number + 1) rest command last (is ∙ omega arith))

told_remark : (number : ℕ) (pieces : List Piece) (remark : Option ℕ) → told_lines number (pieces ++ Comment remark ∷ []) ≡ told_lines number pieces ++ comment_text remark ∷ []
told_remark number [] remark = refl
told_remark number (Comment comment ∷ rest) remark = ap (λ (lines : List (List ℕ)). comment_text comment ∷ lines) (told_remark number rest remark)
told_remark number (Change first ∷ rest) remark = ap (λ (lines : List (List ℕ)). change_line (number + 1) first ∷ lines) (told_remark (number + 1) rest remark)

commands_more : (pieces : List Piece) (command : Command) → commands_in (pieces ++ Change command ∷ []) ≡ commands_in pieces ++ command ∷ []
commands_more [] command = refl
commands_more (Comment comment ∷ rest) command = commands_more rest command
commands_more (Change first ∷ rest) command = ap (λ (l : List Command). first ∷ l) (commands_more rest command)

commands_remark : (pieces : List Piece) (remark : Option ℕ) → commands_in (pieces ++ Comment remark ∷ []) ≡ commands_in pieces
commands_remark [] remark = refl
commands_remark (Comment comment ∷ rest) remark = commands_remark rest remark
commands_remark (Change first ∷ rest) remark = ap (λ (l : List Command). first ∷ l) (commands_remark rest remark)

module _ (known0 known : Line) (command : Command) (pieces : List Piece) (grew : known ≡ grown_by known0 (commands_in pieces)) where
  abbrev more_commands : List Command
  more_commands = commands_in pieces ++ command ∷ []

  grew_so : grown known command ≡ grown_by known0 more_commands
  grew_so = ap (λ (l : Line). grown l command) grew ∙ ap (λ (l : List Command). record known0 { list = l }) (append_assoc known0.list (commands_in pieces) (command ∷ []))

  pub grew_more : grown known command ≡ grown_by known0 (commands_in (pieces ++ Change command ∷ []))
  grew_more = grew_so ∙ ap (λ (l : List Command). grown_by known0 l) (sym (commands_more pieces command))

  pub text_more : lines_text (told_lines (number_of known0) (pieces ++ Change command ∷ [])) ≡ lines_text (told_lines (number_of known0) pieces) ++ (change_line (number_of (grown known command)) command ++ codes "\n")
  text_more =
      let last : ℕ = number_of (grown known command) in
      let number : last ≡ number_of known0 + length (commands_in pieces) + 1 = ap number_of grew_so ∙ omega (arith, length-append known0.list more_commands, length-append (commands_in pieces) (command ∷ [])) in
      ap lines_text (told_more (number_of known0) pieces command last number) ∙ lines_more (told_lines (number_of known0) pieces) (change_line last command)

-- one command more
pub tells_more : (known0 known : Line) (command : Command) (whole : Bool) (a b c : Option (List ℕ)) → Tells known0 known true a b → Written whole b c (change_line (number_of (grown known command)) command ++ codes "\n") → Tells known0 (grown known command) whole a c
tells_more known0 known command whole a b c told wrote = record {
  pieces = told.pieces ++ Change command ∷ [];
  grows = grew_more known0 known command told.pieces told.grows;
  written = subst (λ (t : List ℕ). Written whole a c t) (sym (text_more known0 known command told.pieces told.grows)) (wrote_then whole a b c _ _ told.written wrote);
}

-- a command of which nothing was written, since what comes before it was not written whole
tells_cut : (known0 known : Line) (command : Command) (a b : Option (List ℕ)) → Tells known0 known false a b → Tells known0 (grown known command) false a b
tells_cut known0 known command a b told = record {
  pieces = told.pieces ++ Change command ∷ [];
  grows = grew_more known0 known command told.pieces told.grows;
  written = subst (λ (t : List ℕ). Written false a b t) (sym (text_more known0 known command told.pieces told.grows)) (wrote_before a b _ _ told.written);
}

-- the same, as it comes
pub tells_next : (known0 known next : Line) (command : Command) (number : ℕ) (v whole : Bool) (a b c : Option (List ℕ)) → next ≡ grown known command → number ≡ number_of next → v ≡ whole → Tells known0 known true a b → Written v b c (change_line number command ++ codes "\n") → Tells known0 next whole a c
tells_next known0 known next command number v whole a b c is counted went told wrote =
    let wrote' : Written whole b c (change_line number command ++ codes "\n") = subst (λ (u : Bool). Written u b c (change_line number command ++ codes "\n")) went wrote in
    let line : Written whole b c (change_line (number_of (grown known command)) command ++ codes "\n") = subst (λ (n : ℕ). Written whole b c (change_line n command ++ codes "\n")) (counted ∙ ap number_of is) wrote' in
    subst (λ (line : Line). Tells known0 line whole a c) (sym is) (tells_more known0 known command whole a b c told line)

-- nothing more
tells_pause : (known0 known : Line) (whole : Bool) (a b c : Option (List ℕ)) → Tells known0 known true a b → Written whole b c [] → Tells known0 known whole a c
tells_pause known0 known whole a b c told wrote = record {
  pieces = told.pieces;
  grows = told.grows;
  written = subst (λ (t : List ℕ). Written whole a c t) (append-nil (lines_text (told_lines (number_of known0) told.pieces))) (wrote_then whole a b c _ [] told.written wrote);
}

-- one comment more
tells_comment : (known0 known : Line) (remark : Option ℕ) (whole : Bool) (a b c : Option (List ℕ)) → Tells known0 known true a b → Written whole b c (comment_text remark ++ codes "\n") → Tells known0 known whole a c
tells_comment known0 known remark whole a b c told wrote =
    let pieces : List Piece = told.pieces in
    let text : lines_text (told_lines (number_of known0) (pieces ++ Comment remark ∷ [])) ≡ lines_text (told_lines (number_of known0) pieces) ++ (comment_text remark ++ codes "\n") =
    ap lines_text (told_remark (number_of known0) pieces remark) ∙ lines_more (told_lines (number_of known0) pieces) (comment_text remark) in
    record {
      pieces = pieces ++ Comment remark ∷ [];
      grows = told.grows ∙ ap (λ (l : List Command). grown_by known0 l) (sym (commands_remark pieces remark));
      written = subst (λ (t : List ℕ). Written whole a c t) (sym text) (wrote_then whole a b c _ _ told.written wrote);
    }

tells_remark : (known0 known : Line) (whole : Bool) (a b c : Option (List ℕ)) → Tells known0 known true a b → Remarks whole b c → Tells known0 known whole a c
tells_remark known0 known whole a b c told (inl nothing) = tells_pause known0 known whole a b c told nothing
tells_remark known0 known whole a b c told (inr remark) = tells_comment known0 known remark.0 whole a b c told remark.1

-- the same, as it comes
remark_as : (known0 known : Line) (v whole : Bool) (a b c : Option (List ℕ)) → v ≡ whole → Tells known0 known true a b → Remarks v b c → Tells known0 known whole a c
remark_as known0 known v whole a b c went told remarks = tells_remark known0 known whole a b c told (subst (λ (u : Bool). Remarks u b c) went remarks)

-- what is written while nothing is published
pub tells_quiet : (known0 known next : Line) (v whole : Bool) (a b c : Option (List ℕ)) → next ≡ known → v ≡ whole → Tells known0 known true a b → Remarks v b c → Tells known0 next whole a c
tells_quiet known0 known next v whole a b c same went told remarks = subst (λ (line : Line). Tells known0 line whole a c) (sym same) (remark_as known0 known v whole a b c went told remarks)

-- a comment before a command, of which not all was written
pub tells_mark_cut : (known0 known next : Line) (command : Command) (v : Bool) (a b c : Option (List ℕ)) → next ≡ grown known command → v ≡ false → Tells known0 known true a b → Remarks v b c → Tells known0 next false a c
tells_mark_cut known0 known next command v a b c is went told remarks = subst (λ (line : Line). Tells known0 line false a c) (sym is) (tells_cut known0 known command a c (remark_as known0 known v false a b c went told remarks))

-- a comment, and the command after it
pub tells_marked : (known0 known next : Line) (command : Command) (number : ℕ) (v w whole : Bool) (a b c d : Option (List ℕ)) → next ≡ grown known command → number ≡ number_of next → v ≡ true → w ≡ whole → Tells known0 known true a b → Remarks v b c → Written w c d (change_line number command ++ codes "\n") → Tells known0 next whole a d
tells_marked known0 known next command number v w whole a b c d is counted marked went told remarks wrote =
    tells_next known0 known next command number w whole a c d is counted went (remark_as known0 known v true a b c marked told remarks) wrote

-- no command yet
none_more : (known : Line) → known ≡ grown_by known []
none_more known = ap (λ (l : List Command). record known { list = l }) (sym (append-nil known.list))

pub tells_none : (known : Line) (a : Option (List ℕ)) → Tells known known true a a
tells_none known a = record { pieces = []; grows = none_more known; written = Appends-nil a }

-- ---- a feed

pub feeds_whole : (opening known : Line) (state : State) (v whole : Bool) (a b c : Option (List ℕ)) → v ≡ true → state ≡ line_state opening → (line_state opening).count ≡ number_of opening → Written v a b (opening_text state) → Tells opening known whole b c → Feeds opening known whole a c
feeds_whole opening known state v whole a b c went is numbered wrote0 told = let wrote : Written true a b (opening_text (line_state opening)) = subst (λ (s : State). Written true a b (opening_text s)) is (subst (λ (u : Bool). Written u a b (opening_text state)) went wrote0) in record {
  pieces = told.pieces;
  grows = told.grows;
  numbered = numbered;
  written = subst (λ (n : ℕ). Written whole a c (opening_text (line_state opening) ++ lines_text (told_lines n told.pieces))) (sym numbered) (wrote_then whole a b c (opening_text (line_state opening)) _ wrote told.written);
}

-- the tables alone
pub feeds_opening : (opening : Line) (state : State) (v : Bool) (a b : Option (List ℕ)) → v ≡ true → state ≡ line_state opening → (line_state opening).count ≡ number_of opening → Written v a b (opening_text state) → Feeds opening opening true a b
feeds_opening opening state v a b went is numbered wrote = feeds_whole opening opening state v true a b b went is numbered wrote (tells_none opening b)

pub feeds_part : (opening : Line) (state : State) (v : Bool) (a b : Option (List ℕ)) → v ≡ false → state ≡ line_state opening → (line_state opening).count ≡ number_of opening → Written v a b (opening_text state) → Feeds opening opening false a b
feeds_part opening state v a b cut is numbered wrote0 = let wrote : Written false a b (opening_text (line_state opening)) = subst (λ (s : State). Written false a b (opening_text s)) is (subst (λ (u : Bool). Written u a b (opening_text state)) cut wrote0) in record {
  pieces = [];
  grows = none_more opening;
  numbered = numbered;
  written = wrote_before a b (opening_text (line_state opening)) [] wrote;
}
