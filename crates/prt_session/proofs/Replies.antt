-- Replies one after the other: their text, and what a summary says of them.
use Rattle.std.proofs.Common.{◌≡◌, ℕ, ◌+◌, Bool, List, [], ◌∷◌, ◌++◌, Option, length, refl, sym, ◌∙◌, ap, append_assoc, arith}
use Rattle.std.proofs.lemmas.Grind.{flat_map-append}
use Rattle.std.proofs.lemmas.List.{map-append}
use Rattle.std.proofs.lemmas.List.Sums.{fold-append}
use Rattle.std.specs.Io.KnownBytes.{Appends}
use Rattle.prt_refusals.specs.declared.refusal.Refusal.{Refusal}
use Rattle.prt_replies.proofs.Known.{append_none, appends_nothing}
use Rattle.prt_session.specs.Form.{numbered_from, numbered_text, replies_in, reply_in}
use Rattle.prt_replies.specs.Reply.{reply_text, replies_text}
use Rattle.prt_replies.specs.ScriptEnd.{refused_after, fault_after}
use Rattle.prt_session.specs.Run.{refused_in, fault_in}
use Rattle.prt_session.specs.Session.{Exchange, Session, replies, replies_of}
use Rattle.prt_session.specs.declared.form.Form.{Form}
use Rattle.prt_session.specs.declared.form.Form.TheVariants.{Plain, Numbered}
use Rattle.prt_replies.specs.declared.reply.Reply.{Reply}

abbrev pub after_exchanges : {D M : Type 0} → List (Exchange M) → Session D M → Session D M
after_exchanges {D} {M} xs session = record { exchanges = xs ++ session.exchanges; last = session.last; desk = session.desk; unread = session.unread }

pub replies_after : {D M : Type 0} (xs : List (Exchange M)) (session : Session D M) → replies (after_exchanges xs session) ≡ replies_of xs ++ replies session
replies_after {D} {M} xs session = ap (λ rs. rs ++ session.last) (map-append (λ (x : Exchange M). x.reply) xs session.exchanges) ∙ append_assoc (replies_of xs) (replies_of session.exchanges) session.last

pub text_append : (a b : List Reply) → replies_text (a ++ b) ≡ replies_text a ++ replies_text b
unfolding replies_text
text_append a b = flat_map-append reply_text a b

pub refused_append : (a b : List Reply) (had : Bool) → refused_in had (a ++ b) ≡ refused_in (refused_in had a) b
unfolding refused_in
refused_append a b had = fold-append refused_after had a b

pub fault_append : (a b : List Reply) (last : Option Refusal) → fault_in last (a ++ b) ≡ fault_in (fault_in last a) b
unfolding fault_in
fault_append a b last = fold-append fault_after last a b

pub cons_not_nil : (reply : Reply) (told : List Reply) → reply ∷ told ≡ [] → ⊥
cons_not_nil reply told e = absurd (cc)

pub one_text : (reply : Reply) → replies_text (reply ∷ []) ≡ reply_text reply
unfolding replies_text
one_text reply = append_none (reply_text reply)

pub one_refused : (had : Bool) (reply : Reply) → refused_in had (reply ∷ []) ≡ refused_after had reply
unfolding refused_in
one_refused had reply = refl

pub one_fault : (last : Option Refusal) (reply : Reply) → fault_in last (reply ∷ []) ≡ fault_after last reply
unfolding fault_in
one_fault last reply = refl

numbered_more : (line : ℕ) (told : List Reply) (reply : Reply) → numbered_from line (told ++ reply ∷ []) ≡ numbered_from line told ++ numbered_text (line + length told) reply
unfolding numbered_from
numbered_more line [] reply = let here : line + 0 ≡ line = omega arith in rw here (append_none (numbered_text line reply))
numbered_more line (first ∷ told) reply =
    let there : line + 1 + length told ≡ line + length (first ∷ told) = omega arith in
    ap (λ text. numbered_text line first ++ text) (numbered_more (line + 1) told reply ∙ ap (λ n. numbered_from (line + 1) told ++ numbered_text n reply) there)
    ∙ sym (append_assoc (numbered_text line first) (numbered_from (line + 1) told) (numbered_text (line + length (first ∷ told)) reply))

-- the text of one more reply is at the end
pub one_more_in : (form : Form) (told : List Reply) (reply : Reply) → replies_in form (told ++ reply ∷ []) ≡ replies_in form told ++ reply_in form (length told + 1) reply
one_more_in Plain told reply = text_append told (reply ∷ []) ∙ ap (λ text. replies_text told ++ text) (one_text reply)
one_more_in Numbered told reply =
    let next : 1 + length told ≡ length told + 1 = omega arith in
    numbered_more 1 told reply ∙ ap (λ n. numbered_from 1 told ++ numbered_text n reply) next

pub no_text : (form : Form) (writer : Option (List ℕ)) → Appends writer writer (replies_in form [])
unfolding replies_text numbered_from
no_text Plain writer = appends_nothing writer
no_text Numbered writer = appends_nothing writer

pub no_refused : (had : Bool) → had ≡ refused_in had []
unfolding refused_in
no_refused had = refl

pub no_fault : (last : Option Refusal) → last ≡ fault_in last []
unfolding fault_in
no_fault last = refl
