-- What the lines of rules say, item by item.
use Rattle.std.proofs.Common.{◌≡◌, ℕ, ◌^◌, ◌<◌, ◌≤◌, Bool, true, false, List, ◌∷◌, Option, Some, None, Ok, Err, IfSome, is_some, option_map, refl, ap, ◌∙◌, arith, nat_le}
use Rattle.std.specs.Prelude.{codes, decimal, if◌then◌else◌}
use Rattle.std.specs.Option.{ok_or}
use Rattle.std.proofs.lemmas.Bool.Decides.{nat_tests}
use Rattle.prt_addr.specs.Block.{Block}
use Rattle.prt_addr.specs.Number.{number}
use Rattle.prt_addr.specs.Prefix.{net}
use Rattle.prt_addr.specs.Sound.{IsPrefix}
use Rattle.prt_addr.specs.Word.{Word, keep}
use Rattle.prt_refusals.specs.declared.refusal.Refusal.TheVariants.{BadName, BadNumber, BadPrefix, BadTable, Repeated}
use Rattle.prt_route.specs.Names.{tables}
use Rattle.prt_rule.specs.Storable.{is_length}
use Rattle.prt_rule.specs.declared.rule.Action as rule
use Rattle.prt_rule.specs.declared.rule.Action.TheVariants as actions
use Rattle.prt_rule.specs.declared.rule.Mark.{Mark}
use Rattle.prt_command.specs.LineKinds.{rule_edit_line}
use Rattle.prt_command.specs.Scan.{items_of}
use Rattle.prt_command.specs.Steps.{and_items}
use Rattle.prt_command.specs.Then.{map_ok}
use Rattle.prt_command.specs.declared.item.Item.TheVariants as item
use Rattle.prt_command.specs.declared.item.Items.{Items}
use Rattle.prt_command.specs.declared.item.Slot.TheVariants.{From, To, Iif, Fwmark, Priority, Action, Suppress}
use Rattle.prt_listing.specs.Parts.{part, prefix_or, table_text}
use Rattle.prt_listing.specs.RuleText.{action_text, not_part}
use Rattle.prt_spelling.specs.Fits.{ActionFits, MarkFits}
use Rattle.prt_spelling.specs.Parts.{given_mark_part, given_mark_text, prefix_part}
use Rattle.prt_spelling.specs.Plain.{is_plain_name}
use Rattle.prt_spelling.specs.Spelled.{is_spelled_action}
use Rattle.prt_spelling.proofs.Digits.{number_back}
use Rattle.prt_spelling.proofs.Texts.{IsWord, ReadsOne, reads_alone, reads_keyword, reads_left_out}
use Rattle.prt_spelling.proofs.RouteItems.{from_one, name_read, table_back, word_of_block}
use Rattle.prt_spelling.proofs.Marks.{given_mark_back, given_mark_word}
use Rattle.prt_spelling.proofs.Words.{decimal_word, name_facts, named_word}

-- ---- what a line says of each part

abbrev pub with_priority : Items → Option ℕ → Items
with_priority given o = record given { priority = o }

abbrev pub with_inverted : Items → Bool → Items
with_inverted given b = record given { inverted = b }

abbrev pub with_from : Items → Option Block → Items
with_from given o = record given { from = o }

abbrev pub with_to : Items → Option Block → Items
with_to given o = record given { to = o }

abbrev pub with_mark : Items → Option Mark → Items
with_mark given o = record given { fwmark = o }

abbrev pub with_iif : Items → Option Word → Items
with_iif given o = record given { iif = o }

abbrev pub with_action : Items → Option rule.Action → Items
with_action given o = record given { action = o }

abbrev pub with_suppress : Items → Option ℕ → Items
with_suppress given o = record given { suppress = o }

pub priority_reads : (o : Option ℕ) (given : Items) → given.priority ≡ None → IfSome o (λ n. n < 2 ^ 32) → ReadsOne rule_edit_line 19 given (with_priority given o) (part (codes "priority") (option_map decimal o))
priority_reads None given new fits = reads_left_out rule_edit_line 19 given (with_priority given None) (ap (with_priority given) new)
priority_reads (Some n) given new fits =
    reads_keyword rule_edit_line 8 10 given Priority (codes "priority") (decimal n) (item.Priority n) refl (ap is_some new) (ap (λ o. map_ok item.Priority (ok_or o BadNumber)) (number_back n fits))
    (record { some = omega arith; plain = refl; short = omega arith }) (decimal_word 10 n (omega arith) (omega (arith, fits)) (omega (arith, fits)))

pub not_reads : (b : Bool) (given : Items) → given.inverted ≡ false → ReadsOne rule_edit_line 3 given (with_inverted given b) (not_part b)
not_reads false given new = reads_left_out rule_edit_line 3 given (with_inverted given false) (ap (with_inverted given) new)
not_reads true given new =
    reads_alone rule_edit_line 3 given (codes "not") item.Inverted (λ rest. ap (λ b. and_items rule_edit_line given (if b then Err Repeated else Ok (item.Inverted, 0)) rest) new)
    (record { some = omega arith; plain = refl; short = omega arith })

-- the word of a prefix, if `all` is shown for all addresses
all_word : (p : Block) → IsPrefix p → (net (prefix_or (codes "all") p) ≡ Some p) × IsWord 18 (prefix_or (codes "all") p)
all_word p is = word_of_block (codes "all") p refl (record { some = omega arith; plain = refl; short = omega arith }) is

pub from_reads : (o : Option Block) (given : Items) → given.from ≡ None → IfSome o IsPrefix → ReadsOne rule_edit_line 23 given (with_from given o) (prefix_part (codes "from") o)
from_reads None given new is = reads_left_out rule_edit_line 23 given (with_from given None) (ap (with_from given) new)
from_reads (Some p) given new is =
    reads_keyword rule_edit_line 4 18 given From (codes "from") (prefix_or (codes "all") p) (item.From p) refl (ap is_some new) (ap (λ o. map_ok item.From (ok_or o BadPrefix)) (all_word p is).0)
    (record { some = omega arith; plain = refl; short = omega arith }) (all_word p is).1

pub to_reads : (o : Option Block) (given : Items) → given.to ≡ None → IfSome o IsPrefix → ReadsOne rule_edit_line 21 given (with_to given o) (prefix_part (codes "to") o)
to_reads None given new is = reads_left_out rule_edit_line 21 given (with_to given None) (ap (with_to given) new)
to_reads (Some p) given new is =
    reads_keyword rule_edit_line 2 18 given To (codes "to") (prefix_or (codes "all") p) (item.To p) refl (ap is_some new) (ap (λ o. map_ok item.To (ok_or o BadPrefix)) (all_word p is).0)
    (record { some = omega arith; plain = refl; short = omega arith }) (all_word p is).1

pub mark_reads : (o : Option Mark) (given : Items) → given.fwmark ≡ None → IfSome o MarkFits → ReadsOne rule_edit_line 140 given (with_mark given o) (given_mark_part o)
mark_reads None given new fits = reads_left_out rule_edit_line 140 given (with_mark given None) (ap (with_mark given) new)
mark_reads (Some m) given new fits =
    reads_keyword rule_edit_line 6 133 given Fwmark (codes "fwmark") (given_mark_text m) (item.Fwmark m) refl (ap is_some new) (ap (map_ok item.Fwmark) (given_mark_back m fits.0 fits.1))
    (record { some = omega arith; plain = refl; short = omega arith }) (given_mark_word m fits.0 fits.1)

pub iif_reads : (o : Option Word) (given : Items) → given.iif ≡ None → is_plain_name o ≡ true → ReadsOne rule_edit_line 19 given (with_iif given o) (part (codes "iif") o)
iif_reads None given new plain = reads_left_out rule_edit_line 19 given (with_iif given None) (ap (with_iif given) new)
iif_reads (Some w) given new plain =
    reads_keyword rule_edit_line 3 15 given Iif (codes "iif") w (item.Iif w) refl (ap is_some new) (ap (λ o. map_ok item.Iif (ok_or o BadName)) (name_read w plain))
    (record { some = omega arith; plain = refl; short = omega arith }) (name_facts w plain).1

-- a failure action
says_goes : (given : Items) (w : Word) (action : rule.Action) → given.action ≡ None → ((rest : List Word) → items_of rule_edit_line given (w ∷ rest) ≡ and_items rule_edit_line given (if is_some given.action then Err Repeated else Ok (item.Action action, 0)) rest) → (rest : List Word) → items_of rule_edit_line given (w ∷ rest) ≡ items_of rule_edit_line (with_action given (Some action)) rest
says_goes given w action new begins rest = begins rest ∙ ap (λ b. and_items rule_edit_line given (if b then Err Repeated else Ok (item.Action action, 0)) rest) (ap is_some new)

alone_reads : (action : rule.Action) (w : Word) (given : Items) → given.action ≡ None → ((given : Items) (rest : List Word) → items_of rule_edit_line given (w ∷ rest) ≡ and_items rule_edit_line given (if is_some given.action then Err Repeated else Ok (item.Action action, 0)) rest) → IsWord 17 w → ReadsOne rule_edit_line 17 given (with_action given (Some action)) (Some w)
alone_reads action w given new begins word = reads_alone rule_edit_line 17 given w (item.Action action) (says_goes given w action new (begins given)) word

pub action_reads : (o : Option rule.Action) (given : Items) → given.action ≡ None → is_spelled_action o ≡ true → IfSome o ActionFits → ReadsOne rule_edit_line 17 given (with_action given o) (option_map action_text o)
action_reads None given new some fits = reads_left_out rule_edit_line 17 given (with_action given None) (ap (with_action given) new)
action_reads (Some (actions.Lookup table)) given new some fits =
    reads_keyword rule_edit_line 6 10 given Action (codes "lookup") (table_text table) (item.Action (actions.Lookup table)) refl (ap is_some new) (ap (λ o. map_ok item.Action (map_ok actions.Lookup (ok_or o BadTable))) (table_back table (from_one table some) fits))
    (record { some = omega arith; plain = refl; short = omega arith }) (named_word tables table refl fits)
action_reads (Some actions.Blackhole) given new some fits = alone_reads actions.Blackhole (codes "blackhole") given new (λ given rest. refl) (record { some = omega arith; plain = refl; short = omega arith })
action_reads (Some actions.Unreachable) given new some fits = alone_reads actions.Unreachable (codes "unreachable") given new (λ given rest. refl) (record { some = omega arith; plain = refl; short = omega arith })
action_reads (Some actions.Prohibit) given new some fits = alone_reads actions.Prohibit (codes "prohibit") given new (λ given rest. refl) (record { some = omega arith; plain = refl; short = omega arith })

pub suppress_reads : (o : Option ℕ) (given : Items) → given.suppress ≡ None → is_length o ≡ true → ReadsOne rule_edit_line 24 given (with_suppress given o) (part (codes "suppress_prefixlength") (option_map decimal o))
suppress_reads None given new test = reads_left_out rule_edit_line 24 given (with_suppress given None) (ap (with_suppress given) new)
suppress_reads (Some len) given new test =
    let short : len ≤ 32 = grind (arith, nat_tests, test) in
    let read : keep (λ n. nat_le n 32) (number (decimal len)) ≡ Some len = ap (keep (λ n. nat_le n 32)) (number_back len (omega arith)) ∙ ap (λ b. if b then Some len else None) test in
    reads_keyword rule_edit_line 21 2 given Suppress (codes "suppress_prefixlength") (decimal len) (item.Suppress len) refl (ap is_some new) (ap (λ o. map_ok item.Suppress (ok_or o BadNumber)) read)
    (record { some = omega arith; plain = refl; short = omega arith }) (decimal_word 2 len (omega arith) (omega arith) (omega arith))
