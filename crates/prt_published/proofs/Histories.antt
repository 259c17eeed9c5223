-- Histories, and the lists that they encode.
use Rattle.std.proofs.Common.{◌≡◌, ℕ, ◌≤◌, List, [], ◌∷◌, ◌++◌, length, map, refl, ap, subst, ◌∙◌, arith}
use mathlib.Core.List.{IsPrefix}
use Rattle.logbook.specs.Pages.{Book}
use Rattle.prt_command.specs.declared.request.Command.{Command}
use Rattle.prt_version.specs.Accepted.{IsAccepted}
use Rattle.prt_version.specs.State.{State}
use Rattle.prt_published.specs.History.{asked_commands, base_of, commands_of, entries, line_of}
use Rattle.prt_published.specs.Line.{Line}
use Rattle.prt_published.specs.declared.history.Entry.{Entry}
use Rattle.prt_published.specs.declared.history.Entry.TheVariants.{Accepted, Loaded}
use Rattle.prt_published.proofs.Prefixes.{shorter_begins}

-- ---- a list is read back from its entries

pub commands_back : (list : List Command) → commands_of (map Accepted list) ≡ list
commands_back [] = refl
commands_back (command ∷ list) = ap (λ rest. command ∷ rest) (commands_back list)

pub entries_grown : (list more : List Command) → map Accepted list ++ map Accepted more ≡ map Accepted (list ++ more)
entries_grown [] more = refl
entries_grown (first ∷ list) more = ap (λ rest. Accepted first ∷ rest) (entries_grown list more)

pub entries_length : (list : List Command) → length (map Accepted list) ≡ length list
entries_length [] = refl
entries_length (command ∷ list) = let rest = entries_length list in omega (arith, rest)

abbrev pub Spells : List Entry → ℕ → Type 0
Spells log count = (log ≡ entries (base_of log) (commands_of log)) × (count ≡ length (commands_of log)) × IsAccepted (base_of log) (commands_of log)

-- a log of these entries encodes its list
pub spells : (base : State) (list : List Command) (count : ℕ) → count ≡ length list → IsAccepted base list → (log : List Entry) → log ≡ entries base list → Spells log count
spells base list count long accepted log is = rw is (rw (commands_back list) (refl, long, accepted))

pub line_spelled : (book : Book) (base : State) (list : List Command) (log : List Entry) → log ≡ entries base list → line_of book log ≡ record { book = book; base = base; list = list }
line_spelled book base list log is = rw is (ap (λ (back : List Command). (let line : Line = record { book = book; base = base; list = back } in line)) (commands_back list))

-- ---- prefixes

-- what is a prefix of a history's entries is a prefix of its commands
pub commands_begin : (xs ys : List Command) → IsPrefix (map Accepted xs) (map Accepted ys) → IsPrefix xs ys
commands_begin [] ys p = (ys, refl)
commands_begin (x ∷ xs) [] p = absurd (cc (p.1))
commands_begin (x ∷ xs) (y ∷ ys) p =
    let heads : x ≡ y = cc (p.1) in
    let rest = commands_begin xs ys (p.0, cc (p.1)) in
    (rest.0, cc (heads, rest.1))

-- of two prefixes of one history the shorter is a prefix of the longer
pub shorter_spelled : (xs ys : List Command) (base other : State) (first second both : List Entry) → first ≡ entries base xs → second ≡ entries other ys → IsPrefix first both → IsPrefix second both → length xs ≤ length ys → (other ≡ base) × IsPrefix xs ys
shorter_spelled xs ys base other first second both one two p q shorter =
    let one' : IsPrefix (entries base xs) both = subst (λ (log : List Entry). IsPrefix log both) one p in
    let two' : IsPrefix (entries other ys) both = subst (λ (log : List Entry). IsPrefix log both) two q in
    let begins : IsPrefix (entries base xs) (entries other ys) = shorter_begins (entries base xs) (entries other ys) both one' two' (omega (arith, shorter, entries_length xs, entries_length ys)) in
    let same : other ≡ base = cc (begins.1) in
    (same, commands_begin xs ys (begins.0, cc (begins.1)))

-- ---- commands more

-- the log that the step leaves has the commands more that it asked for
pub added : (base : State) (list : List Command) (log again before : List Entry) (ask made : Entry) → log ≡ again ++ map Accepted (asked_commands ask) → again ≡ before → ask ≡ made → before ≡ entries base list → log ≡ entries base (list ++ asked_commands made)
added base list log again before ask made grows same asks is =
    grows
    ∙ (ap (λ (earlier : List Entry). earlier ++ map Accepted (asked_commands ask)) (same ∙ is)
    ∙ (ap (λ (entry : Entry). entries base list ++ map Accepted (asked_commands entry)) asks
    ∙ ap (λ (rest : List Entry). Loaded base ∷ rest) (entries_grown list (asked_commands made))))
