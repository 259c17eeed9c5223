-- What a follower learns.
use Rattle.std.proofs.Common.{◌≡◌, ℕ, ◌+◌, ◌-◌, Bool, true, false, List, [], ◌∷◌, ◌++◌, ap, arith, length, length-append, refl, subst, sym, ◌∙◌}
use Rattle.std.specs.Prelude.{MatchBool}
use mathlib.Core.List.{IsPrefix}
use Rattle.prt_command.specs.declared.request.Command.{Command}
use Rattle.logbook.specs.Pages.{Book}
use Rattle.prt_published.proofs.Numbers.{number_is}
use Rattle.prt_published.proofs.Prefixes.{begins_trans, begins_whole, shorter_begins}
use Rattle.prt_published.specs.Line.{Begins, Line, grown, line_state}
use Rattle.prt_service.specs.Service.{EndsWith}
use Rattle.prt_version.specs.Accepted.{IsAccepted}
use Rattle.prt_version.specs.State.{State}

-- of two prefixes of one list the one that has one command more, and ends with this one, is the other and this command
one_more : (known told whole : Line) (command : Command) → Begins known whole → Begins told whole → EndsWith told.list command → length told.list ≡ length known.list + 1 → told ≡ grown known command
one_more known told whole command p q ends long =
    let before : List Command = ends.0 in
    let its : told.list ≡ before ++ command ∷ [] = ends.1 in
    let short : length before ≡ length known.list = omega (arith, long, ap length its, length-append before (command ∷ [])) in
    let shorter : Line = record told { list = before } in
    let begins : Begins shorter whole = begins_trans shorter told whole (refl, refl, (command ∷ [], sym its)) q in
    let within : IsPrefix before known.list = shorter_begins before known.list whole.list begins.2 p.2 (omega (arith, short)) in
    let same : before ≡ known.list = begins_whole before known.list within (omega (arith, short)) in
    let book : told.book ≡ known.book = sym q.0 ∙ p.0 in
    let base : told.base ≡ known.base = sym q.1 ∙ p.1 in
    let list : told.list ≡ known.list ++ command ∷ [] = its ∙ ap (λ (list : List Command). list ++ command ∷ []) same in
    λ i. record { book = book i; base = base i; list = list i }

-- Two lists are reported, each with a list that it is a prefix of; of these one is a prefix of the other. So both are
-- prefixes of the longer of these.
one_more_of : (b : Bool) (known told mine theirs : Line) (command : Command) → MatchBool b (Begins mine theirs) (Begins theirs mine) → Begins known mine → Begins told theirs → EndsWith told.list command → length told.list ≡ length known.list + 1 → told ≡ grown known command
one_more_of true known told mine theirs command before p q ends long = one_more known told theirs command (begins_trans known mine theirs p before) q ends long
one_more_of false known told mine theirs command before p q ends long = one_more known told mine command p (begins_trans told theirs mine q before) ends long

-- what is reported to a follower, with the number after its own, is what it knows with one command more
pub learned : (b : Bool) (known told mine theirs : Line) (command : Command) (count number : ℕ) → MatchBool b (Begins mine theirs) (Begins theirs mine) → Begins known mine → Begins told theirs → EndsWith told.list command → told.base ≡ known.base → count ≡ known.base.count + length known.list → number ≡ told.base.count + length told.list → number - 1 ≡ count → told ≡ grown known command
learned b known told mine theirs command count number before p q ends base counted numbered next =
    let long : length told.list ≡ length ends.0 + 1 = omega (arith, ap length ends.1, length-append ends.0 (command ∷ [])) in
    let bases : told.base.count ≡ known.base.count = ap (λ (state : State). state.count) base in
    one_more_of b known told mine theirs command before p q ends (omega (arith, long, bases, counted, numbered, next))

-- it is of the named front, and has the number of its last command
abbrev pub IsNumbered : Book → State → ℕ → Line → Type 0
IsNumbered book base number told = (told.book ≡ book) × (told.base ≡ base) × (number ≡ told.base.count + length told.list) × (number ≡ (line_state told).count)

-- so is a known list, with the number of its version
pub begins_numbered : (book : Book) (base : State) (number : ℕ) (told known : Line) → told ≡ known → (known.book ≡ book) × (known.base ≡ base) → IsAccepted known.base known.list → number ≡ (line_state known).count → IsNumbered book base number told
begins_numbered book base number told known is of accepted counted =
    subst (λ (line : Line). IsNumbered book base number line) (sym is) (of.0, of.1, counted ∙ number_is known accepted, counted)
