-- The refusals of lines are the first eighteen.
use Rattle.std.proofs.Common.{◌≡◌, ◌≤◌, ℕ, List, Bool, true, false, Option, Some, None, Result, Ok, Err, take, drop, ◌+◌, refl, sym, subst, arith}
use Rattle.std.specs.Prelude.{◌==◌, bytes_eq, codes, if◌then◌else◌, position}
use Rattle.std.specs.Option.{ok_or}
use Rattle.prt_addr.specs.Addr.{address}
use Rattle.prt_addr.specs.Block.{Block, host_bits}
use Rattle.prt_addr.specs.Number.{number}
use Rattle.prt_addr.specs.Prefix.{block, net, without_host_bits}
use Rattle.prt_refusals.specs.Refusal.{code_of}
use Rattle.prt_addr.specs.Word.{Word}
use Rattle.prt_refusals.specs.declared.refusal.Refusal.{Refusal}
use Rattle.prt_refusals.specs.declared.refusal.Refusal.TheVariants.{UnknownWord, BadAddress, BadPrefix, HostBits, BadNumber, BadTable, BadName}
use Rattle.prt_route.specs.Dev.{device}
use Rattle.prt_route.specs.Names.{protocol, scope, table}
use Rattle.prt_command.proofs.Results.{ok_result, err_result, err_inj}
use Rattle.prt_command.specs.Grammar.{ItemPlace, IsFault, unknown_word, second_bare, nothing_after, given_before, alone_before, bad_value, further}
use Rattle.prt_command.specs.LineKinds.{LineKind}
use Rattle.prt_command.specs.Mark.{is_slash, mark_at, part}
use Rattle.prt_command.specs.Then.{◌>>=◌, map_ok}
use Rattle.prt_command.specs.Values.{kind_of, length_number, value}
use Rattle.prt_command.specs.declared.item.Item.TheVariants as item
use Rattle.prt_command.specs.declared.item.Items.{Items}
use Rattle.prt_command.specs.declared.item.PrefixWord.{PrefixWord}
use Rattle.prt_command.specs.declared.item.Slot.{Slot}
use Rattle.prt_command.specs.declared.item.WhichTables.TheVariants.{One, All}
use Rattle.prt_command.specs.declared.item.Slot.TheVariants.{Destination, Via, Dev, Table, Proto, Scope, Src, Metric, Range, Tables, OfKind, Address, Source, Iif, Mark, Inverted, From, To, Fwmark, Priority, Action, Suppress}

-- The refusal, if there is one, is that of a line.
pub record Fine {X : Type 0} (r : Result X Refusal) : Type 0 where
  pub number : (e : Refusal) → r ≡ Err e → code_of e ≤ 18

pub fine_ok : {X : Type 0} (x : X) → Fine (ok_result x)
fine_ok x = record { number = λ e h. absurd cc }

pub fine_err : {X : Type 0} (e : Refusal) → code_of e ≤ 18 → Fine {X = X} (err_result e)
fine_err e l = record { number = λ d h. subst (λ (c : Refusal). code_of c ≤ 18) (err_inj e d h) l }

pub map_fine : {X Y : Type 0} (f : X → Y) (r : Result X Refusal) → Fine r → Fine (map_ok f r)
map_fine f (Ok x) fine = fine_ok (f x)
map_fine f (Err e) fine = fine_err e (fine.number e refl)

pub then_fine : {X Y : Type 0} (r : Result X Refusal) (f : X → Result Y Refusal) → Fine r → ((x : X) → Fine (f x)) → Fine (r >>= f)
then_fine (Ok x) f fine more = more x
then_fine (Err e) f fine more = fine_err e (fine.number e refl)

pub ok_or_fine : {X : Type 0} (o : Option X) (e : Refusal) → code_of e ≤ 18 → Fine (ok_or o e)
ok_or_fine None e l = fine_err e l
ok_or_fine (Some x) e l = fine_ok x

cleared_fine : (b : Block) (is_net : Bool) → host_bits b == 0 ≡ is_net → Fine (without_host_bits (Some b))
cleared_fine b true h = subst (λ (t : Bool). Fine (if t then ok_result b else Err HostBits)) (sym h) (fine_ok b)
cleared_fine b false h = subst (λ (t : Bool). Fine (if t then ok_result b else Err HostBits)) (sym h) (fine_err HostBits (omega arith))

prefix_fine : (o : Option Block) → Fine (without_host_bits o)
prefix_fine None = fine_err BadPrefix (omega arith)
prefix_fine (Some b) = cleared_fine b (host_bits b == 0) refl

tables_by : (all : Bool) (o : Option ℕ) → Fine (if all then Ok All else map_ok One (ok_or o BadTable))
tables_by true o = fine_ok All
tables_by false o = map_fine One _ (ok_or_fine o BadTable (omega arith))

mark_fine : (place : Option ℕ) (w : Word) → Fine (mark_at place w)
mark_fine None w = then_fine (part w) _ (ok_or_fine (number w) BadNumber (omega arith)) (λ mark. fine_ok _)
mark_fine (Some place) w = then_fine (part (take place w)) _ (ok_or_fine _ BadNumber (omega arith)) (λ mark. then_fine (part (drop (place + 1) w)) _ (ok_or_fine _ BadNumber (omega arith)) (λ mask. fine_ok _))

pub value_fine : (slot : Slot) (b : Option PrefixWord) (w : Word) → Fine (value slot b w)
value_fine Destination b w = map_fine _ _ (map_fine _ _ (prefix_fine (block w)))
value_fine Via b w = map_fine _ _ (ok_or_fine (address w) BadAddress (omega arith))
value_fine Dev b w = map_fine _ _ (ok_or_fine (device w) BadName (omega arith))
value_fine Table b w = map_fine _ _ (ok_or_fine (table w) BadTable (omega arith))
value_fine Proto b w = map_fine _ _ (ok_or_fine (protocol w) BadNumber (omega arith))
value_fine Scope b w = map_fine _ _ (ok_or_fine (scope w) BadNumber (omega arith))
value_fine Src b w = map_fine _ _ (ok_or_fine (address w) BadAddress (omega arith))
value_fine Metric b w = map_fine _ _ (ok_or_fine (number w) BadNumber (omega arith))
value_fine Range b w = map_fine _ _ (map_fine _ _ (ok_or_fine (net w) BadPrefix (omega arith)))
value_fine Tables b w = map_fine _ _ (tables_by (bytes_eq (codes "all") w) (table w))
value_fine OfKind b w = map_fine _ _ (ok_or_fine (kind_of w) UnknownWord (omega arith))
value_fine Address b w = map_fine _ _ (ok_or_fine (address w) BadAddress (omega arith))
value_fine Source b w = map_fine _ _ (ok_or_fine (address w) BadAddress (omega arith))
value_fine Iif b w = map_fine _ _ (ok_or_fine (device w) BadName (omega arith))
value_fine Mark b w = map_fine _ _ (ok_or_fine (number w) BadNumber (omega arith))
value_fine Inverted b w = fine_ok item.Inverted
value_fine From b w = map_fine _ _ (ok_or_fine (net w) BadPrefix (omega arith))
value_fine To b w = map_fine _ _ (ok_or_fine (net w) BadPrefix (omega arith))
value_fine Fwmark b w = map_fine _ _ (mark_fine (position is_slash w) w)
value_fine Priority b w = map_fine _ _ (ok_or_fine (number w) BadNumber (omega arith))
value_fine Action b w = map_fine _ _ (map_fine _ _ (ok_or_fine (table w) BadTable (omega arith)))
value_fine Suppress b w = map_fine _ _ (ok_or_fine (length_number w) BadNumber (omega arith))

pub fault_fine : (line : LineKind) (given : Items) (place : ItemPlace) (w : Word) (ws : List Word) (e : Refusal) → IsFault line given place w ws e → code_of e ≤ 18
fault_fine line given place w ws e (unknown_word w2 ws2 is none) = omega arith
fault_fine line given place w ws e (second_bare w2 ws2 slot is g) = omega arith
fault_fine line given place w ws e (nothing_after p next w2 slot f) = omega arith
fault_fine line given place w ws e (given_before p next w2 v vs slot f g) = omega arith
fault_fine line given place w ws e (alone_before w2 ws2 x is g) = omega arith
fault_fine line given place w ws e (bad_value p w2 ws2 slot b f is g v) = (value_fine slot b w).number e v
fault_fine line given place w ws e (further p next w2 v vs slot f is g more) = fault_fine line given next v vs e more
