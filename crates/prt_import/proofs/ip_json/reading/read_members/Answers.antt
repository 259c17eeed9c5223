use Rattle.std.proofs.Common.{◌≡◌, ◌-◌, [], ◌∷◌, ◌++◌, not, if◌then◌else◌, Some, None, sym, ap, ◌∙◌, arith}
use Rattle.json.specs.Json.{parse_map, read_key, members, value}
use Rattle.json.specs.Value.{value_view}
use Rattle.json.proofs.Grammar.{read_key-shorter, members_end, members_no_key, members_fail, members_more}
use Rattle.json.proofs.Trees.{members_before, members_before-no_members, one_more_member}
use Rattle.prt_import.proofs.IpJson.Values.{invalid}
use Rattle.prt_import.proofs.ip_json.reading.read_members.Goals as goal

pub returns-in_err-name-clause-no_json : goal.returns-in_err-name-clause-no_json
returns-in_err-name-clause-no_json c why =
    let p = value 127 in
    let l = c.loop-read in
    l.invariant.2 ∙ ap (parse_map (members_before l.read.items)) (members_no_key p l.invariant.0 l.reader c.in_err-name.ensures.err.1)

pub returns-in-Err-clause-no_json : goal.returns-in-Err-clause-no_json
returns-in-Err-clause-no_json c why =
    let p = value 127 in
    let l = c.loop-read in
    let k = c.in-Some.name.now in
    let s = c.next_name.new.reader in
    let key : read_key l.reader ≡ Some (Some k, s) = grind arith in
    let done = c.in-Err.ensures in
    let failed : p s ≡ None = invalid _ _ c.not_listed.ensures why done.never_too_long done.never_duplicate done.invalid in
    l.invariant.2 ∙ ap (parse_map (members_before l.read.items)) (members_fail p l.invariant.0 k l.reader s key failed)

pub loop-read-preserved : goal.loop-read-preserved
loop-read-preserved c =
    let p = value 127 in
    let l = c.loop-read in
    let n = l.invariant.0 in
    let k = c.in-Some.name.now in
    let s = c.next_name.new.reader in
    let key : read_key l.reader ≡ Some (Some k, s) = grind arith in
    let done = c.in-Ok.ensures in
    let v = c.in-Ok.value in
    let r = c.read.new.reader in
    let less = read_key-shorter l.reader (Some k) s key in
    let lesser = done.shorter in
    let pushed : c.push.new.self.items ≡ l.read.items ++ (c.in-Some.name, v) ∷ [] = c.push.ensures.items ∙ ap (λ x. if x then l.read.items ++ (c.in-Some.name, v) ∷ [] else l.read.items) (c.is_err.ensures.negation ∙ ap not c.if-is_err.false) in
    let turn = members_more p n k l.reader s r (value_view v) (omega (arith, l.invariant.1)) key done.ok in (
      n - 1,
      omega (arith, l.invariant.1),
      l.invariant.2 ∙ ap (parse_map (members_before l.read.items)) turn ∙ one_more_member l.read.items (c.in-Some.name, v) _
          ∙ ap (λ ms. parse_map (members_before ms) (members p (n - 1) r)) (sym pushed),
      omega (arith, l.invariant.3),
    )

pub returns-clause-ok : goal.returns-clause-ok
returns-clause-ok c =
    let p = value 127 in
    let l = c.loop-read in
    let r = c.next_name.new.reader in
    l.invariant.2 ∙ ap (parse_map (members_before l.read.items)) (members_end p l.invariant.0 l.reader r l.invariant.1 (grind arith)) ∙ ap (λ ms. Some (ms, r)) (members_before-no_members l.read.items)
