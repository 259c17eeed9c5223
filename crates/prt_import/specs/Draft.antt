-- What a line adds to a draft.
use Rattle.std.specs.Prelude.{◌≡◌, ◌||◌, List, map, Option}
use Rattle.prt_addr.specs.Word.{Word}
use Rattle.prt_import.specs.Script.{Parts, ◌and◌, is_route, is_rule, line_part}
use Rattle.prt_import.specs.TableNames.{KnownNames}
use Rattle.prt_import.specs.Told.{Numbered, remark_of}
use Rattle.prt_import.specs.declared.draft.Draft.{Draft}
use Rattle.prt_import.specs.declared.reason.Reason.{Reason}

-- the parts that it has
abbrev pub parts_in : Draft → Parts
parts_in draft = record {
  rules = draft.rules.items;
  direct = draft.direct.items;
  through = draft.through.items;
  left =
      map remark_of draft.left.items;
  notes = map remark_of draft.notes.items;
}

-- this was added, and what is known of the lines is the same
pub record Adds (old new : Draft) (parts : Parts) : Type 0 where
  pub added : parts_in new ≡ parts_in old and parts
  pub any : new.has_rules ≡ old.has_rules
  pub in_route : new.is_in_route ≡ old.is_in_route

-- a line with these words was taken, after which the next one goes on with a route so
pub record Takes (old new : Draft) (names : KnownNames) (line : Numbered) (ws : List Word) (more : Option Reason) : Type 0 where
  pub added : parts_in new ≡ parts_in old and line_part names old.is_in_route line ws more
  pub any : new.has_rules ≡ old.has_rules || is_rule ws
  pub in_route : new.is_in_route ≡ is_route ws
