-- What was read of a text.
use Rattle.std.specs.Prelude.{◌≡◌, Bool, false, List, map, ℕ}
use Rattle.prt_import.specs.Lines.{lines_of}
use Rattle.prt_import.specs.Script.{Parts, has_rules, parts_of, script_of}
use Rattle.prt_import.specs.TableNames.{KnownNames}
use Rattle.prt_import.specs.Told.{remark_of}
use Rattle.prt_import.specs.declared.imported.Imported.{Imported}

-- Its script has these parts, and this is reported of it.
pub record IsImported (imported : Imported) (any : Bool) (parts : Parts) : Type 0 where
  pub script : imported.script.items ≡ script_of any parts
  pub left : map remark_of imported.left.items ≡ parts.left
  pub notes : map remark_of imported.notes.items ≡ parts.notes

-- what is made of a text: of its lines, counted from 1
abbrev pub IsImportOf : Imported → KnownNames → List ℕ → Type 0
IsImportOf imported names text = IsImported imported (has_rules (lines_of text)) (parts_of names false 1 (lines_of text))
