-- How a few blocks of marks are kept in a fixed number of places, of which there are 16 (`MOST_BLOCKS`).
use Rattle.std.specs.Prelude.{◌≡◌, ℕ, ◌-◌, ◌≤◌, List, ◌++◌, length, take, replicate}
use Rattle.prt_rule.specs.declared.rule.Mark.{Mark}

-- what fills the places behind the last block
abbrev pub no_mark : Mark
no_mark = record { mark = 0; mask = 0 }

-- the first len places have the blocks, and the others none
pub record IsPadded (len : ℕ) (blocks : List Mark) : Type 0 where
  pub whole : length (take len blocks) ≡ len
  pub zeros : take len blocks ++ replicate (16 - length (take len blocks)) no_mark ≡ blocks
  pub few : len ≤ 16
