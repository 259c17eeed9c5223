-- How following ends.
use Rattle.std.specs.Prelude.{Bool, true, false}
use Rattle.prt_ask.specs.declared.following.FollowEnd.{FollowEnd}
use Rattle.prt_ask.specs.declared.following.FollowEnd.TheVariants.{Unwritten}

-- all lines so far were written
abbrev pub is_whole : FollowEnd → Bool
is_whole Unwritten = false
is_whole end = true
