-- How far the reading of a text has come between two states of its cursor.
use Rattle.std.specs.Prelude.{◌≡◌, ◌+◌, ◌<◌, ◌≤◌, Bool, true, false, length}
use Rattle.syntax_exprs.specs.declared.cursor.Cursor.{Cursor}

-- some terminals were taken, on the level where the next one stands
pub record Reads (old new : Cursor) : Type 0 where
  pub end : new.end ≡ old.end
  pub shorter : length new.rest.now < length old.rest.now
  pub level : new.level ≡ old.level
  pub within : new.level ≤ 32

-- perhaps none was taken
pub record Keeps (old new : Cursor) : Type 0 where
  pub end : new.end ≡ old.end
  pub shorter : length new.rest.now ≤ length old.rest.now
  pub level : new.level ≡ old.level

-- a terminal was taken exactly where it was found
abbrev pub ReadsIf : Bool → Cursor → Cursor → Type 0
ReadsIf true old new = Reads old new
ReadsIf false old new = new ≡ old

-- a bracket was taken, and what follows is a level deeper
pub record Opens (old new : Cursor) : Type 0 where
  pub end : new.end ≡ old.end
  pub shorter : length new.rest.now < length old.rest.now
  pub level : new.level ≡ old.level + 1

-- the bracket that closes the level was taken
pub record Closes (old new : Cursor) : Type 0 where
  pub end : new.end ≡ old.end
  pub shorter : length new.rest.now < length old.rest.now
  pub level : old.level ≡ new.level + 1
  pub within : new.level ≤ 31
