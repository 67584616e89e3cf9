use Rattle.std.proofs.Common.{◌≡◌, ◌≤◌, ◌+◌, ◌*◌, ℕ, List, length, suc}
use Rattle.tool_trace.specs.Listing.{Lists}
use Rattle.tool_trace.specs.Reading.{AreLimits, Leads, listing}
use Rattle.tool_trace.proofs.reading.read_schedule.Given as goal

abbrev pub invariant-loop-text : goal.invariant-loop-text
invariant-loop-text l = record {
  before : ℕ;
  schedule : List ℕ;
  number : l.line ≡ suc before;
  limits : AreLimits l.head.settings.limits;
  few : l.head.events ≤ 2 * l.head.settings.limits.steps + 2;
  leads : Leads l.bytes before (listing l.head.settings.arg l.head.settings.limits l.head.events schedule) l.rest;
  lists : Lists l.listed schedule;
  events : l.listed.events ≡ l.head.events;
  bound : l.line + length l.rest ≤ 4 + length l.bytes;
}

abbrev pub decreases-loop-text : goal.decreases-loop-text
decreases-loop-text l = length l.rest
