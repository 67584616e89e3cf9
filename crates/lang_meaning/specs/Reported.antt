-- How a run comes out, as the tool reports it: `main` gives an int.
use Rattle.std.specs.Prelude.{pos, []}
use Rattle.lang_base.specs.declared.outcome.Ending.{Ending as ReportedEnding}
use Rattle.lang_base.specs.declared.outcome.Ending.TheVariants as reported_as
use Rattle.lang_base.specs.declared.outcome.Outcome.{Outcome as ReportedOutcome}
use Rattle.lang_meaning.specs.Actions.{Ending, Returned, Assigned, Trapped}
use Rattle.lang_meaning.specs.Counts.{number}
use Rattle.lang_meaning.specs.Outcomes.{Outcome, Came, Limited}

abbrev pub reported_ending : {N : Type 0} → Ending N → ReportedEnding
reported_ending (Returned v) = reported_as.Done (number v)
reported_ending (Assigned locals) = reported_as.Done (pos 0)
reported_ending (Trapped trap place) = reported_as.Trapped trap place

abbrev pub reported : {N : Type 0} → Outcome N → ReportedOutcome
reported (Came x output steps cells) = record { ending = reported_ending x; out = output; steps = steps; cells = cells }
reported (Limited steps cells) = record { ending = reported_as.Limited; out = []; steps = steps; cells = cells }
